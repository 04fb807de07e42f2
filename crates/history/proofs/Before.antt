-- Before and compare tell exactly what leads to what.
-- Assumes nothing.
use mathlib.Core.Path.{◌≡◌, refl, ap, sym, ◌∙◌, subst}
use mathlib.Core.Bool.{Bool, true, false, not, ◌&&◌, ◌||◌}
use mathlib.Core.Option.{Option, some}
use mathlib.Core.Logic.{inl, inr, ◌↔◌}
use Prim.Native.Nat.{ℕ, ◌+◌, ◌-◌, ◌≤◌, ◌<◌}
use native.Mathlib.Omega.{arith}
use native.Mathlib.Decide.{ℕ_discrete}
use lib.Dec.{ltb, eqb}
use borrow.Author.Tests.{eqb-true, eq-eqb, ne_eqb, ltb-true, ltb-false, lt-ltb}
use Rattle.ring.specs.Phases.{line, Gap}
use Rattle.rules.proofs.Setups.{Permitted}
use Rattle.rules.proofs.Reach.{near_in, in_near}
use Rattle.rules.specs.Setups.{Setup}
use Rattle.tools.specs.Tests.{pick}
use Rattle.rules.specs.declared.Relation.TheVariants.{Before, After, Same, Concurrent, Crossed}
use Rattle.rules.specs.Model.{Held, Tables, before, compare, says, relates, step, done, reach_back, near, is_out, gap_in}
use Rattle.rules.specs.Model.{gap, same_by, is_before}
use Rattle.rules.specs.Model.{relation, settle, telling, ask_reasons, reasons, ask_tells}
use Rattle.history.specs.History.{Log, History, Leads}
use Rattle.history.specs.Demand.{InReach, BeforeIs, CompareIs, Stands}
use Rattle.tools.proofs.Tests.{and_true_l, and_true_r}
use Rattle.history.proofs.Keys.{key, Differ, gap_key, same_key}
use Rattle.rules.specs.Model.{phases}
use Rattle.history.specs.Lags.{Past}
use Rattle.history.specs.Vector.{Upto}
use Rattle.history.proofs.Causal.{seen, Causal, leads_lt}
use Rattle.history.proofs.Good.{Behind, Good}

-- the gap is that of the true phases of x's desk at x and at y
abbrev pub True : Log → Gap → ℕ → ℕ → Type 0
True h d x y = Differ d (h.row x (h.desk x)).phase (h.row y (h.desk x)).phase

abbrev pub asked : Log → Gap → ℕ → ℕ → Bool
asked h d x y = is_before d (h.desk x) (h.desk y) (h.row x) (h.row y)

module _ (X : Setup) (h : Log) (c : Causal X h) (x y : ℕ) (lx : x < h.count) (ly : y < h.count) where
  -- one desk: yes when strictly later
  one_desk : h.desk x ≡ h.desk y → ((ltb (seen h x x) (seen h x y) || false) ≡ true) ↔ Leads h x y
  one_desk q = (λ t. to (c.complete x y lx ly (let z = lt t in omega arith)) (lt t), λ l. from l (ltb (seen h x x) (seen h x y)) refl)
    where
      lt : (ltb (seen h x x) (seen h x y) || false) ≡ true → seen h x x < seen h x y
      lt t = ltb-true _ _ (rw mathlib.Core.Bool.or-false at t)

      to : Upto h x y → seen h x x < seen h x y → Leads h x y
      to (inr l) k = l
      to (inl z) k = absurd (let v : seen h x x ≡ seen h x y = ap (λ n. key (h.row n (h.desk x))) z in omega arith)

      back : Leads h x y → Upto h y x → ⊥
      back l (inl z) = let v = leads_lt h c.caused l in omega arith
      back l (inr m) = let v = leads_lt h c.caused l in let w = leads_lt h c.caused m in omega arith

      from : Leads h x y → (t : Bool) → ltb (seen h x x) (seen h x y) ≡ t → (t || false) ≡ true
      from l true e = refl
      from l false e =
          absurd (back l (c.complete y x ly lx
          (subst (λ d. key (h.row y d) ≤ key (h.row x d)) q (ltb-false (seen h x x) (seen h x y) e))))

  two_desks : (h.desk x ≡ h.desk y → ⊥)
      → ((ltb (seen h x x) (seen h x y) || eqb (seen h x x) (seen h x y)) ≡ true) ↔ Leads h x y
  two_desks ne = (
    λ t. to (c.complete x y lx ly (le (ltb (seen h x x) (seen h x y)) refl t)),
    λ l. from (c.sound x y lx ly (inr l)) (ltb (seen h x x) (seen h x y)) refl,
  )
    where
      le : (u : Bool) → ltb (seen h x x) (seen h x y) ≡ u → (u || eqb (seen h x x) (seen h x y)) ≡ true
          → seen h x x ≤ seen h x y
      le true e t = let z = ltb-true (seen h x x) (seen h x y) e in omega arith
      le false e t = let z = eqb-true (seen h x x) (seen h x y) t in omega arith

      to : Upto h x y → Leads h x y
      to (inr l) = l
      to (inl z) = absurd (ne (ap h.desk z))

      from : seen h x x ≤ seen h x y → (u : Bool) → ltb (seen h x x) (seen h x y) ≡ u
          → (u || eqb (seen h x x) (seen h x y)) ≡ true
      from k true e = refl
      from k false e = let z = ltb-false (seen h x x) (seen h x y) e in eq-eqb (seen h x x) (seen h x y) (omega arith)

  -- THE HEART: with the true gap, before says yes exactly when a chain leads from x to y
  pub tells : (d : Gap) → True h d x y → (asked h d x y ≡ true) ↔ Leads h x y
  tells d t =
      rw (
        gap_key d (h.row x (h.desk x)) (h.row y (h.desk x)) t (c.clocks x lx (h.desk x)).0 (c.clocks y ly (h.desk x)).0,
        same_key d (h.row x (h.desk x)) (h.row y (h.desk x)) t (c.clocks x lx (h.desk x)).0 (c.clocks y ly (h.desk x)).0,
      )
      (go (ℕ_discrete (h.desk x) (h.desk y)))
    where
      go : Dec (h.desk x ≡ h.desk y)
          → ((ltb (seen h x x) (seen h x y) || (not (eqb (h.desk x) (h.desk y)) && eqb (seen h x x) (seen h x y))) ≡ true)
          ↔ Leads h x y
      go (yes q) = rw (eq-eqb (h.desk x) (h.desk y) q) (one_desk q)
      go (no q) = rw (ne_eqb (h.desk x) (h.desk y) q) (two_desks q)

  pub same_is : (d : Gap) → True h d x y
      → ((eqb (h.desk x) (h.desk y) && same_by d (h.row x (h.desk x)).clock (h.row y (h.desk x)).clock) ≡ true) ↔ (x ≡ y)
  same_is d t =
      rw (same_key d (h.row x (h.desk x)) (h.row y (h.desk x)) t (c.clocks x lx (h.desk x)).0 (c.clocks y ly (h.desk x)).0) (
        (λ e. to (eqb-true _ _ (and_true_l _ _ e))
            (eqb-true _ _ (and_true_r (eqb (h.desk x) (h.desk y)) (eqb (seen h x x) (seen h x y)) e))),
        (λ q. rw (eq-eqb (h.desk x) (h.desk y) (ap h.desk q))
            (eq-eqb (seen h x x) (seen h x y) (ap (λ n. key (h.row n (h.desk x))) q))),
      )
    where
      both : Upto h x y → Upto h y x → x ≡ y
      both (inl q) u = q
      both (inr l) (inl q) = sym q
      both (inr l) (inr m) = absurd (let v = leads_lt h c.caused l in let w = leads_lt h c.caused m in omega arith)

      to : h.desk x ≡ h.desk y → seen h x x ≡ seen h x y → x ≡ y
      to q k =
          both (c.complete x y lx ly (omega arith))
          (c.complete y x ly lx (subst (λ d. key (h.row y d) ≤ key (h.row x d)) q (omega arith)))

-- compare, with both true gaps
module _ (X : Setup) (h : Log) (c : Causal X h) (x y : ℕ) (lx : x < h.count) (ly : y < h.count)
    (d d' : Gap) (t : True h d x y) (t' : True h d' y x) where
  no_loop : Leads h x y → Leads h y x → ⊥
  no_loop l m = let v = leads_lt h c.caused l in let w = leads_lt h c.caused m in omega arith

  pub stands : Stands h x y (relation d d' (h.desk x) (h.desk y) (h.row x) (h.row y))
  stands =
      go (eqb (h.desk x) (h.desk y) && same_by d (h.row x (h.desk x)).clock (h.row y (h.desk x)).clock) (asked h d x y)
      (asked h d' y x) refl refl refl
    where
      T_of : {b : Bool} {A : Type 0} → b ≡ true → (b ≡ true) ↔ A → A
      T_of e i = i.0 e

      F_of : {b : Bool} {A : Type 0} → b ≡ false → (b ≡ true) ↔ A → A → ⊥
      F_of e i a = mathlib.Core.Bool.false≢true (sym e ∙ i.1 a)

      go : (p q r : Bool) → (eqb (h.desk x) (h.desk y) && same_by d (h.row x (h.desk x)).clock (h.row y (h.desk x)).clock) ≡ p
          → asked h d x y ≡ q → asked h d' y x ≡ r
          → Stands h x y (pick p Same (pick q (pick r Crossed Before) (pick r After Concurrent)))
      go true q r ep eq er = T_of ep (same_is X h c x y lx ly d t)
      go false true true ep eq er = no_loop (T_of eq (tells X h c x y lx ly d t)) (T_of er (tells X h c y x ly lx d' t'))
      go false true false ep eq er = T_of eq (tells X h c x y lx ly d t)
      go false false true ep eq er = T_of er (tells X h c y x ly lx d' t')
      go false false false ep eq er =
          (F_of eq (tells X h c x y lx ly d t), F_of er (tells X h c y x ly lx d' t'), F_of ep (same_is X h c x y lx ly d t))

-- On the book: the gap of the lags is the true one, and is out of reach exactly when that is.
module _ (X : Setup) (k : ℕ) (d : Gap) (v v' : ℕ) (t : Differ d v v') where
  near_open : (v' < v + X.ahead) × (v < v' + reach_back X (eqb k 0)) → near X k d ≡ some d
  near_open r = near_in X k d (omega arith) (omega arith)

  near_shut : is_out (near X k d) ≡ false → (v' < v + X.ahead) × (v < v' + reach_back X (eqb k 0))
  near_shut e = let i = in_near X k d e in (omega arith, omega arith)

-- the reach by the kind of the event x, and by its own clock
abbrev pub ByClock : Setup → Log → ℕ → ℕ → Type 0
ByClock X h x y =
    let j = h.desk x in
    ((h.row y j).phase < (h.row x j).phase + X.ahead)
    × ((h.row x j).phase < (h.row y j).phase + reach_back X (eqb (h.row x j).clock 0))

module _ (X : Setup) (h : Log) (c : Causal X h) (x y : ℕ) (lx : x < h.count) where
  pub by_clock : InReach X h x y → ByClock X h x y
  by_clock r = rw (c.kinds x lx) r

  by_kind : ByClock X h x y → InReach X h x y
  by_kind r = rw (c.kinds x lx) at r

apart : (◌≡◌ {A = ℕ} 0 16) → ⊥
apart e = omega arith

clash : (t : Bool) → t ≡ true → t ≡ false → ⊥
clash t p q = mathlib.Core.Bool.true≢false (sym p ∙ q)

-- two events whose rows are not ahead of a book
module _ (X : Setup) (h : Log) (c : Causal X h) (b : Tables) (x y : ℕ) (lx : x < h.count) (ly : y < h.count)
    (nx : Past b (h.row x)) (ny : Past b (h.row y)) where
  abbrev lag_gap_lem : Gap
  lag_gap_lem =
      record { up = phases b (h.desk x) - (h.row x (h.desk x)).phase; down = phases b (h.desk x) - (h.row y (h.desk x)).phase }

  lag_true : True h lag_gap_lem x y
  lag_true = let p = nx (h.desk x) in let q = ny (h.desk x) in omega arith

  pub lag_open : InReach X h x y → gap line X b (h.desk x) (h.row x) (h.row y) ≡ some lag_gap_lem
  lag_open r =
      near_open X (h.row x (h.desk x)).clock lag_gap_lem (h.row x (h.desk x)).phase (h.row y (h.desk x)).phase lag_true
      (by_clock X h c x y lx r)

  pub lag_shut : is_out (gap line X b (h.desk x) (h.row x) (h.row y)) ≡ false → InReach X h x y
  lag_shut e =
      by_kind X h c x y lx
      (near_shut X (h.row x (h.desk x)).clock lag_gap_lem (h.row x (h.desk x)).phase (h.row y (h.desk x)).phase lag_true e)

  gap_true : InReach X h x y → True h (gap_in (gap line X b (h.desk x) (h.row x) (h.row y))) x y
  gap_true r = subst (λ d. True h d x y) (sym (ap gap_in (lag_open r))) lag_true

  before_is : BeforeIs X h x y (settle (pick (is_out (gap line X b (h.desk x) (h.row x) (h.row y))) 16 0) b
      (telling b (says (asked h (gap_in (gap line X b (h.desk x) (h.row x) (h.row y))) x y)))).answer
  before_is = go (is_out (gap line X b (h.desk x) (h.row x) (h.row y))) refl
    where
      go : (t : Bool) → is_out (gap line X b (h.desk x) (h.row x) (h.row y)) ≡ t
          → BeforeIs X h x y (settle (pick t 16 0) b
          (telling b (says (asked h (gap_in (gap line X b (h.desk x) (h.row x) (h.row y))) x y)))).answer
      go true e =
          record { out = (λ z r. clash _ e (ap is_out (lag_open r)), λ n. refl); said = λ r. absurd (clash _ e (ap is_out (lag_open r))) }
      go false e =
          record {
            out = (λ z. absurd (apart z), λ n. absurd (n (lag_shut e)));
            said = λ r. (
              asked h (gap_in (gap line X b (h.desk x) (h.row x) (h.row y))) x y,
              refl,
              refl,
              tells X h c x y lx ly (gap_in (gap line X b (h.desk x) (h.row x) (h.row y))) (gap_true r),
            );
          }

module _ (X : Setup) (h : Log) (c : Causal X h) (b : Tables) (x y : ℕ) (lx : x < h.count) (ly : y < h.count)
    (nx : Past b (h.row x)) (ny : Past b (h.row y)) where
  abbrev to_y : Option Gap
  to_y = gap line X b (h.desk x) (h.row x) (h.row y)

  abbrev to_x : Option Gap
  to_x = gap line X b (h.desk y) (h.row y) (h.row x)

  compare_is : CompareIs X h x y (settle (pick (is_out to_y || is_out to_x) 16 0) b
      (telling b (relates (relation (gap_in to_y) (gap_in to_x) (h.desk x) (h.desk y) (h.row x) (h.row y))))).answer
  compare_is = go (is_out to_y) (is_out to_x) refl refl
    where
      go : (t u : Bool) → is_out to_y ≡ t → is_out to_x ≡ u → CompareIs X h x y (settle (pick (t || u) 16 0) b
          (telling b (relates (relation (gap_in to_y) (gap_in to_x) (h.desk x) (h.desk y) (h.row x) (h.row y))))).answer
      go true u e e' =
          record {
            out = (λ z r. clash _ e (ap is_out (lag_open X h c b x y lx ly nx ny r.0)), λ n. refl);
            said = λ r r'. absurd (clash _ e (ap is_out (lag_open X h c b x y lx ly nx ny r)));
          }
      go false true e e' =
          record {
            out = (λ z r. clash _ e' (ap is_out (lag_open X h c b y x ly lx ny nx r.1)), λ n. refl);
            said = λ r r'. absurd (clash _ e' (ap is_out (lag_open X h c b y x ly lx ny nx r')));
          }
      go false false e e' =
          record {
            out = (λ z. absurd (apart z), λ n. absurd (n (lag_shut X h c b x y lx ly nx ny e, lag_shut X h c b y x ly lx ny nx e')));
            said = λ r r'. (
              relation (gap_in to_y) (gap_in to_x) (h.desk x) (h.desk y) (h.row x) (h.row y),
              refl,
              refl,
              stands X h c x y lx ly (gap_in to_y) (gap_in to_x) (gap_true X h c b x y lx ly nx ny r) (gap_true X h c b y x ly lx ny nx r'),
            );
          }

module _ (X : Setup) (ok : Permitted X) (b : Tables) (h : History) (g : Good X b h) where
  -- what a used slot holds
  slot_of : (s : ℕ) (e : Held) → b.shelf s ≡ some e → (s < 32) × Past b e.row × Behind h.log (h.kept s) e
  slot_of s e p =
      let n = rw p at (g.bounded.near.shelf s) in
      (n.0, rw p at (g.bounded.past.shelf s), rw p at (g.shelf s))

  module _ (s t : ℕ) (e f : Held) (p : b.shelf s ≡ some e) (q : b.shelf t ≡ some f) where
    step_before : step line X b (before s t)
        ≡ settle (pick (is_out (gap line X b e.by e.row f.row)) 16 0) b
        (telling b (says (is_before (gap_in (gap line X b e.by e.row f.row)) e.by f.by e.row f.row)))
    unfolding step reasons ask_reasons done ask_tells
    step_before = rw (p, q, lt-ltb s 32 (slot_of s e p).0, lt-ltb t 32 (slot_of t f q).0)

    step_compare : step line X b (compare s t)
        ≡ settle (pick (is_out (gap line X b e.by e.row f.row) || is_out (gap line X b f.by f.row e.row)) 16 0) b
        (telling b (relates (relation (gap_in (gap line X b e.by e.row f.row)) (gap_in (gap line X b f.by f.row e.row))
        e.by f.by e.row f.row)))
    unfolding step reasons ask_reasons done ask_tells
    step_compare = rw (p, q, lt-ltb s 32 (slot_of s e p).0, lt-ltb t 32 (slot_of t f q).0)

    pub on_before : BeforeIs X h.log (h.kept s) (h.kept t) (step line X b (before s t)).answer
    on_before =
        let a = slot_of s e p in
        let c = slot_of t f q in
        rw (step_before, ← a.2.1, ← c.2.1, ← a.2.2, ← c.2.2)
        (before_is X h.log g.causal b (h.kept s) (h.kept t) a.2.0 c.2.0 (rw a.2.2 a.1) (rw c.2.2 c.1))

    pub on_compare : CompareIs X h.log (h.kept s) (h.kept t) (step line X b (compare s t)).answer
    on_compare =
        let a = slot_of s e p in
        let c = slot_of t f q in
        rw (step_compare, ← a.2.1, ← c.2.1, ← a.2.2, ← c.2.2)
        (compare_is X h.log g.causal b (h.kept s) (h.kept t) a.2.0 c.2.0 (rw a.2.2 a.1) (rw c.2.2 c.1))
