-- A PICTURE OF ALL DESKS, over any calls: on the ring's book picture says yes exactly when no event up to a choice was caused by one
-- beyond a choice, and else names the lowest two desks where one was; out of reach is answered exactly when two choices are, wrong owner
-- exactly when, of choices within reach, one is another desk's.
-- Assumes nothing.
--   Beyond e f       a later event of the desk of e is f or leads to it
--   choice_known     the choice of desk k has a later pair for desk i than i's own choice exactly where Caused says so of k and i
--   closed_is        closed exactly where no two desks are parted
--   Kept s           the slot s holds the stamp of the event behind it
--   on_picture       what picture answers on the line; state_picture, on the ring, in a faithful state
--   kept_picture     the same after any calls
use mathlib.Core.Path.{◌≡◌, refl, ap, sym, ◌∙◌, subst}
use mathlib.Core.Bool.{Bool, true, false, not, ◌&&◌, ◌||◌, true≢false, false≢true}
use mathlib.Core.Option.{Option, none, some}
use mathlib.Core.List.{List}
use mathlib.Core.Logic.{◌⊎◌, inl, inr, ◌↔◌}
use Prim.Native.Nat.{ℕ, ◌+◌, ◌≤◌, ◌<◌}
use native.Mathlib.Omega.{arith}
use native.Mathlib.Decide.{ℕ_discrete}
use lib.Dec.{ltb}
use lib.ListN.{length}
use borrow.Author.Tests.{eqb-true, eq-eqb, ltb-true, lt-ltb, le-ltb}
use Rattle.tools.specs.Tests.{pick, any}
use Rattle.tools.specs.Tables.{Each}
use Rattle.tools.proofs.Tests.{lt_or_le, or_false_l, or_false_r, not_off, any_false, none_any}
use Rattle.ring.specs.Phases.{line}
use Rattle.rules.specs.Setups.{Setup, permits}
use Rattle.rules.specs.Model.{Row, Held, Tables, picture, Value, says, names, Answer, accepted, used, row_in, by_in, zeros}
use Rattle.rules.specs.Model.{own, phases, is_out}
use Rattle.rules.specs.Model.{no_slot, chosen, of_two, wrong_owner, knows_more, at_odds, pictured, gap, gap_held, gap_from, too_far}
use Rattle.rules.specs.Model.{reach_back, telling, settle, ask_reasons, reasons, ask_tells, done, step}
use Rattle.rules.specs.Calls.{Book, Call, on, fresh_book, ring_of, call}
use Rattle.rules.proofs.Setups.{Permitted}
use Rattle.rules.proofs.Picture.{picture_either, picture_yes, picture_names}
use Rattle.history.specs.History.{is_reset, Log, History, desk_link, Leads, one, more, State, begin, after, log_after, setup_after}
use Rattle.history.specs.Round.{modulo, map_value, round_book, round_answer}
use Rattle.history.specs.Runs.{left}
use Rattle.history.specs.Lags.{Past}
use Rattle.history.specs.Vector.{Upto, Last, Never}
use Rattle.history.specs.Demand.{InReach}
use Rattle.history.specs.Picture.{Inside, Outside, Closed, Caused, Parted, AllInReach, OwnChoices, NoLower, PictureSaid, PictureIs}
use Rattle.history.proofs.Bounded.{NearAt}
use Rattle.history.proofs.Map.{used_map}
use Rattle.history.proofs.Keys.{key, later_key}
use Rattle.history.proofs.Causal.{seen, Causal, leads_lt, leads_in, upto_le, upto_in, entry}
use Rattle.history.proofs.Good.{Behind, Good}
use Rattle.history.proofs.Before.{lag_open, lag_shut}
use Rattle.history.proofs.Runs.{Faithful, allowed, faithful_run}
use Rattle.history.proofs.Alike.{act_alike, ring_book}

module _ (X : Setup) (h : Log) (w : Causal X h) where
  abbrev Beyond : ℕ → ℕ → Type 0
  Beyond e f = (y : ℕ) × (h.desk y ≡ h.desk e) × (e < y) × Upto h y f

  -- the row of f has a later pair for the desk of e than e's own exactly where a later event of that desk is f or leads to it
  module _ (e f : ℕ) (a : e < h.count) (b : f < h.count) where
    known_beyond : seen h e e < seen h e f → Beyond e f
    known_beyond l = go (entry X h w f b (h.desk e))
      where
        -- an event up to e has no later pair
        not_later : (y : ℕ) → y < h.count → h.desk y ≡ h.desk e → y ≤ e → Dec (y ≡ e) → seen h e y ≤ seen h e e
        not_later y m d n (yes q) =
            let z : seen h e y ≡ seen h e e = ap (λ u. key (h.row u (h.desk e))) q in omega arith
        not_later y m d n (no ne) =
            subst (λ j. key (h.row y j) ≤ key (h.row e j)) d
            (w.sound y e m a (inr (one (desk_link {e = y} {f = e} (omega arith) a d))))

        go : Never h f (h.desk e) ⊎ ((y : ℕ) × Last h f (h.desk e) y) → Beyond e f
        go (inl n) = absurd (let z : seen h e f ≡ key (zeros (h.desk e)) = ap key n.pair in omega arith)
        go (inr (y, t)) = (y, t.at, up (lt_or_le e y), t.leads)
          where
            up : (e < y) ⊎ (y ≤ e) → e < y
            up (inl m) = m
            up (inr m) =
                let z : seen h e y ≡ seen h e f = ap key t.pair in
                let n = not_later y t.is t.at m (ℕ_discrete y e) in
                absurd (omega arith)

    beyond_known : Beyond e f → seen h e e < seen h e f
    beyond_known (y, d, l, u) =
        let m = upto_in X h w y f b u in
        let z : seen h e y ≤ seen h e f = subst (λ j. key (h.row y j) ≤ key (h.row f j)) d (w.sound y f m b u) in
        go m z (lt_or_le (seen h e e) (seen h e y))
      where
        go : y < h.count → seen h e y ≤ seen h e f → (seen h e e < seen h e y) ⊎ (seen h e y ≤ seen h e e)
            → seen h e e < seen h e f
        go m z (inl n) = omega arith
        go m z (inr n) =
            let q = upto_le X h w y e (w.complete y e m a (subst (λ j. key (h.row y j) ≤ key (h.row e j)) (sym d) n)) in
            absurd (omega arith)

  -- the choices of two desks, each its desk's own
  module _ (c : ℕ → ℕ) (i k : ℕ) (ne : i ≡ k → ⊥) (di : h.desk (c i) ≡ i) (dk : h.desk (c k) ≡ k)
      (li : c i < h.count) (lk : c k < h.count) where
    beyond_caused : Beyond (c i) (c k) → Caused h c k i
    beyond_caused (y, d, l, inl q) = absurd (ne (sym di ∙ sym d ∙ ap h.desk q ∙ dk))
    beyond_caused (y, d, l, inr q) =
        let at_y : c (h.desk y) ≡ c i = ap c (d ∙ di) in
        let at_k : c (h.desk (c k)) ≡ c k = ap c dk in
        let m = upto_in X h w y (c k) lk (inr q) in
        (c k, y, dk, omega arith, d ∙ di, (m, omega arith), q)

    caused_beyond : Caused h c k i → Beyond (c i) (c k)
    caused_beyond (x, y, dx, ix, dy, (ly, oy), q) =
        let at_y : c (h.desk y) ≡ c i = ap c dy in
        let at_x : c (h.desk x) ≡ c k = ap c dx in
        (y, dy ∙ sym di, omega arith, up at_x (ℕ_discrete x (c k)))
      where
        up : c (h.desk x) ≡ c k → Dec (x ≡ c k) → Upto h y (c k)
        up z (yes p) = inr (subst (Leads h y) p q)
        up z (no p) = inr (more q (desk_link {e = x} {f = c k} (omega arith) lk (dx ∙ sym dk)))

    choice_known : (ltb (seen h (c i) (c i)) (seen h (c i) (c k)) ≡ true) ↔ Caused h c k i
    choice_known = (
      λ t. beyond_caused (known_beyond (c i) (c k) li lk (ltb-true _ _ t)),
      λ u. lt-ltb _ _ (beyond_known (c i) (c k) li lk (caused_beyond u)),
    )

  -- every event is of one of D desks
  module _ (D : ℕ) (there : (e : ℕ) → e < h.count → h.desk e < D) (c : ℕ → ℕ) where
    closed_is : ((i k : ℕ) → i < k → k < D → Parted h c i k → ⊥) ↔ Closed h c
    closed_is = (
      λ n x y ix oy q. shut n x y ix oy q (lt_or_le (h.desk x) (h.desk y)) (lt_or_le (h.desk y) (h.desk x)),
      λ s i k l m p. of_closed s i k p,
    )
      where
        shut : ((i k : ℕ) → i < k → k < D → Parted h c i k → ⊥)
            → (x y : ℕ) → Inside h c x → Outside h c y → Leads h y x
            → (h.desk x < h.desk y) ⊎ (h.desk y ≤ h.desk x) → (h.desk y < h.desk x) ⊎ (h.desk x ≤ h.desk y) → ⊥
        shut n x y ix oy q (inl l) u = n (h.desk x) (h.desk y) l (there y oy.0) (inl (x, y, refl, ix, refl, oy, q))
        shut n x y ix oy q (inr l) (inl m) =
            n (h.desk y) (h.desk x) m (there x (leads_in h q)) (inr (x, y, refl, ix, refl, oy, q))
        shut n x y ix oy q (inr l) (inr m) =
            let d : h.desk x ≡ h.desk y = omega arith in
            let z : c (h.desk x) ≡ c (h.desk y) = ap c d in
            let f = leads_lt h w.caused q in
            let o = oy.1 in
            omega arith

        of_closed : Closed h c → (i k : ℕ) → Parted h c i k → ⊥
        of_closed s i k (inl (x, y, dx, ix, dy, oy, q)) = s x y ix oy q
        of_closed s i k (inr (x, y, dx, ix, dy, oy, q)) = s x y ix oy q

-- the answer by whether two choices are out of reach, t, and whether one is another desk's, u
by_tests : (X : Setup) (h : Log) (c : ℕ → ℕ) (b : Tables) (v : Value) (t u : Bool)
    → (t ≡ false) ↔ AllInReach X h c → (u ≡ false) ↔ OwnChoices X.desks h c
    → (AllInReach X h c → OwnChoices X.desks h c → PictureSaid X.desks h c (accepted v))
    → PictureIs X h c (settle (pick t 16 (pick u 18 0)) b (telling b v)).answer
by_tests X h c b v true u r o s =
    record {
      out = (λ z a. true≢false (r.1 a), λ n. refl);
      wrong = (λ z. absurd (omega arith), λ n. absurd (true≢false (r.1 n.0)));
      said = λ a. absurd (true≢false (r.1 a));
    }
by_tests X h c b v false true r o s =
    record {
      out = (λ z. absurd (omega arith), λ n. absurd (n (r.0 refl)));
      wrong = (λ z. (r.0 refl, λ w. true≢false (o.1 w)), λ n. refl);
      said = λ a w. absurd (true≢false (o.1 w));
    }
by_tests X h c b v false false r o s =
    record {
      out = (λ z. absurd (omega arith), λ n. absurd (n (r.0 refl)));
      wrong = (λ z. absurd (omega arith), λ n. absurd (n.1 (o.0 refl)));
      said = s;
    }

or_true : (t u : Bool) {A B : Type 0} → (t ≡ true) ↔ A → (u ≡ true) ↔ B → ((t || u) ≡ true) ↔ (B ⊎ A)
or_true true u p q = (λ e. inr (p.0 refl), λ s. refl)
or_true false u {A} {B} p q = (λ e. inl (q.0 e), back)
  where
    back : B ⊎ A → u ≡ true
    back (inl y) = q.1 y
    back (inr x) = absurd (false≢true (p.1 x))

untrue : (t : Bool) → (t ≡ true → ⊥) → t ≡ false
untrue true f = absurd (f refl)
untrue false f = refl

module _ (X : Setup) (ok : Permitted X) (b : Tables) (h : History) (g : Good X b h) where
  record Kept (s : ℕ) : Type 0 where
    low : s < 32
    used : used (b.shelf s) ≡ true
    is : h.kept s < h.log.count
    owner : by_in (b.shelf s) ≡ h.log.desk (h.kept s)
    row : row_in (b.shelf s) ≡ h.log.row (h.kept s)

  kept : (s : ℕ) → used (b.shelf s) ≡ true → Kept s
  kept s u =
      let t = go (b.shelf s) (g.bounded.near.shelf s) (g.shelf s) u in
      record { low = t.0; used = u; is = t.1; owner = t.2; row = t.3 }
    where
      go : (o : Option Held) → Each (NearAt (phases b) X.shelf_lag s) o → Each (Behind h.log (h.kept s)) o → used o ≡ true
          → (s < 32) × (h.kept s < h.log.count) × (by_in o ≡ h.log.desk (h.kept s)) × (row_in o ≡ h.log.row (h.kept s))
      go none n p u = absurd (false≢true u)
      go (some e) n p u = (n.0, p.0, sym p.1, sym p.2)

  past : (s : ℕ) → Kept s → Past b (h.log.row (h.kept s))
  past s p = subst (Past b) p.row (g.bounded.past.shelf s)

  clock : (s : ℕ) → Kept s → (j : ℕ) → (row_in (b.shelf s) j).clock < 256
  clock s p j = subst (λ (r : Row). (r j).clock < 256) (sym p.row) (g.causal.clocks (h.kept s) p.is j).0

  -- no phase is ahead of its own desk's: by their lags, as by their pairs
  more_is : (s t : ℕ) → Kept s → Kept t
      → knows_more line b s t ≡ ltb (seen h.log (h.kept s) (h.kept s)) (seen h.log (h.kept s) (h.kept t))
  more_is s t p q =
      let j = by_in (b.shelf s) in
      later_key (own b j).phase (row_in (b.shelf s) j) (row_in (b.shelf t) j)
      (g.bounded.past.shelf s j) (g.bounded.past.shelf t j) (clock s p j) (clock t q j)
      ∙ (λ i. ltb (key (p.row i (p.owner i))) (key (q.row i (p.owner i))))

  gap_is : (o o' : Option Held) → used o ≡ true → used o' ≡ true → gap_held line X b o o' ≡ gap line X b (by_in o) (row_in o) (row_in o')
  gap_is none o' u v = absurd (false≢true u)
  gap_is (some e) none u v = absurd (false≢true v)
  gap_is (some e) (some f) u v = refl

  reach_is : (s t : ℕ) → Kept s → Kept t → (is_out (gap_from line X b s t) ≡ false) ↔ InReach X h.log (h.kept s) (h.kept t)
  reach_is s t p q =
      let e = gap_is (b.shelf s) (b.shelf t) p.used q.used ∙ (λ i. gap line X b (p.owner i) (p.row i) (q.row i)) in (
        λ z. lag_shut X h.log g.causal b (h.kept s) (h.kept t) p.is q.is (past s p) (past t q) (sym (ap is_out e) ∙ z),
        λ r. ap is_out (e ∙ lag_open X h.log g.causal b (h.kept s) (h.kept t) p.is q.is (past s p) (past t q) r),
      )

  -- an event is within reach of itself
  reach_itself : (x : ℕ) → InReach X h.log x x
  unfolding reach_back
  reach_itself x = (let n = ok.forth in omega arith, go (is_reset (h.log.kind x)))
    where
      go : (t : Bool) → (h.log.row x (h.log.desk x)).phase < (h.log.row x (h.log.desk x)).phase + reach_back X t
      go true = let m = ok.back in omega arith
      go false = let m = ok.back in omega arith

  -- a slot for each desk, all used
  module _ (l : List ℕ) (whole : length l ≡ X.desks) (there : (i : ℕ) → i < length l → used (b.shelf (chosen l i)) ≡ true) where
    abbrev c : ℕ → ℕ
    c i = h.kept (chosen l i)

    abbrev far : Bool
    far = any (length l) (λ i. any (length l) (of_two (too_far line X b) l i))

    at : (i : ℕ) → i < length l → Kept (chosen l i)
    at i m = kept (chosen l i) (there i m)

    far_is : (far ≡ false) ↔ AllInReach X h.log c
    far_is = (
      λ z i k m n. near z i k (omega arith) (omega arith) (lt_or_le i k) (lt_or_le k i),
      λ a. none_any (length l) _ (λ i m. none_any (length l) (of_two (too_far line X b) l i) (λ k n. none_far a i k m n)),
    )
      where
        two : far ≡ false → (i k : ℕ) → i < length l → k < length l → i < k
            → too_far line X b (chosen l i) (chosen l k) ≡ false
        two z i k m n q =
            ap (λ t. t && too_far line X b (chosen l i) (chosen l k)) (sym (lt-ltb i k q))
            ∙ any_false (length l) (of_two (too_far line X b) l i)
            (any_false (length l) (λ i. any (length l) (of_two (too_far line X b) l i)) z i m) k n

        near : far ≡ false → (i k : ℕ) → i < length l → k < length l
            → (i < k) ⊎ (k ≤ i) → (k < i) ⊎ (i ≤ k) → InReach X h.log (c i) (c k)
        near z i k m n (inl q) u = (reach_is (chosen l i) (chosen l k) (at i m) (at k n)).0 (or_false_l _ _ (two z i k m n q))
        near z i k m n (inr p) (inl q) =
            (reach_is (chosen l i) (chosen l k) (at i m) (at k n)).0
            (or_false_r (is_out (gap_from line X b (chosen l k) (chosen l i))) _ (two z k i n m q))
        near z i k m n (inr p) (inr q) =
            let e : i ≡ k = omega arith in subst (λ v. InReach X h.log (c i) (c v)) e (reach_itself (c i))

        none_far : AllInReach X h.log c → (i k : ℕ) → i < length l → k < length l → of_two (too_far line X b) l i k ≡ false
        none_far a i k m n = go (lt_or_le i k)
          where
            go : (i < k) ⊎ (k ≤ i) → of_two (too_far line X b) l i k ≡ false
            go (inl q) =
                let to = (reach_is (chosen l i) (chosen l k) (at i m) (at k n)).1 (a i k (omega arith) (omega arith)) in
                let fro = (reach_is (chosen l k) (chosen l i) (at k n) (at i m)).1 (a k i (omega arith) (omega arith)) in
                λ x. lt-ltb i k q x && (to x || fro x)
            go (inr q) = ap (λ t. t && too_far line X b (chosen l i) (chosen l k)) (le-ltb i k q)

    owners_is : (any (length l) (wrong_owner b l) ≡ false) ↔ OwnChoices X.desks h.log c
    owners_is = (
      λ z i m.
          let n : i < length l = omega arith in
          sym (at i n).owner ∙ eqb-true _ _ (not_off _ (any_false (length l) (wrong_owner b l) z i n)),
      λ o. none_any (length l) (wrong_owner b l) (λ i m. ap not (eq-eqb _ _ ((at i m).owner ∙ o i (omega arith)))),
    )

    -- two desks with choices of their own are at odds exactly where they are parted
    odds_is : OwnChoices X.desks h.log c → (i k : ℕ) → i < k → k < length l
        → (at_odds line b (chosen l i) (chosen l k) ≡ true) ↔ Parted h.log c i k
    odds_is o i k m n =
        let l_i : i < length l = omega arith in
        let s = at i l_i in
        let t = at k n in
        let d = o i (omega arith) in
        let e = o k (omega arith) in
        or_true (knows_more line b (chosen l i) (chosen l k)) (knows_more line b (chosen l k) (chosen l i))
        (subst (λ u. (u ≡ true) ↔ Caused h.log c k i) (sym (more_is (chosen l i) (chosen l k) s t))
        (choice_known X h.log g.causal c i k (λ z. omega arith) d e s.is t.is))
        (subst (λ u. (u ≡ true) ↔ Caused h.log c i k) (sym (more_is (chosen l k) (chosen l i) t s))
        (choice_known X h.log g.causal c k i (λ z. omega arith) e d t.is s.is))

    said_is : OwnChoices X.desks h.log c → PictureSaid X.desks h.log c (accepted (pictured line b l))
    said_is o =
        let y = picture_yes line b l in
        let s = closed_is X h.log g.causal X.desks g.there c in
        record {
          done = refl;
          either = picture_either line b l;
          closed = (
            λ e. s.0 (λ i k m n p. deny i k m (omega arith) (y.0 e i k m (omega arith)) p),
            λ z. y.1 (λ i k m n. untrue _ (λ t. s.1 z i k m (omega arith) ((odds_is o i k m n).0 t))),
          );
          named = λ i k e.
              let q = picture_names line b l i k e in
              let m = q.0 in
              let n = q.1 in (
                omega arith,
                omega arith,
                (odds_is o i k m n).0 q.2,
                λ i' k' m' n' p. least i k i' k' m' (omega arith) p (q.3 i' k' m' (omega arith))
                    (lt_or_le i' i) (lt_or_le i i') (lt_or_le k' k),
              );
        }
      where
        deny : (i k : ℕ) → i < k → k < length l → at_odds line b (chosen l i) (chosen l k) ≡ false → Parted h.log c i k → ⊥
        deny i k m n f p = false≢true (sym f ∙ (odds_is o i k m n).1 p)

        -- two desks that are parted are no lower ones than those named
        least : (i k i' k' : ℕ) → i' < k' → k' < length l → Parted h.log c i' k'
            → ((i' < i) ⊎ ((i' ≡ i) × (k' < k)) → at_odds line b (chosen l i') (chosen l k') ≡ false)
            → (i' < i) ⊎ (i ≤ i') → (i < i') ⊎ (i' ≤ i) → (k' < k) ⊎ (k ≤ k') → NoLower i k i' k'
        least i k i' k' m n p f (inl u) v z = absurd (deny i' k' m n (f (inl u)) p)
        least i k i' k' m n p f (inr u) (inl v) z = inl (omega arith)
        least i k i' k' m n p f (inr u) (inr v) (inl z) = absurd (deny i' k' m n (f (inr (omega arith, z))) p)
        least i k i' k' m n p f (inr u) (inr v) (inr z) = inr (omega arith, omega arith)

    step_picture : (step line X b (picture l)).answer
        ≡ (settle (pick far 16 (pick (any (length l) (wrong_owner b l)) 18 0)) b
        (telling b (pictured line b l))).answer
    unfolding step reasons ask_reasons done ask_tells
    step_picture =
        let named = ap not (eq-eqb (length l) X.desks whole) in
        let slots = none_any (length l) (λ i. no_slot b (chosen l i))
        (λ i m. λ x. not ((at i m).used x && lt-ltb (chosen l i) 32 (at i m).low x)) in
        λ x. (settle (pick (named x || slots x) 5 (pick far 16
        (pick (any (length l) (wrong_owner b l)) 18 0))) b (telling b (pictured line b l))).answer

    pub on_picture : PictureIs X h.log c (step line X b (picture l)).answer
    on_picture =
        subst (PictureIs X h.log c) (sym step_picture)
        (by_tests X h.log c b (pictured line b l) _ _ far_is owners_is (λ a o. said_is o))

-- the coming round leaves yes and the desks as they are
picture_round : (X : Setup) (h : Log) (c : ℕ → ℕ) (P : ℕ) (a : Answer) → PictureIs X h c a → PictureIs X h c (round_answer P a)
picture_round X h c P a w =
    record {
      out = w.out;
      wrong = w.wrong;
      said = λ r o.
          let s = w.said r o in
          let e = same a.value s.either in
          subst (PictureSaid X.desks h c) (λ i. record { number = a.number; value = e i }) s;
    }
  where
    same : (v : Value) → (v ≡ says true) ⊎ ((i : ℕ) × (k : ℕ) × (v ≡ names i k)) → v ≡ map_value (modulo P) v
    same v (inl e) = e ∙ sym (ap (map_value (modulo P)) e)
    same v (inr (i, k, e)) = e ∙ sym (ap (map_value (modulo P)) e)

-- in a faithful state; a slot for each desk, all used in the ring's book
module _ (s : State) (w : Faithful s) (l : List ℕ) (whole : length l ≡ s.book.setup.desks)
    (there : (i : ℕ) → i < length l → used ((round_book s.book).tables.shelf (chosen l i)) ≡ true) where
  pub state_picture : PictureIs s.book.setup s.history.log (λ i. s.history.kept (chosen l i))
      (call ring_of (round_book s.book) (on (picture l))).answer
  state_picture =
      let X = s.book.setup in
      let b = s.book.tables in
      subst (PictureIs X s.history.log (λ i. s.history.kept (chosen l i))) (sym (act_alike s w (picture l)))
      (picture_round X _ _ X.phases (step line X b (picture l)).answer
      (on_picture X (allowed s w) b s.history w.good l whole
      (λ i m. sym (used_map (modulo X.phases) (b.shelf (chosen l i))) ∙ there i m)))

-- after any calls from a fresh book on
module _ (X : Setup) (fair : permits X ≡ true) (cs : List Call) (l : List ℕ) (whole : length l ≡ (setup_after X cs).desks)
    (there : (i : ℕ) → i < length l → used ((left ring_of (fresh_book X) cs).tables.shelf (chosen l i)) ≡ true) where
  -- Of kept stamps, one for each desk, picture says whether an event up to them was caused by one beyond, and of which two desks.
  pub kept_picture : PictureIs (setup_after X cs) (log_after X cs) (λ i. (after (begin X) cs).history.kept (chosen l i))
      (call ring_of (left ring_of (fresh_book X) cs) (on (picture l))).answer
  kept_picture =
      let e = ring_book X fair cs in
      subst (λ (b : Book). PictureIs (setup_after X cs) (log_after X cs) (λ i. (after (begin X) cs).history.kept (chosen l i))
      (call ring_of b (on (picture l))).answer) (sym e)
      (state_picture (after (begin X) cs) (faithful_run X fair cs) l whole
      (λ i m. ap (λ (b : Book). used (b.tables.shelf (chosen l i))) (sym e) ∙ there i m))
