-- A log's rows know exactly what leads to them, and one more event keeps it so.
-- Assumes nothing.
use mathlib.Core.Path.{◌≡◌, refl, ap, sym, ◌∙◌, subst}
use mathlib.Core.Option.{some}
use mathlib.Core.Logic.{◌⊎◌, inl, inr}
use Prim.Native.Nat.{ℕ, suc, ◌≤◌, ◌<◌}
use native.Mathlib.Omega.{arith}
use native.Mathlib.Decide.{ℕ_discrete}
use lib.Dec.{eqb}
use Rattle.ring.specs.Phases.{Pair}
use Rattle.rules.specs.Setups.{Setup, limit}
use Rattle.rules.specs.Model.{Row, zeros}
use Rattle.history.specs.History.{Kind, cause, is_reset, Log, Link, desk_link, mail_link, Leads, one, more, logged}
use Rattle.history.specs.Vector.{Upto, Earlier, Last, Never}
use Rattle.tools.specs.Tables.{Each}
use Rattle.tools.proofs.Tables.{put_all, put_same, put_other}
use Rattle.tools.proofs.Tests.{lt_or_le}
use Rattle.history.proofs.Keys.{key, key_earlier}

-- the event's own pair, as a number, and what row f knows of the desk of e
abbrev pub seen : Log → ℕ → ℕ → ℕ
seen h e f = key (h.row f (h.desk e))

abbrev pub Caused : Log → Type 0
Caused h = (f : ℕ) → f < h.count → Each (λ e. e < f) (cause (h.kind f))

-- a pair for desk k is that of one of k's events, or 0, 0
abbrev pub Origin : Log → ℕ → Pair → Type 0
Origin h k q = (q ≡ zeros k) ⊎ ((e : ℕ) × (e < h.count) × (h.desk e ≡ k) × (h.row e k ≡ q))

-- a clock of a pair for desk k: a byte, and below the limit of k where there is such a desk
abbrev pub InLimit : Setup → ℕ → Pair → Type 0
InLimit X k q = (q.clock < 256) × (k < X.desks → q.clock < limit X k)

pub record Causal (X : Setup) (h : Log) : Type 0 where
  pub clocks : (e : ℕ) → e < h.count → (k : ℕ) → InLimit X k (h.row e k)
  pub caused : Caused h
  -- an event's own clock is 0 exactly where it is a reset
  pub kinds : (e : ℕ) → e < h.count → eqb (h.row e (h.desk e)).clock 0 ≡ is_reset (h.kind e)
  pub positive : (e : ℕ) → e < h.count → 0 < seen h e e
  pub sound : (e f : ℕ) → e < h.count → f < h.count → Upto h e f → seen h e e ≤ seen h e f
  pub complete : (e f : ℕ) → e < h.count → f < h.count → seen h e e ≤ seen h e f → Upto h e f
  pub origin : (f : ℕ) → f < h.count → (k : ℕ) → Origin h k (h.row f k)

-- a link goes to a later event
pub link_lt : (h : Log) → Caused h → {e f : ℕ} → Link h e f → e < f
link_lt h c (desk_link l b q) = omega arith
link_lt h c (mail_link {e = e} {f = f} b q) = rw q at (c f (omega arith))

-- and ends in an event of the log
link_in : (h : Log) → {e f : ℕ} → Link h e f → f < h.count
link_in h (desk_link l b q) = omega arith
link_in h (mail_link b q) = omega arith

pub leads_lt : (h : Log) → Caused h → {e f : ℕ} → Leads h e f → e < f
leads_lt h c (one l) = link_lt h c l
leads_lt h c (more a l) =
    let x = leads_lt h c a in
    let y = link_lt h c l in
    omega arith

pub leads_in : (h : Log) → {e f : ℕ} → Leads h e f → f < h.count
leads_in h (one l) = link_in h l
leads_in h (more a l) = link_in h l

-- two logs that agree below n have the same chains there
module _ (h h' : Log) (n : ℕ) (desks : (i : ℕ) → i < n → h.desk i ≡ h'.desk i)
    (kinds : (i : ℕ) → i < n → h.kind i ≡ h'.kind i) (c : Caused h) (long : n ≤ h'.count) where
  carry_link : {e f : ℕ} → Link h e f → f < n → Link h' e f
  carry_link (desk_link {e = e} {f = f} l b q) m =
      let d = desks e (omega arith) in let d' = desks f m in desk_link l (omega arith) cc
  carry_link (mail_link {e = e} {f = f} b q) m = mail_link {f = f} (omega arith) (sym (ap cause (kinds f m)) ∙ q)

  pub carry : {e f : ℕ} → Leads h e f → f < n → Leads h' e f
  carry (one l) m = one (carry_link l m)
  carry (more a l) m = let y = link_lt h c l in more (carry a (omega arith)) (carry_link l m)

pub below : (Q : ℕ → Type 0) (n e : ℕ) → e < suc n → (e < n → Q e) → Q n → Q e
below Q n e h f q = go (ℕ_discrete e n)
  where
    go : Dec (e ≡ n) → Q e
    go (yes p) = subst Q (sym p) q
    go (no p) = f (omega arith)

-- what an event at j, its row r, must meet
pub record Fits (X : Setup) (h : Log) (j : ℕ) (w : Kind) (r : Row) : Type 0 where
  pub clocks : (k : ℕ) → InLimit X k (r k)
  pub kind : eqb (r j).clock 0 ≡ is_reset w
  pub sent : Each (λ e. e < h.count) (cause w)
  pub ahead : (f : ℕ) → f < h.count → key (h.row f j) < key (r j)
  pub first : 0 < key (r j)
  pub from : (k : ℕ) → (k ≡ j → ⊥) → Origin h k (r k)
  -- what leads to it is known to it
  pub tells : (e g : ℕ) → e < h.count → g < h.count → Upto h e g → (h.desk g ≡ j) ⊎ (cause w ≡ some g)
      → (h.desk e ≡ j → ⊥) → seen h e e ≤ key (r (h.desk e))
  -- what is known to it leads to it
  pub heard : (e : ℕ) → e < h.count → (h.desk e ≡ j → ⊥) → seen h e e ≤ key (r (h.desk e))
      → (g : ℕ) × (g < h.count) × Upto h e g × ((h.desk g ≡ j) ⊎ (cause w ≡ some g))

module _ (X : Setup) (h : Log) (c : Causal X h) (j : ℕ) (w : Kind) (r : Row) (fit : Fits X h j w r) where
  pub old_desk : (i : ℕ) → i < h.count → (logged h j w r).desk i ≡ h.desk i
  old_desk i l = put_other h.desk h.count j i (omega arith)

  old_kind : (i : ℕ) → i < h.count → (logged h j w r).kind i ≡ h.kind i
  old_kind i l = put_other h.kind h.count w i (omega arith)

  pub old_row : (i : ℕ) → i < h.count → (logged h j w r).row i ≡ h.row i
  old_row i l = put_other h.row h.count r i (omega arith)

  seen_old : (e f : ℕ) → e < h.count → f < h.count → seen (logged h j w r) e f ≡ seen h e f
  seen_old e f a b = λ i. key (old_row f b i (old_desk e a i))

  seen_into : (e : ℕ) → e < h.count → seen (logged h j w r) e h.count ≡ key (r (h.desk e))
  seen_into e a = λ i. key (put_same h.row h.count r i (old_desk e a i))

  seen_from : (f : ℕ) → f < h.count → seen (logged h j w r) h.count f ≡ key (h.row f j)
  seen_from f b = λ i. key (old_row f b i (put_same h.desk h.count j i))

  seen_new : seen (logged h j w r) h.count h.count ≡ key (r j)
  seen_new = λ i. key (put_same h.row h.count r i (put_same h.desk h.count j i))

  caused : Caused (logged h j w r)
  caused =
      put_all (λ f (o : Kind). f < suc h.count → Each (λ e. e < f) (cause o)) h.kind h.count w (λ l. fit.sent)
      (λ f ne l. c.caused f (omega arith))

  pub up : (e f : ℕ) → Leads h e f → f < h.count → Leads (logged h j w r) e f
  up e f = carry h (logged h j w r) h.count (λ i l. sym (old_desk i l)) (λ i l. sym (old_kind i l)) c.caused (omega arith)

  down : (e f : ℕ) → Leads (logged h j w r) e f → f < h.count → Leads h e f
  down e f = carry (logged h j w r) h h.count old_desk old_kind caused (omega arith)

  pub up_to : (e f : ℕ) → f < h.count → Upto h e f → Upto (logged h j w r) e f
  up_to e f b (inl q) = inl q
  up_to e f b (inr l) = inr (up e f l b)

  pub down_to : (e f : ℕ) → f < h.count → Upto (logged h j w r) e f → Upto h e f
  down_to e f b (inl q) = inl q
  down_to e f b (inr l) = inr (down e f l b)

  -- the last link of a chain to the new event
  last_link : {g f : ℕ} → Link (logged h j w r) g f → f ≡ h.count → g < h.count → (h.desk g ≡ j) ⊎ (cause w ≡ some g)
  last_link (desk_link {e = g} {f = f} l m q) e b =
      let d = old_desk g b in
      let d' : (logged h j w r).desk f ≡ j = ap (logged h j w r).desk e ∙ put_same h.desk h.count j in
      inl cc
  last_link (mail_link {e = g} {f = f} m q) e b =
      inr (ap cause (sym (put_same h.kind h.count w) ∙ sym (ap (logged h j w r).kind e)) ∙ q)

  last_step : {e f : ℕ} → Leads (logged h j w r) e f → f ≡ h.count
      → (g : ℕ) × (g < h.count) × Upto h e g × ((h.desk g ≡ j) ⊎ (cause w ≡ some g))
  last_step (one {e = e} {f = f} l) q =
      let b : e < h.count = (let z = link_lt (logged h j w r) caused l in omega arith) in
      (e, b, inl refl, last_link l q b)
  last_step (more {e = e} {f = g} {g = f} a l) q =
      let b : g < h.count = (let z = link_lt (logged h j w r) caused l in omega arith) in
      (g, b, inr (down e g a b), last_link l q b)

  new_link : (g : ℕ) → g < h.count → (h.desk g ≡ j) ⊎ (cause w ≡ some g) → Link (logged h j w r) g h.count
  new_link g b (inl q) = let d = old_desk g b in let d' = put_same h.desk h.count j in desk_link b (omega arith) cc
  new_link g b (inr q) = mail_link {f = h.count} (omega arith) (ap cause (put_same h.kind h.count w) ∙ q)

  new_leads : (e g : ℕ) → g < h.count → Upto h e g → Link (logged h j w r) g h.count → Leads (logged h j w r) e h.count
  new_leads e g b (inl q) l = one (subst (λ x. Link (logged h j w r) x h.count) (sym q) l)
  new_leads e g b (inr a) l = more (up e g a b) l

  -- e and the new event
  to_new : (e : ℕ) → e < h.count → Leads (logged h j w r) e h.count → seen h e e ≤ key (r (h.desk e))
  to_new e a l = go (ℕ_discrete (h.desk e) j)
    where
      go : Dec (h.desk e ≡ j) → seen h e e ≤ key (r (h.desk e))
      go (yes q) = rw q (let z = fit.ahead e a in omega arith)
      go (no q) = let s = last_step l refl in fit.tells e s.0 a s.1 s.2 s.3 q

  pub of_new : (e : ℕ) → e < h.count → seen h e e ≤ key (r (h.desk e)) → Leads (logged h j w r) e h.count
  of_new e a k = go (ℕ_discrete (h.desk e) j)
    where
      go : Dec (h.desk e ≡ j) → Leads (logged h j w r) e h.count
      go (yes q) = one (new_link e a (inl q))
      go (no q) = let s = fit.heard e a q k in new_leads e s.0 s.1 s.2 (new_link s.0 s.1 s.3)

  no_later : (f : ℕ) → f < h.count → Upto (logged h j w r) h.count f → ⊥
  no_later f b (inl q) = omega arith
  no_later f b (inr l) = let z = leads_lt (logged h j w r) caused l in omega arith

  pub old_new : (e : ℕ) → e < h.count → Upto (logged h j w r) e h.count → seen h e e ≤ key (r (h.desk e))
  old_new e a (inl q) = absurd (omega arith)
  old_new e a (inr l) = to_new e a l

  origin_up : (k : ℕ) (q : Pair) → Origin h k q → Origin (logged h j w r) k q
  origin_up k q (inl z) = inl z
  origin_up k q (inr s) =
      inr (s.0, (let z = s.1 in omega arith), old_desk s.0 s.1 ∙ s.2, ap (λ (ρ : Row). ρ k) (old_row s.0 s.1) ∙ s.3)

  origin_new : (k : ℕ) → Origin (logged h j w r) k (r k)
  origin_new k = go (ℕ_discrete k j)
    where
      go : Dec (k ≡ j) → Origin (logged h j w r) k (r k)
      go (yes q) =
          inr (h.count, omega arith, put_same h.desk h.count j ∙ sym q, ap (λ (ρ : Row). ρ k) (put_same h.row h.count r))
      go (no q) = origin_up k (r k) (fit.from k q)

  pub causal_next : Causal X (logged h j w r)
  causal_next =
      record {
        clocks = put_all (λ e (ρ : Row). e < suc h.count → (k : ℕ) → InLimit X k (ρ k)) h.row h.count r (λ l. fit.clocks)
            (λ e ne l. c.clocks e (omega arith));
        caused = caused;
        kinds = λ e a. below (λ e. eqb ((logged h j w r).row e ((logged h j w r).desk e)).clock 0 ≡ is_reset ((logged h j w r).kind e))
            h.count e a
            (λ a. (λ i. eqb (old_row e a i (old_desk e a i)).clock 0) ∙ c.kinds e a ∙ ap is_reset (sym (old_kind e a)))
            ((λ i. eqb (put_same h.row h.count r i (put_same h.desk h.count j i)).clock 0) ∙ fit.kind
            ∙ ap is_reset (sym (put_same h.kind h.count w)));
        positive = λ e a. below (λ e. 0 < seen (logged h j w r) e e) h.count e a (λ a. rw (seen_old e e a a) (c.positive e a))
            (rw seen_new fit.first);
        sound = λ e f a b. below (λ e. Upto (logged h j w r) e f → seen (logged h j w r) e e ≤ seen (logged h j w r) e f) h.count e a
            (λ a. below (λ f. Upto (logged h j w r) e f → seen (logged h j w r) e e ≤ seen (logged h j w r) e f) h.count f b
            (λ b u. rw (seen_old e e a a, seen_old e f a b) (c.sound e f a b (down_to e f b u)))
            (λ u. rw (seen_old e e a a, seen_into e a) (old_new e a u)))
            (below (λ f. Upto (logged h j w r) h.count f
            → seen (logged h j w r) h.count h.count ≤ seen (logged h j w r) h.count f) h.count f b
            (λ b u. absurd (no_later f b u))
            (λ u. omega arith));
        complete =
            λ e f a b. below (λ e. seen (logged h j w r) e e ≤ seen (logged h j w r) e f → Upto (logged h j w r) e f) h.count e a
            (λ a. below (λ f. seen (logged h j w r) e e ≤ seen (logged h j w r) e f → Upto (logged h j w r) e f) h.count f b
            (λ b k. up_to e f b (c.complete e f a b (rw (seen_old e e a a, seen_old e f a b) at k)))
            (λ k. inr (of_new e a (rw (seen_old e e a a, seen_into e a) at k))))
            (below (λ f. seen (logged h j w r) h.count h.count ≤ seen (logged h j w r) h.count f
            → Upto (logged h j w r) h.count f) h.count f b
            (λ b k.
            absurd
            (let z = fit.ahead f b in
            let z' : key (r j) ≤ key (h.row f j) = rw (seen_new, seen_from f b) at k in
            omega arith))
            (λ k. inl refl));
        origin = λ f b. below (λ f. (k : ℕ) → Origin (logged h j w r) k ((logged h j w r).row f k)) h.count f b
            (λ b k. rw (old_row f b) (origin_up k (h.row f k) (c.origin f b k)))
            (λ k. rw (put_same h.row h.count r) (origin_new k));
      }

-- Each desk's pairs rise; a row's entry for desk k is that of the last event of k up to it.
module _ (X : Setup) (h : Log) (c : Causal X h) where
  pub upto_le : (e f : ℕ) → Upto h e f → e ≤ f
  upto_le e f (inl q) = omega arith
  upto_le e f (inr l) = let z = leads_lt h c.caused l in omega arith

  pub upto_in : (e f : ℕ) → f < h.count → Upto h e f → e < h.count
  upto_in e f b u = let z = upto_le e f u in omega arith

  pub rising : (e f : ℕ) → e < f → f < h.count → h.desk e ≡ h.desk f → Earlier (h.row e (h.desk e)) (h.row f (h.desk e))
  rising e f l b q =
      let a : e < h.count = omega arith in
      key_earlier (h.row e (h.desk e)) (h.row f (h.desk e)) (c.clocks e a (h.desk e)).0 (c.clocks f b (h.desk e)).0
      (go a (lt_or_le (seen h e e) (seen h e f)))
    where
      go : e < h.count → (seen h e e < seen h e f) ⊎ (seen h e f ≤ seen h e e) → seen h e e < seen h e f
      go a (inl z) = z
      go a (inr z) =
          absurd (let y = upto_le f e (c.complete f e b a (subst (λ d. key (h.row f d) ≤ key (h.row e d)) q z)) in omega arith)

  pub entry : (f : ℕ) → f < h.count → (k : ℕ) → Never h f k ⊎ ((e : ℕ) × Last h f k e)
  entry f b k = go (c.origin f b k)
    where
      go : Origin h k (h.row f k) → Never h f k ⊎ ((e : ℕ) × Last h f k e)
      go (inl z) =
          inl (record {
            pair = z;
            never = λ e q u.
                let a = upto_in e f b u in
                let x = c.sound e f a b u in
                let y = c.positive e a in
                let w : seen h e f ≡ key (zeros k) = ap (λ d. key (h.row f d)) q ∙ ap key z in
                omega arith;
          })
      go (inr (e, a, q, z)) =
          inr (
            e,
            record {
              is = a;
              at = q;
              pair = z;
              leads = c.complete e f a b (let w : seen h e e ≡ seen h e f = rw q (ap key z) in omega arith);
              last = λ e' q' u.
                  let a' = upto_in e' f b u in
                  upto_le e' e (c.complete e' e a' a
                  (let w : seen h e' e ≡ seen h e' f = rw q' (ap key z) in let x = c.sound e' f a' b u in omega arith));
            },
          )
