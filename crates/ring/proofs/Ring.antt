-- Laws of the ring, for any P; the ring agrees with the line wherever the true difference is below P.
-- Assumes nothing.
use Rattle.std.proofs.Common.{◌≡◌, ℕ, ◌+◌, ◌-◌, ◌*◌, ◌%◌, ◌<◌, ◌≤◌, Bool, true, false, ◌&&◌, eqb, ltb, ◌⊎◌, ◌↔◌, [], ◌∷◌}
use Rattle.std.proofs.Common.{map, sym, refl, ap, ◌∙◌, subst, inl, inr, true≢false, mul-le-mul_right, mod-lt, mod-eq_of_lt}
use Rattle.std.proofs.Common.{arith, ltb-false, ltb-true, le-ltb, lt-ltb, eq-eqb, eqb-true, le-leb}
use native.Mathlib.Nat.{mod-add-mod, add-mod_right, mod-eq-sub-mod, mod_self}
use native.Mathlib.Decide.{dec_lt}
use borrow.Author.Tests.{lt-leb}
use Rattle.tools.specs.Tests.{pick}
use Rattle.tools.proofs.Tests.{and_true_l, or_false_l, lt_or_le}
use Rattle.ring.specs.Phases.{Pair, Phases, Gap, ring, lag_of, next_of, later_by, lag_gap, is_later, later}
use Rattle.ring.specs.Remainder.{remainder_of}

-- by hand, on a ring of five: how far each phase lags behind 1
pub lag_worked : map (lag_of 5 1) (0 ∷ 1 ∷ 2 ∷ 3 ∷ 4 ∷ []) ≡ 1 ∷ 0 ∷ 4 ∷ 3 ∷ 2 ∷ []
lag_worked = refl

-- by hand, there: whether the pair 0.2 is changed by an equal one, by a larger and a smaller clock, by the own phase and by an older one
abbrev pair : ℕ → ℕ → Pair
pair v t = record { phase = v; clock = t }

pub changed_worked : map (λ (f : Pair). (later (ring 5) 1 (pair 0 2) f).changed) (pair 0 2 ∷ pair 0 3 ∷ pair 0 1 ∷ pair 1 0 ∷ pair 4 9 ∷ [])
    ≡ false ∷ true ∷ false ∷ true ∷ false ∷ []
unfolding later_by
changed_worked = refl

-- the two lines
pub lag_down : (P own v : ℕ) → v ≤ own → lag_of P own v ≡ own - v
lag_down P own v l = rw (le-leb v own l)

pub lag_round : (P own v : ℕ) → own < v → lag_of P own v ≡ own + P - v
lag_round P own v l = rw (lt-leb v own l)

-- WHICH IS RIGHT? Both: of phases of the ring the handbook's lag is the remainder.
pub lag_remainder : (P own v : ℕ) → own < P → v < P → lag_of P own v ≡ remainder_of P own v
lag_remainder P own v ho hv = go (dec_lt own v)
  where
    go : Dec (own < v) → lag_of P own v ≡ remainder_of P own v
    go (no l) =
        let e : own + P - v ≡ own - v + P = omega arith in
        lag_down P own v (omega arith) ∙ sym (ap (λ n. n % P) e ∙ add-mod_right (own - v) P ∙ mod-eq_of_lt (omega arith))
    go (yes l) = lag_round P own v l ∙ sym (mod-eq_of_lt (omega arith))

-- off the ring they differ
pub lag_elsewhere : (lag_of 5 7 1 ≡ 6) × (remainder_of 5 7 1 ≡ 1)
lag_elsewhere = (refl, refl)

pub lag_below : (P own v : ℕ) → own < P → lag_of P own v < P
lag_below P own v ho = go (dec_lt own v)
  where
    go : Dec (own < v) → lag_of P own v < P
    go (no l) = rw (lag_down P own v (omega arith)) (omega arith)
    go (yes l) = rw (lag_round P own v l) (omega arith)

pub next_below : (P v : ℕ) → 0 < P → next_of P v < P
next_below P v h = mod-lt (v + 1) h

-- a phase does not lag behind itself
pub lag_self : (P v : ℕ) → lag_of P v v ≡ 0
lag_self P v = lag_down P v v (omega arith) ∙ omega arith

-- every other phase lags
pub lag_other : (P own v : ℕ) → own < P → v < P → (v ≡ own → ⊥) → 0 < lag_of P own v
lag_other P own v ho hv ne = go (dec_lt own v)
  where
    go : Dec (own < v) → 0 < lag_of P own v
    go (no l) = rw (lag_down P own v (omega arith)) (omega arith)
    go (yes l) = rw (lag_round P own v l) (omega arith)

-- a reset makes every lag grow by one
pub lag_next : (P own v : ℕ) → own < P → v < P → lag_of P own v + 1 < P → lag_of P (next_of P own) v ≡ lag_of P own v + 1
lag_next P own v ho hv h =
    let e : next_of P own + P - v ≡ next_of P own + (P - v) = omega arith in
    let f : own + 1 + (P - v) ≡ own + P - v + 1 = omega arith in
    lag_remainder P (next_of P own) v (next_below P own (omega arith)) hv
    ∙ ap (λ n. n % P) e ∙ mod-add-mod (own + 1) P (P - v) ∙ ap (λ n. n % P) f ∙ sym (mod-add-mod (own + P - v) P 1)
    ∙ ap (λ n. (n + 1) % P) (sym (lag_remainder P own v ho hv)) ∙ mod-eq_of_lt h

-- (x + d) mod P for a remainder x and a d below P
split : (P x d : ℕ) → x < P → d < P → ((x + d < P) × ((x + d) % P ≡ x + d)) ⊎ ((P ≤ x + d) × ((x + d) % P ≡ x + d - P))
split P x d hx hd = go (dec_lt (x + d) P)
  where
    go : Dec (x + d < P) → ((x + d < P) × ((x + d) % P ≡ x + d)) ⊎ ((P ≤ x + d) × ((x + d) % P ≡ x + d - P))
    go (yes l) = inl (l, mod-eq_of_lt l)
    go (no l) =
        let l' : P ≤ x + d = omega arith in
        inr (l', mod-eq-sub-mod l' ∙ mod-eq_of_lt (omega arith))

ahead_at : (P x d o : ℕ) → x < P → d < P → o ≡ (x + d) % P → (o + P - x) % P ≡ d
ahead_at P x d o hx hd e = go (split P x d hx hd)
  where
    go : ((x + d < P) × ((x + d) % P ≡ x + d)) ⊎ ((P ≤ x + d) × ((x + d) % P ≡ x + d - P)) → (o + P - x) % P ≡ d
    go (inl (l, q)) =
        let s : o + P - x ≡ d + P = omega arith in
        rw s (add-mod_right d P ∙ mod-eq_of_lt hd)
    go (inr (l, q)) =
        let s : o + P - x ≡ d = omega arith in
        rw s (mod-eq_of_lt hd)

-- the lag by a sum: what v is added to comes round to own
pub lag_by_sum : (P r own v : ℕ) → r < P → v < P → (r + v) % P ≡ own → r ≡ lag_of P own v
lag_by_sum P r own v hr hv e =
    let turned : v + r ≡ r + v = omega arith in
    sym (lag_remainder P own v (subst (λ n. n < P) e (mod-lt (r + v) (omega arith))) hv
    ∙ ahead_at P v r own hv hr (sym e ∙ ap (λ n. n % P) (sym turned)))

-- where it comes round, a ring's lag is that of a longer one, Q, less the phases that the ring lacks, by a sum again
pub lag_shorter : (P Q own v full less r : ℕ) → v < P → own < v → full ≡ lag_of Q own v → r < Q → (r + less) % Q ≡ full
    → less + P ≡ Q → r ≡ lag_of P own v
lag_shorter P Q own v full less r hv l e hr sum lacks =
    let round = e ∙ lag_round Q own v l in
    let up = lag_by_sum Q r full less hr (omega arith) sum in
    let down = lag_down Q full less (omega (arith, round)) in
    let short = lag_round P own v l in
    omega (arith, round, up, down, short)

-- a lag that is told by the last phase
pub lag_by_last : (P last own v r : ℕ) → last + 1 ≡ P → v < P → (v ≤ last → r ≡ lag_of (last + 1) own v) → r ≡ lag_of P own v
lag_by_last P last own v r e l h = h (omega arith) ∙ ap (λ n. lag_of n own v) e

pub ring_lag : (P o v : ℕ) → v ≤ o → o - v < P → lag_of P (o % P) (v % P) ≡ o - v
ring_lag P o v h l =
    lag_remainder P (o % P) (v % P) (mod-lt o (omega arith)) (mod-lt v (omega arith))
    ∙ ahead_at P (v % P) (o - v) (o % P) (mod-lt v (omega arith)) l
    (ap (λ n. n % P) e ∙ sym (mod-add-mod v P (o - v)))
  where
    e : o ≡ v + (o - v)
    e = omega arith

pub ring_next : (P v : ℕ) → next_of P (v % P) ≡ (v + 1) % P
ring_next P v = mod-add-mod v P 1

-- the same difference taken the other way
pub ring_back : (P o v : ℕ) → v < o → o - v < P → lag_of P (v % P) (o % P) ≡ P - (o - v)
ring_back P o v h l =
    lag_remainder P (v % P) (o % P) (mod-lt v (omega arith)) (mod-lt o (omega arith))
    ∙ ahead_at P (o % P) (P - (o - v)) (v % P) (mod-lt o (omega arith)) (omega arith)
    (sym (mod-add-mod o P (P - (o - v)) ∙ ap (λ n. n % P) e ∙ add-mod_right v P))
  where
    e : o + (P - (o - v)) ≡ v + P
    e = omega arith

-- on a ring of P the difference d comes to r: the two are one modulo P
abbrev pub ComesTo : ℕ → ℕ → Gap → Type 0
ComesTo P r d = (a : ℕ) × (b : ℕ) × (d.up + a * P ≡ d.down + r + b * P)

-- two numbers less than P apart that are one modulo P
one_round : (P s t a b : ℕ) → s + a * P ≡ t + b * P → s < t + P → t < s + P → s ≡ t
one_round P s t a b e l m = go (lt_or_le a b) (lt_or_le b a)
  where
    go : (a < b) ⊎ (b ≤ a) → (b < a) ⊎ (a ≤ b) → s ≡ t
    go (inl u) v = absurd (omega (arith, e, l, mul-le-mul_right P u))
    go (inr u) (inl v) = absurd (omega (arith, e, m, mul-le-mul_right P v))
    go (inr u) (inr v) = let q : a * P ≡ b * P = ap (λ n. n * P) (omega arith) in omega (arith, e, q)

-- of differences less than P apart at most one comes to r
pub comes_once : (P r : ℕ) (d d' : Gap) → ComesTo P r d → ComesTo P r d'
    → d.up + d'.down < d'.up + d.down + P → d'.up + d.down < d.up + d'.down + P
    → d.up + d'.down ≡ d'.up + d.down
comes_once P r d d' (a, b, e) (a', b', e') =
    one_round P (d.up + d'.down) (d'.up + d.down) (a + b') (a' + b) (omega (arith, e, e'))

-- turning both sides by the same amount changes no lag, and goes with next: no phase is special
pub turn_lag : (P t own v : ℕ) → own < P → v < P → lag_of P ((own + t) % P) ((v + t) % P) ≡ lag_of P own v
turn_lag P t own v ho hv = go (dec_lt own v)
  where
    go : Dec (own < v) → lag_of P ((own + t) % P) ((v + t) % P) ≡ lag_of P own v
    go (no l) =
        let e : own + t - (v + t) ≡ own - v = omega arith in
        ring_lag P (own + t) (v + t) (omega arith) (omega arith) ∙ e ∙ sym (lag_down P own v (omega arith))
    go (yes l) =
        let e : P - (v + t - (own + t)) ≡ own + P - v = omega arith in
        ring_back P (v + t) (own + t) (omega arith) (omega arith) ∙ e ∙ sym (lag_round P own v l)

pub turn_next : (P t v : ℕ) → next_of P ((v + t) % P) ≡ (next_of P v + t) % P
turn_next P t v =
    let e : v + t + 1 ≡ v + 1 + t = omega arith in
    mod-add-mod (v + t) P 1 ∙ ap (λ n. n % P) e ∙ sym (mod-add-mod (v + 1) P t)

-- later means a smaller lag
later_by_lem : (d : Gap) (ce cf : ℕ) → d.down < d.up → later_by d ce cf ≡ true
unfolding later_by
later_by_lem d ce cf l = rw (lt-ltb d.down d.up l)

-- the own phase is later than every other, the phase 0 too: the newest phase may be 0
pub own_latest : (P o : ℕ) (e f : Pair) → o < P → e.phase < P → (e.phase ≡ o → ⊥) → f.phase ≡ o → is_later (ring P) o f e ≡ true
own_latest P o e f ho he ne q =
    later_by_lem (lag_gap (ring P) o e f) e.clock f.clock
    (rw q (omega (arith, lag_self P o, lag_other P o e.phase ho he ne)))

-- at equal lag the larger clock is later
pub later_clock : (Z : Phases) (o : ℕ) (e f : Pair) → Z.lag o f.phase ≡ Z.lag o e.phase
    → is_later Z o f e ≡ ltb e.clock f.clock
unfolding later_by
later_clock Z o e f q =
    rw (q, le-ltb (Z.lag o e.phase) (Z.lag o e.phase) (omega arith), eq-eqb (Z.lag o e.phase) (Z.lag o e.phase) refl)

pub later_takes : (Z : Phases) (o : ℕ) (e f : Pair) → is_later Z o f e ≡ true → (later Z o e f).pair ≡ f
later_takes Z o e f t = rw t

pub later_stays : (Z : Phases) (o : ℕ) (e f : Pair) → is_later Z o f e ≡ false → (later Z o e f).pair ≡ e
later_stays Z o e f t = rw t

-- no pair is later than itself
pub not_later : (Z : Phases) (o : ℕ) (e : Pair) → is_later Z o e e ≡ false
not_later Z o e = later_clock Z o e e refl ∙ le-ltb e.clock e.clock (omega arith)

-- what is taken, by the test
pub takes_other : (Z : Phases) (o : ℕ) (e f : Pair) → is_later Z o f e ≡ true → later Z o e f ≡ record { pair = f; changed = true }
takes_other Z o e f t = rw t

pub takes_held : (Z : Phases) (o : ℕ) (e f : Pair) → is_later Z o f e ≡ false → later Z o e f ≡ record { pair = e; changed = false }
takes_held Z o e f t = rw t

-- CHANGED: exactly where the pair that is taken differs from the held one, in any arithmetic
pub changed_differs : (Z : Phases) (o : ℕ) (e f : Pair) → ((later Z o e f).changed ≡ true) ↔ ((later Z o e f).pair ≡ e → ⊥)
changed_differs Z o e f = (
  λ t q. true≢false (sym t ∙ ap (λ (x : Pair). is_later Z o x e) (sym (later_takes Z o e f t) ∙ q) ∙ not_later Z o e),
  go (is_later Z o f e),
)
  where
    go : (t : Bool) → (pick t f e ≡ e → ⊥) → t ≡ true
    go true d = refl
    go false d = absurd (d refl)

-- the later of two pairs lags no more, in any arithmetic
pub later_lag : (Z : Phases) (o : ℕ) (e f : Pair) → is_later Z o f e ≡ true → Z.lag o f.phase ≤ Z.lag o e.phase
unfolding later_by
later_lag Z o e f t = go (ltb (Z.lag o f.phase) (Z.lag o e.phase)) refl t
  where
    go : (u : Bool) → ltb (Z.lag o f.phase) (Z.lag o e.phase) ≡ u
        → mathlib.Core.Bool.◌||◌ u (eqb (Z.lag o f.phase) (Z.lag o e.phase) && ltb e.clock f.clock) ≡ true
        → Z.lag o f.phase ≤ Z.lag o e.phase
    go true q w = let l : Z.lag o f.phase < Z.lag o e.phase = ltb-true _ _ q in omega arith
    go false q w = let l : Z.lag o f.phase ≡ Z.lag o e.phase = eqb-true _ _ (and_true_l _ _ w) in omega arith

-- the next phase by a compare
pub next_round : (P v : ℕ) → v + 1 ≡ P → next_of P v ≡ 0
next_round P v e = ap (λ n. n % P) e ∙ mod_self P

pub next_ahead : (P v : ℕ) → v + 1 < P → next_of P v ≡ v + 1
next_ahead P v l = mod-eq_of_lt l

-- the next phase by that of a longer ring, Q: the same where it is on the ring
pub next_shorter : (P Q v : ℕ) → P ≤ Q → v < P → next_of Q v < P → next_of P v ≡ next_of Q v
next_shorter P Q v q hv l = go (dec_lt (v + 1) P)
  where
    go : Dec (v + 1 < P) → next_of P v ≡ next_of Q v
    go (yes m) = next_ahead P v m ∙ sym (next_ahead Q v (omega arith))
    go (no m) = go' (dec_lt (v + 1) Q)
      where
        go' : Dec (v + 1 < Q) → next_of P v ≡ next_of Q v
        go' (yes n) = absurd (omega (arith, m, l, next_ahead Q v n))
        go' (no n) = let e : P ≡ Q = omega arith in ap (λ n. next_of n v) e

-- and 0 where it is not
pub next_beyond : (P Q v : ℕ) → P ≤ Q → v < P → P ≤ next_of Q v → next_of P v ≡ 0
next_beyond P Q v q hv l = go (dec_lt (v + 1) P)
  where
    go : Dec (v + 1 < P) → next_of P v ≡ 0
    go (yes m) = absurd (omega (arith, l, next_ahead Q v (omega arith)))
    go (no m) = next_round P v (omega arith)

-- a pair that is not later lags no less
not_later_lag : (Z : Phases) (o : ℕ) (e f : Pair) → is_later Z o f e ≡ false → Z.lag o e.phase ≤ Z.lag o f.phase
unfolding later_by
not_later_lag Z o e f t = ltb-false _ _ (or_false_l (ltb (Z.lag o f.phase) (Z.lag o e.phase)) _ t)

-- the later of two pairs lags no more than either, in any arithmetic
pub later_least : (Z : Phases) (o : ℕ) (e f : Pair)
    → (Z.lag o (later Z o e f).pair.phase ≤ Z.lag o e.phase) × (Z.lag o (later Z o e f).pair.phase ≤ Z.lag o f.phase)
later_least Z o e f = go (is_later Z o f e) refl
  where
    go : (t : Bool) → is_later Z o f e ≡ t
        → (Z.lag o (later Z o e f).pair.phase ≤ Z.lag o e.phase) × (Z.lag o (later Z o e f).pair.phase ≤ Z.lag o f.phase)
    go true q = rw (later_takes Z o e f q) (later_lag Z o e f q, omega arith)
    go false q = rw (later_stays Z o e f q) (omega arith, not_later_lag Z o e f q)
