-- A pair as one number, phase times 256 plus clock: with clocks that are bytes the later pair is the larger number.
-- Assumes nothing.
use mathlib.Core.Path.{◌≡◌, refl, sym, ◌∙◌}
use mathlib.Core.Bool.{Bool, true, false, ◌&&◌, ◌||◌}
use mathlib.Core.Logic.{inl, inr}
use Prim.Native.Nat.{ℕ, ◌+◌, ◌*◌, ◌≤◌, ◌<◌}
use native.Mathlib.Omega.{arith}
use lib.Dec.{ltb, eqb}
use borrow.Author.Tests.{eqb-true, eqb-false, ne_eqb, ltb-true, ltb-false, lt-ltb, le-ltb}
use Rattle.ring.specs.Phases.{line, Pair, Gap, later_by, lag_gap, is_later}
use Rattle.rules.specs.Model.{same_by, turn, tick}
use Rattle.history.specs.Vector.{Earlier}
use Rattle.tools.proofs.Tests.{and_true_l, and_true_r, same_by_lem, eq_by}

abbrev pub key : Pair → ℕ
key q = q.phase * 256 + q.clock

-- by the phases first, at the same phase by the clocks
key_less : (x y : Pair) → x.clock < 256 → y.clock < 256
    → (ltb x.phase y.phase || (eqb x.phase y.phase && ltb x.clock y.clock)) ≡ ltb (key x) (key y)
key_less x y cx cy = go (ltb x.phase y.phase) (eqb x.phase y.phase) refl refl
  where
    go : (t u : Bool) → ltb x.phase y.phase ≡ t → eqb x.phase y.phase ≡ u
        → (t || (u && ltb x.clock y.clock)) ≡ ltb (key x) (key y)
    go true u p q = let l : x.phase < y.phase = ltb-true _ _ p in sym (lt-ltb (key x) (key y) (omega arith))
    go false true p q =
        let e : x.phase ≡ y.phase = eqb-true _ _ q in
        same_by_lem x.clock y.clock (key x) (key y) (λ h. omega arith) (λ h. omega arith)
    go false false p q =
        let l : y.phase ≤ x.phase = ltb-false _ _ p in
        let n : x.phase ≡ y.phase → ⊥ = eqb-false _ _ q in
        sym (le-ltb (key x) (key y) (omega arith))

key_same : (x y : Pair) → x.clock < 256 → y.clock < 256
    → (eqb x.phase y.phase && eqb x.clock y.clock) ≡ eqb (key x) (key y)
key_same x y cx cy = go (eqb x.phase y.phase) refl
  where
    go : (t : Bool) → eqb x.phase y.phase ≡ t → (t && eqb x.clock y.clock) ≡ eqb (key x) (key y)
    go true p =
        let e : x.phase ≡ y.phase = eqb-true _ _ p in
        eq_by x.clock y.clock (key x) (key y) (λ h. omega arith) (λ h. omega arith)
    go false p = let n : x.phase ≡ y.phase → ⊥ = eqb-false _ _ p in sym (ne_eqb (key x) (key y) (omega arith))

-- a gap is a difference of true phases
abbrev pub Differ : Gap → ℕ → ℕ → Type 0
Differ d v v' = d.up + v ≡ d.down + v'

pub gap_key : (d : Gap) (x y : Pair) → Differ d x.phase y.phase → x.clock < 256 → y.clock < 256
    → later_by d x.clock y.clock ≡ ltb (key x) (key y)
unfolding later_by
gap_key d x y e cx cy =
    rw (
      same_by_lem d.down d.up x.phase y.phase (λ h. omega arith) (λ h. omega arith),
      eq_by d.down d.up x.phase y.phase (λ h. omega arith) (λ h. omega arith),
    )
    (key_less x y cx cy)

-- of two phases not above the desk's own, by their lags
pub later_key : (o : ℕ) (x y : Pair) → x.phase ≤ o → y.phase ≤ o → x.clock < 256 → y.clock < 256
    → is_later line o y x ≡ ltb (key x) (key y)
later_key o x y hx hy cx cy = gap_key (lag_gap line o x y) x y (omega arith) cx cy

pub same_key : (d : Gap) (x y : Pair) → Differ d x.phase y.phase → x.clock < 256 → y.clock < 256
    → same_by d x.clock y.clock ≡ eqb (key x) (key y)
same_key d x y e cx cy =
    rw (eq_by d.down d.up x.phase y.phase (λ h. omega arith) (λ h. omega arith)) (key_same x y cx cy)

pub tick_key : (q : Pair) → key q < key (tick q)
tick_key q = omega arith

pub turn_key : (q : Pair) → q.clock < 256 → key q < key (turn line q)
turn_key q h = omega arith

pub key_earlier : (p q : Pair) → p.clock < 256 → q.clock < 256 → key p < key q → Earlier p q
key_earlier p q cp cq l =
    go (ltb p.phase q.phase) refl (key_less p q cp cq ∙ lt-ltb (key p) (key q) l)
  where
    go : (t : Bool) → ltb p.phase q.phase ≡ t → (t || (eqb p.phase q.phase && ltb p.clock q.clock)) ≡ true → Earlier p q
    go true e w = inl (ltb-true _ _ e)
    go false e w =
        inr (eqb-true _ _ (and_true_l _ _ w), ltb-true _ _ (and_true_r (eqb p.phase q.phase) (ltb p.clock q.clock) w))
