-- The reach of a comparison in plain numbers: from a stamp that is no reset's d lies from -(m-1) to n-1, from a reset's, whose own
-- clock is 0, from -m to n-1. On the ring at most one difference within it comes to r.
-- Assumes nothing.
use Prim.Native.Nat.{ℕ, ◌+◌, ◌≤◌, ◌<◌}
use mathlib.Core.Path.{◌≡◌, refl, ap}
use mathlib.Core.Bool.{Bool, true, false, ◌&&◌, true≢false}
use mathlib.Core.Option.{none, some}
use mathlib.Core.Logic.{◌↔◌}
use native.Mathlib.Omega.{arith}
use lib.Dec.{ltb, eqb}
use borrow.Author.Tests.{eq-eqb, ne_eqb, ltb-true, lt-ltb, le-ltb}
use Rattle.tools.specs.Tests.{pick}
use Rattle.tools.proofs.Tests.{and_false}
use Rattle.tools.proofs.Tables.{some_is, none_some}
use Rattle.ring.specs.Phases.{Gap}
use Rattle.ring.proofs.Ring.{ComesTo, comes_once}
use Rattle.rules.specs.Setups.{Setup, permits}
use Rattle.rules.specs.Model.{reach_back, near, is_out}
use Rattle.rules.proofs.Setups.{Permitted, permitted}

-- how far back: m from an event whose own clock is above 0, a phase further from a reset, whose own clock is 0
pub back_event : (X : Setup) (c : ℕ) → 0 < c → reach_back X (eqb c 0) ≡ X.back
unfolding reach_back
back_event X c l = rw (ne_eqb c 0 (omega arith))

pub back_reset : (X : Setup) (c : ℕ) → c ≡ 0 → reach_back X (eqb c 0) ≡ X.back + 1
unfolding reach_back
back_reset X c q = rw (eq-eqb c 0 q)

pub reach_most : (X : Setup) (t : Bool) (r : ℕ) → r ≡ reach_back X t → r ≤ X.back + 1
unfolding reach_back
reach_most X true r q = omega (arith, q)
reach_most X false r q = omega (arith, q)

-- under a permitted setup a stamp reaches its own phase, and the whole reach is no longer than the ring
pub reach_own : (X : Setup) → Permitted X → (t : Bool) → 1 ≤ reach_back X t
unfolding reach_back
reach_own X ok true = let b = ok.back in omega arith
reach_own X ok false = ok.back

pub reach_round : (X : Setup) → Permitted X → (t : Bool) → reach_back X t + X.ahead ≤ X.phases + 1
reach_round X ok t = omega (arith, ok.reach, reach_most X t (reach_back X t) refl)

module _ (X : Setup) (c : ℕ) (d : Gap) where
  abbrev back : ℕ
  back = reach_back X (eqb c 0)

  pub near_in : d.up < d.down + X.ahead → d.down < d.up + back → near X c d ≡ some d
  near_in a b = rw (lt-ltb d.up (d.down + X.ahead) a, lt-ltb d.down (d.up + back) b)

  pub near_ahead : d.down + X.ahead ≤ d.up → near X c d ≡ none
  near_ahead a = rw (le-ltb d.up (d.down + X.ahead) a)

  pub near_back : d.up + back ≤ d.down → near X c d ≡ none
  near_back b = rw (le-ltb d.down (d.up + back) b, and_false (ltb d.up (d.down + X.ahead)))

  pub in_near : is_out (near X c d) ≡ false → (d.up < d.down + X.ahead) × (d.down < d.up + back)
  in_near = go (ltb d.up (d.down + X.ahead)) (ltb d.down (d.up + back)) refl refl
    where
      go : (p q : Bool) → ltb d.up (d.down + X.ahead) ≡ p → ltb d.down (d.up + back) ≡ q
          → is_out (pick (p && q) (some d) none) ≡ false → (d.up < d.down + X.ahead) × (d.down < d.up + back)
      go true true p q e = (ltb-true _ _ p, ltb-true _ _ q)
      go true false p q e = absurd (true≢false e)
      go false q p q' e = absurd (true≢false e)

  -- it is no other difference
  pub near_some : (g : Gap) → near X c d ≡ some g → d ≡ g
  near_some g = go (ltb d.up (d.down + X.ahead) && ltb d.down (d.up + back))
    where
      go : (t : Bool) → pick t (some d) none ≡ some g → d ≡ g
      go true q = some_is q
      go false q = absurd (none_some q)

  -- THE REACH of an event that is no reset, and of a reset
  pub event_reach : 0 < c → (near X c d ≡ some d) ↔ ((d.up < d.down + X.ahead) × (d.down < d.up + X.back))
  event_reach l =
      let b = back_event X c l in
      (λ e. let r = in_near (ap is_out e) in (r.0, omega (arith, r.1, b)), λ r. near_in r.0 (omega (arith, r.1, b)))

  pub reset_reach_lem : c ≡ 0 → (near X c d ≡ some d) ↔ ((d.up < d.down + X.ahead) × (d.down ≤ d.up + X.back))
  reset_reach_lem q =
      let b = back_reset X c q in
      (λ e. let r = in_near (ap is_out e) in (r.0, omega (arith, r.1, b)), λ r. near_in r.0 (omega (arith, r.1, b)))

-- AT MOST ONE difference within reach comes to r, from one stamp under one permitted setup
pub reach_once : (X : Setup) → permits X ≡ true → (c r : ℕ) (d d' : Gap) → near X c d ≡ some d → near X c d' ≡ some d'
    → ComesTo X.phases r d → ComesTo X.phases r d' → d.up + d'.down ≡ d'.up + d.down
reach_once X fair c r d d' n n' f f' =
    let i = in_near X c d (ap is_out n) in
    let i' = in_near X c d' (ap is_out n') in
    let w = reach_round X (permitted X fair) (eqb c 0) in
    comes_once X.phases r d d' f f' (omega (arith, i, i', w)) (omega (arith, i, i', w))
