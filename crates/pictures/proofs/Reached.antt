-- The least and the largest lag within reach, and which of two pairs is later, over plain numbers.
-- Assumes nothing.
--   band_near   a lag is below the least or above the largest exactly where it is out of reach
--   later_if    at equal lags the clocks decide, else the lags
use Prim.Native.Nat.{ℕ, ◌+◌, ◌-◌, ◌≤◌, ◌<◌}
use mathlib.Core.Path.{◌≡◌, refl, sym, ap, ◌∙◌}
use mathlib.Core.Bool.{Bool, true, false, not, ◌&&◌, ◌||◌, or-false}
use mathlib.Core.Option.{none, some}
use mathlib.Core.Logic.{◌⊎◌, inl, inr}
use native.Mathlib.Omega.{arith}
use borrow.Author.Tests.{lt-ltb, le-ltb, eq-eqb, ne_eqb}
use lib.Dec.{ltb, eqb}
use Rattle.tools.specs.Tests.{pick}
use Rattle.tools.proofs.Tests.{lt_or_le, eq_or_ne}
use Rattle.ring.specs.Phases.{Gap, later_by}
use Rattle.rules.specs.Setups.{Setup}
use Rattle.rules.specs.Model.{reach_back, near, is_out}
use Rattle.pictures.specs.Froms.{most_by}

-- two tests, one of which holds just where the other does not
opposite : (a b c d : ℕ) → (a < b → d ≤ c) → (b ≤ a → c < d) → ltb a b ≡ not (ltb c d)
opposite a b c d f g = go (lt_or_le a b)
  where
    go : (a < b) ⊎ (b ≤ a) → ltb a b ≡ not (ltb c d)
    go (inl l) = lt-ltb a b l ∙ ap not (sym (le-ltb c d (f l)))
    go (inr l) = le-ltb a b l ∙ ap not (sym (lt-ltb c d (g l)))

not_both : (a b : Bool) → (not a || not b) ≡ not (a && b)
not_both true b = refl
not_both false b = refl

out_is : (t : Bool) (d : Gap) → is_out (pick t (some d) none) ≡ not t
out_is true d = refl
out_is false d = refl

module _ (up down : ℕ) where
  least_is : (ahead : ℕ) → ltb down (up + 1 - ahead) ≡ not (ltb up (down + ahead))
  least_is ahead = opposite down (up + 1 - ahead) up (down + ahead) (λ l. omega arith) (λ l. omega arith)

  most_is : (back : ℕ) → 1 ≤ back → down ≤ 255 → ltb (most_by up back) down ≡ not (ltb down (up + back))
  most_is back h b = go (lt_or_le (up + back) 256)
    where
      go : (up + back < 256) ⊎ (256 ≤ up + back) → ltb (most_by up back) down ≡ not (ltb down (up + back))
      go (inl l) =
          ap (λ t. ltb (pick t (up + back - 1) 255) down) (lt-ltb (up + back) 256 l)
          ∙ opposite (up + back - 1) down down (up + back) (λ q. omega arith) (λ q. omega arith)
      go (inr l) =
          ap (λ t. ltb (pick t (up + back - 1) 255) down) (le-ltb (up + back) 256 l)
          ∙ opposite 255 down down (up + back) (λ q. omega arith) (λ q. omega arith)

  pub band_near : (X : Setup) (c : ℕ) → 1 ≤ X.back → down ≤ 255
      → (ltb down (up + 1 - X.ahead) || ltb (most_by up (reach_back X (eqb c 0))) down)
      ≡ is_out (near X c (record { up = up; down = down }))
  unfolding reach_back
  band_near X c h b =
      (λ i. least_is X.ahead i || most_is (reach_back X (eqb c 0)) (further (eqb c 0)) b i)
      ∙ not_both (ltb up (down + X.ahead)) (ltb down (up + reach_back X (eqb c 0)))
      ∙ sym (out_is (ltb up (down + X.ahead) && ltb down (up + reach_back X (eqb c 0))) (record { up = up; down = down }))
    where
      further : (t : Bool) → 1 ≤ reach_back X t
      further true = omega arith
      further false = h

  pub later_if : (e f : ℕ) → later_by (record { up = up; down = down }) e f ≡ pick (eqb down up) (ltb e f) (ltb down up)
  unfolding later_by
  later_if e f = go (eq_or_ne down up)
    where
      go : (down ≡ up) ⊎ (down ≡ up → ⊥) → (ltb down up || (eqb down up && ltb e f)) ≡ pick (eqb down up) (ltb e f) (ltb down up)
      go (inl q) = rw (eq-eqb down up q, le-ltb down up (omega arith))
      go (inr q) = rw (ne_eqb down up q, or-false)
