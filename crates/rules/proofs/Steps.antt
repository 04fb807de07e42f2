-- The number of a step is that of its refusal, and a refused step changes nothing.
-- Assumes nothing.
use mathlib.Core.Path.{◌≡◌, refl, ap, ◌∙◌}
use Prim.Native.Nat.{ℕ, zero, suc}
use Rattle.ring.specs.Phases.{Phases}
use Rattle.rules.specs.Setups.{Setup}
use Rattle.rules.specs.Model.{Tables, Act, local, reset, send, receive, drop, discard, ask, refusal}
use Rattle.rules.specs.Model.{Result, step, done, why, settle}

module _ (Z : Phases) (X : Setup) (b : Tables) (c : Act) where
  done_zero : (c : Act) → (done Z X b c).answer.number ≡ 0
  unfolding done
  done_zero (local j q) = refl
  done_zero (send j k q) = refl
  done_zero (receive j p q) = refl
  done_zero (reset j q) = refl
  done_zero (drop s) = refl
  done_zero (discard p) = refl
  done_zero (ask q) = refl

  pub step_number : (step Z X b c).answer.number ≡ why Z X b c
  unfolding step
  step_number = go (why Z X b c)
    where
      go : (n : ℕ) → (settle n b (done Z X b c)).answer.number ≡ n
      go zero = done_zero c
      go (suc n) = refl

  -- a refusal is its number only, and the tables as they were
  pub step_only : ((step Z X b c).answer.number ≡ 0 → ⊥)
      → step Z X b c ≡ record { answer = refusal (step Z X b c).answer.number; tables = b }
  unfolding step
  step_only ne = go (why Z X b c) refl
    where
      go : (n : ℕ) → why Z X b c ≡ n
          → settle n b (done Z X b c) ≡ record { answer = refusal (settle n b (done Z X b c)).answer.number; tables = b }
      go zero e = absurd (ne (step_number ∙ e))
      go (suc n) e = refl

  pub step_refused : ((step Z X b c).answer.number ≡ 0 → ⊥) → (step Z X b c).tables ≡ b
  step_refused ne = ap (λ (r : Result). r.tables) (step_only ne)
