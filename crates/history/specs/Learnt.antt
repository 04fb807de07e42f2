-- What an event tells its desk, over a log.
-- Assumes nothing. In words: docs/RULES.md, "As if phases never came round".
--   JustBefore h e f     f is the event before e at e's desk
--   Knew h e x           before e its desk knew of the event x: x is the desk's event just before e, or leads to it
--   Tells h e k          e tells its desk of desk k: an event of k, of which it did not know before, is e or leads to e
--   LearntSaid D h e a   a says of how many of D desks, its own left out, e tells its desk
use Rattle.std.specs.Prelude.{◌≡◌, Bool, true, ◌↔◌, ℕ, ◌≤◌, ◌<◌}
use Rattle.std.proofs.Math.Option.{some}
use Rattle.tools.specs.Tests.{count}
use Rattle.rules.specs.Model.{Answer}
use Rattle.history.specs.History.{Log}
use Rattle.history.specs.Vector.{Upto}

abbrev pub JustBefore : Log → ℕ → ℕ → Type 0
JustBefore h e f = (f < e) × (h.desk f ≡ h.desk e) × ((g : ℕ) → g < e → h.desk g ≡ h.desk e → g ≤ f)

abbrev pub Knew : Log → ℕ → ℕ → Type 0
Knew h e x = (f : ℕ) × JustBefore h e f × Upto h x f

abbrev pub Tells : Log → ℕ → ℕ → Type 0
Tells h e k = (x : ℕ) × (h.desk x ≡ k) × Upto h x e × (Knew h e x → ⊥)

-- told picks out the desks that are counted
pub record LearntSaid (D : ℕ) (h : Log) (e : ℕ) (a : Answer) : Type 0 where
  pub told : ℕ → Bool
  pub is : (k : ℕ) → (told k ≡ true) ↔ ((k ≡ h.desk e → ⊥) × Tells h e k)
  pub said : a.value.learnt ≡ some (count D told)
