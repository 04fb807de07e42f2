-- What is granted: a refusal has no slot, and the shelf alone is asked for the slot of a kept event.
-- Assumes nothing.
use Prim.Native.Nat.{ℕ, zero, suc}
use mathlib.Core.Path.{◌≡◌, refl, sym, ap, ◌∙◌}
use mathlib.Core.Bool.{Bool, true, false}
use mathlib.Core.List.{List}
use native.Mathlib.Omega.{arith}
use Rattle.std.proofs.Common.{Option, None}
use Rattle.tools.specs.Tests.{pick}
use Rattle.rules.specs.declared.Refusal.{Refusal}
use Rattle.rules.proofs.Once.{not_done}
use Rattle.rules.specs.Numbers.{number}
use Rattle.rules.specs.Model.{Act, no_shelf, no_desk}
use Rattle.book.specs.Layout.{shelf_from, setup_of}
use Rattle.book.specs.Sound.{sound}
use Rattle.book.specs.Numbers.{tables_of, number_of}
use Rattle.reasons.specs.Held.{free_place}
use Rattle.refusals.specs.First.{desk_number}
use Rattle.refusals.proofs.First.{asked_due}
use Rattle.refusals.specs.Grants.{Grant, granted, grant, shelf_grant, grant_of}

-- what a desk's first question refuses is granted nothing
pub refused_first : (s : List ℕ) (j : ℕ) (c : Act) (q : Bool) (r : Refusal) (rest : ℕ) → number r ≡ desk_number s j
    → pick (sound s) (pick (no_desk (setup_of s) j) 3 rest) 1 ≡ number_of s c → granted (number r) None ≡ grant_of s c q
refused_first s j c q r rest e f =
    go (number r) (not_done r)
    (asked_due s (no_desk (setup_of s) j) 3 (number r) e (not_done r) rest ∙ f)
  where
    go : (n : ℕ) → (n ≡ 0 → ⊥) → n ≡ number_of s c → granted n None ≡ grant_of s c q
    go zero ne e = absurd (ne refl)
    go (suc n) ne e = ap (λ (m : ℕ). grant s m q) e

-- where the shelf alone grants a slot, it refuses nothing
pub shelf_clear : (s : List ℕ) (q : Bool) (o : Option ℕ) → granted 0 o ≡ shelf_grant s q → no_shelf (tables_of s) q ≡ false
shelf_clear s q o e = go (no_shelf (tables_of s) q) (ap (λ (g : Grant). g.number) e)
  where
    go : (t : Bool) → ◌≡◌ {A = ℕ} 0 (pick t 10 0) → t ≡ false
    go true e = absurd (omega arith)
    go false e = refl

-- what a grant says
module _ (s : List ℕ) (c : Act) (q : Bool) (g : Grant) (e : g ≡ grant_of s c q) where
  pub grant_number : g.number ≡ number_of s c
  grant_number = ap (λ (g : Grant). g.number) e

  pub grant_slot : g.number ≡ 0 → g.slot ≡ pick q (free_place s shelf_from) None
  grant_slot z =
      ap (λ (g : Grant). g.slot) e
      ∙ ap (λ (n : ℕ). (grant s n q).slot) (sym grant_number ∙ z)
