-- What is due first stays due, and where nothing is the book is sound.
-- Assumes nothing.
use Prim.Native.Nat.{ℕ, suc}
use mathlib.Core.Path.{◌≡◌, refl, sym, ◌∙◌}
use mathlib.Core.Bool.{Bool, true, false}
use mathlib.Core.List.{List}
use native.Mathlib.Omega.{arith}
use Rattle.tools.specs.Tests.{pick}
use Rattle.tools.proofs.Reasons.{clear}
use Rattle.rules.specs.declared.Refusal.TheVariants.{BadBook}
use Rattle.rules.specs.Numbers.{number}
use Rattle.rules.specs.Model.{no_desk}
use Rattle.book.specs.Layout.{setup_of}
use Rattle.book.specs.Sound.{sound}
use Rattle.rows.specs.Rows.{AtDesk}
use Rattle.refusals.specs.First.{asked, desk_number}
use Rattle.reasons.proofs.Held.{desk_there}

-- where BadBook is not due, the bytes are sound
pub whole_by : (h : Bool) → ◌≡◌ {A = ℕ} 0 (pick h 0 1) → h ≡ true
whole_by true e = refl
whole_by false e = absurd (omega arith)

module _ (s : List ℕ) (t : Bool) where
  -- whatever else the act may be refused for
  pub asked_due : (m n : ℕ) → n ≡ asked s t m → (n ≡ 0 → ⊥) → (r : ℕ) → n ≡ pick (sound s) (pick t m r) (number BadBook)
  asked_due m n e ne r = go (sound s) t e
    where
      go : (h t : Bool) → n ≡ pick h (pick t m 0) (number BadBook) → n ≡ pick h (pick t m r) (number BadBook)
      go true true e = e
      go true false e = absurd (ne e)
      go false t e = e

  pub asked_clear : (m : ℕ) → asked s t (suc m) ≡ 0 → (sound s ≡ true) × (t ≡ false)
  asked_clear m = go (sound s) refl
    where
      go : (h : Bool) → sound s ≡ h → pick h (pick t (suc m) 0) (number BadBook) ≡ 0 → (sound s ≡ true) × (t ≡ false)
      go true h e = (h, (clear t m 0 e).0)
      go false h e = absurd (omega arith)

-- a desk of a sound book
pub record Seated (s : List ℕ) (j : ℕ) : Type 0 where
  pub whole : sound s ≡ true
  pub desk : no_desk (setup_of s) j ≡ false
  pub at : AtDesk s j

pub seated : (s : List ℕ) (j : ℕ) → desk_number s j ≡ 0 → Seated s j
seated s j e =
    let q = asked_clear s (no_desk (setup_of s) j) 2 e in
    record { whole = q.0; desk = q.1; at = desk_there s j q.0 q.1 }

-- where a call's first question found nothing, the book is sound, and has the desk, under whatever names they go
pub there : (s t : List ℕ) (j k : ℕ) → 0 ≡ desk_number t k → s ≡ t → j ≡ k → Seated s j
there s t j k e p q = seated s j ((λ i. desk_number (p i) (q i)) ∙ sym e)
