-- Laws of any list of papers: when none refuses, and how their number goes with the book's.
-- Assumes nothing.
--   first_of_two    of two lists of reasons that rise, the first that holds
--   papers_ready    the papers' number is 0 exactly where no paper refuses
--   together_which  the number of the two
--   together_both   a call is accepted exactly where the book accepts it and the papers' number is 0
--   together_same   an accepted one is answered as the book answers
use Prim.Native.Nat.{ℕ, zero, suc, ◌<◌}
use mathlib.Core.Path.{◌≡◌, refl, sym}
use mathlib.Core.Bool.{Bool, true, false}
use mathlib.Core.List.{List, [], ◌∷◌, ◌++◌}
use mathlib.Core.Logic.{◌↔◌}
use native.Mathlib.Omega.{arith}
use borrow.Author.Tests.{ltb-true}
use lib.Dec.{ltb}
use Rattle.tools.specs.Tests.{pick}
use Rattle.tools.specs.Reasons.{Reason, first, if_done, rises}
use Rattle.tools.proofs.Tests.{and_true_l, and_true_r}
use Rattle.tools.proofs.Reasons.{if_undone, first_smallest}
use Rattle.rules.specs.Model.{Answer, refusal}
use Rattle.office.specs.Papers.{Paper, asked, papers_number, together, Ready}

pub first_of_two : (lo : ℕ) (rs qs : List Reason) → rises lo rs ≡ true → first (rs ++ qs) ≡ if_done (first rs) (first qs) (first rs)
first_of_two lo [] qs h = refl
first_of_two lo (r ∷ rs) qs h =
    go r.holds (ltb-true lo r.number (and_true_l _ _ h)) (first_of_two r.number rs qs (and_true_r (ltb lo r.number) _ h))
  where
    go : (t : Bool) → lo < r.number → first (rs ++ qs) ≡ if_done (first rs) (first qs) (first rs)
        → pick t r.number (first (rs ++ qs)) ≡ if_done (pick t r.number (first rs)) (first qs) (pick t r.number (first rs))
    go true l ih = sym (if_undone r.number (first qs) r.number (λ z. omega arith))
    go false l ih = ih

pub papers_ready : (ps : List Paper) (lo : ℕ) → rises lo (asked ps) ≡ true → (papers_number ps ≡ 0) ↔ Ready ps
papers_ready ps lo h = (first_smallest (asked ps) lo h).none

-- the book's refusal comes before the papers'
pub together_first : (n : ℕ) (a : Answer) → (a.number ≡ 0 → ⊥) → together n a ≡ a
together_first n a ne = if_undone a.number (if_done n a (refusal n)) a ne

pub together_both : (n : ℕ) (a : Answer) → ((together n a).number ≡ 0) ↔ ((a.number ≡ 0) × (n ≡ 0))
together_both n a = go a.number refl n
  where
    go : (k : ℕ) → a.number ≡ k → (n : ℕ) → ((if_done k (if_done n a (refusal n)) a).number ≡ 0) ↔ ((a.number ≡ 0) × (n ≡ 0))
    go zero e zero = (λ z. (e, refl), λ z. e)
    go zero e (suc n) = (λ z. absurd (omega arith), λ z. absurd (omega (arith, z.1)))
    go (suc k) e n = (λ z. absurd (omega arith), λ z. absurd (omega (arith, z.0)))

-- its number: the book's, or where that is 0 the papers'
pub together_which : (n : ℕ) (a : Answer) → (together n a).number ≡ if_done a.number n a.number
together_which n a = go a.number refl n
  where
    go : (k : ℕ) → a.number ≡ k → (n : ℕ) → (if_done k (if_done n a (refusal n)) a).number ≡ if_done k n a.number
    go zero e zero = e
    go zero e (suc n) = refl
    go (suc k) e n = refl

pub together_same : (a : Answer) → together 0 a ≡ a
together_same a = go a.number
  where
    go : (k : ℕ) → if_done k a a ≡ a
    go zero = refl
    go (suc k) = refl

-- where the book accepts, a paper that is not ready is a refusal
pub together_last : (n : ℕ) (a : Answer) → a.number ≡ 0 → (n ≡ 0 → ⊥) → together n a ≡ refusal n
together_last n a e ne = go n ne
  where
    go : (n : ℕ) → (n ≡ 0 → ⊥) → together n a ≡ refusal n
    go zero ne = absurd (ne refl)
    go (suc n) ne = rw e

-- and where the book's number is 0, the papers' is given
pub together_number : (n k : ℕ) → k ≡ 0 → n ≡ (together n (refusal k)).number
together_number zero k e = rw e
together_number (suc n) k e = rw e
