-- Papers that stand beside the book: why they refuse a change, and what becomes of them. What is said here is said of any list of them.
-- Assumes nothing. In words: docs/RULES.md, "The office".
--   Paper             a paper at a change: why it refuses it, its bytes as they are, its bytes once the change is accepted
--   asked ps          the reasons of the papers ps, those of the first paper first
--   papers_number ps  the number of the first that holds; 0 where every paper is ready
--   together n a      the answer of the call where the book answers a and the papers' number is n: the book's refusal first
--   left n p          the bytes of a paper p after a change that is answered the number n
--   Ready ps          no paper refuses: no reason of theirs holds
use Rattle.std.specs.Prelude.{ℕ, List, [], ◌∷◌, ◌++◌}
use Rattle.tools.specs.Reasons.{Reason, first, if_done, Holds}
use Rattle.rules.specs.Model.{Answer, refusal}

pub record Paper : Type 0 where
  pub reasons : List Reason
  pub before : List ℕ
  pub after : List ℕ

abbrev pub asked : List Paper → List Reason
asked [] = []
asked (p ∷ ps) = p.reasons ++ asked ps

abbrev pub papers_number : List Paper → ℕ
papers_number ps = first (asked ps)

abbrev pub together : ℕ → Answer → Answer
together n a = if_done a.number (if_done n a (refusal n)) a

abbrev pub left : ℕ → Paper → List ℕ
left n p = if_done n p.after p.before

abbrev pub Ready : List Paper → Type 0
Ready ps = (n : ℕ) → Holds (asked ps) n → ⊥
