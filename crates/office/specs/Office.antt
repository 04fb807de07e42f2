-- What a call of the office answers, and every byte that it leaves of the book and of the papers beside it.
-- Assumes nothing. In words: docs/RULES.md, "The office".
--   Folder             the book and the papers beside it, all of them bytes; a further paper is a further part
--   folder s m         the book s with the summary m
--   summary_at f c     the summary at the call c: it is made anew of the book that the call leaves
--   papers_at f c      the papers that the call c asks; a question asks none
--   office_reasons f c   when which number is given: BadBook, the call's own reasons, those of the papers
--   office_answer f c  the answer to the call c: the book's, but for the papers' reasons, which come last
--   folder_after f c   the book and the papers that the call c leaves: as they were where it is refused
--   RightAll f         every paper is right of the book
use Rattle.std.specs.Prelude.{ℕ, not, List, [], ◌∷◌, ◌++◌}
use Rattle.tools.specs.Tests.{pick}
use Rattle.tools.specs.Reasons.{Reason, if_done}
use Rattle.rules.specs.declared.Refusal.TheVariants.{BadBook}
use Rattle.rules.specs.Numbers.{given}
use Rattle.rules.specs.Model.{Answer}
use Rattle.rules.specs.Calls.{Call, alters, ring_of, reasons_of}
use Rattle.book.specs.Codec.{decode}
use Rattle.book.specs.Answers.{admits, answer_to, book_after}
use Rattle.summary.specs.Summary.{summary_due, summary_of, Right}
use Rattle.office.specs.Papers.{Paper, asked, papers_number, together, left}

pub record Folder : Type 0 where
  pub book : List ℕ
  pub summary : List ℕ

abbrev pub folder : List ℕ → List ℕ → Folder
folder s m = record { book = s; summary = m }

abbrev pub summary_at : Folder → Call → Paper
summary_at f c =
    record {
      reasons = summary_due f.summary;
      before = f.summary;
      after = pick (alters c) (summary_of ring_of (decode (book_after f.book c))) f.summary;
    }

abbrev pub papers_at : Folder → Call → List Paper
papers_at f c = pick (alters c) (summary_at f c ∷ []) []

abbrev pub office_reasons : Folder → Call → List Reason
office_reasons f c = given BadBook (not (admits f.book c)) ∷ reasons_of ring_of (decode f.book) c ++ asked (papers_at f c)

unfoldable pub office_answer : Folder → Call → Answer
office_answer f c = together (papers_number (papers_at f c)) (answer_to f.book c)

unfoldable pub folder_after : Folder → Call → Folder
folder_after f c =
    let n = (office_answer f c).number in
    record { book = if_done n (book_after f.book c) f.book; summary = left n (summary_at f c) }

abbrev pub RightAll : Folder → Type 0
RightAll f = Right f.book f.summary
