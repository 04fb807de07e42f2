-- A run of calls over bytes, or of the office over the book and the papers beside it, and the same calls with phases that never come
-- round.
-- Assumes nothing.
--   bytes_after s cs    the bytes that the calls cs leave, from the bytes s on
--   answers_on s cs     what each of the calls is answered on the bytes
--   folder_left f cs    the book and the papers that the calls cs of the office leave, from the folder f on
--   office_answers f cs what each of the calls is answered by the office
--   line_answer t c     what the call c is answered in the state t of the line, its phases come round
--   line_answers t cs   what each of the calls is answered on the line, its phases come round
--   line_summary t      the summary of the line's book in the state t
use Rattle.std.specs.Prelude.{ℕ, List, [], ◌∷◌}
use Rattle.rules.specs.Model.{Answer}
use Rattle.rules.specs.Calls.{Call, line_of, call}
use Rattle.history.specs.History.{State, next}
use Rattle.history.specs.Round.{round_answer}
use Rattle.book.specs.Answers.{answer_to, book_after}
use Rattle.summary.specs.Summary.{summary_of}
use Rattle.office.specs.Office.{Folder, office_answer, folder_after}

unfoldable pub bytes_after : List ℕ → List Call → List ℕ
bytes_after s [] = s
bytes_after s (c ∷ cs) = bytes_after (book_after s c) cs

unfoldable pub answers_on : List ℕ → List Call → List Answer
answers_on s [] = []
answers_on s (c ∷ cs) = answer_to s c ∷ answers_on (book_after s c) cs

unfoldable pub folder_left : Folder → List Call → Folder
folder_left f [] = f
folder_left f (c ∷ cs) = folder_left (folder_after f c) cs

unfoldable pub office_answers : Folder → List Call → List Answer
office_answers f [] = []
office_answers f (c ∷ cs) = office_answer f c ∷ office_answers (folder_after f c) cs

abbrev pub line_answer : State → Call → Answer
line_answer t c = round_answer t.book.setup.phases (call line_of t.book c).answer

unfoldable pub line_answers : State → List Call → List Answer
line_answers t [] = []
line_answers t (c ∷ cs) = line_answer t c ∷ line_answers (next t c) cs

abbrev pub line_summary : State → List ℕ
line_summary t = summary_of line_of t.book
