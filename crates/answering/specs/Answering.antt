-- What a line of the listing prints on a book with the papers beside it, and what it leaves of them.
-- Assumes nothing.
--   may_on f d        the answer to may at desk d by the summary held and the setup that the book tells; bytes of another length tell none
--   answer_of f o     what a line that wants o is answered; one that wants nothing is a BadLine
--   folder_of f o     the book and the papers after it: may and a BadLine change none
--   wanted_text f o   what a line that wants o prints
--   line_text f l     what a line of bytes prints
--   line_folder f l   the book and the papers after a line
--   answering         both, as a stream of lines has them
use Rattle.std.specs.Prelude.{ℕ, List, eqb, length}
use Rattle.std.proofs.Math.Option.{Option, none, some}
use Rattle.tools.specs.Tests.{pick}
use Rattle.rules.specs.Model.{Answer, refusal}
use Rattle.rules.specs.declared.Refusal.TheVariants.{BadSetup, BadLine}
use Rattle.rules.specs.Numbers.{number}
use Rattle.book.specs.Layout.{book_size, setup_of}
use Rattle.book.specs.Codec.{decode}
use Rattle.summary.specs.May.{may_of}
use Rattle.office.specs.Office.{Folder, office_answer, folder_after}
use Rattle.text.specs.Stream.{Answers}
use Rattle.commands.specs.Lines.{Wanted, makes, asks_may, parse_of}
use Rattle.replies.specs.Print.{answer_text}

abbrev pub may_on : Folder → ℕ → Answer
may_on f d = pick (eqb (length f.book) book_size) (may_of (setup_of f.book) f.summary d) (refusal (number BadSetup))

abbrev pub answer_of : Folder → Option Wanted → Answer
answer_of f none = refusal (number BadLine)
answer_of f (some (makes c)) = office_answer f c
answer_of f (some (asks_may d)) = may_on f d

abbrev pub folder_of : Folder → Option Wanted → Folder
folder_of f none = f
folder_of f (some (makes c)) = folder_after f c
folder_of f (some (asks_may d)) = f

abbrev pub wanted_text : Folder → Option Wanted → List ℕ
wanted_text f o = answer_text (decode f.book).setup.desks (answer_of f o)

unfoldable pub line_text : Folder → List ℕ → List ℕ
line_text f l = wanted_text f (parse_of l)

unfoldable pub line_folder : Folder → List ℕ → Folder
line_folder f l = folder_of f (parse_of l)

abbrev pub answering : Answers Folder
answering = record { says = line_text; leaves = line_folder }
