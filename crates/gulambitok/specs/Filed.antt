-- The C interface of the office: start and every change, made with the book and the papers beside it.
-- Assumes nothing. In words: docs/RULES.md, "C interface".
--   Files c f f' ls n   what a caller gets who lends ls to the call c of the office with the book and the papers f: the number n, every
--                    byte of ls, and f', every byte of book and papers afterwards, which are as they were where one of ls is too short
use Rattle.std.specs.Prelude.{ℕ, List}
use Rattle.rules.specs.Calls.{Call}
use Rattle.office.specs.Office.{Folder, office_answer, folder_after}
use Rattle.door.specs.Door.{Lent, Leaves}

abbrev pub Files : Call → Folder → Folder → List Lent → ℕ → Type 0
Files c f f' ls n = Leaves (office_answer f c) f (folder_after f c) f' ls n
