-- A record that is freed.
-- Assumes nothing.
--   cleared s k       the bytes s with 18 zeros behind the mark of record k
--   free_after s a p  the bytes that are left where the p-th of the records from record a on is to be freed: the same ones where
--                     that is refused
use Rattle.std.specs.Prelude.{ℕ, ◌+◌, List}
use Rattle.tools.specs.Reasons.{if_done}
use Rattle.rules.specs.Model.{zeros}
use Rattle.rules.specs.Replies.{row_bytes}
use Rattle.book.specs.Layout.{post}
use Rattle.refusals.specs.First.{used_number}

abbrev pub cleared : List ℕ → ℕ → List ℕ
cleared s k = post s k 0 0 (row_bytes zeros)

abbrev pub free_after : List ℕ → ℕ → ℕ → List ℕ
free_after s a p = if_done (used_number s a p) (cleared s (a + p)) s
