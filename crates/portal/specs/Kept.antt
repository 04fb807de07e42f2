-- The row of an event, in its seat and where it is kept.
-- Assumes nothing.
--   row_taken s j row   the bytes s with the bytes of a row in seat j, which is started; its limit stays
--   shelved s j row k   the bytes s with the bytes of a row of desk j in the slot k; s where there is none
use Rattle.std.specs.Prelude.{ℕ, ◌+◌, List, Option, None, Some}
use Rattle.tools.specs.Lists.{byte}
use Rattle.book.specs.Layout.{shelf_from, tag_b_spot, spot, post}

abbrev pub row_taken : List ℕ → ℕ → List ℕ → List ℕ
row_taken s j row = post s j 1 (byte s (spot j tag_b_spot)) row

abbrev pub shelved : List ℕ → ℕ → List ℕ → Option ℕ → List ℕ
shelved s j row None = s
shelved s j row (Some k) = post s (shelf_from + k) (j + 1) 0 row
