-- Slots in the bytes of a book.
-- Assumes nothing.
--   WayBetween s i k w     w is the way from the stamp in slot i of the bytes s to that in slot k
--   record_for s k room    the stamp record that write of slot k fills in, where it has so many bytes of room
use Rattle.std.specs.Prelude.{ℕ, List}
use Rattle.rules.specs.Model.{write, by_in, row_in, gap_from}
use Rattle.rules.specs.Calls.{on, ring_of}
use Rattle.book.specs.Layout.{setup_of}
use Rattle.book.specs.Answers.{answer_to, record_in}
use Rattle.book.specs.Numbers.{tables_of}
use Rattle.comparing.specs.declared.Way.{Way}
use Rattle.comparing.specs.Ways.{WayOf}

abbrev pub WayBetween : List ℕ → ℕ → ℕ → Way → Type 0
WayBetween s i k w =
    WayOf (setup_of s) (gap_from (ring_of (setup_of s)) (setup_of s) (tables_of s) i k) (by_in ((tables_of s).shelf i))
    (row_in ((tables_of s).shelf i)) (row_in ((tables_of s).shelf k)) w

abbrev pub record_for : List ℕ → ℕ → ℕ → List ℕ
record_for s k room = record_in (setup_of s).desks (answer_to s (on (write k room))).value
