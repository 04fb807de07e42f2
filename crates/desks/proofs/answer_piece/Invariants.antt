-- What holds at each turn of the loop of `answer_piece`: the bytes before `at` are taken in, and what they print is written. Its measure is
-- what is left of the piece.
use Rattle.std.proofs.Common.{length, ◌-◌}
use Rattle.std.specs.Io.KnownBytes.{Appends}
use Rattle.text.specs.Stream.{held, line_of}
use Rattle.office.specs.Office.{folder}
use Rattle.listing.specs.Feeding.{fed_text, Feeds}
use Rattle.desks.proofs.answer_piece.Given as goal

abbrev pub invariant-loop-at : goal.invariant-loop-at
invariant-loop-at g l = record {
  feeds : Feeds (held (folder l.fn.book l.fn.summary) (line_of l.fn.pending)) l.piece l.at (folder l.book l.summary) (line_of l.pending);
  wrote : Appends (g.W.Write.contents l.fn.output) (g.W.Write.contents l.output)
      (fed_text (held (folder l.fn.book l.fn.summary) (line_of l.fn.pending)) l.piece l.at);
}

abbrev pub decreases-loop-at : goal.decreases-loop-at
decreases-loop-at g l = length l.piece - l.at
