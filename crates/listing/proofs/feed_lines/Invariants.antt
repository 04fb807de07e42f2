use Rattle.text.specs.Put.{Wrote}
use Rattle.text.specs.Stream.{Ends, start, after}
use Rattle.office.specs.Office.{folder}
use Rattle.answering.specs.Answering.{answering}
use Rattle.listing.specs.Feeding.{fed_text}
use lib.ListN.{length, take}
use mathlib.Core.Path.{◌≡◌}
use Prim.Native.Nat.{◌-◌}
use Rattle.listing.proofs.feed_lines.Given as goal

-- The lines before `from` are answered, and `stop` ends the one that begins there.
abbrev pub invariant-loop-stop : goal.invariant-loop-stop
invariant-loop-stop l = record {
  ends : Ends l.piece l.from l.stop;
  wrote : Wrote l.initial.out l.at (fed_text (start (folder l.initial.book l.initial.summary)) l.piece l.from) l.out l.end;
  left : after answering (start (folder l.initial.book l.initial.summary)) (take l.from l.piece) ≡ start (folder l.book l.summary);
}

abbrev pub decreases-loop-stop : goal.decreases-loop-stop
decreases-loop-stop l = length l.piece - l.stop
