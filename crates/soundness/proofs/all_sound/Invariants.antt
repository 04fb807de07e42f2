use Rattle.std.proofs.Common.{◌≡◌}
use Rattle.ring.specs.Phases.{lag_of}
use Rattle.tools.specs.Tests.{all_below}
use Rattle.book.specs.Sound.{record_sound}
use Rattle.soundness.proofs.all_sound.Given as goal

abbrev pub invariant-loop-k : goal.invariant-loop-k
invariant-loop-k g l = l.ok ≡ all_below l.k (record_sound lag_of l.book)
