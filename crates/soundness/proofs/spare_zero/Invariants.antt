use Rattle.std.proofs.Common.{◌≡◌}
use Rattle.tools.specs.Tests.{all_below}
use Rattle.book.specs.Sound.{spare_zero}
use Rattle.soundness.proofs.spare_zero.Given as goal

abbrev pub invariant-loop-i : goal.invariant-loop-i
invariant-loop-i l = l.ok ≡ all_below l.i (spare_zero l.book)
