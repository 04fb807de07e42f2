use Rattle.std.proofs.Common.{◌≡◌, ◌+◌, leb}
use Rattle.tools.specs.Tests.{all_below}
use Rattle.tools.specs.Lists.{byte}
use Rattle.summary.proofs.lags_ok.Given as goal

abbrev pub invariant-loop-i : goal.invariant-loop-i
invariant-loop-i l = l.ok ≡ all_below l.i (λ i. leb (byte l.summary (2 + i)) (byte l.most (2 + i)))
