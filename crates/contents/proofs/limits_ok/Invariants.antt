use Rattle.std.proofs.Common.{◌≡◌}
use Rattle.tools.specs.Tests.{all_below}
use Rattle.book.specs.Layout.{fields}
use Rattle.book.specs.Sound.{seat_limit}
use Rattle.contents.proofs.limits_ok.Given as goal

abbrev pub invariant-loop-k : goal.invariant-loop-k
invariant-loop-k l = l.ok ≡ all_below l.k (seat_limit (fields l.book))
