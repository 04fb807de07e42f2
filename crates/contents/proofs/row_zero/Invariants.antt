use Rattle.std.proofs.Common.{◌≡◌}
use Rattle.tools.specs.Tests.{all_below}
use Rattle.book.specs.Layout.{fields}
use Rattle.book.specs.Sound.{column_zero}
use Rattle.contents.proofs.row_zero.Given as goal

abbrev pub invariant-loop-j : goal.invariant-loop-j
invariant-loop-j l = l.ok ≡ all_below l.j (column_zero (fields l.book) l.k)
