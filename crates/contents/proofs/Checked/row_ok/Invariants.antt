use Rattle.std.proofs.Common.{◌≡◌}
use Rattle.ring.specs.Phases.{lag_of}
use Rattle.tools.specs.Tests.{all_below}
use Rattle.book.specs.Layout.{fields}
use Rattle.book.specs.Sound.{column_ok}
use Rattle.contents.proofs.Checked.row_ok.Given as goal

abbrev pub invariant-loop-j : goal.invariant-loop-j
invariant-loop-j l = l.ok ≡ all_below l.j (column_ok lag_of (fields l.self.book.now) l.bound l.k)
