use Prim.Native.Nat.{◌*◌}
use mathlib.Core.Path.{◌≡◌}
use Rattle.tools.specs.Tests.{count}
use Rattle.tools.specs.Lists.{Filled}
use Rattle.rules.specs.Replies.{row_byte}
use Rattle.rows.specs.Rows.{later_row, learns_at}
use Rattle.rows.proofs.Desk.later_row.Given as goal

abbrev pub invariant-loop-k : goal.invariant-loop-k
invariant-loop-k l =
    let s = l.self.book.now in
    Filled 16 (2 * l.k) (row_byte (later_row s l.self.number l.mailed)) l.row
    × (l.learnt ≡ count l.k (learns_at s l.self.number l.mailed))
