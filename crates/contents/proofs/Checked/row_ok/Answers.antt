use Rattle.std.proofs.Common.{true, arith}
use Rattle.tools.proofs.Tests.{and_more}
use Rattle.contents.proofs.Checks.{column_is}
use Rattle.contents.proofs.Checked.row_ok.Goals as goal

pub loop-j-preserved : goal.loop-j-preserved
loop-j-preserved c =
    let s = c.args.self in
    and_more true _ c.loop-j.j _ _ c.loop-j.invariant
    (λ _. column_is s.book.now s.columns.now c.args.bound c.args.k c.loop-j.j _ _ _ s.ready (omega arith) c.phase_at-phase.ensures
    c.clock_at-clock.ensures c.pair_ok-ok.ensures)
