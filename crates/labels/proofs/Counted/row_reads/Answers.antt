use Rattle.std.proofs.Common.{refl, true, arith, ◌≡◌}
use borrow.Author.Tests.{eq-eqb}
use Rattle.tools.specs.Tests.{all_below}
use Rattle.tools.proofs.Tests.{and_more}
use Rattle.labels.specs.Counts.{row_reads}
use Rattle.labels.proofs.Counted.row_reads.Goals as goal

pub loop-j-init : goal.loop-j-init
unfolding all_below
loop-j-init c = refl

pub loop-j-preserved : goal.loop-j-preserved
loop-j-preserved c = and_more true _ c.loop-j.j _ _ c.loop-j.invariant (λ t. c.pair_reads-ok.ensures)

pub returns : goal.returns
unfolding row_reads
returns c =
    let e : c.loop-j.j ≡ 8 = omega arith in
    rw (row_reads, eq-eqb _ _ c.told-record) (rw e at c.loop-j.invariant)
