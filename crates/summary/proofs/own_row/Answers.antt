use Rattle.std.proofs.Common.{ℕ, arith}
use Rattle.std.proofs.lemmas.List.{length-replicate}
use Rattle.summary.proofs.Lanes.{lanes_none, lanes_more}
use Rattle.summary.proofs.own_row.Goals as goal

pub loop-j-init : goal.loop-j-init
loop-j-init c = lanes_none _ _ (length-replicate {A = ℕ} 16 0)

pub loop-j-preserved : goal.loop-j-preserved
loop-j-preserved c =
    let h = c.loop-j in
    lanes_more _ h.j h.own _ _ _ _ (omega arith) h.invariant c.phase_spot.ensures c.clock_spot.ensures c.phase_at.ensures
