use Rattle.std.proofs.Common.{arith}
use Rattle.ring.proofs.Ring.{lag_by_sum}
use Rattle.ring.proofs.full_lag.Goals as goal

pub returns : goal.returns
returns c = lag_by_sum 256 _ c.args.own c.args.v (omega arith) c.ranges.v.fits (omega arith)
