use Rattle.std.proofs.Common.{◌∙◌}
use Rattle.summary.proofs.Lanes.{lanes_zero}
use Rattle.summary.proofs.Right.{lanes_right}
use Rattle.summary.proofs.renew.Goals as goal

pub seats_lags-requires : goal.seats_lags-requires
seats_lags-requires c = lanes_zero

pub returns : goal.returns
returns c = c.write.ensures ∙ lanes_right c.args.book.now c.requires _ _ c.seats_lags.ensures c.both_lags-held.ensures
