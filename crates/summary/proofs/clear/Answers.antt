use Rattle.std.proofs.Common.{◌∙◌}
use Rattle.summary.proofs.Right.{lanes_even}
use Rattle.summary.proofs.clear.Goals as goal

pub returns : goal.returns
returns c = c.write.ensures ∙ lanes_even 0 0 0
