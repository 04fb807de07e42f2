use Rattle.std.proofs.Common.{◌∙◌}
use Rattle.summary.proofs.Right.{lanes_even}
use Rattle.summary.proofs.bounds.Goals as goal

pub returns : goal.returns
returns c = let x = c.args in c.write.ensures ∙ lanes_even x.seat x.mail x.shelf
