use Rattle.text.specs.Digits.{number_at}
use Rattle.text.proofs.number.Goals as goal

pub returns : goal.returns
unfolding number_at
returns c = cc
