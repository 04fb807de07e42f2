use Rattle.tools.specs.Tests as Tests
use Rattle.tools.specs.Tests.{all_of}
use Rattle.text.specs.Digits.{is_number, is_digit}
use Rattle.text.proofs.is_number.Goals as goal

pub returns : goal.returns
unfolding is_number is_digit Tests.within all_of
returns c = cc
