use Rattle.door.proofs.Given.{gave}
use Rattle.door.proofs.give_byte.Goals as goal

pub returns-then-target-lt1 : goal.returns-then-target-lt1
returns-then-target-lt1 c = search gave

pub returns : goal.returns
returns c = search gave
