use Rattle.door.proofs.Given.{gave}
use Rattle.door.proofs.number_by.Goals as goal

pub returns-then-short-number : goal.returns-then-short-number
returns-then-short-number c = search gave

pub returns : goal.returns
returns c = search gave
