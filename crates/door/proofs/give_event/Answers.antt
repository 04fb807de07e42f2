use Rattle.door.proofs.Given.{gave}
use Rattle.door.proofs.give_event.Goals as goal

pub returns-in_default-clause-slot : goal.returns-in_default-clause-slot
returns-in_default-clause-slot c = search gave
