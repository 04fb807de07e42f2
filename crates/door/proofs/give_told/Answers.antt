use Rattle.std.proofs.Common.{refl, rules}
use Rattle.rules.specs.Model.{says}
use Rattle.door.specs.Door.{byte_in}
use Rattle.door.proofs.Given.{told_byte}
use Rattle.door.proofs.give_told.Goals as goal

pub returns : goal.returns
returns c = c.give.ensures says byte_in refl (λ x n h. told_byte x n (search rules))
