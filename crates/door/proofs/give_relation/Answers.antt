use Rattle.std.proofs.Common.{refl, rules}
use Rattle.rules.specs.Model.{relates}
use Rattle.door.specs.Door.{byte_in}
use Rattle.door.proofs.Given.{relation_told}
use Rattle.door.proofs.give_relation.Goals as goal

pub returns : goal.returns
returns c = c.give.ensures relates byte_in refl (λ x n h. relation_told x n (search rules))
