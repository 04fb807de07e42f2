use Rattle.std.proofs.Common.{refl, rules}
use Rattle.rules.specs.Model.{relates}
use Rattle.door.specs.Door.{which_in}
use Rattle.door.proofs.Given.{newest_told}
use Rattle.door.proofs.give_newest.Goals as goal

pub returns : goal.returns
returns c = c.give.ensures relates which_in refl (λ x n h. newest_told x n (search rules))
