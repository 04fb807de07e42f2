use Rattle.std.proofs.Common.{refl, rules}
use Rattle.rules.specs.Replies.{reset_value}
use Rattle.door.specs.Door.{foretold_in}
use Rattle.door.proofs.Given.{reset_told}
use Rattle.door.proofs.give_foretold.Goals as goal

pub returns : goal.returns
returns c = c.give.ensures reset_value foretold_in refl (λ x n h. reset_told x n (search rules))
