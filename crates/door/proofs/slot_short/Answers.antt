use Rattle.door.proofs.Given.{short_slot}
use Rattle.door.proofs.slot_short.Goals as goal

pub returns : goal.returns
returns c = short_slot c.args.keep c.args.room
