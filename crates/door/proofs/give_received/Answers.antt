use Rattle.rules.specs.Replies.{received_value}
use Rattle.door.proofs.Given.{gets_refusal, gets_value, gave}
use Rattle.door.proofs.give_received.Goals as goal

pub returns-in-Ok : goal.returns-in-Ok
returns-in-Ok c = gets_value received_value _ c.in-Ok.event c.in-Ok.is _ (search gave)

pub returns-in-Err : goal.returns-in-Err
returns-in-Err c = rw c.number.ensures (gets_refusal received_value _ c.in-Err.refusal c.in-Err.is _ (search gave))
