use Rattle.rules.specs.Replies.{sent_value}
use Rattle.door.proofs.Given.{gets_refusal, gets_value, gave}
use Rattle.door.proofs.give_sent.Goals as goal

pub returns-in-Ok : goal.returns-in-Ok
returns-in-Ok c = gets_value sent_value _ c.in-Ok.event c.in-Ok.is _ (search gave)

pub returns-in-Err : goal.returns-in-Err
returns-in-Err c = rw c.number.ensures (gets_refusal sent_value _ c.in-Err.refusal c.in-Err.is _ (search gave))
