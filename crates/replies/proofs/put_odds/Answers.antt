use Rattle.text.proofs.Writing.{then}
use Rattle.replies.proofs.put_odds.Goals as goal

pub returns : goal.returns
returns c = λ D. then (then c.put_three-a.ensures (then c.put_field-b.ensures c.put_field-c.ensures)) c.put_byte.ensures
