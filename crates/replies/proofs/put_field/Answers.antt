use Rattle.text.proofs.Writing.{then}
use Rattle.replies.proofs.put_field.Goals as goal

pub returns : goal.returns
returns c = then c.put_byte-a.ensures c.put_three.ensures
