use Rattle.text.proofs.Writing.{then}
use Rattle.replies.proofs.put_pair.Goals as goal

pub returns : goal.returns
returns c = then (then c.put_field-a.ensures c.put_byte-b.ensures) c.put_three.ensures
