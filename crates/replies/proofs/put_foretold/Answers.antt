use Rattle.text.proofs.Writing.{then}
use Rattle.replies.proofs.put_foretold.Goals as goal

pub returns : goal.returns
returns c = then (then c.put_three-a.ensures c.put_field-b.ensures) c.put_byte.ensures
