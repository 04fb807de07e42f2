use Rattle.text.proofs.Writing.{then}
use Rattle.replies.proofs.put_number.Goals as goal

pub returns : goal.returns
returns c =
    λ D.
    then c.put_three-a.ensures c.put_byte.ensures
