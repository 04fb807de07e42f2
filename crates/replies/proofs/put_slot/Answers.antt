use Rattle.text.proofs.Writing.{none}
use native.Mathlib.Omega.{arith}
use Rattle.replies.proofs.put_slot.Goals as goal

pub returns-in-None : goal.returns-in-None
returns-in-None c = rw c.in-None.is (none _ _ (omega arith))
