use Rattle.text.proofs.Writing.{written}
use Rattle.desks.proofs.last_turn.Goals as goal

pub returns : goal.returns
returns g c = (c.finish-end.ensures.summary_after, rw (written c.finish-end.ensures.wrote) at c.write_out.ensures)
