use Rattle.replies.proofs.UnitPut.put.Goals as goal

pub returns : goal.returns
returns c = c.put_number.ensures c.args.desks
