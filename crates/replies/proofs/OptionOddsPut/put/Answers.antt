use Rattle.replies.proofs.OptionOddsPut.put.Goals as goal

pub returns : goal.returns
returns c = rw c.in-Some.is (c.put_odds.ensures c.args.desks)
