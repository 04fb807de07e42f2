use borrow.Author.Rules.{rules}
use Rattle.replies.proofs.put_answer.Goals as goal

pub returns-in-Ok : goal.returns-in-Ok
returns-in-Ok g c = rw c.in-Ok.is c.put.ensures

pub returns-in-Err : goal.returns-in-Err
returns-in-Err g c =
    let told = c.put_number.ensures c.args.desks in
    search rules
