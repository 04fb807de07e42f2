use borrow.Author.Rules.{rules}
use Rattle.replies.proofs.lines.line_of.Goals as goal

pub returns-in-Ok : goal.returns-in-Ok
returns-in-Ok g c = rw c.in-Ok.is c.line.ensures

pub returns-in-Err : goal.returns-in-Err
returns-in-Err g c =
    let told = c.number_line.ensures c.args.desks in
    search rules
