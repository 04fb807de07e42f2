use Rattle.std.proofs.Common.{◌∙◌, rules}
use Rattle.rules.specs.Replies.{odds_value}
use Rattle.door.proofs.Given.{number_said, picture_short, picture_refused, picture_yes, picture_odds}
use Rattle.door.proofs.give_pictured.Goals as goal

pub returns-then-odds-answer : goal.returns-then-odds-answer
returns-then-odds-answer c =
    let x = c.args.pictured in
    picture_short x _ _ c.if-odds-answer.true c.number.result (c.number.ensures ∙ number_said odds_value x) _ c.number_by.ensures

pub returns-in-Ok-None : goal.returns-in-Ok-None
returns-in-Ok-None c = picture_yes c.args.pictured _ _ c.if-odds-answer.false (search rules) _ c.lend.ensures

pub returns-in-Ok-Some : goal.returns-in-Ok-Some
returns-in-Ok-Some c =
    picture_odds c.args.pictured _ _ c.if-odds-answer.false c.in-Ok-Some.two (search rules) _ _ c.lend-in-Ok-Some.ensures
    c.lend-in-Ok-Some-2.ensures

pub returns-in-Err : goal.returns-in-Err
returns-in-Err c = rw c.number-in-Err.ensures (picture_refused c.args.pictured _ _ c.if-odds-answer.false c.in-Err.refusal c.in-Err.is)
