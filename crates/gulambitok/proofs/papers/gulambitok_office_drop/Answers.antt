use Rattle.rules.specs.Model.{drop}
use Rattle.rules.specs.Calls.{on}
use Rattle.office.specs.Office.{folder}
use Rattle.gulambitok.proofs.Filed.{filed}
use Rattle.gulambitok.proofs.papers.gulambitok_office_drop.Goals as goal

-- steps are found by their names, whatever is lent to the call: a call on the book alone falls by what it answers
pub returns : goal.returns
returns c =
    let x = c.args in
    filed (folder x.book.now x.summary.now) (on (drop x.slot)) c.drop.result c.drop.ensures.result_value
    _ c.number.ensures _ c.drop.ensures.summary_after
