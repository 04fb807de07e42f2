use Rattle.rules.specs.Model.{discard}
use Rattle.rules.specs.Calls.{on}
use Rattle.office.specs.Office.{folder}
use Rattle.gulambitok.proofs.Filed.{filed}
use Rattle.gulambitok.proofs.papers.gulambitok_office_discard.Goals as goal

-- steps are found by their names, whatever is lent to the call: a call on the book alone falls by what it answers
pub returns : goal.returns
returns c =
    let x = c.args in
    filed (folder x.book.now x.summary.now) (on (discard x.place)) c.discard.result c.discard.ensures.result_value
    _ c.number.ensures _ c.discard.ensures.summary_after
