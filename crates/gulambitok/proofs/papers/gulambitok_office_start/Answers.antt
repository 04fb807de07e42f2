use Rattle.rules.specs.Calls as Calls
use Rattle.office.specs.Office.{folder, office_answer, folder_after}
use Rattle.rules.specs.Setups.{setup_with}
use Rattle.door.specs.Door.{numbers_by}
use Rattle.gulambitok.proofs.Called.{by_setup}
use Rattle.gulambitok.proofs.Filed.{filed}
use Rattle.gulambitok.proofs.papers.gulambitok_office_start.Goals as goal

-- steps are found by their names, whatever is lent to the call: a call on the book alone falls by what it answers
pub returns : goal.returns
returns c =
    let x = c.args in
    let X = setup_with (numbers_by x.desks x.phases x.seat_lag x.shelf_lag x.back x.ahead) x.limits.now in
    let f = folder x.book.now x.summary.now in
    filed f _ c.start.result
    (by_setup (λ Y. office_answer f (Calls.start Y)) _ X c.setup_by-given.ensures _ c.start.ensures.result_value) _ c.number.ensures _
    (by_setup (λ Y. folder_after f (Calls.start Y)) _ X c.setup_by-given.ensures _ c.start.ensures.summary_after)
