use Rattle.rules.specs.Calls as Calls
use Rattle.book.specs.Answers.{answer_to, book_after}
use Rattle.rules.specs.Setups.{setup_with}
use Rattle.door.specs.Door.{numbers_by}
use Rattle.gulambitok.proofs.Called.{by_setup, bare}
use Rattle.gulambitok.proofs.gulambitok_start.Goals as goal

pub returns : goal.returns
returns c =
    let x = c.args in
    let X = setup_with (numbers_by x.desks x.phases x.seat_lag x.shelf_lag x.back x.ahead) x.limits.now in
    bare _ _ _ _ c.start.result
    (by_setup (λ Y. answer_to x.book.now (Calls.start Y)) _ X c.setup_by-given.ensures _ c.start.ensures.result_value)
    c.number.ensures _
    (by_setup (λ Y. book_after x.book.now (Calls.start Y)) _ X c.setup_by-given.ensures _ c.start.ensures.book_after)
