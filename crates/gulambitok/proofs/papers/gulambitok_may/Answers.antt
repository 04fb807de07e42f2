use Rattle.summary.specs.May.{may_of}
use Rattle.rules.specs.Setups.{setup_with}
use Rattle.door.specs.Door.{numbers_by}
use Rattle.gulambitok.proofs.Called.{by_setup, answered}
use Rattle.gulambitok.proofs.papers.gulambitok_may.Goals as goal

pub returns : goal.returns
returns c =
    let x = c.args in
    let X = setup_with (numbers_by x.desks x.phases x.seat_lag x.shelf_lag x.back x.ahead) x.limits.now in
    answered _ _ _ _
    (by_setup (λ Y. may_of Y x.summary.now x.desk) _ X c.setup_by-setup.ensures _ c.may.ensures)
    c.give_foretold.ensures
