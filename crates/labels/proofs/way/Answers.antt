use Rattle.std.proofs.Common.{arith, ◌+◌}
use Rattle.book.specs.Layout.{row_spot}
use Rattle.rules.specs.Setups.{setup_with}
use Rattle.labels.proofs.Answered.{lag_taken, way_ahead, way_back}
use Rattle.labels.proofs.way.Goals as goal

pub returns-then-r-n : goal.returns-then-r-n
returns-then-r-n c l h own =
    let lag =
    lag_taken _ _ _ _ (row_spot + c.phase_spot-phase.result) _ _ c.requires (omega (arith, c.phase_spot-phase.ensures, c.from-desk.ensures))
    (omega (arith, c.requires.first)) c.lag-r.ensures in
    way_ahead (setup_with _ l) _ _ _ h own _ _ (omega (arith, c.phase_spot-phase.ensures, c.from-desk.ensures))
    (omega (arith, c.clock_spot-clock.ensures, c.from-desk.ensures)) _ lag.0 (omega arith)

pub returns : goal.returns
returns c l h own =
    let lag =
    lag_taken _ _ _ _ (row_spot + c.phase_spot-phase.result) _ _ c.requires (omega (arith, c.phase_spot-phase.ensures, c.from-desk.ensures))
    (omega (arith, c.requires.first)) c.lag-r.ensures in
    way_back (setup_with _ l) _ _ _ h own _ _ (omega (arith, c.phase_spot-phase.ensures, c.from-desk.ensures))
    (omega (arith, c.clock_spot-clock.ensures, c.from-desk.ensures)) _ lag.0 _ (omega (arith, lag.1)) (omega arith)
