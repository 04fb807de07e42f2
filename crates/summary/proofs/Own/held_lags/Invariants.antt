use Rattle.tools.specs.Tests.{largest}
use Rattle.summary.specs.Lanes.{Lanes, place_lag}
use Rattle.summary.proofs.Own.held_lags.Given as goal

abbrev pub invariant-loop-p : goal.invariant-loop-p
invariant-loop-p l = Lanes 8 (λ j. largest l.p (place_lag l.self.book.now l.first j)) l.lags
