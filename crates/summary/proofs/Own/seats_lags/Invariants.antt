use Rattle.tools.specs.Tests.{largest}
use Rattle.reasons.specs.Held.{lag_in}
use Rattle.summary.specs.Lanes.{Lanes}
use Rattle.summary.proofs.Own.seats_lags.Given as goal

abbrev pub invariant-loop-k : goal.invariant-loop-k
invariant-loop-k l = Lanes 8 (λ j. largest l.k (lag_in l.self.book.now j)) l.lags
