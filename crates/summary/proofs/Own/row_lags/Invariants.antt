use Rattle.reasons.specs.Held.{lag_in}
use Rattle.summary.proofs.Lanes.{Widened}
use Rattle.summary.proofs.Own.row_lags.Given as goal

abbrev pub invariant-loop-c : goal.invariant-loop-c
invariant-loop-c l = Widened l.initial.lags (λ j. lag_in l.self.book.now j l.k) l.c l.lags
