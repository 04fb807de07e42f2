use Rattle.summary.proofs.Lanes.{BothTo}
use Rattle.summary.proofs.Own.both_lags.Given as goal

abbrev pub invariant-loop-q : goal.invariant-loop-q
invariant-loop-q l = BothTo l.self.book.now l.q l.lags
