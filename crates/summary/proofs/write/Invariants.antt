use Rattle.tools.specs.Lists.{Filled}
use Rattle.summary.specs.Summary.{lags_at, summary_byte}
use Rattle.summary.specs.Lanes.{lags_by}
use Rattle.summary.proofs.write.Given as goal

abbrev pub invariant-loop-j : goal.invariant-loop-j
invariant-loop-j l = Filled 26 (lags_at l.j) (summary_byte (lags_by l.seats l.mail l.shelf)) l.summary
