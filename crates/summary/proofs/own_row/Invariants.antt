use Rattle.summary.specs.Lanes.{Lanes, own_phase_at}
use Rattle.summary.proofs.own_row.Given as goal

abbrev pub invariant-loop-j : goal.invariant-loop-j
invariant-loop-j l = Lanes l.j (own_phase_at l.book) l.own
