use Rattle.pictures.specs.Froms.{Table}
use Rattle.pictures.proofs.froms_of.Given as goal

abbrev pub invariant-loop-i : goal.invariant-loop-i
invariant-loop-i l = Table l.book l.slots l.i l.froms
