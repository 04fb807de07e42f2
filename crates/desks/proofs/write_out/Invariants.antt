-- What holds at each turn of the loop of `write_out`: the bytes before `done` are written.
use Rattle.std.proofs.Common.{◌≤◌, length, take}
use Rattle.std.specs.Io.KnownBytes.{Appends}
use Rattle.desks.proofs.write_out.Given as goal

abbrev pub invariant-loop : goal.invariant-loop
invariant-loop g l = record {
  within : l.done ≤ length l.out;
  wrote : Appends (g.W.Write.contents l.fn.output) (g.W.Write.contents l.output) (take l.done l.out);
}
