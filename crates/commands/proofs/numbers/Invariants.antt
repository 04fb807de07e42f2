use Rattle.tools.specs.Lists.{Filled}
use Rattle.text.specs.Digits.{number_at}
use lib.ListN.{length}
use Prim.Native.Nat.{◌+◌, ◌*◌}
use Rattle.commands.proofs.numbers.Given as goal

-- the numbers before `i` are filled in
abbrev pub invariant-loop-i : goal.invariant-loop-i
invariant-loop-i g l = Filled g.row.N l.i (λ k. number_at l.line (length l.word + 4 * k)) l.list
