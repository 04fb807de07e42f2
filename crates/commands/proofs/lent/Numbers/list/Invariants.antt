use Rattle.text.specs.Digits.{numbers_at}
use mathlib.Core.Path.{◌≡◌}
use Rattle.commands.proofs.lent.Numbers.list.Given as goal

-- the numbers before `i` are in the list
abbrev pub invariant-loop-i : goal.invariant-loop-i
invariant-loop-i l = l.list.items ≡ numbers_at l.self.text.now 0 l.i
