use mathlib.Core.Path.{◌≡◌}
use mathlib.Core.Bool.{false}
use Rattle.tools.specs.Tests.{any}
use Rattle.rules.specs.Model.{wrong_owner}
use Rattle.book.specs.Numbers.{tables_of}
use Rattle.pictures.proofs.Listed.wrong_owner.Given as goal

abbrev pub invariant-loop-i : goal.invariant-loop-i
invariant-loop-i l = any l.i (wrong_owner (tables_of l.self.book.now) l.self.slots.now) ≡ false
