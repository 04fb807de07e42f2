use Rattle.tools.specs.Lists.{byte, Filled}
use Rattle.book.specs.Layout.{spot, tag_b_spot}
use Rattle.answering.proofs.limits_of.Given as goal

abbrev pub invariant-loop-j : goal.invariant-loop-j
invariant-loop-j l = Filled 8 l.j (λ j. byte l.book (spot j tag_b_spot)) l.limits
