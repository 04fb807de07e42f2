use Rattle.text.specs.Put.{Wrote}
use Rattle.rules.specs.Replies.{row_of}
use Rattle.replies.specs.Print.{pairs}
use Rattle.replies.proofs.put_stamp.Given as goal

-- the pairs of the desks before `j` are written
abbrev pub invariant-loop-j : goal.invariant-loop-j
invariant-loop-j l = Wrote l.initial.out l.initial.a (pairs l.j (row_of l.stamp.row)) l.out l.a
