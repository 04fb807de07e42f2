use Rattle.std.proofs.Common.{◌≡◌}
use Rattle.rules.specs.Replies.{row_bytes}
use Rattle.labels.specs.Counts.{count_row}
use Rattle.labels.proofs.counts_of.Given as goal

-- the numbers of the desks before `j` are there
abbrev pub invariant-loop-j : goal.invariant-loop-j
invariant-loop-j l = l.counts ≡ row_bytes (count_row l.j l.setup.numbers.phases l.setup.limits.now)
