use Rattle.std.proofs.Common.{◌≡◌}
use Rattle.tools.specs.Tests.{all_below}
use Rattle.rules.specs.Setups.{setup_in}
use Rattle.book.specs.Stamps.{pair_reads, label_of}
use Rattle.labels.proofs.Counted.row_reads.Given as goal

abbrev pub invariant-loop-j : goal.invariant-loop-j
invariant-loop-j l = l.ok ≡ all_below l.j (λ i. pair_reads (setup_in l.self.setup) i ((label_of l.record).row i))
