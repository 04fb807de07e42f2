use Rattle.std.proofs.Common.{◌+◌}
use Rattle.book.specs.Layout.{row_spot, phase_spot, clock_spot}
use Rattle.labels.proofs.Records.{label_pair}
use Rattle.labels.proofs.Counts.{pair_counted}
use Rattle.labels.proofs.Counted.pair_reads.Goals as goal

pub returns : goal.returns
returns c =
    let j = c.args.j in
    rw (
      label_pair c.args.record.now j c.requires,
      c.from.ensures,
      c.from-2.ensures,
      c.phase_spot-phase.ensures,
      c.clock_spot-clock.ensures,
    )
    (pair_counted _ _ j _ _ c.args.self.now.counted c.requires (c.fits-record (row_spot + phase_spot j))
    (c.fits-record (row_spot + clock_spot j)))
