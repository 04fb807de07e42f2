use Rattle.std.proofs.Common.{append-nil, ap, length, sym, ◌∙◌}
use Rattle.labels.proofs.Records.{of_bytes}
use Rattle.labels.proofs.record_of.Goals as goal

pub returns : goal.returns
returns c =
    let h = c.copy_from_slice.ensures in
    rw (append-nil, h.after) (of_bytes _ _ _ (ap length (sym h.after) ∙ h.len))
