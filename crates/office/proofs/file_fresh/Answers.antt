use Rattle.std.proofs.Common.{◌∙◌}
use Rattle.office.proofs.Filed.{whole_front}
use Rattle.office.proofs.file_fresh.Goals as goal

pub returns : goal.returns
returns c = whole_front _ c.args.summary.now c.requires ∙ c.clear.ensures
