use Rattle.std.proofs.Common.{rules, ap, sym, ◌∙◌}
use Rattle.rules.specs.Replies.{number_in}
use Rattle.office.proofs.Filed.{due_ready}
use Rattle.office.proofs.change.Goals as goal

pub file-requires : goal.file-requires
file-requires g c = (
  due_ready c.args.summary.now 0 (ap number_in (sym c.in_default.is) ∙ c.papers_number.ensures) (search rules),
  c.requires.whole c.in_ok-told.told _ (search rules),
)
