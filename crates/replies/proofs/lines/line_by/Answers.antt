use Rattle.text.proofs.Writing.{written}
use mathlib.Core.Path.{◌∙◌}
use Rattle.replies.proofs.lines.line_by.Goals as goal

pub returns : goal.returns
returns g c = c.line_to.ensures ∙ written c.put-end.ensures
