use mathlib.Core.Path.{◌∙◌}
use Rattle.gulambitok.proofs.gulambitok_write.Goals as goal

pub returns : goal.returns
returns c = record { value = c.number.ensures ∙ c.write.ensures.value; target_after = c.write.ensures.target_after }
