use Rattle.std.proofs.Common.{sym, refl, ◌∙◌}
use Rattle.tools.specs.Tests.{all_below}
use Rattle.book.proofs.Limits.{limits_first}
use Rattle.soundness.proofs.records_sound.Goals as goal

pub returns-then-not-limits_ok : goal.returns-then-not-limits_ok
returns-then-not-limits_ok c = sym (limits_first c.args.book.now (sym c.limits_ok.ensures ∙ c.if-not-limits_ok.true))

pub all_sound-seats-requires-clause-start : goal.all_sound-seats-requires-clause-start
unfolding all_below
all_sound-seats-requires-clause-start c = refl
