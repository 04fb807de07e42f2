use Rattle.std.proofs.Common.{◌∙◌}
use Rattle.ends.proofs.Reasons.{ends, ends_last}
use Rattle.desks.proofs.ending.Goals as goal

pub returns-in_default : goal.returns-in_default
returns-in_default g c = ends _ c.in_default.not-Ended _ _ _

pub returns : goal.returns
returns g c =
    let p = ends_last _ c.in-Ended.is _ _ _ _ _ c.last_turn.ensures.1 in
    (c.last_turn.ensures.0 ∙ p.0, p.1)
