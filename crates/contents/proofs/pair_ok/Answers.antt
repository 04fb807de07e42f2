use Rattle.std.proofs.Common.{ap, ◌∙◌, Bool, ◌+◌, [], ◌∷◌, ltb, leb}
use Rattle.tools.specs.Tests.{all_of}
use Rattle.ring.specs.Phases.{lag_of}
use Rattle.contents.proofs.Checks.{ranged_lag, below_next}
use Rattle.contents.proofs.pair_ok.Goals as goal

pub returns : goal.returns
returns c =
    let a = c.args in
    ranged_lag a.phase a.last a.own _ a.bound _ _ _ c.lag.ensures (below_next a.phase a.last)
    (ap (λ n. leb n a.bound) c.from.ensures)
    ∙ ap (λ (t : Bool). all_of (ltb a.phase (a.last + 1) ∷ t ∷ leb (lag_of (a.last + 1) a.own a.phase) a.bound ∷ []))
    (below_next a.clock a.top)
