-- What before and compare answer where both stamps are there, by the differences between them.
-- Assumes nothing.
--   before_by g j k e f      the answer to before, of the row e of desk j and the row f of desk k: g the difference there
--   compare_by g h j k e f   the answer to compare: g the difference there, h the difference back
use Rattle.std.specs.Prelude.{◌||◌, [], ◌∷◌, ℕ}
use Rattle.std.proofs.Math.Option.{Option}
use Rattle.tools.specs.Reasons.{first}
use Rattle.ring.specs.Phases.{Gap}
use Rattle.rules.specs.declared.Refusal.TheVariants.{OutOfReach}
use Rattle.rules.specs.Numbers.{given}
use Rattle.rules.specs.Model.{Row, says, relates, Answer, is_out, gap_in, is_before, relation}
use Rattle.rules.specs.Labels.{settle_off}

abbrev pub before_by : Option Gap → ℕ → ℕ → Row → Row → Answer
before_by g j k e f = settle_off (first (given OutOfReach (is_out g) ∷ [])) (says (is_before (gap_in g) j k e f))

abbrev pub compare_by : Option Gap → Option Gap → ℕ → ℕ → Row → Row → Answer
compare_by g h j k e f =
    settle_off (first (given OutOfReach (is_out g || is_out h) ∷ [])) (relates (relation (gap_in g) (gap_in h) j k e f))
