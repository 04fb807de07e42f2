-- The starred cases, the listing, the desks' errors and the refusals left out there, computed.
-- Assumes nothing.
use mathlib.Core.Path.{refl}
use Rattle.tools.specs.Tests.{all_of, all_below, any, lowest, count, within}
use Rattle.tools.specs.Lists.{tab}
use Rattle.ring.specs.Phases.{later_by}
use Rattle.rules.specs.Setups.{permits, in_range, related, limited, limit_ok}
use Rattle.rules.specs.Model.{reach_back, pictured, ask_reasons, reasons, ask_tells, done, step}
use Rattle.rules.specs.Calls.{call}
use Rattle.rules.specs.Labels.{before_off}
use Rattle.history.specs.Runs.{run}
use Rattle.cases.specs.Cases.{Cases, pairs}

pub cases : Cases
unfolding run call step reach_back pictured ask_reasons reasons ask_tells done permits in_range related limited limit_ok all_of all_below within any lowest count later_by pairs before_off tab
cases =
    record { runs = λ b. refl; newest = (refl, refl); reach = refl; numbers = refl; reset_reach = refl; reset_numbers = refl }
