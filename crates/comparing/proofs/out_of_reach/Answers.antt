use native.Mathlib.Omega.{arith}
use mathlib.Core.List.{[]}
use Rattle.rules.specs.Setups.{setup_with}
use Rattle.rules.proofs.Reach.{reach_most}
use Rattle.comparing.proofs.out_of_reach.Goals as goal

pub overflow_add-result-2 : goal.overflow_add-result-2
overflow_add-result-2 c =
    let s = c.args.setup in omega (arith, reach_most (setup_with s []) _ _ (c.reach_back-back.ensures []))
