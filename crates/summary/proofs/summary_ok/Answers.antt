use Rattle.std.proofs.Common.{[]}
use Rattle.rules.specs.Setups.{setup_with}
use Rattle.summary.proofs.Asked.{whole_summary}
use Rattle.summary.proofs.summary_ok.Goals as goal

pub returns : goal.returns
returns c =
    let x = c.args in
    whole_summary (setup_with x.s []) x.summary.now c.told-summary c.lags_ok-lags.result c.lags_ok-lags.ensures
