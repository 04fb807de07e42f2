use Rattle.std.proofs.Common.{refl}
use Rattle.rules.specs.Setups.{setup_in}
use Rattle.fresh.proofs.Written.{in_range_lem, small, written_all}
use Rattle.fresh.proofs.write_fresh.Goals as goal

pub write_head-requires-clause-s_value : goal.write_head-requires-clause-s_value
write_head-requires-clause-s_value c = in_range_lem c.args.setup.numbers c.args.setup.limits.now c.requires

pub write_limits-requires : goal.write_limits-requires
write_limits-requires c = small (setup_in c.args.setup) c.requires

pub returns : goal.returns
returns c =
    let X = setup_in c.args.setup in
    written_all X c.requires _
    (c.write_limits.ensures X refl
    (c.write_marks-3.ensures X (c.write_marks-2.ensures X (c.write_marks.ensures X (c.write_head.ensures X.limits)))))
