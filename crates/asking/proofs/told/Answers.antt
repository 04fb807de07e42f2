use Rattle.rules.specs.Setups.{setup_with}
use Rattle.book.specs.Layout.{limits_of}
use Rattle.refusals.proofs.Slots.{slots_two}
use Rattle.asking.proofs.Slots.{reach_bytes}
use Rattle.asking.proofs.Accepted.{before_answered}
use Rattle.asking.proofs.told.Goals as goal

pub owner_of-owner-requires : goal.owner_of-owner-requires
owner_of-owner-requires c = (slots_two _ _ _ c.requires).first

pub owner_of-other-requires : goal.owner_of-other-requires
owner_of-other-requires c = (slots_two _ _ _ c.requires).second

pub way_of-requires : goal.way_of-requires
way_of-requires c =
    let u = slots_two _ _ _ c.requires in record { whole = u.whole; first = u.first; second = u.second }

pub told-requires : goal.told-requires
told-requires c = reach_bytes _ (setup_with _ _) c.numbers_of-setup.ensures (slots_two _ _ _ c.requires).whole

pub returns : goal.returns
returns c =
    let s = c.numbers_of-setup in
    let j = c.owner_of-owner in
    let k = c.owner_of-other in
    let l = limits_of c.args.book.now in
    before_answered _ _ _ (slots_two _ _ _ c.requires) (setup_with s.result l) s.ensures j.result k.result j.ensures k.ensures
    c.way_of.result c.way_of.ensures c.told.result (c.told.ensures l)
