use Rattle.std.proofs.lemmas.Result.{err_from_is_err_and}
use Rattle.labels.proofs.Answered.{ready, before_refused, within_bytes, before_answered}
use Rattle.labels.proofs.before.Goals as goal

pub returns-in_err-owner : goal.returns-in_err-owner
returns-in_err-owner c =
    let p = err_from_is_err_and c.from_residual.result c.from_residual.ensures.1 in
    rw (p.1, p.2) (before_refused _ _ _ _ (rw c.in_err-owner.was at c.owners_of.ensures))

pub way-there-requires : goal.way-there-requires
way-there-requires c = let owned = rw c.in_ok-owner.was at c.owners_of.ensures in ready _ _ _ _ _ owned.both owned.first

pub told-requires : goal.told-requires
told-requires c = let owned = rw c.in_ok-owner.was at c.owners_of.ensures in within_bytes _ _ _ _ _ owned

-- both records read
pub returns : goal.returns
returns c =
    let owned = rw c.in_ok-owner.was at c.owners_of.ensures in
    before_answered _ _ _ _ _ owned _ (c.told.ensures _ _ _ _ (c.way-there.ensures _ owned.both owned.first))
