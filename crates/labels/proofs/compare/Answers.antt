use Rattle.std.proofs.lemmas.Result.{err_from_is_err_and}
use Rattle.labels.proofs.Answered.{ready, flipped, compare_refused, within_bytes, compare_answered}
use Rattle.labels.proofs.compare.Goals as goal

pub returns-in_err-owner : goal.returns-in_err-owner
returns-in_err-owner c =
    let p = err_from_is_err_and c.from_residual.result c.from_residual.ensures.1 in
    rw (p.1, p.2) (compare_refused _ _ _ _ (rw c.in_err-owner.was at c.owners_of.ensures))

pub way-there-requires : goal.way-there-requires
way-there-requires c = let owned = rw c.in_ok-owner.was at c.owners_of.ensures in ready _ _ _ _ _ owned.both owned.first

pub way-back-requires : goal.way-back-requires
way-back-requires c = let owned = rw c.in_ok-owner.was at c.owners_of.ensures in ready _ _ _ _ _ (flipped owned.both) owned.second

pub compared-requires : goal.compared-requires
compared-requires c = let owned = rw c.in_ok-owner.was at c.owners_of.ensures in within_bytes _ _ _ _ _ owned

-- both records read
pub returns : goal.returns
returns c =
    let owned = rw c.in_ok-owner.was at c.owners_of.ensures in
    compare_answered _ _ _ _ _ owned _
    (c.compared.ensures _ _ _ _ _ (c.way-there.ensures _ owned.both owned.first)
    (c.way-back.ensures _ (flipped owned.both) owned.second))
