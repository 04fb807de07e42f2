use Rattle.std.proofs.Common.{sym, ◌∙◌}
use Rattle.std.proofs.lemmas.Result.{err_from_is_err_and}
use Rattle.labels.proofs.Answered.{who_reads, who_refused, unread}
use Rattle.labels.proofs.owners_of.Goals as goal

pub returns-then-not-permits : goal.returns-then-not-permits
returns-then-not-permits c out = rw (sym c.permits.ensures ∙ c.if-not-permits.true)

-- the first record is refused
pub returns-in_err-owner : goal.returns-in_err-owner
returns-in_err-owner c =
    let r = who_refused _ _ _ c.who_of.ensures _ c.in_err-owner.was in
    let p = err_from_is_err_and c.from_residual.result c.from_residual.ensures.1 in
    rw (p.1, p.2) (unread _ _ _ _ (sym c.permits.ensures ∙ c.if-not-permits.false) (rw r.0) r.1)

-- the first record reads, and the second is refused
pub returns-in_err-other : goal.returns-in_err-other
returns-in_err-other c =
    let first = who_reads _ _ _ c.who_of.ensures _ c.in_ok-owner.was in
    let r = who_refused _ _ _ c.who_of-2.ensures _ c.in_err-other.was in
    let p = err_from_is_err_and c.from_residual-in_err-other.result c.from_residual-in_err-other.ensures.1 in
    rw (p.1, p.2) (unread _ _ _ _ (sym c.permits.ensures ∙ c.if-not-permits.false) (rw (first.0, r.0)) r.1)

-- both read
pub returns : goal.returns
returns c =
    let first = who_reads _ _ _ c.who_of.ensures _ c.in_ok-owner.was in
    let second = who_reads _ _ _ c.who_of-2.ensures _ c.in_ok-other.was in
    record {
      both = record { fair = sym c.permits.ensures ∙ c.if-not-permits.false; one = first.0; two = second.0 };
      first = first.1;
      second = second.1;
    }
