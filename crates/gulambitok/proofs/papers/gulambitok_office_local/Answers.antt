use mathlib.Core.Path.{refl}
use lib.ListN.{length}
use Rattle.rules.specs.Model.{Act, local, done}
use Rattle.rules.specs.Calls.{on}
use Rattle.rules.specs.Replies.{stamped_value}
use Rattle.office.specs.Office.{Folder, folder, office_answer, folder_after}
use Rattle.door.specs.Door.{wished}
use Rattle.gulambitok.proofs.Called.{event_short, event_fits, event_makes, first_enough, last_enough}
use Rattle.gulambitok.proofs.Filed.{granted_filed, slot_filed}
use Rattle.gulambitok.proofs.papers.gulambitok_office_local.Goals as goal

pub returns-then-slot_short-stamp : goal.returns-then-slot_short-stamp
returns-then-slot_short-stamp c =
    let x = c.args in
    let o = c.slot_short in
    let lent : Folder = folder x.book.now x.summary.now in
    let made : Act = local x.desk (wished x.keep) in
    event_short x.book.now (wished x.keep) x.stamp.now x.slot.now o.result o.ensures
    (office_answer lent (on made)) lent (folder_after lent (on made)) c.number.result
    (granted_filed made lent (wished x.keep) _ c.local_grant-grant.result c.number.ensures c.local_grant-grant.ensures)
    _ c.number_by.ensures c.if-slot_short-stamp.true

-- steps are found by their names, whatever is lent to the call: a call on the book alone falls by what it answers
pub give_stamp-requires : goal.give_stamp-requires
unfolding done
give_stamp-requires c =
    let x = c.args in
    let o = c.slot_short in
    let k = c.local-stamped in
    let e = c.if-slot_short-stamp in
    let lent : Folder = folder x.book.now x.summary.now in
    let made : Act = local x.desk (wished x.keep) in
    record {
      record_size_in_bounds = last_enough o.result _ _ e.false;
      kept_in_bounds = event_fits x.book.now (wished x.keep) x.stamp.now x.slot.now o.result o.ensures
          (office_answer lent (on made)) (slot_filed made lent (wished x.keep) refl)
          stamped_value (λ x. x.slot) (λ x. refl) k.result k.ensures.result_value
          (first_enough o.result (length x.stamp.now) 20 e.false);
    }

pub returns : goal.returns
returns c =
    let x = c.args in
    let o = c.slot_short in
    let k = c.local-stamped in
    let e = c.if-slot_short-stamp in
    let lent : Folder = folder x.book.now x.summary.now in
    let made : Act = local x.desk (wished x.keep) in
    event_makes x.book.now (wished x.keep) x.stamp.now x.slot.now o.result o.ensures
    (office_answer lent (on made)) lent (folder_after lent (on made))
    _ k.ensures.result_value _ k.ensures.summary_after _ c.desks_in-desks.ensures _ _ _ e.false
    c.give_stamp.ensures
