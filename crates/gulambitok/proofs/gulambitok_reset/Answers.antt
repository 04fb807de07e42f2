use mathlib.Core.Path.{refl}
use lib.ListN.{length}
use Rattle.rules.specs.Model.{Act, reset, done}
use Rattle.rules.specs.Calls.{on}
use Rattle.rules.specs.Replies.{stamped_value}
use Rattle.book.specs.Answers.{answer_to, book_after}
use Rattle.door.specs.Door.{wished}
use Rattle.gulambitok.proofs.Called.{granted, slot_said, event_short, event_fits, event_makes, first_enough, last_enough}
use Rattle.gulambitok.proofs.gulambitok_reset.Goals as goal

pub returns-then-slot_short-stamp : goal.returns-then-slot_short-stamp
returns-then-slot_short-stamp c =
    let x = c.args in
    let o = c.slot_short in
    let made : Act = reset x.desk (wished x.keep) in
    event_short x.book.now (wished x.keep) x.stamp.now x.slot.now o.result o.ensures
    (answer_to x.book.now (on made)) x.book.now (book_after x.book.now (on made)) c.number.result
    (granted made x.book.now (wished x.keep) _ c.reset_grant-grant.result c.number.ensures c.reset_grant-grant.ensures)
    _ c.number_by.ensures c.if-slot_short-stamp.true

pub give_stamp-requires : goal.give_stamp-requires
unfolding done
give_stamp-requires c =
    let x = c.args in
    let o = c.slot_short in
    let k = c.reset-stamped in
    let e = c.if-slot_short-stamp in
    let made : Act = reset x.desk (wished x.keep) in
    record {
      record_size_in_bounds = last_enough o.result _ _ e.false;
      kept_in_bounds = event_fits x.book.now (wished x.keep) x.stamp.now x.slot.now o.result o.ensures
          (answer_to x.book.now (on made)) (slot_said made x.book.now (wished x.keep) refl)
          stamped_value (λ x. x.slot) (λ x. refl) k.result k.ensures.result_value
          (first_enough o.result (length x.stamp.now) 20 e.false);
    }

pub returns : goal.returns
returns c =
    let x = c.args in
    let o = c.slot_short in
    let k = c.reset-stamped in
    let e = c.if-slot_short-stamp in
    let made : Act = reset x.desk (wished x.keep) in
    event_makes x.book.now (wished x.keep) x.stamp.now x.slot.now o.result o.ensures
    (answer_to x.book.now (on made)) x.book.now (book_after x.book.now (on made))
    _ k.ensures.result_value _ k.ensures.book_after _ c.desks_in-desks.ensures _ _ _ e.false
    c.give_stamp.ensures
