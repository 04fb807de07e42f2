use mathlib.Core.Path.{refl}
use mathlib.Core.Bool.{◌||◌}
use lib.Dec.{ltb}
use lib.ListN.{length}
use Rattle.rules.specs.Model.{Act, send, done}
use Rattle.rules.specs.Calls.{on}
use Rattle.rules.specs.Replies.{sent_value}
use Rattle.book.specs.Answers.{answer_to, book_after}
use Rattle.door.specs.Door.{wished, place_in}
use Rattle.gulambitok.proofs.Called.{granted, slot_said, with_byte_short, event_fits, with_byte_makes, first_enough, last_enough}
use Rattle.gulambitok.proofs.gulambitok_send.Goals as goal

pub returns-then-slot_short-place : goal.returns-then-slot_short-place
returns-then-slot_short-place c =
    let x = c.args in
    let o = c.slot_short in
    let made : Act = send x.desk x.to (wished x.keep) in
    with_byte_short x.book.now (wished x.keep) x.stamp.now x.slot.now o.result o.ensures
    (answer_to x.book.now (on made)) x.book.now (book_after x.book.now (on made)) c.number.result
    (granted made x.book.now (wished x.keep) _ c.send_grant-grant.result c.number.ensures c.send_grant-grant.ensures)
    _ c.number_by.ensures
    place_in refl x.place.now c.if-slot_short-place.true

pub give_sent-requires : goal.give_sent-requires
unfolding done
give_sent-requires c =
    let x = c.args in
    let o = c.slot_short in
    let k = c.send-sent in
    let e = c.if-slot_short-place in
    let made : Act = send x.desk x.to (wished x.keep) in
    let b = ltb (length x.place.now) 1 in
    let both = first_enough (o.result || b) (length x.stamp.now) 20 e.false in
    record {
      record_size_in_bounds = (last_enough (o.result || b) _ _ e.false, last_enough o.result _ _ both);
      kept_in_bounds = event_fits x.book.now (wished x.keep) x.stamp.now x.slot.now o.result o.ensures
          (answer_to x.book.now (on made)) (slot_said made x.book.now (wished x.keep) refl)
          sent_value (λ x. x.slot) (λ x. refl) k.result k.ensures.result_value
          (first_enough o.result (length x.place.now) 1 both);
    }

pub returns : goal.returns
returns c =
    let x = c.args in
    let o = c.slot_short in
    let k = c.send-sent in
    let e = c.if-slot_short-place in
    let made : Act = send x.desk x.to (wished x.keep) in
    with_byte_makes x.book.now (wished x.keep) x.stamp.now x.slot.now o.result o.ensures
    (answer_to x.book.now (on made)) x.book.now (book_after x.book.now (on made))
    _ k.ensures.result_value _ k.ensures.book_after _ c.desks_in-desks.ensures _ _ _ place_in _ _ e.false
    c.give_sent.ensures
