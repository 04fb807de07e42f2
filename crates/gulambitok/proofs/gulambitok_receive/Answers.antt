use mathlib.Core.Path.{refl}
use mathlib.Core.Bool.{◌||◌}
use lib.Dec.{ltb}
use lib.ListN.{length}
use Rattle.rules.specs.Model.{Act, receive, done}
use Rattle.rules.specs.Calls.{on}
use Rattle.rules.specs.Replies.{received_value}
use Rattle.book.specs.Answers.{answer_to, book_after}
use Rattle.door.specs.Door.{wished, learnt_in}
use Rattle.gulambitok.proofs.Called.{granted, slot_said, with_byte_short, event_fits, with_byte_makes, first_enough, last_enough}
use Rattle.gulambitok.proofs.gulambitok_receive.Goals as goal

pub returns-then-slot_short-learnt : goal.returns-then-slot_short-learnt
returns-then-slot_short-learnt c =
    let x = c.args in
    let o = c.slot_short in
    let made : Act = receive x.desk x.place (wished x.keep) in
    with_byte_short x.book.now (wished x.keep) x.stamp.now x.slot.now o.result o.ensures
    (answer_to x.book.now (on made)) x.book.now (book_after x.book.now (on made)) c.number.result
    (granted made x.book.now (wished x.keep) _ c.receive_grant-grant.result c.number.ensures c.receive_grant-grant.ensures)
    _ c.number_by.ensures
    learnt_in refl x.learnt.now c.if-slot_short-learnt.true

pub give_received-requires : goal.give_received-requires
unfolding done
give_received-requires c =
    let x = c.args in
    let o = c.slot_short in
    let k = c.receive-received in
    let e = c.if-slot_short-learnt in
    let made : Act = receive x.desk x.place (wished x.keep) in
    let b = ltb (length x.learnt.now) 1 in
    let both = first_enough (o.result || b) (length x.stamp.now) 20 e.false in
    record {
      record_size_in_bounds = (last_enough (o.result || b) _ _ e.false, last_enough o.result _ _ both);
      kept_in_bounds = event_fits x.book.now (wished x.keep) x.stamp.now x.slot.now o.result o.ensures
          (answer_to x.book.now (on made)) (slot_said made x.book.now (wished x.keep) refl)
          received_value (λ x. x.slot) (λ x. refl) k.result k.ensures.result_value
          (first_enough o.result (length x.learnt.now) 1 both);
    }

pub returns : goal.returns
returns c =
    let x = c.args in
    let o = c.slot_short in
    let k = c.receive-received in
    let e = c.if-slot_short-learnt in
    let made : Act = receive x.desk x.place (wished x.keep) in
    with_byte_makes x.book.now (wished x.keep) x.stamp.now x.slot.now o.result o.ensures
    (answer_to x.book.now (on made)) x.book.now (book_after x.book.now (on made))
    _ k.ensures.result_value _ k.ensures.book_after _ c.desks_in-desks.ensures _ _ _ learnt_in _ _ e.false
    c.give_received.ensures
