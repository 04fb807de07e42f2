use Rattle.std.proofs.Common.{Err}
use mathlib.Core.Path.{◌≡◌}
use native.Mathlib.Omega.{arith}
use borrow.Author.Rules.{rules}
use Rattle.rules.specs.Model as Model
use Rattle.rules.specs.Replies.{received_value}
use Rattle.portal.proofs.Acts.{refused_event, granted_size, lent, returned, receive_grows, receive_place, receive_below, receive_acts}
use Rattle.portal.proofs.receive.Goals as goal

pub returns-in_err-slot : goal.returns-in_err-slot
returns-in_err-slot c =
    let m = c.args in
    let e : c.from_residual.result ≡ Err c.in_err-slot.field-0.0 = search rules in
    let r = refused_event _ (Model.receive m.desk m.place m.keep) _ received_value _ e m.keep c.in_err-slot.ensures in
    record { result_value = r.0; book_after = r.1 }

pub unwrap-book-requires : goal.unwrap-book-requires
unwrap-book-requires c =
    let m = c.args in
    c.as_mut_array.ensures.variant.1 (granted_size _ (Model.receive m.desk m.place m.keep) m.keep _ c.in_ok-slot.ensures)

pub invariant_of-merged_row : goal.invariant_of-merged_row
invariant_of-merged_row c =
    let m = c.args in
    let same = (rw c.unwrap-book.ensures at c.as_mut_array.ensures.cases).same in
    let g = lent _ _ same (Model.receive m.desk m.place m.keep) m.keep _ c.in_ok-slot.ensures in
    record { here = (receive_grows _ _ _ _ _ g).at }

pub merged_row-merged-requires : goal.merged_row-merged-requires
merged_row-merged-requires c =
    let m = c.args in
    let same = (rw c.unwrap-book.ensures at c.as_mut_array.ensures.cases).same in
    let g = lent _ _ same (Model.receive m.desk m.place m.keep) m.keep _ c.in_ok-slot.ensures in
    record { grows = receive_grows _ _ _ _ _ g; place_lt_places = receive_place _ _ _ _ _ g }

pub overflow_add-from : goal.overflow_add-from
overflow_add-from c =
    let m = c.args in
    let same = (rw c.unwrap-book.ensures at c.as_mut_array.ensures.cases).same in
    let g = lent _ _ same (Model.receive m.desk m.place m.keep) m.keep _ c.in_ok-slot.ensures in
    omega (arith, receive_place _ _ _ _ _ g)

pub clear-requires : goal.clear-requires
clear-requires c =
    let m = c.args in
    let same = (rw c.unwrap-book.ensures at c.as_mut_array.ensures.cases).same in
    let g = lent _ _ same (Model.receive m.desk m.place m.keep) m.keep _ c.in_ok-slot.ensures in
    omega (arith, receive_place _ _ _ _ _ g)

pub take_row-slot-requires : goal.take_row-slot-requires
take_row-slot-requires c =
    let m = c.args in
    let same = (rw c.unwrap-book.ensures at c.as_mut_array.ensures.cases).same in
    let g = lent _ _ same (Model.receive m.desk m.place m.keep) m.keep _ c.in_ok-slot.ensures in
    record { desk_lt_seats = (receive_grows _ _ _ _ _ g).at.eight; slot_lt_places = receive_below _ _ _ _ _ g }

pub returns : goal.returns
returns c =
    let m = c.args in
    let same = (rw c.unwrap-book.ensures at c.as_mut_array.ensures.cases).same in
    let g = lent _ _ same (Model.receive m.desk m.place m.keep) m.keep _ c.in_ok-slot.ensures in
    let t = c.take_row-slot.ensures in
    let n = c.merged_row-merged.ensures in
    let r = returned _ _ same (Model.receive m.desk m.place m.keep) _ _
    (receive_acts _ _ _ _ _ g _ _ _ _ _ t.value n.0 n.1 c.clear.ensures t.book_after) in
    record { result_value = r.0; book_after = r.1 }
