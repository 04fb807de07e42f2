use Rattle.std.proofs.Common.{Err}
use mathlib.Core.Path.{◌≡◌}
use native.Mathlib.Omega.{arith}
use borrow.Author.Rules.{rules}
use Rattle.rules.specs.Model as Model
use Rattle.rules.specs.Replies.{sent_value}
use Prim.Native.Nat.{◌<◌}
use Rattle.book.specs.Layout.{mail_from}
use Rattle.reasons.specs.Held.{free_from}
use Rattle.portal.proofs.Acts.{refused_event, granted_size, lent, returned}
use Rattle.portal.proofs.Acts.{send_grows, send_found, send_place, send_to, send_below, send_acts}
use Rattle.portal.proofs.send.Goals as goal

pub returns-in_err-slot : goal.returns-in_err-slot
returns-in_err-slot c =
    let m = c.args in
    let e : c.from_residual.result ≡ Err c.in_err-slot.field-0.0 = search rules in
    let r = refused_event _ (Model.send m.desk m.to m.keep) _ sent_value _ e m.keep c.in_err-slot.ensures in
    record { result_value = r.0; book_after = r.1 }

pub unwrap-book-requires : goal.unwrap-book-requires
unwrap-book-requires c =
    let m = c.args in
    c.as_mut_array.ensures.variant.1 (granted_size _ (Model.send m.desk m.to m.keep) m.keep _ c.in_ok-slot.ensures)

pub unwrap-place-requires : goal.unwrap-place-requires
unwrap-place-requires c =
    let m = c.args in
    let same = (rw c.unwrap-book.ensures at c.as_mut_array.ensures.cases).same in
    let g = lent _ _ same (Model.send m.desk m.to m.keep) m.keep _ c.in_ok-slot.ensures in
    send_found _ _ _ _ _ g _ c.free_from.ensures

pub invariant_of-grown_row : goal.invariant_of-grown_row
invariant_of-grown_row c =
    let m = c.args in
    let same = (rw c.unwrap-book.ensures at c.as_mut_array.ensures.cases).same in
    let g = lent _ _ same (Model.send m.desk m.to m.keep) m.keep _ c.in_ok-slot.ensures in
    record { here = (send_grows _ _ _ _ _ g).at }

pub grown_row-row-requires : goal.grown_row-row-requires
grown_row-row-requires c =
    let m = c.args in
    let same = (rw c.unwrap-book.ensures at c.as_mut_array.ensures.cases).same in
    let g = lent _ _ same (Model.send m.desk m.to m.keep) m.keep _ c.in_ok-slot.ensures in
    send_grows _ _ _ _ _ g

pub overflow_add-place : goal.overflow_add-place
overflow_add-place c =
    let m = c.args in
    let same = (rw c.unwrap-book.ensures at c.as_mut_array.ensures.cases).same in
    let g = lent _ _ same (Model.send m.desk m.to m.keep) m.keep _ c.in_ok-slot.ensures in
    let p : (c.unwrap-place.result ≡ free_from c.unwrap-book.result.now mail_from) × (c.unwrap-place.result < 32) =
    send_place _ _ _ _ _ g _ c.free_from.ensures _ c.unwrap-place.ensures in
    omega (arith, p.1)

pub overflow_add-desk : goal.overflow_add-desk
overflow_add-desk c =
    let m = c.args in
    let same = (rw c.unwrap-book.ensures at c.as_mut_array.ensures.cases).same in
    let g = lent _ _ same (Model.send m.desk m.to m.keep) m.keep _ c.in_ok-slot.ensures in
    omega (arith, (send_grows _ _ _ _ _ g).at.eight)

pub overflow_cast-desk : goal.overflow_cast-desk
overflow_cast-desk c =
    let m = c.args in
    let same = (rw c.unwrap-book.ensures at c.as_mut_array.ensures.cases).same in
    let g = lent _ _ same (Model.send m.desk m.to m.keep) m.keep _ c.in_ok-slot.ensures in
    omega (arith, (send_grows _ _ _ _ _ g).at.eight)

pub overflow_add-to : goal.overflow_add-to
overflow_add-to c =
    let m = c.args in
    let same = (rw c.unwrap-book.ensures at c.as_mut_array.ensures.cases).same in
    let g = lent _ _ same (Model.send m.desk m.to m.keep) m.keep _ c.in_ok-slot.ensures in
    omega (arith, send_to _ _ _ _ _ g)

pub overflow_cast-to : goal.overflow_cast-to
overflow_cast-to c =
    let m = c.args in
    let same = (rw c.unwrap-book.ensures at c.as_mut_array.ensures.cases).same in
    let g = lent _ _ same (Model.send m.desk m.to m.keep) m.keep _ c.in_ok-slot.ensures in
    omega (arith, send_to _ _ _ _ _ g)

pub post-requires : goal.post-requires
post-requires c =
    let m = c.args in
    let same = (rw c.unwrap-book.ensures at c.as_mut_array.ensures.cases).same in
    let g = lent _ _ same (Model.send m.desk m.to m.keep) m.keep _ c.in_ok-slot.ensures in
    let p : (c.unwrap-place.result ≡ free_from c.unwrap-book.result.now mail_from) × (c.unwrap-place.result < 32) =
    send_place _ _ _ _ _ g _ c.free_from.ensures _ c.unwrap-place.ensures in
    omega (arith, p.1)

pub overflow_cast-result : goal.overflow_cast-result
overflow_cast-result c =
    let m = c.args in
    let same = (rw c.unwrap-book.ensures at c.as_mut_array.ensures.cases).same in
    let g = lent _ _ same (Model.send m.desk m.to m.keep) m.keep _ c.in_ok-slot.ensures in
    let p : (c.unwrap-place.result ≡ free_from c.unwrap-book.result.now mail_from) × (c.unwrap-place.result < 32) =
    send_place _ _ _ _ _ g _ c.free_from.ensures _ c.unwrap-place.ensures in
    omega (arith, p.1)

pub take_row-slot-requires : goal.take_row-slot-requires
take_row-slot-requires c =
    let m = c.args in
    let same = (rw c.unwrap-book.ensures at c.as_mut_array.ensures.cases).same in
    let g = lent _ _ same (Model.send m.desk m.to m.keep) m.keep _ c.in_ok-slot.ensures in
    record { desk_lt_seats = (send_grows _ _ _ _ _ g).at.eight; slot_lt_places = send_below _ _ _ _ _ g }

pub returns : goal.returns
returns c =
    let m = c.args in
    let same = (rw c.unwrap-book.ensures at c.as_mut_array.ensures.cases).same in
    let g = lent _ _ same (Model.send m.desk m.to m.keep) m.keep _ c.in_ok-slot.ensures in
    let p : (c.unwrap-place.result ≡ free_from c.unwrap-book.result.now mail_from) × (c.unwrap-place.result < 32) =
    send_place _ _ _ _ _ g _ c.free_from.ensures _ c.unwrap-place.ensures in
    let t = c.take_row-slot.ensures in
    let r = returned _ _ same (Model.send m.desk m.to m.keep) _ _
    (send_acts _ _ _ _ _ g _ _ _ _ _ p.0 t.value c.grown_row-row.ensures c.post.ensures t.book_after) in
    record { result_value = r.0; book_after = r.1 }
