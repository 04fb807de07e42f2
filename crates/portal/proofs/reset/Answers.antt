use Rattle.std.proofs.Common.{Err}
use mathlib.Core.Path.{◌≡◌}
use borrow.Author.Rules.{rules}
use Rattle.rules.specs.Model as Model
use Rattle.rules.specs.Replies.{stamped_value}
use Rattle.portal.proofs.Acts.{refused_event, granted_size, lent, returned, reset_at_lem, reset_below, reset_acts}
use Rattle.portal.proofs.reset.Goals as goal

pub returns-in_err-slot : goal.returns-in_err-slot
returns-in_err-slot c =
    let m = c.args in
    let e : c.from_residual.result ≡ Err c.in_err-slot.field-0.0 = search rules in
    let r = refused_event _ (Model.reset m.desk m.keep) _ stamped_value _ e m.keep c.in_err-slot.ensures in
    record { result_value = r.0; book_after = r.1 }

pub unwrap-book-requires : goal.unwrap-book-requires
unwrap-book-requires c =
    let m = c.args in
    c.as_mut_array.ensures.variant.1 (granted_size _ (Model.reset m.desk m.keep) m.keep _ c.in_ok-slot.ensures)

pub invariant_of-turned_row : goal.invariant_of-turned_row
invariant_of-turned_row c =
    let m = c.args in
    let same = (rw c.unwrap-book.ensures at c.as_mut_array.ensures.cases).same in
    let g = lent _ _ same (Model.reset m.desk m.keep) m.keep _ c.in_ok-slot.ensures in
    record { here = reset_at_lem _ _ _ _ g }

pub take_row-requires : goal.take_row-requires
take_row-requires c =
    let m = c.args in
    let same = (rw c.unwrap-book.ensures at c.as_mut_array.ensures.cases).same in
    let g = lent _ _ same (Model.reset m.desk m.keep) m.keep _ c.in_ok-slot.ensures in
    record { desk_lt_seats = (reset_at_lem _ _ _ _ g).eight; slot_lt_places = reset_below _ _ _ _ g }

pub returns : goal.returns
returns c =
    let m = c.args in
    let same = (rw c.unwrap-book.ensures at c.as_mut_array.ensures.cases).same in
    let g = lent _ _ same (Model.reset m.desk m.keep) m.keep _ c.in_ok-slot.ensures in
    let t = c.take_row.ensures in
    let r = returned _ _ same (Model.reset m.desk m.keep) _ _
    (reset_acts _ _ _ _ g _ _ _ t.value c.turned_row-row.ensures t.book_after) in
    record { result_value = r.0; book_after = r.1 }
