use Rattle.std.proofs.Common.{Err}
use mathlib.Core.Path.{◌≡◌, sym, ap, ◌∙◌}
use native.Mathlib.Omega.{arith}
use lib.ListN.{length}
use borrow.Author.Rules.{rules}
use Rattle.rules.specs.Model.{write}
use Rattle.rules.specs.Replies.{number_in}
use Rattle.book.specs.Numbers.{number_of}
use Rattle.book.specs.Stamps.{filled}
use Rattle.book.proofs.Numbers.{answer_number}
use Rattle.asking.specs.Slots.{record_for}
use Rattle.refusals.proofs.Slots.{write_room}
use Rattle.rules.proofs.Once.{not_done}
use Rattle.portal.proofs.Asked.{write_refused}
use Rattle.portal.proofs.write.Goals as goal

pub returns-in_err-book : goal.returns-in_err-book
returns-in_err-book c =
    let m = c.args in
    let r = c.in_err-book.field-0.0 in
    let n = c.in_err-book.ensures.number in
    let e : c.from_residual.result ≡ Err r = search rules in
    record {
      value = ap number_in e ∙ n ∙ sym (answer_number m.book.now (write m.slot (length m.target.now)));
      target_after = write_refused m.book.now m.slot m.target.now _ n (not_done r);
    }

pub record_at-record-requires : goal.record_at-record-requires
record_at-record-requires c =
    let h = c.in_ok-book.ensures in ap (λ s. number_of s (write c.args.slot (length c.args.target.now))) h.whole ∙ sym h.number

pub lend-requires : goal.lend-requires
lend-requires c =
    let m = c.args in
    let h = c.in_ok-book.ensures in
    let n : length c.record_at-record.result ≡ 20 = search rules in
    omega (arith, n, write_room m.book.now m.slot _ (sym h.number))

pub returns : goal.returns
returns c =
    let m = c.args in
    let h = c.in_ok-book.ensures in
    record {
      value = h.number ∙ sym (answer_number m.book.now (write m.slot (length m.target.now)));
      target_after = c.lend.ensures ∙ ap (filled m.target.now)
          (c.record_at-record.ensures ∙ ap (λ s. record_for s m.slot (length m.target.now)) h.whole);
    }
