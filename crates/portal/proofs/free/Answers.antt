use Rattle.std.proofs.Common.{Err}
use Prim.Native.Nat.{◌+◌}
use mathlib.Core.Path.{◌≡◌, sym, ap, ◌∙◌}
use native.Mathlib.Omega.{arith}
use borrow.Author.Rules.{rules}
use Rattle.book.proofs.Soundness.{sound_size}
use Rattle.rules.specs.Replies.{number_in}
use Rattle.portal.specs.Freed.{cleared}
use Rattle.portal.proofs.Acts.{used_ready, free_done, free_left}
use Rattle.portal.proofs.free.Goals as goal

pub returns-in_err-used_check : goal.returns-in_err-used_check
returns-in_err-used_check c =
    let m = c.args in
    let e : c.from_residual.result ≡ Err c.in_err-used_check.field-0.0 = search rules in
    record {
      value = ap number_in e ∙ c.in_err-used_check.ensures;
      book_after = free_left m.book.now m.first m.place _ c.in_err-used_check.ensures;
    }

pub unwrap-book-requires : goal.unwrap-book-requires
unwrap-book-requires c =
    let m = c.args in
    c.as_mut_array.ensures.variant.1 (sound_size _ (used_ready m.book.now m.first m.place (sym c.in_ok-used_check.ensures)).0)

pub overflow_add-first : goal.overflow_add-first
overflow_add-first c =
    let m = c.args in omega (arith, (used_ready m.book.now m.first m.place (sym c.in_ok-used_check.ensures)).1)

pub clear-requires : goal.clear-requires
clear-requires c =
    let m = c.args in omega (arith, (used_ready m.book.now m.first m.place (sym c.in_ok-used_check.ensures)).1)

pub returns : goal.returns
returns c =
    let m = c.args in
    let same = (rw c.unwrap-book.ensures at c.as_mut_array.ensures.cases).same in
    record {
      value = c.in_ok-used_check.ensures;
      book_after = free_done m.book.now m.first m.place (sym c.in_ok-used_check.ensures) _
          (c.clear.ensures ∙ ap (λ s. cleared s (m.first + m.place)) same);
    }
