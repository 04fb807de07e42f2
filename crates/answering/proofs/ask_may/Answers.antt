use Rattle.std.specs.Prelude.{Some, None, Err}
use Rattle.rules.specs.Replies.{foretold_says}
use Rattle.rules.specs.declared.Refusal.TheVariants.{BadSetup}
use Rattle.rules.specs.Numbers.{number}
use Rattle.rules.specs.Model.{refusal}
use Rattle.tools.specs.Lists.{byte}
use Rattle.tools.proofs.Lists.{length_tab}
use Rattle.book.specs.Layout.{limits_of}
use Rattle.office.specs.Office.{Folder, folder}
use Rattle.answering.proofs.Answered.{many_desks, told_may}
use native.Mathlib.Omega.{arith}
use lib.ListN.{length, take}
use mathlib.Core.Path.{◌≡◌, ap, ◌∙◌}
use Prim.Native.Nat.{◌-◌}
use borrow.Author.Rules.{rules}
use Rattle.answering.proofs.ask_may.Goals as goal

pub returns-in_err-limits : goal.returns-in_err-limits
returns-in_err-limits c =
    let given : Folder = folder c.args.book.now c.args.summary.now in
    let book : c.as_array.result ≡ Some c.in_ok-book.book = grind arith in
    let whole = rw book at c.as_array.ensures.cases in
    let none : c.get.result ≡ None = grind arith in
    let past = rw none at c.get.ensures.lookup in
    let bad = rw none at c.ok_or-2.ensures.value in
    let told : c.from_residual-in_err-limits.result ≡ Err c.in_err-limits.field-0.0 = search rules in
    let e : c.in_err-limits.field-0.0 ≡ BadSetup = cc (c.in_err-limits.was, bad) in
    ap foretold_says told ∙ ap (λ r. refusal (number r)) e ∙ many_desks given c.args.desk whole.long
    (omega (arith, past.0, length_tab, ap length c.limits_of-all.ensures, rw whole.same at c.desks_of.ensures))

pub returns : goal.returns
returns c =
    let given : Folder = folder c.args.book.now c.args.summary.now in
    let book : c.as_array.result ≡ Some c.in_ok-book.book = grind arith in
    let whole = rw book at c.as_array.ensures.cases in
    let some : c.get.result ≡ Some c.in_ok-limits.limits = grind arith in
    let part = rw some at c.get.ensures.lookup in
    let e : c.desks_of.result - 0 ≡ byte c.in_ok-book.book.now 2 = omega (arith, c.desks_of.ensures) in
    -- the limits that are lent are those of the first D seats
    let limits : c.in_ok-limits.limits.now ≡ limits_of c.in_ok-book.book.now =
    part.0.2 ∙ (λ i. take (e i) (c.limits_of-all.ensures i)) in
    told_may given c.args.desk whole.long c.numbers_of-numbers.result _ (rw whole.same at c.numbers_of-numbers.ensures)
    (rw whole.same at limits) _ c.may.ensures
