use mathlib.Core.Path.{◌≡◌, refl, sym, ap, ◌∙◌}
use Rattle.std.proofs.Common.{Err, Ok, rules}
use Rattle.tools.specs.Reasons.{if_done}
use Rattle.tools.proofs.Reasons.{if_undone}
use Rattle.rules.specs.Setups.{setup_in}
use Rattle.rules.specs.Model.{Answer}
use Rattle.rules.specs.Replies.{number_in, done_value, done_says}
use Rattle.rules.specs.Calls.{Call, ring_of}
use Rattle.rules.specs.Calls as Calls
use Rattle.rules.proofs.Once.{not_done}
use Rattle.book.specs.Codec.{decode}
use Rattle.summary.specs.Summary.{summary_of}
use Rattle.book.specs.Answers.{answer_to}
use Rattle.office.proofs.Filed.{made, changed, due_none, due_ready, says_number, start_filed}
use Rattle.office.proofs.start.Goals as goal

pub returns-in-Err : goal.returns-in-Err
returns-in-Err c =
    let x = c.args in
    let started : Call = Calls.start (setup_in x.setup) in
    let d = c.papers_number in
    let u = changed done_value x.book.now x.summary.now started refl (Err c.unwrap_or.result) _ _
    (λ n. (c.start_check.result, says_number done_value c.start_check.result _ c.start_check.ensures, search rules, refl, refl))
    (λ e. absurd (not_done c.in-Err.due (ap number_in (sym c.in-Err.is) ∙ d.ensures ∙ sym (due_none x.summary.now e)))) in
    record { result_value = u.0; summary_after = u.1 }

pub returns-in_err-start : goal.returns-in_err-start
returns-in_err-start c =
    let x = c.args in
    let started : Call = Calls.start (setup_in x.setup) in
    let size = due_ready x.summary.now 0 (ap number_in (sym c.in_default.is) ∙ c.papers_number.ensures) refl in
    let told : c.from_residual.result ≡ Err c.in_err-start.field-0.0 = search rules in
    let said : done_says c.from_residual.result ≡ answer_to x.book.now started = search rules in
    let none = sym (ap (λ r. if_done (number_in r) (summary_of ring_of (decode c.start.new.book)) x.summary.now) told
    ∙ if_undone _ _ _ (not_done c.in_err-start.field-0.0)) in
    let u = made done_value x.book.now x.summary.now started refl size c.from_residual.result said
    _ c.start.ensures.book_after _ none in
    record { result_value = u.0; summary_after = u.1 }

pub file_fresh-requires : goal.file_fresh-requires
file_fresh-requires c =
    due_ready c.args.summary.now 0 (ap number_in (sym c.in_default.is) ∙ c.papers_number.ensures) refl

pub returns : goal.returns
returns c =
    let x = c.args in
    let started : Call = Calls.start (setup_in x.setup) in
    let size = due_ready x.summary.now 0 (ap number_in (sym c.in_default.is) ∙ c.papers_number.ensures) refl in
    let said = sym (ap done_says c.in_ok-start.was) ∙ c.start.ensures.result_value in
    let fresh = start_filed x.book.now (setup_in x.setup) (ap (λ (a : Answer). a.number) (sym said)) _ c.start.ensures.book_after _
    c.file_fresh.ensures in
    let u = made done_value x.book.now x.summary.now started refl size (Ok tt) said _ c.start.ensures.book_after _ fresh in
    record { result_value = u.0; summary_after = u.1 }
