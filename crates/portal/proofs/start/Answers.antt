use Rattle.std.proofs.Common.{Err}
use mathlib.Core.Path.{◌≡◌, sym, ap, ◌∙◌}
use borrow.Author.Rules.{rules}
use Rattle.rules.specs.Setups.{setup_in}
use Rattle.rules.specs.Model.{Answer}
use Rattle.rules.specs.Replies.{done_says}
use Rattle.rules.specs.Calls as Calls
use Rattle.book.proofs.Answers.{refused}
use Rattle.refusals.proofs.Started.{start_ready, start_done}
use Rattle.rules.proofs.Once.{not_done}
use Rattle.portal.proofs.start.Goals as goal

pub returns-in_err-start_check : goal.returns-in_err-start_check
returns-in_err-start_check c =
    let m = c.args in
    let r = c.in_err-start_check.field-0.0 in
    let h = c.in_err-start_check.ensures in
    let e : c.from_residual.result ≡ Err r = search rules in
    record {
      result_value = ap done_says e ∙ h;
      book_after = sym (refused m.book.now (Calls.start (setup_in m.setup))
          (λ z. not_done r (ap (λ (a : Answer). a.number) h ∙ z)));
    }

pub unwrap-book-requires : goal.unwrap-book-requires
unwrap-book-requires c =
    c.as_mut_array.ensures.variant.1
    (start_ready c.args.book.now (setup_in c.args.setup) (sym (ap (λ (a : Answer). a.number) c.in_ok-start_check.ensures))).0

pub write_fresh-requires : goal.write_fresh-requires
write_fresh-requires c =
    (start_ready c.args.book.now (setup_in c.args.setup) (sym (ap (λ (a : Answer). a.number) c.in_ok-start_check.ensures))).1

pub returns : goal.returns
returns c =
    let m = c.args in
    let ready = start_ready m.book.now (setup_in m.setup) (sym (ap (λ (a : Answer). a.number) c.in_ok-start_check.ensures)) in
    let r = start_done m.book.now (setup_in m.setup) ready.0 ready.1 in
    record { result_value = r.0; book_after = c.write_fresh.ensures ∙ r.1 }
