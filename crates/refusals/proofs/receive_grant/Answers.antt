use mathlib.Core.Path.{◌≡◌, refl, ap, ◌∙◌}
use borrow.Author.Rules.{rules}
use Rattle.std.proofs.Common.{Err}
use Rattle.rules.specs.Model.{receive, reasons}
use Rattle.refusals.specs.Grants.{granted_by}
use Rattle.refusals.proofs.Grants.{refused_first}
use Rattle.refusals.proofs.receive_grant.Goals as goal

pub returns-in_err-at : goal.returns-in_err-at
unfolding reasons
returns-in_err-at c =
    let a = c.args in let r = c.in_err-at.field-0.0 in
    let e : c.from_residual.result ≡ Err r = search rules in
    ap granted_by e ∙ refused_first a.book.now a.desk (receive a.desk a.place a.keep) a.keep r _ c.in_err-at.ensures.number refl
