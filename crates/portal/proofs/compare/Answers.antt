use Rattle.std.proofs.Common.{Err}
use mathlib.Core.Path.{◌≡◌, sym, ap, ◌∙◌}
use borrow.Author.Rules.{rules}
use Rattle.rules.specs.Replies.{compared_says}
use Rattle.book.proofs.Numbers.{refused_answer}
use Rattle.refusals.specs.First.{slots_number}
use Rattle.refusals.proofs.Slots.{compare_due}
use Rattle.rules.proofs.Once.{not_done}
use Rattle.portal.proofs.Acts.{told_of}
use Rattle.portal.proofs.compare.Goals as goal

pub returns-in_err-book : goal.returns-in_err-book
returns-in_err-book c =
    let r = c.in_err-book.field-0.0 in
    let e : c.from_residual.result ≡ Err r = search rules in
    ap compared_says e ∙ refused_answer _ _ _ (compare_due _ _ _ _ c.in_err-book.ensures.number (not_done r)) (not_done r)

pub compared-requires : goal.compared-requires
compared-requires c =
    let h = c.in_ok-book.ensures in ap (λ s. slots_number s c.args.first c.args.second) h.whole ∙ sym h.number

pub returns : goal.returns
returns c =
    told_of _ _ _ _ c.in_ok-book.ensures.whole c.compared.ensures
