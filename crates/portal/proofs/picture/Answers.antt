use Rattle.std.proofs.Common.{Err}
use mathlib.Core.Path.{◌≡◌, sym, ap, ◌∙◌}
use borrow.Author.Rules.{rules}
use Rattle.rules.specs.Replies.{pictured_says}
use Rattle.book.proofs.Numbers.{refused_answer}
use Rattle.refusals.specs.First.{list_number}
use Rattle.refusals.proofs.Slots.{picture_due}
use Rattle.rules.proofs.Once.{not_done}
use Rattle.portal.proofs.Acts.{told_of}
use Rattle.portal.proofs.picture.Goals as goal

pub returns-in_err-book : goal.returns-in_err-book
returns-in_err-book c =
    let r = c.in_err-book.field-0.0 in
    let e : c.from_residual.result ≡ Err r = search rules in
    ap pictured_says e ∙ refused_answer _ _ _ (picture_due _ _ _ c.in_err-book.ensures.number (not_done r)) (not_done r)

pub pictured-requires : goal.pictured-requires
pictured-requires c =
    let h = c.in_ok-book.ensures in ap (λ s. list_number s c.args.slots.now) h.whole ∙ sym h.number

pub returns : goal.returns
returns c =
    told_of _ _ _ _ c.in_ok-book.ensures.whole c.pictured.ensures
