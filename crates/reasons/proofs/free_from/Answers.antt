use mathlib.Core.Path.{ap, ◌∙◌}
use mathlib.Core.Bool.{not}
use borrow.Author.Rules.{rules}
use borrow.Author.Tests.{tests}
use lib.Dec.{ltb}
use Rattle.std.proofs.Common.{Some, None}
use Rattle.tools.specs.Tests.{pick}
use Rattle.std.proofs.lemmas.Iterator.{first_from_Range}
use Rattle.tools.proofs.Tests.{lowest_cong}
use Rattle.rules.specs.Model.{used}
use Rattle.reasons.specs.Held.{held_at, used_at}
use Rattle.reasons.proofs.Held.{used_held}
use Rattle.reasons.proofs.Found.{first_lowest}
use Rattle.reasons.proofs.free_from.Goals as goal

pub returns : goal.returns
returns c =
    let x = c.args in
    first_lowest 32 (λ p. not (used_at x.book.now x.first p)) c.find.result
    (first_from_Range _ _ _ c.find.result _ _ c.find.ensures.ran (λ p q k. search (rules, tests)) (λ p q k. search (rules, tests)))
    ∙ ap (λ n. pick (ltb n 32) (Some n) None)
    (lowest_cong 32 (λ p. not (used_at x.book.now x.first p)) (λ p. not (used (held_at x.book.now x.first p)))
    (λ p l. ap not (used_held x.book.now x.first p l)))
