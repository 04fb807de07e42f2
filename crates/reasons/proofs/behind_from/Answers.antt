use mathlib.Core.Path.{refl, ◌∙◌}
use borrow.Author.Rules.{rules}
use borrow.Author.Tests.{tests}
use Rattle.std.proofs.lemmas.Iterator.{YieldsList-from_range}
use Rattle.std.proofs.lemmas.Iterator.Search.{any_from_yields_List}
use Rattle.reasons.specs.Held.{lags_at}
use Rattle.reasons.proofs.Found.{any_ranged}
use Rattle.reasons.proofs.behind_from.Goals as goal

pub returns : goal.returns
returns c =
    let x = c.args in
    any_from_yields_List (lags_at x.desk.book.now x.desk.number x.bound x.first) _ _ _ c.any.ensures.ran
    (YieldsList-from_range 0 32 32 refl refl) (λ p b q k. search (rules, tests))
    ∙ any_ranged 32 _
