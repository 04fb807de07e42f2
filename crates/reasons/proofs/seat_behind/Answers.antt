use mathlib.Core.Path.{refl, ap, ◌∙◌}
use native.Mathlib.Omega.{arith}
use borrow.Author.Rules.{rules}
use borrow.Author.Tests.{tests}
use Rattle.std.proofs.lemmas.Iterator.{YieldsList-from_range, serves_from_Range}
use Rattle.std.proofs.lemmas.Iterator.Search.{any_from_yields_List}
use Rattle.tools.specs.Tests.{any}
use Rattle.book.proofs.Told.{few_desks}
use Rattle.reasons.specs.Held.{seat_lags_at}
use Rattle.reasons.proofs.Found.{any_ranged}
use Rattle.reasons.proofs.seat_behind.Goals as goal

pub any-requires-clause-callable : goal.any-requires-clause-callable
any-requires-clause-callable c =
    let f = few_desks c.args.desk.book.now c.args.desk.here.whole in
    serves_from_Range (λ x q k. search rules) (λ x l m. search (rules, f))

pub returns : goal.returns
returns c =
    let d = c.args.desk in let n = c.desks_of in
    any_from_yields_List (seat_lags_at d.book.now d.number) _ _ _ c.any.ensures.ran
    (YieldsList-from_range 0 n.result n.result refl (omega arith)) (λ p b q k. search (rules, tests))
    ∙ any_ranged n.result _ ∙ ap (λ n. any n (seat_lags_at d.book.now d.number)) n.ensures
