use mathlib.Core.Path.{◌∙◌}
use borrow.Author.Rules.{rules}
use borrow.Author.Tests.{tests}
use Rattle.std.proofs.lemmas.Iterator.{YieldsList-from_slice}
use Rattle.std.proofs.lemmas.Iterator.Search.{any_from_yields_List}
use Rattle.rules.specs.Model.{no_slot}
use Rattle.book.specs.Numbers.{tables_of}
use Rattle.reasons.proofs.Found.{any_listed}
use Rattle.refusals.proofs.any_gone.Goals as goal

pub returns : goal.returns
returns c =
    any_from_yields_List (no_slot (tables_of c.args.book.now)) _ _ c.any.result c.any.ensures.ran
    (YieldsList-from_slice c.args.slots.now cc) (λ p b q k. search (rules, tests))
    ∙ any_listed _ c.args.slots.now
