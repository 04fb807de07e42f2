use Rattle.commands.specs.Lines.{filings, questions, lists}
use Rattle.commands.proofs.Shapes.{Past, chosen, passed}
use mathlib.Core.Path.{refl, sym, ◌∙◌}
use mathlib.Core.List.{List, ◌++◌}
use Prim.Native.Nat.{ℕ}
use Rattle.commands.proofs.parse_filings.Goals as goal

pub returns-in-Some : goal.returns-in-Some
returns-in-Some c = chosen _ _ _ _ refl _ c.in-Some.ensures

pub returns-in-Some-numbers : goal.returns-in-Some-numbers
returns-in-Some-numbers c =
    let line : List ℕ = c.args.line.now in
    let past_1 : Past (filings ++ questions ++ lists) 1 line = passed _ _ _ _ refl c.in_default.ensures in
    chosen _ _ _ _ refl _ c.in-Some-numbers.ensures ∙ sym past_1

pub returns : goal.returns
returns c =
    let line : List ℕ = c.args.line.now in
    let past_1 : Past (filings ++ questions ++ lists) 1 line = passed _ _ _ _ refl c.in_default.ensures in
    let past_2 : Past (filings ++ questions ++ lists) 2 line = past_1 ∙ passed _ _ _ _ refl c.in_default-numbers.ensures in
    c.parse_questions.ensures ∙ sym past_2
