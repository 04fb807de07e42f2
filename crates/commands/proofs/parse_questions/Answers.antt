use Rattle.commands.specs.Lines.{questions, lists}
use Rattle.commands.proofs.Shapes.{Past, chosen, passed}
use mathlib.Core.Path.{refl, sym, ◌∙◌}
use mathlib.Core.List.{List, ◌++◌}
use Prim.Native.Nat.{ℕ}
use Rattle.commands.proofs.parse_questions.Goals as goal

pub returns-in-Some : goal.returns-in-Some
returns-in-Some c = chosen _ _ _ _ refl _ c.in-Some.ensures

pub returns-in-Some-numbers : goal.returns-in-Some-numbers
returns-in-Some-numbers c =
    let line : List ℕ = c.args.line.now in
    let past_1 : Past (questions ++ lists) 1 line = passed _ _ _ _ refl c.in_default.ensures in
    chosen _ _ _ _ refl _ c.in-Some-numbers.ensures ∙ sym past_1

pub returns-in-Some-numbers-2 : goal.returns-in-Some-numbers-2
returns-in-Some-numbers-2 c =
    let line : List ℕ = c.args.line.now in
    let past_1 : Past (questions ++ lists) 1 line = passed _ _ _ _ refl c.in_default.ensures in
    let past_2 : Past (questions ++ lists) 2 line = past_1 ∙ passed _ _ _ _ refl c.in_default-numbers.ensures in
    chosen _ _ _ _ refl _ c.in-Some-numbers-2.ensures ∙ sym past_2

pub returns : goal.returns
returns c =
    let line : List ℕ = c.args.line.now in
    let past_1 : Past (questions ++ lists) 1 line = passed _ _ _ _ refl c.in_default.ensures in
    let past_2 : Past (questions ++ lists) 2 line = past_1 ∙ passed _ _ _ _ refl c.in_default-numbers.ensures in
    let past_3 : Past (questions ++ lists) 3 line = past_2 ∙ passed _ _ _ _ refl c.in_default-numbers-2.ensures in
    c.parse_lists.ensures ∙ sym past_3
