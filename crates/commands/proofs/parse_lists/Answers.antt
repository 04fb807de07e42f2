use Rattle.commands.specs.Lines.{lists, start_of, numbers_in, wanted_in}
use Rattle.commands.proofs.Shapes.{Past, chosen_any, passed_any, no_picture, nothing_left}
use Rattle.tools.specs.Tests.{pick}
use Rattle.std.proofs.Common.{◌≡◌, None, leb, length, [], ap, sym, ◌∙◌, rules}
use mathlib.Core.Option.{none}
use Rattle.commands.proofs.parse_lists.Goals as goal

pub returns-in-Some : goal.returns-in-Some
returns-in-Some c =
    let line = c.args.line.now in
    let ns = numbers_in c.in-Some.numbers.text.now in
    let e : wanted_in c.start_of.result ≡ pick (leb 6 (length ns)) (start_of ns) none = search rules in
    let none_else = no_picture line _ c.in-Some.ensures.0 in
    e ∙ sym (chosen_any _ _ line ns c.in-Some.ensures ∙ ap (pick (leb 6 (length ns)) (start_of ns)) none_else)

pub returns-in_err-all_numbers : goal.returns-in_err-all_numbers
returns-in_err-all_numbers c =
    let line = c.args.line.now in
    let past_1 : Past lists 1 line = passed_any _ _ line c.in_default.ensures in
    let e : c.from_residual.result ≡ None = search rules in
    ap wanted_in e ∙ sym (past_1 ∙ nothing_left line c.in_err-all_numbers.ensures)

pub returns : goal.returns
returns c =
    let line = c.args.line.now in
    let past_1 : Past lists 1 line = passed_any _ _ line c.in_default.ensures in
    sym (past_1 ∙ chosen_any _ [] line _ c.in_ok-all_numbers.ensures)
