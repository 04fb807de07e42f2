use Rattle.commands.specs.Lines.{events, filings, questions, lists, wanted_in}
use Rattle.commands.specs.declared.Command.TheVariants as Commands
use Rattle.commands.proofs.Shapes.{Past, chosen, passed, wished_call}
use Rattle.rules.specs.Model.{local, send, receive, reset}
use Rattle.tools.specs.Lists.{byte}
use Rattle.std.proofs.Common.{◌≡◌, None, Some, List, ◌++◌, ℕ, ap, refl, sym, ◌∙◌, rules}
use Rattle.commands.proofs.parse_events.Goals as goal

pub returns-in_err-wished : goal.returns-in_err-wished
returns-in_err-wished c =
    let ns = c.in-Some.numbers in
    let e : c.from_residual.result ≡ None = search rules in
    ap wanted_in e ∙ wished_call (byte ns 1) None
    (Commands.Local (byte ns 0)) (local (byte ns 0)) (λ q. refl) c.in_err-wished.ensures
    ∙ chosen _ _ _ _ refl ns c.in-Some.ensures

pub returns-in-Some : goal.returns-in-Some
returns-in-Some c =
    let ns = c.in-Some.numbers in
    wished_call (byte ns 1) (Some c.in_ok-wished.field-0)
    (Commands.Local (byte ns 0)) (local (byte ns 0)) (λ q. refl) c.in_ok-wished.ensures
    ∙ chosen _ _ _ _ refl ns c.in-Some.ensures

pub returns-in_err-wished-2 : goal.returns-in_err-wished-2
returns-in_err-wished-2 c =
    let ns = c.in-Some-numbers.numbers in
    let line : List ℕ = c.args.line.now in
    let past_1 : Past (events ++ filings ++ questions ++ lists) 1 line = passed _ _ _ _ refl c.in_default.ensures in
    let e : c.from_residual-in_err-wished-2.result ≡ None = search rules in
    ap wanted_in e ∙ wished_call (byte ns 2) None
    (Commands.Send (byte ns 0) (byte ns 1)) (send (byte ns 0) (byte ns 1)) (λ q. refl) c.in_err-wished-2.ensures
    ∙ chosen _ _ _ _ refl ns c.in-Some-numbers.ensures ∙ sym past_1

pub returns-in-Some-numbers : goal.returns-in-Some-numbers
returns-in-Some-numbers c =
    let ns = c.in-Some-numbers.numbers in
    let line : List ℕ = c.args.line.now in
    let past_1 : Past (events ++ filings ++ questions ++ lists) 1 line = passed _ _ _ _ refl c.in_default.ensures in
    wished_call (byte ns 2) (Some c.in_ok-wished-2.field-0)
    (Commands.Send (byte ns 0) (byte ns 1)) (send (byte ns 0) (byte ns 1)) (λ q. refl) c.in_ok-wished-2.ensures
    ∙ chosen _ _ _ _ refl ns c.in-Some-numbers.ensures ∙ sym past_1

pub returns-in_err-wished-3 : goal.returns-in_err-wished-3
returns-in_err-wished-3 c =
    let ns = c.in-Some-numbers-2.numbers in
    let line : List ℕ = c.args.line.now in
    let past_1 : Past (events ++ filings ++ questions ++ lists) 1 line = passed _ _ _ _ refl c.in_default.ensures in
    let past_2 : Past (events ++ filings ++ questions ++ lists) 2 line = past_1 ∙ passed _ _ _ _ refl c.in_default-numbers.ensures in
    let e : c.from_residual-in_err-wished-3.result ≡ None = search rules in
    ap wanted_in e ∙ wished_call (byte ns 2) None
    (Commands.Receive (byte ns 0) (byte ns 1)) (receive (byte ns 0) (byte ns 1)) (λ q. refl) c.in_err-wished-3.ensures
    ∙ chosen _ _ _ _ refl ns c.in-Some-numbers-2.ensures ∙ sym past_2

pub returns-in-Some-numbers-2 : goal.returns-in-Some-numbers-2
returns-in-Some-numbers-2 c =
    let ns = c.in-Some-numbers-2.numbers in
    let line : List ℕ = c.args.line.now in
    let past_1 : Past (events ++ filings ++ questions ++ lists) 1 line = passed _ _ _ _ refl c.in_default.ensures in
    let past_2 : Past (events ++ filings ++ questions ++ lists) 2 line = past_1 ∙ passed _ _ _ _ refl c.in_default-numbers.ensures in
    wished_call (byte ns 2) (Some c.in_ok-wished-3.field-0)
    (Commands.Receive (byte ns 0) (byte ns 1)) (receive (byte ns 0) (byte ns 1)) (λ q. refl) c.in_ok-wished-3.ensures
    ∙ chosen _ _ _ _ refl ns c.in-Some-numbers-2.ensures ∙ sym past_2

pub returns-in_err-wished-4 : goal.returns-in_err-wished-4
returns-in_err-wished-4 c =
    let ns = c.in-Some-numbers-3.numbers in
    let line : List ℕ = c.args.line.now in
    let past_1 : Past (events ++ filings ++ questions ++ lists) 1 line = passed _ _ _ _ refl c.in_default.ensures in
    let past_2 : Past (events ++ filings ++ questions ++ lists) 2 line = past_1 ∙ passed _ _ _ _ refl c.in_default-numbers.ensures in
    let past_3 : Past (events ++ filings ++ questions ++ lists) 3 line = past_2 ∙ passed _ _ _ _ refl c.in_default-numbers-2.ensures in
    let e : c.from_residual-in_err-wished-4.result ≡ None = search rules in
    ap wanted_in e ∙ wished_call (byte ns 1) None
    (Commands.Reset (byte ns 0)) (reset (byte ns 0)) (λ q. refl) c.in_err-wished-4.ensures
    ∙ chosen _ _ _ _ refl ns c.in-Some-numbers-3.ensures ∙ sym past_3

pub returns-in-Some-numbers-3 : goal.returns-in-Some-numbers-3
returns-in-Some-numbers-3 c =
    let ns = c.in-Some-numbers-3.numbers in
    let line : List ℕ = c.args.line.now in
    let past_1 : Past (events ++ filings ++ questions ++ lists) 1 line = passed _ _ _ _ refl c.in_default.ensures in
    let past_2 : Past (events ++ filings ++ questions ++ lists) 2 line = past_1 ∙ passed _ _ _ _ refl c.in_default-numbers.ensures in
    let past_3 : Past (events ++ filings ++ questions ++ lists) 3 line = past_2 ∙ passed _ _ _ _ refl c.in_default-numbers-2.ensures in
    wished_call (byte ns 1) (Some c.in_ok-wished-4.field-0)
    (Commands.Reset (byte ns 0)) (reset (byte ns 0)) (λ q. refl) c.in_ok-wished-4.ensures
    ∙ chosen _ _ _ _ refl ns c.in-Some-numbers-3.ensures ∙ sym past_3

pub returns : goal.returns
returns c =
    let line : List ℕ = c.args.line.now in
    let past_1 : Past (events ++ filings ++ questions ++ lists) 1 line = passed _ _ _ _ refl c.in_default.ensures in
    let past_2 : Past (events ++ filings ++ questions ++ lists) 2 line = past_1 ∙ passed _ _ _ _ refl c.in_default-numbers.ensures in
    let past_3 : Past (events ++ filings ++ questions ++ lists) 3 line = past_2 ∙ passed _ _ _ _ refl c.in_default-numbers-2.ensures in
    let past_4 : Past (events ++ filings ++ questions ++ lists) 4 line = past_3 ∙ passed _ _ _ _ refl c.in_default-numbers-3.ensures in
    c.parse_filings.ensures ∙ sym past_4
