use Rattle.text.proofs.Streams.{line_ends}
use Rattle.std.proofs.Common.{◌≡◌, ◌-◌, length, take, drop, length-drop, arith, rules, tests}
use Rattle.std.proofs.lemmas.Iterator.{IsFirst-from_position, YieldsList-from_slice}
use lib.Seq.{take_all}
use Rattle.text.proofs.line_end.Goals as goal

pub returns : goal.returns
returns c =
    let s = c.args.s.now in
    let rest = drop c.args.from s in
    let e : take (length s - c.args.from) rest ≡ rest = take_all _ _ (omega (arith, length-drop c.args.from s)) in
    let found = IsFirst-from_position _ _ _ (λ x. x ≡ 10) (λ x. x ≡ 10 → ⊥) c.position.ensures.ran
    (YieldsList-from_slice rest (search rules)) (λ x q k. search (rules, tests)) (λ x q k. search (rules, tests)) in
    let at = line_ends s c.args.from _ c.requires found in
    search rules
