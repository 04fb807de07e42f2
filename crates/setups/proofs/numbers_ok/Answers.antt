use Rattle.std.proofs.Common.{◌≡◌, true, ◌&&◌, [], sym, ◌∙◌, arith}
use Rattle.rules.specs.Setups.{setup_with}
use Rattle.setups.specs.Bounds.{bounded, on_the_ring}
use Rattle.setups.proofs.Bounds.{kept, numbers_are}
use Rattle.setups.proofs.numbers_ok.Goals as goal

pub on_the_ring-requires : goal.on_the_ring-requires
on_the_ring-requires c =
    let held : bounded (setup_with c.args.s []) ≡ true = sym c.bounded.ensures ∙ c.if-bounded.true in
    let k = kept _ held in
    (omega (arith, k.shelf, k.shelved, k.whole), k.back.1, k.ahead.1)

pub returns-then-bounded : goal.returns-then-bounded
returns-then-bounded c =
    let X = setup_with c.args.s [] in
    let held : bounded X ≡ true = sym c.bounded.ensures ∙ c.if-bounded.true in
    c.on_the_ring.ensures ∙ sym (λ i. held i && on_the_ring X) ∙ numbers_are X

pub returns-else-bounded : goal.returns-else-bounded
returns-else-bounded c =
    let X = setup_with c.args.s [] in
    let no = sym c.bounded.ensures ∙ c.if-bounded.false in
    c.if-bounded.false ∙ sym (λ i. no i && on_the_ring X) ∙ numbers_are X
