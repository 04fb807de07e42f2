use Rattle.tools.proofs.Lists.{filled_all}
use Rattle.commands.proofs.Shapes.{sized}
use native.Mathlib.Omega.{arith}
use mathlib.Core.Path.{◌≡◌, sym, ◌∙◌}
use Rattle.commands.proofs.numbers.Goals as goal

pub number-requires : goal.number-requires
number-requires g c =
    omega (arith, sized c.args.line.now c.args.word.now g.row.N (sym c.is_line.ensures ∙ c.if-not-is_line.false))

pub returns : goal.returns
returns g c =
    let e : c.loop-i.i ≡ g.row.N = omega arith in
    (sym c.is_line.ensures ∙ c.if-not-is_line.false, filled_all g.row.N _ _ (rw e at c.loop-i.invariant))
