use Rattle.tools.specs.Lists.{tab}
use Rattle.tools.proofs.Lists.{length_tab}
use Rattle.text.specs.Digits.{number_at}
use Rattle.commands.proofs.Shapes.{one_more}
use native.Mathlib.Omega.{arith}
use mathlib.Core.Path.{◌≡◌, ap, ◌∙◌}
use lib.ListN.{length}
use Prim.Native.Nat.{◌+◌, ◌*◌}
use Rattle.commands.proofs.lent.Numbers.list.Goals as goal

pub loop-i-init : goal.loop-i-init
unfolding tab
loop-i-init c = c.new-list.ensures

pub push-requires : goal.push-requires
push-requires c =
    let n : length c.loop-i.list.items ≡ c.loop-i.i = ap length c.loop-i.invariant ∙ length_tab 0 c.loop-i.i _ in
    (omega arith, omega arith)

pub loop-i-preserved : goal.loop-i-preserved
loop-i-preserved c =
    let e : 4 * c.loop-i.i ≡ 0 + 4 * c.loop-i.i = omega arith in
    c.push.ensures.items
    ∙ one_more _ c.loop-i.i _ _ c.loop-i.invariant (c.number.ensures ∙ ap (number_at c.args.self.text.now) e)
