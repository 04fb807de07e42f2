use Rattle.text.proofs.Writing.{one, then}
use lib.ListN.{length-set}
use native.Mathlib.Omega.{arith}
use mathlib.Core.Path.{refl}
use Prim.Native.Nat.{◌+◌}
use Rattle.text.proofs.put_three.Goals as goal

pub bounds-out-at-2 : goal.bounds-out-at-2
bounds-out-at-2 c = simp length-set (omega arith)

pub bounds-out-at-3 : goal.bounds-out-at-3
bounds-out-at-3 c = simp length-set (omega arith)

pub returns : goal.returns
returns c =
    let a = c.args in then
    (then
    (one a.out.now a.at _ (a.at + 1) (omega arith) refl)
    (one _ (a.at + 1) _ (a.at + 2) (simp length-set (omega arith)) (omega arith)))
    (one _ (a.at + 2) _ (a.at + 3) (simp length-set (omega arith)) (omega arith))
