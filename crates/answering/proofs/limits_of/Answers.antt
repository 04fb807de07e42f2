use Prim.Native.Nat.{ℕ}
use native.Mathlib.Omega.{arith}
use mathlib.Core.Path.{◌≡◌, ◌∙◌}
use lib.ListN.{length-replicate}
use Rattle.tools.proofs.Lists.{filled_none, filled_more, filled_all}
use Rattle.answering.proofs.limits_of.Goals as goal

pub loop-j-init : goal.loop-j-init
loop-j-init c = filled_none 8 _ _ (length-replicate {A = ℕ} 8 0)

pub loop-j-preserved : goal.loop-j-preserved
loop-j-preserved c =
    let h = c.loop-j in
    filled_more 8 h.j _ h.limits _ h.invariant (omega arith) (c.from.ensures ∙ c.tag_b.ensures)

pub returns : goal.returns
returns c =
    let h = c.loop-j in
    let e : h.j ≡ 8 = omega arith in
    filled_all 8 _ h.limits (rw e at h.invariant)
