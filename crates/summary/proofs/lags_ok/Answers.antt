use Rattle.std.proofs.Common.{◌≡◌, ◌+◌, refl, true, arith, leb, ◌∙◌}
use Rattle.tools.specs.Tests.{all_below}
use Rattle.tools.specs.Lists.{byte}
use Rattle.tools.proofs.Tests.{and_more}
use Rattle.summary.proofs.Bounded.{bounds_keep}
use Rattle.summary.proofs.lags_ok.Goals as goal

pub loop-i-init : goal.loop-i-init
unfolding all_below
loop-i-init c = refl

pub loop-i-preserved : goal.loop-i-preserved
loop-i-preserved c = let h = c.loop-i in and_more true _ h.i _ _ h.invariant (λ t. refl)

pub returns : goal.returns
returns c =
    let h = c.loop-i in
    let x = c.args in
    let e : h.i ≡ 24 = omega arith in
    rw e at h.invariant ∙ (λ i. all_below 24 (λ k. leb (byte x.summary.now (2 + k)) (byte (c.bounds-most.ensures i) (2 + k))))
    ∙ bounds_keep x.summary.now (record { seats = x.seat; mail = x.mail; shelf = x.shelf })
