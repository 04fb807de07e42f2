use Rattle.std.proofs.Common.{◌+◌, ◌*◌, ◌-◌, ◌≡◌, arith}
use Rattle.summary.specs.Lanes.{Lanes, held_most}
use Rattle.summary.proofs.Lanes.{both_none, both_zero, both_more, both_all}
use Rattle.summary.proofs.Own.both_lags.Goals as goal

pub loop-q-init : goal.loop-q-init
loop-q-init c = both_none _

pub slice_bounds-lags-end : goal.slice_bounds-lags-end
slice_bounds-lags-end c = omega (arith, c.loop-q.invariant.size)

pub held_lags-requires : goal.held_lags-requires
held_lags-requires c =
    let h = c.loop-q in
    (omega arith, both_zero _ h.q h.lags h.invariant (omega arith) (16 * h.q + 16 - 16 * h.q) (omega arith))

pub loop-q-preserved : goal.loop-q-preserved
loop-q-preserved c =
    let h = c.loop-q in
    let gone_through : Lanes 8 (held_most c.args.self.now.book.now (8 + 32 * h.q)) c.held_lags.new.lags = c.held_lags.ensures in
    both_more _ h.q h.lags h.invariant (omega arith) _ gone_through

pub returns : goal.returns
returns c =
    let h = c.loop-q in
    let e : h.q ≡ 2 = omega arith in
    both_all _ _ (rw e at h.invariant)
