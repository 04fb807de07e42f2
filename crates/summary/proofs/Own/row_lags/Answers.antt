use Rattle.std.proofs.Common.{◌≡◌, ℕ, ◌<◌, refl, sym, arith, ◌∙◌}
use Rattle.tools.specs.Tests.{larger}
use Rattle.tools.specs.Lists.{byte}
use Rattle.book.specs.Layout.{phase_spot}
use Rattle.reasons.specs.Held.{lag_in}
use Rattle.summary.proofs.Lanes.{larger_max, widened_none, widened_here, widened_more, widened_all, lane_lag}
use Rattle.summary.proofs.Own.row_lags.Goals as goal

pub loop-c-init : goal.loop-c-init
loop-c-init c = widened_none _ _ c.requires.1

pub loop-c-preserved : goal.loop-c-preserved
loop-c-preserved c =
    let h = c.loop-c in
    let own = c.args.self.now in
    let lane : (j : ℕ) → j < 8 → h.c ≡ phase_spot j
    → c.max.result ≡ larger (byte c.args.lags.now (phase_spot j)) (lag_in own.book.now j c.args.k)
    = λ j m e.
    let held = widened_here _ _ _ _ h.invariant j m e in
    let lag =
    lane_lag own.book.now own.of_sound own.row own.lanes c.args.k j h.c c.requires.0 m e _ _ _ _ refl c.byte_at.ensures
    c.last_phase-last.ensures
    c.lag-lag.ensures in
    c.max.ensures ∙ larger_max _ _ ∙ (λ i. larger (held i) (lag i)) in
    widened_more _ _ h.c h.lags h.invariant _ (omega arith) lane

pub shape_of-lags : goal.shape_of-lags
shape_of-lags c = c.loop-c.invariant.size ∙ sym c.requires.1

pub returns : goal.returns
returns c =
    let h = c.loop-c in
    let e : h.c ≡ 16 = omega arith in
    widened_all _ _ _ (rw e at h.invariant)
