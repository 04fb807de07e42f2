use Rattle.std.proofs.Common.{refl, sym, ◌∙◌}
use Rattle.summary.specs.Lanes.{place_lag}
use Rattle.summary.proofs.Lanes.{lanes_first, lanes_largest}
use Rattle.summary.proofs.Own.held_lags.Goals as goal

pub loop-p-init : goal.loop-p-init
loop-p-init c = lanes_first _ _ c.requires.1

pub loop-p-preserved : goal.loop-p-preserved
loop-p-preserved c =
    let h = c.loop-p in
    let s = c.args.self.now.book.now in
    lanes_largest (place_lag s c.args.first) (λ j. place_lag s c.args.first j h.p) h.p h.lags _ h.invariant c.place_lags.ensures
    (λ j m. refl)

pub shape_of-lags : goal.shape_of-lags
shape_of-lags c = c.loop-p.invariant.size ∙ sym c.requires.1.size
