use Rattle.std.proofs.Common.{refl, sym, arith, ◌∙◌}
use Rattle.book.proofs.Told.{few_desks}
use Rattle.reasons.specs.Held.{lag_in}
use Rattle.summary.proofs.Lanes.{lanes_first, lanes_largest}
use Rattle.summary.proofs.Own.seats_lags.Goals as goal

pub loop-k-init : goal.loop-k-init
loop-k-init c = lanes_first _ _ c.requires

pub row_lags-requires : goal.row_lags-requires
row_lags-requires c =
    let own = c.args.self.now in
    (omega (arith, few_desks own.book.now own.of_sound, c.desks_of-d.ensures), c.loop-k.invariant.size)

pub loop-k-preserved : goal.loop-k-preserved
loop-k-preserved c =
    let h = c.loop-k in
    let s = c.args.self.now.book.now in
    lanes_largest (lag_in s) (λ j. lag_in s j h.k) h.k h.lags _ h.invariant c.row_lags.ensures (λ j m. refl)

pub shape_of-lags : goal.shape_of-lags
shape_of-lags c = c.loop-k.invariant.size ∙ sym c.requires.size
