use Prim.Native.Nat.{ℕ, ◌<◌}
use mathlib.Core.Path.{◌≡◌, ◌∙◌}
use native.Mathlib.Omega.{arith}
use Rattle.ring.specs.Phases.{lag_of}
use Rattle.ring.proofs.Ring.{lag_by_last}
use Rattle.rules.specs.Model.{by_in}
use Rattle.book.specs.Layout.{setup_of, row_at}
use Rattle.book.specs.Numbers.{tables_of}
use Rattle.book.proofs.Below.{phase_below}
use Rattle.asking.proofs.Slots.{slot_place, slot_eight, way_lags}
use Rattle.asking.proofs.way_of.Goals as goal

pub phase_at-own-requires : goal.phase_at-own-requires
phase_at-own-requires c =
    let r = c.requires in
    omega (arith, c.from-owner.ensures, c.owner_of.ensures, slot_eight c.args.book.now c.args.first r.first r.whole)

pub returns : goal.returns
returns c =
    let s = c.args.book.now in
    let r = c.requires in
    let owner : c.from-owner.result ≡ by_in ((tables_of s).shelf c.args.first) = c.from-owner.ensures ∙ c.owner_of.ensures in
    let eight : c.from-owner.result < 8 = omega (arith, owner, slot_eight s _ r.first r.whole) in
    let below : (c.args.first < 32) × (c.args.second < 32) = (slot_place s _ r.first, slot_place s _ r.second) in
    let on_ring : (k : ℕ) → k < 72 → (row_at s k c.from-owner.result).phase < (setup_of s).phases
    = λ k l. phase_below s r.whole k _ l eight in
    let P = (setup_of s).phases in
    let p = c.last_phase-last.ensures in
    let o = c.phase_at-own.ensures in
    let e = c.phase_at.ensures in
    let f = c.phase_at-2.ensures in
    way_lags s r.whole c.args.first c.args.second r.first r.second c.from-owner.result owner _ _ _ _
    (lag_by_last P _ _ _ _ p (rw e (on_ring _ (omega (arith, below)))) c.lag-up.ensures ∙ (λ t. lag_of P (o t) (e t)))
    (lag_by_last P _ _ _ _ p (rw f (on_ring _ (omega (arith, below)))) c.lag-down.ensures ∙ (λ t. lag_of P (o t) (f t)))
    c.clock_at-from.ensures c.clock_at-to.ensures

pub phase_at-requires : goal.phase_at-requires
phase_at-requires c =
    let r = c.requires in
    let e = slot_eight c.args.book.now c.args.first r.first r.whole in
    omega (arith, c.from-owner.ensures, c.owner_of.ensures, e, slot_place c.args.book.now c.args.first r.first)

pub phase_at-requires-2 : goal.phase_at-requires-2
phase_at-requires-2 c =
    let r = c.requires in
    let e = slot_eight c.args.book.now c.args.first r.first r.whole in
    omega (arith, c.from-owner.ensures, c.owner_of.ensures, e, slot_place c.args.book.now c.args.second r.second)

pub clock_at-from-requires : goal.clock_at-from-requires
clock_at-from-requires c =
    let r = c.requires in
    let e = slot_eight c.args.book.now c.args.first r.first r.whole in
    omega (arith, c.from-owner.ensures, c.owner_of.ensures, e, slot_place c.args.book.now c.args.first r.first)

pub clock_at-to-requires : goal.clock_at-to-requires
clock_at-to-requires c =
    let r = c.requires in
    let e = slot_eight c.args.book.now c.args.first r.first r.whole in
    omega (arith, c.from-owner.ensures, c.owner_of.ensures, e, slot_place c.args.book.now c.args.second r.second)
