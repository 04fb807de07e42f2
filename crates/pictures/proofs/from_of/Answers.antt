use mathlib.Core.Path.{◌≡◌, ◌∙◌}
use Prim.Native.Nat.{ℕ, ◌+◌, ◌<◌}
use native.Mathlib.Omega.{arith}
use Rattle.ring.specs.Phases.{lag_of}
use Rattle.ring.proofs.Ring.{lag_by_last}
use Rattle.rules.specs.Setups.{setup_with}
use mathlib.Core.Bool.{true, false}
use mathlib.Core.List.{List}
use Rattle.book.specs.Sound.{sound}
use Rattle.rules.specs.Model.{by_in, no_slot}
use Rattle.book.specs.Layout.{limits_of, setup_of, row_at}
use Rattle.book.specs.Numbers.{tables_of}
use Rattle.book.proofs.Below.{phase_below}
use Rattle.asking.proofs.Slots.{slot_place, slot_eight}
use Rattle.pictures.proofs.Ways.{reach_bytes, back_bytes, from_is}
use Rattle.pictures.proofs.from_of.Goals as goal

-- the slot is one of the shelf, and the owner of its stamp one of eight desks
held : (s : List ℕ) (k o d : ℕ) → sound s ≡ true → no_slot (tables_of s) k ≡ false
    → o ≡ by_in ((tables_of s).shelf k) → d ≡ o → (k < 32) × (d < 8)
held s k o d w h e f = (slot_place s k h, omega (arith, slot_eight s k h w))

pub phase_at-own-requires : goal.phase_at-own-requires
phase_at-own-requires c =
    let r = c.requires in
    let h = held _ _ _ _ r.whole r.used c.owner_of-owner.ensures c.from-desk.ensures in omega (arith, h.1)

pub phase_at-requires : goal.phase_at-requires
phase_at-requires c =
    let r = c.requires in
    let h = held _ _ _ _ r.whole r.used c.owner_of-owner.ensures c.from-desk.ensures in omega (arith, h.0, h.1)

pub clock_at-clock-requires : goal.clock_at-clock-requires
clock_at-clock-requires c =
    let r = c.requires in
    let h = held _ _ _ _ r.whole r.used c.owner_of-owner.ensures c.from-desk.ensures in omega (arith, h.0, h.1)

pub least-least-requires : goal.least-least-requires
least-least-requires c =
    (reach_bytes c.args.book.now (setup_with c.args.setup (limits_of c.args.book.now)) c.requires.setup c.requires.whole).0

pub reach_back-requires : goal.reach_back-requires
reach_back-requires c =
    omega (arith, (reach_bytes c.args.book.now (setup_with c.args.setup (limits_of c.args.book.now)) c.requires.setup c.requires.whole).1)

pub most-most-requires : goal.most-most-requires
most-most-requires c =
    let at = setup_with c.args.setup (limits_of c.args.book.now) in
    back_bytes at _ _ (c.reach_back.ensures (limits_of c.args.book.now))
    (reach_bytes c.args.book.now at c.requires.setup c.requires.whole).1

pub returns : goal.returns
returns c =
    let s = c.args.book.now in
    let r = c.requires in
    let j = c.from-desk.result in
    let owner : j ≡ by_in ((tables_of s).shelf c.args.slot) = c.from-desk.ensures ∙ c.owner_of-owner.ensures in
    let h = held s c.args.slot _ _ r.whole r.used c.owner_of-owner.ensures c.from-desk.ensures in
    let on_ring : (row_at s (40 + c.args.slot) j).phase < (setup_of s).phases
    = phase_below s r.whole (40 + c.args.slot) j (omega (arith, h.0)) h.1 in
    let P = (setup_of s).phases in
    let o = c.phase_at-own.ensures in
    let e = c.phase_at.ensures in
    from_is s c.args.slot (setup_with c.args.setup (limits_of s)) r.setup j owner _ _ _ _ _ _ c.owner_of-owner.ensures o
    (lag_by_last P _ _ _ _ c.last_phase.ensures (rw e on_ring) c.lag-up.ensures ∙ (λ t. lag_of P (o t) (e t)))
    c.clock_at-clock.ensures c.least-least.ensures _ (c.reach_back.ensures (limits_of s)) c.most-most.ensures
