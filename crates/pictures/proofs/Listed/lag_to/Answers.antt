use native.Mathlib.Omega.{arith}
use Rattle.pictures.proofs.Placed.{Places, slot_at, desk_eight, lag_at}
use Rattle.pictures.proofs.Listed.lag_to.Goals as goal

pub phase_at-phase-requires : goal.phase_at-phase-requires
phase_at-phase-requires c =
    let m = c.args in
    let h = m.self.now in
    let p : Places m.self.now.book.now m.self.now.slots.now m.self.now.froms m.i m.k
    = record { ready = h.ready; table = h.table; first = c.requires.0; second = c.requires.1 } in
    omega (arith, slot_at _ _ _ _ _ p, desk_eight _ _ _ _ _ p _ _ c.from-desk.ensures)

pub returns : goal.returns
returns c =
    let m = c.args in
    let h = m.self.now in
    let p : Places m.self.now.book.now m.self.now.slots.now m.self.now.froms m.i m.k
    = record { ready = h.ready; table = h.table; first = c.requires.0; second = c.requires.1 } in
    lag_at _ _ _ _ _ p _ _ c.from-desk.ensures _ _ _ c.last_phase.ensures c.phase_at-phase.ensures c.lag.ensures
