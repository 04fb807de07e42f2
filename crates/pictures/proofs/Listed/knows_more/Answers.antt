use mathlib.Core.Path.{refl}
use native.Mathlib.Omega.{arith}
use Rattle.pictures.proofs.Placed.{Places, slot_at, desk_eight, more_equal, more_at}
use Rattle.pictures.proofs.Listed.knows_more.Goals as goal

pub clock_at-requires : goal.clock_at-requires
clock_at-requires c =
    let m = c.args in
    let h = m.self.now in
    let q = c.requires.places in
    let p : Places m.self.now.book.now m.self.now.slots.now m.self.now.froms m.i m.k
    = record { ready = h.ready; table = h.table; first = q.0; second = q.1 } in
    omega (arith, slot_at _ _ _ _ _ p, desk_eight _ _ _ _ _ p _ _ c.from-owner.ensures)

pub returns-then-lag-up : goal.returns-then-lag-up
returns-then-lag-up c =
    let m = c.args in
    let h = m.self.now in
    let q = c.requires.places in
    let p : Places m.self.now.book.now m.self.now.slots.now m.self.now.froms m.i m.k
    = record { ready = h.ready; table = h.table; first = q.0; second = q.1 } in
    more_equal _ _ _ _ _ p _ _ c.from-owner.ensures _ _ _ c.requires.lag_value c.if-lag-up.true c.clock_at.ensures refl

pub returns : goal.returns
returns c =
    let m = c.args in
    let h = m.self.now in
    let q = c.requires.places in
    let p : Places m.self.now.book.now m.self.now.slots.now m.self.now.froms m.i m.k
    = record { ready = h.ready; table = h.table; first = q.0; second = q.1 } in
    more_at _ _ _ _ _ p _ _ _ c.requires.lag_value c.if-lag-up.false refl
