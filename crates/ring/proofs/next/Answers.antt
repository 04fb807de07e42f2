use Rattle.std.proofs.Common.{◌+◌, ◌<◌, ◌≤◌, sym, ◌∙◌, arith}
use Rattle.ring.specs.Phases.{next_of}
use Rattle.ring.proofs.Ring.{next_shorter, next_beyond}
use Rattle.ring.proofs.next.Goals as goal

pub returns-then-after-last : goal.returns-then-after-last
returns-then-after-last c =
    let a = c.args in
    let e = c.full_next-after.ensures in
    let l : next_of 256 a.v < a.last + 1 = omega (arith, e, c.if-after-last.true) in
    e ∙ sym (next_shorter (a.last + 1) 256 a.v (omega arith) (omega arith) l)

pub returns : goal.returns
returns c =
    let a = c.args in
    let e = c.full_next-after.ensures in
    let l : a.last + 1 ≤ next_of 256 a.v = omega (arith, e, c.if-after-last.false) in
    sym (next_beyond (a.last + 1) 256 a.v (omega arith) (omega arith) l)
