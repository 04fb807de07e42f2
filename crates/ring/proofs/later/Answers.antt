use Rattle.std.proofs.Common.{◌+◌, ◌≡◌, true, false, sym}
use Rattle.ring.specs.Phases.{ring, is_later}
use Rattle.ring.proofs.Ring.{takes_other, takes_held}
use Rattle.ring.proofs.later.Goals as goal

-- in both, the test is that of the definition
pub returns-then-later_by : goal.returns-then-later_by
returns-then-later_by c =
    let a = c.args in
    let up = c.lag.ensures c.requires.0 in
    let down = c.lag-2.ensures c.requires.1 in
    let t : is_later (ring (a.last + 1)) a.own a.other a.held ≡ true = cc in
    sym (takes_other (ring (a.last + 1)) a.own a.held a.other t)

pub returns : goal.returns
returns c =
    let a = c.args in
    let up = c.lag.ensures c.requires.0 in
    let down = c.lag-2.ensures c.requires.1 in
    let t : is_later (ring (a.last + 1)) a.own a.other a.held ≡ false = cc in
    sym (takes_held (ring (a.last + 1)) a.own a.held a.other t)
