use Rattle.std.proofs.Common.{◌+◌, ◌-◌, sym, ◌∙◌, arith}
use Rattle.ring.proofs.Ring.{lag_down, lag_shorter}
use Rattle.ring.proofs.lag.Goals as goal

pub returns-then-own-v : goal.returns-then-own-v
returns-then-own-v c h =
    let a = c.args in
    c.full_lag-lag.ensures ∙ lag_down 256 a.own a.v (omega arith) ∙ sym (lag_down (a.last + 1) a.own a.v (omega arith))

pub returns : goal.returns
returns c h =
    let full = c.full_lag-lag in
    let a = c.args in
    lag_shorter (a.last + 1) 256 a.own a.v full.result (255 - a.last) _ (omega arith) (omega arith) full.ensures
    (omega arith) (omega arith) (omega arith)
