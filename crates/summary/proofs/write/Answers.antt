use Rattle.std.proofs.Common.{◌≡◌, arith}
use Rattle.tools.proofs.Lists.{filled_all}
use Rattle.summary.specs.Summary.{summary_with}
use Rattle.summary.proofs.Written.{marked, desk_more}
use Rattle.summary.proofs.write.Goals as goal

pub loop-j-init : goal.loop-j-init
loop-j-init c = marked _ c.args.summary.now c.told-summary

pub loop-j-preserved : goal.loop-j-preserved
loop-j-preserved c =
    let h = c.loop-j in
    let x = c.args in
    desk_more x.seats.now x.mail.now x.shelf.now h.j c.lags_at-at.result c.phase_spot-p.result (omega arith) c.lags_at-at.ensures
    c.phase_spot-p.ensures h.summary h.invariant

pub returns : goal.returns
unfolding summary_with
returns c =
    let h = c.loop-j in
    let e : h.j ≡ 8 = omega arith in
    filled_all 26 _ h.summary (rw e at h.invariant)
