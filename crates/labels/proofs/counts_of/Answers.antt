use Rattle.std.proofs.Common.{refl, ap, ◌∙◌, arith, ◌<◌, [], ◌≡◌}
use Rattle.tools.specs.Lists.{tab}
use Rattle.rules.specs.Replies.{row_byte, row_bytes}
use Rattle.labels.specs.Counts.{capped}
use Rattle.labels.proofs.Counts.{counts_more, counts_all}
use Rattle.labels.proofs.counts_of.Goals as goal

pub loop-j-init : goal.loop-j-init
unfolding row_bytes row_byte tab
loop-j-init c = refl

pub loop-j-preserved : goal.loop-j-preserved
loop-j-preserved c =
    let eight : c.loop-j.j < 8 = omega (arith, (counts_all 0 [] _ c.args.setup.numbers.desks c.seated-j-end.ensures).0) in
    counts_more _ _ _ _ _ _ _ _ c.loop-j.invariant eight c.phase_spot.ensures c.clock_spot.ensures c.capped-phases.ensures
    (c.capped.ensures ∙ ap capped c.limit_at.ensures)

pub returns : goal.returns
returns c =
    let h = c.loop-j in
    let e : h.j ≡ c.seated-j-end.result = omega arith in
    h.invariant ∙ (counts_all _ _ h.j c.args.setup.numbers.desks (e ∙ c.seated-j-end.ensures)).1
