use Rattle.commands.specs.Lines.{wanted_in}
use Rattle.commands.proofs.Starts.{setup_of, counted, started, not_started, too_few}
use Rattle.std.proofs.Common.{◌+◌, ◌*◌, arith, ap, ◌∙◌}
use Rattle.commands.proofs.start_of.Goals as goal

pub returns-in_err-limits : goal.returns-in_err-limits
returns-in_err-limits c = ap wanted_in c.from_residual.ensures ∙ too_few c.args.given.text.now c.in_err-limits.ensures

pub returns-then-is_miscounted : goal.returns-then-is_miscounted
returns-then-is_miscounted c =
    let l = c.args.given.text.now in
    let h = c.in_ok-limits.ensures in
    not_started l h.0 (counted l h.0 _ _ c.number.ensures h.1 c.is_miscounted.ensures ∙ c.if-is_miscounted.true)

pub returns : goal.returns
returns c =
    let l = c.args.given.text.now in
    let h = c.in_ok-limits.ensures in
    started l h.0 _
    (setup_of l h.0 _ _ _ _ _ _ (8 + 4 * c.in_ok-limits.limits) c.number.ensures c.number-2.ensures c.number-3.ensures c.number-4.ensures c.number-5.ensures
    c.number-6.ensures (omega arith))
    (counted l h.0 _ _ c.number.ensures h.1 c.is_miscounted.ensures ∙ c.if-is_miscounted.false)
