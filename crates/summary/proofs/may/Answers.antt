use Rattle.std.proofs.Common.{[], sym, refl, ap, arith, ◌∙◌}
use Rattle.rules.specs.Setups.{setup_with}
use Rattle.rules.specs.Model.{accepted}
use Rattle.rules.proofs.Setups.{ranged, permits_range}
use Rattle.summary.specs.May.{summary_ok}
use Rattle.summary.proofs.Asked.{bad_setup, no_desk_lem, bad_summary, short_summary, foretells_reset}
use Rattle.summary.proofs.may.Goals as goal

pub returns-then-not-permits : goal.returns-then-not-permits
returns-then-not-permits c = bad_setup _ _ _ _ (sym c.permits.ensures ∙ c.if-not-permits.true)

pub returns-then-s-desk : goal.returns-then-s-desk
returns-then-s-desk c = no_desk_lem _ _ _ _ (sym c.permits.ensures ∙ c.if-not-permits.false) c.if-s-desk.true

-- no summary by its length
pub returns-in_default : goal.returns-in_default
returns-in_default c =
    bad_summary _ _ _ _ (sym c.permits.ensures ∙ c.if-not-permits.false) c.if-s-desk.false
    (sym (short_summary _ _ (λ e. omega (arith, e, c.in_default.ensures.cases))))

pub summary_ok-requires : goal.summary_ok-requires
summary_ok-requires c =
    let r = ranged _ (permits_range _ (sym c.permits.ensures ∙ c.if-not-permits.false)) in (r.seat_lag.1, r.shelf_lag)

pub returns-then-not-summary_ok : goal.returns-then-not-summary_ok
returns-then-not-summary_ok c =
    bad_summary _ _ _ _ (sym c.permits.ensures ∙ c.if-not-permits.false) c.if-s-desk.false
    (ap (summary_ok (setup_with c.args.setup.numbers [])) (sym c.in-Some.ensures.cases.same)
    ∙ sym c.summary_ok.ensures ∙ c.if-not-summary_ok.true)

pub reset_refusal-requires : goal.reset_refusal-requires
reset_refusal-requires c =
    let r = ranged _ (permits_range _ (sym c.permits.ensures ∙ c.if-not-permits.false)) in
    let n = c.if-s-desk.false in
    let d = r.desks.1 in (r.seat_lag.1, r.shelf_lag, omega arith)

pub returns : goal.returns
returns c =
    let ok = sym c.summary_ok.ensures ∙ c.if-not-summary_ok.false in
    ap accepted c.reset_refusal.ensures
    ∙ rw (← c.in-Some.ensures.cases.same)
    (foretells_reset _ _ _ _ (sym c.permits.ensures ∙ c.if-not-permits.false) c.if-s-desk.false ok _ refl)
