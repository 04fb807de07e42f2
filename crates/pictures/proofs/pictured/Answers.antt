use mathlib.Core.Path.{◌≡◌, sym, ap, ◌∙◌}
use borrow.Author.Rules.{rules}
use Rattle.std.proofs.Common.{Err}
use Rattle.rules.specs.Model.{accepted}
use Rattle.rules.specs.Replies.{odds_value, pictured_says}
use Rattle.pictures.proofs.Judged.{err_only, ok_only}
use Rattle.pictures.proofs.Asked.{list_ready, out_answered, wrong_answered, pair_answered}
use Rattle.pictures.proofs.pictured.Goals as goal

pub froms_of-froms-requires : goal.froms_of-froms-requires
froms_of-froms-requires c = list_ready _ _ c.requires

pub invariant_of-listed : goal.invariant_of-listed
invariant_of-listed c = record { ready = list_ready _ _ c.requires; table = c.froms_of-froms.ensures }

pub returns-in_err-found : goal.returns-in_err-found
returns-in_err-found c =
    let e : c.from_residual.result ≡ Err c.in_err-found.field-0.0 = search rules in
    let r = err_only _ _ _ c.in_err-found.ensures in
    ap pictured_says (e ∙ ap Err r.1) ∙ out_answered _ _ c.requires r.0

pub returns-then-wrong_owner : goal.returns-then-wrong_owner
returns-then-wrong_owner c =
    wrong_answered _ _ c.requires (ok_only _ _ _ c.in_ok-found.ensures).0 (sym c.wrong_owner.ensures ∙ c.if-wrong_owner.true)

pub returns : goal.returns
returns c =
    let r = ok_only _ _ _ c.in_ok-found.ensures in
    ap (λ o. accepted (odds_value o)) r.1
    ∙ pair_answered _ _ c.requires r.0 (sym c.wrong_owner.ensures ∙ c.if-wrong_owner.false)
