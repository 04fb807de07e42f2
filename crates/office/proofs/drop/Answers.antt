use Rattle.std.proofs.Common.{rules, ◌≡◌, refl, ◌∙◌}
use Rattle.rules.specs.Model.{Act, drop}
use Rattle.rules.specs.Replies.{number_in, done_value}
use Rattle.rules.specs.Calls.{on}
use Rattle.book.specs.Layout.{shelf_from}
use Rattle.refusals.specs.First.{used_number}
use Rattle.office.proofs.Filed.{changed, left_sound, drop_number}
use Rattle.office.proofs.drop.Goals as goal

pub change-requires-clause-whole : goal.change-requires-clause-whole
change-requires-clause-whole c =
    let made : Act = let x = c.args in drop x.slot in
    λ x b h. left_sound done_value c.args.book.now (on made) x b (search rules) (search rules)

pub returns : goal.returns
returns c =
    let x = c.args in
    let made : Act = drop x.slot in
    let u = changed done_value x.book.now x.summary.now (on made) refl c.change.result _ _
    (λ n. let h = c.change.ensures.unready n in let g = h.1 in
    let asked : number_in h.0 ≡ used_number x.book.now shelf_from x.slot = search rules in
    (h.0, asked ∙ drop_number x.book.now x.slot, h.2, h.3, h.4))
    (λ e. let h = c.change.ensures.made e in let f = h.0 in (search rules, search rules, h.1)) in
    record { result_value = u.0; summary_after = u.1 }
