use Rattle.std.proofs.Common.{rules, refl}
use Rattle.rules.specs.Model.{Act, send}
use Rattle.rules.specs.Replies.{sent_value}
use Rattle.rules.specs.Calls.{on}
use Rattle.office.proofs.Filed.{changed, left_sound, granted_number}
use Rattle.office.proofs.send.Goals as goal

pub change-requires-clause-whole : goal.change-requires-clause-whole
change-requires-clause-whole c =
    let made : Act = let x = c.args in send x.desk x.to x.keep in
    λ x b h. left_sound sent_value c.args.book.now (on made) x b (search rules) (search rules)

pub returns : goal.returns
returns c =
    let x = c.args in
    let made : Act = send x.desk x.to x.keep in
    let u = changed sent_value x.book.now x.summary.now (on made) refl c.change.result _ _
    (λ n. let h = c.change.ensures.unready n in let g = h.1 in
    (h.0, granted_number x.book.now made x.keep h.0 (search rules), h.2, h.3, h.4))
    (λ e. let h = c.change.ensures.made e in let f = h.0 in (search rules, search rules, h.1)) in
    record { result_value = u.0; summary_after = u.1 }
