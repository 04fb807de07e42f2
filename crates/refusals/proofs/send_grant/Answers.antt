use mathlib.Core.Path.{◌≡◌, sym, ◌∙◌}
use borrow.Author.Tests.{ne_eqb}
use Rattle.std.proofs.Common.{None}
use Rattle.rules.specs.Model.{send, reasons}
use Rattle.refusals.specs.Grants.{granted, granted_by, grant_of}
use Rattle.refusals.proofs.First.{there}
use Rattle.refusals.proofs.send_grant.Goals as goal

pub returns-then-mail_full : goal.returns-then-mail_full
unfolding reasons
returns-then-mail_full c =
    let w = c.in_ok-at in let s = w.at.book.now in let j = w.at.number in let q = c.args.keep in let t = w.ensures.there in
    let d = there s c.args.book.now j c.args.desk w.ensures.number t.0 t.1 in
    let g : granted 9 None ≡ grant_of s (send j c.args.to q) q =
    rw (
      d.whole,
      d.desk,
      sym c.no_desk.ensures ∙ c.if-no_desk.false,
      ne_eqb j c.args.to (λ e. c.if-desk-to.false (sym t.1 ∙ e)),
      sym c.phase_full.ensures ∙ c.if-phase_full.false,
      sym c.mail_full.ensures ∙ c.if-mail_full.true,
    ) in
    g ∙ (λ i. grant_of (t.0 i) (send (t.1 i) c.args.to q) q)

pub returns : goal.returns
unfolding reasons
returns c =
    let w = c.in_ok-at in let s = w.at.book.now in let j = w.at.number in let q = c.args.keep in let t = w.ensures.there in
    let d = there s c.args.book.now j c.args.desk w.ensures.number t.0 t.1 in
    let g : granted_by c.shelf_grant.result ≡ grant_of s (send j c.args.to q) q =
    rw (
      d.whole,
      d.desk,
      sym c.no_desk.ensures ∙ c.if-no_desk.false,
      ne_eqb j c.args.to (λ e. c.if-desk-to.false (sym t.1 ∙ e)),
      sym c.phase_full.ensures ∙ c.if-phase_full.false,
      sym c.mail_full.ensures ∙ c.if-mail_full.false,
    ) c.shelf_grant.ensures in
    g ∙ (λ i. grant_of (t.0 i) (send (t.1 i) c.args.to q) q)
