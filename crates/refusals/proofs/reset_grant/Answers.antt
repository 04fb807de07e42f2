use mathlib.Core.Path.{◌≡◌, sym, ◌∙◌}
use Rattle.std.proofs.Common.{None}
use Rattle.rules.specs.Model.{reset, reasons}
use Rattle.refusals.specs.Grants.{granted, grant_of}
use Rattle.refusals.proofs.First.{there}
use Rattle.refusals.proofs.Grants.{shelf_clear}
use Rattle.refusals.proofs.reset_grant.Goals as goal

pub returns-then-shelf_behind : goal.returns-then-shelf_behind
unfolding reasons
returns-then-shelf_behind c =
    let w = c.in_ok-at in let s = w.at.book.now in let j = w.at.number in let q = c.args.keep in let t = w.ensures.there in
    let d = there s c.args.book.now j c.args.desk w.ensures.number t.0 t.1 in
    let g : granted 13 None ≡ grant_of s (reset j q) q =
    rw (
      d.whole,
      d.desk,
      shelf_clear s q c.in_ok-slot.slot c.in_ok-slot.ensures,
      sym c.seat_behind.ensures ∙ c.if-seat_behind.false,
      sym c.mail_behind.ensures ∙ c.if-mail_behind.false,
      sym c.shelf_behind.ensures ∙ c.if-shelf_behind.true,
    ) in
    g ∙ (λ i. grant_of (t.0 i) (reset (t.1 i) q) q)

pub returns : goal.returns
unfolding reasons
returns c =
    let w = c.in_ok-at in let s = w.at.book.now in let j = w.at.number in let q = c.args.keep in let t = w.ensures.there in
    let d = there s c.args.book.now j c.args.desk w.ensures.number t.0 t.1 in
    let f = shelf_clear s q c.in_ok-slot.slot c.in_ok-slot.ensures in
    let g : granted 0 c.in_ok-slot.slot ≡ grant_of s (reset j q) q =
    rw (
      d.whole,
      d.desk,
      f,
      sym c.seat_behind.ensures ∙ c.if-seat_behind.false,
      sym c.mail_behind.ensures ∙ c.if-mail_behind.false,
      sym c.shelf_behind.ensures ∙ c.if-shelf_behind.false,
    ) (rw f at c.in_ok-slot.ensures) in
    g ∙ (λ i. grant_of (t.0 i) (reset (t.1 i) q) q)
