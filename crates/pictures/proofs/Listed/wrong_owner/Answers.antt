use mathlib.Core.Path.{sym, ap, ◌∙◌}
use mathlib.Core.Bool.{not}
use borrow.Author.Tests.{eq-eqb, ne_eqb}
use lib.ListN.{length}
use Rattle.tools.proofs.Tests.{any_none, any_more, any_at}
use Rattle.pictures.proofs.Placed.{Places, owner_at_lem}
use Rattle.pictures.proofs.Listed.wrong_owner.Goals as goal

pub loop-i-init : goal.loop-i-init
loop-i-init c = any_none _

pub returns-then-from-i : goal.returns-then-from-i
returns-then-from-i c =
    let m = c.args in
    let h = m.self.now in
    let s = h.book.now in
    let l = h.slots.now in
    let b = c.loop-i-test.true in
    let p : Places s l h.froms c.loop-i.i c.loop-i.i = record { ready = h.ready; table = h.table; first = b; second = b } in
    let o = c.from.ensures ∙ owner_at_lem _ _ _ _ _ p _ in
    sym (any_at (length l) _ c.loop-i.i b (ap not (ne_eqb _ _ (λ e. c.if-from-i.true (o ∙ e)))))

pub loop-i-preserved : goal.loop-i-preserved
loop-i-preserved c =
    let m = c.args in
    let h = m.self.now in
    let s = h.book.now in
    let l = h.slots.now in
    let b = c.loop-i-test.true in
    let p : Places s l h.froms c.loop-i.i c.loop-i.i = record { ready = h.ready; table = h.table; first = b; second = b } in
    let o = c.from.ensures ∙ owner_at_lem _ _ _ _ _ p _ in
    any_more _ _ c.loop-i.invariant (ap not (eq-eqb _ _ (sym o ∙ c.if-from-i.false)))
