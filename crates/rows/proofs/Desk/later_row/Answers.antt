use Prim.Native.Nat.{◌+◌}
use mathlib.Core.Path.{◌≡◌, refl, sym, ap, ◌∙◌}
use mathlib.Core.Bool.{not, ◌&&◌}
use native.Mathlib.Omega.{arith}
use lib.Dec.{eqb}
use Rattle.tools.proofs.Tests.{count_none, count_next, count_most}
use Rattle.tools.proofs.Lists.{filled_none, filled_all}
use Rattle.ring.specs.Phases.{Pair, ring, later}
use Rattle.rules.specs.Replies.{row_bytes}
use Rattle.book.proofs.Below.{phase_below}
use Rattle.rows.specs.Rows.{learns_at}
use Rattle.rows.proofs.Rows.{filled_pair, took_parts, one_more}
use Rattle.rows.proofs.Desk.later_row.Goals as goal

pub loop-k-init : goal.loop-k-init
loop-k-init c = (filled_none 16 _ _ refl, sym (count_none _))

-- the phases that are compared are on the ring
pub later-later-requires : goal.later-later-requires
later-later-requires c =
    let d = c.args.self in let k = c.loop-k.k in
    let held = phase_below d.book.now d.here.whole d.number k (omega arith) c.loop-k-test.true in
    let mailed = phase_below d.book.now d.here.whole c.args.mailed k c.requires c.loop-k-test.true in
    let h = ap (λ (q : Pair). q.phase) c.pair_at-held.ensures in
    let m = ap (λ (q : Pair). q.phase) c.pair_at.ensures in
    omega (arith, held, mailed, h, m, c.last_phase-last.ensures)

pub overflow_add-learnt : goal.overflow_add-learnt
overflow_add-learnt c =
    let d = c.args.self in
    grind (arith, c.loop-k.invariant.1, c.from-learnt.ensures, count_most c.loop-k.k (learns_at d.book.now d.number c.args.mailed))

pub loop-k-preserved : goal.loop-k-preserved
loop-k-preserved c =
    let d = c.args.self in let h = c.loop-k in
    let t = took_parts _ c.later-later.result _
    (c.later-later.ensures
    ∙ (λ i. later (ring (c.last_phase-last.ensures i)) (c.phase_at-own.ensures i) (c.pair_at-held.ensures i) (c.pair_at.ensures i))) in
    let e = c.unwrap_or-taken.ensures ∙ t.0 in (
      filled_pair _ h.k _ _ h.row _ _ h.invariant.0 c.loop-k-test.true c.phase_spot.ensures c.clock_spot.ensures
          (ap (λ (q : Pair). q.phase) e) (ap (λ (q : Pair). q.clock) e),
      ap (λ n. h.learnt + n) c.from-learnt.ensures ∙ one_more _ h.learnt
          ∙ count_next (learns_at d.book.now d.number c.args.mailed) h.k h.learnt _ h.invariant.1
          (ap (λ t. not (eqb h.k d.number) && t) (c.is_some.ensures ∙ t.1)),
    )

pub returns : goal.returns
unfolding row_bytes
returns c =
    let h = c.loop-k in let e : h.k ≡ 8 = omega arith in
    (filled_all 16 _ h.row (rw e at h.invariant.0), rw e at h.invariant.1)
