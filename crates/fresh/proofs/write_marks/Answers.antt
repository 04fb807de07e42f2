use Rattle.std.proofs.Common.{◌≡◌, ℕ, List, ap, arith, length-set}
use Rattle.tools.specs.Lists.{byte}
use Rattle.fresh.proofs.Written.{written_more}
use Rattle.fresh.proofs.write_marks.Goals as goal

pub loop-k-preserved : goal.loop-k-preserved
loop-k-preserved c =
    let h = c.loop-k in (
      simp length-set h.invariant.0,
      λ X w.
          written_more X h.k h.book (h.invariant.1 X w) (omega arith) _ _ _ _ c.spot.ensures c.spot-in-loop-k.ensures
          (ap (λ (l : List ℕ). byte l 0) c.mark-mark.ensures) (ap (λ (l : List ℕ). byte l 1) c.mark-mark.ensures),
    )

pub returns : goal.returns
returns c =
    let h = c.loop-k in let e : h.k ≡ c.args.to = omega arith in
    λ X w. rw e at (h.invariant.1 X w)
