use Rattle.std.proofs.Common.{◌≡◌, ℕ, List, length, sym, ap, arith, length-set}
use Rattle.tools.specs.Lists.{byte}
use Rattle.fresh.proofs.Written.{written_next}
use Rattle.fresh.proofs.write_limits.Goals as goal

pub loop-j-preserved : goal.loop-j-preserved
loop-j-preserved c =
    let h = c.loop-j in let few = c.requires.few in (
      simp length-set h.invariant.0,
      λ X e w.
          written_next X h.j h.book (h.invariant.1 X e w) (omega arith) _ _ c.spot.ensures
          (sym (ap (λ (l : List ℕ). byte l h.j) e)),
    )

pub returns : goal.returns
returns c =
    let h = c.loop-j in let e : h.j ≡ length c.args.limits.now = omega arith in
    λ X f w. rw e at (h.invariant.1 X f w)
