use Rattle.text.proofs.Writing.{none, then, wrote_length}
use Rattle.rules.specs.Replies.{row_of}
use Rattle.replies.specs.Print.{pairs}
use Rattle.replies.proofs.Lengths.{pairs_length}
use native.Mathlib.Numerals.{add-one}
use borrow.Author.Tests.{lt-ltb}
use native.Mathlib.Omega.{arith}
use mathlib.Core.Path.{◌≡◌, sym}
use Rattle.replies.proofs.put_stamp.Goals as goal

pub loop-j-init : goal.loop-j-init
unfolding pairs
loop-j-init c = none _ _ (omega (arith, c.put_field-a.ensures.ends, c.put_field-a.ensures.fits, wrote_length c.put_field-a.ensures))

-- there is room for the pairs that are left
pub put_pair-a-requires : goal.put_pair-a-requires
put_pair-a-requires c =
    let h = c.loop-j in
    omega (
      arith,
      c.put_field-a.ensures.ends,
      wrote_length c.put_field-a.ensures,
      h.invariant.ends,
      wrote_length h.invariant,
      pairs_length h.j (row_of c.args.stamp.row),
    )

pub loop-j-preserved : goal.loop-j-preserved
unfolding pairs
loop-j-preserved c =
    let h = c.loop-j in
    rw (add-one, lt-ltb h.j 8 (omega arith), sym c.clock_spot.ensures, sym c.phase_spot.ensures)
    (then h.invariant c.put_pair-a.ensures)

pub returns : goal.returns
returns c =
    let e : c.loop-j.j ≡ c.args.desks = omega arith in
    then c.put_field-a.ensures (rw e at c.loop-j.invariant)
