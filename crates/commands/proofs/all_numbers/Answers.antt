use Rattle.commands.proofs.Shapes.{sized, part_length, numbers_part}
use native.Mathlib.Omega.{arith}
use mathlib.Core.Path.{sym, ◌∙◌}
use Prim.Native.Nat.{◌-◌}
use lib.ListN.{length}
use Rattle.commands.proofs.all_numbers.Goals as goal

pub slice_bounds-text-count : goal.slice_bounds-text-count
slice_bounds-text-count c =
    omega (arith, sized c.args.line.now c.args.word.now _ (sym c.is_line.ensures ∙ c.if-not-is_line.false))

pub slice_bounds-text-start : goal.slice_bounds-text-start
slice_bounds-text-start c =
    omega (arith, sized c.args.line.now c.args.word.now _ (sym c.is_line.ensures ∙ c.if-not-is_line.false))

pub invariant_of-result : goal.invariant_of-result
invariant_of-result c =
    let line = c.args.line.now in
    let word = c.args.word.now in
    let s = sized line word _ (sym c.is_line.ensures ∙ c.if-not-is_line.false) in
    let p = part_length line (length word) (length line - length word) (omega arith) in
    record { few = omega arith }

pub returns : goal.returns
returns c =
    let line = c.args.line.now in
    let e = sym c.is_line.ensures ∙ c.if-not-is_line.false in
    let s = sized line c.args.word.now _ e in
    (rw c.saturating_sub-count.ensures at e, numbers_part line _ _ (omega arith))
