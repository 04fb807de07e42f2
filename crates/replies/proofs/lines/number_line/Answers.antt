use Rattle.text.proofs.Writing.{written}
use native.Mathlib.Omega.{arith}
use mathlib.Core.Path.{◌∙◌}
use Rattle.replies.proofs.lines.number_line.Goals as goal

pub line_to-requires : goal.line_to-requires
line_to-requires c =
    let w = c.put_number-end.ensures 0 in
    omega (arith, w.ends, w.fits)

pub returns : goal.returns
returns c = λ D. c.line_to.ensures ∙ written (c.put_number-end.ensures D)
