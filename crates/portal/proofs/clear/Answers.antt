use mathlib.Core.Path.{◌≡◌, refl, ap, ◌∙◌}
use lib.ListN.{replicate}
use Rattle.tools.specs.Lists.{tab}
use Rattle.rules.specs.Model.{zeros}
use Rattle.rules.specs.Replies.{row_byte, row_bytes}
use Rattle.book.specs.Layout.{post}
use Rattle.portal.proofs.clear.Goals as goal

zero_bytes : replicate 16 0 ≡ row_bytes zeros
unfolding row_bytes row_byte tab
zero_bytes = refl

pub returns : goal.returns
returns c = let x = c.args in c.post.ensures ∙ ap (post x.book.now x.k 0 0) zero_bytes
