use Rattle.text.proofs.Writing.{one}
use mathlib.Core.Path.{refl}
use borrow.Author.Rules.{rules}
use Rattle.text.proofs.put_byte.Goals as goal

pub returns : goal.returns
returns c = one c.args.out.now c.args.at c.args.b _ (search rules) refl
