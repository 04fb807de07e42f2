use Rattle.tools.specs.Tests.{all_of}
use Rattle.tools.proofs.Tests.{not_each}
use Rattle.commands.specs.Lines.{shaped}
use borrow.Author.Tests.{eq-eqb, ne_eqb}
use mathlib.Core.Path.{sym, ◌∙◌}
use Rattle.commands.proofs.is_line.Goals.{then-line-word-via-then-line-word, then-line-word-via-else-line-word+then-not-starts_with}
use Rattle.commands.proofs.is_line.Goals as goal

pub returns-then-line-word : goal.returns-then-line-word
unfolding shaped
returns-then-line-word c =
    elim c.then-line-word.branch [
      | then-line-word-via-then-line-word w ↦ sym (not_each _ 0 (ne_eqb _ _ w.if-line-word.true))
      | then-line-word-via-else-line-word+then-not-starts_with w ↦
          sym (not_each _ 1 (sym w.starts_with.ensures ∙ w.if-not-starts_with.true))
    ]

pub returns : goal.returns
unfolding shaped all_of
returns c = rw (shaped, eq-eqb _ _ c.if-line-word.false, sym c.starts_with.ensures ∙ c.if-not-starts_with.false) (cc)
