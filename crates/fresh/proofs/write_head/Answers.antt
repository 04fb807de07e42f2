use Rattle.std.proofs.Common.{◌≡◌, ◌∙◌, rules}
use Rattle.rules.specs.Setups.{setup_with}
use Rattle.book.specs.Layout.{head_byte}
use Rattle.fresh.proofs.Written.{written_head}
use Rattle.fresh.proofs.write_head.Goals as goal

pub returns : goal.returns
unfolding head_byte
returns c l =
    let same : c.copy_from_slice.new.self ≡ c.head_of.result = search rules in
    written_head (setup_with c.args.s l) c.args.book.now _ (same ∙ c.head_of.ensures) c.requires.filled
