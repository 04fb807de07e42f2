use Rattle.std.proofs.Common.{◌≡◌, ap, ◌∙◌, rules}
use Rattle.book.proofs.Soundness.{sound_size}
use Rattle.rules.specs.Calls.{ring_of}
use Rattle.book.specs.Codec.{decode}
use Rattle.summary.specs.Summary.{summary_of}
use Rattle.office.proofs.Filed.{whole_front}
use Rattle.office.proofs.file.Goals as goal

pub unwrap-requires : goal.unwrap-requires
unwrap-requires c = c.as_array.ensures.variant.1 (sound_size c.args.book.now c.requires.1)

pub returns : goal.returns
returns c =
    let same : c.unwrap.result.now ≡ c.args.book.now = search rules in
    whole_front _ c.args.summary.now c.requires.0 ∙ c.renew.ensures ∙ ap (λ b. summary_of ring_of (decode b)) same
