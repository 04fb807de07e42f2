use Rattle.std.proofs.Common.{sym, ap, ◌∙◌, Bool, ◌&&◌, ne_eqb, eq-eqb}
use Rattle.tools.specs.Tests.{all_of, all_below}
use Rattle.tools.proofs.Tests.{not_each}
use Rattle.ring.specs.Phases.{lag_of}
use Rattle.rules.specs.Setups.{Setup, in_range, related}
use Rattle.book.specs.Layout.{records}
use Rattle.book.specs.Sound.{head_ok, record_sound, sound_by}
use Rattle.book.proofs.Limits.{permits_told}
use Rattle.soundness.proofs.sound.Goals as goal

pub returns-in_default : goal.returns-in_default
unfolding sound_by
returns-in_default c = sym (not_each _ 0 (ne_eqb _ _ c.in_default.ensures.cases))

pub returns : goal.returns
unfolding sound_by all_of in_range related
returns c =
    let b = c.in-Some.book.now in
    let whole = c.in-Some.ensures.cases in
    rw (eq-eqb _ _ whole.long, sym whole.same, c.records_sound-records.ensures)
    (rw (c.numbers_ok.ensures, c.head_ok.ensures) (ap (λ (t : Bool). head_ok b && t)
    (ap (λ (X : Setup). (in_range X && related X) && all_below records (record_sound lag_of b)) c.numbers_of.ensures ∙ permits_told b)))
