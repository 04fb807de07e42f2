use Rattle.text.proofs.Writing.{put_paste}
use Rattle.std.proofs.Common.{refl, ◌∙◌, arith}
use Rattle.std.proofs.lemmas.Slice.{put_mid-paste}
use Rattle.text.proofs.put_text.Goals as goal

pub returns : goal.returns
returns c =
    let a = c.args in
    record {
      left = put_mid-paste _ _ _ _ a.text.now _ c.copy_from_slice.ensures.after (omega arith) refl ∙ put_paste a.out.now a.at a.text.now;
      ends = refl;
      fits = c.requires;
    }
