use Rattle.tools.specs.Lists.{byte}
use Rattle.tools.proofs.Tests.{all_at, all_in}
use Rattle.text.specs.Words.{opens}
use Rattle.std.proofs.Common.{◌≡◌, ◌≤◌, ℕ, List, length, take, get_or, ap, sym, ◌∙◌, Decides}
use Rattle.std.proofs.lemmas.Bool.Decides.{same_from_decides, Decides-eqb}
use Rattle.std.proofs.lemmas.Slice.Eq.{slice_eq-Decides}
use lib.Seq.{ext_get_or, get_or-take, length-take-le}
use borrow.Author.Tests.{eqb-true, eq-eqb}
use lib.Dec.{eqb}
use Rattle.text.proofs.starts_with.Goals as goal

-- bytes open with a word where as many of them are the word
opened : (s word : List ℕ) → length word ≤ length s → Decides (opens s word) (word ≡ take (length word) s)
unfolding opens
opened s word fits =
    let n = length word in
    let same = λ (i : ℕ). eqb (byte s i) (byte word i) in (
      λ h. ext_get_or 0 word (take n s) (sym (length-take-le n s fits))
          (λ i l. sym (eqb-true (byte s i) (byte word i) (all_at same n i l h)) ∙ sym (get_or-take n s i 0 l)),
      λ e. all_in _ n (λ i l. eq-eqb _ _ (sym (ap (λ (w : List ℕ). get_or w i 0) e ∙ get_or-take n s i 0 l))),
    )

pub returns : goal.returns
returns c =
    let word = c.args.word.now in
    let s = c.args.s.now in
    same_from_decides _ _ (slice_eq-Decides Decides-eqb word (take (length word) s) _ c.starts_with.ensures.value)
    (opened s word c.requires)
