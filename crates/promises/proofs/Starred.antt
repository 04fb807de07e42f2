-- The starred cases, those of different limits and those of the full ring, computed and carried to bytes.
-- Assumes nothing.
use mathlib.Core.Path.{◌≡◌, refl, ap, ◌∙◌}
use mathlib.Core.Bool.{true}
use mathlib.Core.List.{List, [], ◌∷◌, map}
use mathlib.Core.Logic.{inl, inr}
use Prim.Native.Nat.{ℕ}
use borrow.Author.Tests.{eq-eqb}
use lib.ListN.{length}
use Rattle.tools.specs.Tests.{all_of, all_below, lowest, within}
use Rattle.tools.specs.Lists.{tab}
use Rattle.ring.specs.Phases.{later_by}
use Rattle.rules.specs.Setups.{Setup, permits, in_range, related, limited, limit_ok}
use Rattle.rules.specs.Model.{Answer, reach_back, reasons, done, step}
use Rattle.rules.specs.Calls.{Book, Call, start, Turn, ring_of, call}
use Rattle.rules.specs.Labels.{compare_off}
use Rattle.rules.specs.Replies.{row_byte}
use Rattle.history.specs.Runs.{run, left}
use Rattle.cases.proofs.Cases.{cases}
use Rattle.book.specs.Sound.{sound}
use Rattle.book.specs.Layout.{book_size, marked_byte}
use Rattle.book.specs.Codec.{decode}
use Rattle.book.specs.Stamps.{write_stamp, pair_reads, read_ok, read_stamp}
use Rattle.book.specs.Answers.{admits, turn_on, book_after}
use Rattle.book.proofs.Answers.{answer_is, after_decode, after_sound}
use Rattle.promises.specs.Runs.{answers_on}
use Rattle.promises.specs.Starred.{Starred}
use Rattle.promises.proofs.Together.{sound_admits}

abbrev answers : Book → List Call → List Answer
answers b cs = map (λ (t : Turn). t.answer) (run ring_of b cs)

-- one call on bytes that admit it, and the rest on sound bytes
module _ (s : List ℕ) (c : Call) (cs : List Call) (a : admits s c ≡ true) where
  first_on : answers_on (book_after s c) cs ≡ answers (decode (book_after s c)) cs → answers_on s (c ∷ cs) ≡ answers (decode s) (c ∷ cs)
  unfolding answers_on run
  first_on rest =
      λ i. answer_is s c a i ∷ (rest ∙ ap (λ b. answers b cs) (after_decode s c a)) i

sound_run : (s : List ℕ) → sound s ≡ true → (cs : List Call) → answers_on s cs ≡ answers (decode s) cs
unfolding answers_on run
sound_run s h [] = refl
sound_run s h (c ∷ cs) =
    let a = sound_admits s h c in
    first_on s c cs a (sound_run (book_after s c) (after_sound s c a (inr h)) cs)

start_run : (s : List ℕ) → length s ≡ book_size → (X : Setup) → permits X ≡ true → (cs : List Call)
    → answers_on s (start X ∷ cs) ≡ answers (decode s) (start X ∷ cs)
unfolding admits call
start_run s l X p cs =
    let a : admits s (start X) ≡ true = eq-eqb (length s) book_size l in
    let z : (turn_on s (start X)).answer.number ≡ 0 = rw p in
    first_on s (start X) cs a (sound_run (book_after s (start X)) (after_sound s (start X) a (inl z)) cs)

-- THE STATEMENT of the starred cases
pub starred : Starred
unfolding left call step reasons done reach_back permits in_range related limited limit_ok all_of all_below within lowest later_by write_stamp read_stamp read_ok pair_reads compare_off tab marked_byte row_byte
starred = record { cases = cases; fourth = refl; sixteenth = λ b. refl; reads = refl; carried = start_run }
