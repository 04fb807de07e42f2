-- The starred cases of the rules, 1 to 4 and 6 to 12, those of different limits, 14 to 16, and those of the full ring, 17 and 18, under
-- one statement: computed on the model, and carried to bytes.
-- Assumes nothing.
--   fourth_record      the bytes of case 4; sixteenth_record, those of case 16
--   receipt b          the stamp of the receipt of case 15, begun on the book b
--   compared_under X   the number that compare off the book gives under the setup X, of the record of case 16 and itself
--   Starred            the statement
use Rattle.std.specs.Prelude.{◌≡◌, true, false, List, [], ◌∷◌, map, ℕ, length}
use Rattle.std.proofs.Math.Option.{Option}
use Rattle.tools.specs.Lists.{listed}
use Rattle.rules.specs.Setups.{Setup, permits}
use Rattle.rules.specs.Model.{Label, receive, fresh, grown}
use Rattle.rules.specs.Calls.{Book, Call, start, on, Turn, ring_of, call}
use Rattle.history.specs.Runs.{run, left}
use Rattle.cases.specs.Cases.{limited_to, last_sent, Cases}
use Rattle.book.specs.Layout.{book_size}
use Rattle.book.specs.Codec.{decode}
use Rattle.book.specs.Stamps.{write_stamp}
use Rattle.book.specs.Answers.{compare_of}
use Rattle.promises.specs.Runs.{answers_on}

abbrev pub fourth_record : List ℕ
fourth_record =
    0x53 ∷ 0x54 ∷ 0x00 ∷ 0x03 ∷ 0x00 ∷ 0x01 ∷ 0 ∷ 0 ∷ 0 ∷ 0 ∷ 0 ∷ 0 ∷ 0 ∷ 0 ∷ 0 ∷ 0 ∷ 0 ∷ 0 ∷ 0 ∷ 0 ∷ []

abbrev pub sixteenth_record : List ℕ
sixteenth_record =
    0x53 ∷ 0x54 ∷ 0x01 ∷ 0x02 ∷ 0x00 ∷ 0x03 ∷ 0x00 ∷ 0x01 ∷ 0 ∷ 0 ∷ 0 ∷ 0 ∷ 0 ∷ 0 ∷ 0 ∷ 0 ∷ 0 ∷ 0 ∷ 0 ∷ 0 ∷ []

abbrev pub receipt : Book → Option Label
receipt b = (call ring_of (left ring_of b (start (limited_to 4 2) ∷ last_sent)) (on (receive 1 0 false))).answer.value.stamp

abbrev pub compared_under : Setup → ℕ
compared_under X = (compare_of X sixteenth_record sixteenth_record).number

pub record Starred : Type 0 where
  -- 1 to 3, 6 to 12, 14, 15, 17 and 18, with the listing, a run for each error of the desks and for each refusal left out there, on any book
  pub cases : Cases
  -- 4: the record of the stamp that local 0 answers on a fresh book
  pub fourth : write_stamp 3 (record { owner = 0; row = grown fresh 0 }) ≡ fourth_record
  -- 16: the record of the receipt of 15, which reads under the limits 4 and 2, and is a BadStamp under 2 and 4 and under 3 and 2
  pub sixteenth : (b : Book) → listed (write_stamp 2) (receipt b) ≡ sixteenth_record
  pub reads : map compared_under (limited_to 4 2 ∷ limited_to 2 4 ∷ limited_to 3 2 ∷ []) ≡ (0 ∷ 14 ∷ 14 ∷ [])
  -- on any 1,456 bytes the calls of a case, a permitted start first, are answered as on the book of the rules
  pub carried : (s : List ℕ) → length s ≡ book_size → (X : Setup) → permits X ≡ true → (cs : List Call)
      → answers_on s (start X ∷ cs) ≡ map (λ (t : Turn). t.answer) (run ring_of (decode s) (start X ∷ cs))
