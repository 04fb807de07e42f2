-- What the bytes of a stamp record are held to, in the order in which they are read.
-- Assumes nothing.
--   capped n         n, as far as the numbers of a byte go: 256 of them
--   count_row D P ls how many phases and clocks each of D desks has, by P phases and the limits ls; where there is no desk one, 0 alone
--   Counts X l       l has the numbers of that row under the setup X
--   row_reads X r    the bytes r have a record's length, and every pair is in range
--   head_reads D r   the mark, the owner and the number of desks of the record r are those of a setup with D desks
use Rattle.std.specs.Prelude.{ℕ, ◌≡◌, Bool, ◌&&◌, List, [], ◌∷◌, ltb, eqb, length}
use Rattle.tools.specs.Tests.{pick, all_of, all_below}
use Rattle.tools.specs.Lists.{byte}
use Rattle.rules.specs.Setups.{Setup}
use Rattle.rules.specs.Model.{Row}
use Rattle.rules.specs.Replies.{row_bytes}
use Rattle.book.specs.Layout.{record_size, seats, tag_a_spot, tag_b_spot}
use Rattle.book.specs.Stamps.{stamp_mark0, stamp_mark1, label_of, pair_reads}

unfoldable pub capped : ℕ → ℕ
capped n = pick (ltb 256 n) 256 n

abbrev pub count_row : ℕ → ℕ → List ℕ → Row
count_row D P ls j = pick (ltb j D) (record { phase = capped P; clock = capped (byte ls j) }) (record { phase = 1; clock = 1 })

abbrev pub Counts : Setup → List ℕ → Type 0
Counts X l = l ≡ row_bytes (count_row X.desks X.phases X.limits)

unfoldable pub row_reads : Setup → List ℕ → Bool
row_reads X r = eqb (length r) record_size && all_below seats (λ j. pair_reads X j ((label_of r).row j))

unfoldable pub head_reads : ℕ → List ℕ → Bool
head_reads D r =
    all_of
    (eqb (byte r 0) stamp_mark0 ∷ eqb (byte r 1) stamp_mark1 ∷ ltb (byte r tag_a_spot) D ∷ eqb (byte r tag_b_spot) D ∷ [])
