-- Stamp records: twenty bytes, laid out as the records of a book are.
-- Assumes nothing. In words: docs/RULES.md, "Stamp records".
--   stamp_mark0, stamp_mark1   the mark of a stamp record
--   stamp_byte D e c   byte c of the record of the stamp e: mark, owner, D, row
--   write_stamp D e    the record
--   pair_reads X j q   the pair q for desk j is in range; zero where there is no desk j
--   read_ok X r        the bytes r read as a record under the setup X, clause by clause
--   label_of r         the stamp that the record r tells
--   read_stamp X r     the stamp, or none where r does not read
--   filled t w         the bytes t with those of w in front, the rest as they were
use Rattle.std.specs.Prelude.{ℕ, Bool, List, [], ◌∷◌, ◌++◌, ltb, eqb, length, drop}
use Rattle.std.proofs.Math.Option.{Option, none, some}
use Rattle.tools.specs.Tests.{pick, all_of, all_below}
use Rattle.tools.specs.Lists.{byte, tab}
use Rattle.ring.specs.Phases.{Pair}
use Rattle.rules.specs.Setups.{Setup, limit}
use Rattle.rules.specs.Model.{Label}
use Rattle.rules.specs.Replies.{row_of}
use Rattle.book.specs.Layout.{record_size, seats, tag_a_spot, tag_b_spot, row_spot, marked_byte}

abbrev pub stamp_mark0 : ℕ
stamp_mark0 = 0x53

abbrev pub stamp_mark1 : ℕ
stamp_mark1 = 0x54

abbrev pub stamp_byte : ℕ → Label → ℕ → ℕ
stamp_byte D e c = marked_byte stamp_mark0 stamp_mark1 (record { tag_a = e.owner; tag_b = D; row = e.row }) c

unfoldable pub write_stamp : ℕ → Label → List ℕ
write_stamp D e = tab 0 record_size (stamp_byte D e)

abbrev pub label_of : List ℕ → Label
label_of r = record { owner = byte r tag_a_spot; row = row_of (drop row_spot r) }

unfoldable pub pair_reads : Setup → ℕ → Pair → Bool
pair_reads X j q =
    pick (ltb j X.desks) (all_of (ltb q.phase X.phases ∷ ltb q.clock (limit X j) ∷ []))
    (all_of (eqb q.phase 0 ∷ eqb q.clock 0 ∷ []))

unfoldable pub read_ok : Setup → List ℕ → Bool
read_ok X r =
    all_of
    (eqb (length r) record_size
    ∷ eqb (byte r 0) stamp_mark0
    ∷ eqb (byte r 1) stamp_mark1
    ∷ ltb (byte r tag_a_spot) X.desks
    ∷ eqb (byte r tag_b_spot) X.desks
    ∷ all_below seats (λ j. pair_reads X j ((label_of r).row j))
    ∷ [])

unfoldable pub read_stamp : Setup → List ℕ → Option Label
read_stamp X r = pick (read_ok X r) (some (label_of r)) none

unfoldable pub filled : List ℕ → List ℕ → List ℕ
filled t w = w ++ drop (length w) t
