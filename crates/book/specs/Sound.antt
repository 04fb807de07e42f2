-- When the bytes of a book are sound, clause by clause.
-- Assumes nothing. In words: docs/RULES.md, "Sound books".
--   pair_ok lag X B o j q   the pair q for desk j is in range and lags at most B behind o, by the given lag; zero where there is no desk j
--   column_ok lag f B k j   so is the pair for desk j in record k, o the own phase of j
--   row_ok lag f B k        so is every pair of the row of record k
--   column_zero f k j   the pair for desk j in record k is zero
--   row_zero f k        the row of record k is all zero
--   seat_limit f k      the second tag of seat k is a limit in its range, 0 where there is no desk k
--   seat_rest f k       the seat k has not started and its row is zero, or it is a desk's
--   seat_near lag f k   the pairs of a desk's seat lag at most M
--   seat_ok, mail_ok, slot_ok   what is asked of record k where it is a seat, a mail place, a slot
--   record_ok lag f k   what is asked of record k, by its number
--   spare_zero b i      byte i of the header's filler is 0
--   head_ok b           the header's mark and its filler, between P and M and at its end
--   record_sound lag b k   the mark of record k, and what is asked of it
--   sound_by lag b      the bytes are those of a sound book, by the given lag
--   sound b             the bytes are those of a sound book: by lag_of
use Rattle.std.specs.Prelude.{ℕ, ◌+◌, ◌*◌, Bool, true, not, List, [], ◌∷◌, leb, ltb, eqb, length}
use Rattle.tools.specs.Tests.{pick, all_of, all_below}
use Rattle.tools.specs.Lists.{byte}
use Rattle.ring.specs.Phases.{Lag, Pair, lag_of}
use Rattle.rules.specs.Setups.{Setup, limit, limit_ok, permits}
use Rattle.book.specs.Layout.{book_size, records, seats, shelf_from, book_mark0, book_mark1, blank_spot, spare_from, spare_size}
use Rattle.book.specs.Layout.{Fields, fields, setup_of, spot, mark0, mark1}

unfoldable pub pair_ok : Lag → Setup → ℕ → ℕ → ℕ → Pair → Bool
pair_ok lag X B o j q =
    pick (ltb j X.desks)
    (all_of (ltb q.phase X.phases ∷ ltb q.clock (limit X j) ∷ leb (lag X.phases o q.phase) B ∷ []))
    (all_of (eqb q.phase 0 ∷ eqb q.clock 0 ∷ []))

unfoldable pub column_ok : Lag → Fields → ℕ → ℕ → ℕ → Bool
column_ok lag f B k j = pair_ok lag f.setup B ((f.at j).row j).phase j ((f.at k).row j)

unfoldable pub row_ok : Lag → Fields → ℕ → ℕ → Bool
row_ok lag f B k = all_below seats (column_ok lag f B k)

unfoldable pub column_zero : Fields → ℕ → ℕ → Bool
column_zero f k j = all_of (eqb ((f.at k).row j).phase 0 ∷ eqb ((f.at k).row j).clock 0 ∷ [])

unfoldable pub row_zero : Fields → ℕ → Bool
row_zero f k = all_below seats (column_zero f k)

unfoldable pub seat_limit : Fields → ℕ → Bool
seat_limit f k = pick (ltb k f.setup.desks) (limit_ok (f.at k).tag_b) (eqb (f.at k).tag_b 0)

-- a seat that has not started has an all-zero row, and one that has is a desk's
unfoldable pub seat_rest : Fields → ℕ → Bool
seat_rest f k = pick (eqb (f.at k).tag_a 0) (row_zero f k) (ltb k f.setup.desks)

unfoldable pub seat_near : Lag → Fields → ℕ → Bool
seat_near lag f k = pick (ltb k f.setup.desks) (row_ok lag f f.setup.seat_lag k) true

unfoldable pub seat_ok : Lag → Fields → ℕ → Bool
seat_ok lag f k = all_of (leb (f.at k).tag_a 1 ∷ seat_limit f k ∷ seat_rest f k ∷ seat_near lag f k ∷ [])

unfoldable pub mail_ok : Lag → Fields → ℕ → Bool
mail_ok lag f k =
    pick (eqb (f.at k).tag_a 0) (all_of (eqb (f.at k).tag_b 0 ∷ row_zero f k ∷ []))
    (all_of
    (leb (f.at k).tag_a f.setup.desks
    ∷ leb 1 (f.at k).tag_b
    ∷ leb (f.at k).tag_b f.setup.desks
    ∷ not (eqb (f.at k).tag_a (f.at k).tag_b)
    ∷ row_ok lag f (2 * f.setup.seat_lag) k
    ∷ []))

unfoldable pub slot_ok : Lag → Fields → ℕ → Bool
slot_ok lag f k =
    pick (eqb (f.at k).tag_a 0) (all_of (eqb (f.at k).tag_b 0 ∷ row_zero f k ∷ []))
    (all_of (eqb (f.at k).tag_b 0 ∷ leb (f.at k).tag_a f.setup.desks ∷ row_ok lag f f.setup.shelf_lag k ∷ []))

unfoldable pub record_ok : Lag → Fields → ℕ → Bool
record_ok lag f k = pick (ltb k seats) (seat_ok lag f k) (pick (ltb k shelf_from) (mail_ok lag f k) (slot_ok lag f k))

unfoldable pub spare_zero : List ℕ → ℕ → Bool
spare_zero b i = eqb (byte b (spare_from + i)) 0

unfoldable pub head_ok : List ℕ → Bool
head_ok b =
    all_of
    (eqb (byte b 0) book_mark0
    ∷ eqb (byte b 1) book_mark1
    ∷ eqb (byte b blank_spot) 0
    ∷ all_below spare_size (spare_zero b)
    ∷ [])

unfoldable pub record_sound : Lag → List ℕ → ℕ → Bool
record_sound lag b k =
    all_of (eqb (byte b (spot k 0)) (mark0 k) ∷ eqb (byte b (spot k 1)) (mark1 k) ∷ record_ok lag (fields b) k ∷ [])

unfoldable pub sound_by : Lag → List ℕ → Bool
sound_by lag b = all_of (eqb (length b) book_size ∷ head_ok b ∷ permits (setup_of b) ∷ all_below records (record_sound lag b) ∷ [])

abbrev pub sound : List ℕ → Bool
sound b = sound_by lag_of b
