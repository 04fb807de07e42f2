-- A book and a stamp record byte by byte, worked by hand, and what is read and refused, in literal numbers and bytes.
-- Assumes nothing.
--   counted a        the row whose sixteen bytes count from a on
--   setup            six numbers and eight limits, no two alike
--   book             a book with that setup: seat 1 started, mail from desk 4 to desk 6 in place 31, a stamp of desk 5 in slot 0
--   head, seat, place, slot, label   the bytes of its header, of that seat, place and slot, and of that stamp as a record
--   eighteen         eighteen zeros; many n xs, the bytes xs n times over; unstarted l, a seat that has not started, its limit l
--   part a n         the n bytes of the book from a on
--   Bytes            every byte of the book, part by part
--   X, kept          the setup of the cases, and a record that reads under it, its numbers as large as they may be
--   apart l k        a setup of two desks with these limits; receipt, a record of desk 1 that has seen the last of four clocks of desk 0
--   sheet k r        the fields of a book of two desks with the limits 4 and 2, the record r at k
--   clocks p q       the row with these clocks for desk 0 and desk 1
--   book_bytes, setup_read    the bytes of the book; the setup that they tell
--   heads_asked               a header, and not with one of five changes of a byte
--   label_bytes, target_bytes the bytes of the stamp record; a target of 22 bytes that it is written into
--   lengths_read, bytes_read  the record reads, and not with a byte less or more, nor with one of thirteen changes of a byte
--   ringed P A                a setup of two desks with P phases, A the lag of a kept stamp; headed y, the bytes of its book's front, P byte y
--   rings_written, rings_told the byte of each P; the P that each byte tells
--   rings_asked               which P bytes a permitted setup has
--   phases_asked, phases_read which phases a pair may have on the full ring and on one of 255, in a book and in a record
--   limits_read               the receipt reads under some limits and not under others
--   seats_asked               which limits a seat may have
--   seat_rows_asked, mail_asked, slots_asked   a clock is held to its own column's limit, whosever row it is in
--   record_numbers            BadStamp, of such a record
--   length_1455, length_1456, length_1457   BadBook, and not, by the length of a book
use Prim.Native.Nat.{ℕ, zero, suc, ◌+◌, ◌*◌}
use mathlib.Core.Path.{◌≡◌, refl, ap}
use mathlib.Core.Bool.{true, false}
use mathlib.Core.Option.{none, some}
use mathlib.Core.List.{List, [], ◌∷◌, ◌++◌, map}
use lib.Dec.{eqb}
use lib.ListN.{length, take, drop, set, replicate}
use Rattle.tools.specs.Tests.{all_of, all_below, within}
use Rattle.tools.specs.Lists.{tab}
use Rattle.tools.specs.Tables.{put}
use Rattle.tools.proofs.Tests.{not_each}
use Rattle.ring.specs.Phases.{lag_of}
use Rattle.rules.specs.Setups.{Setup, permits, in_range, related, limited, limit_ok}
use Rattle.rules.specs.Model.{Row, zeros, idle, reach_back}
use Rattle.rules.specs.Calls.{Book, Call, start, on, call}
use Rattle.rules.specs.Labels.{reads, before_off, compare_off}
use Rattle.rules.specs.Replies.{row_byte}
use Rattle.book.specs.Layout.{Record, Fields, phases_byte, head_byte, mark0, mark1, marked_byte, byte_of, layout, setup_of}
use Rattle.book.specs.Codec.{encode}
use Rattle.book.specs.Stamps.{write_stamp, pair_reads, read_ok, read_stamp, filled}
use Rattle.book.specs.Sound.{pair_ok, column_ok, row_ok, column_zero, row_zero, seat_limit, seat_rest, seat_near, seat_ok}
use Rattle.book.specs.Sound.{mail_ok, slot_ok, spare_zero, head_ok, sound_by, sound}
use Rattle.book.specs.Answers.{admits, answer_to, before_of, compare_of}

abbrev counted : ℕ → Row
counted a k = record { phase = a + 2 * k; clock = a + 2 * k + 1 }

abbrev setup : Setup
setup = record { desks = 8; phases = 99; limits = 70 ∷ 71 ∷ 72 ∷ 73 ∷ 74 ∷ 75 ∷ 76 ∷ 77 ∷ []; seat_lag = 44; shelf_lag = 55; back = 33; ahead = 66 }

abbrev book : Book
book =
    record {
      setup = setup;
      tables = record {
        seat = put (λ j. idle) 1 (record { started = true; row = counted 10 });
        mail = put (λ p. none) 31 (some record { by = 4; to = 6; row = counted 30 });
        shelf = put (λ s. none) 0 (some record { by = 5; to = 0; row = counted 50 });
      };
    }

abbrev head : List ℕ
head = 0x42 ∷ 0x4B ∷ 8 ∷ 99 ∷ 0 ∷ 44 ∷ 55 ∷ 33 ∷ 66 ∷ 0 ∷ 0 ∷ 0 ∷ 0 ∷ 0 ∷ 0 ∷ 0 ∷ []

abbrev seat : List ℕ
seat = 0x53 ∷ 0x45 ∷ 1 ∷ 71 ∷ 10 ∷ 11 ∷ 12 ∷ 13 ∷ 14 ∷ 15 ∷ 16 ∷ 17 ∷ 18 ∷ 19 ∷ 20 ∷ 21 ∷ 22 ∷ 23 ∷ 24 ∷ 25 ∷ []

abbrev place : List ℕ
place = 0x4D ∷ 0x41 ∷ 5 ∷ 7 ∷ 30 ∷ 31 ∷ 32 ∷ 33 ∷ 34 ∷ 35 ∷ 36 ∷ 37 ∷ 38 ∷ 39 ∷ 40 ∷ 41 ∷ 42 ∷ 43 ∷ 44 ∷ 45 ∷ []

abbrev slot : List ℕ
slot = 0x53 ∷ 0x48 ∷ 6 ∷ 0 ∷ 50 ∷ 51 ∷ 52 ∷ 53 ∷ 54 ∷ 55 ∷ 56 ∷ 57 ∷ 58 ∷ 59 ∷ 60 ∷ 61 ∷ 62 ∷ 63 ∷ 64 ∷ 65 ∷ []

abbrev label : List ℕ
label = 0x53 ∷ 0x54 ∷ 5 ∷ 8 ∷ 50 ∷ 51 ∷ 52 ∷ 53 ∷ 54 ∷ 55 ∷ 56 ∷ 57 ∷ 58 ∷ 59 ∷ 60 ∷ 61 ∷ 62 ∷ 63 ∷ 64 ∷ 65 ∷ []

abbrev eighteen : List ℕ
eighteen = replicate 18 0

abbrev unstarted : ℕ → List ℕ
unstarted l = 0x53 ∷ 0x45 ∷ 0 ∷ l ∷ replicate 16 0

abbrev many : ℕ → List ℕ → List ℕ
many zero xs = []
many (suc n) xs = xs ++ many n xs

abbrev part : ℕ → ℕ → List ℕ
part a n = take n (drop a (encode book))

-- the header at 0, eight seats from 16, 32 places from 176, 32 slots from 816, and no more
pub record Bytes : Type 0 where
  pub head : part 0 16 ≡ head
  pub seats : part 16 160
      ≡ unstarted 70 ++ seat ++ unstarted 72 ++ unstarted 73 ++ unstarted 74 ++ unstarted 75 ++ unstarted 76 ++ unstarted 77
  pub places : part 176 640 ≡ many 31 (0x4D ∷ 0x41 ∷ eighteen) ++ place
  pub slots : part 816 640 ≡ slot ++ many 31 (0x53 ∷ 0x48 ∷ eighteen)
  pub size : length (encode book) ≡ 1456

pub book_bytes : Bytes
unfolding layout tab byte_of head_byte phases_byte mark0 mark1 marked_byte row_byte
book_bytes = record { head = refl; seats = refl; places = refl; slots = refl; size = refl }

pub setup_read : setup_of (encode book) ≡ setup
unfolding layout tab byte_of head_byte phases_byte mark0 mark1 marked_byte row_byte
setup_read = refl

pub heads_asked : map (λ (t : ℕ × ℕ). head_ok (set head t.0 t.1)) ((0, 0x42) ∷ (0, 0x4B) ∷ (1, 0x42) ∷ (4, 77) ∷ (9, 1) ∷ (15, 1) ∷ [])
    ≡ true ∷ false ∷ false ∷ false ∷ false ∷ false ∷ []
unfolding head_ok spare_zero all_of all_below
heads_asked = refl

pub label_bytes : write_stamp 8 (record { owner = 5; row = counted 50 }) ≡ label
unfolding write_stamp tab marked_byte row_byte
label_bytes = refl

pub target_bytes : filled (replicate 22 0xFF) label ≡ label ++ 0xFF ∷ 0xFF ∷ []
unfolding filled
target_bytes = refl

abbrev X : Setup
X = record { desks = 3; phases = 5; limits = 4 ∷ 4 ∷ 4 ∷ []; seat_lag = 2; shelf_lag = 4; back = 2; ahead = 2 }

abbrev kept : List ℕ
kept = 0x53 ∷ 0x54 ∷ 2 ∷ 3 ∷ 4 ∷ 3 ∷ 4 ∷ 3 ∷ 4 ∷ 3 ∷ 0 ∷ 0 ∷ 0 ∷ 0 ∷ 0 ∷ 0 ∷ 0 ∷ 0 ∷ 0 ∷ 0 ∷ []

pub lengths_read : map (λ r. reads (read_stamp X r)) (kept ∷ take 19 kept ∷ (kept ++ 0 ∷ []) ∷ []) ≡ true ∷ false ∷ false ∷ []
unfolding read_stamp read_ok all_of all_below pair_reads
lengths_read = refl

abbrev ringed : ℕ → ℕ → Setup
ringed P A = record { desks = 2; phases = P; limits = 4 ∷ 2 ∷ []; seat_lag = 1; shelf_lag = A; back = 1; ahead = 1 }

abbrev headed : ℕ → List ℕ
headed y = 0x42 ∷ 0x4B ∷ 2 ∷ y ∷ 0 ∷ 1 ∷ 1 ∷ 1 ∷ 1 ∷ replicate 7 0 ++ unstarted 4 ++ unstarted 2

pub rings_written : map (λ P. head_byte (ringed P 1) 3) (3 ∷ 254 ∷ 255 ∷ 256 ∷ []) ≡ 3 ∷ 254 ∷ 255 ∷ 0 ∷ []
unfolding head_byte phases_byte
rings_written = refl

pub rings_told : map (λ y. setup_of (headed y)) (0 ∷ 3 ∷ 255 ∷ []) ≡ ringed 256 1 ∷ ringed 3 1 ∷ ringed 255 1 ∷ []
unfolding phases_byte tab
rings_told = refl

pub rings_asked : map (λ y. permits (setup_of (headed y))) (0 ∷ 1 ∷ 2 ∷ 3 ∷ 255 ∷ []) ≡ true ∷ false ∷ false ∷ true ∷ true ∷ []
unfolding phases_byte tab permits in_range related limited limit_ok within all_of all_below
rings_asked = refl

-- by P, the bound, the own phase and the phase: the last phase of a byte, and across the seam
pub phases_asked : map
    (λ (t : (ℕ × ℕ) × (ℕ × ℕ)). pair_ok lag_of (ringed t.0.0 1) t.0.1 t.1.0 0 (record { phase = t.1.1; clock = 0 }))
    (((256, 0), (255, 255))
    ∷ ((256, 1), (0, 255))
    ∷ ((256, 0), (0, 255))
    ∷ ((256, 255), (0, 1))
    ∷ ((256, 254), (0, 1))
    ∷ ((255, 0), (255, 255))
    ∷ ((255, 1), (0, 254))
    ∷ ((255, 1), (0, 255))
    ∷ [])
    ≡ true ∷ true ∷ false ∷ true ∷ false ∷ false ∷ true ∷ false ∷ []
unfolding pair_ok all_of
phases_asked = refl

pub phases_read : map (λ (t : ℕ × ℕ). reads (read_stamp (ringed t.0 1) (0x53 ∷ 0x54 ∷ 1 ∷ 2 ∷ t.1 ∷ 3 ∷ 0 ∷ 1 ∷ replicate 12 0)))
    ((256, 0) ∷ (256, 254) ∷ (256, 255) ∷ (255, 254) ∷ (255, 255) ∷ (0, 0) ∷ [])
    ≡ true ∷ true ∷ true ∷ true ∷ false ∷ false ∷ []
unfolding read_stamp read_ok all_of all_below pair_reads
phases_read = refl

-- the mark, the owner, D, a phase and a clock, and the filler
pub bytes_read : map (λ (t : ℕ × ℕ). reads (read_stamp X (set kept t.0 t.1)))
    ((0, 0x54) ∷ (1, 0x53) ∷ (2, 3) ∷ (3, 2) ∷ (3, 4) ∷ (4, 5) ∷ (5, 4) ∷ (8, 5) ∷ (9, 4) ∷ (10, 1) ∷ (11, 1) ∷ (18, 1) ∷ (19, 1) ∷ [])
    ≡ replicate 13 false
unfolding read_stamp read_ok all_of all_below pair_reads
bytes_read = refl

abbrev apart : ℕ → ℕ → Setup
apart l k = record { desks = 2; phases = 5; limits = l ∷ k ∷ []; seat_lag = 2; shelf_lag = 4; back = 2; ahead = 2 }

abbrev receipt : List ℕ
receipt = 0x53 ∷ 0x54 ∷ 1 ∷ 2 ∷ 0 ∷ 3 ∷ 0 ∷ 1 ∷ replicate 12 0

pub limits_read : (reads (read_stamp (apart 4 2) receipt)
    ∷ reads (read_stamp (apart 2 4) receipt)
    ∷ reads (read_stamp (apart 3 2) receipt)
    ∷ reads (read_stamp (apart 4 1) receipt)
    ∷ []) ≡ true ∷ false ∷ false ∷ false ∷ []
unfolding read_stamp read_ok all_of all_below pair_reads
limits_read = refl

abbrev clocks : ℕ → ℕ → Row
clocks p q = put (put zeros 0 (record { phase = 0; clock = p })) 1 (record { phase = 0; clock = q })

abbrev sheet : ℕ → Record → Fields
sheet k r = record { setup = apart 4 2; at = put (λ i. record { tag_a = 0; tag_b = 0; row = zeros }) k r }

pub seats_asked : map (λ (t : ℕ × ℕ). seat_ok lag_of (sheet t.0 (record { tag_a = 0; tag_b = t.1; row = zeros })) t.0)
    ((0, 0) ∷ (0, 1) ∷ (0, 2) ∷ (1, 1) ∷ (1, 2) ∷ (1, 255) ∷ (1, 256) ∷ (2, 0) ∷ (2, 1) ∷ (2, 2) ∷ (7, 0) ∷ (7, 2) ∷ [])
    ≡ false ∷ false ∷ true ∷ false ∷ true ∷ true ∷ false ∷ true ∷ false ∷ false ∷ true ∷ false ∷ []
unfolding seat_ok seat_limit seat_rest seat_near row_ok column_ok pair_ok row_zero column_zero limit_ok within all_of all_below
seats_asked = refl

-- of desk 0, then of desk 1, both started
pub seat_rows_asked : map (λ (t : ℕ × Row). seat_ok lag_of (sheet t.0 (record { tag_a = 1; tag_b = 2; row = t.1 })) t.0)
    ((0, clocks 3 1) ∷ (0, clocks 4 1) ∷ (0, clocks 3 2) ∷ (1, clocks 3 1) ∷ (1, clocks 4 1) ∷ (1, clocks 3 2) ∷ [])
    ≡ true ∷ false ∷ false ∷ true ∷ false ∷ false ∷ []
unfolding seat_ok seat_limit seat_rest seat_near row_ok column_ok pair_ok limit_ok within all_of all_below
seat_rows_asked = refl

-- from desk 0 to desk 1, then from desk 1 to desk 0
pub mail_asked : map (λ (t : ℕ × (ℕ × Row)). mail_ok lag_of (sheet 8 (record { tag_a = t.0; tag_b = t.1.0; row = t.1.1 })) 8)
    ((1, (2, clocks 3 1)) ∷ (1, (2, clocks 4 1)) ∷ (1, (2, clocks 3 2)) ∷ (2, (1, clocks 3 1)) ∷ (2, (1, clocks 4 1)) ∷ (2, (1, clocks 3 2)) ∷ [])
    ≡ true ∷ false ∷ false ∷ true ∷ false ∷ false ∷ []
unfolding mail_ok row_ok column_ok pair_ok all_of all_below
mail_asked = refl

-- of desk 0, then of desk 1
pub slots_asked : map (λ (t : ℕ × Row). slot_ok lag_of (sheet 40 (record { tag_a = t.0; tag_b = 0; row = t.1 })) 40)
    ((1, clocks 3 1) ∷ (1, clocks 4 1) ∷ (1, clocks 3 2) ∷ (2, clocks 3 1) ∷ (2, clocks 4 1) ∷ (2, clocks 3 2) ∷ [])
    ≡ true ∷ false ∷ false ∷ true ∷ false ∷ false ∷ []
unfolding slot_ok row_ok column_ok pair_ok all_of all_below
slots_asked = refl

pub record_numbers : ((before_of X kept kept).number
    ∷ (before_of X (take 19 kept) kept).number
    ∷ (compare_of X kept (set kept 2 3)).number
    ∷ []) ≡ 0 ∷ 14 ∷ 14 ∷ []
unfolding reach_back before_off compare_off permits in_range related limited limit_ok within read_stamp read_ok all_of all_below pair_reads
record_numbers = refl

-- on any bytes of that length, whatever they say
module _ (s : List ℕ) where
  unsound : eqb (length s) 1456 ≡ false → sound s ≡ false
  unfolding sound_by
  unsound e = not_each _ 0 e

  other_length : eqb (length s) 1456 ≡ false → (c : Call) → (answer_to s c).number ≡ 1
  unfolding answer_to admits
  other_length e (start Y) = rw (answer_to, e)
  other_length e (on a) = rw (answer_to, unsound e)

  pub length_1455 : length s ≡ 1455 → (c : Call) → (answer_to s c).number ≡ 1
  length_1455 e = other_length (ap (λ n. eqb n 1456) e)

  pub length_1457 : length s ≡ 1457 → (c : Call) → (answer_to s c).number ≡ 1
  length_1457 e = other_length (ap (λ n. eqb n 1456) e)

  pub length_1456 : length s ≡ 1456 → (answer_to s (start X)).number ≡ 0
  unfolding answer_to admits call permits in_range related limited limit_ok all_of all_below within
  length_1456 e = rw (answer_to, e)
