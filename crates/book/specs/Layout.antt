-- Where the numbers of a book stand: a header, then a record for each seat, each mail place and each shelf slot.
-- Assumes nothing. In words: docs/RULES.md, "Bytes".
--   book_size, head_size, record_size, row_size   how many bytes a book has, its header, a record and a row
--   records           how many records there are
--   seats             how many seats, whose records come first; a row has a pair for each
--   places            how many mail places, and how many shelf slots
--   mail_from         the record of mail place 0
--   shelf_from        the record of shelf slot 0
--   tag_a_spot, tag_b_spot   which byte of a record is its first tag, and which its second: a seat's limit, a mail place's addressee,
--                     filler in a slot
--   row_spot          the byte of a record where its row begins
--   phase_spot j, clock_spot j   which byte of a row is the phase of desk j, and which the clock
--   book_mark0, book_mark1   the mark of a book
--   blank_spot        the byte of the header between P and M, which is filler
--   spare_from, spare_size   the byte of the header where the filler at its end begins, and how many bytes it has
--   Record            the two tags and the row of a record
--   Fields            the setup and the records
--   spot k c          where byte c of record k stands
--   phases_byte P     P as its byte in the header, and the P that such a byte tells: 0 and 256 stand for each other, any other for itself
--   head_byte X i     byte i of the header of a book with the setup X
--   mark0, mark1      the mark of a record
--   marked_byte x y r c   byte c of a record of twenty bytes: the mark x, y, then the tags and the row of r
--   record_byte k r c byte c of record k, whose tags and row are r
--   byte_of f i       byte i of the fields f: in the header, or in its record
--   layout f          the bytes of the fields f
--   limits_of b       the limits that the bytes b tell: of the eight seats' second tags the first D
--   setup_of b        the setup that the bytes b tell
--   row_at b k        the row that the bytes b tell in record k
--   fields b          the fields of the bytes b
--   Holds f b         the bytes b are those of the fields f
--   post b k x y row  the bytes b with the tags x and y and the row bytes in record k
use Rattle.std.specs.Prelude.{ℕ, ◌+◌, ◌*◌, ◌-◌, ◌/◌, ◌%◌, ◌<◌, ◌≡◌, List, [], ◌∷◌, ltb, eqb, length, set, take}
use Rattle.tools.specs.Tests.{pick}
use Rattle.tools.specs.Lists.{byte, tab, mid}
use Rattle.rules.specs.Setups.{Setup}
use Rattle.rules.specs.Model.{Row}
pub use Rattle.rules.specs.Model.{seats, places, record_size}
use Rattle.rules.specs.Replies.{row_byte}
pub use Rattle.rules.specs.Replies.{row_size, phase_spot, clock_spot}

pub record Record : Type 0 where
  pub tag_a : ℕ
  pub tag_b : ℕ
  pub row : Row

pub record Fields : Type 0 where
  pub setup : Setup
  pub at : ℕ → Record

abbrev pub head_size : ℕ
head_size = 16

abbrev pub mail_from : ℕ
mail_from = 8

abbrev pub shelf_from : ℕ
shelf_from = 40

abbrev pub records : ℕ
records = 72

abbrev pub book_size : ℕ
book_size = 1456

abbrev pub tag_a_spot : ℕ
tag_a_spot = 2

abbrev pub tag_b_spot : ℕ
tag_b_spot = 3

abbrev pub row_spot : ℕ
row_spot = 4

abbrev pub book_mark0 : ℕ
book_mark0 = 0x42

abbrev pub book_mark1 : ℕ
book_mark1 = 0x4B

abbrev pub blank_spot : ℕ
blank_spot = 4

abbrev pub spare_from : ℕ
spare_from = 9

abbrev pub spare_size : ℕ
spare_size = 7

abbrev pub spot : ℕ → ℕ → ℕ
spot k c = head_size + record_size * k + c

-- a byte has no room for 256, and no ring has 0 phases
unfoldable pub phases_byte : ℕ → ℕ
phases_byte P = pick (eqb P 256) 0 (pick (eqb P 0) 256 P)

unfoldable pub head_byte : Setup → ℕ → ℕ
head_byte X i =
    byte (book_mark0 ∷ book_mark1 ∷ X.desks ∷ phases_byte X.phases ∷ 0 ∷ X.seat_lag ∷ X.shelf_lag ∷ X.back ∷ X.ahead ∷ []) i

unfoldable pub mark0 : ℕ → ℕ
mark0 k = pick (ltb k seats) 0x53 (pick (ltb k shelf_from) 0x4D 0x53)

unfoldable pub mark1 : ℕ → ℕ
mark1 k = pick (ltb k seats) 0x45 (pick (ltb k shelf_from) 0x41 0x48)

unfoldable pub marked_byte : ℕ → ℕ → Record → ℕ → ℕ
marked_byte x y r c =
    pick (eqb c 0) x
    (pick (eqb c 1) y (pick (eqb c tag_a_spot) r.tag_a (pick (eqb c tag_b_spot) r.tag_b (row_byte r.row (c - row_spot)))))

abbrev pub record_byte : ℕ → Record → ℕ → ℕ
record_byte k r c = marked_byte (mark0 k) (mark1 k) r c

unfoldable pub byte_of : Fields → ℕ → ℕ
byte_of f i =
    pick (ltb i head_size) (head_byte f.setup i)
    (record_byte ((i - head_size) / record_size) (f.at ((i - head_size) / record_size)) ((i - head_size) % record_size))

unfoldable pub layout : Fields → List ℕ
layout f = tab 0 book_size (byte_of f)

abbrev pub limits_of : List ℕ → List ℕ
limits_of b = take (byte b 2) (tab 0 seats (λ j. byte b (spot j tag_b_spot)))

abbrev pub setup_of : List ℕ → Setup
setup_of b =
    record {
      desks = byte b 2;
      phases = phases_byte (byte b 3);
      limits = limits_of b;
      seat_lag = byte b 5;
      shelf_lag = byte b 6;
      back = byte b 7;
      ahead = byte b 8;
    }

abbrev pub row_at : List ℕ → ℕ → Row
row_at b k j =
    record { phase = byte b (spot k (row_spot + phase_spot j)); clock = byte b (spot k (row_spot + clock_spot j)) }

abbrev pub fields : List ℕ → Fields
fields b =
    record {
      setup = setup_of b;
      at = λ k. record { tag_a = byte b (spot k tag_a_spot); tag_b = byte b (spot k tag_b_spot); row = row_at b k };
    }

pub record Holds (f : Fields) (b : List ℕ) : Type 0 where
  pub size : length b ≡ book_size
  pub head : (i : ℕ) → i < head_size → head_byte f.setup i ≡ byte b i
  pub there : (k c : ℕ) → k < records → c < record_size → record_byte k (f.at k) c ≡ byte b (spot k c)

unfoldable pub post : List ℕ → ℕ → ℕ → ℕ → List ℕ → List ℕ
post b k x y row = set (set (mid (spot k row_spot) row_size b row) (spot k tag_a_spot) x) (spot k tag_b_spot) y
