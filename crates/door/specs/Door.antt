-- The C interface: a call's value goes into buffers that the caller lends, and a buffer too short is one more reason.
-- Assumes nothing. In words: docs/RULES.md, "C interface".
--   numbers_by D P M A m n   the six numbers of a setup
--   relation_byte r  the byte of a relation
--   one n            the byte n
--   wished n         whether a caller who gives the number n wishes to keep the stamp: 0 is no, any other yes
--   byte_in v        the one byte of the yes or no, or relation in a value; 0 where it names two desks at odds
--   odds_in v        the bytes of the two desks at odds in a value, the lower one first; none where it names none
--   place_in v, learnt_in v, slot_byte v   the one byte of the place, of the number of desks learnt of, of the slot in a value; none
--                    where it has none
--   which_byte w     the byte of one of two records, or of neither
--   which_in v       the byte of the newest of two records that a value relates; none where it relates none
--   foretold_in v    the one byte of the number that a reset would be answered, in a value; none where it has none
--   Lent, lent n f t t'   a buffer that the caller lends for a value: it must have n bytes, f tells those of the value, and the
--                    whole buffer is t before the call and t' afterwards
--   byte_to t t', which_to t t', row_to t t'   the buffer is lent for a byte, for the newest of two records, for sixteen row bytes
--   place_to t t', learnt_to t t'   the buffer is lent for a place, for the number of desks learnt of
--   odds_to t t'     the buffer is lent for two desks at odds
--   foretold_to t t' the buffer is lent for the number that a reset would be answered
--   slot_to q t t'   the buffer is lent for the slot of an event: it must have a byte where the event is to be kept, q
--   record_to D t t' the buffer is lent for a stamp record with the number D of desks
--   stamp_to s t t'  the buffer is lent for a stamp record with the D of the book s
--   short ls         one of the lent buffers ls is too short
--   or_no_room n     NoRoom or the number n, whichever is smaller; 0 is no reason
--   cramped q a      the answer a to a call, with NoRoom as one more reason where q holds: a lent buffer is too short
--   Fills ls v       each of the lent buffers ls has its bytes of the value v in front afterwards, and the rest as it was
--   Gets a ls n      what a caller gets who is answered a: the number n, and every byte of the lent buffers ls
--   Gives a ls n     the same, with NoRoom as one more reason where one of ls is too short
--   GivesByte u t t' n   the number n, and the one byte u of whatever value, in the buffer that is t before and t' afterwards
--   Leaves a x y x' ls n   what a caller gets who lends ls to a call that is answered a and turns x into y: the same, and x' is what is
--                    left: x as it was where one of ls is too short, and else y
--   Makes c s s' ls n   the same of the call c on the book s, of which s' is every byte afterwards
use Rattle.std.specs.Prelude.{ℕ, ◌≡◌, Bool, false, not, ◌||◌, List, [], ◌∷◌, ◌++◌, ltb, eqb, length}
use Rattle.tools.specs.Tests.{pick}
use Rattle.tools.specs.Lists.{listed}
use Rattle.rules.specs.declared.SetupNumbers.{SetupNumbers}
use Rattle.rules.specs.declared.Relation.{Relation}
use Rattle.rules.specs.declared.Relation.TheVariants.{Before, After, Same, Concurrent, Crossed}
use Rattle.rules.specs.declared.Refusal.TheVariants.{NoRoom}
use Rattle.rules.specs.Numbers.{number}
use Rattle.rules.specs.Model.{Odds, Value, nothing, Answer, refusal, accepted}
use Rattle.rules.specs.Calls.{Call}
use Rattle.rules.specs.Labels.{Which, First, Second, Neither, newer}
use Rattle.book.specs.Layout.{record_size, row_size}
use Rattle.book.specs.Codec.{decode}
use Rattle.book.specs.Stamps.{filled}
use Rattle.book.specs.Answers.{answer_to, book_after, part_in, record_in}

abbrev pub numbers_by : ℕ → ℕ → ℕ → ℕ → ℕ → ℕ → SetupNumbers
numbers_by D P M A m n = record { desks = D; phases = P; seat_lag = M; shelf_lag = A; back = m; ahead = n }

abbrev pub relation_byte : Relation → ℕ
relation_byte Before = 1
relation_byte After = 2
relation_byte Same = 3
relation_byte Concurrent = 4
relation_byte Crossed = 5

abbrev pub one : ℕ → List ℕ
one n = n ∷ []

abbrev pub wished : ℕ → Bool
wished n = not (eqb n 0)

abbrev pub byte_in : Value → List ℕ
byte_in v =
    listed (λ t. one (pick t 1 0)) v.verdict ++ listed (λ r. one (relation_byte r)) v.relation ++ listed (λ o. one 0) v.odds

abbrev pub odds_in : Value → List ℕ
odds_in v = listed (λ (o : Odds). o.lower ∷ o.higher ∷ []) v.odds

abbrev pub place_in : Value → List ℕ
place_in v = listed one v.place

abbrev pub learnt_in : Value → List ℕ
learnt_in v = listed one v.learnt

abbrev pub slot_byte : Value → List ℕ
slot_byte v = listed one v.slot

abbrev pub which_byte : Which → ℕ
which_byte First = 1
which_byte Second = 2
which_byte Neither = 0

abbrev pub which_in : Value → List ℕ
which_in v = listed (λ r. one (which_byte (newer r))) v.relation

abbrev pub foretold_in : Value → List ℕ
foretold_in v = listed one v.foretold

pub data Lent : Type 0 where
  lent : ℕ → (Value → List ℕ) → List ℕ → List ℕ → Lent

abbrev pub byte_to : List ℕ → List ℕ → Lent
byte_to = lent 1 byte_in

abbrev pub which_to : List ℕ → List ℕ → Lent
which_to = lent 1 which_in

abbrev pub place_to : List ℕ → List ℕ → Lent
place_to = lent 1 place_in

abbrev pub learnt_to : List ℕ → List ℕ → Lent
learnt_to = lent 1 learnt_in

abbrev pub odds_to : List ℕ → List ℕ → Lent
odds_to = lent 2 odds_in

abbrev pub foretold_to : List ℕ → List ℕ → Lent
foretold_to = lent 1 foretold_in

abbrev pub slot_to : Bool → List ℕ → List ℕ → Lent
slot_to q = lent (pick q 1 0) slot_byte

abbrev pub row_to : List ℕ → List ℕ → Lent
row_to = lent row_size part_in

abbrev pub record_to : ℕ → List ℕ → List ℕ → Lent
record_to D = lent record_size (record_in D)

abbrev pub stamp_to : List ℕ → List ℕ → List ℕ → Lent
stamp_to s = record_to (decode s).setup.desks

abbrev pub short : List Lent → Bool
short [] = false
short (lent n f t t' ∷ ls) = short ls || ltb (length t) n

unfoldable pub or_no_room : ℕ → ℕ
or_no_room n = pick (eqb n 0 || ltb (number NoRoom) n) (number NoRoom) n

abbrev pub cramped : Bool → Answer → Answer
cramped q a = pick q (refusal (or_no_room a.number)) a

unfoldable pub Fills : List Lent → Value → Type 0
Fills [] v = Unit {0}
Fills (lent n f t t' ∷ ls) v = (t' ≡ filled t (f v)) × Fills ls v

pub record Gets (a : Answer) (ls : List Lent) (n : ℕ) : Type 0 where
  pub number : n ≡ a.number
  pub buffers : Fills ls a.value

abbrev pub Gives : Answer → List Lent → ℕ → Type 0
Gives a ls n = Gets (cramped (short ls) a) ls n

abbrev pub GivesByte : ℕ → List ℕ → List ℕ → ℕ → Type 0
GivesByte u t t' n = (f : Value → List ℕ) (v : Value) → f nothing ≡ [] → f v ≡ one u → Gives (accepted v) (lent 1 f t t' ∷ []) n

pub record Leaves {A : Type 0} (a : Answer) (x y x' : A) (ls : List Lent) (n : ℕ) : Type 0 where
  pub answer : Gives a ls n
  pub left : x' ≡ pick (short ls) x y

abbrev pub Makes : Call → List ℕ → List ℕ → List Lent → ℕ → Type 0
Makes c s s' ls n = Leaves (answer_to s c) s (book_after s c) s' ls n
