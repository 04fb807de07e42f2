-- What every call answers, and every byte that it leaves. The contracts of the portal and demand 3 speak of these two.
-- Assumes nothing. In words: docs/RULES.md, "Calls".
--   admits s c      the call c does not find a bad book; start asks only the length
--   turn_on s c     what the call does by the rules, on the ring
--   answer_to s c   the answer to the call c on the bytes s: number and value, BadBook first
--   book_after s c  the bytes that the call c leaves: the same ones where it is refused
--   part_in v       the sixteen bytes of the row in a value, which a show hands back; none where it has none
--   record_in D v   the record of the stamp in a value; none where it has none
--   part_of s k     what show of slot k hands back of the bytes s; part_from s k, the byte of s where it begins, 0 where it is refused
--   target_after s k t   what write of slot k makes of the target t
--   before_of X a b, compare_of X a b   the answers to before and compare off the book, of the records a and b under the setup X
use Rattle.std.specs.Prelude.{ℕ, ◌+◌, Bool, List, eqb, length}
use Rattle.tools.specs.Tests.{pick}
use Rattle.tools.specs.Lists.{listed}
use Rattle.tools.specs.Reasons.{if_done}
use Rattle.rules.specs.Model.{show, write, Value, Answer, refusal}
use Rattle.rules.specs.Setups.{Setup}
use Rattle.rules.specs.declared.Refusal.TheVariants.{BadBook}
use Rattle.rules.specs.Numbers.{number}
use Rattle.rules.specs.Calls.{Call, start, on, Turn, ring_of, call}
use Rattle.rules.specs.Labels.{before_off, compare_off}
use Rattle.rules.specs.Replies.{row_bytes}
use Rattle.book.specs.Layout.{book_size, shelf_from, row_spot, spot}
use Rattle.book.specs.Sound.{sound}
use Rattle.book.specs.Codec.{decode, encode}
use Rattle.book.specs.Stamps.{write_stamp, read_stamp, filled}

unfoldable pub admits : List ℕ → Call → Bool
admits s (start X) = eqb (length s) book_size
admits s (on c) = sound s

abbrev pub turn_on : List ℕ → Call → Turn
turn_on s c = call ring_of (decode s) c

unfoldable pub answer_to : List ℕ → Call → Answer
answer_to s c = pick (admits s c) (turn_on s c).answer (refusal (number BadBook))

unfoldable pub book_after : List ℕ → Call → List ℕ
book_after s c = if_done (answer_to s c).number (encode (turn_on s c).book) s

abbrev pub part_in : Value → List ℕ
part_in v = listed row_bytes v.row

abbrev pub record_in : ℕ → Value → List ℕ
record_in D v = listed (write_stamp D) v.stamp

abbrev pub part_of : List ℕ → ℕ → List ℕ
part_of s k = part_in (answer_to s (on (show k))).value

abbrev pub part_from : List ℕ → ℕ → ℕ
part_from s k = if_done (answer_to s (on (show k))).number (spot (shelf_from + k) row_spot) 0

abbrev pub target_after : List ℕ → ℕ → List ℕ → List ℕ
target_after s k t = filled t (record_in (decode s).setup.desks (answer_to s (on (write k (length t)))).value)

abbrev pub before_of : Setup → List ℕ → List ℕ → Answer
before_of X a b = before_off X (read_stamp X a) (read_stamp X b)

abbrev pub compare_of : Setup → List ℕ → List ℕ → Answer
compare_of X a b = compare_off X (read_stamp X a) (read_stamp X b)
