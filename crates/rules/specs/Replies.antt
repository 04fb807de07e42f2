-- What the code's answers say: the table's number and the value for each case of each type of answer.
-- Assumes nothing.
--   row_size         how many bytes a row has: each desk's phase, then its clock
--   phase_spot j, clock_spot j   which of them is the phase of desk j, and which the clock
--   row_byte r c     byte c of the bytes of a row
--   row_bytes r      the bytes of a row
--   row_of l         the row that such bytes tell: a pair for each seat's desk, zero beyond
--   slot_in o        the slot of an event that is kept; none where it is not
--   number_in r      the number of the answer r: 0 where it is done
--   answer_by v r    the answer r: accepted with the value that v tells, or refused
--   event p s l k    the value of an event: its place p, its stamp s, the number l of desks learnt of and the slot k
--   done_value, stamped_value, received_value, sent_value   of a call that gives nothing; of local and reset; of receive; of send
--   odds_value o     yes, or two desks at odds
--   reset_value o    the number that a reset would be refused with, 0 where it would be accepted
--   done_says        what an answer without a value says
--   stamped_says     what the answer to local or reset says
--   received_says    what the answer to receive says
--   sent_says        what the answer to send says
--   told_says        what the answer to before says
--   compared_says    what the answer to compare says
--   pictured_says    what the answer to picture says
--   foretold_says    what the answer to may says
use Rattle.std.specs.Prelude.{true, Bool, List, ℕ, ◌+◌, ◌*◌, ◌/◌, ◌%◌, ltb, eqb, Some, None, Result, Ok, Err}
use Rattle.std.specs.Prelude as Std
use Rattle.std.proofs.Math.Option.{Option, none, some}
use Rattle.tools.specs.Tests.{pick}
use Rattle.tools.specs.Lists.{byte, tab}
use Rattle.rules.specs.declared.Stamp.{Stamp}
use Rattle.rules.specs.declared.Stamped.{Stamped}
use Rattle.rules.specs.declared.Received.{Received}
use Rattle.rules.specs.declared.Sent.{Sent}
use Rattle.rules.specs.declared.Refusal.{Refusal}
use Rattle.rules.specs.declared.Relation.{Relation}
use Rattle.rules.specs.Numbers.{number}
use Rattle.rules.specs.Model.{seats, Row, Odds, Value, made, nothing, says, relates, names, foretells, Answer, refusal}
use Rattle.rules.specs.Model.{accepted, zeros}

abbrev pub row_size : ℕ
row_size = 16

abbrev pub phase_spot : ℕ → ℕ
phase_spot j = 2 * j

abbrev pub clock_spot : ℕ → ℕ
clock_spot j = 1 + 2 * j

unfoldable pub row_byte : Row → ℕ → ℕ
row_byte r c = pick (eqb (c % 2) 0) (r (c / 2)).phase (r (c / 2)).clock

unfoldable pub row_bytes : Row → List ℕ
row_bytes r = tab 0 row_size (row_byte r)

abbrev pub row_of : List ℕ → Row
row_of l k = pick (ltb k seats) (record { phase = byte l (phase_spot k); clock = byte l (clock_spot k) }) (zeros k)

abbrev pub slot_in : Std.Option ℕ → Option ℕ
slot_in None = none
slot_in (Some s) = some s

abbrev pub number_in : {A : Type 0} → Result A Refusal → ℕ
number_in (Ok x) = 0
number_in (Err r) = number r

abbrev pub answer_by : {A : Type 0} → (A → Value) → Result A Refusal → Answer
answer_by v (Ok x) = accepted (v x)
answer_by v (Err r) = refusal (number r)

abbrev pub event : Option ℕ → Stamp → Option ℕ → Std.Option ℕ → Value
event p s l k = made p s.owner (row_of s.row) l (slot_in k)

abbrev pub done_value : Unit {0} → Value
done_value u = nothing

abbrev pub stamped_value : Stamped → Value
stamped_value r = event none r.stamp none r.slot

abbrev pub received_value : Received → Value
received_value r = event none r.stamp (some r.learnt) r.slot

abbrev pub sent_value : Sent → Value
sent_value r = event (some r.place) r.stamp none r.slot

abbrev pub odds_value : Std.Option Odds → Value
odds_value None = says true
odds_value (Some o) = names o.lower o.higher

abbrev pub reset_value : Std.Option Refusal → Value
reset_value None = foretells 0
reset_value (Some r) = foretells (number r)

abbrev pub done_says : Result (Unit {0}) Refusal → Answer
done_says = answer_by done_value

abbrev pub stamped_says : Result Stamped Refusal → Answer
stamped_says = answer_by stamped_value

abbrev pub received_says : Result Received Refusal → Answer
received_says = answer_by received_value

abbrev pub sent_says : Result Sent Refusal → Answer
sent_says = answer_by sent_value

abbrev pub told_says : Result Bool Refusal → Answer
told_says = answer_by says

abbrev pub compared_says : Result Relation Refusal → Answer
compared_says = answer_by relates

abbrev pub pictured_says : Result (Std.Option Odds) Refusal → Answer
pictured_says = answer_by odds_value

abbrev pub foretold_says : Result (Std.Option Refusal) Refusal → Answer
foretold_says = answer_by reset_value
