-- Before, compare and newest off the book: given a setup and two stamp records.
-- Assumes nothing. In words: docs/RULES.md, "Comparing" and "Stamp records".
--   or_else g h          the difference g, or where there is none h
--   gap_off X j e f      the difference from e to f at desk j that two phases of a ring show, none beyond reach
--   reads, owner_in, row_read   of a record as it reads: whether it does, its owner, its row; 0 and zeros where it does not
--   gap_read X e f       the same of two records as they read, at the first one's owner
--   reasons_off X e f out   when which number is given, of two records as they read; out: the question is out of reach
--   why_off X e f out    the smallest number that is due, 0 where the question is answered
--   settle_off n v       the value v where the number n is 0, else the refusal n
--   before_off X e f     the answer to before, of two records as they read
--   compare_off X e f    the answer to compare
--   Which                one of two lent records, or neither
--   newer r              the one that is after the other by the relation r; the first if they are the same
--   newer_in o           the same by a relation that may be none; neither then
--   newest_by v          the same by the relation in a value; neither where it has none
--   newest_off X e f     the record that is after the other; neither where compare is refused
use Rattle.std.specs.Prelude.{Bool, true, false, not, ◌||◌, List, [], ◌∷◌, ℕ, ◌-◌}
use Rattle.std.proofs.Math.Option.{Option, none, some}
use Rattle.tools.specs.Reasons.{Reason, first, if_done}
use Rattle.ring.specs.Phases.{Gap, lag_of}
use Rattle.rules.specs.declared.Relation.{Relation}
use Rattle.rules.specs.declared.Relation.TheVariants.{Before, After, Same, Concurrent, Crossed}
use Rattle.rules.specs.Setups.{Setup, permits}
use Rattle.rules.specs.declared.Refusal.TheVariants.{BadSetup, BadStamp, OutOfReach}
use Rattle.rules.specs.Numbers.{given}
use Rattle.rules.specs.Model.{Row, Label, Value, says, relates, Answer, refusal, accepted, zeros, near, is_out, gap_in}
use Rattle.rules.specs.Model.{is_before, relation}

abbrev pub or_else : Option Gap → Option Gap → Option Gap
or_else none h = h
or_else (some d) h = some d

-- r is how far the phase in e lags behind the phase in f: d is r where that is within reach, else r-P where that is
abbrev pub gap_off : Setup → ℕ → Row → Row → Option Gap
gap_off X j e f =
    let r = lag_of X.phases (f j).phase (e j).phase in
    or_else (near X (e j).clock (record { up = r; down = 0 }))
    (near X (e j).clock (record { up = 0; down = X.phases - r }))

abbrev pub reads : Option Label → Bool
reads none = false
reads (some e) = true

abbrev pub owner_in : Option Label → ℕ
owner_in none = 0
owner_in (some e) = e.owner

abbrev pub row_read : Option Label → Row
row_read none = zeros
row_read (some e) = e.row

abbrev pub gap_read : Setup → Option Label → Option Label → Option Gap
gap_read X e f = gap_off X (owner_in e) (row_read e) (row_read f)

abbrev pub reasons_off : Setup → Option Label → Option Label → Bool → List Reason
reasons_off X e f out =
    given BadSetup (not (permits X))
    ∷ given BadStamp (not (reads e) || not (reads f))
    ∷ given OutOfReach out
    ∷ []

abbrev pub why_off : Setup → Option Label → Option Label → Bool → ℕ
why_off X e f out = first (reasons_off X e f out)

abbrev pub settle_off : ℕ → Value → Answer
settle_off n v = if_done n (accepted v) (refusal n)

unfoldable pub before_off : Setup → Option Label → Option Label → Answer
before_off X e f =
    settle_off (why_off X e f (is_out (gap_read X e f)))
    (says (is_before (gap_in (gap_read X e f)) (owner_in e) (owner_in f) (row_read e) (row_read f)))

unfoldable pub compare_off : Setup → Option Label → Option Label → Answer
compare_off X e f =
    settle_off (why_off X e f (is_out (gap_read X e f) || is_out (gap_read X f e)))
    (relates (relation (gap_in (gap_read X e f)) (gap_in (gap_read X f e))
    (owner_in e) (owner_in f) (row_read e) (row_read f)))

pub data Which : Type 0 where
  First Second Neither : Which

abbrev pub newer : Relation → Which
newer After = First
newer Same = First
newer Before = Second
newer Concurrent = Neither
newer Crossed = Neither

abbrev pub newer_in : Option Relation → Which
newer_in none = Neither
newer_in (some r) = newer r

abbrev pub newest_by : Value → Which
newest_by v = newer_in v.relation

abbrev pub newest_off : Setup → Option Label → Option Label → Which
newest_off X e f = newest_by (compare_off X e f).value
