-- Books with their setup, and every call on them, in any arithmetic of phases.
-- Assumes nothing. In words: docs/RULES.md, "Calls".
--   ring_of X     the ring of a setup; line_of X, the line
--   Book          a setup and its tables
--   Call          start, or an act on the book that is there
--   alters c      the call c is start or a change: an event, drop or discard; no question
--   Turn          what a call answers, and the book that it leaves
--   fresh_book X  the book that a start with the setup X writes
--   settled n b t     the turn t where the number n is 0; else the refusal n, and the book b as it was
--   turn_of X r   the turn of an act's result r on a book with the setup X
--   reasons_of Z b c   when which number is given to the call c
--   call Z b c    the turn of the call c on the book b
use Rattle.std.specs.Prelude.{Bool, true, false, not, List, [], ◌∷◌, ℕ}
use Rattle.tools.specs.Reasons.{Reason, first, if_done}
use Rattle.ring.specs.Phases.{Phases, ring, line}
use Rattle.rules.specs.Setups.{Setup, permits}
use Rattle.rules.specs.declared.Refusal.TheVariants.{BadSetup}
use Rattle.rules.specs.Numbers.{given}
use Rattle.rules.specs.Model.{local, reset, send, receive, drop, discard, ask}
use Rattle.rules.specs.Model.{Tables, Act, nothing, Answer, refusal, accepted, Result, fresh, reasons, step}

abbrev pub ring_of : Setup → Phases
ring_of X = ring X.phases

abbrev pub line_of : Setup → Phases
line_of X = line

pub record Book : Type 0 where
  pub setup : Setup
  pub tables : Tables

pub data Call : Type 0 where
  start : Setup → Call
  on : Act → Call

abbrev pub alters : Call → Bool
alters (start X) = true
alters (on (local j q)) = true
alters (on (send j k q)) = true
alters (on (receive j p q)) = true
alters (on (reset j q)) = true
alters (on (drop s)) = true
alters (on (discard p)) = true
alters (on (ask q)) = false

pub record Turn : Type 0 where
  pub answer : Answer
  pub book : Book

abbrev pub fresh_book : Setup → Book
fresh_book X = record { setup = X; tables = fresh }

abbrev pub settled : ℕ → Book → Turn → Turn
settled n b t = if_done n t (record { answer = refusal n; book = b })

abbrev pub turn_of : Setup → Result → Turn
turn_of X r = record { answer = r.answer; book = record { setup = X; tables = r.tables } }

abbrev pub reasons_of : (Setup → Phases) → Book → Call → List Reason
reasons_of Z b (start X) = given BadSetup (not (permits X)) ∷ []
reasons_of Z b (on c) = reasons (Z b.setup) b.setup b.tables c

unfoldable pub call : (Setup → Phases) → Book → Call → Turn
call Z b (start X) =
    settled (first (reasons_of Z b (start X))) b
    (record { answer = accepted nothing; book = fresh_book X })
call Z b (on c) = turn_of b.setup (step (Z b.setup) b.setup b.tables c)
