-- A map of phases, desk by desk, in rows, tables and answers; the coming round is one.
-- Assumes nothing. In words: docs/RULES.md, "As if phases never came round".
--   φ k v                 what the phase v of desk k becomes
--   map_pair, map_row, map_seat, map_held, map_tables   a pair, a row, a seat, what is held, the tables, with every phase mapped
--   map_stamp, map_shown, map_value, map_answer, map_result   a stamp or a row in a value, a value, an answer, a result, likewise
--   modulo P              the map that is the coming round on a ring of P
--   round_row, round_tables, round_result, round_answer   the same with phases come round on a ring of P
--   round_book b          the book b come round on the ring of its setup
--   round_turn b t        the turn t of a call on the book b, come round
use Rattle.std.specs.Prelude.{ℕ, ◌%◌}
use Rattle.std.proofs.Math.Option.{Option, none, some}
use Rattle.ring.specs.Phases.{Pair}
use Rattle.rules.specs.Model.{Row, Seat, Held, Tables, Label, Value, Answer, Result}
use Rattle.rules.specs.Calls.{Book, Turn}

abbrev pub map_pair : (ℕ → ℕ) → Pair → Pair
map_pair φ q = record { phase = φ q.phase; clock = q.clock }

abbrev pub map_row : (ℕ → ℕ → ℕ) → Row → Row
map_row φ r k = map_pair (φ k) (r k)

abbrev pub map_seat : (ℕ → ℕ → ℕ) → Seat → Seat
map_seat φ s = record { started = s.started; row = map_row φ s.row }

abbrev pub map_held : (ℕ → ℕ → ℕ) → Option Held → Option Held
map_held φ none = none
map_held φ (some w) = some record { by = w.by; to = w.to; row = map_row φ w.row }

abbrev pub map_tables : (ℕ → ℕ → ℕ) → Tables → Tables
map_tables φ b =
    record { seat = λ j. map_seat φ (b.seat j); mail = λ p. map_held φ (b.mail p); shelf = λ s. map_held φ (b.shelf s) }

abbrev pub map_stamp : (ℕ → ℕ → ℕ) → Option Label → Option Label
map_stamp φ none = none
map_stamp φ (some e) = some record { owner = e.owner; row = map_row φ e.row }

abbrev pub map_shown : (ℕ → ℕ → ℕ) → Option Row → Option Row
map_shown φ none = none
map_shown φ (some r) = some (map_row φ r)

abbrev pub map_value : (ℕ → ℕ → ℕ) → Value → Value
map_value φ v =
    record {
      place = v.place;
      stamp = map_stamp φ v.stamp;
      learnt = v.learnt;
      slot = v.slot;
      verdict = v.verdict;
      relation = v.relation;
      odds = v.odds;
      foretold = v.foretold;
      row = map_shown φ v.row;
    }

abbrev pub map_answer : (ℕ → ℕ → ℕ) → Answer → Answer
map_answer φ a = record { number = a.number; value = map_value φ a.value }

abbrev pub map_result : (ℕ → ℕ → ℕ) → Result → Result
map_result φ r = record { answer = map_answer φ r.answer; tables = map_tables φ r.tables }

-- the coming round
abbrev pub modulo : ℕ → ℕ → ℕ → ℕ
modulo P k v = v % P

abbrev pub round_row : ℕ → Row → Row
round_row P = map_row (modulo P)

abbrev pub round_tables : ℕ → Tables → Tables
round_tables P = map_tables (modulo P)

abbrev pub round_result : ℕ → Result → Result
round_result P = map_result (modulo P)

abbrev pub round_answer : ℕ → Answer → Answer
round_answer P = map_answer (modulo P)

abbrev pub round_book : Book → Book
round_book b = record { setup = b.setup; tables = round_tables b.setup.phases b.tables }

-- the ring that the book was on before the call; a start that is accepted answers no phase
abbrev pub round_turn : Book → Turn → Turn
round_turn b t = record { answer = round_answer b.setup.phases t.answer; book = round_book t.book }
