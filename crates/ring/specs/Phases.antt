-- The arithmetic of phases: on a ring of P, and on a line, where phases never come round.
-- Assumes nothing. In words: docs/RULES.md, "Phases".
--   Pair                a phase and a clock, the code's own struct
--   Lag                 a way to take a lag: of P, the own phase and a phase
--   lag_of P own v      how far the phase v lags behind the phase own, on a ring of P
--   next_of P v         the phase after v, on a ring of P
--   Phases              an arithmetic of phases: a lag and a next
--   ring P, line        the two
--   Gap                 a difference of phases, up minus down, the code's own struct
--   later_by d ce cf    f is later than e, by the difference d from e to f: d above 0, or 0 and the larger clock
--   lag_gap Z own e f   the difference from pair e to pair f of a desk whose own phase is own: lag of e minus lag of f
--   is_later Z own f e  f is later than e: a smaller lag, and at equal lag the larger clock
--   Taken               the pair that is taken of two, and whether the held one changed
--   later Z own e f     what is taken of the held pair e and another, f: f where it is later, and then e has changed; else e
use Rattle.std.specs.Prelude.{ℕ, ◌+◌, ◌-◌, ◌%◌, Bool, ◌&&◌, ◌||◌, ◌==◌, nat_le, nat_lt}
use Rattle.tools.specs.Tests.{pick}
use Rattle.ring.specs.declared.Pair as Paired
use Rattle.ring.specs.declared.Gap as Gapped

abbrev pub Pair : Type 0
Pair = Paired.Pair

abbrev pub Lag : Type 0
Lag = ℕ → ℕ → ℕ → ℕ

-- own phase at least v: subtract; otherwise add P first
abbrev pub lag_of : Lag
lag_of P own v =
    pick (nat_le v own)
    (own - v)
    (own + P - v)

abbrev pub next_of : ℕ → ℕ → ℕ
next_of P v = (v + 1) % P

pub record Phases : Type 0 where
  pub lag : ℕ → ℕ → ℕ
  pub next : ℕ → ℕ

abbrev pub ring : ℕ → Phases
ring P = record { lag = λ own v. lag_of P own v; next = λ v. next_of P v }

abbrev pub line : Phases
line = record { lag = λ own v. own - v; next = λ v. v + 1 }

abbrev pub Gap : Type 0
Gap = Gapped.Gap

unfoldable pub later_by : Gap → ℕ → ℕ → Bool
later_by d ce cf = nat_lt d.down d.up || (d.down == d.up && nat_lt ce cf)

abbrev pub lag_gap : Phases → ℕ → Pair → Pair → Gap
lag_gap Z own e f = record { up = Z.lag own e.phase; down = Z.lag own f.phase }

abbrev pub is_later : Phases → ℕ → Pair → Pair → Bool
is_later Z own f e = later_by (lag_gap Z own e f) e.clock f.clock

pub record Taken : Type 0 where
  pub pair : Pair
  pub changed : Bool

abbrev pub later : Phases → ℕ → Pair → Pair → Taken
later Z own e f = record { pair = pick (is_later Z own f e) f e; changed = is_later Z own f e }
