-- The lag as a remainder, which the handbook's two lines are held against. No call takes it.
-- Assumes nothing. In words: docs/RULES.md, "Phases".
--   remainder_of P own v   own minus v, modulo P
--   remainders P           the ring of P with that lag
use Rattle.std.specs.Prelude.{ℕ, ◌+◌, ◌-◌, ◌%◌}
use Rattle.ring.specs.Phases.{Lag, Phases, next_of}

abbrev pub remainder_of : Lag
remainder_of P own v = (own + P - v) % P

abbrev pub remainders : ℕ → Phases
remainders P = record { lag = λ own v. remainder_of P own v; next = λ v. next_of P v }
