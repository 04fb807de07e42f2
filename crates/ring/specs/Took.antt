-- What the code of later answers.
-- Assumes nothing.
--   took e o   what is taken where e is held: the pair in o, and then e has changed; e where there is none
use Rattle.std.specs.Prelude.{true, false, Option, Some, None}
use Rattle.ring.specs.Phases.{Pair, Taken}

abbrev pub took : Pair → Option Pair → Taken
took e None = record { pair = e; changed = false }
took e (Some f) = record { pair = f; changed = true }
