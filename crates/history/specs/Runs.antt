-- Runs: calls one after another, from a book on.
-- Assumes nothing.
--   run Z b cs       the turns of the calls cs, from the book b on
--   left Z b cs      the book that they leave
--   round_run b ts   the turns ts, from the book b on, with every phase come round
--   numbers ts       the numbers that the turns ts answer
use Rattle.std.specs.Prelude.{List, [], ◌∷◌, map, ℕ}
use Rattle.ring.specs.Phases.{Phases}
use Rattle.rules.specs.Setups.{Setup}
use Rattle.rules.specs.Calls.{Book, Call, Turn, call}
use Rattle.history.specs.Round.{round_turn}

unfoldable pub run : (Setup → Phases) → Book → List Call → List Turn
run Z b [] = []
run Z b (c ∷ cs) = call Z b c ∷ run Z (call Z b c).book cs

unfoldable pub left : (Setup → Phases) → Book → List Call → Book
left Z b [] = b
left Z b (c ∷ cs) = left Z (call Z b c).book cs

unfoldable pub round_run : Book → List Turn → List Turn
round_run b [] = []
round_run b (t ∷ ts) = round_turn b t ∷ round_run t.book ts

abbrev pub numbers : List Turn → List ℕ
numbers ts = map (λ (t : Turn). t.answer.number) ts
