-- Answers as lines, by hand.
-- Assumes nothing.
--   pair v t       the pair v.t; row, the row of two desks with the pairs 0.2 and 3.1
--   Line a t       in a book of two desks the answer a is the line of the text t
--   AnswerLines    the line of each kind of answer
use Prim.Native.Nat.{ℕ}
use Prim.Native.String.{String}
use mathlib.Core.Path.{◌≡◌, refl}
use mathlib.Core.Bool.{true, false}
use mathlib.Core.Option.{none, some}
use mathlib.Core.List.{[], ◌∷◌, ◌++◌}
use Rattle.tools.specs.Tables.{put}
use Rattle.ring.specs.Phases.{Pair}
use Rattle.rules.specs.declared.Relation.TheVariants.{Concurrent}
use Rattle.rules.specs.declared.Refusal.TheVariants.{SeatBehind, BadSummary}
use Rattle.std.specs.Prelude.{Ok, Err, None, Some}
use Rattle.rules.specs.Replies.{pictured_says, foretold_says}
use Rattle.rules.specs.Model.{Row, zeros, nothing, made, says, relates, Answer, refusal, accepted}
use Rattle.text.specs.Words.{ascii}
use Rattle.replies.specs.Print.{pairs, answer_text}

abbrev pair : ℕ → ℕ → Pair
pair v t = record { phase = v; clock = t }

abbrev row : Row
row = put (put zeros 0 (pair 0 2)) 1 (pair 3 1)

abbrev Line : Answer → String → Type 0
Line a t = answer_text 2 a ≡ ascii t ++ (10 ∷ [])

pub record AnswerLines : Type 0 where
  pub receive : Line (accepted (made none 1 row (some 7) none)) "000 001 000.002 003.001 007"
  pub received : Line (accepted (made none 1 row (some 0) (some 31))) "000 001 000.002 003.001 000 031"
  pub local : Line (accepted (made none 1 row none none)) "000 001 000.002 003.001"
  pub reset : Line (accepted (made none 1 row none (some 31))) "000 001 000.002 003.001 031"
  pub send : Line (accepted (made (some 9) 1 row none (some 31))) "000 009 001 000.002 003.001 031"
  pub yes : Line (accepted (says true)) "000 yes"
  pub no : Line (accepted (says false)) "000 no"
  pub word : Line (accepted (relates Concurrent)) "000 concurrent"
  pub picture : Line (pictured_says (Ok None)) "000 yes"
  pub odds : Line (pictured_says (Ok (Some record { lower = 2; higher = 7 }))) "000 002 007"
  pub may : Line (foretold_says (Ok None)) "000 yes"
  pub may_not : Line (foretold_says (Ok (Some SeatBehind))) "000 011"
  pub may_refused : Line (foretold_says (Err BadSummary)) "021"
  pub start : Line (accepted nothing) "000"
  pub refused : Line (refusal 11) "011"

pub answer_lines : AnswerLines
unfolding pairs
answer_lines =
    record {
      receive = refl;
      received = refl;
      local = refl;
      reset = refl;
      send = refl;
      yes = refl;
      no = refl;
      word = refl;
      picture = refl;
      odds = refl;
      may = refl;
      may_not = refl;
      may_refused = refl;
      start = refl;
      refused = refl;
    }
