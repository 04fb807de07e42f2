-- A line of the listing: a verb, then numbers of exactly three digits, with single spaces, and nothing else.
-- Assumes nothing. In words: docs/RULES.md, "Listing".
--   shaped l w n      the line is the word w and n numbers
--   count_after l w   how many numbers a line has after the word w, by its length: four bytes for each
--   Wanted            what a line asks for
--   makes c           that the call c is made on the book
--   asks_may d        whether the desk d may reset, which is asked of a summary and no call on the book
--   Verb              a word, how many numbers it takes, and what is asked for with them
--   wish q c          the call of the event c of a yes or no: 1 is yes, 0 no, any other number makes none
--   events            the verbs of the four events, whose last number says whether to keep the stamp
--   filings           those that free a slot or a place
--   questions         those that ask about two slots, and may, which asks about a desk
--   setup_from ns     the setup that D and P, any number of limits, M, A, m and n make
--   miscounted X      D is from 2 to 8, and there are other than D limits
--   start_of ns       the call of the numbers of a start; none where its limits are miscounted
--   picture_of ns     the call of the slots of a picture
--   lists             the verbs that take any number of numbers: start, whose limits are between six others, and picture
--   verbs             all verbs
--   asks l v          the line asks for the verb v: it is its word, and as many numbers as it takes
--   choose vs l       what the first verb that the line asks for makes of its numbers; none where it asks for none
--   parse_of l        what a line asks for; none for a line over 64 bytes or of any other shape, a BadLine
--   numbers_in l      the numbers of a part of a line that has nothing else
--   wanted_by c       what a command asks for
--   wanted_in o       the same, where there is a command
use Rattle.std.specs.Prelude.{ℕ, ◌+◌, ◌*◌, ◌-◌, ◌/◌, Bool, true, not, ◌&&◌, List, [], ◌∷◌, ◌++◌, eqb, ltb, leb, length, take, drop, Some, None}
use Rattle.std.specs.Prelude as Std
use Rattle.std.proofs.Math.Option.{Option, none, some}
use Rattle.tools.specs.Tests.{pick, all_of, all_below, within}
use Rattle.tools.specs.Lists.{byte}
use Rattle.text.specs.Words.{ascii, opens}
use Rattle.text.specs.Digits.{is_number, numbers_at}
use Rattle.rules.specs.Setups.{Setup, setup_with}
use Rattle.rules.specs.Model as Model
use Rattle.rules.specs.Model.{Act}
use Rattle.rules.specs.Calls.{Call, start, on}
use Rattle.commands.specs.declared.Command.{Command}
use Rattle.commands.specs.declared.Command.TheVariants.{
  Start,
  Local,
  Send,
  Receive,
  Reset,
  Drop,
  Discard,
  Before,
  Compare,
  May,
  Picture,
}

unfoldable pub shaped : List ℕ → List ℕ → ℕ → Bool
shaped l w n =
    all_of (eqb (length l) (length w + 4 * n) ∷ opens l w ∷ all_below n (λ i. is_number l (length w + 4 * i)) ∷ [])

abbrev pub count_after : List ℕ → List ℕ → ℕ
count_after l w = (length l - length w) / 4

pub data Wanted : Type 0 where
  makes : Call → Wanted
  asks_may : ℕ → Wanted

pub record Verb : Type 0 where
  pub word : List ℕ
  pub takes : ℕ → Bool
  pub made : List ℕ → Option Wanted

abbrev pub wish : ℕ → (Bool → Act) → Option Wanted
wish q c = pick (ltb 1 q) none (some (makes (on (c (eqb q 1)))))

abbrev pub events : List Verb
events =
    (record { word = ascii "local"; takes = eqb 2; made = λ ns. wish (byte ns 1) (Model.local (byte ns 0)) })
    ∷ (record { word = ascii "send"; takes = eqb 3; made = λ ns. wish (byte ns 2) (Model.send (byte ns 0) (byte ns 1)) })
    ∷ (record { word = ascii "receive"; takes = eqb 3; made = λ ns. wish (byte ns 2) (Model.receive (byte ns 0) (byte ns 1)) })
    ∷ (record { word = ascii "reset"; takes = eqb 2; made = λ ns. wish (byte ns 1) (Model.reset (byte ns 0)) })
    ∷ []

abbrev pub filings : List Verb
filings =
    (record { word = ascii "drop"; takes = eqb 1; made = λ ns. some (makes (on (Model.drop (byte ns 0)))) })
    ∷ (record { word = ascii "discard"; takes = eqb 1; made = λ ns. some (makes (on (Model.discard (byte ns 0)))) })
    ∷ []

abbrev pub questions : List Verb
questions =
    (record { word = ascii "before"; takes = eqb 2; made = λ ns. some (makes (on (Model.before (byte ns 0) (byte ns 1)))) })
    ∷ (record { word = ascii "compare"; takes = eqb 2; made = λ ns. some (makes (on (Model.compare (byte ns 0) (byte ns 1)))) })
    ∷ (record { word = ascii "may"; takes = eqb 1; made = λ ns. some (asks_may (byte ns 0)) })
    ∷ []

unfoldable pub setup_from : List ℕ → Setup
setup_from ns =
    let last = drop (length ns - 4) ns in
    record {
      desks = byte ns 0;
      phases = byte ns 1;
      limits = take (length ns - 6) (drop 2 ns);
      seat_lag = byte last 0;
      shelf_lag = byte last 1;
      back = byte last 2;
      ahead = byte last 3;
    }

unfoldable pub miscounted : Setup → Bool
miscounted X = within 2 8 X.desks && not (eqb (length X.limits) X.desks)

-- any other fault of a setup is judged by the call
unfoldable pub start_of : List ℕ → Option Wanted
start_of ns = pick (miscounted (setup_from ns)) none (some (makes (start (setup_from ns))))

-- whether the slots are as many as the book asks for is judged by the call
abbrev pub picture_of : List ℕ → Option Wanted
picture_of ns = some (makes (on (Model.picture ns)))

abbrev pub lists : List Verb
lists =
    (record { word = ascii "start"; takes = leb 6; made = start_of })
    ∷ (record { word = ascii "picture"; takes = λ n. true; made = picture_of })
    ∷ []

unfoldable pub verbs : List Verb
verbs = events ++ filings ++ questions ++ lists

unfoldable pub asks : List ℕ → Verb → Bool
asks l v = v.takes (count_after l v.word) && shaped l v.word (count_after l v.word)

unfoldable pub choose : List Verb → List ℕ → Option Wanted
choose [] l = none
choose (v ∷ vs) l =
    pick (asks l v) (v.made (numbers_at l (length v.word) (count_after l v.word))) (choose vs l)

unfoldable pub parse_of : List ℕ → Option Wanted
parse_of l = pick (leb (length l) 64) (choose verbs l) none

abbrev pub numbers_in : List ℕ → List ℕ
numbers_in l = numbers_at l 0 (length l / 4)

abbrev pub wanted_by : Command → Wanted
wanted_by (Start s l) = makes (start (setup_with s (numbers_in l.text.now)))
wanted_by (Local d q) = makes (on (Model.local d q))
wanted_by (Send d k q) = makes (on (Model.send d k q))
wanted_by (Receive d p q) = makes (on (Model.receive d p q))
wanted_by (Reset d q) = makes (on (Model.reset d q))
wanted_by (Drop s) = makes (on (Model.drop s))
wanted_by (Discard p) = makes (on (Model.discard p))
wanted_by (Before s t) = makes (on (Model.before s t))
wanted_by (Compare s t) = makes (on (Model.compare s t))
wanted_by (May d) = asks_may d
wanted_by (Picture l) = makes (on (Model.picture (numbers_in l.text.now)))

abbrev pub wanted_in : Std.Option Command → Option Wanted
wanted_in None = none
wanted_in (Some c) = some (wanted_by c)
