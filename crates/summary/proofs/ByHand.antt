-- Summaries worked by hand, and what may is answered by them, in literal numbers and bytes.
-- Assumes nothing.
--   pair v t         the pair v.t; row p q r, the row of three desks with these pairs; seat p q r, the seat of such a row
--   held k p q r     mail of desk 0 to desk k with such a row; where k is 0, its kept stamp
--   setup D          a setup of D desks on a ring of five, with M 2, 2M 4 and A 3: no two bounds are alike
--   X                that of three desks
--   book             a book of theirs: desk 0 has come round to phase 0, desk 1 has not started, desk 2 is in phase 2
--   written          the bytes of its summary
--   abreast          a book whose three desks are in phase 2, where the seat of desk 2 lags 1 at desk 0, and no other lags
--   still            the summary in which nothing lags; but i v, the same with v for its byte i
--   lagging a b d    the summary in which desk 0 lags so far, and no other
--   answers ms       what may is answered at desk 0 by each of the summaries ms
--   foretold ns      the answers that say each of the numbers ns
--   summary_bytes, abreast_bytes, fresh_bytes   the bytes of the summaries of these books and of a fresh one
--   Numbers          what may is answered, case by case: the refusals, the numbers that it says, and their order
--   may_numbers      so it is
--   book_numbers     what it says of each desk by the summary of the book; reset_numbers_lem, how their resets are answered there
use Prim.Native.Nat.{ℕ}
use mathlib.Core.Path.{◌≡◌, refl}
use mathlib.Core.Bool.{true, false}
use mathlib.Core.Option.{Option, none, some}
use mathlib.Core.List.{List, [], ◌∷◌, ◌++◌, map}
use lib.ListN.{take, set, replicate}
use Rattle.tools.specs.Tests.{all_of, all_below, within, any, larger, largest}
use Rattle.tools.specs.Lists.{tab}
use Rattle.tools.specs.Tables.{put}
use Rattle.ring.specs.Phases.{Pair}
use Rattle.rules.specs.Setups.{Setup, permits, in_range, related, limited, limit_ok}
use Rattle.rules.specs.Model.{Row, Seat, Held, reset, foretells, Answer, refusal, accepted, zeros, idle, reasons, done, step}
use Rattle.rules.specs.Calls.{Book, on, fresh_book, ring_of, call}
use Rattle.summary.specs.Summary.{lags_of, lag_byte, summary_byte, summary_with, summary_of}
use Rattle.summary.specs.May.{lags_ok, summary_ok, may_of}

abbrev pair : ℕ → ℕ → Pair
pair v t = record { phase = v; clock = t }

abbrev row : Pair → Pair → Pair → Row
row p q r = put (put (put zeros 0 p) 1 q) 2 r

abbrev seat : Pair → Pair → Pair → Seat
seat p q r = record { started = true; row = row p q r }

abbrev held : ℕ → Pair → Pair → Pair → Option Held
held k p q r = some record { by = 0; to = k; row = row p q r }

abbrev setup : ℕ → Setup
setup D = record { desks = D; phases = 5; limits = replicate D 4; seat_lag = 2; shelf_lag = 3; back = 2; ahead = 2 }

abbrev X : Setup
X = setup 3

-- desk 0's zero is newer than the four in the seat of desk 2; the zeros in the seat of desk 1 lag at desk 2, as those of free places would
abbrev book : Book
book =
    record {
      setup = X;
      tables = record {
        seat = put (put (λ j. idle) 0 (seat (pair 0 1) (pair 0 0) (pair 1 2))) 2 (seat (pair 4 3) (pair 0 0) (pair 2 1));
        mail = put (put (λ p. none) 0 (held 2 (pair 3 1) (pair 0 0) (pair 2 0))) 31 (held 2 (pair 1 2) (pair 0 0) (pair 1 1));
        shelf = put (put (λ s. none) 0 (held 0 (pair 2 0) (pair 0 0) (pair 2 0))) 30 (held 0 (pair 0 0) (pair 0 0) (pair 2 1));
      };
    }

abbrev written : List ℕ
written = 0x53 ∷ 0x55 ∷ 1 ∷ 4 ∷ 3 ∷ 0 ∷ 0 ∷ 0 ∷ 2 ∷ 1 ∷ 0 ∷ 0 ∷ 0 ∷ 0 ∷ 0 ∷ 0 ∷ 0 ∷ 0 ∷ 0 ∷ 0 ∷ 0 ∷ 0 ∷ 0 ∷ 0 ∷ 0 ∷ 0 ∷ []

pub summary_bytes : summary_of ring_of book ≡ written
unfolding summary_with tab summary_byte lag_byte lags_of largest larger
summary_bytes = refl

abbrev abreast : Book
abreast =
    record {
      setup = X;
      tables = record {
        seat = put (put (put (λ j. idle) 0 (seat (pair 2 0) (pair 2 0) (pair 2 0))) 1 (seat (pair 2 0) (pair 2 0) (pair 2 0)))
            2 (seat (pair 1 0) (pair 2 0) (pair 2 0));
        mail = λ p. none;
        shelf = λ s. none;
      };
    }

-- the seats that are no desk's would lag 2 at every desk
pub abreast_bytes : summary_of ring_of abreast ≡ 0x53 ∷ 0x55 ∷ 1 ∷ replicate 23 0
unfolding summary_with tab summary_byte lag_byte lags_of largest larger
abreast_bytes = refl

abbrev still : List ℕ
still = 0x53 ∷ 0x55 ∷ replicate 24 0

pub fresh_bytes : summary_of ring_of (fresh_book X) ≡ still
unfolding summary_with tab summary_byte lag_byte lags_of largest larger
fresh_bytes = refl

abbrev but : ℕ → ℕ → List ℕ
but i v = set still i v

abbrev lagging : ℕ → ℕ → ℕ → List ℕ
lagging a b d = 0x53 ∷ 0x55 ∷ a ∷ b ∷ d ∷ replicate 21 0

abbrev answers : List (List ℕ) → List Answer
answers ms = map (λ m. may_of X m 0) ms

abbrev foretold : List ℕ → List Answer
foretold ns = map (λ n. accepted (foretells n)) ns

pub record Numbers : Type 0 where
  -- one desk and nine are no setup
  pub bad_setup : map (λ D. may_of (setup D) still 0) (1 ∷ 9 ∷ []) ≡ replicate 2 (refusal 2)
  pub few_and_many : map (λ D. may_of (setup D) still 0) (2 ∷ 8 ∷ []) ≡ foretold (0 ∷ 0 ∷ [])
  pub no_desk_lem : map (may_of X still) (3 ∷ 7 ∷ 8 ∷ 256 ∷ []) ≡ replicate 4 (refusal 3)
  pub desk : map (may_of X still) (0 ∷ 1 ∷ 2 ∷ []) ≡ foretold (0 ∷ 0 ∷ 0 ∷ [])
  pub length : answers (take 25 still ∷ (still ++ 0 ∷ []) ∷ [] ∷ []) ≡ replicate 3 (refusal 21)
  pub mark : answers (but 0 0x55 ∷ but 0 0 ∷ but 1 0x53 ∷ but 1 0 ∷ []) ≡ replicate 4 (refusal 21)
  -- one above a bound: at the desk that is asked, at another, at the first and at the last of those that are not there
  pub own_above : answers (but 2 3 ∷ but 3 5 ∷ but 4 4 ∷ []) ≡ replicate 3 (refusal 21)
  pub other_above : answers (but 8 3 ∷ but 9 5 ∷ but 10 4 ∷ []) ≡ replicate 3 (refusal 21)
  pub none_above : answers (but 11 3 ∷ but 12 5 ∷ but 13 4 ∷ []) ≡ replicate 3 (refusal 21)
  pub last_above : answers (but 23 3 ∷ but 24 5 ∷ but 25 4 ∷ []) ≡ replicate 3 (refusal 21)
  -- at its bound a lag of another desk is told of that desk alone
  pub other_at : answers (but 8 2 ∷ but 9 4 ∷ but 10 3 ∷ []) ≡ foretold (0 ∷ 0 ∷ 0 ∷ [])
  pub last_at : answers (but 23 2 ∷ but 24 4 ∷ but 25 3 ∷ []) ≡ foretold (0 ∷ 0 ∷ 0 ∷ [])
  pub desk_2_at : map (λ m. may_of X m 2) (but 8 2 ∷ but 9 4 ∷ but 10 3 ∷ []) ≡ foretold (11 ∷ 12 ∷ 13 ∷ [])
  pub at : answers (lagging 2 0 0 ∷ lagging 0 4 0 ∷ lagging 0 0 3 ∷ []) ≡ foretold (11 ∷ 12 ∷ 13 ∷ [])
  pub below : answers (lagging 1 3 2 ∷ lagging 1 2 2 ∷ []) ≡ foretold (0 ∷ 0 ∷ [])
  pub order : answers (lagging 2 4 3 ∷ lagging 2 4 0 ∷ lagging 2 0 3 ∷ lagging 1 4 3 ∷ []) ≡ foretold (11 ∷ 11 ∷ 11 ∷ 12 ∷ [])
  pub order_refused : (may_of (setup 1) [] 3 ∷ may_of X [] 3 ∷ may_of X [] 2 ∷ []) ≡ (refusal 2 ∷ refusal 3 ∷ refusal 21 ∷ [])

pub may_numbers : Numbers
unfolding may_of summary_ok lags_ok permits in_range related limited limit_ok all_of all_below within
may_numbers =
    record {
      bad_setup = refl;
      few_and_many = refl;
      no_desk_lem = refl;
      desk = refl;
      length = refl;
      mark = refl;
      own_above = refl;
      other_above = refl;
      none_above = refl;
      last_above = refl;
      other_at = refl;
      last_at = refl;
      desk_2_at = refl;
      at = refl;
      below = refl;
      order = refl;
      order_refused = refl;
    }

pub book_numbers : map (may_of X written) (0 ∷ 1 ∷ 2 ∷ 3 ∷ []) ≡ foretold (12 ∷ 0 ∷ 11 ∷ []) ++ refusal 3 ∷ []
unfolding may_of summary_ok lags_ok permits in_range related limited limit_ok all_of all_below within
book_numbers = refl

pub reset_numbers_lem : map (λ j. (call ring_of book (on (reset j false))).answer.number) (0 ∷ 1 ∷ 2 ∷ 3 ∷ []) ≡ 12 ∷ 0 ∷ 11 ∷ 3 ∷ []
unfolding call step reasons done any
reset_numbers_lem = refl
