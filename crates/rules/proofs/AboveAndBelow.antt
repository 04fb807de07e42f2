-- Above and below each edge, worked by hand: which setups are permitted, which number each refusal is, of how many desks a mail
-- tells, and what pictures show, in literal numbers.
-- Assumes nothing.
--   setup_by         the setup of the numbers D, P, the limits, M, A, m and n; setup, the same with one limit L for all D desks
--   ends, held       not permitted below a range, permitted at both its ends, not permitted above; not permitted, then permitted
--   Edges            each setup number below, at and above its range; each inequality just failed and just held
--   pair v t         the pair v.t; row p q r, the row of three desks with these pairs; seat p q r, the seat of such a row
--   kept p r         a kept stamp of desk 0, with p for desk 0 and r for desk 2
--   X                the setup of the books; empty, a fresh book
--   crowded          a book with no free place and no free slot, where at each desk some row lags as far as it may
--   Numbers b ts     on the book b each call is answered by the number beside it
--   limited_at t u   a book of two desks with the limits 4 and 2, desk 0 at the clock t and desk 1 at u, mail waiting for each
--   letter p q r     mail from desk 1 to desk 0 with these pairs; lettered, a book with one in each of seven places
--   stamp_at v t     a stamp of desk 0 with the pair v.t
--   edges            the setup numbers
--   empty_numbers, crowded_numbers, off_numbers   the answer numbers, on books and off
--   limited_numbers, ticking_numbers   PhaseFull by each desk's own limit
--   learnt_numbers   of how many desks each letter tells
--   taken_by j p q r a kept stamp of desk j with these pairs; shelved, a book with fourteen of them
--   picture_answers, picture_numbers   what lists of its slots are told; by which numbers others are refused
--   other_numbers    the number for bytes that are no book, and the number for lines of the program
use Prim.Native.Nat.{ℕ}
use mathlib.Core.Path.{◌≡◌, refl}
use mathlib.Core.Bool.{Bool, true, false}
use mathlib.Core.Option.{Option, none, some}
use mathlib.Core.List.{List, [], ◌∷◌, map}
use lib.ListN.{replicate}
use Rattle.tools.specs.Tests.{all_of, all_below, within, any, lowest, count}
use Rattle.tools.specs.Tables.{put}
use Rattle.ring.specs.Phases.{Pair, later_by}
use Rattle.rules.specs.Setups.{Setup, permits, in_range, related, limited, limit_ok}
use Rattle.rules.specs.declared.Refusal.TheVariants.{BadBook, BadLine}
use Rattle.rules.specs.Numbers.{number}
use Rattle.rules.specs.Model.{Row, Seat, Held, Label, local, reset, send, receive, drop, discard, before, compare, picture, write}
use Rattle.rules.specs.Model.{says, names, accepted, zeros, idle, reach_back, pictured, ask_reasons, reasons, ask_tells, done, step}
use Rattle.rules.specs.Calls.{Book, Call, start, on, fresh_book, ring_of, call}
use Rattle.rules.specs.Labels.{before_off, compare_off}

abbrev setup_by : ℕ → ℕ → List ℕ → ℕ → ℕ → ℕ → ℕ → Setup
setup_by D P ls M A m n =
    record { desks = D; phases = P; limits = ls; seat_lag = M; shelf_lag = A; back = m; ahead = n }

abbrev setup : ℕ → ℕ → ℕ → ℕ → ℕ → ℕ → ℕ → Setup
setup D P L M A m n = setup_by D P (replicate D L) M A m n

abbrev ends : List Bool
ends = false ∷ true ∷ true ∷ false ∷ []

abbrev held : List Bool
held = false ∷ true ∷ []

pub record Edges : Type 0 where
  pub D : map (λ D. permits (setup D 20 10 4 8 5 5)) (1 ∷ 2 ∷ 8 ∷ 9 ∷ []) ≡ ends
  pub P : map (λ P. permits (setup 3 P 10 1 1 1 1)) (2 ∷ 3 ∷ 256 ∷ 257 ∷ []) ≡ ends
  pub P_none : permits (setup 3 0 10 1 1 1 1) ≡ false
  pub L : map (λ L. permits (setup 3 20 L 4 8 5 5)) (1 ∷ 2 ∷ 255 ∷ 256 ∷ []) ≡ ends
  pub L_first : map (λ L. permits (setup_by 3 20 (L ∷ 4 ∷ 200 ∷ []) 4 8 5 5)) (1 ∷ 2 ∷ 255 ∷ 256 ∷ []) ≡ ends
  pub L_last : map (λ L. permits (setup_by 3 20 (200 ∷ 4 ∷ L ∷ []) 4 8 5 5)) (1 ∷ 2 ∷ 255 ∷ 256 ∷ []) ≡ ends
  pub M : map (λ M. permits (setup 3 255 10 M 200 5 5)) (0 ∷ 1 ∷ 127 ∷ 128 ∷ []) ≡ ends
  pub A : map (λ A. permits (setup 3 256 10 1 A 5 5)) (0 ∷ 1 ∷ 255 ∷ 256 ∷ []) ≡ ends
  pub m : map (λ m. permits (setup 3 255 10 4 8 m 5)) (0 ∷ 1 ∷ 127 ∷ 128 ∷ []) ≡ ends
  pub n : map (λ n. permits (setup 3 255 10 4 8 5 n)) (0 ∷ 1 ∷ 127 ∷ 128 ∷ []) ≡ ends
  -- a limit for each desk, and no other
  pub count : map (λ ls. permits (setup_by 3 20 ls 4 8 5 5)) ((4 ∷ 2 ∷ []) ∷ (4 ∷ 2 ∷ 9 ∷ []) ∷ (4 ∷ 2 ∷ 9 ∷ 9 ∷ []) ∷ [])
      ≡ (false ∷ true ∷ false ∷ [])
  -- A >= M, P >= 2M+1, P >= A+1, P >= m+n
  pub A_M : map (λ A. permits (setup 3 255 10 50 A 5 5)) (49 ∷ 50 ∷ []) ≡ held
  pub P_M : map (λ P. permits (setup 3 P 10 50 60 5 5)) (100 ∷ 101 ∷ []) ≡ held
  pub P_A : map (λ P. permits (setup 3 P 10 4 70 5 5)) (70 ∷ 71 ∷ []) ≡ held
  pub P_mn : map (λ P. permits (setup 3 P 10 4 8 30 50)) (79 ∷ 80 ∷ []) ≡ held
  -- and that on the smallest ring, with the longest reach, and where A asks for the full ring
  pub least : map (λ m. permits (setup 3 3 10 1 1 m 2)) (2 ∷ 1 ∷ []) ≡ held
  pub most : map (λ P. permits (setup 3 P 10 4 8 127 127)) (253 ∷ 254 ∷ []) ≡ held
  pub full : map (λ P. permits (setup 3 P 10 127 255 127 127)) (255 ∷ 256 ∷ []) ≡ held

pub edges : Edges
unfolding permits in_range related limited limit_ok all_of all_below within
edges =
    record {
      D = refl;
      P = refl;
      P_none = refl;
      L = refl;
      L_first = refl;
      L_last = refl;
      M = refl;
      A = refl;
      m = refl;
      n = refl;
      count = refl;
      A_M = refl;
      P_M = refl;
      P_A = refl;
      P_mn = refl;
      least = refl;
      most = refl;
      full = refl;
    }

abbrev pair : ℕ → ℕ → Pair
pair v t = record { phase = v; clock = t }

abbrev row : Pair → Pair → Pair → Row
row p q r = put (put (put zeros 0 p) 1 q) 2 r

abbrev X : Setup
X = setup 3 5 4 2 4 2 2

abbrev empty : Book
empty = fresh_book X

abbrev seat : Pair → Pair → Pair → Seat
seat p q r = record { started = true; row = row p q r }

abbrev kept : Pair → Pair → Option Held
kept p r = some record { by = 0; to = 0; row = row p (pair 3 0) r }

-- at desk 0 the seat of desk 1 lags 2, at desk 1 the mail lags 4, at desk 2 slot 0 lags 4; slots 2 and 3 hold resets of desk 0, slots 1
-- and 2 its phase 4, slots 0 and 3 its phase 2, slot 4 its phase 1
abbrev crowded : Book
crowded =
    record {
      setup = X;
      tables = record {
        seat = put (put (put (λ j. idle) 0 (seat (pair 4 1) (pair 3 0) (pair 4 0)))
            1 (seat (pair 2 0) (pair 4 3) (pair 4 0))) 2 (seat (pair 3 0) (pair 3 0) (pair 4 0));
        mail = λ p. some record { by = 0; to = 1; row = row (pair 3 1) (pair 0 0) (pair 2 0) };
        shelf = put (put (put (put (λ s. kept (pair 4 1) (pair 4 0)) 0 (kept (pair 2 1) (pair 0 0))) 2 (kept (pair 4 0) (pair 4 0)))
            3 (kept (pair 2 0) (pair 4 0))) 4 (kept (pair 1 1) (pair 4 0));
      };
    }

abbrev Numbers : Book → List (Call × ℕ) → Type 0
Numbers b ts =
    map (λ (t : Call × ℕ). (call ring_of b t.0).answer.number) ts ≡ map (λ (t : Call × ℕ). t.1) ts

pub empty_numbers : Numbers empty
    ((start X, 0)
    ∷ (start (setup 1 5 4 2 4 2 2), 2)
    ∷ (on (local 2 true), 0)
    ∷ (on (local 3 true), 3)
    ∷ (on (send 3 3 false), 3)
    ∷ (on (send 0 0 false), 4)
    ∷ (on (receive 0 0 true), 5)
    ∷ (on (reset 2 true), 0)
    ∷ (on (discard 0), 5)
    ∷ (on (drop 0), 5)
    ∷ (on (write 0 19), 5)
    ∷ [])
unfolding call step ask_reasons reasons done permits in_range related limited limit_ok all_of all_below within any lowest
empty_numbers = refl

pub crowded_numbers : Numbers crowded
    ((on (drop 32), 5)
    ∷ (on (drop 31), 0)
    ∷ (on (discard 32), 5)
    ∷ (on (discard 31), 0)
    ∷ (on (receive 1 32 true), 5)
    ∷ (on (receive 2 31 true), 6)
    ∷ (on (receive 1 31 true), 8)
    ∷ (on (local 1 true), 8)
    ∷ (on (send 0 1 true), 9)
    ∷ (on (send 0 1 false), 9)
    ∷ (on (local 0 true), 10)
    ∷ (on (local 0 false), 0)
    ∷ (on (reset 0 true), 10)
    ∷ (on (reset 0 false), 11)
    ∷ (on (reset 1 false), 12)
    ∷ (on (reset 2 false), 13)
    ∷ (on (write 0 19), 15)
    ∷ (on (write 0 20), 0)
    ∷ (on (before 0 1), 16)
    ∷ (on (before 1 2), 0)
    ∷ (on (before 1 0), 16)
    ∷ (on (before 2 0), 0)
    ∷ (on (before 2 4), 16)
    ∷ (on (before 3 1), 16)
    ∷ (on (compare 2 0), 16)
    ∷ [])
unfolding call step reach_back ask_reasons reasons done permits in_range related limited limit_ok all_of all_below within any lowest
crowded_numbers = refl

abbrev limited_at : ℕ → ℕ → Book
limited_at t u =
    record {
      setup = setup_by 2 5 (4 ∷ 2 ∷ []) 2 4 2 2;
      tables = record {
        seat = put (put (λ j. idle) 0 (seat (pair 0 t) (pair 0 u) (pair 0 0))) 1 (seat (pair 0 t) (pair 0 u) (pair 0 0));
        mail = put (put (λ p. none) 0 (some record { by = 1; to = 0; row = row (pair 0 1) (pair 0 1) (pair 0 0) }))
            1 (some record { by = 0; to = 1; row = row (pair 0 3) (pair 0 0) (pair 0 0) });
        shelf = λ s. none;
      };
    }

-- desk 0 is at clock 3 or 2 of four, desk 1 at clock 1 or 0 of two
pub limited_numbers : Numbers (limited_at 3 1)
    ((on (local 0 false), 8) ∷ (on (local 1 false), 8) ∷ (on (send 0 1 false), 8) ∷ (on (send 1 0 false), 8) ∷ (on (receive 0 0 false), 8)
    ∷ (on (receive 1 1 false), 8) ∷ [])
unfolding call step ask_reasons reasons done permits in_range related all_of within any lowest
limited_numbers = refl

pub ticking_numbers : Numbers (limited_at 2 0)
    ((on (local 0 false), 0) ∷ (on (local 1 false), 0) ∷ (on (send 0 1 false), 0) ∷ (on (send 1 0 false), 0) ∷ (on (receive 0 0 false), 0)
    ∷ (on (receive 1 1 false), 0) ∷ [])
unfolding call step ask_reasons reasons done permits in_range related all_of within any lowest
ticking_numbers = refl

abbrev letter : Pair → Pair → Pair → Option Held
letter p q r = some record { by = 1; to = 0; row = row p q r }

-- desks 1 and 2 have come round to phase 0, and desk 0 knows their 4.2; of a desk 3, which is none, the last letter tells
abbrev lettered : Book
lettered =
    record {
      setup = X;
      tables = record {
        seat = put (put (put (λ j. idle) 0 (seat (pair 4 1) (pair 4 2) (pair 4 2)))
            1 (seat (pair 4 1) (pair 0 2) (pair 4 0))) 2 (seat (pair 4 1) (pair 4 0) (pair 0 2));
        mail = put (put (put (put (put (put (put (λ p. none) 0 (letter (pair 4 1) (pair 4 2) (pair 4 2)))
            1 (letter (pair 4 3) (pair 4 2) (pair 4 2)))
            2 (letter (pair 4 0) (pair 3 3) (pair 4 1)))
            3 (letter (pair 4 0) (pair 0 0) (pair 4 2)))
            4 (letter (pair 4 0) (pair 4 3) (pair 3 3)))
            5 (letter (pair 4 0) (pair 0 1) (pair 4 3)))
            6 (some record { by = 1; to = 0; row = put (row (pair 4 0) (pair 4 2) (pair 4 2)) 3 (pair 0 1) });
        shelf = λ s. none;
      };
    }

-- the pairs that are held; a later one for desk 0 itself; earlier ones; 0.0 after 4.2; a later and an earlier one; two later ones;
-- one for no desk
pub learnt_numbers : map (λ p. (call ring_of lettered (on (receive 0 p false))).answer.value.learnt) (0 ∷ 1 ∷ 2 ∷ 3 ∷ 4 ∷ 5 ∷ 6 ∷ [])
    ≡ some 0 ∷ some 0 ∷ some 0 ∷ some 1 ∷ some 1 ∷ some 2 ∷ some 0 ∷ []
unfolding call step reasons done later_by lowest count
learnt_numbers = refl

abbrev taken_by : ℕ → Pair → Pair → Pair → Option Held
taken_by j p q r = some record { by = j; to = 0; row = row p q r }

-- desk 0 has come round to phase 0
abbrev shelved : Book
shelved =
    record {
      setup = X;
      tables = record {
        seat = put (put (put (λ j. idle) 0 (seat (pair 0 2) (pair 4 3) (pair 4 0)))
            1 (seat (pair 0 1) (pair 4 3) (pair 4 0))) 2 (seat (pair 0 1) (pair 4 2) (pair 4 3));
        mail = λ p. none;
        shelf = put (put (put (put (put (put (put (put (put (put (put (put (put (put (λ s. none)
            0 (taken_by 0 (pair 4 1) (pair 4 0) (pair 4 0)))
            1 (taken_by 1 (pair 4 1) (pair 4 1) (pair 4 0)))
            2 (taken_by 2 (pair 4 0) (pair 4 0) (pair 4 1)))
            3 (taken_by 0 (pair 0 1) (pair 4 0) (pair 4 0)))
            4 (taken_by 1 (pair 0 1) (pair 4 2) (pair 4 0)))
            5 (taken_by 2 (pair 4 0) (pair 4 2) (pair 4 2)))
            6 (taken_by 2 (pair 0 1) (pair 4 0) (pair 4 2)))
            7 (taken_by 0 (pair 4 1) (pair 4 3) (pair 4 0)))
            8 (taken_by 2 (pair 0 1) (pair 4 2) (pair 4 2)))
            9 (taken_by 0 (pair 2 1) (pair 4 0) (pair 4 0)))
            10 (taken_by 1 (pair 3 0) (pair 4 1) (pair 4 0)))
            11 (taken_by 2 (pair 4 0) (pair 4 0) (pair 1 1)))
            12 (taken_by 1 (pair 2 0) (pair 4 1) (pair 4 0)))
            31 (taken_by 2 (pair 4 0) (pair 4 0) (pair 4 1));
      };
    }

-- desk 1 knows just desk 0's own 4.1; the newest of each; desk 1 knows 0.1 of desk 0, which is later; desk 2 does; both do; desk 2 knows
-- more of desk 1; and of both; desk 0 knows more of desk 1; the last slot
pub picture_answers : map (λ l. (call ring_of shelved (on (picture l))).answer)
    ((0 ∷ 1 ∷ 2 ∷ []) ∷ (3 ∷ 4 ∷ 8 ∷ []) ∷ (0 ∷ 4 ∷ 2 ∷ []) ∷ (0 ∷ 1 ∷ 6 ∷ []) ∷ (0 ∷ 4 ∷ 6 ∷ []) ∷ (0 ∷ 1 ∷ 5 ∷ []) ∷ (0 ∷ 1 ∷ 8 ∷ [])
    ∷ (7 ∷ 1 ∷ 2 ∷ []) ∷ (0 ∷ 1 ∷ 31 ∷ []) ∷ [])
    ≡ map accepted (says true ∷ says true ∷ names 0 1 ∷ names 0 2 ∷ names 0 1 ∷ names 1 2 ∷ names 0 2 ∷ names 0 1 ∷ says true ∷ [])
unfolding call step ask_reasons reasons done ask_tells pictured reach_back later_by any lowest
picture_answers = refl

-- no slot; two; four; slots above 31 and a free one; out of reach from the first to the last alone, from the last alone, at the owner's
-- desk though not at the place's, and of two stamps of one owner; two places exchanged; one slot twice; two stamps of one owner; the
-- place's desk out of reach, though not the owner's
pub picture_numbers : Numbers shelved
    ((on (picture []), 5)
    ∷ (on (picture (0 ∷ 1 ∷ [])), 5)
    ∷ (on (picture (0 ∷ 1 ∷ 2 ∷ 2 ∷ [])), 5)
    ∷ (on (picture (0 ∷ 1 ∷ 32 ∷ [])), 5)
    ∷ (on (picture (256 ∷ 1 ∷ 2 ∷ [])), 5)
    ∷ (on (picture (0 ∷ 1 ∷ 30 ∷ [])), 5)
    ∷ (on (picture (9 ∷ 10 ∷ 2 ∷ [])), 16)
    ∷ (on (picture (0 ∷ 1 ∷ 11 ∷ [])), 16)
    ∷ (on (picture (10 ∷ 9 ∷ 2 ∷ [])), 16)
    ∷ (on (picture (0 ∷ 9 ∷ 2 ∷ [])), 16)
    ∷ (on (picture (1 ∷ 0 ∷ 2 ∷ [])), 18)
    ∷ (on (picture (0 ∷ 0 ∷ 2 ∷ [])), 18)
    ∷ (on (picture (0 ∷ 3 ∷ 2 ∷ [])), 18)
    ∷ (on (picture (12 ∷ 2 ∷ 5 ∷ [])), 18)
    ∷ [])
unfolding call step ask_reasons reasons done ask_tells pictured reach_back later_by any lowest
picture_numbers = refl

-- off the book: two stamps; two setups that are not permitted; a record that does not read, first or second; a stamp 2 phases ahead;
-- from a reset's, one 2 phases back, and one 3 back; from another, a reset's 2 back; a reset's and one 2 back, both ways
abbrev stamp_at : ℕ → ℕ → Option Label
stamp_at v t = some record { owner = 0; row = row (pair v t) (pair 0 0) (pair 0 0) }

pub off_numbers : ((before_off X (stamp_at 0 1) (stamp_at 1 1)).number
    ∷ (before_off (setup 1 5 4 2 4 2 2) none none).number
    ∷ (before_off (setup 3 5 4 2 4 3 3) (stamp_at 0 1) (stamp_at 1 1)).number
    ∷ (before_off X none (stamp_at 0 1)).number
    ∷ (compare_off X (stamp_at 0 1) none).number
    ∷ (before_off X (stamp_at 0 1) (stamp_at 2 1)).number
    ∷ (before_off X (stamp_at 0 0) (stamp_at 3 1)).number
    ∷ (before_off X (stamp_at 0 0) (stamp_at 2 1)).number
    ∷ (before_off X (stamp_at 0 1) (stamp_at 3 0)).number
    ∷ (compare_off X (stamp_at 0 0) (stamp_at 3 1)).number
    ∷ []) ≡ (0 ∷ 2 ∷ 2 ∷ 14 ∷ 14 ∷ 16 ∷ 0 ∷ 16 ∷ 16 ∷ 16 ∷ [])
unfolding permits in_range related limited limit_ok all_of all_below within reach_back before_off compare_off
off_numbers = refl

pub other_numbers : (number BadBook ≡ 1) × (number BadLine ≡ 17)
other_numbers = (refl, refl)
