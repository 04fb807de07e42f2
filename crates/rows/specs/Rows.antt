-- Rows in the bytes of a book.
-- Assumes nothing.
--   AtDesk s j      the   bytes s are a sound book, which has a seat j
--   Grows s j       besides, j's own clock may grow and still be a byte
--   taken_at s d m k      what is taken for desk k of its pairs in the records d, which is held, and m
--   later_row s d m  the  pairs that are taken, for every desk
--   learns_at s d m k     the pair of another desk k, held in seat d, changes
--   with_pair row j q     the sixteen bytes row with the pair q for desk j
--   grown_row, turned_row, merged_row   the row of desk j after local and send; reset; receive from the mail place p
--   learnt_from s j p     of how many desks desk j learns from the mail place p
use Rattle.std.specs.Prelude.{ℕ, ◌+◌, ◌<◌, ◌≡◌, Bool, true, not, ◌&&◌, List, eqb, length, set}
use Rattle.ring.specs.Phases.{Pair, Taken, later}
use Rattle.rules.specs.Model.{Row, row_in, grown, turned, merged, learnt}
use Rattle.rules.specs.Calls.{ring_of}
use Rattle.book.specs.Layout.{book_size, phase_spot, clock_spot, seats, setup_of, row_at}
use Rattle.book.specs.Sound.{sound}
use Rattle.book.specs.Numbers.{tables_of}

pub record AtDesk (s : List ℕ) (j : ℕ) : Type 0 where
  pub whole : sound s ≡ true
  pub size : length s ≡ book_size
  pub eight : j < seats

pub record Grows (s : List ℕ) (j : ℕ) : Type 0 where
  pub at : AtDesk s j
  pub clock : (row_at s j j).clock + 1 < 256

abbrev pub taken_at : List ℕ → ℕ → ℕ → ℕ → Taken
taken_at s d m k = later (ring_of (setup_of s)) (row_at s k k).phase (row_at s d k) (row_at s m k)

abbrev pub later_row : List ℕ → ℕ → ℕ → Row
later_row s d m k = (taken_at s d m k).pair

abbrev pub learns_at : List ℕ → ℕ → ℕ → ℕ → Bool
learns_at s d m k = not (eqb k d) && (taken_at s d m k).changed

abbrev pub with_pair : List ℕ → ℕ → Pair → List ℕ
with_pair row j q = set (set row (phase_spot j) q.phase) (clock_spot j) q.clock

abbrev pub grown_row : List ℕ → ℕ → Row
grown_row s j = grown (tables_of s) j

abbrev pub turned_row : List ℕ → ℕ → Row
turned_row s j = turned (ring_of (setup_of s)) (tables_of s) j

abbrev pub merged_row : List ℕ → ℕ → ℕ → Row
merged_row s j p = merged (ring_of (setup_of s)) (tables_of s) j (row_in ((tables_of s).mail p))

abbrev pub learnt_from : List ℕ → ℕ → ℕ → ℕ
learnt_from s j p = learnt (ring_of (setup_of s)) (setup_of s) (tables_of s) j (row_in ((tables_of s).mail p))
