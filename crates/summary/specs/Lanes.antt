-- Sixteen bytes with a number for each desk, where a row has its phase: so the lags of a whole row are taken at once. What stands
-- between them tells nothing.
-- Assumes nothing.
--   Lanes n f l       the sixteen bytes l have f j at the place of the phase of each desk j below n
--   own_phase_at s j  the own phase of desk j in the bytes s
--   seats_most s j    the largest lag of desk j's entry in the seats of all desks of the bytes s
--   place_lag s a j p how far desk j's entry lags in the p-th of the places or slots from record a on; 0 where it is free
--   held_most s a j   the largest lag of desk j's entry in the 32 places or slots from record a on
--   Both s l          l has these lanes twice: those of the mail, then those of the shelf
--   lags_by m h k     the lags of each desk: in seats by the lanes m, in mail by the lanes h, in slots by the lanes k
use Rattle.std.specs.Prelude.{ℕ, ◌+◌, ◌*◌, ◌<◌, ◌≡◌, List, length}
use Rattle.tools.specs.Tests.{largest}
use Rattle.tools.specs.Lists.{byte}
use Rattle.rules.specs.Calls.{ring_of}
use Rattle.book.specs.Layout.{row_size, phase_spot, seats, places, mail_from, setup_of, row_at}
use Rattle.book.specs.Numbers.{tables_of}
use Rattle.reasons.specs.Held.{held_at, lag_in}
use Rattle.summary.specs.Summary.{Lags, held_lag}

pub record Lanes (n : ℕ) (f : ℕ → ℕ) (l : List ℕ) : Type 0 where
  pub size : length l ≡ row_size
  pub at : (j : ℕ) → j < n → byte l (phase_spot j) ≡ f j

abbrev pub own_phase_at : List ℕ → ℕ → ℕ
own_phase_at s j = (row_at s j j).phase

abbrev pub seats_most : List ℕ → ℕ → ℕ
seats_most s j = largest (setup_of s).desks (lag_in s j)

abbrev pub place_lag : List ℕ → ℕ → ℕ → ℕ → ℕ
place_lag s a j p = held_lag (ring_of (setup_of s)) (tables_of s) j (held_at s a p)

abbrev pub held_most : List ℕ → ℕ → ℕ → ℕ
held_most s a j = largest places (place_lag s a j)

pub record Both (s l : List ℕ) : Type 0 where
  pub size : length l ≡ 2 * row_size
  pub at : (q j : ℕ) → q < 2 → j < seats → byte l (row_size * q + phase_spot j) ≡ held_most s (mail_from + places * q) j

abbrev pub lags_by : List ℕ → List ℕ → List ℕ → ℕ → Lags
lags_by m h k j = record { seats = byte m (phase_spot j); mail = byte h (phase_spot j); shelf = byte k (phase_spot j) }
