-- What all ways from one stamp of a list share, and a table of it for the whole list.
-- Assumes nothing.
--   most_by up r      the largest lag below up + r, 255 where that is larger: no lag is
--   from_of s k       of the stamp in slot k of the bytes s: its owner, the owner's phase, how far its own pair lags and its clock; the
--                     least and the largest lag of another stamp's pair that is within reach
--   Table s l n t     the table t has the first n stamps of the list l
--   Ready s l         the bytes s are sound, and the list l names at most eight slots, all used
--   lag_to s l i k    how far the pair for the desk of the list's i-th stamp lags in its k-th
--   beyond f d        by what the ways from a stamp share, f, the lag d is out of reach from it
--   more_to s l i k   the k-th stamp knows more of the desk of the i-th
use Rattle.std.specs.Prelude.{ℕ, ◌+◌, ◌-◌, ◌<◌, ◌≤◌, ◌≡◌, Bool, true, false, ◌||◌, List, ltb, eqb, length, get_or}
use Rattle.tools.specs.Tests.{pick}
use Rattle.rules.specs.Model.{by_in, no_slot, reach_back, knows_more, chosen}
use Rattle.rules.specs.Calls.{ring_of}
use Rattle.book.specs.Layout.{shelf_from, setup_of, row_at}
use Rattle.book.specs.Sound.{sound}
use Rattle.book.specs.Numbers.{tables_of}
use Rattle.reasons.specs.Held.{lag_in}
use Rattle.pictures.specs.declared.From.{From}

abbrev pub most_by : ℕ → ℕ → ℕ
most_by up r = pick (ltb (up + r) 256) (up + r - 1) 255

unfoldable pub from_of : List ℕ → ℕ → From
from_of s k =
    let j = by_in ((tables_of s).shelf k) in
    let up = lag_in s j (shelf_from + k) in
    let clock = (row_at s (shelf_from + k) j).clock in
    record {
      owner = j;
      own = (row_at s j j).phase;
      up = up;
      clock = clock;
      least = up + 1 - (setup_of s).ahead;
      most = most_by up (reach_back (setup_of s) (eqb clock 0));
    }

pub record Table (s l : List ℕ) (n : ℕ) (t : List From) : Type 0 where
  pub size : length t ≡ 8
  pub at : (i : ℕ) (d : From) → i < n → get_or t i d ≡ from_of s (chosen l i)

pub record Ready (s l : List ℕ) : Type 0 where
  pub whole : sound s ≡ true
  pub few : length l ≤ 8
  pub used : (i : ℕ) → i < length l → no_slot (tables_of s) (chosen l i) ≡ false

abbrev pub lag_to : List ℕ → List ℕ → ℕ → ℕ → ℕ
lag_to s l i k = lag_in s (by_in ((tables_of s).shelf (chosen l i))) (shelf_from + chosen l k)

abbrev pub beyond : From → ℕ → Bool
beyond f d = ltb d f.least || ltb f.most d

abbrev pub more_to : List ℕ → List ℕ → ℕ → ℕ → Bool
more_to s l i k = knows_more (ring_of (setup_of s)) (tables_of s) (chosen l i) (chosen l k)
