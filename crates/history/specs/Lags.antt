-- What the line's lag is asked of: no phase is ever later than its desk's own one.
-- Assumes nothing.
--   Past b r      in the row r no phase is later than the own phase of its desk, in the tables b
--   NoneAhead b   nor in any seat, any waiting mail or any used slot; of these alone a lag is asked, behind the own phase
--   TrueLag Z     the arithmetic Z counts on by one, and says truly how far a phase lags that is not later than the own one;
--                 of a later one it may say anything, as the line says 0
use Rattle.std.specs.Prelude.{◌≡◌, ℕ, ◌+◌, ◌≤◌}
use Rattle.ring.specs.Phases.{Phases}
use Rattle.rules.specs.Model.{Row, Tables, row_in, phases}

abbrev pub Past : Tables → Row → Type 0
Past b r = (k : ℕ) → (r k).phase ≤ phases b k

pub record NoneAhead (b : Tables) : Type 0 where
  pub seats : (j : ℕ) → Past b (b.seat j).row
  pub mail : (p : ℕ) → Past b (row_in (b.mail p))
  pub shelf : (s : ℕ) → Past b (row_in (b.shelf s))

pub record TrueLag (Z : Phases) : Type 0 where
  pub lag : (own v : ℕ) → v ≤ own → v + Z.lag own v ≡ own
  pub next : (v : ℕ) → Z.next v ≡ v + 1
