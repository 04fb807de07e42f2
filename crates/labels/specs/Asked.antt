-- What the calls off the book ask of two records, before their answer.
-- Assumes nothing.
--   owner_read o       the owner of the stamp o that a record tells, or the refusal where it tells none
--   Both X a b         the setup X is permitted, and the bytes a and b read as records
--   Between s a b j    the way from the record a of desk j to the record b can be fetched under the numbers s
--   WayRead X a b j w  w is the way from the record a of desk j to the record b
--   Owned X a b j k    the two can be asked: they are of desks j and k
--   Asked X a b q      q is the owners of the two, or the refusal that is due whatever their difference
use Rattle.std.specs.Prelude.{◌≡◌, Bool, true, List, ℕ, Result, Ok, Err, ◌+◌, ◌≤◌, ◌<◌, length}
use Rattle.std.proofs.Math.Option.{Option, none, some}
use Rattle.tools.specs.Lists.{byte}
use Rattle.rules.specs.declared.SetupNumbers.{SetupNumbers}
use Rattle.rules.specs.Setups.{Setup, permits}
use Rattle.rules.specs.declared.Refusal.TheVariants.{BadStamp}
use Rattle.rules.specs.Numbers.{number}
use Rattle.rules.specs.Model.{Label}
use Rattle.rules.specs.Labels.{reads, owner_in, row_read, gap_read, why_off}
use Rattle.book.specs.Layout.{record_size, seats, row_spot, phase_spot}
use Rattle.book.specs.Stamps.{read_stamp}
use Rattle.comparing.specs.declared.Way.{Way}
use Rattle.comparing.specs.Ways.{WayOf}
use Rattle.rules.specs.declared.Refusal.{Refusal}

abbrev pub owner_read : Option Label → Result ℕ Refusal
owner_read none = Err BadStamp
owner_read (some e) = Ok e.owner

pub record Both (X : Setup) (a b : List ℕ) : Type 0 where
  pub fair : permits X ≡ true
  pub one : reads (read_stamp X a) ≡ true
  pub two : reads (read_stamp X b) ≡ true

pub record Between (s : SetupNumbers) (a b : List ℕ) (j : ℕ) : Type 0 where
  pub phases : s.phases ≤ 256
  pub ahead : (1 ≤ s.ahead) × (s.ahead ≤ 255)
  pub one : length a ≡ record_size
  pub two : length b ≡ record_size
  pub desk : j < seats
  pub first : byte a (row_spot + phase_spot j) < s.phases
  pub second : byte b (row_spot + phase_spot j) < s.phases

abbrev pub WayRead : Setup → List ℕ → List ℕ → ℕ → Way → Type 0
WayRead X a b j w =
    WayOf X (gap_read X (read_stamp X a) (read_stamp X b)) j (row_read (read_stamp X a)) (row_read (read_stamp X b)) w

pub record Owned (X : Setup) (a b : List ℕ) (j k : ℕ) : Type 0 where
  pub both : Both X a b
  pub first : owner_in (read_stamp X a) ≡ j
  pub second : owner_in (read_stamp X b) ≡ k

abbrev pub Asked : Setup → List ℕ → List ℕ → Result (ℕ × ℕ) Refusal → Type 0
Asked X a b (Ok o) = Owned X a b o.0 o.1
Asked X a b (Err r) = (out : Bool) → why_off X (read_stamp X a) (read_stamp X b) out ≡ number r
