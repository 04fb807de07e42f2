-- One way of a comparison: from the stamp of an owner to the other stamp.
-- Assumes nothing.
--   Clocked w j e f      the clocks of w are those of the rows e and f at desk j
--   WayOf X g j e f w    w is the way from the row e of desk j to the row f under the setup X, g the difference that is asked for
use Rattle.std.specs.Prelude.{◌≡◌, ℕ}
use Rattle.std.proofs.Math.Option.{Option}
use Rattle.ring.specs.Phases.{Gap}
use Rattle.rules.specs.Setups.{Setup}
use Rattle.rules.specs.Model.{Row, near}
use Rattle.comparing.specs.declared.Way.{Way}

pub record Clocked (w : Way) (j : ℕ) (e f : Row) : Type 0 where
  pub from : w.from ≡ (e j).clock
  pub to : w.to ≡ (f j).clock

pub record WayOf (X : Setup) (g : Option Gap) (j : ℕ) (e f : Row) (w : Way) : Type 0 where
  pub gap : g ≡ near X w.from w.gap
  pub clocks : Clocked w j e f
