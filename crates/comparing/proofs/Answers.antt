-- The answers to before and compare, as off the book and on it they are given.
-- Assumes nothing.
use mathlib.Core.Path.{◌≡◌, refl}
use mathlib.Core.Bool.{true, false, ◌||◌}
use mathlib.Core.Option.{Option}
use Prim.Native.Nat.{ℕ, zero, suc}
use Rattle.tools.specs.Tests.{pick}
use Rattle.ring.specs.Phases.{Phases}
use Rattle.rules.specs.Setups.{Setup, permits}
use Rattle.rules.specs.declared.Refusal.TheVariants.{OutOfReach}
use Rattle.rules.specs.Numbers.{number}
use Rattle.rules.specs.Model.{Label, Tables, before, compare, Value, by_in, row_in, no_slot, is_out, gap_from}
use Rattle.rules.specs.Model.{telling, settle, ask_reasons, reasons, ask_tells, done, step}
use Rattle.rules.specs.Labels.{reads, owner_in, row_read, gap_read, settle_off, before_off, compare_off}
use Rattle.comparing.specs.Answers.{before_by, compare_by}

-- off the book, of two records that read under a permitted setup
module _ (X : Setup) (e f : Option Label) (fair : permits X ≡ true) (one : reads e ≡ true) (two : reads f ≡ true) where
  pub before_off_lem : before_by (gap_read X e f) (owner_in e) (owner_in f) (row_read e) (row_read f) ≡ before_off X e f
  unfolding before_off
  before_off_lem = rw (before_off, fair, one, two)

  pub compare_off_lem : compare_by (gap_read X e f) (gap_read X f e) (owner_in e) (owner_in f) (row_read e) (row_read f)
      ≡ compare_off X e f
  unfolding compare_off
  compare_off_lem = rw (compare_off, fair, one, two)

-- a call that changes nothing is settled alike on tables and off them
settled : (b : Tables) (v : Value) (n : ℕ) → settle_off n v ≡ (settle n b (telling b v)).answer
settled b v zero = refl
settled b v (suc n) = refl

-- on the book, of two used slots
module _ (Z : Phases) (X : Setup) (b : Tables) (s t : ℕ) (used : (no_slot b s || no_slot b t) ≡ false) where
  pub before_on : before_by (gap_from Z X b s t) (by_in (b.shelf s)) (by_in (b.shelf t)) (row_in (b.shelf s)) (row_in (b.shelf t))
      ≡ (step Z X b (before s t)).answer
  unfolding ask_reasons reasons ask_tells done step
  before_on =
      rw (step, used)
      (settled b (done Z X b (before s t)).answer.value (pick (is_out (gap_from Z X b s t)) (number OutOfReach) 0))

  pub compare_on : compare_by (gap_from Z X b s t) (gap_from Z X b t s) (by_in (b.shelf s)) (by_in (b.shelf t)) (row_in (b.shelf s))
      (row_in (b.shelf t))
      ≡ (step Z X b (compare s t)).answer
  unfolding ask_reasons reasons ask_tells done step
  compare_on =
      rw (step, used)
      (settled b (done Z X b (compare s t)).answer.value
      (pick (is_out (gap_from Z X b s t) || is_out (gap_from Z X b t s)) (number OutOfReach) 0))
