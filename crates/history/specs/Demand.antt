-- What demand 3 says of before and compare, over the history of the line.
-- Assumes nothing. In words: docs/RULES.md, "As if phases never came round".
--   InReach X h x y      the true phases of x's desk at x and at y differ by no more than the setup permits: from x on y is at most
--                        n-1 ahead, and at most m-1 back, m where x is a reset
--   BeforeSaid h x y a   a says yes, of the events x and y, exactly when a chain leads from x to y
--   BeforeIs X h x y a   a is the answer to before, of the stamps of the events x and y
--   Stands h x y r       the event x stands to the event y as r says
--   CompareSaid h x y a  a says how x stands to y
--   CompareIs X h x y a  a is the answer to compare
--   Newer h x y w        w is the one of the two that is after the other; the first if they are the same event
use Rattle.std.specs.Prelude.{◌≡◌, Bool, true, ◌⊎◌, ◌↔◌, ℕ, ◌+◌, ◌<◌}
use Rattle.rules.specs.Setups.{Setup}
use Rattle.rules.specs.declared.Relation.{Relation}
use Rattle.rules.specs.declared.Relation.TheVariants.{Before, After, Same, Concurrent, Crossed}
use Rattle.rules.specs.Model.{says, relates, Answer, reach_back}
use Rattle.rules.specs.Labels.{Which, First, Second, Neither}
use Rattle.history.specs.History.{is_reset, Log, Leads}

abbrev pub InReach : Setup → Log → ℕ → ℕ → Type 0
InReach X h x y =
    ((h.row y (h.desk x)).phase < (h.row x (h.desk x)).phase + X.ahead)
    × ((h.row x (h.desk x)).phase < (h.row y (h.desk x)).phase + reach_back X (is_reset (h.kind x)))

abbrev pub BeforeSaid : Log → ℕ → ℕ → Answer → Type 0
BeforeSaid h x y a = (t : Bool) × (a.number ≡ 0) × (a.value ≡ says t) × ((t ≡ true) ↔ Leads h x y)

pub record BeforeIs (X : Setup) (h : Log) (x y : ℕ) (a : Answer) : Type 0 where
  pub out : (a.number ≡ 16) ↔ (InReach X h x y → ⊥)
  pub said : InReach X h x y → BeforeSaid h x y a

abbrev pub Stands : Log → ℕ → ℕ → Relation → Type 0
Stands h x y Before = Leads h x y
Stands h x y After = Leads h y x
Stands h x y Same = x ≡ y
Stands h x y Concurrent = (Leads h x y → ⊥) × (Leads h y x → ⊥) × (x ≡ y → ⊥)
Stands h x y Crossed = ⊥

abbrev pub CompareSaid : Log → ℕ → ℕ → Answer → Type 0
CompareSaid h x y a = (r : Relation) × (a.number ≡ 0) × (a.value ≡ relates r) × Stands h x y r

pub record CompareIs (X : Setup) (h : Log) (x y : ℕ) (a : Answer) : Type 0 where
  pub out : (a.number ≡ 16) ↔ (InReach X h x y × InReach X h y x → ⊥)
  pub said : InReach X h x y → InReach X h y x → CompareSaid h x y a

abbrev pub Newer : Log → ℕ → ℕ → Which → Type 0
Newer h x y First = (x ≡ y) ⊎ Leads h y x
Newer h x y Second = Leads h x y
Newer h x y Neither = (Leads h x y → ⊥) × (Leads h y x → ⊥) × (x ≡ y → ⊥)
