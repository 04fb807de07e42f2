-- The contract of resettable vector clocks: over a log, how many resets may lie between two events that are compared; and what a
-- book keeps of the communication pattern.
-- Assumes nothing. In words: docs/RULES.md, "As if phases never came round".
--   reset_at h j e       the event e is a reset of desk j
--   reset_before h j e   the last reset of desk j before the event e; none where there is none
--   found n r            the number r where it is below n, else none
--   reset_after h j e    the first reset of desk j after the event e; none where the log has none
--   onward f o           f of what o holds; none where it holds nothing
--   repeat f n e         n times f, from e on; none where one of them is
--   previous h m e       PR^m of e: the m-th reset strictly before e at its desk; none, the beginning, where there are fewer
--   following h n e      NX^n of e: the n-th reset after e there; none where there are fewer
--   Reached h m n x y    PR^m of x is the beginning, is y or leads to y, and NX^n of x neither is y nor leads to y
--   R h m n x y          the comparison predicate R(m,n): PR^m of x is the beginning or leads to y, and NX^n of x does not lead to y
--   Meets h m n x y      the question from x to y meets the contract: R(m,n), and y is not NX^n of x itself
--   Close X b B r        in the row r every phase lags at most B behind its desk's own, and every clock is below its desk's limit
--   Pattern X b          every row of a desk's seat is close by M, of waiting mail by 2M, of a used slot by A
use Rattle.std.specs.Prelude.{◌≡◌, Bool, ◌&&◌, ℕ, zero, suc, ◌+◌, ◌*◌, ◌≤◌, ◌<◌, ltb, eqb}
use Rattle.std.proofs.Math.Option.{Option, none, some}
use Rattle.tools.specs.Tests.{pick, lowest}
use Rattle.tools.specs.Tables.{Each}
use Rattle.rules.specs.Setups.{Setup, limit}
use Rattle.rules.specs.Model.{Row, Held, Tables, phases}
use Rattle.history.specs.History.{is_reset, Log, Leads}
use Rattle.history.specs.Vector.{Upto}

abbrev pub reset_at : Log → ℕ → ℕ → Bool
reset_at h j e = eqb (h.desk e) j && is_reset (h.kind e)

unfoldable pub reset_before : Log → ℕ → ℕ → Option ℕ
reset_before h j zero = none
reset_before h j (suc e) = pick (reset_at h j e) (some e) (reset_before h j e)

abbrev pub found : ℕ → ℕ → Option ℕ
found n r = pick (ltb r n) (some r) none

unfoldable pub reset_after : Log → ℕ → ℕ → Option ℕ
reset_after h j e = found h.count (lowest h.count (λ r. ltb e r && reset_at h j r))

abbrev pub onward : (ℕ → Option ℕ) → Option ℕ → Option ℕ
onward f none = none
onward f (some e) = f e

unfoldable pub repeat : (ℕ → Option ℕ) → ℕ → ℕ → Option ℕ
repeat f zero e = some e
repeat f (suc n) e = onward f (repeat f n e)

abbrev pub previous : Log → ℕ → ℕ → Option ℕ
previous h m e = repeat (reset_before h (h.desk e)) m e

abbrev pub following : Log → ℕ → ℕ → Option ℕ
following h n e = repeat (reset_after h (h.desk e)) n e

abbrev pub Reached : Log → ℕ → ℕ → ℕ → ℕ → Type 0
Reached h m n x y = Each (λ r. Upto h r y) (previous h m x) × Each (λ r. Upto h r y → ⊥) (following h n x)

abbrev pub R : Log → ℕ → ℕ → ℕ → ℕ → Type 0
R h m n x y = Each (λ r. Leads h r y) (previous h m x) × Each (λ r. Leads h r y → ⊥) (following h n x)

abbrev pub Meets : Log → ℕ → ℕ → ℕ → ℕ → Type 0
Meets h m n x y = R h m n x y × (following h n x ≡ some y → ⊥)

abbrev pub Close : Setup → Tables → ℕ → Row → Type 0
Close X b B r = (k : ℕ) → (phases b k ≤ (r k).phase + B) × (k < X.desks → (r k).clock < limit X k)

pub record Pattern (X : Setup) (b : Tables) : Type 0 where
  pub seats : (j : ℕ) → j < X.desks → Close X b X.seat_lag (b.seat j).row
  pub mail : (p : ℕ) → Each (λ (w : Held). Close X b (2 * X.seat_lag) w.row) (b.mail p)
  pub shelf : (s : ℕ) → Each (λ (w : Held). Close X b X.shelf_lag w.row) (b.shelf s)
