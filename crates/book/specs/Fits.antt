-- Tables that a sound book can hold: what is asked of the numbers in seats, mail places and slots.
-- Assumes nothing.
--   InRange X o B k q   the pair q for desk k is in range and lags at most B behind o
--   PairFits X o B k q  the pair q for desk k is in range and lags at most B behind o, or zero where there is no desk k
--   RowFits X o B r     every pair of the row r fits, o the own phase of each desk
--   MailFits X o p w    the mail w may wait in place p: from one desk to another, its row lagging at most 2M
--   SlotFits X o s w    the stamp w may be kept in slot s: of a desk, its row lagging at most A
--   FitsAt X o b        the tables b fit, o the own phase of each desk
--   Fits X b            the tables b fit
use Rattle.std.specs.Prelude.{ℕ, ◌*◌, ◌≤◌, ◌<◌, ◌≡◌, false}
use Rattle.tools.specs.Tables.{Each}
use Rattle.ring.specs.Phases.{Pair, lag_of}
use Rattle.rules.specs.Setups.{Setup, limit}
use Rattle.rules.specs.Model.{places, Row, Held, Tables, phases, zeros, idle}

pub record InRange (X : Setup) (o B k : ℕ) (q : Pair) : Type 0 where
  pub phase : q.phase < X.phases
  pub clock : q.clock < limit X k
  pub lag : lag_of X.phases o q.phase ≤ B

abbrev pub PairFits : Setup → ℕ → ℕ → ℕ → Pair → Type 0
PairFits X o B k q = (k < X.desks → InRange X o B k q) × (X.desks ≤ k → q ≡ zeros k)

abbrev pub RowFits : Setup → (ℕ → ℕ) → ℕ → Row → Type 0
RowFits X o B r = (k : ℕ) → PairFits X (o k) B k (r k)

-- waiting mail names two different desks
pub record MailFits (X : Setup) (o : ℕ → ℕ) (p : ℕ) (w : Held) : Type 0 where
  pub place : p < places
  pub by : w.by < X.desks
  pub to : w.to < X.desks
  pub differ : w.by ≡ w.to → ⊥
  pub row : RowFits X o (2 * X.seat_lag) w.row

pub record SlotFits (X : Setup) (o : ℕ → ℕ) (s : ℕ) (w : Held) : Type 0 where
  pub place : s < places
  pub by : w.by < X.desks
  pub to : w.to ≡ 0
  pub row : RowFits X o X.shelf_lag w.row

pub record FitsAt (X : Setup) (o : ℕ → ℕ) (b : Tables) : Type 0 where
  pub seats : (j : ℕ) → j < X.desks → RowFits X o X.seat_lag (b.seat j).row
  pub unstarted : (j : ℕ) → (b.seat j).started ≡ false → (b.seat j).row ≡ zeros
  pub beyond : (j : ℕ) → X.desks ≤ j → b.seat j ≡ idle
  pub mail : (p : ℕ) → Each (MailFits X o p) (b.mail p)
  pub shelf : (s : ℕ) → Each (SlotFits X o s) (b.shelf s)

abbrev pub Fits : Setup → Tables → Type 0
Fits X b = FitsAt X (phases b) b
