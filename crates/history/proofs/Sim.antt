-- The ring and the line: every call on a book whose phases have come round answers as on the line, by the same number.
-- Assumes nothing.
use mathlib.Core.Path.{◌≡◌}
use mathlib.Core.Bool.{false}
use mathlib.Core.Option.{Option, none, some}
use Prim.Native.Nat.{ℕ, ◌*◌, ◌≤◌, ◌<◌}
use native.Mathlib.Omega.{arith}
use native.Mathlib.Nat.{zero-mod}
use Rattle.ring.specs.Phases.{ring, line}
use Rattle.rules.proofs.Setups.{Permitted}
use Rattle.rules.specs.Setups.{Setup}
use Rattle.rules.specs.Model.{Held, Tables, Act, step, row_in, fresh}
use Rattle.history.specs.Round.{modulo, round_tables, round_result}
use Rattle.tools.specs.Tables.{Each}
use Rattle.ring.proofs.Ring.{ring_lag, ring_next}
use Rattle.rules.specs.Model.{phases}
use Rattle.history.specs.Lags.{Past}
use Rattle.history.proofs.Bounded.{Near, NearAt, Bounded}
use Rattle.history.proofs.Map.{Agrees, Keeps, KeepsAll, step_map}

pub ring_agrees : (X : Setup) → Permitted X → (b : Tables) → Bounded X b → Agrees (ring X.phases) line (modulo X.phases) X b
ring_agrees X ok b w =
    let h = ok.mailed in
    let h' = ok.shelved in
    record {
      nexts = λ k v. ring_next X.phases v;
      seats = λ s k l. lag_of_lem k X.seat_lag ((b.seat s).row k).phase (omega arith) (w.past.seats s k) (w.near.seats s l k);
      mail = λ p. held p (2 * X.seat_lag) (omega arith) (b.mail p) (w.past.mail p) (w.near.mail p);
      shelf = λ s. held s X.shelf_lag (omega arith) (b.shelf s) (w.past.shelf s) (w.near.shelf s);
    }
  where
    lag_of_lem : (k B v : ℕ) → B < X.phases → v ≤ phases b k → Near (phases b k) B v
        → Keeps (ring X.phases) line (modulo X.phases) b k v
    lag_of_lem k B v h l n = ring_lag X.phases (phases b k) v l (omega arith)

    held : (p B : ℕ) → B < X.phases → (o : Option Held) → Past b (row_in o) → Each (NearAt (phases b) B p) o
        → Each (KeepsAll (ring X.phases) line (modulo X.phases) b) o
    held p B h none l n = tt
    held p B h (some m) l n = λ k. lag_of_lem k B (m.row k).phase h (l k) (n.1 k)

pub step_ring : (X : Setup) → Permitted X → (b : Tables) → Bounded X b → (c : Act)
    → step (ring X.phases) X (round_tables X.phases b) c ≡ round_result X.phases (step line X b c)
step_ring X ok b w c = step_map (ring X.phases) line (modulo X.phases) X b (ring_agrees X ok b w) c

pub fresh_round : (P : ℕ) → round_tables P fresh ≡ fresh
fresh_round P =
    λ i. record {
      seat = λ j. record { started = false; row = λ k. record { phase = zero-mod P i; clock = 0 } };
      mail = λ p. none;
      shelf = λ s. none;
    }
