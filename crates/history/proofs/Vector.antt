-- THE VECTOR RULE, over any calls: each desk's own pairs rise along its events, and a row's entry for a desk is the pair of
-- that desk's last event that is or leads to the row's event, and 0, 0 where there is none. And chains go forward.
-- Assumes nothing.
use mathlib.Core.Path.{◌≡◌}
use mathlib.Core.Bool.{true}
use mathlib.Core.List.{List}
use Prim.Native.Nat.{ℕ, ◌<◌}
use Rattle.rules.specs.Setups.{Setup, permits}
use Rattle.rules.specs.Calls.{Call}
use Rattle.history.specs.History.{State, Leads, begin, after, log_after}
use Rattle.history.specs.Vector.{Rises, Entries}
use Rattle.history.proofs.Causal.{leads_lt, leads_in, rising, entry}
use Rattle.history.proofs.Runs.{Faithful, faithful_run}

pub state_rises : (s : State) → Faithful s → Rises s.history.log
state_rises s w = rising s.book.setup s.history.log w.good.causal

pub state_entries : (s : State) → Faithful s → Entries s.history.log
state_entries s w = entry s.book.setup s.history.log w.good.causal

module _ (X : Setup) (fair : permits X ≡ true) (cs : List Call) where
  -- a chain goes forward, and stays among the events of the log
  pub chains_forward : (e f : ℕ) → Leads (log_after X cs) e f → (e < f) × (f < (log_after X cs).count)
  chains_forward e f l = (leads_lt (log_after X cs) (faithful_run X fair cs).good.causal.caused l, leads_in (log_after X cs) l)

  pub pairs_rise : Rises (log_after X cs)
  pairs_rise = state_rises (after (begin X) cs) (faithful_run X fair cs)

  pub entries : Entries (log_after X cs)
  entries = state_entries (after (begin X) cs) (faithful_run X fair cs)
