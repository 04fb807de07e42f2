-- The vector rule over a log: what a row tells of each desk.
-- Assumes nothing.
--   Upto h e f     the event e is f, or leads to it
--   Earlier p q    the pair p is earlier than q: a smaller phase, or the same phase and a smaller clock
--   Last h f k e   e is the last event of desk k that is f or leads to it, and row f holds its pair
--   Never h f k    no event of desk k is f or leads to it, and row f holds 0, 0 for k
--   Rises h        each desk's own pairs rise along its events
--   Entries h      every entry of every row is that of the desk's last event up to it, 0, 0 where there is none
use Rattle.std.specs.Prelude.{◌≡◌, ◌⊎◌, ℕ, ◌≤◌, ◌<◌}
use Rattle.ring.specs.Phases.{Pair}
use Rattle.rules.specs.Model.{zeros}
use Rattle.history.specs.History.{Log, Leads}

abbrev pub Upto : Log → ℕ → ℕ → Type 0
Upto h e f = (e ≡ f) ⊎ Leads h e f

abbrev pub Earlier : Pair → Pair → Type 0
Earlier p q = (p.phase < q.phase) ⊎ ((p.phase ≡ q.phase) × (p.clock < q.clock))

pub record Last (h : Log) (f k e : ℕ) : Type 0 where
  pub is : e < h.count
  pub at : h.desk e ≡ k
  pub leads : Upto h e f
  pub pair : h.row e k ≡ h.row f k
  pub last : (e' : ℕ) → h.desk e' ≡ k → Upto h e' f → e' ≤ e

pub record Never (h : Log) (f k : ℕ) : Type 0 where
  pub pair : h.row f k ≡ zeros k
  pub never : (e : ℕ) → h.desk e ≡ k → Upto h e f → ⊥

abbrev pub Rises : Log → Type 0
Rises h =
    (e f : ℕ) → e < f → f < h.count → h.desk e ≡ h.desk f → Earlier (h.row e (h.desk e)) (h.row f (h.desk e))

abbrev pub Entries : Log → Type 0
Entries h = (f : ℕ) → f < h.count → (k : ℕ) → Never h f k ⊎ ((e : ℕ) × Last h f k e)
