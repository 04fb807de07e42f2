-- THE CONTRACT over any calls from a fresh book on: the reach counts resets, it is R(m,n) but for the two resets that bound it, and
-- of two events that meet it the calls say whether a chain leads from the one to the other, kept or off the book. And what the book
-- keeps of the communication pattern.
-- Assumes nothing.
use mathlib.Core.Path.{◌≡◌, refl, ap, sym, ◌∙◌}
use mathlib.Core.Bool.{true, false≢true}
use mathlib.Core.Option.{Option, none, some}
use mathlib.Core.List.{List}
use mathlib.Core.Logic.{◌↔◌}
use Prim.Native.Nat.{ℕ, ◌*◌, ◌<◌}
use borrow.Author.Tests.{eqb-true, eq-eqb}
use Rattle.tools.specs.Tables.{Each}
use Rattle.rules.specs.Setups.{Setup, permits}
use Rattle.rules.specs.Model.{Held, Tables, Label, before, phases, used}
use Rattle.rules.specs.Calls.{Book, Call, on, fresh_book, ring_of, call}
use Rattle.rules.specs.Labels.{before_off}
use Rattle.history.specs.Round.{modulo, map_held, round_book}
use Rattle.history.specs.History.{Kind, is_reset, Local, Send, Reset, Receive, State, begin, after, log_after, setup_after}
use Rattle.history.specs.Runs.{left}
use Rattle.history.specs.Stamps.{Answered}
use Rattle.history.specs.Demand.{InReach, BeforeSaid}
use Rattle.history.specs.Contract.{previous, following, Reached, R, Meets, Close, Pattern}
use Rattle.history.proofs.Bounded.{NearAt}
use Rattle.history.proofs.Good.{Behind, seat_clock}
use Rattle.history.proofs.Runs.{Faithful, allowed, faithful_run}
use Rattle.history.proofs.Alike.{ring_book}
use Rattle.history.proofs.Shelf.{kept_before}
use Rattle.history.proofs.Stamps.{answered_stamp}
use Rattle.history.proofs.Labels.{off_before}
use Rattle.history.proofs.Resets.{phases_count}
use Rattle.history.proofs.Contract.{log_resets, log_R, log_meets, log_previous, log_following}

is_reset_lem : (w : Kind) → is_reset w ≡ true → w ≡ Reset
is_reset_lem Local t = absurd (false≢true t)
is_reset_lem Send t = absurd (false≢true t)
is_reset_lem Reset t = refl
is_reset_lem (Receive e) t = absurd (false≢true t)

-- the event behind a used slot of the ring's book is one of the log
pub kept_in_lem : (s : State) → Faithful s → (k : ℕ) → used ((round_book s.book).tables.shelf k) ≡ true
    → s.history.kept k < s.history.log.count
kept_in_lem s w k u = go (s.book.tables.shelf k) (w.good.shelf k) u
  where
    go : (o : Option Held) → Each (Behind s.history.log (s.history.kept k)) o
        → used (map_held (modulo s.book.setup.phases) o) ≡ true → s.history.kept k < s.history.log.count
    go none b u = absurd (false≢true u)
    go (some e) b u = b.0

-- in a faithful state
module _ (s : State) (w : Faithful s) where
  abbrev b : Tables
  b = s.book.tables

  held_close : (B p e : ℕ) (o : Option Held) → Each (NearAt (phases b) B p) o → Each (Behind s.history.log e) o
      → Each (λ (v : Held). Close s.book.setup b B v.row) o
  held_close B p e none q r = tt
  held_close B p e (some v) q r = λ k. (q.1 k, rw r.2 at (w.good.causal.clocks e r.0 k).1)

  state_pattern : Pattern s.book.setup b
  state_pattern =
      let near = w.good.bounded.near in
      record {
        seats = λ j l k. (near.seats j l k, (seat_clock s.book.setup (allowed s w) b s.history w.good j k).1);
        mail = λ p. held_close (2 * s.book.setup.seat_lag) p (s.history.mailed p) (b.mail p) (near.mail p) (w.good.mail p);
        shelf = λ p. held_close s.book.setup.shelf_lag p (s.history.kept p) (b.shelf p) (near.shelf p) (w.good.shelf p);
      }

module _ (X : Setup) (fair : permits X ≡ true) (cs : List Call) where
  abbrev m : ℕ
  m = (setup_after X cs).back

  abbrev n : ℕ
  n = (setup_after X cs).ahead

  -- an event's own clock is 0 exactly where it is a reset
  pub reset_clock : (e : ℕ) → e < (log_after X cs).count
      → (((log_after X cs).row e ((log_after X cs).desk e)).clock ≡ 0) ↔ ((log_after X cs).kind e ≡ Reset)
  reset_clock e l =
      let k = (faithful_run X fair cs).good.causal.kinds e l in
      (λ q. is_reset_lem _ (sym k ∙ eq-eqb _ 0 q), λ q. eqb-true _ 0 (k ∙ ap is_reset q))

  -- In every seat of a desk, every waiting mail and every used slot the true lags are within M, 2M and A, and each clock is below the
  -- limit of the desk that its pair is for.
  pub pattern : Pattern (setup_after X cs) (after (begin X) cs).book.tables
  pattern = state_pattern (after (begin X) cs) (faithful_run X fair cs)

  -- two events
  module _ (x y : ℕ) (lx : x < (log_after X cs).count) (ly : y < (log_after X cs).count) where
    -- Within reach exactly when PR^m of x is the beginning, is y or leads to y, and NX^n of x neither is y nor leads to y.
    pub reach_resets : InReach (setup_after X cs) (log_after X cs) x y ↔ Reached (log_after X cs) m n x y
    reach_resets = log_resets _ (faithful_run X fair cs) (phases_count X cs) x y lx ly

    -- It is R(m,n) but for those two resets.
    pub reach_R : (previous (log_after X cs) m x ≡ some y → ⊥) → (following (log_after X cs) n x ≡ some y → ⊥)
        → InReach (setup_after X cs) (log_after X cs) x y ↔ R (log_after X cs) m n x y
    reach_R = log_R _ (faithful_run X fair cs) (phases_count X cs) x y lx ly

    -- PR^m of x itself is within reach and does not meet R(m,n); NX^n of x meets it and is out of reach.
    pub reach_previous : previous (log_after X cs) m x ≡ some y
        → InReach (setup_after X cs) (log_after X cs) x y × (R (log_after X cs) m n x y → ⊥)
    reach_previous = log_previous _ (faithful_run X fair cs) (phases_count X cs) x y lx ly

    pub reach_following : following (log_after X cs) n x ≡ some y
        → (InReach (setup_after X cs) (log_after X cs) x y → ⊥) × R (log_after X cs) m n x y
    reach_following = log_following _ (faithful_run X fair cs) (phases_count X cs) x y lx ly

    pub meets_reach : Meets (log_after X cs) m n x y → InReach (setup_after X cs) (log_after X cs) x y
    meets_reach = log_meets _ (faithful_run X fair cs) (phases_count X cs) x y lx ly

  -- Two kept stamps whose events meet the contract: before is accepted and says whether a chain leads from the one to the other.
  module _ (i j : ℕ) (ui : used ((left ring_of (fresh_book X) cs).tables.shelf i) ≡ true)
      (uj : used ((left ring_of (fresh_book X) cs).tables.shelf j) ≡ true) where
    abbrev behind : ℕ → ℕ
    behind = (after (begin X) cs).history.kept

    there : (k : ℕ) → used ((left ring_of (fresh_book X) cs).tables.shelf k) ≡ true → behind k < (log_after X cs).count
    there k u =
        kept_in_lem (after (begin X) cs) (faithful_run X fair cs) k
        (ap (λ (b : Book). used (b.tables.shelf k)) (sym (ring_book X fair cs)) ∙ u)

    pub kept_substitute : Meets (log_after X cs) m n (behind i) (behind j)
        → BeforeSaid (log_after X cs) (behind i) (behind j) (call ring_of (left ring_of (fresh_book X) cs) (on (before i j))).answer
    kept_substitute r = (kept_before X fair cs i j ui uj).said (meets_reach (behind i) (behind j) (there i ui) (there j uj) r)

  -- Two stamps off the book likewise.
  module _ (x y : ℕ) (e f : Label) (ae : Answered X cs e x) (af : Answered X cs f y) where
    pub off_substitute : Meets (log_after X cs) m n x y → BeforeSaid (log_after X cs) x y (before_off (setup_after X cs) (some e) (some f))
    off_substitute r =
        off_before X fair cs x y e f ae af
        (meets_reach x y (answered_stamp X fair cs e x ae).is (answered_stamp X fair cs f y af).is r)
