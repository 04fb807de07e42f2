-- DEMAND 3, stamps off the book: any two stamps that a run has answered since its last accepted start, kept or not, are answered
-- as the history has it by before, compare and newest, provided each true difference asked about is within the permission.
-- Assumes nothing.
use mathlib.Core.Path.{◌≡◌, ap, sym, ◌∙◌, subst}
use mathlib.Core.Bool.{true}
use mathlib.Core.Option.{some}
use mathlib.Core.List.{List}
use mathlib.Core.Logic.{inl, inr}
use Prim.Native.Nat.{ℕ, ◌+◌, ◌-◌, ◌≤◌, ◌<◌}
use native.Mathlib.Omega.{arith}
use native.Mathlib.Decide.{dec_lt}
use lib.Dec.{eqb}
use Rattle.ring.specs.Phases.{Gap}
use Rattle.ring.proofs.Ring.{ring_lag, ring_back}
use Rattle.rules.specs.declared.Relation.{Relation}
use Rattle.rules.specs.declared.Relation.TheVariants.{Before, After, Same, Concurrent, Crossed}
use Rattle.rules.specs.Setups.{Setup, permits}
use Rattle.rules.specs.Model.{Row, Answer, accepted, says, relates, reach_back, near, relation}
use Rattle.rules.specs.Calls.{Call}
use Rattle.rules.specs.Model.{Label}
use Rattle.rules.specs.Labels.{First, gap_off, before_off, compare_off, newer, newest_by, newest_off}
use Rattle.history.specs.Round.{round_row}
use Rattle.history.specs.History.{Log, Leads, State, log_after, setup_after}
use Rattle.history.specs.Stamps.{StampOf, Answered}
use Rattle.history.specs.Demand.{InReach, Stands, BeforeSaid, CompareSaid, Newer}
use Rattle.rules.proofs.Setups.{Permitted, permitted}
use Rattle.rules.proofs.Reach.{reach_own, reach_round, near_in}
use Rattle.rules.proofs.Off.{shown_ahead, shown_back}
use Rattle.history.proofs.Keys.{Differ}
use Rattle.history.proofs.Causal.{Causal}
use Rattle.history.proofs.Before.{asked, tells, stands, by_clock}
use Rattle.history.proofs.Runs.{Faithful, faithful_run}
use Rattle.history.proofs.Stamps.{StampIn, answered_stamp}

-- within reach the ring shows the true difference
module _ (X : Setup) (ok : Permitted X) (j : ℕ) (e f : Row) where
  abbrev c : ℕ
  c = (e j).clock

  off_open : ((f j).phase < (e j).phase + X.ahead) × ((e j).phase < (f j).phase + reach_back X (eqb c 0))
      → (d : Gap) × (gap_off X j (round_row X.phases e) (round_row X.phases f) ≡ some d) × Differ d (e j).phase (f j).phase
  off_open r = go (dec_lt (f j).phase (e j).phase)
    where
      back : 1 ≤ reach_back X (eqb c 0)
      back = reach_own X ok (eqb c 0)

      forth : 1 ≤ X.ahead
      forth = ok.forth

      reach : reach_back X (eqb c 0) + X.ahead ≤ X.phases + 1
      reach = reach_round X ok (eqb c 0)

      go : Dec ((f j).phase < (e j).phase)
          → (d : Gap) × (gap_off X j (round_row X.phases e) (round_row X.phases f) ≡ some d) × Differ d (e j).phase (f j).phase
      go (no l) =
          let up = (f j).phase - (e j).phase in
          let q = ring_lag X.phases (f j).phase (e j).phase (omega (arith, r, l)) (omega (arith, r, back, reach)) in (
            record { up = up; down = 0 },
            shown_ahead X ok j (round_row X.phases e) (round_row X.phases f) (omega (arith, q, r, forth))
                ∙ ap (λ n. near X c (record { up = n; down = 0 })) q
                ∙ near_in X c (record { up = up; down = 0 }) (omega (arith, r, forth)) (omega (arith, back)),
            omega (arith, l),
          )
      go (yes l) =
          let round = X.phases - ((e j).phase - (f j).phase) in
          let down = X.phases - round in
          let q = ring_back X.phases (e j).phase (f j).phase l (omega (arith, r, forth, reach)) in (
            record { up = 0; down = down },
            shown_back X ok j (round_row X.phases e) (round_row X.phases f) (omega (arith, q, r, reach, l))
                ∙ ap (λ n. near X c (record { up = 0; down = X.phases - n })) q
                ∙ near_in X c (record { up = 0; down = down }) (omega (arith, forth)) (omega (arith, r, reach, back)),
            omega (arith, r, reach, forth, l),
          )

-- the stamp of an event, come round
abbrev stamp_at : Setup → Log → ℕ → Label
stamp_at X h x = record { owner = h.desk x; row = round_row X.phases (h.row x) }

stamp_is : (X : Setup) (h : Log) (x : ℕ) (e : Label) → StampOf X h x e → stamp_at X h x ≡ e
stamp_is X h x e w = λ i. record { owner = w.owner i; row = w.row i }

module _ (X : Setup) (fair : permits X ≡ true) (h : Log) (c : Causal X h) (x y : ℕ) (lx : x < h.count) (ly : y < h.count) where
  before_at : InReach X h x y → BeforeSaid h x y (before_off X (some (stamp_at X h x)) (some (stamp_at X h y)))
  unfolding before_off
  before_at r =
      let o = off_open X (permitted X fair) (h.desk x) (h.row x) (h.row y) (by_clock X h c x y lx r) in
      let q : before_off X (some (stamp_at X h x)) (some (stamp_at X h y)) ≡ accepted (says (asked h o.0 x y)) = rw (fair, o.1) in (
        asked h o.0 x y,
        ap (λ (a : Answer). a.number) q,
        ap (λ (a : Answer). a.value) q,
        tells X h c x y lx ly o.0 o.2,
      )

  compare_at : InReach X h x y → InReach X h y x → CompareSaid h x y (compare_off X (some (stamp_at X h x)) (some (stamp_at X h y)))
  unfolding compare_off
  compare_at r r' =
      let o = off_open X (permitted X fair) (h.desk x) (h.row x) (h.row y) (by_clock X h c x y lx r) in
      let p = off_open X (permitted X fair) (h.desk y) (h.row y) (h.row x) (by_clock X h c y x ly r') in
      let v = relation o.0 p.0 (h.desk x) (h.desk y) (h.row x) (h.row y) in
      let q : compare_off X (some (stamp_at X h x)) (some (stamp_at X h y)) ≡ accepted (relates v) = rw (fair, o.1, p.1) in (
        v,
        ap (λ (a : Answer). a.number) q,
        ap (λ (a : Answer). a.value) q,
        stands X h c x y lx ly o.0 p.0 o.2 p.2,
      )

-- the first, if they are the same or it is after the other
first_same : (h : Log) (x y : ℕ) → x ≡ y → Newer h x y First
first_same h x y q = inl q

first_after : (h : Log) (x y : ℕ) → Leads h y x → Newer h x y First
first_after h x y l = inr l

newer_is : (h : Log) (x y : ℕ) (r : Relation) → Stands h x y r → Newer h x y (newer r)
newer_is h x y Before w = w
newer_is h x y After w = first_after h x y w
newer_is h x y Same w = first_same h x y w
newer_is h x y Concurrent w = w
newer_is h x y Crossed w = absurd w

-- in a faithful state, two stamps of its events
module _ (s : State) (w : Faithful s) (x y : ℕ) (e f : Label) (oe : StampIn s x e) (of : StampIn s y f) where
  abbrev X : Setup
  X = s.book.setup

  abbrev h : Log
  h = s.history.log

  pub state_off_before : InReach X h x y → BeforeSaid h x y (before_off X (some e) (some f))
  state_off_before r =
      rw (← (stamp_is X h x e oe), ← (stamp_is X h y f of)) (before_at X w.permits h w.good.causal x y oe.is of.is r)

  pub state_off_compare : InReach X h x y → InReach X h y x → CompareSaid h x y (compare_off X (some e) (some f))
  state_off_compare r r' =
      rw (← (stamp_is X h x e oe), ← (stamp_is X h y f of)) (compare_at X w.permits h w.good.causal x y oe.is of.is r r')

  pub state_off_newest : InReach X h x y → InReach X h y x → Newer h x y (newest_off X (some e) (some f))
  state_off_newest r r' =
      let t = state_off_compare r r' in
      subst (Newer h x y) (sym (ap newest_by t.2)) (newer_is h x y t.0 t.3)

-- after any calls from a fresh book on, two stamps that they answered
module _ (X : Setup) (fair : permits X ≡ true) (cs : List Call) (x y : ℕ) (e f : Label)
    (ae : Answered X cs e x) (af : Answered X cs f y) where
  pub off_before : InReach (setup_after X cs) (log_after X cs) x y
      → BeforeSaid (log_after X cs) x y (before_off (setup_after X cs) (some e) (some f))
  off_before =
      state_off_before _ (faithful_run X fair cs) x y e f (answered_stamp X fair cs e x ae) (answered_stamp X fair cs f y af)

  pub off_compare : InReach (setup_after X cs) (log_after X cs) x y → InReach (setup_after X cs) (log_after X cs) y x
      → CompareSaid (log_after X cs) x y (compare_off (setup_after X cs) (some e) (some f))
  off_compare =
      state_off_compare _ (faithful_run X fair cs) x y e f (answered_stamp X fair cs e x ae) (answered_stamp X fair cs f y af)

  -- Newest hands back the one that is after the other, the first if they are the same event, neither if they are concurrent.
  pub off_newest : InReach (setup_after X cs) (log_after X cs) x y → InReach (setup_after X cs) (log_after X cs) y x
      → Newer (log_after X cs) x y (newest_off (setup_after X cs) (some e) (some f))
  off_newest =
      state_off_newest _ (faithful_run X fair cs) x y e f (answered_stamp X fair cs e x ae) (answered_stamp X fair cs f y af)
