-- On the line no phase is later than its desk's own one, and every lag stays within what the setup permits.
-- Assumes nothing.
use mathlib.Core.Path.{◌≡◌, refl, ap, sym, subst, fun_ext}
use mathlib.Core.Bool.{Bool, true, false}
use mathlib.Core.Option.{Option, none, some}
use Prim.Native.Nat.{ℕ, ◌+◌, ◌-◌, ◌*◌, ◌≤◌, ◌<◌}
use native.Mathlib.Omega.{arith}
use borrow.Author.Tests.{eqb-false, ne_eqb}
use Rattle.ring.specs.Phases.{line, Pair, is_later, later}
use Rattle.rules.specs.Model.{phases}
use Rattle.rules.proofs.Setups.{Permitted}
use Rattle.rules.proofs.Accepted.{no_local, no_send, no_receive, no_reset}
use Rattle.rules.specs.Setups.{Setup}
use Rattle.tools.specs.Tests.{pick}
use Rattle.tools.specs.Tables.{put}
use Rattle.rules.specs.Model.{Row, Seat, Held, Tables, Act, local, reset, send, receive, drop, discard, ask}
use Rattle.rules.specs.Model.{done, why, fresh, grown, taken, merged, turned, seated, free_mail, slot_for, row_in}
use Rattle.rules.specs.Model.{own, lags, seat_lags, tick, turn}
use Rattle.tools.specs.Tables.{Each}
use Rattle.tools.proofs.Tables.{put_all, put_both, put_at_all, put_same, Each-map}
use Rattle.ring.proofs.Ring.{later_lag}
use Rattle.history.specs.Lags.{NoneAhead}
use Rattle.history.proofs.Past.{left, fresh_past, done_past}

abbrev pub Near : ℕ → ℕ → ℕ → Type 0
Near o B v = o ≤ v + B

abbrev pub NearRow : (ℕ → ℕ) → ℕ → Row → Type 0
NearRow o B r = (k : ℕ) → Near (o k) B (r k).phase

abbrev pub NearAt : (ℕ → ℕ) → ℕ → ℕ → Held → Type 0
NearAt o B p w = (p < 32) × NearRow o B w.row

-- o is the own phase of each desk
pub record Within (X : Setup) (o : ℕ → ℕ) (b : Tables) : Type 0 where
  pub seats : (s : ℕ) → s < X.desks → NearRow o X.seat_lag (b.seat s).row
  pub mail : (p : ℕ) → Each (NearAt o (2 * X.seat_lag) p) (b.mail p)
  pub shelf : (s : ℕ) → Each (NearAt o X.shelf_lag s) (b.shelf s)

abbrev InLag : Setup → Tables → Type 0
InLag X b = Within X (phases b) b

pub record Bounded (X : Setup) (b : Tables) : Type 0 where
  pub past : NoneAhead b
  pub near : InLag X b

pub fresh_bounded : (X : Setup) → Bounded X fresh
fresh_bounded X =
    record { past = fresh_past; near = record { seats = λ s h k. omega arith; mail = λ p. tt; shelf = λ s. tt } }

-- an event that keeps j's own phase keeps every own phase
same_phases : (b : Tables) (j : ℕ) (r : Row) → (r j).phase ≡ phases b j
    → (k : ℕ) → ((seated b j r k).row k).phase ≡ phases b k
same_phases b j r e =
    put_all (λ k (s : Seat). (s.row k).phase ≡ phases b k) b.seat j (record { started = true; row = r }) e (λ k h. refl)

module _ (X : Setup) (ok : Permitted X) (b : Tables) (w : InLag X b) where
  -- an event at j that leaves row r there and in its slot; o, the own phases after it
  near_event : (j : ℕ) (r : Row) (slot : Option ℕ) (mail : ℕ → Option Held) (o : ℕ → ℕ) → phases (left b j r slot mail) ≡ o
      → NearRow o X.seat_lag r
      → ((s : ℕ) → (s ≡ j → ⊥) → s < X.desks → NearRow o X.seat_lag (b.seat s).row)
      → ((p : ℕ) → Each (NearAt o (2 * X.seat_lag) p) (mail p))
      → ((s : ℕ) → Each (NearAt o X.shelf_lag s) (b.shelf s))
      → Each (λ s. s < 32) slot
      → InLag X (left b j r slot mail)
  near_event j r slot mail o e near seats posts kept there =
      subst (λ o. Within X o (left b j r slot mail)) (sym e)
      (record {
        seats = put_all (λ s (t : Seat). s < X.desks → NearRow o X.seat_lag t.row) b.seat j
            (record { started = true; row = r }) (λ h. near) seats;
        mail = posts;
        shelf = put_at_all (λ s (h : Option Held). Each (NearAt o X.shelf_lag s) h) b.shelf slot _
            (Each-map (λ s l. (l, λ k. let a = near k in let q = ok.kept in omega arith)) slot there) kept;
      })

  -- an event that leaves the own phases
  quiet : (j : ℕ) (r : Row) (slot : Option ℕ) (mail : ℕ → Option Held) → (r j).phase ≡ phases b j
      → NearRow (phases b) X.seat_lag r
      → ((p : ℕ) → Each (NearAt (phases b) (2 * X.seat_lag) p) (mail p))
      → Each (λ s. s < 32) slot
      → InLag X (left b j r slot mail)
  quiet j r slot mail e near posts =
      near_event j r slot mail (phases b) (fun_ext (same_phases b j r e)) near (λ s h. w.seats s) posts w.shelf

  grown_near : (j : ℕ) → j < X.desks → NearRow (phases b) X.seat_lag (grown b j)
  grown_near j h =
      put_all (λ k (q : Pair). Near (phases b k) X.seat_lag q.phase) (b.seat j).row j (tick (own b j))
      (omega arith) (λ k h'. w.seats j h k)

  grown_own : (j : ℕ) → ((grown b j) j).phase ≡ phases b j
  grown_own j = ap (λ (q : Pair). q.phase) (put_same (b.seat j).row j (tick (own b j)))

  merged_own : (j : ℕ) (m : Row) → ((merged line b j m) j).phase ≡ phases b j
  merged_own j m =
      ap (λ (q : Pair). q.phase) (put_same (λ k. (taken line b j m k).pair) j (tick (own b j)))

  later_near : (o B : ℕ) (x y : Pair) → Near o B x.phase → Near o B (later line o x y).pair.phase
  later_near o B x y n = go (is_later line o y x) refl
    where
      go : (t : Bool) → is_later line o y x ≡ t → Near o B (pick t y x).phase
      go false e = n
      go true e = let l = later_lag line o x y e in omega arith

  merged_near : (j : ℕ) → j < X.desks → (m : Row) → NearRow (phases b) X.seat_lag (merged line b j m)
  merged_near j h m =
      put_all (λ k (q : Pair). Near (phases b k) X.seat_lag q.phase) (λ k. (taken line b j m k).pair) j
      (tick (own b j))
      (omega arith) (λ k h'. later_near (phases b k) X.seat_lag ((b.seat j).row k) (m k) (w.seats j h k))

  reset_held : (j B p : ℕ) (o : Option Held) → Each (NearAt (phases b) B p) o → (p < 32 → lags line b j B o ≡ false)
      → Each (NearAt (put (phases b) j (phases b j + 1)) B p) o
  reset_held j B p none n h = tt
  reset_held j B p (some m) n h = (
    n.0,
    put_all (λ k o. Near o B (m.row k).phase) (phases b) j (phases b j + 1)
        (let z : phases b j - (m.row j).phase ≡ B → ⊥ = eqb-false _ _ (h n.0) in let a = n.1 j in omega arith)
        (λ k h'. n.1 k),
  )

  turned_near : (j : ℕ) → j < X.desks → NearRow (put (phases b) j (phases b j + 1)) X.seat_lag (turned line b j)
  turned_near j h =
      put_both (λ k (q : Pair) o. Near o X.seat_lag q.phase) (b.seat j).row (phases b) j (turn line (own b j))
      (phases b j + 1) (omega arith) (λ k h'. w.seats j h k)

  reset_seats : (j : ℕ) → ((s : ℕ) → s < X.desks → seat_lags line b j X.seat_lag s ≡ false)
      → (s : ℕ) → (s ≡ j → ⊥) → s < X.desks → NearRow (put (phases b) j (phases b j + 1)) X.seat_lag (b.seat s).row
  reset_seats j h s ne l =
      put_all (λ k o. Near o X.seat_lag ((b.seat s).row k).phase) (phases b) j (phases b j + 1)
      (let z : phases b j - ((b.seat s).row j).phase ≡ X.seat_lag → ⊥ = eqb-false _ _ (rw (ne_eqb s j ne) at (h s l)) in
      let a = w.seats s l j in omega arith)
      (λ k h'. w.seats s l k)

  reset_own : (j : ℕ) (slot : Option ℕ) → phases (left b j (turned line b j) slot b.mail) ≡ put (phases b) j (phases b j + 1)
  reset_own j slot =
      fun_ext (put_both (λ k (s : Seat) o. (s.row k).phase ≡ o) b.seat (phases b) j
      (record { started = true; row = turned line b j }) (phases b j + 1)
      (ap (λ (q : Pair). q.phase) (put_same (b.seat j).row j (turn line (own b j)))) (λ k h. refl))

  near_done : (c : Act) → why line X b c ≡ 0 → InLag X (done line X b c).tables
  unfolding done
  near_done (local j q) e =
      let n = no_local line X b j q e in
      quiet j (grown b j) (slot_for b q) b.mail (grown_own j) (grown_near j n.0) w.mail n.2
  near_done (send j k q) e =
      let n = no_send line X b j k q e in
      quiet j (grown b j) (slot_for b q) _ (grown_own j) (grown_near j n.0)
      (put_all (λ p o. Each (NearAt (phases b) (2 * X.seat_lag) p) o) b.mail (free_mail b) _
      (n.2, λ k. let a = grown_near j n.0 k in omega arith) (λ p h. w.mail p)) n.5
  near_done (receive j p q) e =
      let n = no_receive line X b j p q e in
      quiet j (merged line b j (row_in (b.mail p))) (slot_for b q) _ (merged_own j (row_in (b.mail p)))
      (merged_near j n.0 (row_in (b.mail p)))
      (put_all (λ p o. Each (NearAt (phases b) (2 * X.seat_lag) p) o) b.mail p none tt (λ p h. w.mail p)) n.4
  near_done (reset j q) e =
      let n = no_reset line X b j q e in
      near_event j (turned line b j) (slot_for b q) b.mail (put (phases b) j (phases b j + 1)) (reset_own j (slot_for b q))
      (turned_near j n.0) (reset_seats j n.1)
      (λ p. reset_held j (2 * X.seat_lag) p (b.mail p) (w.mail p) (n.2 p))
      (λ p. reset_held j X.shelf_lag p (b.shelf p) (w.shelf p) (n.3 p)) n.4
  near_done (drop s) e =
      record {
        seats = w.seats;
        mail = w.mail;
        shelf = put_all (λ s o. Each (NearAt (phases b) X.shelf_lag s) o) b.shelf s none tt (λ s h. w.shelf s);
      }
  near_done (discard p) e =
      record {
        seats = w.seats;
        shelf = w.shelf;
        mail = put_all (λ s o. Each (NearAt (phases b) (2 * X.seat_lag) s) o) b.mail p none tt (λ s h. w.mail s);
      }
  near_done (ask q) e = w

pub bounded_done : (X : Setup) → Permitted X → (b : Tables) → Bounded X b → (c : Act) → why line X b c ≡ 0
    → Bounded X (done line X b c).tables
bounded_done X ok b w c e = record { past = done_past line (λ v. omega arith) b w.past X c; near = near_done X ok b w.near c e }
