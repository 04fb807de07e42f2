-- Every act on tables that fit leaves tables that fit, on the ring.
-- Assumes nothing.
use mathlib.Core.Path.{◌≡◌, refl, ap, sym, subst, fun_ext}
use mathlib.Core.Bool.{Bool, true, false, true≢false, false≢true}
use mathlib.Core.Option.{Option, none, some}
use Prim.Native.Nat.{ℕ, zero, suc, ◌+◌, ◌*◌, ◌≤◌, ◌<◌}
use native.Mathlib.Omega.{arith}
use borrow.Author.Tests.{eqb-false, ne_eqb}
use Rattle.tools.specs.Tests.{pick}
use Rattle.tools.specs.Tables.{put, put_at, Each}
use Rattle.tools.proofs.Tables.{put_all, put_both, put_same, put_at_all, Each-map}
use Rattle.ring.specs.Phases.{lag_of, next_of, ring, Pair, is_later, later}
use Rattle.ring.proofs.Ring.{lag_self, lag_next, next_below, later_lag}
use Rattle.rules.specs.Setups.{Setup, limit}
use Rattle.rules.specs.Model.{Row, Seat, Held, Tables, Act, local, reset, send, receive, drop, discard, ask}
use Rattle.rules.specs.Model.{step, done, why, fresh, idle, zeros, grown, taken, merged, turned, seated, free_mail, slot_for, row_in}
use Rattle.rules.specs.Model.{used, own, lags, seat_lags, tick, turn, settle}
use Rattle.rules.specs.Model.{phases}
use Rattle.book.specs.Fits.{InRange, PairFits, RowFits, MailFits, SlotFits, FitsAt, Fits}
use Rattle.rules.proofs.Setups.{Permitted}
use Rattle.rules.proofs.Accepted.{no_local, no_send, no_receive, no_reset}

-- zero lags behind zero by nothing
pub zeros_fit : (X : Setup) → Permitted X → (o : ℕ → ℕ) → ((k : ℕ) → o k ≡ 0) → (B : ℕ) → RowFits X o B zeros
zeros_fit X ok o z B k = (
  λ l. record {
    phase = let a = ok.mailed in omega arith;
    clock = let a = (ok.ticks k l).0 in omega arith;
    lag = rw (z k, lag_self X.phases 0) (omega arith);
  },
  λ l. refl,
)

pub fresh_fits : (X : Setup) → Permitted X → Fits X fresh
fresh_fits X ok =
    record {
      seats = λ j l. zeros_fit X ok (phases fresh) (λ k. refl) X.seat_lag;
      unstarted = λ j e. refl;
      beyond = λ j l. refl;
      mail = λ p. tt;
      shelf = λ s. tt;
    }

wider : (X : Setup) (o : ℕ → ℕ) (B C : ℕ) (r : Row) → B ≤ C → RowFits X o B r → RowFits X o C r
wider X o B C r l f k = (
  λ d. let q = (f k).0 d in record { phase = q.phase; clock = q.clock; lag = let z = q.lag in omega arith },
  (f k).1,
)

abbrev Z : Setup → Rattle.ring.specs.Phases.Phases
Z X = ring X.phases

module _ (X : Setup) (ok : Permitted X) (b : Tables) (w : Fits X b) where
  -- j's own pair
  own_range : (j : ℕ) → j < X.desks → InRange X (phases b j) X.seat_lag j (own b j)
  own_range j l = (w.seats j l j).0 l

  -- a row that fits but for column j, where it holds a pair that fits
  put_fits : (o : ℕ → ℕ) (B : ℕ) (r : Row) (j : ℕ) (q : Pair) → j < X.desks → InRange X (o j) B j q
      → ((k : ℕ) → (k ≡ j → ⊥) → PairFits X (o k) B k (r k)) → RowFits X o B (put r j q)
  put_fits o B r j q l here there =
      put_all (λ k (p : Pair). PairFits X (o k) B k p) r j q (λ m. here, λ m. absurd (omega arith)) there

  grown_fits : (j : ℕ) → j < X.desks → (own b j).clock + 1 < limit X j → RowFits X (phases b) X.seat_lag (grown b j)
  grown_fits j l c =
      put_fits (phases b) X.seat_lag (b.seat j).row j (tick (own b j)) l
      (record { phase = (own_range j l).phase; clock = c; lag = (own_range j l).lag }) (λ k ne. w.seats j l k)

  later_fits : (k : ℕ) (x y : Pair) (C : ℕ) → PairFits X (phases b k) X.seat_lag k x → PairFits X (phases b k) C k y
      → PairFits X (phases b k) X.seat_lag k (later (Z X) (phases b k) x y).pair
  later_fits k x y C f g = go (is_later (Z X) (phases b k) y x) refl
    where
      go : (t : Bool) → is_later (Z X) (phases b k) y x ≡ t → PairFits X (phases b k) X.seat_lag k (pick t y x)
      go false e = f
      go true e = (
        λ l. record {
          phase = (g.0 l).phase;
          clock = (g.0 l).clock;
          lag = let a = (f.0 l).lag in let c = later_lag (Z X) (phases b k) x y e in omega arith;
        },
        g.1,
      )

  merged_fits : (j : ℕ) (m : Row) (C : ℕ) → j < X.desks → (own b j).clock + 1 < limit X j → RowFits X (phases b) C m
      → RowFits X (phases b) X.seat_lag (merged (Z X) b j m)
  merged_fits j m C l c f =
      put_fits (phases b) X.seat_lag (λ k. (taken (Z X) b j m k).pair) j (tick (own b j)) l
      (record { phase = (own_range j l).phase; clock = c; lag = (own_range j l).lag })
      (λ k ne. later_fits k ((b.seat j).row k) (m k) C (w.seats j l k) (f k))

  -- the shelf after an event at j that leaves row r, with its slot s
  abbrev shelved : ℕ → Row → Option ℕ → ℕ → Option Held
  shelved j r s = put_at b.shelf s (some record { by = j; to = 0; row = r })

  kept_fits : (o : ℕ → ℕ) (j : ℕ) (r : Row) (s : Option ℕ) → j < X.desks → Each (λ p. p < 32) s → RowFits X o X.seat_lag r
      → ((p : ℕ) → Each (SlotFits X o p) (b.shelf p)) → (p : ℕ) → Each (SlotFits X o p) (shelved j r s p)
  kept_fits o j r s l m f there =
      put_at_all (λ p (h : Option Held). Each (SlotFits X o p) h) b.shelf s (some record { by = j; to = 0; row = r })
      (Each-map (λ p z. record { place = z; by = l; to = refl; row = wider X o X.seat_lag X.shelf_lag r ok.kept f }) s m) there

  -- an event at j that leaves the own phases
  quiet : (j : ℕ) (r : Row) (s : Option ℕ) (mail : ℕ → Option Held) → j < X.desks → Each (λ p. p < 32) s → (r j).phase ≡ phases b j
      → RowFits X (phases b) X.seat_lag r
      → ((p : ℕ) → Each (MailFits X (phases b) p) (mail p))
      → Fits X (record { seat = seated b j r; mail = mail; shelf = shelved j r s })
  quiet j r s mail l m e f posts =
      subst (λ o. FitsAt X o (record { seat = seated b j r; mail = mail; shelf = shelved j r s })) (sym (fun_ext same))
      (record {
        seats = put_all (λ s (t : Seat). s < X.desks → RowFits X (phases b) X.seat_lag t.row) b.seat j
            (record { started = true; row = r }) (λ m. f) (λ s ne. w.seats s);
        unstarted = put_all (λ s (t : Seat). t.started ≡ false → t.row ≡ zeros) b.seat j
            (record { started = true; row = r }) (λ z. absurd (true≢false z)) (λ s ne. w.unstarted s);
        beyond = put_all (λ s (t : Seat). X.desks ≤ s → t ≡ idle) b.seat j
            (record { started = true; row = r }) (λ z. absurd (omega arith)) (λ s ne. w.beyond s);
        mail = posts;
        shelf = kept_fits (phases b) j r s l m f w.shelf;
      })
    where
      same : (k : ℕ) → ((seated b j r k).row k).phase ≡ phases b k
      same = put_all (λ k (s : Seat). (s.row k).phase ≡ phases b k) b.seat j (record { started = true; row = r }) e (λ k ne. refl)

  mail_row : (p : ℕ) → used (b.mail p) ≡ true → RowFits X (phases b) (2 * X.seat_lag) (row_in (b.mail p))
  mail_row p u = go (b.mail p) (w.mail p) u
    where
      go : (o : Option Held) → Each (MailFits X (phases b) p) o → used o ≡ true → RowFits X (phases b) (2 * X.seat_lag) (row_in o)
      go none n u = absurd (false≢true u)
      go (some m) n u = n.row

  -- a reset at j: every lag at j that is below its bound may grow by one
  abbrev ahead : ℕ → ℕ → ℕ
  ahead j = put (phases b) j (next_of X.phases (phases b j))

  reset_pair : (j B : ℕ) (q : Pair) → j < X.desks → B < X.phases → PairFits X (phases b j) B j q
      → (lag_of X.phases (phases b j) q.phase ≡ B → ⊥) → PairFits X (next_of X.phases (phases b j)) B j q
  reset_pair j B q l m f ne =
      let r = f.0 l in
      let s = r.lag in
      let e = lag_next X.phases (phases b j) q.phase (own_range j l).phase r.phase (omega arith) in
      (λ d. record { phase = r.phase; clock = r.clock; lag = omega arith }, f.1)

  reset_row : (j B : ℕ) (r : Row) → j < X.desks → B < X.phases → RowFits X (phases b) B r
      → (lag_of X.phases (phases b j) (r j).phase ≡ B → ⊥) → RowFits X (ahead j) B r
  reset_row j B r l m f ne =
      put_all (λ k o. PairFits X o B k (r k)) (phases b) j (next_of X.phases (phases b j))
      (reset_pair j B (r j) l m (f j) ne) (λ k z. f k)

  turned_fits : (j : ℕ) → j < X.desks → RowFits X (ahead j) X.seat_lag (turned (Z X) b j)
  turned_fits j l =
      let m = ok.mailed in
      put_both (λ k (q : Pair) o. PairFits X o X.seat_lag k q) (b.seat j).row (phases b) j (turn (Z X) (own b j))
      (next_of X.phases (phases b j)) (
        λ d. record {
          phase = next_below X.phases (phases b j) (omega arith);
          clock = let c = (ok.ticks j l).0 in omega arith;
          lag = rw (lag_self X.phases (next_of X.phases (phases b j))) (omega arith);
        },
        λ d. absurd (omega arith),
      )
      (λ k ne. w.seats j l k)

  reset_mail : (j p : ℕ) → j < X.desks → (o : Option Held) → Each (MailFits X (phases b) p) o
      → (p < 32 → lags (Z X) b j (2 * X.seat_lag) o ≡ false) → Each (MailFits X (ahead j) p) o
  reset_mail j p l none f h = tt
  reset_mail j p l (some m) f h =
      let a = ok.mailed in
      record {
        place = f.place;
        by = f.by;
        to = f.to;
        differ = f.differ;
        row = reset_row j (2 * X.seat_lag) m.row l (omega arith) f.row (eqb-false _ _ (h f.place));
      }

  reset_slot : (j s : ℕ) → j < X.desks → (o : Option Held) → Each (SlotFits X (phases b) s) o
      → (s < 32 → lags (Z X) b j X.shelf_lag o ≡ false) → Each (SlotFits X (ahead j) s) o
  reset_slot j s l none f h = tt
  reset_slot j s l (some m) f h =
      let a = ok.shelved in
      record {
        place = f.place;
        by = f.by;
        to = f.to;
        row = reset_row j X.shelf_lag m.row l (omega arith) f.row (eqb-false _ _ (h f.place));
      }

  reset_fits : (j : ℕ) (q : Bool) → why (Z X) X b (reset j q) ≡ 0
      → Fits X (record { seat = seated b j (turned (Z X) b j); mail = b.mail; shelf = shelved j (turned (Z X) b j) (slot_for b q) })
  reset_fits j q e =
      subst (λ o. FitsAt X o (record { seat = seated b j (turned (Z X) b j); mail = b.mail; shelf = shelved j (turned (Z X) b j) (slot_for b q) }))
      (sym (fun_ext grows))
      (record {
        seats = put_all (λ s (t : Seat). s < X.desks → RowFits X (ahead j) X.seat_lag t.row) b.seat j
            (record { started = true; row = turned (Z X) b j }) (λ m. turned_fits j l)
            (λ s ne m. reset_row j X.seat_lag (b.seat s).row l (omega (arith, ok.mailed)) (w.seats s m)
            (eqb-false _ _ (rw (ne_eqb s j ne) at (n.1 s m))));
        unstarted = put_all (λ s (t : Seat). t.started ≡ false → t.row ≡ zeros) b.seat j
            (record { started = true; row = turned (Z X) b j }) (λ z. absurd (true≢false z)) (λ s ne. w.unstarted s);
        beyond = put_all (λ s (t : Seat). X.desks ≤ s → t ≡ idle) b.seat j
            (record { started = true; row = turned (Z X) b j }) (λ z. absurd (omega (arith, l))) (λ s ne. w.beyond s);
        mail = λ p. reset_mail j p l (b.mail p) (w.mail p) (n.2 p);
        shelf =
            kept_fits (ahead j) j (turned (Z X) b j) (slot_for b q) l n.4 (turned_fits j l)
            (λ s. reset_slot j s l (b.shelf s) (w.shelf s) (n.3 s));
      })
    where
      n : (j < X.desks) × ((s : ℕ) → s < X.desks → seat_lags (Z X) b j X.seat_lag s ≡ false)
          × ((p : ℕ) → p < 32 → lags (Z X) b j (2 * X.seat_lag) (b.mail p) ≡ false)
          × ((p : ℕ) → p < 32 → lags (Z X) b j X.shelf_lag (b.shelf p) ≡ false)
          × Each (λ s. s < 32) (slot_for b q)
      n = no_reset (Z X) X b j q e

      l : j < X.desks
      l = n.0

      grows : (k : ℕ) → ((seated b j (turned (Z X) b j) k).row k).phase ≡ ahead j k
      grows =
          put_both (λ k (s : Seat) o. (s.row k).phase ≡ o) b.seat (phases b) j
          (record { started = true; row = turned (Z X) b j }) (next_of X.phases (phases b j))
          (ap (λ (q : Pair). q.phase) (put_same (b.seat j).row j (turn (Z X) (own b j)))) (λ k ne. refl)

  pub done_fits : (c : Act) → why (Z X) X b c ≡ 0 → Fits X (done (Z X) X b c).tables
  unfolding done
  done_fits (local j q) e =
      let n = no_local (Z X) X b j q e in
      quiet j (grown b j) (slot_for b q) b.mail n.0 n.2 (ap (λ (q : Pair). q.phase) (put_same (b.seat j).row j (tick (own b j))))
      (grown_fits j n.0 n.1) w.mail
  done_fits (send j k q) e =
      let n = no_send (Z X) X b j k q e in
      quiet j (grown b j) (slot_for b q) _ n.0 n.5 (ap (λ (q : Pair). q.phase) (put_same (b.seat j).row j (tick (own b j))))
      (grown_fits j n.0 n.1)
      (put_all (λ p o. Each (MailFits X (phases b) p) o) b.mail (free_mail b) (some record { by = j; to = k; row = grown b j })
      (record {
        place = n.2;
        by = n.0;
        to = n.3;
        differ = n.4;
        row = wider X (phases b) X.seat_lag (2 * X.seat_lag) (grown b j) (omega arith) (grown_fits j n.0 n.1);
      })
      (λ p ne. w.mail p))
  done_fits (receive j p q) e =
      let n = no_receive (Z X) X b j p q e in
      quiet j (merged (Z X) b j (row_in (b.mail p))) (slot_for b q) _ n.0 n.4
      (ap (λ (q : Pair). q.phase)
      (put_same (λ k. (taken (Z X) b j (row_in (b.mail p)) k).pair) j (tick (own b j))))
      (merged_fits j (row_in (b.mail p)) (2 * X.seat_lag) n.0 n.2 (mail_row p n.1))
      (put_all (λ p o. Each (MailFits X (phases b) p) o) b.mail p none tt (λ p ne. w.mail p))
  done_fits (reset j q) e = reset_fits j q e
  done_fits (drop s) e =
      record {
        seats = w.seats;
        unstarted = w.unstarted;
        beyond = w.beyond;
        mail = w.mail;
        shelf = put_all (λ s o. Each (SlotFits X (phases b) s) o) b.shelf s none tt (λ s ne. w.shelf s);
      }
  done_fits (discard p) e =
      record {
        seats = w.seats;
        unstarted = w.unstarted;
        beyond = w.beyond;
        mail = put_all (λ p o. Each (MailFits X (phases b) p) o) b.mail p none tt (λ p ne. w.mail p);
        shelf = w.shelf;
      }
  done_fits (ask q) e = w

  pub step_fits : (c : Act) → Fits X (step (Z X) X b c).tables
  unfolding step
  step_fits c = go (why (Z X) X b c) refl
    where
      go : (n : ℕ) → why (Z X) X b c ≡ n → Fits X (settle n b (done (Z X) X b c)).tables
      go zero e = done_fits c e
      go (suc n) e = w
