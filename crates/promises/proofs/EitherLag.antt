-- No answer hangs on which of the two lags is taken, the handbook's or the remainder: a call asks that the book is sound, and a call
-- off the book that its records read, before it asks for a lag.
-- Assumes nothing.
use Prim.Native.Nat.{ℕ, ◌*◌, ◌<◌, ◌≤◌}
use mathlib.Core.Path.{◌≡◌, refl, ap}
use mathlib.Core.Bool.{true}
use mathlib.Core.Option.{Option, none, some}
use mathlib.Core.List.{List}
use mathlib.Core.Logic.{⊎_elim}
use native.Mathlib.Omega.{arith}
use Rattle.tools.specs.Tables.{Each}
use Rattle.tools.proofs.Tests.{lt_or_le}
use Rattle.ring.specs.Phases.{Pair, ring, lag_of}
use Rattle.ring.specs.Remainder.{remainder_of, remainders}
use Rattle.ring.proofs.Ring.{lag_remainder}
use Rattle.rules.specs.Setups.{Setup, permits}
use Rattle.rules.specs.Model.{Row, Seat, Held, Tables, Label, own, phases}
use Rattle.rules.specs.Calls.{Call, start, on, turn_of, call}
use Rattle.rules.proofs.Setups.{Permitted, permitted}
use Rattle.history.proofs.Map.{Agrees, Keeps, KeepsAll}
use Rattle.history.proofs.Lags.{same, step_same}
use Rattle.book.specs.Fits.{PairFits, RowFits, MailFits, SlotFits, Fits}
use Rattle.book.specs.Layout.{setup_of}
use Rattle.book.specs.Codec.{decode}
use Rattle.book.specs.Stamps.{read_stamp}
use Rattle.book.specs.Answers.{admits, turn_on}
use Rattle.book.proofs.Soundness.{sound_setup, sound_fits}
use Rattle.labels.proofs.Records.{pair_below, read_readable}

module _ (X : Setup) (ok : Permitted X) (b : Tables) (w : Fits X b) where
  -- every phase that fits is one of the ring, and so is each own phase
  on_ring : (o B k : ℕ) (q : Pair) → PairFits X o B k q → q.phase < X.phases
  on_ring o B k q f =
      let m = ok.mailed in
      ⊎_elim (λ (l : k < X.desks). (f.0 l).phase) (λ (l : X.desks ≤ k). rw (f.1 l) (omega arith)) (lt_or_le k X.desks)

  own_on_ring : (k : ℕ) → phases b k < X.phases
  own_on_ring k =
      on_ring (phases b k) X.seat_lag k (own b k)
      (λ l. (w.seats k l k).0 l, λ l. ap (λ (s : Seat). s.row k) (w.beyond k l))

  row_either : (B : ℕ) (r : Row) → RowFits X (phases b) B r
      → (k : ℕ) → Keeps (ring X.phases) (remainders X.phases) same b k (r k).phase
  row_either B r f k =
      lag_remainder X.phases (phases b k) (r k).phase (own_on_ring k) (on_ring (phases b k) B k (r k) (f k))

  held_either : (B : ℕ) (Q : Held → Type 0) → ((m : Held) → Q m → RowFits X (phases b) B m.row)
      → (o : Option Held) → Each Q o → Each (KeepsAll (ring X.phases) (remainders X.phases) same b) o
  held_either B Q row none f = tt
  held_either B Q row (some m) f = row_either B m.row (row m f)

  ring_agrees : Agrees (ring X.phases) (remainders X.phases) same X b
  ring_agrees =
      record {
        nexts = λ k v. refl;
        seats = λ s k l. row_either X.seat_lag (b.seat s).row (w.seats s l) k;
        mail = λ p. held_either (2 * X.seat_lag) (MailFits X (phases b) p) (λ m f. f.row) (b.mail p) (w.mail p);
        shelf = λ s. held_either X.shelf_lag (SlotFits X (phases b) s) (λ m f. f.row) (b.shelf s) (w.shelf s);
      }

-- NO TURN IS OTHERWISE: on bytes that a call admits, the same ones by `sound_remainder`, it answers and leaves the same by either lag.
pub turn_remainder : (s : List ℕ) (c : Call) → admits s c ≡ true → turn_on s c ≡ call (λ X. remainders X.phases) (decode s) c
unfolding admits call
turn_remainder s (start X) h = refl
turn_remainder s (on c) h =
    let X = setup_of s in
    let w = ring_agrees X (permitted X (sound_setup s h)) (decode s).tables (sound_fits s h) in
    ap (turn_of X) (step_same (ring X.phases) (remainders X.phases) X (decode s).tables w c)

-- NOR IS ANY OFF THE BOOK: of two records that read under a permitted setup, r is the remainder, at whichever desk it is asked.
pub off_remainder : (X : Setup) → permits X ≡ true → (a b : List ℕ) (e f : Label) → read_stamp X a ≡ some e → read_stamp X b ≡ some f
    → (j : ℕ) → j < X.desks
    → lag_of X.phases (f.row j).phase (e.row j).phase ≡ remainder_of X.phases (f.row j).phase (e.row j).phase
off_remainder X fair a b e f ra rb j l =
    let few = (permitted X fair).few in
    let pe = (pair_below X j (e.row j) ((read_readable X few a e ra).row j) l).0 in
    let pf = (pair_below X j (f.row j) ((read_readable X few b f rb).row j) l).0 in
    lag_remainder X.phases (f.row j).phase (e.row j).phase pf pe
