-- The lanes of a sound book make its summary.
-- Assumes nothing.
--   summary_same    lags of eight desks that are the same make the same summary
--   lanes_even      lanes of one number each make that of desks that all lag alike
--   fresh_right     that is the summary of a fresh book
--   lanes_right     the lanes of a sound book make its summary
use Prim.Native.Nat.{ℕ, ◌+◌, ◌*◌, ◌-◌, ◌/◌, ◌≤◌, ◌<◌}
use mathlib.Core.Path.{◌≡◌, refl, sym, ap, ◌∙◌}
use mathlib.Core.Bool.{Bool, true, false}
use mathlib.Core.Option.{Option, none, some}
use mathlib.Core.List.{List}
use mathlib.Core.Logic.{⊎_elim}
use native.Mathlib.Omega.{arith}
use borrow.Author.Tests.{eq-eqb, ne_eqb, lt-ltb, le-ltb}
use lib.Dec.{ltb, eqb}
use lib.ListN.{replicate, take, drop, get_or-replicate}
use lib.Seq.{get_or-take, get_or-drop}
use Rattle.tools.specs.Tests.{pick, largest}
use Rattle.tools.specs.Tables.{Each}
use Rattle.tools.specs.Lists.{byte}
use Rattle.tools.proofs.Tests.{eq_or_ne, lt_or_le, pick_true, pick_false}
use Rattle.tools.proofs.Lists.{tab_same}
use Rattle.tools.proofs.Largest.{largest_cong, largest_zero}
use Rattle.ring.specs.Phases.{Phases, Pair, lag_of}
use Rattle.ring.proofs.Ring.{lag_self}
use Rattle.rules.specs.Setups.{Setup}
use Rattle.rules.specs.Model.{Row, Seat, Held, phases, zeros, fresh}
use Rattle.rules.specs.Calls.{ring_of, fresh_book}
use Rattle.book.specs.Layout.{phase_spot, setup_of, row_at}
use Rattle.book.specs.Sound.{sound}
use Rattle.book.specs.Codec.{decode}
use Rattle.book.specs.Fits.{RowFits, MailFits, SlotFits, Fits}
use Rattle.book.specs.Numbers.{tables_of}
use Rattle.book.proofs.Told.{own_at, seat_row, read_at, few_desks}
use Rattle.book.proofs.Soundness.{sound_fits}
use Rattle.reasons.specs.Held.{lag_in}
use Rattle.summary.specs.Summary.{Lags, level, seat_lag, held_lag, lags_of, summary_byte, summary_with, summary_of}
use Rattle.summary.specs.Lanes.{Lanes, seats_most, Both, lags_by}

pub summary_same : (f g : ℕ → Lags) → ((j : ℕ) → j < 8 → f j ≡ g j) → summary_with f ≡ summary_with g
unfolding summary_with summary_byte
summary_same f g h = tab_same 26 (summary_byte f) (summary_byte g) (λ i l. rw (h ((i - 2) / 3) (omega arith)))

-- lanes of one number each
pub lanes_even : (x y z : ℕ) → summary_with (lags_by (replicate 16 x) (replicate 16 y) (replicate 16 z))
    ≡ summary_with (λ j. record { seats = x; mail = y; shelf = z })
lanes_even x y z =
    summary_same (lags_by (replicate 16 x) (replicate 16 y) (replicate 16 z)) (λ j. record { seats = x; mail = y; shelf = z })
    (λ j l i. record { seats = even x j l i; mail = even y j l i; shelf = even z j l i })
  where
    even : (x j : ℕ) → j < 8 → byte (replicate 16 x) (phase_spot j) ≡ x
    even x j l = get_or-replicate 16 (phase_spot j) x 0 (omega arith)

-- in a fresh book nothing lags, in any arithmetic in which a phase does not lag behind itself
module _ (Z : Phases) (e : Z.lag 0 0 ≡ 0) (X : Setup) where
  fresh_seat : (j k : ℕ) → seat_lag Z fresh j k ≡ 0
  fresh_seat j k = go (eqb k j)
    where
      go : (t : Bool) → pick t 0 (Z.lag 0 0) ≡ 0
      go true = refl
      go false = e

  pub fresh_level : (j : ℕ) → level ≡ lags_of Z X fresh j
  unfolding lags_of
  fresh_level j = sym (go (ltb j X.desks))
    where
      go : (t : Bool) → pick t (record {
        seats = largest X.desks (seat_lag Z fresh j);
        mail = largest 32 (λ p. held_lag Z fresh j (fresh.mail p));
        shelf = largest 32 (λ s. held_lag Z fresh j (fresh.shelf s));
      }) level ≡ level
      go false = refl
      go true =
          let a = largest_zero X.desks (seat_lag Z fresh j) (λ k l. fresh_seat j k) in
          let b = largest_zero 32 (λ p. held_lag Z fresh j (fresh.mail p)) (λ p l. refl) in
          let d = largest_zero 32 (λ s. held_lag Z fresh j (fresh.shelf s)) (λ s l. refl) in
          λ i. record { seats = a i; mail = b i; shelf = d i }

pub fresh_right : (X : Setup) → summary_with (λ j. level) ≡ summary_of ring_of (fresh_book X)
fresh_right X =
    summary_same (λ j. level) (lags_of (ring_of X) X fresh)
    (λ j l. fresh_level (ring_of X) (lag_self X.phases 0) X j)

module _ (s : List ℕ) (h : sound s ≡ true) where
  abbrev ringed : Phases
  ringed = ring_of (setup_of s)

  -- a seat, by its entry; a desk's own does not lag
  seat_is : (j k : ℕ) → j < 8 → k < 8 → lag_in s j k ≡ seat_lag ringed (tables_of s) j k
  seat_is j k lj lk =
      let o = ap (λ (q : Pair). q.phase) (own_at s j lj) in
      let v = ap (λ (r : Row). (r j).phase) (seat_row s k lk) ∙ ap (λ (q : Pair). q.phase) (read_at (row_at s k) j lj) in
      ⊎_elim (λ (e : k ≡ j). ap (lag_in s j) e ∙ lag_self (setup_of s).phases (row_at s j j).phase ∙ sym (pick_true _ _ _ (eq-eqb k j e)))
      (λ (e : k ≡ j → ⊥). sym (pick_false _ _ _ (ne_eqb k j e) ∙ (λ i. lag_of (setup_of s).phases (o i) (v i)))) (eq_or_ne k j)

  seats_is : (j : ℕ) → j < 8 → seats_most s j ≡ largest (setup_of s).desks (seat_lag ringed (tables_of s) j)
  seats_is j l =
      let few = few_desks s h in
      largest_cong (setup_of s).desks (lag_in s j) (seat_lag ringed (tables_of s) j) (λ k m. seat_is j k l (omega arith))

  -- where there is no desk nothing lags: every pair is zero
  module _ (j : ℕ) (l : (setup_of s).desks ≤ j) where
    fits : Fits (setup_of s) (tables_of s)
    fits = sound_fits s h

    own_none : phases (tables_of s) j ≡ 0
    own_none = ap (λ (t : Seat). (t.row j).phase) (fits.beyond j l)

    none_lags : (q : Pair) → q ≡ zeros j → ringed.lag (phases (tables_of s) j) q.phase ≡ 0
    none_lags q e = (λ i. ringed.lag (own_none i) (e i).phase) ∙ lag_self (setup_of s).phases 0

    no_seat_lags : (k : ℕ) → k < (setup_of s).desks → seat_lag ringed (tables_of s) j k ≡ 0
    no_seat_lags k m = go (eqb k j)
      where
        go : (t : Bool) → pick t 0 (ringed.lag (phases (tables_of s) j) (((tables_of s).seat k).row j).phase) ≡ 0
        go true = refl
        go false = none_lags (((tables_of s).seat k).row j) ((fits.seats k m j).1 l)

    no_held_lags : (o : Option Held) (B : ℕ) → Each (λ (w : Held). RowFits (setup_of s) (phases (tables_of s)) B w.row) o
        → held_lag ringed (tables_of s) j o ≡ 0
    no_held_lags none B f = refl
    no_held_lags (some w) B f = none_lags (w.row j) ((f j).1 l)

    mail_row : (p : ℕ) (o : Option Held) → Each (MailFits (setup_of s) (phases (tables_of s)) p) o
        → Each (λ (w : Held). RowFits (setup_of s) (phases (tables_of s)) (2 * (setup_of s).seat_lag) w.row) o
    mail_row p none f = tt
    mail_row p (some w) f = f.row

    slot_row : (p : ℕ) (o : Option Held) → Each (SlotFits (setup_of s) (phases (tables_of s)) p) o
        → Each (λ (w : Held). RowFits (setup_of s) (phases (tables_of s)) (setup_of s).shelf_lag w.row) o
    slot_row p none f = tt
    slot_row p (some w) f = f.row

    none_level : record {
      seats = largest (setup_of s).desks (seat_lag ringed (tables_of s) j);
      mail = largest 32 (λ p. held_lag ringed (tables_of s) j ((tables_of s).mail p));
      shelf = largest 32 (λ p. held_lag ringed (tables_of s) j ((tables_of s).shelf p));
    } ≡ level
    none_level =
        let a = largest_zero (setup_of s).desks (seat_lag ringed (tables_of s) j) no_seat_lags in
        let b = largest_zero 32 (λ p. held_lag ringed (tables_of s) j ((tables_of s).mail p))
        (λ p m. no_held_lags ((tables_of s).mail p) _ (mail_row p ((tables_of s).mail p) (fits.mail p))) in
        let d = largest_zero 32 (λ p. held_lag ringed (tables_of s) j ((tables_of s).shelf p))
        (λ p m. no_held_lags ((tables_of s).shelf p) _ (slot_row p ((tables_of s).shelf p) (fits.shelf p))) in
        λ i. record { seats = a i; mail = b i; shelf = d i }

  module _ (a b : List ℕ) (ha : Lanes 8 (seats_most s) a) (hb : Both s b) where
    lags_are : (j : ℕ) → j < 8 → lags_by a (take 16 b) (take 16 (drop 16 b)) j ≡ lags_of ringed (setup_of s) (tables_of s) j
    unfolding lags_of
    lags_are j l =
        let first : phase_spot j ≡ 16 * 0 + phase_spot j = omega arith in
        let x = ha.at j l ∙ seats_is j l in
        let y = get_or-take 16 b (phase_spot j) 0 (omega arith) ∙ ap (byte b) first ∙ hb.at 0 j (omega arith) l in
        let z = get_or-take 16 (drop 16 b) (phase_spot j) 0 (omega arith) ∙ get_or-drop 16 b (phase_spot j) 0 ∙ hb.at 1 j (omega arith) l in
        let all : lags_by a (take 16 b) (take 16 (drop 16 b)) j ≡ (record {
          seats = largest (setup_of s).desks (seat_lag ringed (tables_of s) j);
          mail = largest 32 (λ p. held_lag ringed (tables_of s) j ((tables_of s).mail p));
          shelf = largest 32 (λ p. held_lag ringed (tables_of s) j ((tables_of s).shelf p));
        }) = λ i. record { seats = x i; mail = y i; shelf = z i } in
        all
        ∙ ⊎_elim (λ (m : j < (setup_of s).desks). sym (pick_true _ _ _ (lt-ltb j (setup_of s).desks m)))
        (λ (m : (setup_of s).desks ≤ j). none_level j m ∙ sym (pick_false _ _ _ (le-ltb j (setup_of s).desks m)))
        (lt_or_le j (setup_of s).desks)

    pub lanes_right : summary_with (lags_by a (take 16 b) (take 16 (drop 16 b))) ≡ summary_of ring_of (decode s)
    lanes_right = summary_same (lags_by a (take 16 b) (take 16 (drop 16 b))) (lags_of ringed (setup_of s) (tables_of s)) lags_are
