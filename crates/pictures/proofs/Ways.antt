-- The ways between the stamps of a list, by their table.
-- Assumes nothing.
--   reach_bytes, back_bytes   the reach of a sound book's setup fits a byte
--   from_is       what is fetched of a stamp
--   owner_below   an owner is one of the eight
--   far_is        out of reach, by the least and the largest lag within reach
--   more_is       whether one knows more, by the lags and the clocks
use Prim.Native.Nat.{ℕ, ◌+◌, ◌-◌, ◌<◌, ◌≤◌}
use mathlib.Core.Path.{◌≡◌, refl, sym, ap, ◌∙◌}
use mathlib.Core.Bool.{Bool, true, false, ◌||◌}
use mathlib.Core.List.{List}
use native.Mathlib.Omega.{arith}
use lib.Dec.{ltb, eqb}
use lib.ListN.{length}
use Rattle.tools.specs.Tests.{pick}
use Rattle.ring.specs.Phases.{is_later}
use Rattle.rules.specs.Model.{by_in, row_in, reach_back, is_out, gap_from, chosen}
use Rattle.rules.specs.Setups.{Setup}
use Rattle.rules.specs.Calls.{ring_of}
use Rattle.rules.proofs.Setups.{permitted, ranged, permits_range}
use Rattle.book.specs.Layout.{shelf_from, setup_of, row_at}
use Rattle.book.specs.Sound.{sound}
use Rattle.book.specs.Numbers.{tables_of}
use Rattle.book.proofs.Soundness.{sound_setup}
use Rattle.book.proofs.Told.{own_at, read_at}
use Rattle.asking.proofs.Slots.{slot_row, slot_eight, way_lags}
use Rattle.reasons.specs.Held.{lag_in}
use Rattle.pictures.specs.Froms.{most_by, from_of, Ready, lag_to, more_to}
use Rattle.pictures.proofs.Reached.{band_near, later_if}

-- how far the setup reaches, as it was read: ahead, and back, also from a reset
pub reach_bytes : (s : List ℕ) (X : Setup) → X ≡ setup_of s → sound s ≡ true
    → ((1 ≤ X.ahead) × (X.ahead ≤ 255)) × ((1 ≤ X.back) × (X.back + 1 ≤ 255))
reach_bytes s X same h = let r = ranged (setup_of s) (permits_range (setup_of s) (sound_setup s h)) in rw same (omega arith)

pub back_bytes : (X : Setup) (t : Bool) (r : ℕ) → r ≡ reach_back X t → (1 ≤ X.back) × (X.back + 1 ≤ 255) → (1 ≤ r) × (r ≤ 255)
unfolding reach_back
back_bytes X true r e h = omega arith
back_bytes X false r e h = omega arith

-- what is fetched of a stamp, read at the number of its owner
module _ (s : List ℕ) (k : ℕ) (X : Setup) (same : X ≡ setup_of s) (j : ℕ) (by : j ≡ by_in ((tables_of s).shelf k)) where
  pub from_is : (owner own up clock least most : ℕ) → owner ≡ by_in ((tables_of s).shelf k) → own ≡ (row_at s j j).phase
      → up ≡ lag_in s j (shelf_from + k) → clock ≡ (row_at s (shelf_from + k) j).clock → least ≡ up + 1 - X.ahead
      → (back : ℕ) → back ≡ reach_back X (eqb clock 0) → most ≡ most_by up back
      → record { owner = owner; own = own; up = up; clock = clock; least = least; most = most } ≡ from_of s k
  unfolding from_of
  from_is owner own up clock least most o w u c e back b m =
      let u' : up ≡ lag_in s (by_in ((tables_of s).shelf k)) (shelf_from + k) = u ∙ ap (λ i. lag_in s i (shelf_from + k)) by in
      let c' : clock ≡ (row_at s (shelf_from + k) (by_in ((tables_of s).shelf k))).clock = c ∙ ap (λ i. (row_at s (shelf_from + k) i).clock) by in
      let w' : own ≡ (row_at s (by_in ((tables_of s).shelf k)) (by_in ((tables_of s).shelf k))).phase = w ∙ ap (λ i. (row_at s i i).phase) by in
      let b' = b ∙ (λ t. reach_back (same t) (eqb (c' t) 0)) in
      λ t. record {
        owner = o t;
        own = w' t;
        up = u' t;
        clock = c' t;
        least = (e ∙ (λ t. u' t + 1 - (same t).ahead)) t;
        most = (m ∙ (λ t. most_by (u' t) (b' t))) t;
      }

module _ (s l : List ℕ) (r : Ready s l) where
  pub owner_below : (i : ℕ) → i < length l → by_in ((tables_of s).shelf (chosen l i)) < 8
  owner_below i a = slot_eight s (chosen l i) (r.used i a) r.whole

  -- a pair of a stamp, where it stands
  pair_at : (p : ℕ) → p < length l → (j : ℕ) → j < 8 → row_in ((tables_of s).shelf (chosen l p)) j ≡ row_at s (shelf_from + chosen l p) j
  pair_at p q j d = (λ t. slot_row s (chosen l p) (r.used p q) t j) ∙ read_at (row_at s (shelf_from + chosen l p)) j d

  module _ (i k : ℕ) (a : i < length l) (b : k < length l) where
    abbrev from : ℕ
    from = chosen l i

    abbrev desk : ℕ
    desk = by_in ((tables_of s).shelf from)

    abbrev up : ℕ
    up = lag_in s desk (shelf_from + from)

    abbrev clock : ℕ
    clock = (row_at s (shelf_from + from) desk).clock

    pub far_is : lag_to s l i k ≤ 255
        → (ltb (lag_to s l i k) (from_of s from).least || ltb (from_of s from).most (lag_to s l i k))
        ≡ is_out (gap_from (ring_of (setup_of s)) (setup_of s) (tables_of s) from (chosen l k))
    unfolding from_of
    far_is h =
        band_near up (lag_to s l i k) (setup_of s) clock (permitted (setup_of s) (sound_setup s r.whole)).back h
        ∙ ap is_out (sym (way_lags s r.whole from (chosen l k) (r.used i a) (r.used k b) desk refl _ _ _ _ refl refl refl refl).gap)

    pub more_is : more_to s l i k
        ≡ pick (eqb (lag_to s l i k) up) (ltb clock (row_at s (shelf_from + chosen l k) desk).clock) (ltb (lag_to s l i k) up)
    more_is =
        let d = owner_below i a in
        (λ t. is_later (ring_of (setup_of s)) (own_at s desk d t).phase (pair_at k b desk d t) (pair_at i a desk d t))
        ∙ later_if up (lag_to s l i k) clock (row_at s (shelf_from + chosen l k) desk).clock
