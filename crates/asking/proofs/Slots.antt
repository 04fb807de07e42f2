-- A used slot of a sound book: its owner, its row, and the way from one to another.
-- Assumes nothing.
use Prim.Native.Nat.{ℕ, ◌+◌, ◌-◌, ◌<◌, ◌≤◌}
use mathlib.Core.Path.{◌≡◌, sym, ap, ◌∙◌}
use mathlib.Core.Bool.{true, false}
use mathlib.Core.Option.{some}
use mathlib.Core.List.{List}
use native.Mathlib.Omega.{arith}
use borrow.Author.Tests.{eqb-false, ne_eqb, lt-ltb, not-true}
use Rattle.tools.specs.Lists.{byte}
use Rattle.tools.proofs.Tests.{not_off}
use Rattle.ring.specs.Phases.{Pair, lag_gap}
use Rattle.rules.specs.Setups.{Setup}
use Rattle.rules.specs.Model.{by_in, row_in, no_slot, near, gap, gap_held, gap_from}
use Rattle.rules.specs.Calls.{ring_of}
use Rattle.rules.proofs.Setups.{permitted}
use Rattle.book.specs.Layout.{tag_a_spot, shelf_from, row_spot, clock_spot, spot, setup_of, row_at}
use Rattle.book.specs.Sound.{sound}
use Rattle.book.specs.Codec.{read_row}
use Rattle.book.specs.Numbers.{tables_of}
use Rattle.book.proofs.Soundness.{held_in, sound_setup, sound_slot}
use Rattle.book.proofs.Told.{own_at, read_at, few_desks}
use Rattle.reasons.specs.Held.{used_at, lag_in}
use Rattle.reasons.proofs.Held.{used_below, used_tag}
use Rattle.asking.specs.Slots.{WayBetween}

-- a slot that is used
module _ (s : List ℕ) (i : ℕ) (n : no_slot (tables_of s) i ≡ false) where
  there : used_at s shelf_from i ≡ true
  there = not_off (used_at s shelf_from i) n

  pub slot_place : i < 32
  slot_place = used_below s shelf_from i there

  pub slot_used : byte s (spot (shelf_from + i) tag_a_spot) ≡ 0 → ⊥
  slot_used = eqb-false (byte s (spot (shelf_from + i) tag_a_spot)) 0 (not-true _ (used_tag s shelf_from i slot_place ∙ there))

  slot_held : (tables_of s).shelf i
      ≡ some (held_in s (shelf_from + i))
  slot_held = rw (lt-ltb i 32 slot_place, ne_eqb (byte s (spot (shelf_from + i) tag_a_spot)) 0 slot_used)

  pub slot_by : by_in ((tables_of s).shelf i) ≡ byte s (spot (shelf_from + i) tag_a_spot) - 1
  slot_by = ap by_in slot_held

  pub slot_row : row_in ((tables_of s).shelf i) ≡ read_row (row_at s (shelf_from + i))
  slot_row = ap row_in slot_held

  -- in a sound book
  pub slot_eight : sound s ≡ true → by_in ((tables_of s).shelf i) < 8
  slot_eight h =
      let b = (sound_slot s h i slot_place).by in
      omega (arith, b, slot_by, slot_used, few_desks s h)

-- the way between two used slots, read at the number of the first one's owner
module _ (s : List ℕ) (h : sound s ≡ true) (i k : ℕ) (n : no_slot (tables_of s) i ≡ false) (m : no_slot (tables_of s) k ≡ false) where
  module _ (j : ℕ) (same : j ≡ by_in ((tables_of s).shelf i)) where
    desk : j < 8
    desk = omega (arith, same, slot_eight s i n h)

    gap_lags : gap_from (ring_of (setup_of s)) (setup_of s) (tables_of s) i k
        ≡ near (setup_of s) (byte s (spot (shelf_from + i) (row_spot + clock_spot j)))
        (record { up = lag_in s j (shelf_from + i); down = lag_in s j (shelf_from + k) })
    gap_lags =
        let by : byte s (spot (shelf_from + i) tag_a_spot) - 1 ≡ j = sym (same ∙ slot_by s i n) in
        (λ t. gap_held (ring_of (setup_of s)) (setup_of s) (tables_of s) (slot_held s i n t) (slot_held s k m t))
        ∙ ap (λ (d : ℕ). gap (ring_of (setup_of s)) (setup_of s) (tables_of s) d (read_row (row_at s (shelf_from + i)))
        (read_row (row_at s (shelf_from + k)))) by
        ∙ (λ t.
        near (setup_of s) (read_at (row_at s (shelf_from + i)) j desk t).clock
        (lag_gap (ring_of (setup_of s)) (own_at s j desk t).phase (read_at (row_at s (shelf_from + i)) j desk t)
        (read_at (row_at s (shelf_from + k)) j desk t)))

    clock_at : (p : ℕ) → no_slot (tables_of s) p ≡ false
        → byte s (spot (shelf_from + p) (row_spot + clock_spot j)) ≡ (row_in ((tables_of s).shelf p) (by_in ((tables_of s).shelf i))).clock
    clock_at p u =
        sym (ap (λ (q : Pair). q.clock) ((λ t. slot_row s p u t (sym same t)) ∙ read_at (row_at s (shelf_from + p)) j desk))

    pub way_lags : (up down from to : ℕ) → up ≡ lag_in s j (shelf_from + i) → down ≡ lag_in s j (shelf_from + k)
        → from ≡ byte s (spot (shelf_from + i) (row_spot + clock_spot j)) → to ≡ byte s (spot (shelf_from + k) (row_spot + clock_spot j))
        → WayBetween s i k (record { gap = record { up = up; down = down }; from = from; to = to })
    way_lags up down from to u d f t =
        record {
          gap = gap_lags ∙ (λ x. near (setup_of s) (sym f x) (record { up = sym u x; down = sym d x }));
          clocks = record { from = f ∙ clock_at i n; to = t ∙ clock_at k m };
        }

-- the reach, by the setup as it was read
module _ (s : List ℕ) (X : Setup) (same : X ≡ setup_of s) where
  pub reach_bytes : sound s ≡ true → (X.back ≤ 255) × (X.ahead ≤ 255)
  reach_bytes h = let p = permitted (setup_of s) (sound_setup s h) in rw same (omega arith)
