-- Two places of a list, by the table of its stamps.
-- Assumes nothing.
--   Places           two places of a list of used slots, and the table of its stamps
--   turned           the same two the other way round
--   owner_at_lem     the owner of the first
--   slot_at          the slot of the second is one of the shelf
--   on_ring          the phases that a lag is taken of are on the ring
--   lag_at           the lag of the second's pair for the first's desk
--   far_at           whether it is out of reach
--   far_pair, odd_pair   what a pair shows
--   far_none, odd_none   a place that is not above the other shows nothing
--   more_at, more_equal   whether the second knows more, where the lags differ and where they are equal
use Prim.Native.Nat.{ℕ, ◌+◌, ◌≤◌, ◌<◌}
use mathlib.Core.Path.{◌≡◌, refl, sym, ap, ◌∙◌}
use mathlib.Core.Bool.{Bool, false, ◌&&◌, ◌||◌}
use mathlib.Core.List.{List}
use native.Mathlib.Omega.{arith}
use borrow.Author.Tests.{eq-eqb, ne_eqb, lt-ltb, le-ltb}
use lib.Dec.{ltb}
use lib.ListN.{length, get_or}
use Rattle.tools.specs.Tests.{pick}
use Rattle.ring.specs.Phases.{lag_of}
use Rattle.ring.proofs.Ring.{lag_by_last}
use Rattle.rules.specs.Model.{by_in, is_out, gap_from, too_far, chosen}
use Rattle.rules.specs.Calls.{ring_of}
use Rattle.book.specs.Layout.{shelf_from, setup_of, row_at}
use Rattle.book.specs.Numbers.{tables_of}
use Rattle.book.proofs.Below.{phase_below}
use Rattle.asking.proofs.Slots.{slot_place}
use Rattle.reasons.specs.Held.{lag_in}
use Rattle.pictures.specs.declared.From.{From}
use Rattle.pictures.specs.Froms.{from_of, Table, Ready, lag_to, beyond, more_to}
use Rattle.pictures.specs.Pairs.{far, odd}
use Rattle.pictures.proofs.Ways.{owner_below, far_is, more_is}

-- two places of a list of used slots, t the table of its stamps
pub record Places (s l : List ℕ) (t : List From) (i k : ℕ) : Type 0 where
  pub ready : Ready s l
  pub table : Table s l (length l) t
  pub first : i < length l
  pub second : k < length l

-- the same two the other way round
pub turned : (s l : List ℕ) (t : List From) (i k : ℕ) → Places s l t i k → Places s l t k i
turned s l t i k p = record { ready = p.ready; table = p.table; first = p.second; second = p.first }

pub slot_at : (s l : List ℕ) (t : List From) (i k : ℕ) → Places s l t i k → chosen l k < 32
slot_at s l t i k p = slot_place s (chosen l k) (p.ready.used k p.second)

-- d is any stamp's: the table has the first
module _ (s l : List ℕ) (t : List From) (i k : ℕ) (p : Places s l t i k) (d : From) where
  abbrev its : From
  its = get_or t i d

  pub owner_at_lem : its.owner ≡ by_in ((tables_of s).shelf (chosen l i))
  unfolding from_of
  owner_at_lem = ap (λ (f : From). f.owner) (p.table.at i d p.first)

  abbrev desk : ℕ
  desk = by_in ((tables_of s).shelf (chosen l i))

  desk_below : desk < 8
  desk_below = owner_below s l p.ready i p.first

  own_at : its.own ≡ (row_at s desk desk).phase
  unfolding from_of
  own_at = ap (λ (f : From). f.own) (p.table.at i d p.first)

  abbrev up : ℕ
  up = lag_in s desk (shelf_from + chosen l i)

  -- whether the second knows more, by whether the lags are equal
  abbrev by : Bool → Bool
  by b = pick b (ltb (row_at s (shelf_from + chosen l i) desk).clock (row_at s (shelf_from + chosen l k) desk).clock) (ltb (lag_to s l i k) up)

  -- j is the first one's desk as it was read
  module _ (j : ℕ) (e : j ≡ its.owner) where
    same : j ≡ desk
    same = e ∙ owner_at_lem

    pub desk_eight : j < 8
    desk_eight = omega (arith, same, desk_below)

    on_ring : (row_at s (shelf_from + chosen l k) j).phase < (setup_of s).phases
    on_ring = phase_below s p.ready.whole (shelf_from + chosen l k) j (omega (arith, slot_at s l t i k p)) desk_eight

    pub lag_at : (last v r : ℕ) → last + 1 ≡ (setup_of s).phases → v ≡ (row_at s (shelf_from + chosen l k) j).phase
        → (v ≤ last → r ≡ lag_of (last + 1) (its.own) v) → r ≡ lag_to s l i k
    lag_at last v r x y z =
        lag_by_last (setup_of s).phases last _ v r x (rw y on_ring) z
        ∙ (λ u. lag_of (setup_of s).phases (own_at u) ((y ∙ ap (λ d. (row_at s (shelf_from + chosen l k) d).phase) same) u))

    -- the clocks decide where the lags are equal
    pub more_equal : (lag c : ℕ) (r : Bool) → lag ≡ lag_to s l i k → lag ≡ its.up
        → c ≡ (row_at s (shelf_from + chosen l k) j).clock → r ≡ ltb (its.clock) c → r ≡ more_to s l i k
    unfolding from_of
    more_equal lag c r g h x y =
        let u = ap (λ (f : From). f.up) (p.table.at i d p.first) in
        let w = ap (λ (f : From). f.clock) (p.table.at i d p.first) in
        y ∙ (λ z. ltb (w z) ((x ∙ ap (λ d. (row_at s (shelf_from + chosen l k) d).clock) same) z))
        ∙ ap by (sym (eq-eqb (lag_to s l i k) up (sym g ∙ h ∙ u)))
        ∙ sym (more_is s l p.ready i k p.first p.second)

  pub more_at : (lag : ℕ) (r : Bool) → lag ≡ lag_to s l i k → (lag ≡ its.up → ⊥) → r ≡ ltb lag (its.up)
      → r ≡ more_to s l i k
  unfolding from_of
  more_at lag r g ne y =
      let u = ap (λ (f : From). f.up) (p.table.at i d p.first) in
      y ∙ (λ z. ltb (g z) (u z)) ∙ ap by (sym (ne_eqb (lag_to s l i k) up (λ q. ne (g ∙ q ∙ sym u))))
      ∙ sym (more_is s l p.ready i k p.first p.second)

  pub far_at : (lag : ℕ) (r : Bool) → lag ≤ 255 → lag ≡ lag_to s l i k
      → r ≡ beyond its lag
      → r ≡ is_out (gap_from (ring_of (setup_of s)) (setup_of s) (tables_of s) (chosen l i) (chosen l k))
  far_at lag r b g y =
      let low = ap (λ (f : From). f.least) (p.table.at i d p.first) in
      let high = ap (λ (f : From). f.most) (p.table.at i d p.first) in
      y ∙ (λ z. ltb (g z) (low z) || ltb (high z) (g z))
      ∙ far_is s l p.ready i k p.first p.second (omega arith)

-- what the pair shows, the first place being the lower
module _ (s l : List ℕ) (t : List From) (i k : ℕ) (p : Places s l t i k) (b : i < k) where
  pub far_pair : (d : From) (there back : ℕ) (r : Bool) → there ≤ 255 → back ≤ 255
      → there ≡ lag_to s l i k → back ≡ lag_to s l k i
      → r ≡ (beyond (get_or t i d) there || beyond (get_or t k d) back) → r ≡ far s l i k
  far_pair d there back r f g x y e =
      e ∙ (λ z. far_at s l t i k p d there _ f x refl z || far_at s l t k i (turned s l t i k p) d back _ g y refl z)
      ∙ ap (λ u. u && too_far (ring_of (setup_of s)) (setup_of s) (tables_of s) (chosen l i) (chosen l k)) (sym (lt-ltb i k b))

  pub odd_pair : (r : Bool) → r ≡ (more_to s l i k || more_to s l k i) → r ≡ odd s l i k
  odd_pair r e = e ∙ ap (λ u. u && (more_to s l i k || more_to s l k i)) (sym (lt-ltb i k b))

-- no place is above itself or a higher one
pub far_none : (s l : List ℕ) (i k : ℕ) → k < i + 1 → far s l i k ≡ false
far_none s l i k q =
    ap (λ u. u && too_far (ring_of (setup_of s)) (setup_of s) (tables_of s) (chosen l i) (chosen l k)) (le-ltb i k (omega arith))

pub odd_none : (s l : List ℕ) (i k : ℕ) → k < i + 1 → odd s l i k ≡ false
odd_none s l i k q = ap (λ u. u && (more_to s l i k || more_to s l k i)) (le-ltb i k (omega arith))
