-- Sixteen bytes with a number for each desk, as they are filled and as the larger is taken.
-- Assumes nothing.
--   Widened l₀ f c l   l has, below the byte c, the larger of the lane in l₀ and f; from there on l₀'s
use Prim.Native.Nat.{ℕ, max, ◌+◌, ◌*◌, ◌-◌, ◌≤◌, ◌<◌}
use mathlib.Core.Path.{◌≡◌, sym, ap, subst, ◌∙◌}
use mathlib.Core.Bool.{true}
use mathlib.Core.List.{List, ◌++◌}
use mathlib.Core.Logic.{⊎_elim}
use native.Mathlib.Omega.{arith}
use native.Mathlib.Nat.{not-suc-le-zero}
use lib.Dec.{ltb}
use lib.ListN.{length, set, take, drop, length-set, length-take, length-drop, length-replicate, replicate}
use lib.Seq.{get_or-set_same, get_or-set_other, get_or-take, get_or-drop}
use borrow.Rule.Slice.PartMut.{put_mid, Post-is}
use borrow.Author.Tests.{lt-ltb, le-ltb, eq-eqb, ne_eqb}
use Rattle.tools.specs.Tests.{pick, larger, largest}
use Rattle.tools.specs.Lists.{byte, mid}
use Rattle.tools.proofs.Lists.{zero_at, mid_length, mid_in, mid_other}
use Rattle.tools.proofs.Largest.{larger_second, larger_first, largest_none, largest_next}
use Rattle.tools.proofs.Tests.{eq_or_ne, same_by_lem, pick_true, pick_false, lt_or_le}
use Rattle.ring.specs.Phases.{lag_of}
use Rattle.ring.proofs.Ring.{lag_by_last}
use Rattle.book.specs.Layout.{phase_spot, clock_spot, tag_a_spot, spot, row_at, setup_of}
use Rattle.book.specs.Sound.{sound}
use Rattle.book.proofs.Below.{phase_below}
use Rattle.book.proofs.Told.{own_at, read_at}
use Rattle.reasons.specs.Held.{lag_in}
use Rattle.summary.specs.Lanes.{Lanes, own_phase_at, place_lag, held_most, Both}

-- the larger of two numbers, as the code takes it
pub larger_max : (a b : ℕ) → max a b ≡ larger a b
larger_max a b =
    ⊎_elim (λ (h : a < b). omega (arith, larger_second a b h)) (λ (h : b ≤ a). omega (arith, larger_first a b h)) (lt_or_le a b)

pub lanes_none : (f : ℕ → ℕ) (l : List ℕ) → length l ≡ 16 → Lanes 0 f l
lanes_none f l e = record { size = e; at = λ j m. absurd (not-suc-le-zero m) }

-- one more pair, at the places p and q, of which the phase is a lane
pub lanes_more : (f : ℕ → ℕ) (n : ℕ) (l : List ℕ) (p q v w : ℕ) → n < 8 → Lanes n f l → p ≡ phase_spot n → q ≡ clock_spot n → v ≡ f n
    → Lanes (n + 1) f (set (set l p v) q w)
lanes_more f n l p q v w m h ep eq ev =
    record {
      size = length-set (set l p v) q w ∙ length-set l p v ∙ h.size;
      at = λ j k. get_or-set_other (set l p v) q (phase_spot j) w 0 (omega arith) ∙ there j k;
    }
  where
    there : (j : ℕ) → j < n + 1 → byte (set l p v) (phase_spot j) ≡ f j
    there j k =
        ⊎_elim (λ (e : j ≡ n).
        let here : phase_spot j ≡ p = omega arith in
        ap (byte (set l p v)) here ∙ get_or-set_same l p v 0 (omega (arith, h.size)) ∙ ev ∙ ap f (sym e))
        (λ (e : j ≡ n → ⊥). get_or-set_other l p (phase_spot j) v 0 (omega (arith, e)) ∙ h.at j (omega (arith, e))) (eq_or_ne j n)

pub record Widened (l₀ : List ℕ) (f : ℕ → ℕ) (c : ℕ) (l : List ℕ) : Type 0 where
  pub size : length l ≡ 16
  pub at : (j : ℕ) → j < 8
      → byte l (phase_spot j) ≡ pick (ltb (phase_spot j) c) (larger (byte l₀ (phase_spot j)) (f j)) (byte l₀ (phase_spot j))

pub widened_none : (l : List ℕ) (f : ℕ → ℕ) → length l ≡ 16 → Widened l f 0 l
widened_none l f e = record { size = e; at = λ j m. sym (pick_false _ _ _ (le-ltb (phase_spot j) 0 (omega arith))) }

module _ (l₀ : List ℕ) (f : ℕ → ℕ) (c : ℕ) (l : List ℕ) (h : Widened l₀ f c l) where
  -- what stands at a lane is still as it was when its turn comes
  pub widened_here : (j : ℕ) → j < 8 → c ≡ phase_spot j → byte l c ≡ byte l₀ (phase_spot j)
  widened_here j m e = ap (byte l) e ∙ h.at j m ∙ pick_false _ _ _ (le-ltb (phase_spot j) c (omega arith))

  -- the next byte, which is right where it is a lane
  pub widened_more : (v : ℕ) → c < 16 → ((j : ℕ) → j < 8 → c ≡ phase_spot j → v ≡ larger (byte l₀ (phase_spot j)) (f j))
      → Widened l₀ f (c + 1) (set l c v)
  widened_more v m e = record { size = length-set l c v ∙ h.size; at = there }
    where
      there : (j : ℕ) → j < 8 → byte (set l c v) (phase_spot j)
          ≡ pick (ltb (phase_spot j) (c + 1)) (larger (byte l₀ (phase_spot j)) (f j)) (byte l₀ (phase_spot j))
      there j k =
          ⊎_elim (λ (q : c ≡ phase_spot j).
          ap (byte (set l c v)) (sym q) ∙ get_or-set_same l c v 0 (omega (arith, h.size)) ∙ e j k q
          ∙ sym (pick_true _ _ _ (lt-ltb (phase_spot j) (c + 1) (omega (arith, q)))))
          (λ (q : c ≡ phase_spot j → ⊥).
          get_or-set_other l c (phase_spot j) v 0 (omega (arith, q)) ∙ h.at j k
          ∙ ap (λ t. pick t (larger (byte l₀ (phase_spot j)) (f j)) (byte l₀ (phase_spot j))) (beside j q)) (eq_or_ne c (phase_spot j))
        where
          beside : (j : ℕ) → (c ≡ phase_spot j → ⊥) → ltb (phase_spot j) c ≡ ltb (phase_spot j) (c + 1)
          beside j q =
              ⊎_elim (λ (k : phase_spot j < c). lt-ltb (phase_spot j) c k ∙ sym (lt-ltb (phase_spot j) (c + 1) (omega arith)))
              (λ (k : c ≤ phase_spot j). le-ltb (phase_spot j) c k ∙ sym (le-ltb (phase_spot j) (c + 1) (omega (arith, q))))
              (lt_or_le (phase_spot j) c)

pub widened_all : (l₀ : List ℕ) (f : ℕ → ℕ) (l : List ℕ) → Widened l₀ f 16 l
    → Lanes 8 (λ j. larger (byte l₀ (phase_spot j)) (f j)) l
widened_all l₀ f l h =
    record { size = h.size; at = λ j m. h.at j m ∙ pick_true _ _ _ (lt-ltb (phase_spot j) 16 (omega arith)) }

pub lanes_zero : Lanes 8 (λ j. 0) (replicate 16 0)
lanes_zero = record { size = length-replicate {A = ℕ} 16 0; at = λ j m. zero_at 16 (phase_spot j) }

-- the lag in a lane of a row of a sound book
pub lane_lag : (s : List ℕ) → sound s ≡ true → (own : List ℕ) → Lanes 8 (own_phase_at s) own → (k j c : ℕ) → k < 72 → j < 8 → c ≡ phase_spot j
    → (o v last r : ℕ) → o ≡ byte own c → v ≡ byte s (spot k (4 + c)) → last + 1 ≡ (setup_of s).phases
    → (v ≤ last → r ≡ lag_of (last + 1) o v) → r ≡ lag_in s j k
lane_lag s h own w k j c lk lj ec o v last r eo ev el er =
    let x : o ≡ own_phase_at s j = eo ∙ ap (byte own) ec ∙ w.at j lj in
    let y : v ≡ (row_at s k j).phase = ev ∙ ap (λ c. byte s (spot k (4 + c))) ec in
    let on = phase_below s h k j lk lj in
    lag_by_last (setup_of s).phases last o v r el (omega (arith, y, on)) er ∙ (λ i. lag_of (setup_of s).phases (x i) (y i))

-- the largest of the numbers below n, and one more
pub lanes_largest : (f : ℕ → ℕ → ℕ) (g : ℕ → ℕ) (n : ℕ) (l l' : List ℕ) → Lanes 8 (λ j. largest n (f j)) l
    → Lanes 8 (λ j. larger (byte l (phase_spot j)) (g j)) l' → ((j : ℕ) → j < 8 → g j ≡ f j n)
    → Lanes 8 (λ j. largest (n + 1) (f j)) l'
lanes_largest f g n l l' h w e =
    record { size = w.size; at = λ j m. w.at j m ∙ largest_next (f j) n _ _ (h.at j m) (e j m) }

pub lanes_first : (f : ℕ → ℕ → ℕ) (l : List ℕ) → Lanes 8 (λ j. 0) l → Lanes 8 (λ j. largest 0 (f j)) l
lanes_first f l h = record { size = h.size; at = λ j m. h.at j m ∙ largest_none (f j) }

-- where nothing lags no lane is wider
pub lanes_still : (g : ℕ → ℕ) (l : List ℕ) → length l ≡ 16 → ((j : ℕ) → 0 ≡ g j) → Lanes 8 (λ j. larger (byte l (phase_spot j)) (g j)) l
lanes_still g l n e =
    record { size = n; at = λ j m. larger_first (byte l (phase_spot j)) 0 (omega arith) ∙ ap (larger (byte l (phase_spot j))) (e j) }

-- a place or slot, by its first tag
module _ (s : List ℕ) (a p : ℕ) (l : p < 32) where
  pub free_lag : byte s (spot (a + p) tag_a_spot) ≡ 0 → (j : ℕ) → 0 ≡ place_lag s a j p
  free_lag e j = rw (lt-ltb p 32 l, eq-eqb (byte s (spot (a + p) tag_a_spot)) 0 e)

  pub used_lag : (byte s (spot (a + p) tag_a_spot) ≡ 0 → ⊥) → (j : ℕ) → j < 8 → lag_in s j (a + p) ≡ place_lag s a j p
  used_lag ne j lj =
      rw (lt-ltb p 32 l, ne_eqb (byte s (spot (a + p) tag_a_spot)) 0 ne) (rw (own_at s j lj, read_at (row_at s (a + p)) j lj))

pub lanes_wider : (l : List ℕ) (g h : ℕ → ℕ) (l' : List ℕ) → ((j : ℕ) → j < 8 → g j ≡ h j)
    → Lanes 8 (λ j. larger (byte l (phase_spot j)) (g j)) l' → Lanes 8 (λ j. larger (byte l (phase_spot j)) (h j)) l'
lanes_wider l g h l' e w = record { size = w.size; at = λ j m. w.at j m ∙ ap (larger (byte l (phase_spot j))) (e j m) }

-- the lanes of the mail and of the shelf, of those kinds below n
pub record BothTo (s : List ℕ) (n : ℕ) (l : List ℕ) : Type 0 where
  pub size : length l ≡ 32
  pub at : (q j : ℕ) → q < 2 → j < 8 → byte l (16 * q + phase_spot j) ≡ pick (ltb q n) (held_most s (8 + 32 * q) j) 0

pub both_none : (s : List ℕ) → BothTo s 0 (replicate 32 0)
both_none s =
    record {
      size = length-replicate {A = ℕ} 32 0;
      at = λ q j k m. zero_at 32 (16 * q + phase_spot j) ∙ sym (pick_false _ _ _ (le-ltb q 0 (omega arith)));
    }

pub both_all : (s l : List ℕ) → BothTo s 2 l → Both s l
both_all s l h = record { size = h.size; at = λ q j k m. h.at q j k m ∙ pick_true _ _ _ (lt-ltb q 2 k) }

module _ (s : List ℕ) (n : ℕ) (l : List ℕ) (h : BothTo s n l) (m : n < 2) where
  -- the part of the next kind is still zero
  pub both_zero : (k : ℕ) → k ≡ 16 → Lanes 8 (λ j. 0) (take k (drop (16 * n) l))
  both_zero k e = rw e (record { size = whole; at = there })
    where
      whole : length (take 16 (drop (16 * n) l)) ≡ 16
      whole = simp (length-take, length-drop) (omega (arith, h.size))

      there : (j : ℕ) → j < 8 → byte (take 16 (drop (16 * n) l)) (phase_spot j) ≡ 0
      there j q =
          get_or-take 16 (drop (16 * n) l) (phase_spot j) 0 (omega arith) ∙ get_or-drop (16 * n) l (phase_spot j) 0
          ∙ h.at n j m q ∙ pick_false _ _ _ (le-ltb n n (omega arith))

  pub both_more : (p : List ℕ) → Lanes 8 (held_most s (8 + 32 * n)) p → BothTo s (n + 1) (put_mid (16 * n) (16 * n + 16 - 16 * n) l p)
  unfolding mid
  both_more p w =
      subst (BothTo s (n + 1)) (λ i. take (16 * n) l ++ (p ++ sym (Post-is (16 * n) (16 * n + 16) l (omega arith)) i))
      (record { size = mid_length (16 * n) 16 l p (omega (arith, h.size)) w.size ∙ h.size; at = there })
    where
      there : (q j : ℕ) → q < 2 → j < 8
          → byte (mid (16 * n) 16 l p) (16 * q + phase_spot j) ≡ pick (ltb q (n + 1)) (held_most s (8 + 32 * q) j) 0
      there q j a b =
          ⊎_elim (λ (e : q ≡ n).
          rw e (mid_in (16 * n) 16 l p (omega (arith, h.size)) w.size (phase_spot j) (omega arith) ∙ w.at j b
          ∙ sym (pick_true _ _ _ (lt-ltb n (n + 1) (omega arith)))))
          (λ (e : q ≡ n → ⊥).
          mid_other (16 * n) 16 l p (omega (arith, h.size)) w.size (16 * q + phase_spot j) (λ x y. e (omega arith)) ∙ h.at q j a b
          ∙ ap (λ t. pick t (held_most s (8 + 32 * q) j) 0)
          (same_by_lem q n q (n + 1) (λ (x : q < n). omega arith) (λ (x : n ≤ q). omega (arith, e)))) (eq_or_ne q n)
