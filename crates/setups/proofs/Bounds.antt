-- The tests that the code asks are the ranges and the inequalities.
-- Assumes nothing.
--   Kept X        what the bounds give
--   Fits X        what the tests of the ring give
--   numbers_are   the numbers are bounded and on the ring exactly where they are in range and related
use Prim.Native.Nat.{ℕ, ◌+◌, ◌*◌, ◌≤◌, ◌<◌}
use mathlib.Core.Path.{◌≡◌, refl, sym, ◌∙◌}
use mathlib.Core.Bool.{Bool, true, false, ◌&&◌, true≢false}
use native.Mathlib.Omega.{arith}
use borrow.Author.Tests.{leb-true, le-leb, ltb-true, lt-ltb}
use Rattle.tools.specs.Tests.{all_of, within}
use Rattle.tools.proofs.Tests.{each, alike, and_true_l, and_true_r}
use Rattle.rules.specs.Setups.{Setup, in_range, related}
use Rattle.rules.proofs.Setups.{from_to, Ranged, ranged}
use Rattle.setups.specs.Bounds.{bounded, on_the_ring}

in_range_lem : (lo hi n : ℕ) → lo ≤ n → n ≤ hi → within lo hi n ≡ true
unfolding within all_of
in_range_lem lo hi n l h = λ i. le-leb lo n l i && le-leb n hi h i

pub record Kept (X : Setup) : Type 0 where
  pub desks : (2 ≤ X.desks) × (X.desks ≤ 8)
  pub whole : X.phases ≤ 256
  pub seats : 1 ≤ X.seat_lag
  pub shelf : X.seat_lag ≤ X.shelf_lag
  pub shelved : X.shelf_lag < X.phases
  pub back : (1 ≤ X.back) × (X.back ≤ 127)
  pub ahead : (1 ≤ X.ahead) × (X.ahead ≤ 127)

record Fits (X : Setup) : Type 0 where
  pub mailed : 2 * X.seat_lag + 1 ≤ X.phases
  pub reach : X.back + X.ahead ≤ X.phases

module _ (X : Setup) where
  pub kept : bounded X ≡ true → Kept X
  unfolding bounded
  kept h =
      record {
        desks = from_to _ _ _ (each _ h 0);
        whole = leb-true _ _ (each _ h 1);
        seats = leb-true _ _ (each _ h 2);
        shelf = leb-true _ _ (each _ h 3);
        shelved = ltb-true _ _ (each _ h 4);
        back = from_to _ _ _ (each _ h 5);
        ahead = from_to _ _ _ (each _ h 6);
      }

  fits : on_the_ring X ≡ true → Fits X
  unfolding on_the_ring
  fits h = record { mailed = leb-true _ _ (each _ h 0); reach = leb-true _ _ (each _ h 1) }

  relation : related X ≡ true → (X.seat_lag ≤ X.shelf_lag) × (X.shelf_lag + 1 ≤ X.phases) × Fits X
  unfolding related
  relation h = (
    leb-true _ _ (each _ h 0),
    leb-true _ _ (each _ h 2),
    record { mailed = leb-true _ _ (each _ h 1); reach = leb-true _ _ (each _ h 3) },
  )

  bind : Kept X → bounded X ≡ true
  unfolding bounded all_of
  bind k =
      λ i.
      in_range_lem 2 8 X.desks k.desks.0 k.desks.1 i
      && (le-leb X.phases 256 k.whole i
      && (le-leb 1 X.seat_lag k.seats i
      && (le-leb X.seat_lag X.shelf_lag k.shelf i
      && (lt-ltb X.shelf_lag X.phases k.shelved i
      && (in_range_lem 1 127 X.back k.back.0 k.back.1 i && in_range_lem 1 127 X.ahead k.ahead.0 k.ahead.1 i)))))

  fit : Fits X → on_the_ring X ≡ true
  unfolding on_the_ring all_of
  fit f = λ i. le-leb (2 * X.seat_lag + 1) X.phases f.mailed i && le-leb (X.back + X.ahead) X.phases f.reach i

  range : Kept X → Fits X → in_range X ≡ true
  unfolding in_range all_of
  range k f =
      let m = f.mailed in
      let s = k.seats in
      let w = k.whole in
      λ i.
      in_range_lem 2 8 X.desks k.desks.0 k.desks.1 i
      && (in_range_lem 3 256 X.phases (omega (arith, m, s)) w i
      && (in_range_lem 1 127 X.seat_lag s (omega (arith, m, w)) i
      && (in_range_lem 1 255 X.shelf_lag (omega (arith, s, k.shelf)) (omega (arith, k.shelved, w)) i
      && (in_range_lem 1 127 X.back k.back.0 k.back.1 i && in_range_lem 1 127 X.ahead k.ahead.0 k.ahead.1 i))))

  relate : Kept X → Fits X → related X ≡ true
  unfolding related all_of
  relate k f =
      λ i.
      le-leb X.seat_lag X.shelf_lag k.shelf i
      && (le-leb (2 * X.seat_lag + 1) X.phases f.mailed i
      && (le-leb (X.shelf_lag + 1) X.phases (omega (arith, k.shelved)) i
      && le-leb (X.back + X.ahead) X.phases f.reach i))

  keep : Ranged X → X.seat_lag ≤ X.shelf_lag → X.shelf_lag + 1 ≤ X.phases → Kept X
  keep r a c =
      record {
        desks = r.desks;
        whole = r.phases.1;
        seats = r.seat_lag.0;
        shelf = a;
        shelved = omega (arith, c);
        back = r.back;
        ahead = r.ahead;
      }

  bound : in_range X ≡ true → related X ≡ true → (bounded X && on_the_ring X) ≡ true
  bound h g =
      let r = relation g in
      λ i. bind (keep (ranged X h) r.0 r.1) i && fit r.2 i

  unbound : bounded X ≡ true → on_the_ring X ≡ true → (in_range X && related X) ≡ true
  unbound h g = λ i. range (kept h) (fits g) i && relate (kept h) (fits g) i

  pub numbers_are : (bounded X && on_the_ring X) ≡ (in_range X && related X)
  numbers_are =
      alike (bounded X && on_the_ring X) (in_range X && related X)
      (λ e. unbound (and_true_l _ _ e) (and_true_r (bounded X) _ e)) (go (in_range X && related X) refl)
    where
      go : (t : Bool) → (in_range X && related X) ≡ t → (bounded X && on_the_ring X) ≡ false → t ≡ false
      go false q e = refl
      go true q e = absurd (true≢false (sym (bound (and_true_l _ _ q) (and_true_r (in_range X) _ q)) ∙ e))
