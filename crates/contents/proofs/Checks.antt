-- Laws of the parts of the sound check.
-- Assumes nothing.
use Prim.Native.Nat.{ℕ, ◌+◌, ◌≤◌, ◌<◌}
use mathlib.Core.Path.{◌≡◌, refl, sym, ap, ◌∙◌}
use mathlib.Core.Bool.{Bool, true, false, ◌&&◌}
use mathlib.Core.Logic.{◌⊎◌, inl, inr}
use mathlib.Core.List.{List, [], ◌∷◌}
use native.Mathlib.Omega.{arith}
use lib.Dec.{ltb, leb, eqb}
use lib.ListN.{length, set}
use lib.Seq.{get_or-set_same, get_or-set_other}
use borrow.Author.Count.{below_more}
use borrow.Author.Tests.{ltb-true, lt-ltb, le-ltb, leb-true, leb-false, le-leb}
use Rattle.ring.specs.Phases.{lag_of}
use Rattle.ring.proofs.Ring.{lag_below}
use Rattle.tools.specs.Tests.{pick, all_of, all_below, within}
use Rattle.tools.specs.Lists.{byte}
use Rattle.tools.proofs.Tests.{and_true, below_one, alike, lt_or_le, each, all_at}
use Rattle.rules.specs.Setups.{limit, limit_ok}
use Rattle.book.specs.Layout.{seats, tag_b_spot, row_spot, phase_spot, clock_spot, fields, setup_of, spot}
use Rattle.book.specs.Sound.{seat_limit, pair_ok, column_ok}
use Rattle.book.proofs.Limits.{limit_told}
use Rattle.contents.specs.Checks.{Held, Ready}
use Rattle.contents.specs.declared.Columns.{Columns}

-- a lag that holds of phases of the ring, behind the test that the phase is one
pub ranged_lag : (v last own n B : ℕ) (s t u : Bool) → (v ≤ last → n ≡ lag_of (last + 1) own v) → s ≡ ltb v (last + 1) → u ≡ leb n B
    → (s && (t && u)) ≡ all_of (ltb v (last + 1) ∷ t ∷ leb (lag_of (last + 1) own v) B ∷ [])
unfolding all_of
ranged_lag v last own n B s t u e f g = (λ i. f i && (t && g i)) ∙ go (lt_or_le last v)
  where
    go : (last < v) ⊎ (v ≤ last) → (ltb v (last + 1) && (t && leb n B)) ≡ (ltb v (last + 1) && (t && leb (lag_of (last + 1) own v) B))
    go (inl l) = rw (le-ltb v (last + 1) (omega arith))
    go (inr l) = rw (e l)

-- at most the last is below the number of them
pub below_next : (v last : ℕ) → leb v last ≡ ltb v (last + 1)
below_next v last =
    alike (leb v last) (ltb v (last + 1)) (λ e. let l : v ≤ last = leb-true v last e in lt-ltb v (last + 1) (omega arith))
    (λ e. let l : last < v = leb-false v last e in le-ltb v (last + 1) (omega arith))

-- the last phase of a desk, and 0 where there is none
pub last_of : (t : Bool) (r last P : ℕ) → r ≡ pick t last 0 → last + 1 ≡ P → r + 1 ≡ pick t P 1
last_of true r last P e p = ap (λ n. n + 1) e ∙ p
last_of false r last P e p = ap (λ n. n + 1) e

-- where each seat has its limit no desk is without a clock
pub clocks_there : (b : List ℕ) (j n : ℕ) → j < 8 → all_below seats (seat_limit (fields b)) ≡ true
    → n ≡ pick (ltb j (setup_of b).desks) ((fields b).at j).tag_b 1 → 1 ≤ n
unfolding seat_limit limit_ok within
clocks_there b j n l h e = rw e (go (ltb j (byte b 2)) (all_at (seat_limit (fields b)) 8 j l h))
  where
    go : (t : Bool) → pick t (limit_ok (byte b (spot j tag_b_spot))) (eqb (byte b (spot j tag_b_spot)) 0) ≡ true
        → 1 ≤ pick t (byte b (spot j tag_b_spot)) 1
    go true e = let m : 2 ≤ byte b (spot j tag_b_spot) = leb-true _ _ (each _ e 0) in omega arith
    go false e = omega arith

-- the columns that are filled from the front
module _ (b : List ℕ) (c x y z : ℕ) (l : Columns) (h : Held b c l) (q : c < 8) (n : length l.last ≡ 8) (o : length l.own ≡ 8)
    (p : length l.clock ≡ 8) where
  pub held_more : x + 1 ≡ pick (ltb c (setup_of b).desks) (setup_of b).phases 1
      → y ≡ pick (ltb c (setup_of b).desks) (((fields b).at c).row c).phase 0
      → z + 1 ≡ pick (ltb c (setup_of b).desks) ((fields b).at c).tag_b 1
      → Held b (c + 1) (record { last = set l.last c x; own = set l.own c y; clock = set l.clock c z })
  held_more e f g =
      record {
        last =
            below_more _ c (λ i r. ap (λ n. n + 1) (get_or-set_other l.last c i x 0 (omega arith)) ∙ h.last i r)
            (ap (λ n. n + 1) (get_or-set_same l.last c x 0 (omega arith)) ∙ e);
        own =
            below_more _ c (λ i r. get_or-set_other l.own c i y 0 (omega arith) ∙ h.own i r)
            (get_or-set_same l.own c y 0 (omega arith) ∙ f);
        clock =
            below_more _ c (λ i r. ap (λ n. n + 1) (get_or-set_other l.clock c i z 0 (omega arith)) ∙ h.clock i r)
            (ap (λ n. n + 1) (get_or-set_same l.clock c z 0 (omega arith)) ∙ g);
      }

-- a pair against what its desk is held to, as the definition has it
column_at : (b : List ℕ) (B k j : ℕ) → j < 8
    → all_of
    (ltb (byte b (spot k (row_spot + phase_spot j))) (pick (ltb j (setup_of b).desks) (setup_of b).phases 1)
    ∷ ltb (byte b (spot k (row_spot + clock_spot j))) (pick (ltb j (setup_of b).desks) (byte b (spot j tag_b_spot)) 1)
    ∷ leb (lag_of (pick (ltb j (setup_of b).desks) (setup_of b).phases 1)
    (pick (ltb j (setup_of b).desks) (byte b (spot j (row_spot + phase_spot j))) 0)
    (byte b (spot k (row_spot + phase_spot j)))) B
    ∷ [])
    ≡ column_ok lag_of (fields b) B k j
unfolding column_ok pair_ok all_of
column_at b B k j q = go (ltb j (byte b 2)) refl
  where
    v : ℕ
    v = byte b (spot k (row_spot + phase_spot j))

    t : ℕ
    t = byte b (spot k (row_spot + clock_spot j))

    own : ℕ
    own = byte b (spot j (row_spot + phase_spot j))

    last : ℕ
    last = byte b (spot j tag_b_spot)

    go : (u : Bool) → ltb j (byte b 2) ≡ u
        → (ltb v (pick u (setup_of b).phases 1)
        && (ltb t (pick u last 1) && leb (lag_of (pick u (setup_of b).phases 1) (pick u own 0) v) B))
        ≡ pick u (ltb v (setup_of b).phases && (ltb t (limit (setup_of b) j) && leb (lag_of (setup_of b).phases own v) B))
        (eqb v 0 && eqb t 0)
    go true e =
        ap (λ n. ltb v (setup_of b).phases && (ltb t n && leb (lag_of (setup_of b).phases own v) B))
        (sym (limit_told b j q (ltb-true j (byte b 2) e)))
    go false e =
        let z : lag_of 1 0 v ≡ 0 = omega (arith, lag_below 1 0 v (omega arith)) in
        let y : leb (lag_of 1 0 v) B ≡ true = le-leb (lag_of 1 0 v) B (omega arith) in
        rw (y, below_one v, below_one t) (ap (λ s. eqb v 0 && s) (and_true (eqb t 0)))

pub column_is : (b : List ℕ) (l : Columns) (B k j v t : ℕ) (r : Bool) → Ready b l → j < 8
    → v ≡ byte b (spot k (row_spot + phase_spot j)) → t ≡ byte b (spot k (row_spot + clock_spot j))
    → r ≡ all_of (ltb v (byte l.last j + 1) ∷ ltb t (byte l.clock j + 1) ∷ leb (lag_of (byte l.last j + 1) (byte l.own j) v) B ∷ [])
    → r ≡ column_ok lag_of (fields b) B k j
column_is b l B k j v t r h q x y z =
    rw (x, y, h.held.last j q, h.held.clock j q, h.held.own j q) at z ∙ column_at b B k j q
