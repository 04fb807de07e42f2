-- The lags of a summary beside their bounds, byte by byte and desk by desk.
-- Assumes nothing.
--   by_three      a test of thrice as many numbers, by threes
--   bounds_keep   no lag's byte is larger than that of the bounds exactly where no lag of any desk is
use Prim.Native.Nat.{ℕ, zero, suc, ◌+◌, ◌*◌, ◌<◌}
use mathlib.Core.Path.{◌≡◌, refl, ap, ◌∙◌}
use mathlib.Core.Bool.{Bool, true, false, ◌&&◌}
use mathlib.Core.List.{List, [], ◌∷◌}
use native.Mathlib.Omega.{arith}
use lib.Dec.{leb}
use Rattle.tools.specs.Tests.{all_of, all_below}
use Rattle.tools.specs.Lists.{byte}
use Rattle.summary.specs.Summary.{Lags, lags_at, summary_with}
use Rattle.summary.proofs.Foretold.{lags_read}

all_same : (p q : ℕ → Bool) (n : ℕ) → ((i : ℕ) → i < n → p i ≡ q i) → all_below n p ≡ all_below n q
unfolding all_below
all_same p q zero h = refl
all_same p q (suc n) h = λ i. all_same p q n (λ k l. h k (omega arith)) i && h n (omega arith) i

and_three : (a b c d : Bool) → (((a && b) && c) && d) ≡ (a && (b && (c && d)))
and_three true b c d = go b
  where
    go : (b : Bool) → ((b && c) && d) ≡ (b && (c && d))
    go true = refl
    go false = refl
and_three false b c d = refl

by_three : (p : ℕ → Bool) (n : ℕ) → all_below (3 * n) p ≡ all_below n (λ j. all_of (p (3 * j) ∷ p (3 * j + 1) ∷ p (3 * j + 2) ∷ []))
unfolding all_below all_of
by_three p zero = refl
by_three p (suc n) =
    let all : 3 * suc n ≡ suc (suc (suc (3 * n))) = omega arith in
    let one : suc (3 * n) ≡ 3 * n + 1 = omega arith in
    let two : suc (suc (3 * n)) ≡ 3 * n + 2 = omega arith in
    ap (λ k. all_below k p) all
    ∙ (λ i. ((by_three p n i && p (3 * n)) && p (one i)) && p (two i))
    ∙ and_three (all_below n (λ j. all_of (p (3 * j) ∷ p (3 * j + 1) ∷ p (3 * j + 2) ∷ []))) (p (3 * n)) (p (3 * n + 1)) (p (3 * n + 2))

module _ (m : List ℕ) (l : Lags) where
  abbrev keeps : ℕ → Bool
  keeps i = leb (byte m (2 + i)) (byte (summary_with (λ j. l)) (2 + i))

  -- the three lags of desk j
  desk_keeps : (j : ℕ) → j < 8 → all_of (keeps (3 * j) ∷ keeps (3 * j + 1) ∷ keeps (3 * j + 2) ∷ [])
      ≡ all_of (leb (byte m (lags_at j)) l.seats ∷ leb (byte m (lags_at j + 1)) l.mail ∷ leb (byte m (lags_at j + 2)) l.shelf ∷ [])
  unfolding all_of
  desk_keeps j h =
      let most = summary_with (λ j. l) in
      let r = lags_read (λ j. l) j h in
      let one : 2 + (3 * j + 1) ≡ lags_at j + 1 = omega arith in
      let two : 2 + (3 * j + 2) ≡ lags_at j + 2 = omega arith in
      let b = ap (byte most) one ∙ ap (λ (l : Lags). l.mail) r in
      let d = ap (byte most) two ∙ ap (λ (l : Lags). l.shelf) r in
      λ i. leb (byte m (lags_at j)) (r i).seats && (leb (byte m (one i)) (b i) && leb (byte m (two i)) (d i))

  pub bounds_keep : all_below 24 keeps
      ≡ all_below 8
      (λ j. all_of (leb (byte m (lags_at j)) l.seats ∷ leb (byte m (lags_at j + 1)) l.mail ∷ leb (byte m (lags_at j + 2)) l.shelf ∷ []))
  bounds_keep = by_three keeps 8 ∙ all_same _ _ 8 desk_keeps
