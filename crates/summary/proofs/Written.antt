-- The bytes of a summary, one by one, and that those of its lanes are those of the book.
-- Assumes nothing.
use Prim.Native.Nat.{ℕ, ◌+◌, ◌-◌, ◌/◌, ◌%◌, ◌<◌}
use mathlib.Core.Path.{◌≡◌, refl, sym, ap, subst, ◌∙◌}
use mathlib.Core.List.{List}
use native.Mathlib.Omega.{arith}
use borrow.Author.Tests.{ne_eqb}
use lib.ListN.{length, set}
use Rattle.tools.specs.Lists.{byte, Filled}
use Rattle.tools.proofs.Lists.{filled_none, filled_more}
use Rattle.book.specs.Layout.{phase_spot}
use Rattle.summary.specs.Summary.{Lags, lags_at, lag_byte, summary_byte}
use Rattle.summary.specs.Lanes.{lags_by}

module _ (f : ℕ → Lags) where
  mark_first : 0x53 ≡ summary_byte f 0
  unfolding summary_byte
  mark_first = refl

  mark_second : 0x55 ≡ summary_byte f 1
  unfolding summary_byte
  mark_second = refl

  -- the three bytes of a desk
  pub lag_at : (j i c : ℕ) → c < 3 → i ≡ lags_at j + c → summary_byte f i ≡ lag_byte (f j) c
  unfolding summary_byte
  lag_at j i c l e =
      let d : (i - 2) / 3 ≡ j = omega arith in
      let r : (i - 2) % 3 ≡ c = omega arith in
      rw (ne_eqb i 0 (λ q. omega arith), ne_eqb i 1 (λ q. omega arith), d, r)

  seats_at : (j : ℕ) → (f j).seats ≡ summary_byte f (lags_at j)
  unfolding lag_byte
  seats_at j = sym (lag_at j (lags_at j) 0 (omega arith) (omega arith))

  mail_at : (j : ℕ) → (f j).mail ≡ summary_byte f (lags_at j + 1)
  unfolding lag_byte
  mail_at j = sym (lag_at j (lags_at j + 1) 1 (omega arith) (omega arith))

  shelf_at : (j : ℕ) → (f j).shelf ≡ summary_byte f (lags_at j + 2)
  unfolding lag_byte
  shelf_at j = sym (lag_at j (lags_at j + 2) 2 (omega arith) (omega arith))

  pub marked : (m : List ℕ) → length m ≡ 26 → Filled 26 2 (summary_byte f) (set (set m 0 0x53) 1 0x55)
  marked m e =
      filled_more 26 1 (summary_byte f) (set m 0 0x53) 0x55
      (filled_more 26 0 (summary_byte f) m 0x53 (filled_none 26 _ m e) (omega arith) mark_first) (omega arith) mark_second

  -- the three lags of one more desk
  pub three_more : (j : ℕ) → j < 8 → (m : List ℕ) (x y z : ℕ) → Filled 26 (lags_at j) (summary_byte f) m
      → x ≡ (f j).seats → y ≡ (f j).mail → z ≡ (f j).shelf
      → Filled 26 (lags_at (j + 1)) (summary_byte f) (set (set (set m (lags_at j) x) (lags_at j + 1) y) (lags_at j + 2) z)
  three_more j l m x y z h a b c =
      let more : lags_at j + 2 + 1 ≡ lags_at (j + 1) = omega arith in
      let two : lags_at j + 1 + 1 ≡ lags_at j + 2 = omega arith in
      let first = filled_more 26 (lags_at j) (summary_byte f) m x h (omega arith) (a ∙ seats_at j) in
      let second = filled_more 26 (lags_at j + 1) (summary_byte f) (set m (lags_at j) x) y first (omega arith) (b ∙ mail_at j) in
      let second' = subst (λ n. Filled 26 n (summary_byte f) (set (set m (lags_at j) x) (lags_at j + 1) y)) two second in
      let third = filled_more 26 (lags_at j + 2) (summary_byte f) (set (set m (lags_at j) x) (lags_at j + 1) y) z second' (omega arith)
      (c ∙ shelf_at j) in
      subst (λ n. Filled 26 n (summary_byte f) (set (set (set m (lags_at j) x) (lags_at j + 1) y) (lags_at j + 2) z)) more third

-- the same out of lanes, at and p being the places of desk j's lags and of its lane
pub desk_more : (a h k : List ℕ) (j at p : ℕ) → j < 8 → at ≡ lags_at j → p ≡ phase_spot j → (m : List ℕ)
    → Filled 26 (lags_at j) (summary_byte (lags_by a h k)) m
    → Filled 26 (lags_at (j + 1)) (summary_byte (lags_by a h k)) (set (set (set m at (byte a p)) (at + 1) (byte h p)) (at + 2) (byte k p))
desk_more a h k j at p l e q m f =
    subst
    (λ at. Filled 26 (lags_at (j + 1)) (summary_byte (lags_by a h k)) (set (set (set m at (byte a p)) (at + 1) (byte h p)) (at + 2) (byte k p)))
    (sym e) (three_more (lags_by a h k) j l m (byte a p) (byte h p) (byte k p) f (ap (byte a) q) (ap (byte h) q) (ap (byte k) q))
