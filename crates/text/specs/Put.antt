-- Texts in a buffer.
-- Assumes nothing.
--   put xs at ys         xs with ys in the place of as many bytes from `at` on
--   three n              a number in three digits (48 is the digit 0)
--   field n              a space and a number
--   Wrote xs at s ys n   the text s, for which there was room, was written into xs from `at` on: ys is left, and n is its end
use Rattle.std.specs.Prelude.{ℕ, ◌+◌, ◌/◌, ◌%◌, ◌≤◌, ◌≡◌, List, [], ◌∷◌, ◌++◌, length, take, drop}

unfoldable pub put : List ℕ → ℕ → List ℕ → List ℕ
put xs at ys = take at xs ++ ys ++ drop (at + length ys) xs

abbrev pub three : ℕ → List ℕ
three n = (48 + n / 100) ∷ (48 + n / 10 % 10) ∷ (48 + n % 10) ∷ []

abbrev pub field : ℕ → List ℕ
field n = 32 ∷ three n

pub record Wrote (xs : List ℕ) (at : ℕ) (s ys : List ℕ) (n : ℕ) : Type 0 where
  pub left : ys ≡ put xs at s
  pub ends : n ≡ at + length s
  pub fits : at + length s ≤ length xs
