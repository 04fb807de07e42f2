-- Numbers of exactly three digits in a text, each after a single space. In bytes, 32 is a space and 48 to 57 are the digits.
-- Assumes nothing.
--   is_digit b          the byte is a digit
--   is_number l at      a space and three digits stand from the place on
--   number_at l at      the number that they are
--   numbers_at l at n   n numbers, one after the other from the place on
use Rattle.std.specs.Prelude.{ℕ, ◌+◌, ◌*◌, ◌-◌, Bool, List, [], ◌∷◌, eqb}
use Rattle.tools.specs.Tests.{all_of, within}
use Rattle.tools.specs.Lists.{byte, tab}

unfoldable pub is_digit : ℕ → Bool
is_digit b = within 48 57 b

unfoldable pub is_number : List ℕ → ℕ → Bool
is_number l at =
    all_of (eqb (byte l at) 32 ∷ is_digit (byte l (at + 1)) ∷ is_digit (byte l (at + 2)) ∷ is_digit (byte l (at + 3)) ∷ [])

unfoldable pub number_at : List ℕ → ℕ → ℕ
number_at l at = 100 * (byte l (at + 1) - 48) + 10 * (byte l (at + 2) - 48) + (byte l (at + 3) - 48)

abbrev pub numbers_at : List ℕ → ℕ → ℕ → List ℕ
numbers_at l at n = tab 0 n (λ i. number_at l (at + 4 * i))
