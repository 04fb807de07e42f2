-- What stands where a number does.
-- Assumes nothing.
--   Digits l at   a space and three digits, each from 48 to 57
--   digits        a number's test says so
use Prim.Native.Nat.{ℕ, ◌+◌, ◌≤◌}
use mathlib.Core.Path.{◌≡◌}
use mathlib.Core.Bool.{true}
use mathlib.Core.List.{List}
use borrow.Author.Tests.{eqb-true, leb-true}
use Rattle.tools.specs.Tests.{within}
use Rattle.tools.specs.Lists.{byte}
use Rattle.tools.proofs.Tests.{each}
use Rattle.text.specs.Digits.{is_digit, is_number}

pub record Digits (l : List ℕ) (at : ℕ) : Type 0 where
  pub space : byte l at ≡ 32
  pub low1 : 48 ≤ byte l (at + 1)
  pub high1 : byte l (at + 1) ≤ 57
  pub low2 : 48 ≤ byte l (at + 2)
  pub high2 : byte l (at + 2) ≤ 57
  pub low3 : 48 ≤ byte l (at + 3)
  pub high3 : byte l (at + 3) ≤ 57

digit_low : (b : ℕ) → is_digit b ≡ true → 48 ≤ b
unfolding is_digit within
digit_low b h = leb-true 48 b (each _ h 0)

digit_high : (b : ℕ) → is_digit b ≡ true → b ≤ 57
unfolding is_digit within
digit_high b h = leb-true b 57 (each _ h 1)

pub digits : (l : List ℕ) (at : ℕ) → is_number l at ≡ true → Digits l at
unfolding is_number
digits l at h =
    record {
      space = eqb-true (byte l at) 32 (each _ h 0);
      low1 = digit_low _ (each _ h 1);
      high1 = digit_high _ (each _ h 1);
      low2 = digit_low _ (each _ h 2);
      high2 = digit_high _ (each _ h 2);
      low3 = digit_low _ (each _ h 3);
      high3 = digit_high _ (each _ h 3);
    }
