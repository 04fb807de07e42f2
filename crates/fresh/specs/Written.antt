-- A fresh book, as far as it is written.
-- Assumes nothing.
--   Written X n m s  the bytes s are the header of the setup X, the marks of the first n records, the limits of the first m seats, and
--                    zeros
--   Marks a e s t    where the marks in the bytes s are written up to record a, those in the bytes t are up to record e
--   Limited l s t    where all marks are written in the bytes s, and no limit, the limits l are written too in the bytes t
--   Small l          the limits l have seats to stand in, and each fits a byte
use Rattle.std.specs.Prelude.{ℕ, ◌<◌, ◌≤◌, ◌≡◌, List, length}
use Rattle.tools.specs.Lists.{byte}
use Rattle.rules.specs.Setups.{Setup, limit}
use Rattle.book.specs.Layout.{book_size, head_size, record_size, records, seats, tag_a_spot, tag_b_spot, spot, head_byte, mark0, mark1}

pub record Written (X : Setup) (n m : ℕ) (s : List ℕ) : Type 0 where
  pub size : length s ≡ book_size
  pub head : (i : ℕ) → i < head_size → head_byte X i ≡ byte s i
  pub marks : (k : ℕ) → k < n → (mark0 k ≡ byte s (spot k 0)) × (mark1 k ≡ byte s (spot k 1))
  pub limits : (j : ℕ) → j < m → limit X j ≡ byte s (spot j tag_b_spot)
  pub rest : (k c : ℕ) → k < records → tag_a_spot ≤ c → c < record_size → (c ≡ tag_b_spot → m ≤ k) → 0 ≡ byte s (spot k c)

abbrev pub Marks : ℕ → ℕ → List ℕ → List ℕ → Type 0
Marks a e s t = (X : Setup) → Written X a 0 s → Written X e 0 t

abbrev pub Limited : List ℕ → List ℕ → List ℕ → Type 0
Limited l s t = (X : Setup) → X.limits ≡ l → Written X records 0 s → Written X records (length l) t

pub record Small (l : List ℕ) : Type 0 where
  pub few : length l ≤ seats
  pub each : (j : ℕ) → j < length l → byte l j ≤ 255
