-- What the tables of bytes say, byte by byte, and what a sound book's setup bytes are good for.
-- Assumes nothing.
use Prim.Native.Nat.{ℕ, ◌+◌, ◌<◌, ◌≤◌}
use mathlib.Core.Path.{◌≡◌, ap, ◌∙◌}
use mathlib.Core.Bool.{true}
use mathlib.Core.List.{List}
use borrow.Author.Tests.{lt-ltb}
use Rattle.tools.specs.Lists.{byte}
use Rattle.rules.specs.Setups.{limit}
use Rattle.rules.specs.Model.{Row, own}
use Rattle.rules.proofs.Setups.{permitted}
use Rattle.book.specs.Layout.{shelf_from, row_at, setup_of, fields}
use Rattle.book.specs.Sound.{sound}
use Rattle.book.specs.Codec.{read_row, read_held}
use Rattle.book.specs.Numbers.{tables_of}
use Rattle.book.proofs.Soundness.{sound_setup}

pub seat_row : (s : List ℕ) (j : ℕ) → j < 8 → ((tables_of s).seat j).row ≡ read_row (row_at s j)
seat_row s j l = rw (lt-ltb j 8 l)

pub read_at : (r : Row) (j : ℕ) → j < 8 → read_row r j ≡ r j
read_at r j l = rw (lt-ltb j 8 l)

pub own_at : (s : List ℕ) (j : ℕ) → j < 8 → own (tables_of s) j ≡ row_at s j j
own_at s j l = ap (λ (r : Row). r j) (seat_row s j l) ∙ read_at (row_at s j) j l

pub slot_at : (s : List ℕ) (p : ℕ) → p < 32 → (tables_of s).shelf p ≡ read_held ((fields s).at (shelf_from + p))
slot_at s p l = rw (lt-ltb p 32 l)

-- no more than eight desks, and a clock may grow without leaving its byte
pub few_desks : (s : List ℕ) → sound s ≡ true → byte s 2 ≤ 8
few_desks s h = (permitted (setup_of s) (sound_setup s h)).few

pub room : (s : List ℕ) → sound s ≡ true → (j : ℕ) → j < byte s 2 → limit (setup_of s) j ≤ 255
room s h j l = ((permitted (setup_of s) (sound_setup s h)).ticks j l).1
