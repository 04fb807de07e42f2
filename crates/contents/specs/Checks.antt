-- What the parts of the sound check tell of the bytes of a book.
-- Assumes nothing.
--   Held b c l     the columns l have what the pairs of each desk below c are held to; where there is no desk, 0 alone is in range and
--                  does not lag
--   Ready b l      b has a book's length and a limit in each seat, and l is what the pairs of its desks are held to
--   Used b k       record k of b, a place or a slot, is not free
use Rattle.std.specs.Prelude.{ℕ, ◌+◌, ◌<◌, ◌≡◌, true, List, ltb, length}
use Rattle.tools.specs.Tests.{pick, all_below}
use Rattle.tools.specs.Lists.{byte}
use Rattle.book.specs.Layout.{book_size, seats, fields, setup_of}
use Rattle.book.specs.Sound.{seat_limit}
use Rattle.contents.specs.declared.Columns.{Columns}

pub record Held (b : List ℕ) (c : ℕ) (l : Columns) : Type 0 where
  pub last : (j : ℕ) → j < c → byte l.last j + 1 ≡ pick (ltb j (setup_of b).desks) (setup_of b).phases 1
  pub own : (j : ℕ) → j < c → byte l.own j ≡ pick (ltb j (setup_of b).desks) (((fields b).at j).row j).phase 0
  pub clock : (j : ℕ) → j < c → byte l.clock j + 1 ≡ pick (ltb j (setup_of b).desks) ((fields b).at j).tag_b 1

pub record Ready (b : List ℕ) (l : Columns) : Type 0 where
  pub size : length b ≡ book_size
  pub limits : all_below seats (seat_limit (fields b)) ≡ true
  pub held : Held b seats l

abbrev pub Used : List ℕ → ℕ → Type 0
Used b k = ((fields b).at k).tag_a ≡ 0 → ⊥
