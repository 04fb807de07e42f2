-- Lent slices: where their bytes lie, so that a part handed back can be told from a copy.
-- Assumes nothing.
--   Slice       a lent slice: where it lies, and its bytes
--   place s a   where byte a of the slice s lies
use Rattle.std.specs.Prelude.{ℕ, ◌+◌, List}
use Rattle.std.specs.Borrow.{Bor}

abbrev pub Slice : Type 0
Slice = Bor (List ℕ)

abbrev pub place : Slice → ℕ → ℕ × ℕ
place s a = (s.ref_ptr.0, a + s.ref_ptr.1)
