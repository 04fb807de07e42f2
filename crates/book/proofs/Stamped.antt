-- Every row of a book is zero beyond the eighth desk.
-- Assumes nothing.
use Prim.Native.Nat.{ℕ, ◌+◌, ◌-◌, ◌≤◌, ◌<◌}
use mathlib.Core.Path.{◌≡◌, refl}
use mathlib.Core.Bool.{Bool, true, false}
use mathlib.Core.Option.{none, some}
use mathlib.Core.List.{List}
use native.Mathlib.Omega.{arith}
use borrow.Author.Tests.{le-ltb}
use lib.Dec.{ltb, eqb}
use Rattle.tools.specs.Tests.{pick}
use Rattle.tools.specs.Tables.{put}
use Rattle.tools.proofs.Tables.{put_all}
use Rattle.ring.specs.Phases.{Phases, Pair, is_later}
use Rattle.rules.specs.Model.{Row, own, zeros, idle, row_in, tick, merged}
use Rattle.rules.proofs.RowBytes.{Eight}
use Rattle.book.specs.Layout.{mail_from, Record, fields}
use Rattle.book.specs.Codec.{read_row, read_seat, read_held}
use Rattle.book.specs.Numbers.{tables_of}

read_eight : (r : Row) → Eight (read_row r)
read_eight r k l = rw (le-ltb k 8 l)

held_eight : (r : Record) → Eight (row_in (read_held r))
held_eight r = go (eqb r.tag_a 0)
  where
    go : (t : Bool) → Eight (row_in (pick t none (some record { by = r.tag_a - 1; to = r.tag_b - 1; row = read_row r.row })))
    go true = λ k l. refl
    go false = read_eight r.row

put_eight : (r : Row) → Eight r → (j : ℕ) → j < 8 → (q : Pair) → Eight (put r j q)
put_eight r e j l q k = put_all (λ i x. 8 ≤ i → x ≡ zeros i) r j q (λ m. absurd (omega arith)) (λ i n m. e i m) k

-- the rows of a book
module _ (s : List ℕ) where
  pub seat_eight : (j : ℕ) → Eight ((tables_of s).seat j).row
  seat_eight j = go (ltb j 8)
    where
      go : (t : Bool) → Eight (pick t (read_seat ((fields s).at j)) idle).row
      go true = read_eight ((fields s).at j).row
      go false = λ k l. refl

  pub mail_eight : (p : ℕ) → Eight (row_in ((tables_of s).mail p))
  mail_eight p = go (ltb p 32)
    where
      go : (t : Bool) → Eight (row_in (pick t (read_held ((fields s).at (mail_from + p))) none))
      go true = held_eight ((fields s).at (mail_from + p))
      go false = λ k l. refl

  -- with one desk's pair set
  pub seat_put_eight : (j : ℕ) → j < 8 → (q : Pair) → Eight (put ((tables_of s).seat j).row j q)
  seat_put_eight j l q = put_eight ((tables_of s).seat j).row (seat_eight j) j l q

  pub merged_eight : (Z : Phases) (j p : ℕ) → j < 8 → Eight (merged Z (tables_of s) j (row_in ((tables_of s).mail p)))
  merged_eight Z j p l = put_eight _ (λ k m. both k (seat_eight j k m) (mail_eight p k m)) j l (tick (own (tables_of s) j))
    where
      both : (k : ℕ) → ((tables_of s).seat j).row k ≡ zeros k → row_in ((tables_of s).mail p) k ≡ zeros k
          → pick (is_later Z (own (tables_of s) k).phase (row_in ((tables_of s).mail p) k) (((tables_of s).seat j).row k))
          (row_in ((tables_of s).mail p) k) (((tables_of s).seat j).row k)
          ≡ zeros k
      both k a b = go (is_later Z (own (tables_of s) k).phase (row_in ((tables_of s).mail p) k) (((tables_of s).seat j).row k))
        where
          go : (t : Bool) → pick t (row_in ((tables_of s).mail p) k) (((tables_of s).seat j).row k) ≡ zeros k
          go true = b
          go false = a
