-- One record is written: the bytes hold the fields with that record put.
-- Assumes nothing.
use Prim.Native.Nat.{ℕ, ◌+◌, ◌-◌, ◌/◌, ◌<◌, ◌≤◌}
use mathlib.Core.Path.{◌≡◌, refl, sym, ap, ◌∙◌}
use mathlib.Core.List.{List}
use native.Mathlib.Omega.{arith}
use lib.ListN.{length, set, length-set}
use lib.Seq.{get_or-set_same, get_or-set_other}
use Rattle.tools.specs.Tables.{put}
use Rattle.tools.specs.Lists.{byte, mid}
use Rattle.tools.proofs.Tables.{put_all}
use Rattle.tools.proofs.Lists.{length_tab, tab_at, mid_length, mid_in, mid_other}
use Rattle.rules.specs.Model.{Row}
use Rattle.rules.specs.Replies.{row_byte, row_bytes}
use Rattle.book.specs.Layout.{row_spot, tag_a_spot, tag_b_spot}
use Rattle.book.specs.Layout.{book_size, records, Record, Fields, spot, marked_byte, record_byte, Holds, post}
use Rattle.book.proofs.Bytes.{record_bytes}

-- a byte of a record tells which record it is of, and which byte
spot_record : (k c : ℕ) → c < 20 → (spot k c - 16) / 20 ≡ k
spot_record k c l = omega arith

pub spot_same : (k c i d : ℕ) → c < 20 → d < 20 → spot i d ≡ spot k c → (i ≡ k) × (d ≡ c)
spot_same k c i d lc ld e =
    let q : i ≡ k = sym (spot_record i d ld) ∙ ap (λ (n : ℕ). (n - 16) / 20) e ∙ spot_record k c lc in
    (q, omega arith)

-- a byte outside the row of record k
outside : (k i c : ℕ) → c < 20 → (i ≡ k → 4 ≤ c → ⊥) → spot k row_spot ≤ spot i c → spot i c < spot k row_spot + 16 → ⊥
outside k i c l ne p q =
    let e : (spot i c - 16) / 20 ≡ i = omega arith in
    let f : (spot i c - 16) / 20 ≡ k = omega arith in
    let g : i ≡ k = sym e ∙ f in
    ne g (omega arith)

module _ (b : List ℕ) (size : length b ≡ book_size) (k x y : ℕ) (lk : k < records) (r : Row) where
  abbrev rowed : List ℕ
  rowed = mid (spot k row_spot) 16 b (row_bytes r)

  fits : spot k row_spot + 16 ≤ length b
  fits = omega arith

  sized : length (row_bytes r) ≡ 16
  unfolding row_bytes
  sized = length_tab 0 16 (row_byte r)

  rowed_length : length rowed ≡ book_size
  rowed_length = mid_length (spot k row_spot) 16 b (row_bytes r) fits sized ∙ size

  post_length : length (post b k x y (row_bytes r)) ≡ book_size
  unfolding post
  post_length = length-set (set rowed (spot k tag_a_spot) x) (spot k tag_b_spot) y ∙ length-set rowed (spot k tag_a_spot) x ∙ rowed_length

  -- a byte that is neither of the tags
  past_tags : (i : ℕ) → (i ≡ spot k tag_a_spot → ⊥) → (i ≡ spot k tag_b_spot → ⊥) → byte (post b k x y (row_bytes r)) i ≡ byte rowed i
  unfolding post
  past_tags i n2 n3 =
      get_or-set_other (set rowed (spot k tag_a_spot) x) (spot k tag_b_spot) i y 0 n3 ∙ get_or-set_other rowed (spot k tag_a_spot) i x 0 n2

  post_head : (i : ℕ) → i < 16 → byte (post b k x y (row_bytes r)) i ≡ byte b i
  post_head i l =
      past_tags i (omega arith) (omega arith)
      ∙ mid_other (spot k row_spot) 16 b (row_bytes r) fits sized i (λ p q. omega arith)

  -- every byte of another record, and the mark of this one
  post_other : (i c : ℕ) → c < 20 → (i ≡ k → 2 ≤ c → ⊥) → byte (post b k x y (row_bytes r)) (spot i c) ≡ byte b (spot i c)
  post_other i c lc ne =
      past_tags (spot i c)
      (λ e. let s = spot_same k 2 i c (omega arith) lc e in ne s.0 (let z = s.1 in omega arith))
      (λ e. let s = spot_same k 3 i c (omega arith) lc e in ne s.0 (let z = s.1 in omega arith))
      ∙ mid_other (spot k row_spot) 16 b (row_bytes r) fits sized (spot i c) (outside k i c lc (λ e l. ne e (omega arith)))

  post_A : byte (post b k x y (row_bytes r)) (spot k tag_a_spot) ≡ x
  unfolding post
  post_A =
      get_or-set_other (set rowed (spot k tag_a_spot) x) (spot k tag_b_spot) (spot k tag_a_spot) y 0 (omega arith)
      ∙ get_or-set_same rowed (spot k tag_a_spot) x 0 (omega (arith, rowed_length))

  post_B : byte (post b k x y (row_bytes r)) (spot k tag_b_spot) ≡ y
  unfolding post
  post_B =
      get_or-set_same (set rowed (spot k tag_a_spot) x) (spot k tag_b_spot) y 0
      (let e = length-set rowed (spot k tag_a_spot) x ∙ rowed_length in omega arith)

  post_row : (c : ℕ) → c < 16 → byte (post b k x y (row_bytes r)) (spot k (row_spot + c)) ≡ row_byte r c
  unfolding row_bytes
  post_row c l =
      let s : spot k (row_spot + c) ≡ spot k row_spot + c = omega arith in
      past_tags (spot k (row_spot + c)) (omega arith) (omega arith) ∙ ap (byte rowed) s
      ∙ mid_in (spot k row_spot) 16 b (row_bytes r) fits sized c l ∙ tab_at 16 (row_byte r) c l

-- the one law of writing
pub post_holds : (f : Fields) (b : List ℕ) → Holds f b → (k : ℕ) → k < records → (r : Record)
    → Holds (record { setup = f.setup; at = put f.at k r }) (post b k r.tag_a r.tag_b (row_bytes r.row))
unfolding marked_byte
post_holds f b h k lk r =
    record {
      size = post_length b h.size k r.tag_a r.tag_b lk r.row;
      head = λ i l. h.head i l ∙ sym (post_head b h.size k r.tag_a r.tag_b lk r.row i l);
      there =
          λ i c li lc.
          put_all (λ i (q : Record). i < records → record_byte i q c ≡ byte (post b k r.tag_a r.tag_b (row_bytes r.row)) (spot i c))
          f.at k r
          (λ l. here c lc)
          (λ i ne l. h.there i c l lc ∙ sym (post_other b h.size k r.tag_a r.tag_b lk r.row i c lc (λ e z. ne e))) i li;
    }
  where
    here : (c : ℕ) → c < 20 → record_byte k r c ≡ byte (post b k r.tag_a r.tag_b (row_bytes r.row)) (spot k c)
    here =
        record_bytes k r (λ c v. v ≡ byte (post b k r.tag_a r.tag_b (row_bytes r.row)) (spot k c)) (mark 0 _ (omega arith) refl)
        (mark 1 _ (omega arith) refl) (sym (post_A b h.size k r.tag_a r.tag_b lk r.row))
        (sym (post_B b h.size k r.tag_a r.tag_b lk r.row))
        (λ c l. sym (post_row b h.size k r.tag_a r.tag_b lk r.row c l))
      where
        mark : (c v : ℕ) → c < 2 → v ≡ record_byte k (f.at k) c → v ≡ byte (post b k r.tag_a r.tag_b (row_bytes r.row)) (spot k c)
        mark c v l e =
            e ∙ h.there k c lk (omega arith)
            ∙ sym (post_other b h.size k r.tag_a r.tag_b lk r.row k c (omega arith) (λ z m. omega arith))
