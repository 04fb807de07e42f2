-- A fresh book, record by record.
-- Assumes nothing.
use Prim.Native.Nat.{ℕ, ◌+◌, ◌*◌, ◌%◌, ◌<◌, ◌≤◌}
use mathlib.Core.Path.{◌≡◌, refl, sym, ap, ◌∙◌}
use mathlib.Core.Bool.{Bool, true, false}
use mathlib.Core.List.{List, [], ◌++◌}
use mathlib.Core.Logic.{⊎_elim}
use native.Mathlib.Omega.{arith}
use borrow.Author.Tests.{lt-ltb}
use borrow.Author.Count.{below_more}
use lib.Dec.{ltb, eqb}
use lib.ListN.{length, set, drop, length-set, length-append, length-drop, get_or-append}
use lib.Seq.{get_or-set_same, get_or-set_other, get_or-append-add, get_or-drop}
use Rattle.tools.specs.Tests.{pick}
use Rattle.tools.specs.Lists.{byte, tab, Filled}
use Rattle.tools.proofs.Tests.{each, lt_or_le}
use Rattle.tools.proofs.Lists.{length_tab, tab_at}
use Rattle.rules.specs.Setups.{Setup, setup_with, limit, in_range, permits}
use Rattle.rules.specs.declared.SetupNumbers.{SetupNumbers}
use Rattle.rules.specs.Model.{zeros, fresh}
use Rattle.rules.specs.Calls.{fresh_book}
use Rattle.rules.specs.Replies.{row_byte}
use Rattle.rules.proofs.Setups.{Permitted, permitted}
use Rattle.book.specs.Layout.{head_size, record_size, row_spot, tag_a_spot, tag_b_spot}
use Rattle.book.specs.Layout.{book_size, records, shelf_from, Record, spot, head_byte, mark0, mark1, record_byte}
use Rattle.book.specs.Codec.{record_of, write, encode}
use Rattle.book.proofs.Bytes.{record_bytes, layout_is}
use Rattle.book.proofs.Posted.{spot_same}
use Rattle.fresh.specs.Written.{Written, Small}

-- the numbers of a permitted setup are in their ranges, whatever the limits
pub in_range_lem : (s : SetupNumbers) (l : List ℕ) → permits (setup_with s l) ≡ true → in_range (setup_with s []) ≡ true
unfolding permits in_range
in_range_lem s l h = each _ h 0

-- every limit fits a byte
pub small : (X : Setup) → permits X ≡ true → Small X.limits
small X h =
    let p = permitted X h in
    record { few = omega (arith, p.listed, p.few); each = λ j l. (p.ticks j (omega (arith, p.listed, l))).1 }

-- a fresh record is its mark, a limit and zeros
abbrev plain : ℕ → Record
plain l = record { tag_a = 0; tag_b = l; row = zeros }

fresh_record : (X : Setup) (k : ℕ) → record_of X fresh k ≡ plain (pick (ltb k 8) (limit X k) 0)
fresh_record X k = go (ltb k 8) (ltb k shelf_from)
  where
    go : (t u : Bool) → pick t (plain (limit X k)) (pick u (plain 0) (plain 0)) ≡ plain (pick t (limit X k) 0)
    go true u = refl
    go false true = refl
    go false false = refl

zero_byte : (c : ℕ) → row_byte zeros c ≡ 0
unfolding row_byte
zero_byte c = go (eqb (c % 2) 0)
  where
    go : (t : Bool) → ◌≡◌ {A = ℕ} (pick t 0 0) 0
    go true = refl
    go false = refl

-- the header, and zeros behind it
pub written_head : (X : Setup) (b head : List ℕ) → head ≡ tab 0 head_size (head_byte X) → Filled book_size book_size (λ i. 0) b
    → Written X 0 0 (head ++ drop head_size b)
written_head X b head e h =
    record {
      size = length-append head (drop head_size b) ∙ omega (arith, long, length-drop head_size b, h.size);
      head =
          λ i l.
          sym (get_or-append head (drop head_size b) 0 i (omega (arith, long)) ∙ ap (λ (x : List ℕ). byte x i) e
          ∙ tab_at head_size (head_byte X) i l);
      marks = λ k l. absurd (omega arith);
      limits = λ j l. absurd (omega arith);
      rest =
          λ k c l m o z.
          let i : spot k c ≡ length head + (record_size * k + c) = omega (arith, long) in
          sym (ap (byte (head ++ drop head_size b)) i ∙ get_or-append-add head (drop head_size b) (record_size * k + c) 0
          ∙ get_or-drop head_size b (record_size * k + c) 0 ∙ h.at (head_size + (record_size * k + c)) (omega arith));
    }
  where
    long : length head ≡ head_size
    long = ap (λ (x : List ℕ). length x) e ∙ length_tab 0 head_size (head_byte X)

-- the mark of one record more
module _ (X : Setup) (n : ℕ) (b : List ℕ) (h : Written X n 0 b) (l : n < records) where
  abbrev half : List ℕ
  half = set b (spot n 0) (mark0 n)

  abbrev marked : List ℕ
  marked = set half (spot n 1) (mark1 n)

  past_mark : (i : ℕ) → (i ≡ spot n 0 → ⊥) → (i ≡ spot n 1 → ⊥) → byte b i ≡ byte marked i
  past_mark i n0 n1 = sym (get_or-set_other half (spot n 1) i (mark1 n) 0 n1 ∙ get_or-set_other b (spot n 0) i (mark0 n) 0 n0)

  here : (mark0 n ≡ byte marked (spot n 0)) × (mark1 n ≡ byte marked (spot n 1))
  here = (
    sym (get_or-set_other half (spot n 1) (spot n 0) (mark1 n) 0 (omega arith)
        ∙ get_or-set_same b (spot n 0) (mark0 n) 0 (omega (arith, h.size))),
    sym (get_or-set_same half (spot n 1) (mark1 n) 0 (simp length-set (omega (arith, h.size)))),
  )

  there : (k : ℕ) → k < n → (mark0 k ≡ byte marked (spot k 0)) × (mark1 k ≡ byte marked (spot k 1))
  there k m = (
    (h.marks k m).0 ∙ past_mark (spot k 0) (omega arith) (omega arith),
    (h.marks k m).1 ∙ past_mark (spot k 1) (omega arith) (omega arith),
  )

  written_marked : Written X (n + 1) 0 marked
  written_marked =
      record {
        size = simp length-set h.size;
        head = λ i m. h.head i m ∙ past_mark i (omega arith) (omega arith);
        marks = below_more _ n there here;
        limits = λ j m. absurd (omega arith);
        rest =
            λ k c lk m o u.
            h.rest k c lk m o u
            ∙ past_mark (spot k c) (λ e. let q = (spot_same n 0 k c (omega arith) o e).1 in omega arith)
            (λ e. let q = (spot_same n 1 k c (omega arith) o e).1 in omega arith);
      }

  pub written_more : (i j x y : ℕ) → i ≡ spot n 0 → j ≡ spot n 1 → x ≡ mark0 n → y ≡ mark1 n → Written X (n + 1) 0 (set (set b i x) j y)
  written_more i j x y ei ej ex ey = rw (ei, ej, ex, ey) written_marked

-- the limit of one desk more
module _ (X : Setup) (n : ℕ) (b : List ℕ) (h : Written X records n b) (l : n < 8) where
  abbrev seated : List ℕ
  seated = set b (spot n tag_b_spot) (limit X n)

  past_limit : (i : ℕ) → (i ≡ spot n tag_b_spot → ⊥) → byte b i ≡ byte seated i
  past_limit i ne = sym (get_or-set_other b (spot n tag_b_spot) i (limit X n) 0 ne)

  apart : (k c : ℕ) → c < 20 → (c ≡ tag_b_spot → k ≡ n → ⊥) → spot k c ≡ spot n tag_b_spot → ⊥
  apart k c lc ne e = let s = spot_same n tag_b_spot k c (omega arith) lc e in ne s.1 s.0

  written_limit : Written X records (n + 1) seated
  written_limit =
      record {
        size = simp length-set h.size;
        head = λ i m. h.head i m ∙ past_limit i (omega arith);
        marks = λ k m. (
          (h.marks k m).0 ∙ past_limit (spot k 0) (apart k 0 (omega arith) (λ c e. omega arith)),
          (h.marks k m).1 ∙ past_limit (spot k 1) (apart k 1 (omega arith) (λ c e. omega arith)),
        );
        limits =
            below_more _ n
            (λ j m. h.limits j m ∙ past_limit (spot j tag_b_spot) (apart j tag_b_spot (omega arith) (λ c e. omega arith)))
            (sym (get_or-set_same b (spot n tag_b_spot) (limit X n) 0 (omega (arith, h.size))));
        rest =
            λ k c lk m o u.
            h.rest k c lk m o (λ e. let z = u e in omega arith)
            ∙ past_limit (spot k c) (apart k c o (λ e f. let z = u e in omega arith));
      }

  pub written_next : (i x : ℕ) → i ≡ spot n tag_b_spot → x ≡ limit X n → Written X records (n + 1) (set b i x)
  written_next i x ei ex = rw (ei, ex) written_limit

pub written_all : (X : Setup) → permits X ≡ true → (b : List ℕ) → Written X records (length X.limits) b → b ≡ encode (fresh_book X)
written_all X fair b h =
    sym (layout_is (write (fresh_book X)) b
    (record {
      size = h.size;
      head = h.head;
      there =
          λ k c lk lc.
          ap (λ (r : Record). record_byte k r c) (fresh_record X k)
          ∙ record_bytes k (plain (pick (ltb k 8) (limit X k) 0)) (λ c v. v ≡ byte b (spot k c)) (h.marks k lk).0 (h.marks k lk).1
          (h.rest k tag_a_spot lk (omega arith) (omega arith) (λ e. omega arith)) (tag k lk)
          (λ c m. zero_byte c ∙ h.rest k (row_spot + c) lk (omega arith) (omega arith) (λ e. omega arith)) c lc;
    }))
  where
    ok : Permitted X
    ok = permitted X fair

    -- a desk's limit, and 0 in every other record
    tag : (k : ℕ) → k < records → pick (ltb k 8) (limit X k) 0 ≡ byte b (spot k tag_b_spot)
    tag k lk =
        ⊎_elim (λ (m : k < X.desks).
        rw (lt-ltb k 8 (omega (arith, ok.few, m))) (h.limits k (omega (arith, ok.listed, m))))
        (λ (m : X.desks ≤ k).
        go (ltb k 8) m ∙ h.rest k tag_b_spot lk (omega arith) (omega arith) (λ e. omega (arith, ok.listed, m))) (lt_or_le k X.desks)
      where
        go : (t : Bool) → X.desks ≤ k → pick t (limit X k) 0 ≡ 0
        go true m = ok.beyond k m
        go false m = refl
