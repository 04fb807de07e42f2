-- Fields and bytes: the bytes of fields hold them, bytes that hold fields are theirs, and tell them.
-- Assumes nothing.
use Prim.Native.Nat.{ℕ, zero, suc, ◌+◌, ◌-◌, ◌/◌, ◌%◌, ◌<◌, ◌≤◌}
use mathlib.Core.Path.{◌≡◌, refl, sym, ap, ◌∙◌, subst}
use mathlib.Core.Bool.{Bool, true, false}
use mathlib.Core.List.{List}
use mathlib.Core.Logic.{⊎_elim}
use native.Mathlib.Omega.{arith}
use native.Mathlib.Nat.{mod-eq_of_lt}
use borrow.Author.Tests.{lt-ltb, le-ltb, eqb-true, eq-eqb, ne_eqb}
use lib.Dec.{eqb}
use lib.ListN.{take}
use lib.Seq.{ext_get_or}
use Rattle.tools.specs.Tests.{pick}
use Rattle.tools.specs.Lists.{byte, tab}
use Rattle.tools.proofs.Tests.{lt_or_le, eq_or_ne}
use Rattle.tools.proofs.Lists.{length_tab, tab_at, tab_same}
use Rattle.rules.specs.Setups.{Setup}
use Rattle.rules.specs.Replies.{row_byte}
use Rattle.rules.proofs.RowBytes.{row_phase, row_clock, row_alike}
use Rattle.book.specs.Layout.{tag_a_spot, tag_b_spot, book_size, records, seats, row_spot, phase_spot, clock_spot}
use Rattle.book.specs.Layout.{Record, Fields, spot, phases_byte, head_byte, mark0, mark1, marked_byte, record_byte, byte_of}
use Rattle.book.specs.Layout.{layout, limits_of, setup_of, row_at}
use Rattle.book.specs.Layout.{fields, Holds}

-- the row that stands in the bytes
pub row_at_lem : (b : List ℕ) (k c : ℕ) → row_byte (row_at b k) c ≡ byte b (spot k (row_spot + c))
unfolding row_byte
row_at_lem b k c =
    ⊎_elim (λ (e : c % 2 ≡ 0).
    let j : spot k (row_spot + phase_spot (c / 2)) ≡ spot k (row_spot + c) = omega arith in
    rw (eq-eqb _ _ e) (ap (byte b) j))
    (λ (e : c % 2 ≡ 0 → ⊥).
    let j : spot k (row_spot + clock_spot (c / 2)) ≡ spot k (row_spot + c) = omega arith in
    rw (ne_eqb _ _ e) (ap (byte b) j)) (eq_or_ne (c % 2) 0)

pub marked_row : (x y : ℕ) (r : Record) (c : ℕ) → marked_byte x y r (4 + c) ≡ row_byte r.row c
unfolding marked_byte
marked_row x y r c =
    let e : 4 + c - 4 ≡ c = omega arith in
    rw (
      ne_eqb (4 + c) 0 (omega arith),
      ne_eqb (4 + c) 1 (omega arith),
      ne_eqb (4 + c) 2 (omega arith),
      ne_eqb (4 + c) 3 (omega arith),
      e,
    )

-- byte by byte, a record is its mark, its tags and its row
pub marked_bytes : (x y : ℕ) (r : Record) (Q : ℕ → ℕ → Type 0) → Q 0 x → Q 1 y → Q 2 r.tag_a → Q 3 r.tag_b
    → ((c : ℕ) → c < 16 → Q (4 + c) (row_byte r.row c)) → (c : ℕ) → c < 20 → Q c (marked_byte x y r c)
unfolding marked_byte
marked_bytes x y r Q q0 q1 q2 q3 q4 zero l = q0
marked_bytes x y r Q q0 q1 q2 q3 q4 (suc zero) l = q1
marked_bytes x y r Q q0 q1 q2 q3 q4 (suc (suc zero)) l = q2
marked_bytes x y r Q q0 q1 q2 q3 q4 (suc (suc (suc zero))) l = q3
marked_bytes x y r Q q0 q1 q2 q3 q4 (suc (suc (suc (suc c)))) l =
    let e : 4 + c ≡ suc (suc (suc (suc c))) = omega arith in
    subst (λ n. Q n (marked_byte x y r n)) e (subst (Q (4 + c)) (sym (marked_row x y r c)) (q4 c (omega arith)))

-- the same of a record of the book
record_row : (k : ℕ) (r : Record) (c : ℕ) → record_byte k r (4 + c) ≡ row_byte r.row c
record_row k = marked_row (mark0 k) (mark1 k)

pub record_bytes : (k : ℕ) (r : Record) (Q : ℕ → ℕ → Type 0) → Q 0 (mark0 k) → Q 1 (mark1 k) → Q 2 r.tag_a → Q 3 r.tag_b
    → ((c : ℕ) → c < 16 → Q (4 + c) (row_byte r.row c)) → (c : ℕ) → c < 20 → Q c (record_byte k r c)
record_bytes k = marked_bytes (mark0 k) (mark1 k)

-- the bytes that hold fields are those of the fields
module _ (f : Fields) (b : List ℕ) (h : Holds f b) where
  byte_is : (i : ℕ) → i < book_size → byte_of f i ≡ byte b i
  unfolding byte_of
  byte_is i l =
      ⊎_elim (λ (m : i < 16). rw (lt-ltb _ _ m) (h.head i m))
      (λ (m : 16 ≤ i).
      let j : spot ((i - 16) / 20) ((i - 16) % 20) ≡ i = omega arith in
      rw (le-ltb _ _ m) (h.there ((i - 16) / 20) ((i - 16) % 20) (omega arith) (omega arith) ∙ ap (byte b) j)) (lt_or_le i 16)

  pub layout_is : layout f ≡ b
  unfolding layout
  layout_is =
      ext_get_or 0 (tab 0 book_size (byte_of f)) b (length_tab 0 book_size (byte_of f) ∙ sym h.size)
      (λ i l.
      let m : i < book_size = rw length_tab at l in
      tab_at book_size (byte_of f) i m ∙ byte_is i m)

pub layout_holds : (f : Fields) → Holds f (layout f)
unfolding layout byte_of
layout_holds f =
    record {
      size = length_tab 0 book_size (byte_of f);
      head = λ i l. sym (tab_at book_size (byte_of f) i (omega arith) ∙ rw (lt-ltb i 16 l));
      there =
          λ k c lk lc.
          let d : (spot k c - 16) / 20 ≡ k = omega arith in
          let m : (spot k c - 16) % 20 ≡ c = omega arith in
          sym (tab_at book_size (byte_of f) (spot k c) (omega arith) ∙ rw (le-ltb (spot k c) 16 (omega arith), d, m));
    }

-- P AND ITS BYTE: either tells the other
pub phases_back : (n : ℕ) → phases_byte (phases_byte n) ≡ n
unfolding phases_byte
phases_back n = go (eqb n 256) (eqb n 0) refl refl
  where
    go : (t u : Bool) → eqb n 256 ≡ t → eqb n 0 ≡ u
        → pick (eqb (pick t 0 (pick u 256 n)) 256) 0 (pick (eqb (pick t 0 (pick u 256 n)) 0) 256 (pick t 0 (pick u 256 n))) ≡ n
    go true u e f = sym (eqb-true n 256 e)
    go false true e f = sym (eqb-true n 0 f)
    go false false e f = rw (e, f)

-- the P that a byte tells, by the last phase, whose successor comes round to the byte
pub phases_last : (y n : ℕ) → n < 256 → (n + 1) % 256 ≡ y → n + 1 ≡ phases_byte y
unfolding phases_byte
phases_last y n l e =
    ⊎_elim (λ (m : n + 1 < 256).
    let s : y ≡ n + 1 = sym e ∙ mod-eq_of_lt m in
    rw (s, ne_eqb (n + 1) 256 (omega arith), ne_eqb (n + 1) 0 (omega arith)))
    (λ (m : 256 ≤ n + 1).
    let s : n + 1 ≡ 256 = omega arith in
    let z : y ≡ 0 = sym e ∙ ap (λ k. k % 256) s in
    rw (z, s)) (lt_or_le (n + 1) 256)

-- the limits that fields tell: those of the desks in the seats' records
abbrev pub limits_in : Fields → List ℕ
limits_in f = take f.setup.desks (tab 0 seats (λ j. (f.at j).tag_b))

-- what the bytes that hold fields tell of them
module _ (f : Fields) (b : List ℕ) (h : Holds f b) where
  pub setup_is : limits_in f ≡ f.setup.limits → setup_of b ≡ f.setup
  unfolding head_byte marked_byte
  setup_is e =
      let seen = tab_same seats (λ j. byte b (spot j tag_b_spot)) (λ j. (f.at j).tag_b) (λ j l. sym (h.there j 3 (omega arith) (omega arith))) in
      let told : limits_of b ≡ f.setup.limits
      = ap (λ (l : List ℕ). take (byte b 2) l) seen ∙ ap (λ n. take n (tab 0 seats (λ j. (f.at j).tag_b))) (sym (h.head 2 (omega arith))) ∙ e in
      let ring = ap phases_byte (sym (h.head 3 (omega arith))) ∙ phases_back f.setup.phases in
      λ i. record {
        desks = sym (h.head 2 (omega arith)) i;
        phases = ring i;
        limits = told i;
        seat_lag = sym (h.head 5 (omega arith)) i;
        shelf_lag = sym (h.head 6 (omega arith)) i;
        back = sym (h.head 7 (omega arith)) i;
        ahead = sym (h.head 8 (omega arith)) i;
      }

  pub tag_a_is : (k : ℕ) → k < records → byte b (spot k tag_a_spot) ≡ (f.at k).tag_a
  unfolding marked_byte
  tag_a_is k l = sym (h.there k 2 l (omega arith))

  pub tag_b_is : (k : ℕ) → k < records → byte b (spot k tag_b_spot) ≡ (f.at k).tag_b
  unfolding marked_byte
  tag_b_is k l = sym (h.there k 3 l (omega arith))

  pub row_byte_is : (k c : ℕ) → k < records → c < 16 → byte b (spot k (row_spot + c)) ≡ row_byte (f.at k).row c
  row_byte_is k c lk lc = sym (sym (record_row k (f.at k) c) ∙ h.there k (4 + c) lk (omega arith))

  pub pair_is : (k j : ℕ) → k < records → j < 8 → row_at b k j ≡ (f.at k).row j
  pair_is k j lk lj =
      let p = row_byte_is k (phase_spot j) lk (omega arith) ∙ row_phase (f.at k).row j in
      let q = row_byte_is k (clock_spot j) lk (omega arith) ∙ row_clock (f.at k).row j in
      λ i. record { phase = p i; clock = q i }

-- records that agree in their tags and for eight desks
abbrev pub Alike : Record → Record → Type 0
Alike r s = (r.tag_a ≡ s.tag_a) × (r.tag_b ≡ s.tag_b) × ((j : ℕ) → j < 8 → r.row j ≡ s.row j)

pub alike_bytes : (k : ℕ) (r s : Record) → Alike r s → (c : ℕ) → c < 20 → record_byte k r c ≡ record_byte k s c
unfolding marked_byte
alike_bytes k r s a =
    record_bytes k r (λ c v. v ≡ record_byte k s c) refl refl a.0 a.1
    (λ c l. row_alike r.row s.row a.2 c l ∙ sym (record_row k s c))

pub holds_alike : (f g : Fields) (b : List ℕ) → f.setup ≡ g.setup → ((k : ℕ) → k < records → Alike (f.at k) (g.at k))
    → Holds f b → Holds g b
holds_alike f g b e a h =
    record {
      size = h.size;
      head = λ i l. ap (λ (X : Setup). head_byte X i) (sym e) ∙ h.head i l;
      there = λ k c lk lc. sym (alike_bytes k (f.at k) (g.at k) (a k lk) c lc) ∙ h.there k c lk lc;
    }

pub fields_alike : (f : Fields) (b : List ℕ) → Holds f b → (k : ℕ) → k < records → Alike ((fields b).at k) (f.at k)
fields_alike f b h k l = (tag_a_is f b h k l, tag_b_is f b h k l, λ j lj. pair_is f b h k j l lj)
