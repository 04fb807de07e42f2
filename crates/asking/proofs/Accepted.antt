-- What a call that asks is answered where its slots are used.
-- Assumes nothing.
use Prim.Native.Nat.{ℕ, ◌+◌, ◌≤◌}
use mathlib.Core.Path.{◌≡◌, sym, ap, ◌∙◌, subst}
use mathlib.Core.Bool.{Bool, false, ◌||◌}
use mathlib.Core.Option.{Option}
use mathlib.Core.List.{List}
use native.Mathlib.Omega.{arith}
use borrow.Author.Tests.{le-ltb}
use lib.ListN.{length, take, drop, length-drop}
use lib.Seq.{length-take-le, get_or-take, get_or-drop}
use Rattle.tools.specs.Lists.{byte, tab}
use Rattle.tools.specs.Reasons.{if_done}
use Rattle.tools.proofs.Lists.{is_tab}
use Rattle.ring.specs.Phases.{Gap}
use Rattle.rules.specs.Setups.{Setup}
use Rattle.std.specs.Prelude.{Result}
use Rattle.rules.specs.declared.Refusal.{Refusal}
use Rattle.rules.specs.declared.Relation.{Relation}
use Rattle.rules.specs.Model.{Row, before, compare, show, write, Answer, by_in, row_in, no_slot, gap_from, done, ask_tells}
use Rattle.rules.specs.Calls.{on, ring_of, call}
use Rattle.rules.specs.Replies.{row_bytes, row_of, told_says, compared_says}
use Rattle.book.specs.Layout.{row_spot, shelf_from, spot, setup_of, row_at}
use Rattle.book.specs.Codec.{read_row}
use Rattle.book.specs.Stamps.{write_stamp}
use Rattle.book.specs.Answers.{admits, answer_to, part_in, record_in, part_of, part_from}
use Rattle.book.specs.Numbers.{tables_of, number_of}
use Rattle.book.proofs.Soundness.{sound_size}
use Rattle.rules.proofs.RowBytes.{rows_alike, row_of_bytes}
use Rattle.book.proofs.Rows.{row_there}
use Rattle.book.proofs.Told.{read_at}
use Rattle.book.proofs.Numbers.{answer_number, accepted_answer}
use Rattle.book.proofs.Answers.{answer_is}
use Rattle.comparing.specs.declared.Way.{Way}
use Rattle.comparing.specs.Ways.{WayOf}
use Rattle.comparing.specs.Answers.{before_by, compare_by}
use Rattle.comparing.proofs.Answers.{before_on, compare_on}
use Rattle.refusals.proofs.Slots.{Two, show_one, write_one}
use Rattle.asking.specs.Slots.{WayBetween, record_for}
use Rattle.asking.proofs.Slots.{slot_place, slot_row}

-- two used slots, of the desks j and l; X is the setup as it was read
module _ (s : List ℕ) (i k : ℕ) (two : Two s i k) (X : Setup) (same : X ≡ setup_of s)
    (j l : ℕ) (p : j ≡ by_in ((tables_of s).shelf i)) (q : l ≡ by_in ((tables_of s).shelf k)) where
  abbrev one : Row
  one = row_in ((tables_of s).shelf i)

  abbrev other : Row
  other = row_in ((tables_of s).shelf k)

  abbrev there : Option Gap
  there = gap_from (ring_of (setup_of s)) (setup_of s) (tables_of s) i k

  abbrev back : Option Gap
  back = gap_from (ring_of (setup_of s)) (setup_of s) (tables_of s) k i

  used : (no_slot (tables_of s) i || no_slot (tables_of s) k) ≡ false
  used x = two.first x || two.second x

  -- the ways between them, by the setup and the desks that were read
  way_there : (w : Way) → WayBetween s i k w → WayOf X there j one other w
  way_there w h =
      subst (λ n. WayOf X there n one other w) (sym p)
      (subst (λ (Y : Setup). WayOf Y there (by_in ((tables_of s).shelf i)) one other w) (sym same) h)

  way_back : (v : Way) → WayBetween s k i v → WayOf X back l other one v
  way_back v h =
      subst (λ n. WayOf X back n other one v) (sym q)
      (subst (λ (Y : Setup). WayOf Y back (by_in ((tables_of s).shelf k)) other one v) (sym same) h)

  module _ (w : Way) (h : WayBetween s i k w) where
    pub before_answered : (r : Result Bool Refusal)
        → ((g : Option Gap) (e f : Row) → WayOf X g j e f w → told_says r ≡ before_by g j l e f)
        → told_says r ≡ answer_to s (on (before i k))
    unfolding admits call
    before_answered r told =
        told there one other (way_there w h)
        ∙ (λ x. before_by there (p x) (q x) one other)
        ∙ before_on (ring_of (setup_of s)) (setup_of s) (tables_of s) i k used
        ∙ sym (answer_is s (on (before i k)) two.whole)

    pub compare_answered : (v : Way) → WayBetween s k i v → (r : Result Relation Refusal)
        → ((g h : Option Gap) (e f : Row) → WayOf X g j e f w → WayOf X h l f e v → compared_says r ≡ compare_by g h j l e f)
        → compared_says r ≡ answer_to s (on (compare i k))
    unfolding admits call
    compare_answered v b r told =
        told there back one other (way_there w h) (way_back v b)
        ∙ (λ x. compare_by there back (p x) (q x) one other)
        ∙ compare_on (ring_of (setup_of s)) (setup_of s) (tables_of s) i k used
        ∙ sym (answer_is s (on (compare i k)) two.whole)

-- the sixteen bytes of a row, where they stand
pub part_tab : (n a : ℕ) (l : List ℕ) → a + n ≤ length l → take n (drop a l) ≡ tab 0 n (λ c. byte l (a + c))
part_tab n a l h =
    is_tab n (λ c. byte l (a + c)) (take n (drop a l)) (length-take-le n (drop a l) (omega (arith, length-drop a l)))
    (λ c m. get_or-take n (drop a l) c 0 m ∙ get_or-drop a l c 0)

row_read_lem : (s : List ℕ) (k : ℕ) → row_bytes (row_at s k) ≡ row_bytes (read_row (row_at s k))
row_read_lem s k = rows_alike (row_at s k) (read_row (row_at s k)) (λ j m. sym (read_at (row_at s k) j m))

module _ (s : List ℕ) (i : ℕ) where
  -- the part of the book that show hands back
  pub show_part : number_of s (show i) ≡ 0 → take 16 (drop (spot (shelf_from + i) row_spot) s) ≡ part_of s i
  unfolding done ask_tells
  show_part e =
      let o = show_one s i e in
      let l = slot_place s i o.used in
      part_tab 16 (spot (shelf_from + i) row_spot) s (omega (arith, l, sound_size s o.whole)) ∙ row_there s (shelf_from + i)
      ∙ row_read_lem s (shelf_from + i) ∙ ap row_bytes (sym (slot_row s i o.used))
      ∙ ap (λ (a : Answer). part_in a.value) (accepted_answer s (show i) e)

  -- and where it begins
  pub show_from : number_of s (show i) ≡ 0 → spot (shelf_from + i) row_spot ≡ part_from s i
  show_from e = ap (λ (n : ℕ). if_done n (spot (shelf_from + i) row_spot) 0) (sym (answer_number s (show i) ∙ e))

  -- the record that write fills in
  pub write_record : (room : ℕ) → number_of s (write i room) ≡ 0 → (D o : ℕ) (row : List ℕ) → D ≡ byte s 2 → o ≡ by_in ((tables_of s).shelf i)
      → row ≡ row_bytes (row_at s (shelf_from + i))
      → write_stamp D (record { owner = o; row = row_of row }) ≡ record_for s i room
  unfolding done ask_tells
  write_record room e D o row d p q =
      let r : row_of row ≡ row_in ((tables_of s).shelf i)
      = ap row_of (q ∙ row_read_lem s (shelf_from + i)) ∙ row_of_bytes (read_row (row_at s (shelf_from + i))) (λ k l. rw (le-ltb k 8 l))
      ∙ sym (slot_row s i (write_one s i room e).used) in
      (λ x. write_stamp (d x) (record { owner = p x; row = r x }))
      ∙ ap (λ (a : Answer). record_in (byte s 2) a.value) (accepted_answer s (write i room) e)
