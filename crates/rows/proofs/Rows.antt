-- New rows, byte by byte.
-- Assumes nothing.
use Prim.Native.Nat.{ℕ, ◌+◌, ◌*◌, ◌≤◌, ◌<◌}
use mathlib.Core.Path.{◌≡◌, sym, ap, ◌∙◌}
use mathlib.Core.Bool.{Bool, true, false, not, ◌&&◌}
use mir.Val.{bool_byte}
use Rattle.std.proofs.Common.{Option, Some, None}
use Rattle.std.specs.Option.{unwrap_or, is_some}
use mathlib.Core.List.{List}
use native.Mathlib.Omega.{arith}
use lib.Dec.{eqb}
use lib.ListN.{length, set, take, drop, length-take, length-drop}
use lib.Seq.{get_or-take, get_or-drop}
use Rattle.tools.specs.Tests.{count, counted}
use Rattle.tools.specs.Tables.{put}
use Rattle.tools.specs.Lists.{byte, Filled}
use Rattle.tools.proofs.Tests.{and_false, count_cong, count_beyond}
use Rattle.tools.proofs.Tables.{put_both}
use Rattle.tools.proofs.Lists.{is_tab, filled_more}
use Rattle.ring.specs.Phases.{Pair, is_later, Taken, later}
use Rattle.ring.specs.Took.{took}
use Rattle.ring.proofs.Ring.{not_later}
use Rattle.rules.specs.Setups.{limit}
use Rattle.rules.specs.Model.{Row, zeros, own, row_in, tick, turn, taken, learns}
use Rattle.rules.specs.Calls.{ring_of}
use Rattle.rules.specs.Replies.{row_byte, row_bytes}
use Rattle.book.specs.Layout.{book_size, records, row_size, row_spot, spot, phase_spot, clock_spot, mail_from, setup_of, row_at}
use Rattle.book.specs.Sound.{sound}
use Rattle.book.specs.Numbers.{tables_of}
use Rattle.rules.proofs.RowBytes.{row_phase, row_clock, rows_alike}
use Rattle.book.proofs.Rows.{row_there, set_pair}
use Rattle.book.proofs.Told.{seat_row, read_at, own_at, few_desks, room}
use Rattle.book.proofs.Soundness.{sound_size}
use Rattle.book.proofs.Below.{mail_row, seat_beyond, mail_beyond}
use Rattle.rows.specs.Rows.{AtDesk, Grows, taken_at, later_row, learns_at, with_pair, grown_row, turned_row, merged_row, learnt_from}

-- a desk of a sound book has a seat, and a clock below its limit may grow
pub at_desk : (s : List ℕ) (j : ℕ) → sound s ≡ true → j < byte s 2 → AtDesk s j
at_desk s j h l = record { whole = h; size = sound_size s h; eight = omega (arith, few_desks s h) }

pub grows : (s : List ℕ) (j : ℕ) → sound s ≡ true → j < byte s 2 → (own (tables_of s) j).clock + 1 < limit (setup_of s) j → Grows s j
grows s j h l m =
    let a = at_desk s j h l in
    let e : (own (tables_of s) j).clock ≡ (row_at s j j).clock = ap (λ (q : Pair). q.clock) (own_at s j a.eight) in
    record { at = a; clock = omega (arith, e, room s h j l) }

-- the sixteen bytes at a record's row are its row
pub row_cut : (b : List ℕ) (k a n : ℕ) → length b ≡ book_size → k < records → a ≡ spot k row_spot → n ≡ row_size
    → take n (drop a b) ≡ row_bytes (row_at b k)
row_cut b k a n size l e f =
    is_tab 16 (λ c. byte b (spot k row_spot + c)) (take n (drop a b)) (simp (length-take, length-drop) (omega arith))
    (λ i q. get_or-take n (drop a b) i 0 (omega arith) ∙ get_or-drop a b i 0 ∙ ap (λ c. byte b (c + i)) e)
    ∙ row_there b k

-- the next desk's pair of a row that is filled desk by desk
pub filled_pair : (r : Row) (k a b : ℕ) (row : List ℕ) (x y : ℕ) → Filled 16 (2 * k) (row_byte r) row → k < 8
    → a ≡ phase_spot k → b ≡ clock_spot k → x ≡ (r k).phase → y ≡ (r k).clock
    → Filled 16 (2 * (k + 1)) (row_byte r) (set (set row a x) b y)
filled_pair r k a b row x y h l ea eb ex ey =
    let c : 1 + 2 * k ≡ 2 * k + 1 = omega arith in
    let e : 2 * k + 1 + 1 ≡ 2 * (k + 1) = omega arith in
    rw (ea, eb ∙ c) (rw e at (filled_more 16 (2 * k + 1) (row_byte r) (set row (2 * k) x) y
    (filled_more 16 (2 * k) (row_byte r) row x h (omega arith) (ex ∙ sym (row_phase r k))) (omega arith)
    (ey ∙ sym (row_clock r k) ∙ ap (row_byte r) c)))

-- what is taken, by the code's answer
pub took_parts : (e : Pair) (o : Option Pair) (t : Taken) → took e o ≡ t → (unwrap_or o e ≡ t.pair) × (is_some o ≡ t.changed)
took_parts e None t h = (ap (λ (q : Taken). q.pair) h, ap (λ (q : Taken). q.changed) h)
took_parts e (Some f) t h = (ap (λ (q : Taken). q.pair) h, ap (λ (q : Taken). q.changed) h)

-- one more is counted where it holds
pub one_more : (t : Bool) (n : ℕ) → n + bool_byte t ≡ counted t n
one_more true n = omega arith
one_more false n = omega arith

-- desk j's own pair is set in a row that is r for eight desks
put_alike : (r t : Row) (j : ℕ) (q u : Pair) → q ≡ u → ((k : ℕ) → k < 8 → r k ≡ t k) → row_bytes (put r j q) ≡ row_bytes (put t j u)
put_alike r t j q u e h =
    rows_alike (put r j q) (put t j u)
    (λ k m. put_both (λ i (x y : Pair). i < 8 → x ≡ y) r t j q u (λ z. e) (λ i ne z. h i z) k m)

module _ (s : List ℕ) (j : ℕ) (l : j < 8) where
  seat_at : (k : ℕ) → k < 8 → row_at s j k ≡ ((tables_of s).seat j).row k
  seat_at k m = sym (ap (λ (r : Row). r k) (seat_row s j l) ∙ read_at (row_at s j) k m)

  pub grown_bytes : with_pair (row_bytes (row_at s j)) j (tick (row_at s j j)) ≡ row_bytes (grown_row s j)
  grown_bytes =
      set_pair (row_at s j) j l (tick (row_at s j j))
      ∙ put_alike (row_at s j) ((tables_of s).seat j).row j (tick (row_at s j j)) (tick (own (tables_of s) j))
      (ap tick (sym (own_at s j l))) seat_at

  pub turned_bytes : with_pair (row_bytes (row_at s j)) j (turn (ring_of (setup_of s)) (row_at s j j)) ≡ row_bytes (turned_row s j)
  turned_bytes =
      set_pair (row_at s j) j l (turn (ring_of (setup_of s)) (row_at s j j))
      ∙ put_alike (row_at s j) ((tables_of s).seat j).row j (turn (ring_of (setup_of s)) (row_at s j j))
      (turn (ring_of (setup_of s)) (own (tables_of s) j)) (ap (turn (ring_of (setup_of s))) (sym (own_at s j l))) seat_at

  -- p a mail place
  module _ (h : sound s ≡ true) (p : ℕ) (lp : p < 32) where
    abbrev mail : Row
    mail = row_in ((tables_of s).mail p)

    -- what is taken of the bytes is what is taken of the tables
    taken_at_lem : (k : ℕ) → k < 8 → taken_at s j (mail_from + p) k ≡ taken (ring_of (setup_of s)) (tables_of s) j mail k
    taken_at_lem k m =
        let o = sym (own_at s k m) in
        let a = seat_at k m in
        let w = mail_row s h p k lp m in
        λ i. later (ring_of (setup_of s)) (o i).phase (a i) (w i)

    pub merged_bytes : with_pair (row_bytes (later_row s j (mail_from + p))) j (tick (row_at s j j)) ≡ row_bytes (merged_row s j p)
    merged_bytes =
        set_pair (later_row s j (mail_from + p)) j l (tick (row_at s j j))
        ∙ put_alike (later_row s j (mail_from + p)) (λ k. (taken (ring_of (setup_of s)) (tables_of s) j mail k).pair) j
        (tick (row_at s j j)) (tick (own (tables_of s) j)) (ap tick (sym (own_at s j l)))
        (λ k m. ap (λ (t : Taken). t.pair) (taken_at_lem k m))

    -- of a desk that is not there nothing is learnt
    none_beyond : (k : ℕ) → byte s 2 ≤ k → learns (ring_of (setup_of s)) (tables_of s) j mail k ≡ false
    none_beyond k m =
        let o = (own (tables_of s) k).phase in
        let a = seat_beyond s h j k m in
        let w = mail_beyond s h p k m in
        let q = (λ i. is_later (ring_of (setup_of s)) o (w i) (a i)) ∙ not_later (ring_of (setup_of s)) o (zeros k) in
        ap (λ t. not (eqb k j) && t) q ∙ and_false (not (eqb k j))

    pub learnt_counts : count 8 (learns_at s j (mail_from + p)) ≡ learnt_from s j p
    learnt_counts =
        count_cong 8 (learns_at s j (mail_from + p)) (learns (ring_of (setup_of s)) (tables_of s) j mail)
        (λ k m. ap (λ (t : Taken). not (eqb k j) && t.changed) (taken_at_lem k m))
        ∙ count_beyond (byte s 2) 8 (learns (ring_of (setup_of s)) (tables_of s) j mail) (few_desks s h) (λ k m n. none_beyond k m)
