-- Stamp records, byte by byte, and their round trips.
-- Assumes nothing.
use Prim.Native.Nat.{ℕ, ◌+◌, ◌<◌, ◌≤◌}
use mathlib.Core.Path.{◌≡◌, refl, sym, ap, ◌∙◌, fun_ext}
use mathlib.Core.Bool.{Bool, true, false}
use mathlib.Core.Option.{none, some}
use mathlib.Core.List.{List, [], ◌∷◌}
use mathlib.Core.Logic.{⊎_elim}
use native.Mathlib.Omega.{arith}
use borrow.Author.Tests.{eqb-true, eq-eqb, ltb-true, lt-ltb, le-ltb}
use lib.Dec.{ltb, eqb}
use lib.ListN.{length, drop, length-drop}
use lib.Seq.{get_or-drop}
use Rattle.tools.specs.Tests.{pick, all_of, all_below}
use Rattle.tools.specs.Lists.{byte, tab}
use Rattle.tools.proofs.Tests.{each, all_at, all_in, lt_or_le}
use Rattle.tools.proofs.Lists.{length_tab, tab_at, is_tab}
use Rattle.ring.specs.Phases.{Pair}
use Rattle.rules.specs.Setups.{Setup, limit}
use Rattle.rules.specs.Model.{Label, zeros}
use Rattle.rules.specs.Replies.{row_byte, row_bytes, row_of}
use Rattle.book.specs.Layout.{row_spot, phase_spot, clock_spot, marked_byte}
use Rattle.book.specs.Stamps.{stamp_mark0, stamp_mark1, stamp_byte, write_stamp, label_of, pair_reads, read_ok, read_stamp}
use Rattle.rules.proofs.RowBytes.{row_phase, row_clock, bytes_of_row}
use Rattle.book.proofs.Bytes.{marked_row, marked_bytes}
use Rattle.labels.specs.Records.{Readable}

pub label_pair : (r : List ℕ) (j : ℕ) → j < 8
    → (label_of r).row j ≡ record { phase = byte r (row_spot + phase_spot j); clock = byte r (row_spot + clock_spot j) }
label_pair r j l =
    rw (lt-ltb j 8 l)
    (λ i. record { phase = get_or-drop row_spot r (phase_spot j) 0 i; clock = get_or-drop row_spot r (clock_spot j) 0 i })

row_byte_lem : (r : List ℕ) → length r ≡ 20 → (c : ℕ) → c < 16 → byte r (4 + c) ≡ row_byte (label_of r).row c
unfolding row_bytes
row_byte_lem r e c l =
    sym (get_or-drop 4 r c 0) ∙ ap (λ (b : List ℕ). byte b c) (sym (bytes_of_row (drop 4 r) (length-drop 4 r ∙ omega arith)))
    ∙ tab_at 16 (row_byte (label_of r).row) c l

-- the record that is written of sixteen bytes
pub of_bytes : (d o : ℕ) (l : List ℕ) → length l ≡ 16
    → (stamp_mark0 ∷ stamp_mark1 ∷ o ∷ d ∷ l) ≡ write_stamp d (record { owner = o; row = row_of l })
unfolding tab write_stamp marked_byte row_byte
of_bytes d o l e = ap (λ (r : List ℕ). stamp_mark0 ∷ stamp_mark1 ∷ o ∷ d ∷ r) (is_tab 16 (byte l) l e (λ i m. refl))

-- a pair that reads
module _ (X : Setup) (j : ℕ) (q : Pair) (h : pair_reads X j q ≡ true) where
  pub pair_below : j < X.desks → (q.phase < X.phases) × (q.clock < limit X j)
  unfolding pair_reads
  pair_below l =
      let p : all_of (ltb q.phase X.phases ∷ ltb q.clock (limit X j) ∷ []) ≡ true
      = rw (pair_reads, lt-ltb j X.desks l) at h in
      (ltb-true _ _ (each _ p 0), ltb-true _ _ (each _ p 1))

  pair_zero : X.desks ≤ j → q ≡ zeros j
  unfolding pair_reads
  pair_zero l =
      let p : all_of (eqb q.phase 0 ∷ eqb q.clock 0 ∷ []) ≡ true = rw (pair_reads, le-ltb j X.desks l) at h in
      λ i. record { phase = eqb-true q.phase 0 (each _ p 0) i; clock = eqb-true q.clock 0 (each _ p 1) i }

zero_reads : (X : Setup) (j : ℕ) → X.desks ≤ j → pair_reads X j (zeros j) ≡ true
unfolding pair_reads all_of
zero_reads X j l = rw (pair_reads, le-ltb j X.desks l)

-- the clauses of a record that reads
pub record Clauses (X : Setup) (r : List ℕ) : Type 0 where
  pub size : length r ≡ 20
  pub mark0 : byte r 0 ≡ 0x53
  pub mark1 : byte r 1 ≡ 0x54
  pub owner : byte r 2 < X.desks
  pub desks : byte r 3 ≡ X.desks
  pub pairs : all_below 8 (λ j. pair_reads X j ((label_of r).row j)) ≡ true

module _ (X : Setup) (r : List ℕ) where
  pub read_clauses : read_ok X r ≡ true → Clauses X r
  unfolding read_ok
  read_clauses h =
      record {
        size = eqb-true _ _ (each _ h 0);
        mark0 = eqb-true _ _ (each _ h 1);
        mark1 = eqb-true _ _ (each _ h 2);
        owner = ltb-true _ _ (each _ h 3);
        desks = eqb-true _ _ (each _ h 4);
        pairs = each _ h 5;
      }

  module _ (h : Clauses X r) where
    pub clauses_read : read_ok X r ≡ true
    unfolding read_ok all_of
    clauses_read =
        rw (
          read_ok,
          eq-eqb _ _ h.size,
          eq-eqb _ _ h.mark0,
          eq-eqb _ _ h.mark1,
          lt-ltb _ _ h.owner,
          eq-eqb _ _ h.desks,
          h.pairs,
        )

    label_readable : X.desks ≤ 8 → Readable X (label_of r)
    label_readable few =
        record {
          owner = h.owner;
          row =
              λ j.
              ⊎_elim (λ (l : j < 8). all_at (λ j. pair_reads X j ((label_of r).row j)) 8 j l h.pairs)
              (λ (l : 8 ≤ j). rw (le-ltb j 8 l) (zero_reads X j (omega arith))) (lt_or_le j 8);
        }

    label_written : write_stamp X.desks (label_of r) ≡ r
    unfolding write_stamp
    label_written =
        sym (is_tab 20 (stamp_byte X.desks (label_of r)) r h.size
        (marked_bytes 0x53 0x54 _ (λ c v. byte r c ≡ v) h.mark0 h.mark1 refl h.desks (λ c l. row_byte_lem r h.size c l)))

-- what reads is what the bytes tell
pub stamp_told : (X : Setup) (r : List ℕ) (e : Label) → read_stamp X r ≡ some e → Clauses X r × (label_of r ≡ e)
unfolding read_stamp
stamp_told X r e = go (read_ok X r) refl
  where
    go : (t : Bool) → read_ok X r ≡ t → pick t (some (label_of r)) none ≡ some e → Clauses X r × (label_of r ≡ e)
    go true h q = (read_clauses X r h, cc)
    go false h q = absurd (let z : ◌≡◌ {A = ℕ} 0 1 = cc in omega arith)

-- every record that reads is the one that would be written
pub write_read : (X : Setup) (r : List ℕ) (e : Label) → read_stamp X r ≡ some e → write_stamp X.desks e ≡ r
write_read X r e h =
    let t = stamp_told X r e h in
    ap (write_stamp X.desks) (sym t.1) ∙ label_written X r t.0

module _ (X : Setup) (few : X.desks ≤ 8) where
  -- and it tells a stamp that a record can tell
  pub read_readable : (r : List ℕ) (e : Label) → read_stamp X r ≡ some e → Readable X e
  read_readable r e h =
      let t = stamp_told X r e h in
      rw (sym t.1) (label_readable X r t.0 few)

  -- every such stamp writes to a record that tells it
  module _ (e : Label) (h : Readable X e) where
    abbrev written : List ℕ
    written = write_stamp X.desks e

    written_at : (c : ℕ) → c < 20 → byte written c ≡ stamp_byte X.desks e c
    unfolding write_stamp
    written_at c l = tab_at 20 (stamp_byte X.desks e) c l

    written_row : (c : ℕ) → c < 16 → byte written (4 + c) ≡ row_byte e.row c
    written_row c l = written_at (4 + c) (omega arith) ∙ marked_row stamp_mark0 stamp_mark1 _ c

    row_told : (j : ℕ) → (label_of written).row j ≡ e.row j
    row_told j =
        ⊎_elim (λ (l : j < 8).
        let p = written_row (phase_spot j) (omega arith) ∙ row_phase e.row j in
        let q = written_row (clock_spot j) (omega arith) ∙ row_clock e.row j in
        label_pair written j l ∙ (λ i. record { phase = p i; clock = q i }))
        (λ (l : 8 ≤ j). rw (le-ltb j 8 l) (sym (pair_zero X j (e.row j) (h.row j) (omega arith)))) (lt_or_le j 8)

    label_told : label_of written ≡ e
    unfolding marked_byte
    label_told =
        let o = written_at 2 (omega arith) in
        let r : (label_of written).row ≡ e.row = fun_ext row_told in
        λ i. record { owner = o i; row = r i }

    written_clauses : Clauses X written
    unfolding write_stamp marked_byte
    written_clauses =
        record {
          size = length_tab 0 20 (stamp_byte X.desks e);
          mark0 = written_at 0 (omega arith);
          mark1 = written_at 1 (omega arith);
          owner = omega (arith, written_at 2 (omega arith), h.owner);
          desks = written_at 3 (omega arith);
          pairs = all_in (λ j. pair_reads X j ((label_of written).row j)) 8 (λ j l. ap (pair_reads X j) (row_told j) ∙ h.row j);
        }

    pub read_write : read_stamp X (write_stamp X.desks e) ≡ some e
    unfolding read_stamp
    read_write = rw (read_stamp, clauses_read X written written_clauses) (ap some label_told)
