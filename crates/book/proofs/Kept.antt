-- The bytes of a book whose setup is permitted and whose tables fit are sound.
-- Assumes nothing.
use Prim.Native.Nat.{ℕ, zero, suc, ◌+◌, ◌*◌, ◌<◌, ◌≤◌}
use mathlib.Core.Path.{◌≡◌, refl, sym, ap, ◌∙◌}
use mathlib.Core.Bool.{Bool, true, false, true≢false}
use mathlib.Core.Option.{Option, none, some}
use mathlib.Core.List.{List}
use mathlib.Core.Logic.{⊎_elim}
use native.Mathlib.Omega.{arith}
use borrow.Author.Tests.{eq-eqb, ne_eqb, lt-ltb, le-ltb, le-leb}
use lib.Dec.{leb, ltb}
use lib.ListN.{length}
use Rattle.tools.specs.Tests.{pick, all_of}
use Rattle.tools.specs.Tables.{Each}
use Rattle.tools.specs.Lists.{byte}
use Rattle.tools.proofs.Tests.{all_in, lt_or_le}
use Rattle.ring.specs.Phases.{Pair, lag_of}
use Rattle.rules.specs.Setups.{Setup, limit, permits}
use Rattle.rules.specs.Model.{Row, Seat, Held, Tables, row_in, zeros}
use Rattle.rules.specs.Model.{phases}
use Rattle.book.specs.Fits.{PairFits, RowFits, MailFits, SlotFits, Fits}
use Rattle.book.specs.Layout.{tag_a_spot, tag_b_spot, book_size, records, shelf_from, mail_from}
use Rattle.book.specs.Layout.{Record, Fields, fields, setup_of, row_at, spot, mark0, mark1, head_byte, marked_byte, Holds}
use Rattle.book.specs.Sound.{pair_ok, column_ok, row_ok, column_zero, row_zero, seat_limit, seat_rest, seat_near, seat_ok}
use Rattle.book.specs.Sound.{mail_ok, slot_ok, record_ok}
use Rattle.book.specs.Sound.{spare_zero, head_ok, record_sound, sound_by, sound}
use Rattle.book.specs.Codec.{tag_by, tag_to, write_mail, write_slot, record_of, write}
use Rattle.rules.proofs.Setups.{Permitted, permitted, permits_limits, limit_ok_lem}
use Rattle.book.proofs.Bytes.{setup_is, tag_a_is, tag_b_is, pair_is}
use Rattle.book.proofs.Codec.{record_seat, record_mail, record_slot, by_kind, written_limits}

pair_ok_lem : (X : Setup) (B o j : ℕ) (q : Pair) → PairFits X o B j q → pair_ok lag_of X B o j q ≡ true
unfolding pair_ok all_of
pair_ok_lem X B o j q f =
    ⊎_elim (λ (l : j < X.desks).
    let r = f.0 l in
    rw (
      lt-ltb j X.desks l,
      lt-ltb q.phase X.phases r.phase,
      lt-ltb q.clock (limit X j) r.clock,
      le-leb (lag_of X.phases o q.phase) B r.lag,
    ))
    (λ (l : X.desks ≤ j). rw (le-ltb j X.desks l, f.1 l)) (lt_or_le j X.desks)

module _ (X : Setup) (p : permits X ≡ true) (t : Tables) (w : Fits X t) (b : List ℕ)
    (h : Holds (write (record { setup = X; tables = t })) b) where
  abbrev F : Fields
  F = write (record { setup = X; tables = t })

  ok : Permitted X
  ok = permitted X p

  -- the numbers that the bytes hold
  setup_told : setup_of b ≡ X
  setup_told = setup_is F b h (written_limits X ok t)

  desks_told : byte b 2 ≡ X.desks
  desks_told = ap (λ (Y : Setup). Y.desks) setup_told

  seat_lag_told : byte b 5 ≡ X.seat_lag
  seat_lag_told = ap (λ (Y : Setup). Y.seat_lag) setup_told

  shelf_lag_told : byte b 6 ≡ X.shelf_lag
  shelf_lag_told = ap (λ (Y : Setup). Y.shelf_lag) setup_told

  own_told : (j : ℕ) → j < 8 → (row_at b j j).phase ≡ phases t j
  own_told j l =
      ap (λ (q : Pair). q.phase) (pair_is F b h j j (omega arith) l)
      ∙ ap (λ (r : Record). (r.row j).phase) (record_seat X t j l)

  row_ok_lem : (B C k : ℕ) → B ≡ C → k < records → (r : Row) → (record_of X t k).row ≡ r → RowFits X (phases t) C r
      → row_ok lag_of (fields b) B k ≡ true
  unfolding row_ok column_ok
  row_ok_lem B C k same lk r e f =
      all_in (column_ok lag_of (fields b) B k) 8
      (λ j l.
      rw (column_ok, setup_told, own_told j l, pair_is F b h k j lk l ∙ ap (λ (ρ : Row). ρ j) e, same)
      (pair_ok_lem X C (phases t j) j (r j) (f j)))

  zero_ok : (k : ℕ) → k < records → (record_of X t k).row ≡ zeros → row_zero (fields b) k ≡ true
  unfolding row_zero column_zero all_of
  zero_ok k lk e =
      all_in (column_zero (fields b) k) 8
      (λ j l.
      let q = pair_is F b h k j lk l ∙ ap (λ (ρ : Row). ρ j) e in
      rw (column_zero, ap (λ (x : Pair). x.phase) q, ap (λ (x : Pair). x.clock) q))

  -- each kind of record
  seat_ok_lem : (j : ℕ) → j < 8 → seat_ok lag_of (fields b) j ≡ true
  unfolding seat_ok seat_limit seat_rest seat_near all_of
  seat_ok_lem j l = rw (seat_ok, tag, limited, rest, near)
    where
      has : byte b (spot j tag_a_spot) ≡ pick (t.seat j).started 1 0
      has = tag_a_is F b h j (omega arith) ∙ ap (λ (r : Record). r.tag_a) (record_seat X t j l)

      its : byte b (spot j tag_b_spot) ≡ limit X j
      its = tag_b_is F b h j (omega arith) ∙ ap (λ (r : Record). r.tag_b) (record_seat X t j l)

      limited : seat_limit (fields b) j ≡ true
      limited =
          ⊎_elim (λ (m : j < X.desks).
          rw (seat_limit, lt-ltb j (byte b 2) (omega (arith, m, desks_told)), its) (limit_ok_lem X (permits_limits X p) j m))
          (λ (m : X.desks ≤ j).
          rw (seat_limit, le-ltb j (byte b 2) (omega (arith, m, desks_told)), its, ok.beyond j m)) (lt_or_le j X.desks)

      row : (record_of X t j).row ≡ (t.seat j).row
      row = ap (λ (r : Record). r.row) (record_seat X t j l)

      low : (u : Bool) → pick u 1 0 ≤ 1
      low true = omega arith
      low false = omega arith

      tag : leb (byte b (spot j tag_a_spot)) 1 ≡ true
      tag = le-leb (byte b (spot j tag_a_spot)) 1 (let z = low (t.seat j).started in omega (arith, has))

      desk : (t.seat j).started ≡ true → ltb j (setup_of b).desks ≡ true
      desk e =
          ⊎_elim (λ (m : j < X.desks). lt-ltb j (byte b 2) (omega (arith, m, desks_told)))
          (λ (m : X.desks ≤ j). absurd (true≢false (sym e ∙ ap (λ (s : Seat). s.started) (w.beyond j m)))) (lt_or_le j X.desks)

      rest : seat_rest (fields b) j ≡ true
      rest = go (t.seat j).started refl
        where
          go : (u : Bool) → (t.seat j).started ≡ u → seat_rest (fields b) j ≡ true
          go true e = rw (seat_rest, has, e) (desk e)
          go false e = rw (seat_rest, has, e) (zero_ok j (omega arith) (row ∙ w.unstarted j e))

      near : seat_near lag_of (fields b) j ≡ true
      near =
          ⊎_elim (λ (m : j < X.desks).
          rw (seat_near, lt-ltb j (byte b 2) (omega (arith, m, desks_told)))
          (row_ok_lem (byte b 5) X.seat_lag j seat_lag_told (omega arith) (t.seat j).row row (w.seats j m)))
          (λ (m : X.desks ≤ j). rw (seat_near, le-ltb j (byte b 2) (omega (arith, m, desks_told)))) (lt_or_le j X.desks)

  mail_ok_lem : (q : ℕ) → q < 32 → mail_ok lag_of (fields b) (mail_from + q) ≡ true
  unfolding mail_ok all_of
  mail_ok_lem q l = go (t.mail q) refl (w.mail q)
    where
      kept : record_of X t (mail_from + q) ≡ write_mail (t.mail q)
      kept = record_mail X t q l

      go : (o : Option Held) → t.mail q ≡ o → Each (MailFits X (phases t) q) o → mail_ok lag_of (fields b) (mail_from + q) ≡ true
      go none e f =
          let a : byte b (spot (mail_from + q) tag_a_spot) ≡ 0 = tag_a_is F b h (mail_from + q) (omega arith)
          ∙ ap (λ (r : Record). r.tag_a) kept ∙ ap tag_by e in
          let c : byte b (spot (mail_from + q) tag_b_spot) ≡ 0 = tag_b_is F b h (mail_from + q) (omega arith)
          ∙ ap (λ (r : Record). r.tag_b) kept ∙ ap tag_to e in
          rw (mail_ok, a, c, zero_ok (mail_from + q) (omega arith) (ap (λ (r : Record). r.row) kept ∙ ap row_in e))
      go (some m) e f =
          let a : byte b (spot (mail_from + q) tag_a_spot) ≡ m.by + 1 = tag_a_is F b h (mail_from + q) (omega arith)
          ∙ ap (λ (r : Record). r.tag_a) kept ∙ ap tag_by e in
          let c : byte b (spot (mail_from + q) tag_b_spot) ≡ m.to + 1 = tag_b_is F b h (mail_from + q) (omega arith)
          ∙ ap (λ (r : Record). r.tag_b) kept ∙ ap tag_to e in
          let d = f.differ in
          let x = f.by in
          let y = f.to in
          rw (
            mail_ok,
            a,
            c,
            ne_eqb (m.by + 1) 0 (omega arith),
            le-leb (m.by + 1) (byte b 2) (omega (arith, x, desks_told)),
            le-leb 1 (m.to + 1) (omega arith),
            le-leb (m.to + 1) (byte b 2) (omega (arith, y, desks_told)),
            ne_eqb (m.by + 1) (m.to + 1) (λ z. d (omega arith)),
            row_ok_lem (2 * byte b 5) (2 * X.seat_lag) (mail_from + q) (ap (λ n. 2 * n) seat_lag_told) (omega arith) m.row
                (ap (λ (r : Record). r.row) kept ∙ ap row_in e) f.row,
          )

  slot_ok_lem : (q : ℕ) → q < 32 → slot_ok lag_of (fields b) (shelf_from + q) ≡ true
  unfolding slot_ok all_of
  slot_ok_lem q l = go (t.shelf q) refl (w.shelf q)
    where
      kept : record_of X t (shelf_from + q) ≡ write_slot (t.shelf q)
      kept = record_slot X t q l

      filler : byte b (spot (shelf_from + q) tag_b_spot) ≡ 0
      filler = tag_b_is F b h (shelf_from + q) (omega arith) ∙ ap (λ (r : Record). r.tag_b) kept

      go : (o : Option Held) → t.shelf q ≡ o → Each (SlotFits X (phases t) q) o → slot_ok lag_of (fields b) (shelf_from + q) ≡ true
      go none e f =
          let a : byte b (spot (shelf_from + q) tag_a_spot) ≡ 0 = tag_a_is F b h (shelf_from + q) (omega arith)
          ∙ ap (λ (r : Record). r.tag_a) kept ∙ ap tag_by e in
          rw (slot_ok, a, filler, zero_ok (shelf_from + q) (omega arith) (ap (λ (r : Record). r.row) kept ∙ ap row_in e))
      go (some m) e f =
          let a : byte b (spot (shelf_from + q) tag_a_spot) ≡ m.by + 1 = tag_a_is F b h (shelf_from + q) (omega arith)
          ∙ ap (λ (r : Record). r.tag_a) kept ∙ ap tag_by e in
          let x = f.by in
          rw (
            slot_ok,
            a,
            filler,
            ne_eqb (m.by + 1) 0 (omega arith),
            le-leb (m.by + 1) (byte b 2) (omega (arith, x, desks_told)),
            row_ok_lem (byte b 6) X.shelf_lag (shelf_from + q) shelf_lag_told (omega arith) m.row
                (ap (λ (r : Record). r.row) kept ∙ ap row_in e)
                f.row,
          )

  record_ok_lem : (k : ℕ) → k < records → record_ok lag_of (fields b) k ≡ true
  unfolding record_ok
  record_ok_lem =
      by_kind (λ k. record_ok lag_of (fields b) k ≡ true) (λ j l. rw (record_ok, lt-ltb j 8 l) (seat_ok_lem j l))
      (λ q l. rw (record_ok, le-ltb (mail_from + q) 8 (omega arith), lt-ltb (mail_from + q) shelf_from (omega arith)) (mail_ok_lem q l))
      (λ q l. rw (record_ok, le-ltb (shelf_from + q) 8 (omega arith), le-ltb (shelf_from + q) shelf_from (omega arith)) (slot_ok_lem q l))

  record_sound_lem : (k : ℕ) → k < records → record_sound lag_of b k ≡ true
  unfolding record_sound marked_byte all_of
  record_sound_lem k l =
      rw (
        record_sound,
        eq-eqb (byte b (spot k 0)) (mark0 k) (sym (h.there k 0 l (omega arith))),
        eq-eqb (byte b (spot k 1)) (mark1 k) (sym (h.there k 1 l (omega arith))),
        record_ok_lem k l,
      )

  -- the header
  spare : (i : ℕ) → i < 7 → spare_zero b i ≡ true
  unfolding spare_zero head_byte
  spare zero l = eq-eqb (byte b 9) 0 (sym (h.head 9 (omega arith)))
  spare (suc zero) l = eq-eqb (byte b 10) 0 (sym (h.head 10 (omega arith)))
  spare (suc (suc zero)) l = eq-eqb (byte b 11) 0 (sym (h.head 11 (omega arith)))
  spare (suc (suc (suc zero))) l = eq-eqb (byte b 12) 0 (sym (h.head 12 (omega arith)))
  spare (suc (suc (suc (suc zero)))) l = eq-eqb (byte b 13) 0 (sym (h.head 13 (omega arith)))
  spare (suc (suc (suc (suc (suc zero))))) l = eq-eqb (byte b 14) 0 (sym (h.head 14 (omega arith)))
  spare (suc (suc (suc (suc (suc (suc zero)))))) l = eq-eqb (byte b 15) 0 (sym (h.head 15 (omega arith)))
  spare (suc (suc (suc (suc (suc (suc (suc i))))))) l = absurd (omega arith)

  head_ok_lem : head_ok b ≡ true
  unfolding head_ok head_byte all_of
  head_ok_lem =
      rw (
        head_ok,
        eq-eqb (byte b 0) 0x42 (sym (h.head 0 (omega arith))),
        eq-eqb (byte b 1) 0x4B (sym (h.head 1 (omega arith))),
        eq-eqb (byte b 4) 0 (sym (h.head 4 (omega arith))),
        all_in (spare_zero b) 7 spare,
      )

  pub holds_sound : sound b ≡ true
  unfolding sound_by all_of
  holds_sound =
      rw (
        sound_by,
        eq-eqb (length b) book_size h.size,
        head_ok_lem,
        ap permits setup_told ∙ p,
        all_in (record_sound lag_of b) records record_sound_lem,
      )
