-- Every phase of a sound book is on the ring, also where there is no desk.
-- Assumes nothing.
use Prim.Native.Nat.{ℕ, ◌+◌, ◌*◌, ◌<◌, ◌≤◌}
use mathlib.Core.Path.{◌≡◌, refl, ap, ◌∙◌}
use mathlib.Core.Bool.{true}
use mathlib.Core.Option.{Option, none, some}
use mathlib.Core.List.{List}
use mathlib.Core.Logic.{⊎_elim}
use native.Mathlib.Omega.{arith}
use Rattle.tools.specs.Tables.{Each}
use Rattle.tools.specs.Lists.{byte}
use Rattle.tools.proofs.Tests.{lt_or_le}
use Rattle.ring.specs.Phases.{Pair}
use Rattle.rules.specs.Model.{Row, Seat, Held, zeros, row_in}
use Rattle.rules.specs.Model.{phases}
use Rattle.book.specs.Fits.{RowFits, MailFits, SlotFits, Fits}
use Rattle.rules.proofs.Setups.{permitted}
use Rattle.book.specs.Layout.{records, shelf_from, mail_from, row_spot, phase_spot, Record, spot, row_at, setup_of}
use Rattle.book.specs.Sound.{sound}
use Rattle.book.specs.Codec.{record_of, write, decode}
use Rattle.book.specs.Numbers.{tables_of}
use Rattle.book.proofs.Bytes.{pair_is}
use Rattle.book.proofs.Soundness.{sound_setup, sound_fits}
use Rattle.book.proofs.Codec.{record_seat, record_mail, record_slot, by_kind, decode_holds}

module _ (s : List ℕ) (h : sound s ≡ true) where
  -- the row of a record, by the tables
  row_told : (k j : ℕ) → k < records → j < 8 → row_at s k j ≡ (record_of (setup_of s) (tables_of s) k).row j
  row_told k j lk lj = pair_is (write (decode s)) s (decode_holds s h) k j lk lj

  pub mail_row : (p j : ℕ) → p < 32 → j < 8 → row_at s (mail_from + p) j ≡ row_in ((tables_of s).mail p) j
  mail_row p j lp lj = row_told (mail_from + p) j (omega arith) lj ∙ ap (λ (r : Record). r.row j) (record_mail (setup_of s) (tables_of s) p lp)

  on_ring : 0 < (setup_of s).phases
  on_ring = let p = (permitted (setup_of s) (sound_setup s h)).mailed in omega arith

  fits_below : (B : ℕ) (r : Row) (j : ℕ) → RowFits (setup_of s) (phases (tables_of s)) B r → (r j).phase < (setup_of s).phases
  fits_below B r j f =
      ⊎_elim (λ (m : j < byte s 2). ((f j).0 m).phase)
      (λ (m : byte s 2 ≤ j).
      let z : (r j).phase ≡ 0 = ap (λ (q : Pair). q.phase) ((f j).1 m) in
      omega (arith, z, on_ring)) (lt_or_le j (byte s 2))

  fits : Fits (setup_of s) (tables_of s)
  fits = sound_fits s h

  -- of a desk that is not there every row holds 0, 0
  pub seat_beyond : (j k : ℕ) → byte s 2 ≤ k → ((tables_of s).seat j).row k ≡ zeros k
  seat_beyond j k l =
      ⊎_elim (λ (m : j < byte s 2). (fits.seats j m k).1 l)
      (λ (m : byte s 2 ≤ j). ap (λ (t : Seat). t.row k) (fits.beyond j m)) (lt_or_le j (byte s 2))

  pub mail_beyond : (p k : ℕ) → byte s 2 ≤ k → row_in ((tables_of s).mail p) k ≡ zeros k
  mail_beyond p k l = go ((tables_of s).mail p) (fits.mail p)
    where
      go : (o : Option Held) → Each (MailFits (setup_of s) (phases (tables_of s)) p) o → row_in o k ≡ zeros k
      go none f = refl
      go (some w) f = (f.row k).1 l

  pub phase_below : (k j : ℕ) → k < records → j < 8 → byte s (spot k (row_spot + phase_spot j)) < (setup_of s).phases
  phase_below k j lk lj =
      let e : (row_at s k j).phase ≡ ((record_of (setup_of s) (tables_of s) k).row j).phase = ap (λ (q : Pair). q.phase) (row_told k j lk lj) in
      let l = by_kind (λ k. ((record_of (setup_of s) (tables_of s) k).row j).phase < (setup_of s).phases) seat mail slot k lk in
      omega arith
    where
      seat : (i : ℕ) → i < 8 → ((record_of (setup_of s) (tables_of s) i).row j).phase < (setup_of s).phases
      seat i l =
          rw (record_seat (setup_of s) (tables_of s) i l)
          (⊎_elim (λ (m : i < byte s 2). fits_below (byte s 5) ((tables_of s).seat i).row j (fits.seats i m))
          (λ (m : byte s 2 ≤ i).
          let z : (((tables_of s).seat i).row j).phase ≡ 0 = ap (λ (q : Seat). (q.row j).phase) (fits.beyond i m) in
          omega (arith, z, on_ring)) (lt_or_le i (byte s 2)))

      mail : (p : ℕ) → p < 32 → ((record_of (setup_of s) (tables_of s) (mail_from + p)).row j).phase < (setup_of s).phases
      mail p l = rw (record_mail (setup_of s) (tables_of s) p l) (go ((tables_of s).mail p) (fits.mail p))
        where
          go : (o : Option Held) → Each (MailFits (setup_of s) (phases (tables_of s)) p) o → (row_in o j).phase < (setup_of s).phases
          go none f = on_ring
          go (some w) f = fits_below (2 * byte s 5) w.row j f.row

      slot : (p : ℕ) → p < 32 → ((record_of (setup_of s) (tables_of s) (shelf_from + p)).row j).phase < (setup_of s).phases
      slot p l = rw (record_slot (setup_of s) (tables_of s) p l) (go ((tables_of s).shelf p) (fits.shelf p))
        where
          go : (o : Option Held) → Each (SlotFits (setup_of s) (phases (tables_of s)) p) o → (row_in o j).phase < (setup_of s).phases
          go none f = on_ring
          go (some w) f = fits_below (byte s 6) w.row j f.row
