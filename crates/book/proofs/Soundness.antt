-- A sound book: its bytes hold its fields, and its tables fit.
-- Assumes nothing.
use Prim.Native.Nat.{ℕ, zero, suc, ◌+◌, ◌*◌, ◌-◌, ◌<◌, ◌≤◌}
use mathlib.Core.Path.{◌≡◌, refl, sym, ap, ◌∙◌, fun_ext}
use mathlib.Core.Bool.{Bool, true, false, not}
use mathlib.Core.Option.{none, some}
use mathlib.Core.List.{List, [], ◌∷◌}
use native.Mathlib.Omega.{arith}
use borrow.Author.Tests.{eqb-true, eqb-false, eq-eqb, ne_eqb, leb-true, ltb-true, ltb-false, lt-ltb, le-ltb, not-true}
use lib.Dec.{leb, ltb, eqb}
use lib.ListN.{length}
use Rattle.tools.specs.Tests.{pick, all_of}
use Rattle.tools.specs.Tables.{Each}
use Rattle.tools.specs.Lists.{byte}
use Rattle.tools.proofs.Tests.{each, all_at}
use Rattle.ring.specs.Phases.{Pair, lag_of}
use Rattle.rules.specs.Setups.{Setup, limit, permits}
use Rattle.rules.specs.Model.{Held, zeros, idle}
use Rattle.rules.specs.Model.{phases}
use Rattle.book.specs.Fits.{PairFits, RowFits, MailFits, SlotFits, Fits}
use Rattle.rules.proofs.Setups.{permitted}
use Rattle.book.specs.Layout.{tag_a_spot, tag_b_spot, book_size, records, shelf_from, mail_from}
use Rattle.book.specs.Layout.{Fields, fields, setup_of, spot, mark0, mark1, head_byte, Holds}
use Rattle.book.specs.Sound.{pair_ok, column_ok, row_ok, column_zero, row_zero, seat_limit, seat_rest, seat_near, seat_ok}
use Rattle.book.specs.Sound.{mail_ok, slot_ok, record_ok}
use Rattle.book.specs.Sound.{spare_zero, head_ok, record_sound, sound_by, sound}
use Rattle.book.specs.Codec.{read_row, read_seat, read_held, read}
use Rattle.book.proofs.Bytes.{record_bytes, row_at_lem, phases_back}

module _ (b : List ℕ) (s : sound b ≡ true) where
  pub sound_size : length b ≡ book_size
  unfolding sound_by
  sound_size = eqb-true _ _ (each _ s 0)

  sound_head : head_ok b ≡ true
  unfolding sound_by
  sound_head = each _ s 1

  pub sound_setup : permits (setup_of b) ≡ true
  unfolding sound_by
  sound_setup = each _ s 2

  sound_each : (k : ℕ) → k < records → record_sound lag_of b k ≡ true
  unfolding sound_by
  sound_each k l = all_at (record_sound lag_of b) records k l (each _ s 3)

  pub sound_record : (k : ℕ) → k < records → record_ok lag_of (fields b) k ≡ true
  unfolding record_sound
  sound_record k l = each _ (sound_each k l) 2

  sound_mark0 : (k : ℕ) → k < records → mark0 k ≡ byte b (spot k 0)
  unfolding record_sound
  sound_mark0 k l = sym (eqb-true _ _ (each _ (sound_each k l) 0))

  sound_mark1 : (k : ℕ) → k < records → mark1 k ≡ byte b (spot k 1)
  unfolding record_sound
  sound_mark1 k l = sym (eqb-true _ _ (each _ (sound_each k l) 1))

head_is : (b : List ℕ) → head_ok b ≡ true → (i : ℕ) → i < 16 → head_byte (setup_of b) i ≡ byte b i
unfolding head_ok head_byte spare_zero
head_is b h zero l = sym (eqb-true _ _ (each _ h 0))
head_is b h (suc zero) l = sym (eqb-true _ _ (each _ h 1))
head_is b h (suc (suc zero)) l = refl
head_is b h (suc (suc (suc zero))) l = phases_back (byte b 3)
head_is b h (suc (suc (suc (suc zero)))) l = sym (eqb-true _ _ (each _ h 2))
head_is b h (suc (suc (suc (suc (suc zero))))) l = refl
head_is b h (suc (suc (suc (suc (suc (suc zero)))))) l = refl
head_is b h (suc (suc (suc (suc (suc (suc (suc zero))))))) l = refl
head_is b h (suc (suc (suc (suc (suc (suc (suc (suc zero)))))))) l = refl
head_is b h (suc (suc (suc (suc (suc (suc (suc (suc (suc i))))))))) l =
    let e : 9 + i ≡ suc (suc (suc (suc (suc (suc (suc (suc (suc i)))))))) = omega arith in
    sym (ap (byte b) (sym e) ∙ eqb-true _ _ (all_at (spare_zero b) 7 i (omega arith) (each _ h 3)))

pub sound_holds : (b : List ℕ) → sound b ≡ true → Holds (fields b) b
sound_holds b s =
    record {
      size = sound_size b s;
      head = head_is b (sound_head b s);
      there =
          λ k c lk lc.
          record_bytes k ((fields b).at k) (λ c v. v ≡ byte b (spot k c)) (sound_mark0 b s k lk) (sound_mark1 b s k lk) refl refl
          (λ c l. row_at_lem b k c) c lc;
    }

-- a pair that is in order fits
pub pair_fits : (X : Setup) (B o j : ℕ) (q : Pair) → pair_ok lag_of X B o j q ≡ true → PairFits X o B j q
unfolding pair_ok
pair_fits X B o j q h = go (ltb j X.desks) refl h
  where
    go : (t : Bool) → ltb j X.desks ≡ t
        → pick t (all_of (ltb q.phase X.phases ∷ ltb q.clock (limit X j) ∷ leb (lag_of X.phases o q.phase) B ∷ []))
        (all_of (eqb q.phase 0 ∷ eqb q.clock 0 ∷ [])) ≡ true
        → PairFits X o B j q
    go true e p =
        let l : j < X.desks = ltb-true _ _ e in (
          λ m. record { phase = ltb-true _ _ (each _ p 0); clock = ltb-true _ _ (each _ p 1); lag = leb-true _ _ (each _ p 2) },
          λ m. absurd (omega arith),
        )
    go false e p =
        let l : X.desks ≤ j = ltb-false _ _ e in (
          λ m. absurd (omega arith),
          λ m i. record { phase = eqb-true q.phase 0 (each _ p 0) i; clock = eqb-true q.clock 0 (each _ p 1) i },
        )

module _ (f : Fields) (few : f.setup.desks ≤ 8) where
  row_fits : (B k : ℕ) → row_ok lag_of f B k ≡ true → RowFits f.setup (phases (read f)) B (read_row (f.at k).row)
  unfolding row_ok column_ok
  row_fits B k h j = go (ltb j 8) refl
    where
      go : (t : Bool) → ltb j 8 ≡ t
          → PairFits f.setup ((pick t (read_seat (f.at j)) idle).row j).phase B j (pick t ((f.at k).row j) (zeros j))
      go true e =
          rw e (pair_fits f.setup B ((f.at j).row j).phase j ((f.at k).row j)
          (all_at (column_ok lag_of f B k) 8 j (ltb-true j 8 e) h))
      go false e = let l = ltb-false j 8 e in (λ m. absurd (omega arith), λ m. refl)

  row_zero_lem : (k : ℕ) → row_zero f k ≡ true → read_row (f.at k).row ≡ zeros
  unfolding row_zero column_zero
  row_zero_lem k h = fun_ext (λ j. go j (ltb j 8) refl)
    where
      go : (j : ℕ) (t : Bool) → ltb j 8 ≡ t → pick t ((f.at k).row j) (zeros j) ≡ zeros j
      go j true e =
          let p : all_of (eqb ((f.at k).row j).phase 0 ∷ eqb ((f.at k).row j).clock 0 ∷ []) ≡ true
          = all_at (column_zero f k) 8 j (ltb-true j 8 e) h in
          λ i.
          record {
            phase = eqb-true ((f.at k).row j).phase 0 (each _ p 0) i;
            clock = eqb-true ((f.at k).row j).clock 0 (each _ p 1) i;
          }
      go j false e = refl

-- what a sound book says of a seat, of a mail place and of a slot
pub record SeatSound (f : Fields) (k : ℕ) : Type 0 where
  pub tag : (f.at k).tag_a ≤ 1
  pub beyond : f.setup.desks ≤ k → (f.at k).tag_b ≡ 0
  pub rest : (f.at k).tag_a ≡ 0 → read_row (f.at k).row ≡ zeros
  pub desk : ((f.at k).tag_a ≡ 0 → ⊥) → k < f.setup.desks
  pub row : k < f.setup.desks → RowFits f.setup (phases (read f)) f.setup.seat_lag (read_row (f.at k).row)

pub record MailSound (f : Fields) (k : ℕ) : Type 0 where
  pub free : (f.at k).tag_a ≡ 0 → ((f.at k).tag_b ≡ 0) × (read_row (f.at k).row ≡ zeros)
  pub by : (f.at k).tag_a ≤ f.setup.desks
  pub some_to : ((f.at k).tag_a ≡ 0 → ⊥) → 1 ≤ (f.at k).tag_b
  pub to : ((f.at k).tag_a ≡ 0 → ⊥) → (f.at k).tag_b ≤ f.setup.desks
  pub differ : ((f.at k).tag_a ≡ 0 → ⊥) → (f.at k).tag_a ≡ (f.at k).tag_b → ⊥
  pub row : ((f.at k).tag_a ≡ 0 → ⊥)
      → RowFits f.setup (phases (read f)) (2 * f.setup.seat_lag) (read_row (f.at k).row)

pub record SlotSound (f : Fields) (k : ℕ) : Type 0 where
  pub free : (f.at k).tag_a ≡ 0 → read_row (f.at k).row ≡ zeros
  pub filler : (f.at k).tag_b ≡ 0
  pub by : (f.at k).tag_a ≤ f.setup.desks
  pub row : ((f.at k).tag_a ≡ 0 → ⊥) → RowFits f.setup (phases (read f)) f.setup.shelf_lag (read_row (f.at k).row)

module _ (f : Fields) (few : f.setup.desks ≤ 8) (k : ℕ) where
  pub seat_sound : seat_ok lag_of f k ≡ true → SeatSound f k
  unfolding seat_ok seat_limit seat_rest seat_near
  seat_sound h =
      record {
        tag = leb-true _ _ (each _ h 0);
        beyond = λ l. eqb-true (f.at k).tag_b 0 (rw (seat_limit, le-ltb k f.setup.desks l) at (each _ h 1));
        rest = λ e. row_zero_lem f few k (rw (seat_rest, eq-eqb (f.at k).tag_a 0 e) at (each _ h 2));
        desk = λ n. ltb-true k f.setup.desks (rw (seat_rest, ne_eqb (f.at k).tag_a 0 n) at (each _ h 2));
        row = λ l. row_fits f few f.setup.seat_lag k (rw (seat_near, lt-ltb k f.setup.desks l) at (each _ h 3));
      }

  pub mail_sound : mail_ok lag_of f k ≡ true → MailSound f k
  unfolding mail_ok
  mail_sound h = go (eqb (f.at k).tag_a 0) refl h
    where
      go : (t : Bool) → eqb (f.at k).tag_a 0 ≡ t
          → pick t (all_of (eqb (f.at k).tag_b 0 ∷ row_zero f k ∷ []))
          (all_of
          (leb (f.at k).tag_a f.setup.desks
          ∷ leb 1 (f.at k).tag_b
          ∷ leb (f.at k).tag_b f.setup.desks
          ∷ not (eqb (f.at k).tag_a (f.at k).tag_b)
          ∷ row_ok lag_of f (2 * f.setup.seat_lag) k
          ∷ [])) ≡ true
          → MailSound f k
      go true e p =
          let z : (f.at k).tag_a ≡ 0 = eqb-true _ _ e in
          record {
            free = λ q. (eqb-true _ _ (each _ p 0), row_zero_lem f few k (each _ p 1));
            by = omega arith;
            some_to = λ n. absurd (n z);
            to = λ n. absurd (n z);
            differ = λ n. absurd (n z);
            row = λ n. absurd (n z);
          }
      go false e p =
          record {
            free = λ q. absurd (eqb-false _ _ e q);
            by = leb-true _ _ (each _ p 0);
            some_to = λ n. leb-true _ _ (each _ p 1);
            to = λ n. leb-true _ _ (each _ p 2);
            differ = λ n. eqb-false _ _ (not-true _ (each _ p 3));
            row = λ n. row_fits f few (2 * f.setup.seat_lag) k (each _ p 4);
          }

  pub slot_sound : slot_ok lag_of f k ≡ true → SlotSound f k
  unfolding slot_ok
  slot_sound h = go (eqb (f.at k).tag_a 0) refl h
    where
      go : (t : Bool) → eqb (f.at k).tag_a 0 ≡ t
          → pick t (all_of (eqb (f.at k).tag_b 0 ∷ row_zero f k ∷ []))
          (all_of (eqb (f.at k).tag_b 0 ∷ leb (f.at k).tag_a f.setup.desks ∷ row_ok lag_of f f.setup.shelf_lag k ∷ [])) ≡ true
          → SlotSound f k
      go true e p =
          let z : (f.at k).tag_a ≡ 0 = eqb-true _ _ e in
          record {
            free = λ q. row_zero_lem f few k (each _ p 1);
            filler = eqb-true _ _ (each _ p 0);
            by = omega arith;
            row = λ n. absurd (n z);
          }
      go false e p =
          record {
            free = λ q. absurd (eqb-false _ _ e q);
            filler = eqb-true _ _ (each _ p 0);
            by = leb-true _ _ (each _ p 1);
            row = λ n. row_fits f few f.setup.shelf_lag k (each _ p 2);
          }

-- what record k holds, if it is used
abbrev pub held_in : List ℕ → ℕ → Held
held_in b k = record { by = byte b (spot k tag_a_spot) - 1; to = byte b (spot k tag_b_spot) - 1; row = read_row ((fields b).at k).row }

-- each record of a sound book
module _ (b : List ℕ) (s : sound b ≡ true) where
  few_desks : (setup_of b).desks ≤ 8
  few_desks = (permitted (setup_of b) (sound_setup b s)).few

  pub sound_seat : (j : ℕ) → j < 8 → SeatSound (fields b) j
  unfolding record_ok
  sound_seat j l = seat_sound (fields b) few_desks j (rw (record_ok, lt-ltb j 8 l) at (sound_record b s j (omega arith)))

  pub sound_mail : (p : ℕ) → p < 32 → MailSound (fields b) (mail_from + p)
  unfolding record_ok
  sound_mail p l =
      mail_sound (fields b) few_desks (mail_from + p)
      (rw (record_ok, le-ltb (mail_from + p) 8 (omega arith), lt-ltb (mail_from + p) shelf_from (omega arith)) at
      (sound_record b s (mail_from + p) (omega arith)))

  pub sound_slot : (p : ℕ) → p < 32 → SlotSound (fields b) (shelf_from + p)
  unfolding record_ok
  sound_slot p l =
      slot_sound (fields b) few_desks (shelf_from + p)
      (rw (record_ok, le-ltb (shelf_from + p) 8 (omega arith), le-ltb (shelf_from + p) shelf_from (omega arith)) at
      (sound_record b s (shelf_from + p) (omega arith)))

  -- the tables of a sound book fit
  pub sound_fits : Fits (setup_of b) (read (fields b))
  sound_fits =
      record {
        seats = λ j l. rw (lt-ltb j 8 (omega (arith, few_desks))) ((sound_seat j (omega (arith, few_desks))).row l);
        unstarted = λ j. unstarted j (ltb j 8) refl;
        beyond = λ j l. beyond j l (ltb j 8) refl;
        mail = λ p. mail p (ltb p 32) refl;
        shelf = λ p. shelf p (ltb p 32) refl;
      }
    where
      unstarted : (j : ℕ) (t : Bool) → ltb j 8 ≡ t → (pick t (read_seat ((fields b).at j)) idle).started ≡ false
          → (pick t (read_seat ((fields b).at j)) idle).row ≡ zeros
      unstarted j true e n =
          let q = sound_seat j (ltb-true j 8 e) in
          q.rest (omega (arith, q.tag, eqb-false (byte b (spot j tag_a_spot)) 1 n))
      unstarted j false e n = refl

      beyond : (j : ℕ) → (setup_of b).desks ≤ j → (t : Bool) → ltb j 8 ≡ t → pick t (read_seat ((fields b).at j)) idle ≡ idle
      beyond j l false e = refl
      beyond j l true e = go (eqb (byte b (spot j tag_a_spot)) 0) refl
        where
          go : (t : Bool) → eqb (byte b (spot j tag_a_spot)) 0 ≡ t → read_seat ((fields b).at j) ≡ idle
          go true z =
              let q = sound_seat j (ltb-true j 8 e) in
              let y : byte b (spot j tag_a_spot) ≡ 0 = eqb-true _ _ z in
              let x = q.rest y in
              λ i. record { started = eqb (y i) 1; row = x i }
          go false z =
              let q = sound_seat j (ltb-true j 8 e) in
              absurd (let m = q.desk (eqb-false (byte b (spot j tag_a_spot)) 0 z) in omega arith)

      -- a place or slot is free, or fits where its first tag is not 0
      held : (a p : ℕ) (Q : Held → Type 0) → (p < 32 → (byte b (spot (a + p) tag_a_spot) ≡ 0 → ⊥) → Q (held_in b (a + p)))
          → (t : Bool) → ltb p 32 ≡ t → Each Q (pick t (read_held ((fields b).at (a + p))) none)
      held a p Q fits false e = tt
      held a p Q fits true e = go (eqb (byte b (spot (a + p) tag_a_spot)) 0) refl
        where
          go : (t : Bool) → eqb (byte b (spot (a + p) tag_a_spot)) 0 ≡ t → Each Q (pick t none (some (held_in b (a + p))))
          go true z = tt
          go false z = fits (ltb-true p 32 e) (eqb-false _ _ z)

      mail : (p : ℕ) (t : Bool) → ltb p 32 ≡ t
          → Each (MailFits (setup_of b) (phases (read (fields b))) p) (pick t (read_held ((fields b).at (mail_from + p))) none)
      mail p =
          held 8 p _
          (λ l n.
          let q = sound_mail p l in
          let y = q.by in
          let v = q.some_to n in
          let u = q.to n in
          let d : byte b (spot (mail_from + p) tag_a_spot) ≡ byte b (spot (mail_from + p) tag_b_spot) → ⊥ = q.differ n in
          record { place = l; by = omega arith; to = omega arith; differ = λ w. d (omega arith); row = q.row n })

      shelf : (p : ℕ) (t : Bool) → ltb p 32 ≡ t
          → Each (SlotFits (setup_of b) (phases (read (fields b))) p) (pick t (read_held ((fields b).at (shelf_from + p))) none)
      shelf p =
          held shelf_from p _
          (λ l n.
          let q = sound_slot p l in
          let y = q.by in
          let v : byte b (spot (shelf_from + p) tag_b_spot) ≡ 0 = q.filler in
          record { place = l; by = omega arith; to = omega arith; row = q.row n })
