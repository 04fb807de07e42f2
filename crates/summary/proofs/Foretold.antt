-- May foretells a reset: what it says by the right summary of a sound book is what the reset would be answered there.
-- Assumes nothing.
--   summary_length   a summary has 26 bytes
--   summary_marks    and begins with its mark
--   lags_read        it tells the lags that it was made of
--   seats_told       where tables fit, the largest lag in seats is M exactly where some seat lags M
--   mail_told        the largest in the mail is 2M exactly where some mail lags 2M
--   shelf_told       the largest in slots is A exactly where some kept stamp lags A
--   lags_keep        and no lag of theirs passes its bound
--   right_ok         the right summary of a sound book is in order
--   may_foretells    may at a desk says the number of its reset that is not kept
--   kept_foretells   and that of one that is kept, where a slot is free
--   kept_full        where none is, that one is refused by ShelfFull first
--   may_no_desk      where there is no desk may and the reset are both refused by NoDesk
--   may_ready        by the right summary of a sound book may never answers BadSummary
use Prim.Native.Nat.{ℕ, ◌+◌, ◌*◌, ◌≤◌, ◌<◌}
use mathlib.Core.Path.{◌≡◌, refl, sym, ap, ◌∙◌}
use mathlib.Core.Bool.{Bool, true, false, not, ◌&&◌}
use mathlib.Core.Option.{Option, none, some}
use mathlib.Core.List.{List}
use mathlib.Core.Logic.{⊎_elim}
use native.Mathlib.Omega.{arith}
use borrow.Author.Tests.{eq-eqb, ne_eqb, lt-ltb, le-ltb, le-leb}
use lib.Dec.{eqb}
use lib.ListN.{length}
use Rattle.tools.specs.Tests.{pick, all_of, any, largest}
use Rattle.tools.specs.Tables.{Each}
use Rattle.tools.specs.Lists.{byte}
use Rattle.tools.proofs.Tests.{lt_or_le, pick_true, pick_false, all_in, any_cong}
use Rattle.tools.proofs.Tables.{Each-map}
use Rattle.tools.proofs.Lists.{length_tab, tab_at}
use Rattle.tools.proofs.Largest.{largest_least, largest_bound}
use Rattle.ring.specs.Phases.{Phases}
use Rattle.rules.specs.Setups.{Setup}
use Rattle.rules.specs.declared.Refusal.TheVariants.{NoDesk, ShelfFull, BadSummary}
use Rattle.rules.specs.Numbers.{number}
use Rattle.rules.specs.Model.{Held, Tables, Act, reset, foretells, Answer, refusal, accepted, phases, no_shelf, lags, seat_lags, reasons, why}
use Rattle.rules.specs.Calls.{on, ring_of}
use Rattle.rules.proofs.Setups.{Permitted, permitted}
use Rattle.book.specs.Layout.{setup_of}
use Rattle.book.specs.Sound.{sound}
use Rattle.book.specs.Fits.{RowFits, Fits}
use Rattle.book.specs.Answers.{answer_to}
use Rattle.book.specs.Numbers.{tables_of, why_of}
use Rattle.book.proofs.Soundness.{sound_setup, sound_fits}
use Rattle.book.proofs.Numbers.{answer_number, refused_answer}
use Rattle.summary.specs.Summary.{Lags, level, seat_lag, held_lag, lags_of, lags_at, lag_byte, summary_byte, summary_with, lags_in, Right}
use Rattle.summary.specs.May.{lags_ok, summary_ok, reset_number, may_of}
use Rattle.summary.proofs.Written.{lag_at}
use Rattle.summary.proofs.Asked.{numbers_in, no_desk_lem, foretells_reset}

-- a summary of any lags
module _ (f : ℕ → Lags) where
  pub summary_length : length (summary_with f) ≡ 26
  unfolding summary_with
  summary_length = length_tab 0 26 (summary_byte f)

  pub summary_marks : (byte (summary_with f) 0 ≡ 0x53) × (byte (summary_with f) 1 ≡ 0x55)
  unfolding summary_with summary_byte
  summary_marks = (tab_at 26 (summary_byte f) 0 (omega arith), tab_at 26 (summary_byte f) 1 (omega arith))

  -- the c-th of desk j's lags is its byte i
  lag_read : (j i c : ℕ) → j < 8 → c < 3 → i ≡ lags_at j + c → byte (summary_with f) i ≡ lag_byte (f j) c
  unfolding summary_with
  lag_read j i c l m e = tab_at 26 (summary_byte f) i (omega arith) ∙ lag_at f j i c m e

  pub lags_read : (j : ℕ) → j < 8 → lags_in (summary_with f) j ≡ f j
  unfolding lag_byte
  lags_read j l =
      let a : byte (summary_with f) (lags_at j) ≡ (f j).seats = lag_read j (lags_at j) 0 l (omega arith) (omega arith) in
      let b : byte (summary_with f) (lags_at j + 1) ≡ (f j).mail = lag_read j (lags_at j + 1) 1 l (omega arith) refl in
      let d : byte (summary_with f) (lags_at j + 2) ≡ (f j).shelf = lag_read j (lags_at j + 2) 2 l (omega arith) refl in
      λ i. record { seats = a i; mail = b i; shelf = d i }

-- the three largest lags of desk j, where there is one
abbrev most : Phases → Setup → Tables → ℕ → Lags
most Z X b j =
    record {
      seats = largest X.desks (seat_lag Z b j);
      mail = largest 32 (λ p. held_lag Z b j (b.mail p));
      shelf = largest 32 (λ s. held_lag Z b j (b.shelf s));
    }

keeps : (X : Setup) (l : Lags) → l.seats ≤ X.seat_lag → l.mail ≤ 2 * X.seat_lag → l.shelf ≤ X.shelf_lag → lags_ok X l ≡ true
unfolding lags_ok all_of
keeps X l a b d = λ i. le-leb l.seats X.seat_lag a i
    && (le-leb l.mail (2 * X.seat_lag) b i && le-leb l.shelf X.shelf_lag d i)

-- tables that fit a permitted setup
module _ (X : Setup) (p : Permitted X) (b : Tables) (h : Fits X b) where
  abbrev ringed : Phases
  ringed = ring_of X

  module _ (j : ℕ) (lj : j < X.desks) where
    seat_most : (k : ℕ) → k < X.desks → seat_lag ringed b j k ≤ X.seat_lag
    seat_most k lk = go (eqb k j)
      where
        go : (t : Bool) → pick t 0 (ringed.lag (phases b j) ((b.seat k).row j).phase) ≤ X.seat_lag
        go true = omega arith
        go false = ((h.seats k lk j).0 lj).lag

    held_most_lem : (B : ℕ) (o : Option Held) → Each (λ (w : Held). RowFits X (phases b) B w.row) o → held_lag ringed b j o ≤ B
    held_most_lem B none f = omega arith
    held_most_lem B (some w) f = ((f j).0 lj).lag

    mail_most : (q : ℕ) → held_lag ringed b j (b.mail q) ≤ 2 * X.seat_lag
    mail_most q = held_most_lem (2 * X.seat_lag) (b.mail q) (Each-map (λ w f. f.row) (b.mail q) (h.mail q))

    slot_most : (q : ℕ) → held_lag ringed b j (b.shelf q) ≤ X.shelf_lag
    slot_most q = held_most_lem X.shelf_lag (b.shelf q) (Each-map (λ w f. f.row) (b.shelf q) (h.shelf q))

    -- the own seat lags 0, which is no bound
    seat_asked : (k : ℕ) → eqb (seat_lag ringed b j k) X.seat_lag ≡ seat_lags ringed b j X.seat_lag k
    seat_asked k = go (eqb k j)
      where
        go : (t : Bool) → eqb (pick t 0 (ringed.lag (phases b j) ((b.seat k).row j).phase)) X.seat_lag
            ≡ (not t && eqb (ringed.lag (phases b j) ((b.seat k).row j).phase) X.seat_lag)
        go true = ne_eqb 0 X.seat_lag (λ e. omega (arith, p.seats))
        go false = refl

    -- so does a free place
    held_asked : (B : ℕ) → 0 < B → (o : Option Held) → eqb (held_lag ringed b j o) B ≡ lags ringed b j B o
    held_asked B l none = ne_eqb 0 B (λ e. omega arith)
    held_asked B l (some w) = refl

    pub seats_told : eqb (largest X.desks (seat_lag ringed b j)) X.seat_lag ≡ any X.desks (seat_lags ringed b j X.seat_lag)
    seats_told =
        largest_bound X.desks (seat_lag ringed b j) X.seat_lag p.seats seat_most
        ∙ any_cong X.desks _ _ (λ k lk. seat_asked k)

    held_told : (B : ℕ) → 0 < B → (f : ℕ → Option Held) → ((q : ℕ) → held_lag ringed b j (f q) ≤ B)
        → eqb (largest 32 (λ q. held_lag ringed b j (f q))) B ≡ any 32 (λ q. lags ringed b j B (f q))
    held_told B l f m =
        largest_bound 32 (λ q. held_lag ringed b j (f q)) B l (λ q n. m q)
        ∙ any_cong 32 _ _ (λ q n. held_asked B l (f q))

    pub mail_told : eqb (largest 32 (λ q. held_lag ringed b j (b.mail q))) (2 * X.seat_lag)
        ≡ any 32 (λ q. lags ringed b j (2 * X.seat_lag) (b.mail q))
    mail_told = held_told (2 * X.seat_lag) (omega (arith, p.seats)) b.mail mail_most

    pub shelf_told : eqb (largest 32 (λ q. held_lag ringed b j (b.shelf q))) X.shelf_lag
        ≡ any 32 (λ q. lags ringed b j X.shelf_lag (b.shelf q))
    shelf_told = held_told X.shelf_lag (omega (arith, p.seats, p.kept)) b.shelf slot_most

    most_is : lags_of ringed X b j ≡ most ringed X b j
    unfolding lags_of
    most_is = pick_true _ _ _ (lt-ltb j X.desks lj)

    -- where no reason before the lags holds, they tell the number of a reset
    reset_told : (q : Bool) → no_shelf b q ≡ false → reset_number X (lags_of ringed X b j) ≡ why ringed X b (reset j q)
    unfolding reasons
    reset_told q e =
        ap (reset_number X) most_is ∙ (λ i. pick (seats_told i) 11 (pick (mail_told i) 12 (pick (shelf_told i) 13 0)))
        ∙ sym (pick_false _ _ _ (ap not (lt-ltb j X.desks lj)) ∙ pick_false _ _ _ e)

  -- every lag keeps to its bound
  pub lags_keep : (j : ℕ) → lags_ok X (lags_of ringed X b j) ≡ true
  unfolding lags_of
  lags_keep j =
      ⊎_elim (λ (l : j < X.desks).
      ap (lags_ok X) (most_is j l)
      ∙ keeps X (most ringed X b j) (largest_least X.desks _ X.seat_lag (seat_most j l))
      (largest_least 32 _ (2 * X.seat_lag) (λ q m. mail_most j l q)) (largest_least 32 _ X.shelf_lag (λ q m. slot_most j l q)))
      (λ (l : X.desks ≤ j). ap (lags_ok X) (pick_false _ _ _ (le-ltb j X.desks l)) ∙ keeps X level (omega arith) (omega arith) (omega arith))
      (lt_or_le j X.desks)

-- a sound book s, and its right summary m
module _ (s : List ℕ) (h : sound s ≡ true) where
  abbrev allowed : Permitted (setup_of s)
  allowed = permitted (setup_of s) (sound_setup s h)

  -- the lags of desk j in the book s
  abbrev told : ℕ → Lags
  told = lags_of (ring_of (setup_of s)) (setup_of s) (tables_of s)

  -- on a sound book an act is answered its number
  sound_number : (c : Act) → (answer_to s (on c)).number ≡ why_of s c
  sound_number c = answer_number s c ∙ pick_true _ _ _ h

  told_ok : summary_ok (setup_of s) (summary_with told) ≡ true
  unfolding summary_ok all_of
  told_ok =
      let m = summary_marks told in
      λ i.
      eq-eqb (length (summary_with told)) 26 (summary_length told) i
      && (eq-eqb (byte (summary_with told) 0) 0x53 m.0 i
      && (eq-eqb (byte (summary_with told) 1) 0x55 m.1 i && all_in _ 8 each_ok i))
    where
      each_ok : (j : ℕ) → j < 8 → lags_ok (setup_of s) (lags_in (summary_with told) j) ≡ true
      each_ok j l = ap (lags_ok (setup_of s)) (lags_read told j l) ∙ lags_keep (setup_of s) allowed (tables_of s) (sound_fits s h) j

  -- where there is no desk a reset is refused by that
  none_there : (j : ℕ) (q : Bool) → (setup_of s).desks ≤ j → why_of s (reset j q) ≡ 3
  unfolding reasons
  none_there j q n = pick_true _ _ _ (ap not (le-ltb j (setup_of s).desks n))

  pub may_no_desk : (m : List ℕ) (j : ℕ) (q : Bool) → (setup_of s).desks ≤ j
      → (may_of (setup_of s) m j ≡ refusal (number NoDesk)) × (answer_to s (on (reset j q)) ≡ refusal (number NoDesk))
  may_no_desk m j q n = (
    sym (no_desk_lem (numbers_in (setup_of s)) (setup_of s).limits m j (sound_setup s h) n),
    sym (refused_answer s (reset j q) 3 (sym (pick_true _ _ _ h ∙ none_there j q n)) (λ z. omega arith)),
  )

  pub kept_full : (j : ℕ) → j < (setup_of s).desks → no_shelf (tables_of s) true ≡ true
      → (answer_to s (on (reset j true))).number ≡ number ShelfFull
  unfolding reasons
  kept_full j l e = sound_number (reset j true) ∙ pick_false _ _ _ (ap not (lt-ltb j (setup_of s).desks l)) ∙ pick_true _ _ _ e

  module _ (m : List ℕ) (r : Right s m) where
    pub right_ok : summary_ok (setup_of s) m ≡ true
    right_ok = ap (summary_ok (setup_of s)) r ∙ told_ok

    -- of a reset that is not refused for want of a slot may says the number
    reset_foretold : (j : ℕ) (q : Bool) → j < (setup_of s).desks → no_shelf (tables_of s) q ≡ false
        → may_of (setup_of s) m j ≡ accepted (foretells (answer_to s (on (reset j q))).number)
    unfolding summary_ok lags_ok
    reset_foretold j q l e =
        let here : lags_in m j ≡ told j = ap (λ m. lags_in m j) r ∙ lags_read told j (omega (arith, allowed.few)) in
        let due = reset_told (setup_of s) allowed (tables_of s) (sound_fits s h) j l q e in
        sym (foretells_reset (numbers_in (setup_of s)) (setup_of s).limits m j (sound_setup s h) l right_ok _
        (sound_number (reset j q) ∙ sym (ap (reset_number (setup_of s)) here ∙ due)))

    pub may_foretells : (j : ℕ) → j < (setup_of s).desks
        → may_of (setup_of s) m j ≡ accepted (foretells (answer_to s (on (reset j false))).number)
    may_foretells j l = reset_foretold j false l refl

    pub kept_foretells : (j : ℕ) → j < (setup_of s).desks → no_shelf (tables_of s) true ≡ false
        → may_of (setup_of s) m j ≡ accepted (foretells (answer_to s (on (reset j true))).number)
    kept_foretells j l e = reset_foretold j true l e

    pub may_ready : (j : ℕ) → (may_of (setup_of s) m j).number ≡ number BadSummary → ⊥
    may_ready j e =
        ⊎_elim (λ (l : j < (setup_of s).desks). let z = ap (λ (a : Answer). a.number) (may_foretells j l) in omega arith)
        (λ (n : (setup_of s).desks ≤ j). let z = ap (λ (a : Answer). a.number) (may_no_desk m j false n).0 in omega arith)
        (lt_or_le j (setup_of s).desks)
