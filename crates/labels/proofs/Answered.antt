-- The answers to before and compare off the book, from what was read on.
-- Assumes nothing.
use Prim.Native.Nat.{ℕ, zero, suc, ◌+◌, ◌-◌, ◌<◌, ◌≤◌}
use mathlib.Core.Path.{◌≡◌, refl, sym, ap, ◌∙◌}
use mathlib.Core.Bool.{Bool, true, false, not, ◌||◌, false≢true}
use mathlib.Core.Option.{Option, none, some}
use mathlib.Core.List.{List}
use native.Mathlib.Omega.{arith}
use lib.ListN.{length, take, drop, length-drop, replicate}
use Rattle.std.proofs.lemmas.List.{take_all}
use Rattle.tools.specs.Tests.{pick}
use Rattle.tools.specs.Lists.{byte}
use Rattle.ring.specs.Phases.{Pair, lag_of}
use Rattle.ring.proofs.Ring.{lag_below, lag_by_last}
use Rattle.rules.specs.declared.SetupNumbers.{SetupNumbers}
use Rattle.rules.specs.Setups.{Setup, setup_with, permits}
use Rattle.rules.specs.declared.Refusal.TheVariants.{BadStamp}
use Rattle.rules.specs.Numbers.{number}
use Rattle.rules.specs.Model.{Value, stamp, Answer, refusal, accepted, near, is_out}
use Rattle.rules.specs.Model.{Label}
use Rattle.rules.specs.Labels.{reads, owner_in, row_read, gap_off, gap_read, why_off, settle_off, before_off, compare_off}
use Rattle.rules.specs.Replies.{row_of}
use Rattle.rules.proofs.Setups.{Permitted, permitted}
use Rattle.rules.proofs.Off.{shown_ahead, shown_back}
use Rattle.book.specs.Layout.{row_spot, phase_spot, clock_spot}
use Rattle.book.specs.Stamps.{label_of, read_ok, read_stamp}
use Rattle.comparing.specs.Answers.{before_by, compare_by}
use Rattle.comparing.proofs.Answers.{before_off_lem, compare_off_lem}
use Rattle.std.specs.Prelude.{Result, Ok, Err}
use Rattle.rules.specs.declared.Refusal.{Refusal}
use Rattle.rules.proofs.Once.{not_done}
use Rattle.labels.specs.Records.{read_as, owner_says, row_beside}
use Rattle.labels.specs.Asked.{owner_read, Both, Between, WayRead, Owned}
use Rattle.labels.proofs.Records.{label_pair, pair_below, stamp_told, read_readable}

-- a record that reads tells what its bytes do
bytes_told : (X : Setup) (r : List ℕ) → reads (read_stamp X r) ≡ true → read_stamp X r ≡ some (label_of r)
unfolding read_stamp
bytes_told X r = go (read_ok X r)
  where
    go : (t : Bool) → reads (pick t (some (label_of r)) none) ≡ true → pick t (some (label_of r)) none ≡ some (label_of r)
    go true h = refl
    go false h = absurd (false≢true h)

-- what the owner or the refusal says of the record
module _ (X : Setup) (r : List ℕ) (w : Result ℕ Refusal) (told : w ≡ owner_read (read_stamp X r)) where
  pub who_reads : (j : ℕ) → w ≡ Ok j → (reads (read_stamp X r) ≡ true) × (owner_in (read_stamp X r) ≡ j)
  who_reads j q = go (read_stamp X r) (sym told ∙ q)
    where
      go : (o : Option Label) → owner_read o ≡ Ok j → (reads o ≡ true) × (owner_in o ≡ j)
      go none e = absurd (let z : ◌≡◌ {A = ℕ} 0 1 = cc in omega arith)
      go (some s) e = (refl, cc)

  pub who_refused : (n : Refusal) → w ≡ Err n → (read_stamp X r ≡ none) × (n ≡ BadStamp)
  who_refused n q = go (read_stamp X r) (sym told ∙ q)
    where
      go : (o : Option Label) → owner_read o ≡ Err n → (o ≡ none) × (n ≡ BadStamp)
      go none e = (refl, cc)
      go (some s) e = absurd (let z : ◌≡◌ {A = ℕ} 0 1 = cc in omega arith)

  pub who_size : (j : ℕ) → w ≡ Ok j → length r ≡ 20
  who_size j q = (stamp_told X r (label_of r) (bytes_told X r (who_reads j q).0)).0.size

  -- what reading answers: the refusal, or the owner with the sixteen bytes of the row
  pub refused_reading : (n : Refusal) → w ≡ Err n
      → (owner_says w (replicate 16 0) ≡ read_as (read_stamp X r)) × row_beside w (replicate 16 0)
  refused_reading n q = let u = who_refused n q in rw (q, u.0, u.1) (refl, refl)

  pub told_reading : (j : ℕ) (l : List ℕ) → w ≡ Ok j → l ≡ take (length r - 4) (drop 4 r)
      → (owner_says w l ≡ read_as (read_stamp X r)) × row_beside w l
  told_reading j l q t =
      rw (told, bytes_told X r (who_reads j q).0) (
        ap (λ (b : List ℕ). accepted (stamp (byte r 2) (row_of b)))
            (t ∙ take_all (length r - 4) (drop 4 r) (omega (arith, length-drop 4 r))),
        tt,
      )

-- the number of two records of which one does not read, where the setup is permitted
pub unread : (X : Setup) (a b : List ℕ) (n : Refusal) → permits X ≡ true
    → (not (reads (read_stamp X a)) || not (reads (read_stamp X b))) ≡ true → n ≡ BadStamp
    → (out : Bool) → why_off X (read_stamp X a) (read_stamp X b) out ≡ number n
unread X a b n p u q out = rw (p, u, q)

module _ (X : Setup) (a b : List ℕ) (j : ℕ) (h : Both X a b) (own : owner_in (read_stamp X a) ≡ j) where
  fair : Permitted X
  fair = permitted X h.fair

  one : read_stamp X a ≡ some (label_of a)
  one = bytes_told X a h.one

  two : read_stamp X b ≡ some (label_of b)
  two = bytes_told X b h.two

  owner : byte a 2 ≡ j
  owner = sym (ap owner_in one) ∙ own

  desk : j < X.desks
  desk = let r = read_readable X fair.few a (label_of a) one in omega (arith, r.owner, owner)

  eight : j < 8
  eight = let p = fair in omega (arith, desk)

  phase_below : (r : List ℕ) → read_stamp X r ≡ some (label_of r) → byte r (row_spot + phase_spot j) < X.phases
  phase_below r e =
      let p = pair_below X j ((label_of r).row j) ((read_readable X fair.few r (label_of r) e).row j) desk in
      rw (label_pair r j eight) at p.0

  -- read where the desk's phase and clock stand
  module _ (p c : ℕ) (ep : p ≡ row_spot + phase_spot j) (ec : c ≡ row_spot + clock_spot j) where
    phase_at : (r : List ℕ) → byte r p ≡ ((label_of r).row j).phase
    phase_at r = ap (byte r) ep ∙ sym (ap (λ (q : Pair). q.phase) (label_pair r j eight))

    clock_at : (r : List ℕ) → byte r c ≡ ((label_of r).row j).clock
    clock_at r = ap (byte r) ec ∙ sym (ap (λ (q : Pair). q.clock) (label_pair r j eight))

    -- the way, by the difference that the bytes show
    between : (up down : ℕ)
        → gap_off X j (label_of a).row (label_of b).row ≡ near X ((label_of a).row j).clock (record { up = up; down = down })
        → WayRead X a b j (record { gap = record { up = up; down = down }; from = byte a c; to = byte b c })
    between up down g =
        record {
          gap = (λ i. gap_read X (one i) (two i)) ∙ ap (λ o. gap_off X o (label_of a).row (label_of b).row) owner ∙ g
              ∙ ap (λ t. near X t (record { up = up; down = down })) (sym (clock_at a));
          clocks =
              record {
                from = clock_at a ∙ sym (ap (λ (o : Option Label). (row_read o j).clock) one);
                to = clock_at b ∙ sym (ap (λ (o : Option Label). (row_read o j).clock) two);
              };
        }

    module _ (r : ℕ) (lag : r ≡ lag_of X.phases (byte b p) (byte a p)) where
      lag_is : lag_of X.phases ((label_of b).row j).phase ((label_of a).row j).phase ≡ r
      lag_is = sym (lag ∙ (λ i. lag_of X.phases (phase_at b i) (phase_at a i)))

      pub way_ahead : r < X.ahead
          → WayRead X a b j (record { gap = record { up = r; down = 0 }; from = byte a c; to = byte b c })
      way_ahead l =
          between r 0
          (shown_ahead X fair j (label_of a).row (label_of b).row (omega (arith, l, lag_is))
          ∙ ap (λ u. near X ((label_of a).row j).clock (record { up = u; down = 0 })) lag_is)

      pub way_back : (down : ℕ) → down ≡ X.phases - r → X.ahead ≤ r
          → WayRead X a b j (record { gap = record { up = 0; down = down }; from = byte a c; to = byte b c })
      way_back down e l =
          between 0 down
          (shown_back X fair j (label_of a).row (label_of b).row (omega (arith, l, lag_is))
          ∙ ap (λ u. near X ((label_of a).row j).clock (record { up = 0; down = X.phases - u })) lag_is
          ∙ ap (λ u. near X ((label_of a).row j).clock (record { up = 0; down = u })) (sym e))

-- what the way asks, whatever the limits
pub ready : (s : SetupNumbers) (l a b : List ℕ) (j : ℕ) → Both (setup_with s l) a b → owner_in (read_stamp (setup_with s l) a) ≡ j
    → Between s a b j
ready s l a b j h own =
    let X = setup_with s l in
    let p = permitted X h.fair in
    record {
      phases = omega arith;
      ahead = (p.forth, omega arith);
      one = (stamp_told X a (label_of a) (one X a b j h own)).0.size;
      two = (stamp_told X b (label_of b) (two X a b j h own)).0.size;
      desk = eight X a b j h own;
      first = phase_below X a b j h own a (one X a b j h own);
      second = phase_below X a b j h own b (two X a b j h own);
    }

-- read where the desk's phase stands, the lag is that of the ring, and below its phases
pub lag_taken : (s : SetupNumbers) (a b : List ℕ) (j p last r : ℕ) → Between s a b j → p ≡ row_spot + phase_spot j
    → last + 1 ≡ s.phases
    → (byte a p ≤ last → r ≡ lag_of (last + 1) (byte b p) (byte a p)) → (r ≡ lag_of s.phases (byte b p) (byte a p)) × (r < s.phases)
lag_taken s a b j p last r h stands all told =
    let on_ring : (byte a p < s.phases) × (byte b p < s.phases) = rw stands (h.first, h.second) in
    let lag_is = lag_by_last s.phases last (byte b p) (byte a p) r all on_ring.0 told in
    (lag_is, omega (arith, lag_below s.phases (byte b p) (byte a p) on_ring.1, lag_is))

-- two records as they read, and what is asked of them
module _ (X : Setup) (e f : Option Label) (w : Refusal) (due : (out : Bool) → why_off X e f out ≡ number w) where
  settled : (n : ℕ) (v : Value) → n ≡ number w → refusal (number w) ≡ settle_off n v
  settled zero v q = absurd (not_done w (sym q))
  settled (suc n) v q = ap refusal (sym q)

  pub before_refused : refusal (number w) ≡ before_off X e f
  unfolding before_off
  before_refused = settled _ _ (due (is_out (gap_read X e f)))

  pub compare_refused : refusal (number w) ≡ compare_off X e f
  unfolding compare_off
  compare_refused = settled _ _ (due (is_out (gap_read X e f) || is_out (gap_read X f e)))

pub flipped : {X : Setup} {a b : List ℕ} → Both X a b → Both X b a
flipped h = record { fair = h.fair; one = h.two; two = h.one }

module _ (X : Setup) (a b : List ℕ) (j k : ℕ) (h : Owned X a b j k) where
  abbrev e : Option Label
  e = read_stamp X a

  abbrev f : Option Label
  f = read_stamp X b

  pub within_bytes : (X.back ≤ 255) × (X.ahead ≤ 255)
  within_bytes = let p = permitted X h.both.fair in omega arith

  pub before_answered : (r : Answer) → r ≡ before_by (gap_read X e f) j k (row_read e) (row_read f) → r ≡ before_off X e f
  before_answered r q =
      q ∙ (λ i. before_by (gap_read X e f) (sym h.first i) (sym h.second i) (row_read e) (row_read f))
      ∙ before_off_lem X e f h.both.fair h.both.one h.both.two

  pub compare_answered : (r : Answer) → r ≡ compare_by (gap_read X e f) (gap_read X f e) j k (row_read e) (row_read f)
      → r ≡ compare_off X e f
  compare_answered r q =
      q ∙ (λ i. compare_by (gap_read X e f) (gap_read X f e) (sym h.first i) (sym h.second i) (row_read e) (row_read f))
      ∙ compare_off_lem X e f h.both.fair h.both.one h.both.two
