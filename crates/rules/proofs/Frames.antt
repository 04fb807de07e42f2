-- DEMAND 2, what stays: in any arithmetic an act, accepted or refused, leaves every seat, mail place and slot as it was but what
-- the rules have it touch; and the place of a send, the slot of a kept event, is the lowest free one.
-- Assumes nothing.
use mathlib.Core.Path.{◌≡◌, refl}
use mathlib.Core.Bool.{Bool, true, false, not, false≢true}
use mathlib.Core.Option.{Option, none, some}
use Prim.Native.Nat.{ℕ, zero, suc}
use borrow.Author.Tests.{ne_eqb}
use Rattle.tools.specs.Tests.{lowest}
use Rattle.tools.specs.Tables.{put_at}
use Rattle.tools.proofs.Tables.{put_other}
use Rattle.tools.proofs.Tests.{not_off, lowest_is}
use Rattle.ring.specs.Phases.{Phases}
use Rattle.rules.specs.Setups.{Setup}
use Rattle.rules.specs.Model.{Held, Tables, Question, Act, local, reset, send, receive, drop, discard, ask}
use Rattle.rules.specs.Model.{used, free_mail, free_slot, slot_for, settle, why, done, step}
use Rattle.rules.specs.Frames.{SameBut, touches, Stays, LowestFree}
use Rattle.rules.specs.Calls.{Book, on, call}

-- a table is the same as itself
same : {A : Type 0} (o : Option ℕ) (f : ℕ → A) → SameBut o f f
same none f = λ i. refl
same (some k) f = λ i ne. refl

-- a table is the same but where something is put
put_stays : {A : Type 0} (o : Option ℕ) (f : ℕ → A) (v : A) → SameBut o f (put_at f o v)
put_stays none f v = λ i. refl
put_stays (some k) f v = λ i ne. put_other f k v i ne

module _ (Z : Phases) (X : Setup) (b : Tables) where
  -- of what an accepted act leaves
  done_stays : (c : Act) → Stays (touches b c) b (done Z X b c).tables
  unfolding done
  done_stays (local j q) =
      record { seats = λ i ne. let e = ne_eqb i j ne in cc; mail = λ p. refl; shelf = put_stays (slot_for b q) b.shelf _ }
  done_stays (send j k q) =
      record {
        seats = λ i ne. let e = ne_eqb i j ne in cc;
        mail = λ i ne. let e = ne_eqb i (free_mail b) ne in cc;
        shelf = put_stays (slot_for b q) b.shelf _;
      }
  done_stays (receive j p q) =
      record {
        seats = λ i ne. let e = ne_eqb i j ne in cc;
        mail = λ i ne. let e = ne_eqb i p ne in cc;
        shelf = put_stays (slot_for b q) b.shelf _;
      }
  done_stays (reset j q) =
      record { seats = λ i ne. let e = ne_eqb i j ne in cc; mail = λ p. refl; shelf = put_stays (slot_for b q) b.shelf _ }
  done_stays (drop s) = record { seats = λ k. refl; mail = λ p. refl; shelf = λ i ne. let e = ne_eqb i s ne in cc }
  done_stays (discard p) = record { seats = λ k. refl; mail = λ i ne. let e = ne_eqb i p ne in cc; shelf = λ s. refl }
  done_stays (ask q) = record { seats = λ k. refl; mail = λ p. refl; shelf = λ s. refl }

  -- every other seat, mail place and slot is as it was
  pub stays : (c : Act) → Stays (touches b c) b (step Z X b c).tables
  unfolding step
  stays c = go (why Z X b c)
    where
      go : (n : ℕ) → Stays (touches b c) b (settle n b (done Z X b c)).tables
      go zero = done_stays c
      go (suc n) =
          record {
            seats = same (touches b c).seat b.seat;
            mail = same (touches b c).place b.mail;
            shelf = same (touches b c).slot b.shelf;
          }

  abbrev SameSeats : Act → Type 0
  SameSeats c = (j : ℕ) → (step Z X b c).tables.seat j ≡ b.seat j

  abbrev SameMail : Act → Type 0
  SameMail c = (p : ℕ) → (step Z X b c).tables.mail p ≡ b.mail p

  abbrev SameShelf : Act → Type 0
  SameShelf c = (s : ℕ) → (step Z X b c).tables.shelf s ≡ b.shelf s

  -- the four events, where they are not kept, leave the shelf; local and reset, kept or not, the mail
  pub events_leave_the_shelf : (j k p : ℕ)
      → SameShelf (local j false) × SameShelf (send j k false) × SameShelf (receive j p false) × SameShelf (reset j false)
  events_leave_the_shelf j k p =
      ((stays (local j false)).shelf, (stays (send j k false)).shelf, (stays (receive j p false)).shelf, (stays (reset j false)).shelf)

  pub local_reset_leave_the_mail : (j : ℕ) (q : Bool) → SameMail (local j q) × SameMail (reset j q)
  local_reset_leave_the_mail j q = ((stays (local j q)).mail, (stays (reset j q)).mail)

  -- drop and discard are no events: they leave every seat
  pub no_event_leaves_the_seats : (s p : ℕ) → SameSeats (drop s) × SameSeats (discard p)
  no_event_leaves_the_seats s p = ((stays (drop s)).seats, (stays (discard p)).seats)

  pub drop_leaves_the_mail : (s : ℕ) → SameMail (drop s)
  drop_leaves_the_mail s = (stays (drop s)).mail

  pub discard_leaves_the_shelf : (p : ℕ) → SameShelf (discard p)
  discard_leaves_the_shelf p = (stays (discard p)).shelf

  -- before, compare, show and write leave everything
  pub asking_leaves_all : (q : Question) → (step Z X b (ask q)).tables ≡ b
  unfolding step done
  asking_leaves_all q = go (why Z X b (ask q))
    where
      go : (n : ℕ) → (settle n b (done Z X b (ask q))).tables ≡ b
      go zero = refl
      go (suc n) = refl

-- an act leaves the setup
pub setup_stays : (Z : Setup → Phases) (b : Book) (c : Act) → (call Z b (on c)).book.setup ≡ b.setup
unfolding call
setup_stays Z b c = refl

-- the lowest place or slot that is not used is free, and all below it are used
lowest_free : (f : ℕ → Option Held) → LowestFree f (lowest 32 (λ p. not (used (f p))))
lowest_free f =
    let l = lowest_is 32 (λ p. not (used (f p))) in
    record { within = l.0; free = λ m. unused _ (l.1 m); below = λ i m. not_off _ (l.2 i m) }
  where
    unused : (o : Option Held) → not (used o) ≡ true → o ≡ none
    unused none e = refl
    unused (some w) e = absurd (false≢true e)

-- Send puts into the lowest free mail place, a kept event into the lowest free slot.
pub lowest_place : (b : Tables) → LowestFree b.mail (free_mail b)
lowest_place b = lowest_free b.mail

pub lowest_slot : (b : Tables) → LowestFree b.shelf (free_slot b)
lowest_slot b = lowest_free b.shelf
