-- What the questions about slots are refused by, and what they have where they are not.
-- Assumes nothing.
use Prim.Native.Nat.{ℕ, ◌≤◌, ◌<◌}
use mathlib.Core.Path.{◌≡◌}
use mathlib.Core.Bool.{Bool, true, false, not, ◌||◌}
use mathlib.Core.List.{List}
use borrow.Author.Tests.{ltb-false, eqb-true, not-false}
use lib.Dec.{ltb, eqb}
use lib.ListN.{length}
use Rattle.tools.specs.Tests.{pick, any}
use Rattle.tools.proofs.Tests.{or_false_l, or_false_r, any_false}
use Rattle.tools.proofs.Reasons.{clear}
use Rattle.rules.specs.Model.{before, compare, picture, show, write, no_slot, chosen, reasons, ask_reasons}
use Rattle.book.specs.Layout.{setup_of}
use Rattle.book.specs.Sound.{sound}
use Rattle.book.specs.Numbers.{tables_of, number_of}
use Rattle.book.proofs.Numbers.{ready}
use Rattle.refusals.specs.First.{slots_number, list_number}
use Rattle.refusals.proofs.First.{asked_due, asked_clear}

-- two used slots of a sound book
pub record Two (s : List ℕ) (i k : ℕ) : Type 0 where
  pub whole : sound s ≡ true
  pub first : no_slot (tables_of s) i ≡ false
  pub second : no_slot (tables_of s) k ≡ false

module _ (s : List ℕ) (i k : ℕ) where
  abbrev missing : Bool
  missing = no_slot (tables_of s) i || no_slot (tables_of s) k

  pub slots_two : slots_number s i k ≡ 0 → Two s i k
  slots_two e =
      let q = asked_clear s missing 4 e in
      record {
        whole = q.0;
        first = or_false_l (no_slot (tables_of s) i) _ q.1;
        second = or_false_r (no_slot (tables_of s) i) _ q.1;
      }

  -- is due for every question that asks for them first
  module _ (n : ℕ) (e : n ≡ slots_number s i k) (ne : n ≡ 0 → ⊥) where
    due : (r : ℕ) → n ≡ pick (sound s) (pick missing 5 r) 1
    due = asked_due s missing 5 n e ne

    pub before_due : n ≡ number_of s (before i k)
    unfolding reasons ask_reasons
    before_due = due _

    pub compare_due : n ≡ number_of s (compare i k)
    unfolding reasons ask_reasons
    compare_due = due _

-- a used slot of a sound book for each desk
pub record Listed (s l : List ℕ) : Type 0 where
  pub whole : sound s ≡ true
  pub count : length l ≡ (setup_of s).desks
  pub used : (i : ℕ) → i < length l → no_slot (tables_of s) (chosen l i) ≡ false

module _ (s l : List ℕ) where
  abbrev other_count_lem : Bool
  other_count_lem = not (eqb (length l) (setup_of s).desks)

  abbrev gone : Bool
  gone = any (length l) (λ i. no_slot (tables_of s) (chosen l i))

  pub list_used : list_number s l ≡ 0 → Listed s l
  list_used e =
      let q = asked_clear s (other_count_lem || gone) 4 e in
      record {
        whole = q.0;
        count = eqb-true _ _ (not-false _ (or_false_l other_count_lem gone q.1));
        used = any_false (length l) _ (or_false_r other_count_lem gone q.1);
      }

  -- is due for a picture, whatever its stamps
  pub picture_due : (n : ℕ) → n ≡ list_number s l → (n ≡ 0 → ⊥) → n ≡ number_of s (picture l)
  unfolding reasons ask_reasons
  picture_due n e ne = asked_due s (other_count_lem || gone) 5 n e ne _

-- one used slot of a sound book
pub record One (s : List ℕ) (i : ℕ) : Type 0 where
  pub whole : sound s ≡ true
  pub used : no_slot (tables_of s) i ≡ false

module _ (s : List ℕ) (i : ℕ) where
  pub show_one : number_of s (show i) ≡ 0 → One s i
  unfolding reasons ask_reasons
  show_one e = let r = ready s (show i) e in record { whole = r.0; used = (clear (no_slot (tables_of s) i) 4 0 r.1).0 }

  pub write_one : (room : ℕ) → number_of s (write i room) ≡ 0 → One s i
  unfolding reasons ask_reasons
  write_one room e = let r = ready s (write i room) e in record { whole = r.0; used = (clear (no_slot (tables_of s) i) 4 _ r.1).0 }

  pub write_room : (room : ℕ) → number_of s (write i room) ≡ 0 → 20 ≤ room
  unfolding reasons ask_reasons
  write_room room e =
      ltb-false room 20 (clear (ltb room 20) 14 0 (clear (no_slot (tables_of s) i) 4 _ (ready s (write i room) e).1).1).0
