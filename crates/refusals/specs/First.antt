-- The reasons that several acts have in common, asked before their own.
-- Assumes nothing.
--   asked s t n        BadBook where the bytes s are not sound, else n where t holds, else 0
--   desk_number s j    what is due of desk j alone: BadBook, NoDesk, or 0
--   slots_number s i k what is due of the slots i and k alone: BadBook, NoPlace, or 0
--   list_number s l    what is due of the list l of slots alone: BadBook, NoPlace, or 0
--   used_number s a p  what is due of the p-th of the records from record a on, which is to be used: BadBook, NoPlace, or 0
use Rattle.std.specs.Prelude.{ℕ, Bool, not, ◌||◌, List, eqb, length}
use Rattle.tools.specs.Tests.{pick, any}
use Rattle.rules.specs.declared.Refusal.TheVariants.{BadBook, NoDesk, NoPlace}
use Rattle.rules.specs.Numbers.{number}
use Rattle.rules.specs.Model.{no_desk, no_slot, chosen}
use Rattle.book.specs.Layout.{setup_of}
use Rattle.book.specs.Sound.{sound}
use Rattle.book.specs.Numbers.{tables_of}
use Rattle.reasons.specs.Held.{used_at}

abbrev pub asked : List ℕ → Bool → ℕ → ℕ
asked s t n = pick (sound s) (pick t n 0) (number BadBook)

abbrev pub desk_number : List ℕ → ℕ → ℕ
desk_number s j = asked s (no_desk (setup_of s) j) (number NoDesk)

abbrev pub used_number : List ℕ → ℕ → ℕ → ℕ
used_number s a p = asked s (not (used_at s a p)) (number NoPlace)

abbrev pub slots_number : List ℕ → ℕ → ℕ → ℕ
slots_number s i k = asked s (no_slot (tables_of s) i || no_slot (tables_of s) k) (number NoPlace)

abbrev pub list_number : List ℕ → List ℕ → ℕ
list_number s l =
    asked s (not (eqb (length l) (setup_of s).desks) || any (length l) (λ i. no_slot (tables_of s) (chosen l i))) (number NoPlace)
