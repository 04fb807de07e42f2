-- What an event is granted before anything is changed: its number, and the slot for its stamp.
-- Assumes nothing.
--   Grant              a number, and a slot
--   granted n k        the number n with the slot k
--   granted_by r       what the code's answer r grants: its number, and the slot where there is one
--   grant s n q        the number n, and where it is 0 the slot for an event on the bytes s: the lowest free one where it is kept, q; none
--                      where it is not or is refused
--   shelf_grant s q    what is granted by the shelf alone: ShelfFull where it is to be kept and no slot is free
--   grant_of s c q     what the event c is granted, which is kept or not as q says
use Rattle.std.specs.Prelude.{ℕ, Bool, List, Result, Ok, Err, Option, None}
use Rattle.tools.specs.Tests.{pick}
use Rattle.tools.specs.Reasons.{if_done}
use Rattle.rules.specs.declared.Refusal.TheVariants.{ShelfFull}
use Rattle.rules.specs.Numbers.{number}
use Rattle.rules.specs.Model.{Act, no_shelf}
use Rattle.book.specs.Layout.{shelf_from}
use Rattle.book.specs.Numbers.{tables_of, number_of}
use Rattle.reasons.specs.Held.{free_place}
use Rattle.rules.specs.declared.Refusal.{Refusal}

pub record Grant : Type 0 where
  pub number : ℕ
  pub slot : Option ℕ

abbrev pub granted : ℕ → Option ℕ → Grant
granted n k = record { number = n; slot = k }

abbrev pub granted_by : Result (Option ℕ) Refusal → Grant
granted_by (Ok o) = granted 0 o
granted_by (Err r) = granted (number r) None

abbrev pub grant : List ℕ → ℕ → Bool → Grant
grant s n q = granted n (if_done n (pick q (free_place s shelf_from) None) None)

abbrev pub shelf_grant : List ℕ → Bool → Grant
shelf_grant s q = grant s (pick (no_shelf (tables_of s) q) (number ShelfFull) 0) q

abbrev pub grant_of : List ℕ → Act → Bool → Grant
grant_of s c q = grant s (number_of s c) q
