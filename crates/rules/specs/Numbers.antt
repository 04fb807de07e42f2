-- The answer table.
-- Assumes nothing. In words: docs/RULES.md, "Answer numbers".
--   Name       why a call is refused, the code's own enum; NoEvent is never given
--   number w   its number; 0 is done
--   given w t  the name w is given when t holds
use Rattle.std.specs.Prelude.{ℕ, Bool}
use Rattle.tools.specs.Reasons.{Reason, when}
use Rattle.rules.specs.declared.Refusal.{Refusal}
use Rattle.rules.specs.declared.Refusal.TheVariants.{
  BadBook,
  BadSetup,
  NoDesk,
  SameDesk,
  NoPlace,
  NotYours,
  NoEvent,
  PhaseFull,
  MailFull,
  ShelfFull,
  SeatBehind,
  MailBehind,
  ShelfBehind,
  BadStamp,
  NoRoom,
  OutOfReach,
  BadLine,
  WrongOwner,
  BadSummary,
}

abbrev pub Name : Type 0
Name = Refusal

abbrev pub number : Name → ℕ
number BadBook = 1
number BadSetup = 2
number NoDesk = 3
number SameDesk = 4
number NoPlace = 5
number NotYours = 6
number NoEvent = 7
number PhaseFull = 8
number MailFull = 9
number ShelfFull = 10
number SeatBehind = 11
number MailBehind = 12
number ShelfBehind = 13
number BadStamp = 14
number NoRoom = 15
number OutOfReach = 16
number BadLine = 17
number WrongOwner = 18
number BadSummary = 21

abbrev pub given : Name → Bool → Reason
given w t = when t (number w)
