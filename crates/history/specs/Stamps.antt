-- Stamps that a run has answered, and the event of each.
-- Assumes nothing.
--   label_held w       the stamp that a used slot holds: its owner and its row
--   StampOf X h x e    e is the stamp of the event x, its phases come round
--   owner_at b o       the owner of the stamp in the slot o, which a question asks of
--   or_shown o e r     the stamp e, or where there is none the row r with the owner o
--   stamp_in o v       the stamp in a value; o is the owner of a row that stands alone, as show answers it
--   stamp_given b c    the stamp that the ring answers to the act c on the book b
--   event_at h o       the event behind the slot o, or where there is none the next one of the history h
--   event_of h c       the event of that stamp: the one that c adds to the history h, or the one behind the slot
--   Ongoing cs         no start among the calls cs is accepted
--   Answered X cs e x  the calls cs, from a fresh book of X on, answer the stamp e of event x, and then accept no start
use Rattle.std.specs.Prelude.{◌≡◌, false, List, [], ◌∷◌, ◌++◌, ℕ, ◌<◌}
use Rattle.std.proofs.Math.Option.{Option, none, some}
use Rattle.rules.specs.Setups.{Setup, permits}
use Rattle.rules.specs.Model.{Row, Held, Tables, Label, Act, slot_of, Value, by_in}
use Rattle.rules.specs.Calls.{Book, Call, start, on, ring_of, fresh_book, call}
use Rattle.history.specs.Round.{round_row}
use Rattle.history.specs.History.{Log, History, begin, after}
use Rattle.history.specs.Runs.{left}

abbrev pub label_held : Held → Label
label_held w = record { owner = w.by; row = w.row }

pub record StampOf (X : Setup) (h : Log) (x : ℕ) (e : Label) : Type 0 where
  pub is : x < h.count
  pub owner : h.desk x ≡ e.owner
  pub row : round_row X.phases (h.row x) ≡ e.row

abbrev pub owner_at : Tables → Option ℕ → ℕ
owner_at b none = 0
owner_at b (some s) = by_in (b.shelf s)

abbrev pub or_shown : ℕ → Option Label → Option Row → Option Label
or_shown o (some e) r = some e
or_shown o none none = none
or_shown o none (some r) = some record { owner = o; row = r }

abbrev pub stamp_in : ℕ → Value → Option Label
stamp_in o v = or_shown o v.stamp v.row

abbrev pub stamp_given : Book → Act → Option Label
stamp_given b c = stamp_in (owner_at b.tables (slot_of c)) (call ring_of b (on c)).answer.value

abbrev pub event_at : History → Option ℕ → ℕ
event_at h none = h.log.count
event_at h (some s) = h.kept s

abbrev pub event_of : History → Act → ℕ
event_of h c = event_at h (slot_of c)

abbrev pub Ongoing : List Call → Type 0
Ongoing [] = Unit {0}
Ongoing (start X ∷ cs) = (permits X ≡ false) × Ongoing cs
Ongoing (on c ∷ cs) = Ongoing cs

pub record Answered (X : Setup) (cs : List Call) (e : Label) (x : ℕ) : Type 0 where
  pub earlier : List Call
  pub act : Act
  pub later : List Call
  pub order : cs ≡ earlier ++ on act ∷ later
  pub ongoing : Ongoing later
  pub given : stamp_given (left ring_of (fresh_book X) earlier) act ≡ some e
  pub event : event_of (after (begin X) earlier).history act ≡ x
