-- Stamp records that a run over bytes has given out, and the event of each.
-- Assumes nothing.
--   stamp_from s c       the stamp that the act c is answered on the bytes s: by an event, or by show or write of a slot
--   Recorded s X cs r x  r is the record of a stamp that one of the calls cs was answered, the stamp of the event x; the calls
--                        begin with an accepted start of X on the bytes s, and no later start is accepted
--   read_under X cs      the setup under which the records of the run are read: that of its last accepted start
--   NewestIs X h x y r q  newest of the records r and q hands back that of the later event, the first's if they are one event
use Rattle.std.specs.Prelude.{◌≡◌, List, ◌∷◌, ◌++◌, ℕ}
use Rattle.std.proofs.Math.Option.{Option, some}
use Rattle.rules.specs.Setups.{Setup}
use Rattle.rules.specs.Model.{Label, Act, slot_of}
use Rattle.rules.specs.Calls.{Call, start, on}
use Rattle.history.specs.History.{Log, begin, after, setup_after}
use Rattle.history.specs.Stamps.{owner_at, stamp_in, event_of, Ongoing}
use Rattle.book.specs.Codec.{decode}
use Rattle.history.specs.Demand.{Newer}
use Rattle.book.specs.Stamps.{write_stamp}
use Rattle.book.specs.Answers.{answer_to, book_after}
use Rattle.labels.specs.Records.{newest_of}
use Rattle.promises.specs.Runs.{bytes_after}

abbrev pub stamp_from : List ℕ → Act → Option Label
stamp_from s c = stamp_in (owner_at (decode s).tables (slot_of c)) (answer_to s (on c)).value

pub record Recorded (s : List ℕ) (X : Setup) (cs : List Call) (r : List ℕ) (x : ℕ) : Type 0 where
  pub earlier : List Call
  pub act : Act
  pub later : List Call
  pub order : cs ≡ earlier ++ on act ∷ later
  pub ongoing : Ongoing later
  pub stamp : Label
  pub given : stamp_from (bytes_after (book_after s (start X)) earlier) act ≡ some stamp
  pub written : write_stamp (setup_after X cs).desks stamp ≡ r
  pub event : event_of (after (begin X) earlier).history act ≡ x

abbrev pub read_under : Setup → List Call → Setup
read_under X cs = setup_after X cs

abbrev pub NewestIs : Setup → Log → ℕ → ℕ → List ℕ → List ℕ → Type 0
NewestIs X h x y r q = Newer h x y (newest_of X r q)
