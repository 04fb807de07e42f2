-- What reading a record says, which stamps a record can tell, and what newest hands back.
-- Assumes nothing.
--   read_as o        the answer to reading a record that tells the stamp o, or none: BadStamp
--   owner_says w l   what the owner or refusal w says, with the row bytes l beside it
--   read_says r      what the reading r says: its number and stamp
--   row_beside w l   the row bytes l beside w: blank where it is a refusal
--   Readable X e     the stamp e is one that a record can tell under the setup X: in range, and zero where there is no desk
--   newest_of X a b  which of the records a and b newest hands back
--   HandedBack w a b r   the slice r is what w names of the slices a and b, the caller's own bytes: a, b, or an empty part of a
use Rattle.std.specs.Prelude.{◌≡◌, true, List, [], ℕ, ◌<◌, replicate, Result, Ok, Err}
use Rattle.std.proofs.Math.Option.{Option, none, some}
use Rattle.rules.specs.Setups.{Setup}
use Rattle.rules.specs.declared.Refusal.TheVariants.{BadStamp}
use Rattle.rules.specs.Numbers.{number}
use Rattle.rules.specs.Model.{Label, stamp, Answer, refusal, accepted}
use Rattle.rules.specs.Labels.{newest_off, Which, First, Second, Neither}
use Rattle.rules.specs.Replies.{row_of}
use Rattle.book.specs.Stamps.{pair_reads, read_stamp}
use Rattle.parts.specs.Slices.{Slice, place}
use Rattle.rules.specs.declared.Refusal.{Refusal}
use Rattle.labels.specs.declared.Reading.{Reading}

abbrev pub read_as : Option Label → Answer
read_as none = refusal (number BadStamp)
read_as (some e) = accepted (stamp e.owner e.row)

abbrev pub owner_says : Result ℕ Refusal → List ℕ → Answer
owner_says (Ok j) l = accepted (stamp j (row_of l))
owner_says (Err r) l = refusal (number r)

abbrev pub read_says : Reading → Answer
read_says r = owner_says r.who r.row

abbrev pub row_beside : Result ℕ Refusal → List ℕ → Type 0
row_beside (Ok j) l = Unit {0}
row_beside (Err r) l = l ≡ replicate 16 0

pub record Readable (X : Setup) (e : Label) : Type 0 where
  pub owner : e.owner < X.desks
  pub row : (j : ℕ) → pair_reads X j (e.row j) ≡ true

abbrev pub newest_of : Setup → List ℕ → List ℕ → Which
newest_of X a b = newest_off X (read_stamp X a) (read_stamp X b)

abbrev pub HandedBack : Which → Slice → Slice → Slice → Type 0
HandedBack First a b r = r ≡ a
HandedBack Second a b r = r ≡ b
HandedBack Neither a b r = (r.ref_ptr ≡ place a 0) × (r.now ≡ [])
