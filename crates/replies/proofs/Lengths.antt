-- How long the parts of a line are, and that the lines of events are no longer than the longest.
-- Assumes nothing.
--   pairs_length   a pair has eight bytes
--   slot_length    a slot has at most four
--   stamp_room     in a book of at most eight desks there is room behind a stamp for what is left when it takes 68 bytes
--   Fits v         the line of the value v, in a book of at most eight desks, is no longer than the longest
--   stamped_fits, received_fits, sent_fits   so is that of local and reset; of receive; of send
use Prim.Native.Nat.{ℕ, zero, suc, ◌+◌, ◌*◌, ◌≤◌}
use mathlib.Core.Path.{◌≡◌, refl}
use mathlib.Core.List.{List, [], ◌∷◌, ◌++◌}
use mathlib.Core.Option.{Option, none, some}
use native.Mathlib.Omega.{arith}
use lib.ListN.{length, length-append}
use Rattle.text.specs.Put.{three, field, Wrote}
use Rattle.text.proofs.Writing.{wrote_length}
use Rattle.rules.specs.Model.{Row, Value, made, accepted}
use Rattle.replies.specs.Print.{pairs, stamp_text, then, answer_text, longest}

pub pairs_length : (n : ℕ) (r : Row) → length (pairs n r) ≡ 8 * n
unfolding pairs
pairs_length zero r = refl
pairs_length (suc n) r = simp length-append (omega (arith, pairs_length n r))

pub slot_length : (o : Option ℕ) → length (then [] field o) ≤ 4
slot_length none = omega arith
slot_length (some s) = omega arith

pub stamp_room
    : {xs ys : List ℕ} {at n : ℕ} (D o k : ℕ) (r : Row)
    → Wrote xs at (stamp_text D o r) ys n
    → D ≤ 8
    → at + 68 + k ≤ length xs
    → n + k ≤ length ys
stamp_room D o k r w few fit = omega (arith, wrote_length w, pairs_length D r)

abbrev pub Fits : Value → Type 0
Fits v = (D : ℕ) → D ≤ 8 → length (answer_text D (accepted v)) ≤ longest

-- a text, and behind it a slot and the end of the line
closed : (s : List ℕ) (o : Option ℕ) → length s ≤ 75 → length (then s field o ++ (10 ∷ [])) ≤ longest
closed s none h = simp length-append (omega arith)
closed s (some v) h = simp length-append (omega arith)

pub stamped_fits : (o : ℕ) (r : Row) (k : Option ℕ) → Fits (made none o r none k)
stamped_fits o r k D h = closed (three 0 ++ stamp_text D o r) k (omega (arith, pairs_length D r))

pub received_fits : (o : ℕ) (r : Row) (l : ℕ) (k : Option ℕ) → Fits (made none o r (some l) k)
received_fits o r l k D h =
    closed (three 0 ++ stamp_text D o r ++ field l) k (simp length-append (omega (arith, pairs_length D r)))

pub sent_fits : (p o : ℕ) (r : Row) (k : Option ℕ) → Fits (made (some p) o r none k)
sent_fits p o r k D h = closed (three 0 ++ field p ++ stamp_text D o r) k (omega (arith, pairs_length D r))
