-- Answers as numbers, and as bytes in lent buffers, whether they have room or not. Each function that gives one is proved by
-- `search gave` from the contracts of what it calls.
-- Assumes nothing.
use Prim.Native.Nat.{ℕ, ◌<◌, ◌≤◌}
use mathlib.Core.Path.{◌≡◌, refl, sym, ap, ◌∙◌, subst}
use mathlib.Core.Bool.{Bool, true, false, ◌&&◌, ◌||◌, true≢false}
use mathlib.Core.List.{List, [], ◌∷◌}
use borrow.Author.Tests.{lt-ltb, le-ltb, ltb-false}
use lib.Dec.{eqb, ltb}
use lib.ListN.{length}
use native.Mathlib.Omega.{arith}
use Rattle.tools.specs.Tests.{pick}
use Rattle.tools.specs.Lists.{listed}
use Rattle.tools.proofs.Tests.{or_false_l, or_false_r}
use Rattle.std.specs.Prelude.{Result, Ok, Err, Some, None, cond}
use Rattle.std.specs.Prelude as Std
use Rattle.rules.specs.declared.Stamp.{Stamp}
use Rattle.rules.specs.declared.Refusal.{Refusal}
use Rattle.rules.specs.declared.Relation.{Relation}
use Rattle.rules.specs.Labels.{newer}
use Rattle.rules.specs.Numbers.{number}
use Rattle.rules.specs.Model.{Odds, Value, nothing, says, relates, names, Answer, refusal, accepted}
use Rattle.rules.specs.Replies.{number_in, answer_by, row_of, slot_in, reset_value, pictured_says}
use Rattle.book.specs.Stamps.{write_stamp, filled}
use Rattle.parts.proofs.Lent.{filled_none}
use Rattle.door.specs.Door.{relation_byte, which_byte, byte_in, which_in, foretold_in}
use Rattle.door.specs.Door.{one, Lent, lent, byte_to, odds_to, short, or_no_room, cramped}
use Rattle.door.specs.Door.{Fills, Gets, Gives, GivesByte}

-- the number with NoRoom as one more reason
pub room_lacks : (q : Bool) (n : ℕ) → (q && (eqb n 0 || ltb 15 n)) ≡ true → 15 ≡ (cramped q (refusal n)).number
unfolding or_no_room
room_lacks true n e = rw (or_no_room, e)
room_lacks false n e = absurd (true≢false (sym e))

pub room_enough : (q : Bool) (n : ℕ) → (q && (eqb n 0 || ltb 15 n)) ≡ false → n ≡ (cramped q (refusal n)).number
unfolding or_no_room
room_enough true n e = rw (or_no_room, e)
room_enough false n e = refl

-- the lent buffers, one by one: with a value's bytes in front, and as they were, which is with none
pub fills_none : (v : Value) → Fills [] v
unfolding Fills
fills_none v = tt

module _ (n : ℕ) (f : Value → List ℕ) (t : List ℕ) (ls : List Lent) where
  pub fills : (l : List ℕ) (v : Value) → l ≡ filled t (f v) → Fills ls v → Fills (lent n f t l ∷ ls) v
  unfolding Fills
  fills l v e k = (e, k)

  pub still : f nothing ≡ [] → Fills ls nothing → Fills (lent n f t t ∷ ls) nothing
  still e k = fills t nothing (sym (ap (filled t) e ∙ filled_none t)) k

pub ruleset lending = (fills_none, fills, still)

module _ (ls : List Lent) (a : Answer) (r : ℕ) where
  -- one of the buffers is too short, and all are as they were
  pub no_room : short ls ≡ true → r ≡ or_no_room a.number → Fills ls nothing → Gives a ls r
  no_room q h k = record { number = rw q h; buffers = rw q k }

  -- all are long enough
  pub has_room : short ls ≡ false → r ≡ a.number → Fills ls a.value → Gives a ls r
  has_room q h k = record { number = rw q h; buffers = rw q k }

  -- a refusal, whether they are or not
  pub refused : (n : ℕ) → a ≡ refusal n → r ≡ (cramped (short ls) (refusal n)).number → Fills ls nothing → Gives a ls r
  refused n e h k = subst (λ (b : Answer). Gives b ls r) (sym e) (record { number = h; buffers = go (short ls) })
    where
      go : (q : Bool) → Fills ls (cramped q (refusal n)).value
      go true = k
      go false = k

-- one byte, in a buffer that has none and in one that has some
pub byte_short : (t : List ℕ) (u : ℕ) → length t < 1 → GivesByte u t t 15
unfolding or_no_room
byte_short t u l f v z e =
    no_room (lent 1 f t t ∷ []) (accepted v) 15 (lt-ltb (length t) 1 l) refl (still 1 f t [] z (fills_none nothing))

pub byte_given : (t : List ℕ) (u : ℕ) (l : List ℕ) → 1 ≤ length t → l ≡ filled t (u ∷ []) → GivesByte u t l 0
byte_given t u l m g f v z e =
    has_room (lent 1 f t l ∷ []) (accepted v) 0 (le-ltb (length t) 1 m) refl
    (fills 1 f t [] l v (g ∙ ap (filled t) (sym e)) (fills_none v))

-- a value whose bytes f are that one
pub byte_as : (f : Value → List ℕ) → f nothing ≡ [] → (t l : List ℕ) (r : ℕ) (v : Value) (a : Answer) → a ≡ accepted v
    → (u : ℕ) → GivesByte u t l r → u ∷ [] ≡ f v → Gives a (lent 1 f t l ∷ []) r
byte_as f none t l r v a e u g x = subst (λ (b : Answer). Gives b (lent 1 f t l ∷ []) r) (sym e) (g f v none (sym x))

-- the record of a stamp
abbrev record_of : ℕ → Stamp → List ℕ
record_of D x = write_stamp D (record { owner = x.owner; row = row_of x.row })

-- an answer whose value v gives bytes by f: refused, and accepted with the one byte n
module _ {A : Type 0} (v : A → Value) (f : Value → List ℕ) (none : f nothing ≡ []) (a : Result A Refusal) (t l : List ℕ) (r : ℕ) where
  pub gives_refusal : (w : Refusal) → a ≡ Err w → l ≡ t → r ≡ (cramped (ltb (length t) 1) (refusal (number w))).number
      → Gives (answer_by v a) (lent 1 f t l ∷ []) r
  gives_refusal w e q h =
      subst (λ (l : List ℕ). Gives (answer_by v a) (lent 1 f t l ∷ []) r) (sym q)
      (refused (lent 1 f t t ∷ []) (answer_by v a) r (number w) (ap (answer_by v) e) h (still 1 f t [] none (fills_none nothing)))

  pub gives_value : (x : A) (n : ℕ) → a ≡ Ok x → GivesByte n t l r → f (v x) ≡ one n
      → Gives (answer_by v a) (lent 1 f t l ∷ []) r
  gives_value x n e g h = byte_as f none t l r (v x) (answer_by v a) (ap (answer_by v) e) n g (sym h)

-- the one byte of a value, by its case
pub told_byte : (x : Bool) (n : ℕ) → n ≡ cond x 1 0 → byte_in (says x) ≡ one n
told_byte true n e = sym (ap one e)
told_byte false n e = sym (ap one e)

pub relation_told : (x : Relation) (n : ℕ) → n ≡ relation_byte x → byte_in (relates x) ≡ one n
relation_told x n e = sym (ap one e)

pub newest_told : (x : Relation) (n : ℕ) → n ≡ which_byte (newer x) → which_in (relates x) ≡ one n
newest_told x n e = sym (ap one e)

-- the number that a reset would be refused with, 0 for none
abbrev pub reset_byte : Std.Option Refusal → ℕ
reset_byte None = 0
reset_byte (Some w) = number w

pub reset_told : (x : Std.Option Refusal) (n : ℕ) → n ≡ reset_byte x → foretold_in (reset_value x) ≡ one n
reset_told None n e = sym (ap one e)
reset_told (Some w) n e = sym (ap one e)

-- the number that an answer says
pub number_said : {A : Type 0} (v : A → Value) (a : Result A Refusal) → number_in a ≡ (answer_by v a).number
number_said v (Ok x) = refl
number_said v (Err w) = refl

-- a refused answer, whatever its buffers, which are as they were
pub gets_refusal : {A : Type 0} (v : A → Value) (a : Result A Refusal) (w : Refusal) → a ≡ Err w → (ls : List Lent) → Fills ls nothing
    → Gets (answer_by v a) ls (number w)
gets_refusal v a w e ls k = rw e (record { number = refl; buffers = k })

-- an accepted one
pub gets_value : {A : Type 0} (v : A → Value) (a : Result A Refusal) (x : A) → a ≡ Ok x → (ls : List Lent) → Fills ls (v x)
    → Gets (answer_by v a) ls 0
gets_value v a x e ls k = rw e (record { number = refl; buffers = k })

-- a record of the stamp x, of so many desks
pub stamp_given : (D : ℕ) (x : Stamp) (t w l : List ℕ) → w ≡ record_of D x → l ≡ filled t w → l ≡ filled t (record_of D x)
stamp_given D x t w l e g = g ∙ ap (filled t) e

-- a slot, by its case
pub no_slot_lem : (k : Std.Option ℕ) (u : List ℕ) → k ≡ None → u ≡ filled u (listed one (slot_in k))
no_slot_lem k u e = sym (ap (λ k. filled u (listed one (slot_in k))) e ∙ filled_none u)

pub in_slot_lem : (k : Std.Option ℕ) (s : ℕ) (u l : List ℕ) → k ≡ Some s → l ≡ filled u (s ∷ [])
    → l ≡ filled u (listed one (slot_in k))
in_slot_lem k s u l e g = g ∙ sym (ap (λ k. filled u (listed one (slot_in k))) e)

pub slot_room : (k : Std.Option ℕ) (s : ℕ) (u : List ℕ) → k ≡ Some s → length (listed one (slot_in k)) ≤ length u → 1 ≤ length u
slot_room k s u e l = rw e at l

-- a slot that is kept needs a byte
pub short_slot : (q : Bool) (n : ℕ) → (q && ltb n 1) ≡ ltb n (pick q 1 0)
short_slot true n = refl
short_slot false n = sym (le-ltb n 0 (omega arith))

-- picture, in a buffer for the answer and one for the two desks at odds
module _ (x : Result (Std.Option Odds) Refusal) (t p : List ℕ) where
  pub picture_short : (ltb (length p) 2 || ltb (length t) 1) ≡ true → (n : ℕ) → n ≡ (pictured_says x).number
      → (r : ℕ) → r ≡ (cramped true (refusal n)).number → Gives (pictured_says x) (byte_to t t ∷ odds_to p p ∷ []) r
  picture_short q n e r h = no_room _ (pictured_says x) r q (h ∙ ap or_no_room e) (search lending)

  module _ (q : (ltb (length p) 2 || ltb (length t) 1) ≡ false) where
    pub picture_refused : (w : Refusal) → x ≡ Err w → Gives (pictured_says x) (byte_to t t ∷ odds_to p p ∷ []) (number w)
    picture_refused w e = rw e (has_room _ (refusal (number w)) (number w) q refl (search lending))

    pub picture_yes : x ≡ Ok None → (l : List ℕ) → l ≡ filled t (1 ∷ [])
        → Gives (pictured_says x) (byte_to t l ∷ odds_to p p ∷ []) 0
    picture_yes e l g =
        let k = sym (filled_none p) in
        rw e (has_room _ (accepted (says true)) 0 q refl (search lending))

    pub picture_odds : (d : Odds) → x ≡ Ok (Some d) → (l o : List ℕ) → l ≡ filled t (0 ∷ [])
        → o ≡ filled p (d.lower ∷ d.higher ∷ [])
        → Gives (pictured_says x) (byte_to t l ∷ odds_to p o ∷ []) 0
    picture_odds d e l o g h = rw e (has_room _ (accepted (names d.lower d.higher)) 0 q refl (search lending))

    -- each buffer has its room
    pub answer_room : 1 ≤ length t
    answer_room = ltb-false (length t) 1 (or_false_r (ltb (length p) 2) _ q)

    pub odds_room : 2 ≤ length p
    odds_room = ltb-false (length p) 2 (or_false_l (ltb (length p) 2) _ q)

pub ruleset slots = (no_slot_lem, in_slot_lem, slot_room)

pub ruleset pictures = (picture_short, picture_refused, picture_yes, picture_odds, answer_room, odds_room)

pub ruleset gave = (slots, pictures, room_lacks, room_enough, byte_short, byte_given, stamp_given, lending)
