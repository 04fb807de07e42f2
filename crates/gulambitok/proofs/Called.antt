-- What a call through the C interface answers, and leaves of the book, of the papers beside it and of the buffers lent to it. Questions,
-- drop and discard are proved by `search called` from the contracts of what they call, whatever their names.
-- Assumes nothing.
use Prim.Native.Nat.{ℕ, ◌<◌, ◌≤◌}
use mathlib.Core.Path.{◌≡◌, refl, sym, ap, ◌∙◌, subst}
use mathlib.Core.Bool.{Bool, true, false, ◌||◌}
use mathlib.Core.List.{List, [], ◌∷◌}
use native.Mathlib.Omega.{arith}
use borrow.Author.Tests.{lt-ltb, le-ltb, ltb-false}
use lib.Dec.{ltb, lit≤}
use lib.ListN.{length}
use Rattle.tools.specs.Tests.{pick}
use Rattle.tools.specs.Lists.{byte, listed}
use Rattle.tools.proofs.Tests.{or_false_l, or_false_r}
use Rattle.tools.proofs.Lists.{length_tab}
use Rattle.std.specs.Prelude.{Result, Ok, Err, IfOk}
use Rattle.std.specs.Prelude as Std
use Rattle.rules.specs.Setups.{Setup}
use Rattle.rules.specs.declared.Refusal.{Refusal}
use Rattle.rules.specs.Model.{Tables, Act, show, Value, nothing, Answer, refusal, accepted, slot_for, done, ask_tells}
use Rattle.rules.specs.Calls.{on}
use Rattle.rules.specs.Replies.{number_in, answer_by, done_value, done_says, row_bytes, slot_in}
use Rattle.book.specs.Stamps.{filled}
use Rattle.book.specs.Answers.{answer_to, part_in, part_of}
use Rattle.book.specs.Numbers.{tables_of, number_of}
use Rattle.book.proofs.Numbers.{done_on, answer_number, accepted_answer, refused_answer}
use Rattle.refusals.specs.Grants.{granted_by, grant_of}
use Rattle.office.proofs.Filed.{says_number, granted_number}
use Rattle.door.specs.Door.{one, Lent, lent, slot_to, row_to, record_to, stamp_to, short, or_no_room, cramped}
use Rattle.door.specs.Door.{Fills, Gets, Gives, Leaves}
use Rattle.door.proofs.Given.{fills_none, lending, no_room, has_room}

-- the same setup
pub by_setup : {A : Type 0} (f : Setup → A) (X Y : Setup) → X ≡ Y → (a : A) → a ≡ f X → a ≡ f Y
by_setup f X Y q a h = h ∙ ap f q

-- the same answer
pub answered : (a b : Answer) (ls : List Lent) (r : ℕ) → a ≡ b → Gives a ls r → Gives b ls r
answered a b ls r e g = rw e at g

-- the number alone, since one of the buffers is too short; or the call's own refusal, though all are long enough
module _ (c : Act) (s : List ℕ) (ls : List Lent) {B : Type 0} (g : Result B Refusal) (n : ℕ) (e : n ≡ number_in g)
    (m : number_in g ≡ number_of s c) where
  pub number_only : short ls ≡ true → (r : ℕ) → r ≡ (cramped true (refusal n)).number → Fills ls nothing
      → Gives (answer_to s (on c)) ls r
  number_only q r h k = no_room ls _ r q (h ∙ ap or_no_room (e ∙ m ∙ sym (answer_number s c))) k

  pub refused_all : short ls ≡ false → (n ≡ 0 → ⊥) → Fills ls nothing → Gives (answer_to s (on c)) ls n
  refused_all q ne k =
      subst (λ (a : Answer). Gives a ls n) (refused_answer s c n (e ∙ m) ne) (has_room ls (refusal n) n q refl k)

-- a call that is answered a and turns x into y, whatever they are: the book, or the book and the papers
module _ {A : Type 0} (a : Answer) (x y : A) (r : ℕ) where
  -- no buffer is lent
  pub bare : (g : Result (Unit {0}) Refusal) → done_says g ≡ a → r ≡ number_in g → (x' : A) → x' ≡ y → Leaves a x y x' [] r
  bare g e k x' h =
      record { answer = record { number = k ∙ says_number done_value g a e; buffers = fills_none _ }; left = h }

  module _ (ls : List Lent) where
    -- one is too short: the number alone
    left_alone : short ls ≡ true → (n : ℕ) → r ≡ (cramped true (refusal n)).number → or_no_room n ≡ or_no_room a.number
        → Fills ls nothing → Leaves a x y x ls r
    left_alone q n h m k = record { answer = no_room ls a r q (h ∙ m) k; left = rw q }

    -- all have room
    made : short ls ≡ false → Gets a ls r → (x' : A) → x' ≡ y → Leaves a x y x' ls r
    made q g x' h = record { answer = rw q g; left = rw q h }

-- the slot of an event, which is there where it is kept, fits into a buffer that has room for it
slot_fits : (k : Std.Option ℕ) (t : Tables) (q : Bool) → slot_in k ≡ slot_for t q → (n : ℕ) → ltb n (pick q 1 0) ≡ false
    → length (listed one (slot_in k)) ≤ n
slot_fits k t true e n l = rw e (ltb-false n 1 l)
slot_fits k t false e n l = rw e (omega arith)

-- an event on the book: the number that it is granted, and the slot that it is answered
module _ (c : Act) (s : List ℕ) (q : Bool) where
  pub granted : (n : ℕ) (g : Result (Std.Option ℕ) Refusal) → n ≡ number_in g → granted_by g ≡ grant_of s c q
      → or_no_room n ≡ or_no_room (answer_to s (on c)).number
  granted n g e h = ap or_no_room (e ∙ granted_number s c q g h)

  pub slot_said : (done_on s c).answer.value.slot ≡ slot_for (tables_of s) q
      → (answer_to s (on c)).number ≡ 0 → (answer_to s (on c)).value.slot ≡ slot_for (tables_of s) q
  slot_said v z = ap (λ (a : Answer). a.value.slot) (sym (accepted_answer s c (sym (answer_number s c) ∙ z))) ∙ v

-- an event with the wish q, the book s and the buffers t and u for its stamp and slot, and maybe p for a byte f of its value; o tells
-- whether the slot's is too short
module _ (s : List ℕ) (q : Bool) (t u : List ℕ) (o : Bool) (eo : o ≡ ltb (length u) (pick q 1 0)) where
  -- the slot that it is answered
  module _ (a : Answer) (v : a.number ≡ 0 → a.value.slot ≡ slot_for (tables_of s) q) where
    said : (b : Answer) → b ≡ a → b.number ≡ 0 → b.value.slot ≡ slot_for (tables_of s) q
    said b e z = ap (λ (a : Answer). a.value.slot) e ∙ v (ap (λ (a : Answer). a.number) (sym e) ∙ z)

    -- fits into its buffer; the slot in the answer x is k x
    pub event_fits : {B : Type 0} (w : B → Value) (k : B → Std.Option ℕ) → ((x : B) → (w x).slot ≡ slot_in (k x))
        → (r : Result B Refusal) → answer_by w r ≡ a → o ≡ false
        → IfOk r (λ x. length (listed one (slot_in (k x))) ≤ length u)
    event_fits w k h (Ok x) e l =
        slot_fits (k x) (tables_of s) q (sym (h x) ∙ said (accepted (w x)) e refl) (length u) (sym eo ∙ l)
    event_fits w k h (Err r) e l = tt

  -- the test of the lengths, told by the slot's own
  tested : (a b z : Bool) → ((o || a) || b) ≡ z → ((ltb (length u) (pick q 1 0) || a) || b) ≡ z
  tested a b z h = ap (λ (o : Bool). (o || a) || b) (sym eo) ∙ h

  tested_two : (b z : Bool) → (o || b) ≡ z → (ltb (length u) (pick q 1 0) || b) ≡ z
  tested_two b z h = ap (λ (o : Bool). o || b) (sym eo) ∙ h

  module _ {A : Type 0} (a : Answer) (x y : A) where
    -- one of the buffers is too short: the number alone, by what the event is granted
    module _ (n : ℕ) (e : or_no_room n ≡ or_no_room a.number) (r : ℕ) (h : r ≡ (cramped true (refusal n)).number) where
      pub event_short : (o || ltb (length t) 20) ≡ true → Leaves a x y x (stamp_to s t t ∷ slot_to q u u ∷ []) r
      event_short l = left_alone a x y r _ (tested_two (ltb (length t) 20) true l) n h e (search lending)

      pub with_byte_short : (f : Value → List ℕ) → f nothing ≡ [] → (p : List ℕ)
          → ((o || ltb (length p) 1) || ltb (length t) 20) ≡ true
          → Leaves a x y x (stamp_to s t t ∷ lent 1 f p p ∷ slot_to q u u ∷ []) r
      with_byte_short f empty p l =
          left_alone a x y r _ (tested (ltb (length p) 1) (ltb (length t) 20) true l) n h e (search lending)

    -- all have room: the event is made
    module _ (b : Answer) (e : b ≡ a) (x' : A) (ex : x' ≡ y) (D : ℕ) (d : D ≡ byte s 2) (l k : List ℕ) (r : ℕ) where
      pub event_makes : (o || ltb (length t) 20) ≡ false → Gets b (record_to D t l ∷ slot_to true u k ∷ []) r
          → Leaves a x y x' (stamp_to s t l ∷ slot_to q u k ∷ []) r
      unfolding Fills
      event_makes z g =
          made a x y r _ (tested_two (ltb (length t) 20) false z)
          (subst (λ (a : Answer). Gets a (stamp_to s t l ∷ slot_to q u k ∷ []) r) e
          (subst (λ (D : ℕ). Gets b (record_to D t l ∷ slot_to q u k ∷ []) r) d (record { number = g.number; buffers = g.buffers })))
          x' ex

      pub with_byte_makes : (f : Value → List ℕ) (p m : List ℕ) → ((o || ltb (length p) 1) || ltb (length t) 20) ≡ false
          → Gets b (record_to D t l ∷ lent 1 f p m ∷ slot_to true u k ∷ []) r
          → Leaves a x y x' (stamp_to s t l ∷ lent 1 f p m ∷ slot_to q u k ∷ []) r
      unfolding Fills
      with_byte_makes f p m z g =
          made a x y r _ (tested (ltb (length p) 1) (ltb (length t) 20) false z)
          (subst (λ (a : Answer). Gets a (stamp_to s t l ∷ lent 1 f p m ∷ slot_to q u k ∷ []) r) e
          (subst (λ (D : ℕ). Gets b (record_to D t l ∷ lent 1 f p m ∷ slot_to q u k ∷ []) r) d
          (record { number = g.number; buffers = g.buffers })))
          x' ex

-- a buffer's length, by a test of it: less than is needed, and no less
pub too_few : (a b n : ℕ) → a < b → b ≤ n → ltb a n ≡ true
too_few a b n l m = lt-ltb a n (omega arith)

pub enough : (a b n : ℕ) → b ≤ a → n ≤ b → ltb a n ≡ false
enough a b n l m = le-ltb a n (omega arith)

pub first_enough : (t : Bool) (b n : ℕ) → (t || ltb b n) ≡ false → t ≡ false
first_enough t b n e = or_false_l t (ltb b n) e

pub last_enough : (t : Bool) (b n : ℕ) → (t || ltb b n) ≡ false → n ≤ b
last_enough t b n e = ltb-false b n (or_false_r t (ltb b n) e)

-- show: sixteen bytes where it is accepted
module _ (s : List ℕ) (i : ℕ) (g : Result (Unit {0}) Refusal) (n : ℕ) (d : n ≡ number_in g)
    (h : number_in g ≡ number_of s (show i)) (z : n ≡ 0) where
  part_size : length (part_of s i) ≡ 16
  unfolding done ask_tells row_bytes
  part_size = sym (ap (λ (a : Answer). length (part_in a.value)) (accepted_answer s (show i) (sym h ∙ sym d ∙ z))) ∙ length_tab 0 16 _

  pub part_fits : (t p : List ℕ) → 16 ≤ length t → p ≡ part_of s i → length p ≤ length t
  part_fits t p m e = omega (arith, m, ap length e ∙ part_size)

  pub shown : (t l p : List ℕ) → 16 ≤ length t → p ≡ part_of s i → l ≡ filled t p
      → Gives (answer_to s (on (show i))) (row_to t l ∷ []) 0
  shown t l p m e g =
      let k = g ∙ ap (filled t) e in
      has_room _ _ 0 (le-ltb (length t) 16 m) (sym z ∙ d ∙ h ∙ sym (answer_number s (show i))) (search lending)

pub ruleset rooms = (too_few, enough, lit≤)

pub ruleset shows = (part_fits, shown)

pub ruleset called = (rooms, shows, answered, bare, number_only, refused_all, lending)
