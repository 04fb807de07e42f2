-- On the book and off it: for two kept stamps of one run, when the book accepts, both answers agree, before and compare alike.
-- And what demand 3 says of an answer fixes it: two answers that it allows are equal.
-- Assumes nothing.
use mathlib.Core.Path.{◌≡◌, refl, ap, sym, ◌∙◌}
use mathlib.Core.Bool.{Bool, true, false, false≢true}
use mathlib.Core.Option.{some}
use mathlib.Core.List.{List}
use mathlib.Core.Logic.{◌↔◌}
use Prim.Native.Nat.{ℕ}
use native.Mathlib.Omega.{arith}
use Rattle.tools.proofs.Tests.{alike}
use Rattle.rules.specs.declared.Relation.{Relation}
use Rattle.rules.specs.declared.Relation.TheVariants.{Before, After, Same, Concurrent, Crossed}
use Rattle.rules.specs.Setups.{Setup, permits}
use Rattle.rules.specs.Model.{Held, before, compare, used, Answer, says, relates}
use Rattle.rules.specs.Calls.{Book, Call, on, fresh_book, ring_of, call}
use Rattle.rules.specs.Labels.{before_off, compare_off}
use Rattle.history.specs.Round.{round_book}
use Rattle.history.specs.History.{Log, Leads, State, begin, after, setup_after}
use Rattle.history.specs.Runs.{left}
use Rattle.history.specs.Stamps.{label_held}
use Rattle.history.specs.Demand.{InReach, Stands, BeforeSaid, BeforeIs, CompareSaid, CompareIs}
use Rattle.history.proofs.Causal.{Causal, leads_lt}
use Rattle.history.proofs.Runs.{Faithful, faithful_run}
use Rattle.history.proofs.Alike.{ring_book}
use Rattle.history.proofs.Shelf.{both_dec, in_reach?, state_before, state_compare}
use Rattle.history.proofs.Stamps.{slot_stamp}
use Rattle.history.proofs.Labels.{state_off_before, state_off_compare}

same_word : (t u : Bool) {A : Type 0} → (t ≡ true) ↔ A → (u ≡ true) ↔ A → t ≡ u
same_word t u p q = alike t u (λ e. q.1 (p.0 e)) (λ e. back u refl e)
  where
    back : (v : Bool) → u ≡ v → t ≡ false → u ≡ false
    back false z e = z
    back true z e = absurd (false≢true (sym e ∙ p.1 (q.0 z)))

pub one_before : (h : Log) (x y : ℕ) (a c : Answer) → BeforeSaid h x y a → BeforeSaid h x y c → a ≡ c
one_before h x y a c p q =
    λ i. record {
      number = (p.1 ∙ sym q.1) i;
      value = (p.2 ∙ ap says (same_word p.0 q.0 p.3 q.3) ∙ sym q.2) i;
    }

module _ (X : Setup) (h : Log) (c : Causal X h) (x y : ℕ) where
  no_loop : Leads h x y → Leads h y x → ⊥
  no_loop l m = let v = leads_lt h c.caused l in let w = leads_lt h c.caused m in omega arith

  not_same : Leads h x y → x ≡ y → ⊥
  not_same l q = let v = leads_lt h c.caused l in omega arith

  not_same' : Leads h y x → x ≡ y → ⊥
  not_same' l q = let v = leads_lt h c.caused l in omega arith

  one_word : (r r' : Relation) → Stands h x y r → Stands h x y r' → r ≡ r'
  one_word Before Before p q = refl
  one_word Before After p q = absurd (no_loop p q)
  one_word Before Same p q = absurd (not_same p q)
  one_word Before Concurrent p q = absurd (q.0 p)
  one_word Before Crossed p q = absurd q
  one_word After Before p q = absurd (no_loop q p)
  one_word After After p q = refl
  one_word After Same p q = absurd (not_same' p q)
  one_word After Concurrent p q = absurd (q.1 p)
  one_word After Crossed p q = absurd q
  one_word Same Before p q = absurd (not_same q p)
  one_word Same After p q = absurd (not_same' q p)
  one_word Same Same p q = refl
  one_word Same Concurrent p q = absurd (q.2 p)
  one_word Same Crossed p q = absurd q
  one_word Concurrent Before p q = absurd (p.0 q)
  one_word Concurrent After p q = absurd (p.1 q)
  one_word Concurrent Same p q = absurd (p.2 q)
  one_word Concurrent Concurrent p q = refl
  one_word Concurrent Crossed p q = absurd q
  one_word Crossed r p q = absurd p

  pub one_compare : (a c : Answer) → CompareSaid h x y a → CompareSaid h x y c → a ≡ c
  one_compare a c p q =
      λ i. record {
        number = (p.1 ∙ sym q.1) i;
        value = (p.2 ∙ ap relates (one_word p.0 q.0 p.3 q.3) ∙ sym q.2) i;
      }

-- in a faithful state, two used slots of the ring's book
module _ (s : State) (w : Faithful s) (i j : ℕ) (e f : Held)
    (pe : (round_book s.book).tables.shelf i ≡ some e) (pf : (round_book s.book).tables.shelf j ≡ some f) where
  abbrev X : Setup
  X = s.book.setup

  abbrev h : Log
  h = s.history.log

  abbrev x : ℕ
  x = s.history.kept i

  abbrev y : ℕ
  y = s.history.kept j

  pub state_agree_before : (call ring_of (round_book s.book) (on (before i j))).answer.number ≡ 0
      → before_off X (some (label_held e)) (some (label_held f)) ≡ (call ring_of (round_book s.book) (on (before i j))).answer
  state_agree_before z = go (in_reach? X h x y)
    where
      told : BeforeIs X h x y (call ring_of (round_book s.book) (on (before i j))).answer
      told = state_before s w i j (ap used pe) (ap used pf)

      go : Dec (InReach X h x y)
          → before_off X (some (label_held e)) (some (label_held f)) ≡ (call ring_of (round_book s.book) (on (before i j))).answer
      go (no n) = absurd (let y = told.out.1 n in omega arith)
      go (yes r) =
          one_before h x y _ _
          (state_off_before s w x y (label_held e) (label_held f) (slot_stamp s w i e pe) (slot_stamp s w j f pf) r) (told.said r)

  pub state_agree_compare : (call ring_of (round_book s.book) (on (compare i j))).answer.number ≡ 0
      → compare_off X (some (label_held e)) (some (label_held f)) ≡ (call ring_of (round_book s.book) (on (compare i j))).answer
  state_agree_compare z = go (both_dec (in_reach? X h x y) (in_reach? X h y x))
    where
      told : CompareIs X h x y (call ring_of (round_book s.book) (on (compare i j))).answer
      told = state_compare s w i j (ap used pe) (ap used pf)

      go : Dec (InReach X h x y × InReach X h y x)
          → compare_off X (some (label_held e)) (some (label_held f)) ≡ (call ring_of (round_book s.book) (on (compare i j))).answer
      go (no n) = absurd (let y = told.out.1 n in omega arith)
      go (yes (r, r')) =
          let oe = slot_stamp s w i e pe in
          let of = slot_stamp s w j f pf in
          one_compare X h w.good.causal x y _ _
          (state_off_compare s w x y (label_held e) (label_held f) oe of r r') (told.said r r')

-- after any calls from a fresh book on
module _ (X : Setup) (fair : permits X ≡ true) (cs : List Call) (i j : ℕ) (e f : Held)
    (pe : (left ring_of (fresh_book X) cs).tables.shelf i ≡ some e) (pf : (left ring_of (fresh_book X) cs).tables.shelf j ≡ some f) where
  slot_is : (k : ℕ) (m : Held) → (left ring_of (fresh_book X) cs).tables.shelf k ≡ some m
      → (round_book (after (begin X) cs).book).tables.shelf k ≡ some m
  slot_is k m p = ap (λ (b : Book). b.tables.shelf k) (sym (ring_book X fair cs)) ∙ p

  pub agree_before : (call ring_of (left ring_of (fresh_book X) cs) (on (before i j))).answer.number ≡ 0
      → before_off (setup_after X cs) (some (label_held e)) (some (label_held f))
      ≡ (call ring_of (left ring_of (fresh_book X) cs) (on (before i j))).answer
  agree_before =
      rw (ring_book X fair cs) (state_agree_before _ (faithful_run X fair cs) i j e f (slot_is i e pe) (slot_is j f pf))

  pub agree_compare : (call ring_of (left ring_of (fresh_book X) cs) (on (compare i j))).answer.number ≡ 0
      → compare_off (setup_after X cs) (some (label_held e)) (some (label_held f))
      ≡ (call ring_of (left ring_of (fresh_book X) cs) (on (compare i j))).answer
  agree_compare =
      rw (ring_book X fair cs) (state_agree_compare _ (faithful_run X fair cs) i j e f (slot_is i e pe) (slot_is j f pf))
