-- What a picture is answered, of D used slots.
-- Assumes nothing.
--   list_ready      such a list is ready
--   out_answered, wrong_answered   OutOfReach; WrongOwner, where no two are out of reach
--   pair_answered   else yes, or the first two desks at odds
use Prim.Native.Nat.{ℕ}
use mathlib.Core.Path.{◌≡◌, refl, sym, ◌∙◌}
use mathlib.Core.Bool.{Bool, true, false, not, ◌||◌}
use mathlib.Core.List.{List}
use native.Mathlib.Omega.{arith}
use lib.Dec.{ltb, eqb}
use lib.ListN.{length}
use Rattle.tools.specs.Tests.{pick, any, lowest}
use Rattle.rules.specs.Model.{picture, says, names, refusal, accepted, no_slot, chosen, first_odd, second_odd, pictured, wrong_owner}
use Rattle.rules.specs.Model.{reasons, ask_reasons, ask_tells, done}
use Rattle.rules.specs.Calls.{on, ring_of}
use Rattle.book.specs.Layout.{setup_of}
use Rattle.book.specs.Answers.{answer_to}
use Rattle.book.specs.Numbers.{tables_of, number_of}
use Rattle.book.proofs.Told.{few_desks}
use Rattle.book.proofs.Numbers.{refused_answer, accepted_answer}
use Rattle.refusals.specs.First.{list_number}
use Rattle.refusals.proofs.First.{asked_clear}
use Rattle.refusals.proofs.Slots.{list_used}
use Rattle.std.specs.Prelude.{Some, None}
use Rattle.rules.specs.Replies.{odds_value}
use Rattle.pictures.specs.Froms.{Ready}
use Rattle.pictures.specs.Pairs.{far, odd, found}

module _ (s l : List ℕ) (e : list_number s l ≡ 0) where
  pub list_ready : Ready s l
  list_ready =
      let u = list_used s l e in
      record { whole = u.whole; few = omega (arith, few_desks s u.whole, u.count); used = u.used }

  -- the number, by whether two are out of reach and whether an owner is wrong
  number_is : (f w : Bool) → any (length l) (λ i. any (length l) (far s l i)) ≡ f → any (length l) (wrong_owner (tables_of s) l) ≡ w
      → pick f 16 (pick w 18 0) ≡ number_of s (picture l)
  unfolding reasons ask_reasons
  number_is f w p q =
      let c = asked_clear s
      (not (eqb (length l) (setup_of s).desks) || any (length l) (λ i. no_slot (tables_of s) (chosen l i))) 4 e in
      sym (λ x. pick (c.0 x) (pick (c.1 x) 5 (pick (p x) 16 (pick (q x) 18 0))) 1)

  pub out_answered : any (length l) (λ i. any (length l) (far s l i)) ≡ true → refusal 16 ≡ answer_to s (on (picture l))
  out_answered p = refused_answer s (picture l) 16 (number_is true _ p refl) (λ z. omega arith)

  module _ (p : any (length l) (λ i. any (length l) (far s l i)) ≡ false) where
    pub wrong_answered : any (length l) (wrong_owner (tables_of s) l) ≡ true → refusal 18 ≡ answer_to s (on (picture l))
    wrong_answered q = refused_answer s (picture l) 18 (number_is false true p q) (λ z. omega arith)

    module _ (q : any (length l) (wrong_owner (tables_of s) l) ≡ false) where
      answered : accepted (pictured (ring_of (setup_of s)) (tables_of s) l) ≡ answer_to s (on (picture l))
      unfolding done ask_tells
      answered = accepted_answer s (picture l) (sym (number_is false false p q))

      pub pair_answered : accepted (odds_value (found (length l) (λ i. any (length l) (odd s l i))
          (λ i. record { lower = i; higher = lowest (length l) (odd s l i) }))) ≡ answer_to s (on (picture l))
      unfolding pictured
      pair_answered = go (ltb first (length l)) ∙ answered
        where
          first : ℕ
          first = first_odd (ring_of (setup_of s)) (tables_of s) l

          second : ℕ
          second = second_odd (ring_of (setup_of s)) (tables_of s) l

          go : (t : Bool) → accepted (odds_value (pick t (Some record { lower = first; higher = second }) None))
              ≡ accepted (pick t (names first second) (says true))
          go true = refl
          go false = refl
