-- What the office adds to the laws of calls on the book: its answer where a buffer is too short, and where it is accepted.
-- Assumes nothing.
use Prim.Native.Nat.{ℕ, zero, suc, ◌<◌, ◌≤◌}
use mathlib.Core.Path.{◌≡◌, refl, sym, ap, ◌∙◌}
use mathlib.Core.Bool.{Bool, true, false}
use mathlib.Core.List.{List, [], ◌∷◌}
use native.Mathlib.Omega.{arith}
use borrow.Author.Tests.{ne_eqb, lt-ltb, ltb-true}
use lib.Dec.{ltb}
use Rattle.tools.specs.Tests.{pick}
use Rattle.tools.specs.Reasons.{Reason, first, if_done, rises}
use Rattle.tools.proofs.Tests.{and_true_l, and_true_r}
use Rattle.rules.specs.Model.{Act, Answer, slot_for}
use Rattle.rules.specs.Calls.{Call, on, alters}
use Rattle.book.specs.Answers.{answer_to}
use Rattle.book.specs.Numbers.{tables_of}
use Rattle.book.proofs.Numbers.{done_on}
use Rattle.std.specs.Prelude.{Result}
use Rattle.std.specs.Prelude as Std
use Rattle.rules.specs.declared.Refusal.{Refusal}
use Rattle.rules.specs.Replies.{number_in, done_says}
use Rattle.refusals.specs.Grants.{granted_by, grant_of}
use Rattle.office.specs.Papers.{asked, papers_number}
use Rattle.office.specs.Office.{Folder, summary_at, papers_at, office_answer, folder_after}
use Rattle.office.proofs.Papers.{together_which}
use Rattle.office.proofs.Office.{office_answer_lem}
use Rattle.door.specs.Door.{or_no_room}
use Rattle.gulambitok.specs.Filed.{Files}
use Rattle.gulambitok.proofs.Called.{bare, granted, slot_said}

-- reasons that rise from NoRoom on come after it
late : (lo : ℕ) (rs : List Reason) → 15 ≤ lo → rises lo rs ≡ true → or_no_room (first rs) ≡ 15
unfolding or_no_room
late lo [] l h = refl
late lo (r ∷ rs) l h =
    let above : 15 < r.number = omega (arith, ltb-true lo r.number (and_true_l _ _ h)) in
    go r.holds above (late r.number rs (omega arith) (and_true_r (ltb lo r.number) _ h))
  where
    go : (t : Bool) → 15 < r.number → or_no_room (first rs) ≡ 15 → or_no_room (pick t r.number (first rs)) ≡ 15
    go true l e = rw (ne_eqb r.number 0 (λ z. omega arith), lt-ltb 15 r.number l)
    go false l e = e

module _ (f : Folder) (c : Call) where
  papers_late : or_no_room (papers_number (papers_at f c)) ≡ 15
  papers_late = late 15 (asked (papers_at f c)) (omega arith) (go (alters c))
    where
      go : (t : Bool) → rises 15 (asked (pick t (summary_at f c ∷ []) [])) ≡ true
      go true = refl
      go false = refl

  -- so that the papers need not be asked where a buffer is too short
  room_first : or_no_room (office_answer f c).number ≡ or_no_room (answer_to f.book c).number
  unfolding office_answer or_no_room
  room_first = ap or_no_room (together_which (papers_number (papers_at f c)) (answer_to f.book c)) ∙ go (answer_to f.book c).number
    where
      go : (n : ℕ) → or_no_room (if_done n (papers_number (papers_at f c)) n) ≡ or_no_room n
      go zero = papers_late
      go (suc n) = refl

-- an event: the number that it is granted, and the slot that it is answered
module _ (c : Act) (f : Folder) (q : Bool) where
  pub granted_filed : (n : ℕ) (g : Result (Std.Option ℕ) Refusal) → n ≡ number_in g → granted_by g ≡ grant_of f.book c q
      → or_no_room n ≡ or_no_room (office_answer f (on c)).number
  granted_filed n g e h = granted c f.book q n g e h ∙ sym (room_first f (on c))

  pub slot_filed : (done_on f.book c).answer.value.slot ≡ slot_for (tables_of f.book) q
      → (office_answer f (on c)).number ≡ 0 → (office_answer f (on c)).value.slot ≡ slot_for (tables_of f.book) q
  slot_filed v z =
      let e = office_answer_lem f (on c) z in
      ap (λ (a : Answer). a.value.slot) e ∙ slot_said c f.book q v (ap (λ (a : Answer). a.number) (sym e) ∙ z)

-- no buffer is lent: start, drop and discard
pub filed : (f : Folder) (c : Call) (g : Result (Unit {0}) Refusal) → done_says g ≡ office_answer f c → (r : ℕ) → r ≡ number_in g
    → (f' : Folder) → f' ≡ folder_after f c → Files c f f' [] r
filed f c g e r k f' h = bare (office_answer f c) f (folder_after f c) r g e k f' h
