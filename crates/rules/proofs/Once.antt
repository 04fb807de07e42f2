-- Two answers that meet the statement of a call are equal.
-- Assumes nothing.
--   name_of n     the name of the number n
--   InRow s       the stamp s has a row of sixteen bytes
use Rattle.std.specs.Prelude.{ℕ, Bool, List, [], ◌∷◌, length, get_or, Result, Ok, Err, IfOk, Some, None}
use Rattle.std.specs.Prelude as Std
use Rattle.std.proofs.Common.{◌≡◌, refl, sym, ap, ◌∙◌, arith}
use Rattle.std.proofs.Math.Option.{Option, none, some}
use Rattle.std.proofs.lemmas.Result.{IfOk-at_ok}
use Rattle.tools.proofs.Tables.{some_is, none_some}
use Rattle.rules.specs.declared.Stamp.{Stamp}
use Rattle.rules.specs.declared.Stamped.{Stamped}
use Rattle.rules.specs.declared.Received.{Received}
use Rattle.rules.specs.declared.Sent.{Sent}
use Rattle.rules.specs.declared.Refusal.{Refusal}
use Rattle.rules.specs.declared.Relation.{Relation}
use Rattle.rules.specs.declared.Refusal.TheVariants.{
  BadBook,
  BadSetup,
  NoDesk,
  SameDesk,
  NoPlace,
  NotYours,
  NoEvent,
  PhaseFull,
  MailFull,
  ShelfFull,
  SeatBehind,
  MailBehind,
  ShelfBehind,
  BadStamp,
  NoRoom,
  OutOfReach,
  BadLine,
  WrongOwner,
  BadSummary,
}
use Rattle.rules.specs.Numbers.{Name, number}
use Rattle.rules.specs.Model.{Odds, Label, Value, Answer, refusal}
use Rattle.rules.specs.Replies.{row_of, slot_in, answer_by, event, odds_value, reset_value, stamped_value, received_value, sent_value}
use Rattle.rules.specs.Replies.{done_says, stamped_says, received_says, sent_says, told_says, compared_says, pictured_says}
use Rattle.rules.specs.Replies.{foretold_says}
use Rattle.rules.proofs.RowBytes.{row_once}

-- no two names have one number: each is found again by its own
abbrev name_of : ℕ → Name
name_of n =
    get_or
    (NoEvent
    ∷ BadBook
    ∷ BadSetup
    ∷ NoDesk
    ∷ SameDesk
    ∷ NoPlace
    ∷ NotYours
    ∷ NoEvent
    ∷ PhaseFull
    ∷ MailFull
    ∷ ShelfFull
    ∷ SeatBehind
    ∷ MailBehind
    ∷ ShelfBehind
    ∷ BadStamp
    ∷ NoRoom
    ∷ OutOfReach
    ∷ BadLine
    ∷ WrongOwner
    ∷ [])
    n BadSummary

found : (w : Name) → name_of (number w) ≡ w
found BadBook = refl
found BadSetup = refl
found NoDesk = refl
found SameDesk = refl
found NoPlace = refl
found NotYours = refl
found NoEvent = refl
found PhaseFull = refl
found MailFull = refl
found ShelfFull = refl
found SeatBehind = refl
found MailBehind = refl
found ShelfBehind = refl
found BadStamp = refl
found NoRoom = refl
found OutOfReach = refl
found BadLine = refl
found WrongOwner = refl
found BadSummary = refl

pub name_once : (w w' : Name) → number w ≡ number w' → w ≡ w'
name_once w w' e = sym (found w) ∙ ap name_of e ∙ found w'

-- and none has the number of done
pub not_done : (w : Name) → number w ≡ 0 → ⊥
not_done w e = let q : 7 ≡ number w = ap number (sym (ap name_of e) ∙ found w) in omega arith

-- the number of a refusal
pub number_once : (n n' : ℕ) → refusal n ≡ refusal n' → n ≡ n'
number_once n n' e = ap (λ (a : Answer). a.number) e

-- any call: what is told of a value has to fix it
pub answer_once : {A : Type 0} (v : A → Value) (r r' : Result A Refusal)
    → ((x x' : A) → r ≡ Ok x → r' ≡ Ok x' → v x ≡ v x' → x ≡ x') → answer_by v r ≡ answer_by v r' → r ≡ r'
answer_once v (Ok x) (Ok x') f e = ap Ok (f x x' refl refl (ap (λ (a : Answer). a.value) e))
answer_once v (Ok x) (Err w) f e = absurd (not_done w (sym (ap (λ (a : Answer). a.number) e)))
answer_once v (Err w) (Ok x) f e = absurd (not_done w (ap (λ (a : Answer). a.number) e))
answer_once v (Err w) (Err w') f e = ap Err (name_once w w' (ap (λ (a : Answer). a.number) e))

-- start, drop and discard
pub done_once : (r r' : Result (Unit {0}) Refusal) → done_says r ≡ done_says r' → r ≡ r'
done_once r r' = answer_once _ r r' (λ x x' p p' e. refl)

-- before
pub told_once : (r r' : Result Bool Refusal) → told_says r ≡ told_says r' → r ≡ r'
told_once r r' = answer_once _ r r' (λ x x' p p' e. some_is (ap (λ (v : Value). v.verdict) e))

-- compare
pub compared_once : (r r' : Result Relation Refusal) → compared_says r ≡ compared_says r' → r ≡ r'
compared_once r r' = answer_once _ r r' (λ x x' p p' e. some_is (ap (λ (v : Value). v.relation) e))

-- picture: yes, or two desks at odds
odds_once : (o o' : Std.Option Odds) → odds_value o ≡ odds_value o' → o ≡ o'
odds_once None None e = refl
odds_once None (Some o) e = absurd (none_some (ap (λ (v : Value). v.odds) e))
odds_once (Some o) None e = absurd (none_some (sym (ap (λ (v : Value). v.odds) e)))
odds_once (Some o) (Some o') e = ap Some (some_is (ap (λ (v : Value). v.odds) e))

pub pictured_once : (r r' : Result (Std.Option Odds) Refusal) → pictured_says r ≡ pictured_says r' → r ≡ r'
pictured_once r r' = answer_once _ r r' (λ x x' p p' e. odds_once x x' e)

-- may: that a reset would be accepted, or what it would be refused with
reset_once : (o o' : Std.Option Refusal) → reset_value o ≡ reset_value o' → o ≡ o'
reset_once None None e = refl
reset_once None (Some w) e = absurd (not_done w (sym (some_is (ap (λ (v : Value). v.foretold) e))))
reset_once (Some w) None e = absurd (not_done w (some_is (ap (λ (v : Value). v.foretold) e)))
reset_once (Some w) (Some w') e = ap Some (name_once w w' (some_is (ap (λ (v : Value). v.foretold) e)))

pub foretold_once : (r r' : Result (Std.Option Refusal) Refusal) → foretold_says r ≡ foretold_says r' → r ≡ r'
foretold_once r r' = answer_once _ r r' (λ x x' p p' e. reset_once x x' e)

-- an event: its stamp, of sixteen row bytes, and its slot, or none
abbrev pub InRow : Stamp → Type 0
InRow s = length s.row ≡ 16

slot_once : (k k' : Std.Option ℕ) → slot_in k ≡ slot_in k' → k ≡ k'
slot_once None None e = refl
slot_once None (Some s) e = absurd (none_some e)
slot_once (Some s) None e = absurd (none_some (sym e))
slot_once (Some s) (Some s') e = ap Some (some_is e)

event_once : (p p' l l' : Option ℕ) (x x' : Stamp) (k k' : Std.Option ℕ) → InRow x → InRow x' → event p x l k ≡ event p' x' l' k'
    → (x ≡ x') × (k ≡ k')
event_once p p' l l' x x' k k' n n' e =
    let s : ◌≡◌ {A = Label} (record { owner = x.owner; row = row_of x.row }) (record { owner = x'.owner; row = row_of x'.row }) =
    some_is (ap (λ (v : Value). v.stamp) e) in
    let r = row_once x.row x'.row n n' (ap (λ (y : Label). y.row) s) in
    (λ i. record { owner = (s i).owner; row = r i }, slot_once k k' (ap (λ (v : Value). v.slot) e))

-- local and reset
pub stamped_once : (r r' : Result Stamped Refusal) → stamped_says r ≡ stamped_says r'
    → IfOk r (λ x. InRow x.stamp) → IfOk r' (λ x. InRow x.stamp) → r ≡ r'
stamped_once r r' e n n' = answer_once stamped_value r r' one e
  where
    one : (x x' : Stamped) → r ≡ Ok x → r' ≡ Ok x' → stamped_value x ≡ stamped_value x' → x ≡ x'
    one x x' p p' q =
        let m = IfOk-at_ok (λ (x : Stamped). InRow x.stamp) p n in
        let m' = IfOk-at_ok (λ (x : Stamped). InRow x.stamp) p' n' in
        let o = event_once none none none none x.stamp x'.stamp x.slot x'.slot m m' q in
        λ i. record { stamp = o.0 i; slot = o.1 i }

-- receive
pub received_once : (r r' : Result Received Refusal) → received_says r ≡ received_says r'
    → IfOk r (λ x. InRow x.stamp) → IfOk r' (λ x. InRow x.stamp) → r ≡ r'
received_once r r' e n n' = answer_once received_value r r' one e
  where
    one : (x x' : Received) → r ≡ Ok x → r' ≡ Ok x' → received_value x ≡ received_value x' → x ≡ x'
    one x x' p p' q =
        let m = IfOk-at_ok (λ (x : Received). InRow x.stamp) p n in
        let m' = IfOk-at_ok (λ (x : Received). InRow x.stamp) p' n' in
        let o = event_once none none (some x.learnt) (some x'.learnt) x.stamp x'.stamp x.slot x'.slot m m' q in
        let l = some_is (ap (λ (v : Value). v.learnt) q) in
        λ i. record { stamp = o.0 i; learnt = l i; slot = o.1 i }

-- send
pub sent_once : (r r' : Result Sent Refusal) → sent_says r ≡ sent_says r'
    → IfOk r (λ x. InRow x.stamp) → IfOk r' (λ x. InRow x.stamp) → r ≡ r'
sent_once r r' e n n' = answer_once sent_value r r' one e
  where
    one : (x x' : Sent) → r ≡ Ok x → r' ≡ Ok x' → sent_value x ≡ sent_value x' → x ≡ x'
    one x x' p p' q =
        let m = IfOk-at_ok (λ (x : Sent). InRow x.stamp) p n in
        let m' = IfOk-at_ok (λ (x : Sent). InRow x.stamp) p' n' in
        let o = event_once (some x.place) (some x'.place) none none x.stamp x'.stamp x.slot x'.slot m m' q in
        let l = some_is (ap (λ (v : Value). v.place) q) in
        λ i. record { place = l i; stamp = o.0 i; slot = o.1 i }
