-- REASONS, for every call: a number is answered exactly when its reason holds and no smaller one does, 0 exactly when none
-- does; a refusal answers its number only, and leaves the book as it was.
-- Assumes nothing.
use mathlib.Core.Path.{◌≡◌, refl, ap, sym, subst}
use mathlib.Core.Bool.{true, ◌||◌}
use mathlib.Core.Option.{Option}
use Prim.Native.Nat.{ℕ, zero, suc}
use Rattle.tools.specs.Reasons.{first, rises, Holds, Smallest}
use Rattle.tools.proofs.Reasons.{first_smallest, holds_above}
use native.Mathlib.Omega.{arith}
use Rattle.ring.specs.Phases.{Phases}
use Rattle.rules.specs.Setups.{Setup}
use Rattle.rules.specs.declared.Refusal.TheVariants.{BadBook}
use Rattle.rules.specs.Numbers.{number}
use Rattle.rules.specs.Model.{Tables, Question, ask_before, ask_compare, ask_picture, ask_show, ask_write, Act, local, reset}
use Rattle.rules.specs.Model.{send, receive, drop, discard, ask, Value}
use Rattle.rules.specs.Model.{refusal, is_out, ask_reasons, reasons, step}
use Rattle.rules.specs.Calls.{reasons_of, Book, Call, start, on, Turn, settled, turn_of, call}
use Rattle.rules.specs.Model.{Label}
use Rattle.rules.specs.Labels.{reasons_off, Neither, gap_read, why_off, settle_off, before_off, compare_off, newest_by, newest_off}
use Rattle.rules.proofs.Steps.{step_number, step_only}

module _ (Z : Phases) (X : Setup) (b : Tables) where
  ask_rising : (q : Question) → rises 1 (ask_reasons Z X b q) ≡ true
  unfolding ask_reasons
  ask_rising (ask_before s t) = refl
  ask_rising (ask_compare s t) = refl
  ask_rising (ask_picture l) = refl
  ask_rising (ask_show s) = refl
  ask_rising (ask_write s room) = refl

  rising : (c : Act) → rises 1 (reasons Z X b c) ≡ true
  unfolding reasons
  rising (local j q) = refl
  rising (send j k q) = refl
  rising (receive j p q) = refl
  rising (reset j q) = refl
  rising (drop s) = refl
  rising (discard p) = refl
  rising (ask q) = ask_rising q

  pub act_number : (c : Act) → Smallest (Holds (reasons Z X b c)) (step Z X b c).answer.number
  act_number c = rw (step_number Z X b c) (first_smallest (reasons Z X b c) 1 (rising c))

module _ (Z : Setup → Phases) (b : Book) where
  -- a start is settled by its number
  settled_number : (n : ℕ) (t : Turn) → t.answer.number ≡ 0 → (settled n b t).answer.number ≡ n
  settled_number zero t z = z
  settled_number (suc n) t z = refl

  settled_only : (n : ℕ) (t : Turn) → t.answer.number ≡ 0 → ((settled n b t).answer.number ≡ 0 → ⊥)
      → settled n b t ≡ record { answer = refusal (settled n b t).answer.number; book = b }
  settled_only zero t z ne = absurd (ne z)
  settled_only (suc n) t z ne = refl

  pub call_rising : (c : Call) → rises 1 (reasons_of Z b c) ≡ true
  call_rising (start X) = refl
  call_rising (on c) = rising (Z b.setup) b.setup b.tables c

  pub call_number : (c : Call) → (call Z b c).answer.number ≡ first (reasons_of Z b c)
  unfolding call
  call_number (start X) = settled_number (first (reasons_of Z b (start X))) _ refl
  call_number (on c) = step_number (Z b.setup) b.setup b.tables c

  -- THE PROMISE, for start and the acts
  pub number_due : (c : Call) → Smallest (Holds (reasons_of Z b c)) (call Z b c).answer.number
  number_due c =
      subst (Smallest (Holds (reasons_of Z b c))) (sym (call_number c)) (first_smallest (reasons_of Z b c) 1 (call_rising c))

  -- BadBook's number is due to no call on a book that is admitted
  pub never_bad : (c : Call) → (call Z b c).answer.number ≡ number BadBook → ⊥
  never_bad c e =
      let l = holds_above (reasons_of Z b c) 1 1 (call_rising c) (((number_due c).due 1 (omega arith)).0 e).0 in omega arith

  -- A refused call answers its number only, and leaves the book as it was: its setup and its tables.
  pub refused : (c : Call) → ((call Z b c).answer.number ≡ 0 → ⊥)
      → call Z b c ≡ record { answer = refusal (call Z b c).answer.number; book = b }
  unfolding call
  refused (start X) ne = settled_only (first (reasons_of Z b (start X))) _ refl ne
  refused (on c) ne = ap (turn_of b.setup) (step_only (Z b.setup) b.setup b.tables c ne)

-- Off the book, given a setup and two stamp records as they read.
settle_number : (n : ℕ) (v : Value) → (settle_off n v).number ≡ n
settle_number zero v = refl
settle_number (suc n) v = refl

module _ (X : Setup) (e f : Option Label) where
  pub before_due : Smallest (Holds (reasons_off X e f (is_out (gap_read X e f)))) (before_off X e f).number
  unfolding before_off
  before_due =
      rw (settle_number (why_off X e f (is_out (gap_read X e f))) _)
      (first_smallest (reasons_off X e f (is_out (gap_read X e f))) 1 refl)

  -- newest is refused as compare is
  pub compare_due : Smallest (Holds (reasons_off X e f (is_out (gap_read X e f) || is_out (gap_read X f e)))) (compare_off X e f).number
  unfolding compare_off
  compare_due =
      rw (settle_number (why_off X e f (is_out (gap_read X e f) || is_out (gap_read X f e))) _)
      (first_smallest (reasons_off X e f (is_out (gap_read X e f) || is_out (gap_read X f e))) 1 refl)

  -- where compare is refused, newest hands back neither
  pub newest_refused : ((compare_off X e f).number ≡ 0 → ⊥) → newest_off X e f ≡ Neither
  unfolding compare_off
  newest_refused = go (why_off X e f (is_out (gap_read X e f) || is_out (gap_read X f e))) _
    where
      go : (n : ℕ) (v : Value) → ((settle_off n v).number ≡ 0 → ⊥) → newest_by (settle_off n v).value ≡ Neither
      go zero v ne = absurd (ne refl)
      go (suc n) v ne = refl
