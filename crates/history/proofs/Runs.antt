-- Every call of a run keeps the line's book and its history together.
-- Assumes nothing.
use mathlib.Core.Path.{◌≡◌, refl}
use mathlib.Core.Bool.{Bool, true, false, not}
use mathlib.Core.List.{List, [], ◌∷◌, ◌++◌}
use native.Mathlib.Omega.{arith}
use Rattle.tools.specs.Tests.{pick}
use Rattle.tools.specs.Reasons.{if_done}
use Rattle.ring.specs.Phases.{Phases}
use Rattle.rules.specs.Setups.{Setup, permits}
use Rattle.rules.specs.Model.{nothing, accepted}
use Rattle.rules.specs.Calls.{Book, Call, start, on, Turn, fresh_book, settled, line_of, call}
use Rattle.history.specs.History.{State, none_yet, begin, next, after}
use Rattle.history.specs.Runs.{left}
use Rattle.rules.proofs.Setups.{Permitted, permitted}
use Rattle.rules.proofs.Steps.{step_number}
use Rattle.history.proofs.Good.{Good, good_begin, good_next}

-- the turn of a start, t whether its setup is permitted
abbrev pub start_turn : Book → Setup → Bool → Turn
start_turn b X t = settled (pick (not t) 2 0) b (record { answer = accepted nothing; book = fresh_book X })

-- the setup is permitted, and the line's book and its history belong together
pub record Faithful (s : State) : Type 0 where
  pub permits : permits s.book.setup ≡ true
  pub good : Good s.book.setup s.book.tables s.history

pub allowed : (s : State) → Faithful s → Permitted s.book.setup
allowed s w = permitted s.book.setup w.permits

pub faithful_begin : (X : Setup) → permits X ≡ true → Faithful (begin X)
faithful_begin X e = record { permits = e; good = good_begin X }

pub faithful_next : (s : State) → Faithful s → (c : Call) → Faithful (next s c)
unfolding next call
faithful_next s w (start X) = go (permits X) refl
  where
    go : (t : Bool) → permits X ≡ t
        → let r = start_turn s.book X t in
        Faithful (record { book = r.book; history = if_done r.answer.number none_yet s.history })
    go true e = faithful_begin X e
    go false e = w
faithful_next s w (on c) =
    record {
      permits = w.permits;
      good =
          rw (step_number (line_of s.book.setup) s.book.setup s.book.tables c)
          (good_next s.book.setup (allowed s w) s.book.tables s.history w.good c);
    }

pub faithful_after : (s : State) → Faithful s → (cs : List Call) → Faithful (after s cs)
unfolding after
faithful_after s w [] = w
faithful_after s w (c ∷ cs) = faithful_after (next s c) (faithful_next s w c) cs

-- after any calls from a fresh book on
pub faithful_run : (X : Setup) → permits X ≡ true → (cs : List Call) → Faithful (after (begin X) cs)
faithful_run X e cs = faithful_after (begin X) (faithful_begin X e) cs

-- the state's book is that of the run on the line
pub left_line : (s : State) (cs : List Call) → left line_of s.book cs ≡ (after s cs).book
unfolding left after next
left_line s [] = refl
left_line s (c ∷ cs) = left_line (next s c) cs

pub after_append : (s : State) (pre bs : List Call) → after s (pre ++ bs) ≡ after (after s pre) bs
unfolding after
after_append s [] bs = refl
after_append s (c ∷ pre) bs = after_append (next s c) pre bs

-- a start that is accepted, on any book: its setup is permitted, and it leaves a fresh book
pub started : (Z : Setup → Phases) (b : Book) (X : Setup) → (call Z b (start X)).answer.number ≡ 0
    → (permits X ≡ true) × ((call Z b (start X)).book ≡ fresh_book X)
unfolding call
started Z b X e = go (permits X) e
  where
    go : (t : Bool) → (start_turn b X t).answer.number ≡ 0 → (t ≡ true) × ((start_turn b X t).book ≡ fresh_book X)
    go true e = (refl, refl)
    go false e = absurd (omega arith)
