-- DEMAND 3, first part: the ring and the line accept and refuse alike, by the same number, and their stamps and books differ
-- only by the coming round; call by call, for any calls after an accepted start, starts among them.
-- Assumes nothing.
use mathlib.Core.Path.{◌≡◌, refl, ap, sym, ◌∙◌}
use mathlib.Core.Bool.{Bool, true, false}
use mathlib.Core.List.{List, [], ◌∷◌}
use Rattle.ring.specs.Phases.{line}
use Rattle.rules.specs.Setups.{Setup, permits}
use Rattle.rules.specs.Model.{Act, nothing, accepted, step}
use Rattle.rules.specs.Calls.{Book, Call, start, on, Turn, fresh_book, turn_of, ring_of, line_of, call}
use Rattle.history.specs.History.{State, begin, next, after}
use Rattle.history.specs.Round.{round_answer, round_book, round_turn}
use Rattle.history.specs.Runs.{run, left, round_run, numbers}
use Rattle.history.proofs.Sim.{step_ring, fresh_round}
use Rattle.history.proofs.Runs.{start_turn, Faithful, allowed, faithful_begin, faithful_next, left_line}

pub fresh_alike : (X : Setup) → fresh_book X ≡ round_book (fresh_book X)
fresh_alike X = λ i. record { setup = X; tables = sym (fresh_round X.phases) i }

-- one call
pub call_alike : (s : State) → Faithful s → (c : Call) → call ring_of (round_book s.book) c ≡ round_turn s.book (call line_of s.book c)
unfolding call
call_alike s w (start X) = go (permits X)
  where
    go : (t : Bool) → start_turn (round_book s.book) X t ≡ round_turn s.book (start_turn s.book X t)
    go true = λ i. record { answer = accepted nothing; book = fresh_alike X i }
    go false = refl
call_alike s w (on c) =
    ap (turn_of s.book.setup) (step_ring s.book.setup (allowed s w) s.book.tables w.good.bounded c)

-- the answer to an act
pub act_alike : (s : State) → Faithful s → (c : Act) → (call ring_of (round_book s.book) (on c)).answer
    ≡ round_answer s.book.setup.phases (step line s.book.setup s.book.tables c).answer
unfolding call
act_alike s w c = ap (λ (t : Turn). t.answer) (call_alike s w (on c))

-- every call of a run, from any faithful state on
pub run_alike : (s : State) → Faithful s → (cs : List Call)
    → run ring_of (round_book s.book) cs ≡ round_run s.book (run line_of s.book cs)
unfolding run round_run next
run_alike s w [] = refl
run_alike s w (c ∷ cs) =
    ap (λ (t : Turn). t ∷ run ring_of t.book cs) (call_alike s w c)
    ∙ ap (λ ts. round_turn s.book (call line_of s.book c) ∷ ts) (run_alike (next s c) (faithful_next s w c) cs)

pub left_alike : (s : State) → Faithful s → (cs : List Call) → left ring_of (round_book s.book) cs ≡ round_book (left line_of s.book cs)
unfolding left next
left_alike s w [] = refl
left_alike s w (c ∷ cs) =
    ap (λ (t : Turn). left ring_of t.book cs) (call_alike s w c) ∙ left_alike (next s c) (faithful_next s w c) cs

round_numbers : (b : Book) (ts : List Turn) → numbers (round_run b ts) ≡ numbers ts
unfolding round_run
round_numbers b [] = refl
round_numbers b (t ∷ ts) = ap (λ ns. t.answer.number ∷ ns) (round_numbers t.book ts)

module _ (X : Setup) (fair : permits X ≡ true) (cs : List Call) where
  -- THE PROMISE: each turn of the ring is that of the line, come round: the number, the value and the book
  pub alike : run ring_of (fresh_book X) cs ≡ round_run (fresh_book X) (run line_of (fresh_book X) cs)
  alike = ap (λ b. run ring_of b cs) (fresh_alike X) ∙ run_alike (begin X) (faithful_begin X fair) cs

  -- Both accept and refuse alike, by the same number.
  pub same_numbers : numbers (run ring_of (fresh_book X) cs) ≡ numbers (run line_of (fresh_book X) cs)
  same_numbers = ap numbers alike ∙ round_numbers (fresh_book X) (run line_of (fresh_book X) cs)

  -- The book that the ring leaves is the line's, come round.
  pub same_books : left ring_of (fresh_book X) cs ≡ round_book (left line_of (fresh_book X) cs)
  same_books = ap (λ b. left ring_of b cs) (fresh_alike X) ∙ left_alike (begin X) (faithful_begin X fair) cs

  -- the same, of the state with its history
  pub ring_book : left ring_of (fresh_book X) cs ≡ round_book (after (begin X) cs).book
  ring_book = same_books ∙ ap round_book (left_line (begin X) cs)
