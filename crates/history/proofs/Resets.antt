-- A desk's true phase counts its resets: over any calls, under any setup.
-- Assumes nothing.
use mathlib.Core.Path.{◌≡◌, refl, ap, sym, ◌∙◌}
use mathlib.Core.Bool.{Bool, true, false, ◌&&◌}
use mathlib.Core.Option.{Option}
use mathlib.Core.List.{List, [], ◌∷◌}
use mathlib.Core.Logic.{◌⊎◌, inl, inr}
use Prim.Native.Nat.{ℕ, zero, suc, ◌+◌, ◌≤◌, ◌<◌}
use native.Mathlib.Omega.{arith}
use lib.Dec.{eqb}
use borrow.Author.Tests.{eq-eqb, ne_eqb}
use Rattle.tools.specs.Tests.{counted, count}
use Rattle.tools.specs.Tables.{put}
use Rattle.tools.specs.Reasons.{if_done}
use Rattle.tools.proofs.Tests.{lt_or_le, count_none, count_more, count_cong}
use Rattle.tools.proofs.Tables.{put_all, put_same, put_other}
use Rattle.ring.specs.Phases.{line, Pair}
use Rattle.rules.specs.Setups.{Setup, permits}
use Rattle.rules.specs.Model.{Row, Seat, Held, Tables, Act, local, reset, send, receive, drop, discard, ask}
use Rattle.rules.specs.Model.{step, done, why, grown, taken, merged, turned, seated, row_in, own, phases, tick, turn, settle}
use Rattle.rules.specs.Calls.{Call, start, on, line_of, call}
use Rattle.rules.proofs.Steps.{step_number}
use Rattle.history.specs.History.{Kind, is_reset, Local, Send, Reset, Receive, Log, History, logged, none_yet, adds, State}
use Rattle.history.specs.History.{begin, next, after}
use Rattle.history.specs.Contract.{reset_at}
use Rattle.history.proofs.Causal.{below}
use Rattle.history.proofs.Runs.{start_turn}

-- the resets of desk j before the event e
unfoldable pub resets : Log → ℕ → ℕ → ℕ
resets h j e = count e (reset_at h j)

pub resets_next : (h : Log) (j e : ℕ) → resets h j (suc e) ≡ counted (reset_at h j e) (resets h j e)
unfolding resets
resets_next h j e = count_more (reset_at h j) e

-- from event to event they grow by one at a reset, and else stay
module _ (h : Log) (j : ℕ) where
  pub reset_more : (e : ℕ) → reset_at h j e ≡ true → resets h j (suc e) ≡ suc (resets h j e)
  reset_more e t = resets_next h j e ∙ ap (λ u. counted u (resets h j e)) t

  pub reset_same : (e : ℕ) → reset_at h j e ≡ false → resets h j (suc e) ≡ resets h j e
  reset_same e t = resets_next h j e ∙ ap (λ u. counted u (resets h j e)) t

  pub resets_grow : (a b : ℕ) → a ≤ b → resets h j a ≤ resets h j b
  resets_grow a zero l = let q : a ≡ 0 = omega arith in rw q (omega arith)
  resets_grow a (suc b) l = go (lt_or_le a (suc b)) (λ m. resets_grow a b m) (reset_at h j b) refl
    where
      go : (a < suc b) ⊎ (suc b ≤ a) → (a ≤ b → resets h j a ≤ resets h j b) → (t : Bool) → reset_at h j b ≡ t
          → resets h j a ≤ resets h j (suc b)
      go (inr m) r t q = let z : a ≡ suc b = omega arith in rw z (omega arith)
      go (inl m) r true q = let z = r (omega arith) in let w = reset_more b q in omega arith
      go (inl m) r false q = let z = r (omega arith) in let w = reset_same b q in omega arith

  pub resets_flat : (a b : ℕ) → a ≤ b → ((e : ℕ) → a ≤ e → e < b → reset_at h j e ≡ false) → resets h j b ≡ resets h j a
  resets_flat a zero l n = let q : a ≡ 0 = omega arith in rw q
  resets_flat a (suc b) l n = go (lt_or_le a (suc b)) (λ m. resets_flat a b m (λ e p q. n e p (omega arith)))
    where
      go : (a < suc b) ⊎ (suc b ≤ a) → (a ≤ b → resets h j b ≡ resets h j a) → resets h j (suc b) ≡ resets h j a
      go (inr m) r = let z : a ≡ suc b = omega arith in rw z
      go (inl m) r = reset_same b (n b (omega arith) (omega arith)) ∙ r (omega arith)

-- each desk's own phase counts its resets, and so does the own phase in each row
pub record Counted (b : Tables) (h : Log) : Type 0 where
  pub own : (k : ℕ) → phases b k ≡ resets h k h.count
  pub phase : (e : ℕ) → e < h.count → (h.row e (h.desk e)).phase ≡ resets h (h.desk e) (suc e)

-- one event more: at desk j, of kind w, which leaves row r
module _ (b : Tables) (h : Log) (c : Counted b h) (j : ℕ) (w : Kind) (r : Row) where
  abbrev h' : Log
  h' = logged h j w r

  reset_old : (k e : ℕ) → e < h.count → reset_at h' k e ≡ reset_at h k e
  reset_old k e l =
      λ i. eqb (put_other h.desk h.count j e (omega arith) i) k && is_reset (put_other h.kind h.count w e (omega arith) i)

  reset_last : (k : ℕ) → reset_at h' k h.count ≡ (eqb j k && is_reset w)
  reset_last k = λ i. eqb (put_same h.desk h.count j i) k && is_reset (put_same h.kind h.count w i)

  resets_old : (k n : ℕ) → n ≤ h.count → resets h' k n ≡ resets h k n
  unfolding resets
  resets_old k n l = count_cong n (reset_at h' k) (reset_at h k) (λ e m. reset_old k e (omega arith))

  resets_all : (k : ℕ) → resets h' k (suc h.count) ≡ counted (eqb j k && is_reset w) (resets h k h.count)
  resets_all k = resets_next h' k h.count ∙ (λ i. counted (reset_last k i) (resets_old k h.count (omega arith) i))

  module _ (grows : (r j).phase ≡ counted (is_reset w) (phases b j)) where
    own_counts : (r j).phase ≡ resets h' j (suc h.count)
    own_counts =
        grows ∙ (λ i. counted (is_reset w) (c.own j i)) ∙ (λ i. counted (sym (eq-eqb j j refl) i && is_reset w) (resets h j h.count))
        ∙ sym (resets_all j)

    other_counts : (k : ℕ) → (k ≡ j → ⊥) → phases b k ≡ resets h' k (suc h.count)
    other_counts k ne =
        c.own k ∙ (λ i. counted (sym (ne_eqb j k (λ q. ne (sym q))) i && is_reset w) (resets h k h.count)) ∙ sym (resets_all k)

    pub counted_event : (mail shelf : ℕ → Option Held) → Counted (record { seat = seated b j r; mail = mail; shelf = shelf }) h'
    counted_event mail shelf =
        record {
          own = put_all (λ k (s : Seat). (s.row k).phase ≡ resets h' k (suc h.count)) b.seat j (record { started = true; row = r })
              own_counts other_counts;
          phase = λ e l. below (λ e. (h'.row e (h'.desk e)).phase ≡ resets h' (h'.desk e) (suc e)) h.count e l
              (λ l. old e l)
              ((λ i. (put_same h.row h.count r i (put_same h.desk h.count j i)).phase) ∙ own_counts
              ∙ (λ i. resets h' (sym (put_same h.desk h.count j) i) (suc h.count)));
        }
      where
        old : (e : ℕ) → e < h.count → (h'.row e (h'.desk e)).phase ≡ resets h' (h'.desk e) (suc e)
        old e l =
            let d = put_other h.desk h.count j e (omega arith) in
            (λ i. (put_other h.row h.count r e (omega arith) i (d i)).phase) ∙ c.phase e l
            ∙ sym (resets_old (h.desk e) (suc e) (omega arith)) ∙ (λ i. resets h' (sym d i) (suc e))

module _ (X : Setup) (b : Tables) (h : History) (c : Counted b h.log) where
  own_is : (f : Row) (j : ℕ) (q : Pair) → (put f j q j).phase ≡ q.phase
  own_is f j q = ap (λ (p : Pair). p.phase) (put_same f j q)

  counted_done : (a : Act) → Counted (done line X b a).tables (adds h b a).log
  unfolding done adds
  counted_done (local j q) = counted_event b h.log c j Local (grown b j) (own_is (b.seat j).row j (tick (own b j))) _ _
  counted_done (send j k q) = counted_event b h.log c j Send (grown b j) (own_is (b.seat j).row j (tick (own b j))) _ _
  counted_done (receive j p q) =
      counted_event b h.log c j (Receive (h.mailed p)) (merged line b j (row_in (b.mail p)))
      (own_is (λ k. (taken line b j (row_in (b.mail p)) k).pair) j (tick (own b j))) _ _
  counted_done (reset j q) =
      counted_event b h.log c j Reset (turned line b j)
      (own_is (b.seat j).row j (turn line (own b j)) ∙ (let up : phases b j + 1 ≡ suc (phases b j) = omega arith in up)) _ _
  counted_done (drop s) = record { own = c.own; phase = c.phase }
  counted_done (discard p) = record { own = c.own; phase = c.phase }
  counted_done (ask q) = c

  counted_step : (a : Act) → Counted (step line X b a).tables (if_done (why line X b a) (adds h b a) h).log
  unfolding step
  counted_step a = go (why line X b a)
    where
      go : (n : ℕ) → Counted (settle n b (done line X b a)).tables (if_done n (adds h b a) h).log
      go zero = counted_done a
      go (suc n) = c

-- the line's book and its log
abbrev pub Counts : State → Type 0
Counts s = Counted s.book.tables s.history.log

counts_begin : (X : Setup) → Counts (begin X)
unfolding resets
counts_begin X = record { own = λ k. sym (count_none (reset_at none_yet.log k)); phase = λ e l. absurd (omega arith) }

counts_next : (s : State) → Counts s → (c : Call) → Counts (next s c)
unfolding next call
counts_next s w (start X) = go (permits X)
  where
    go : (t : Bool) → let r = start_turn s.book X t in
        Counts (record { book = r.book; history = if_done r.answer.number none_yet s.history })
    go true = counts_begin X
    go false = w
counts_next s w (on a) =
    rw (step_number (line_of s.book.setup) s.book.setup s.book.tables a)
    (counted_step s.book.setup s.book.tables s.history w a)

counts_after : (s : State) → Counts s → (cs : List Call) → Counts (after s cs)
unfolding after
counts_after s w [] = w
counts_after s w (c ∷ cs) = counts_after (next s c) (counts_next s w c) cs

-- THE LAW: after any calls each desk's own phase is the number of its resets, as is the own phase in each row then
pub phases_count : (X : Setup) (cs : List Call) → Counts (after (begin X) cs)
phases_count X cs = counts_after (begin X) (counts_begin X) cs
