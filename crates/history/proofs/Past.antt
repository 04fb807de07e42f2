-- No phase is ever later than its desk's own one, where a reset never leads back: whatever the lag, the setup and the calls.
-- Assumes nothing.
use mathlib.Core.Bool.{Bool, true, false}
use mathlib.Core.Option.{Option, none, some}
use mathlib.Core.List.{List, [], ◌∷◌}
use Prim.Native.Nat.{ℕ, zero, suc, ◌≤◌}
use native.Mathlib.Omega.{arith}
use Rattle.tools.specs.Tests.{pick}
use Rattle.tools.specs.Tables.{put, put_at}
use Rattle.tools.specs.Reasons.{first}
use Rattle.tools.proofs.Tables.{put_all, put_at_all, put_same, put_other, Each-all}
use Rattle.ring.specs.Phases.{Phases, Pair, is_later, later}
use Rattle.rules.specs.Setups.{Setup}
use Rattle.rules.specs.Model.{Row, Seat, Held, Tables, Act, local, reset, send, receive, drop, discard, ask}
use Rattle.rules.specs.Model.{why, done, step, settle, fresh, seated, free_mail, slot_for, row_in, own, phases, tick, turn}
use Rattle.rules.specs.Model.{grown, taken}
use Rattle.rules.specs.Model.{nothing, accepted}
use Rattle.rules.specs.Calls.{Book, Call, start, on, fresh_book, settled, reasons_of, call}
use Rattle.history.specs.Lags.{Past, NoneAhead}
use Rattle.history.specs.History.{State, begin, next, after}

-- a fresh book has no phase but 0
pub fresh_past : NoneAhead fresh
fresh_past = record { seats = λ j k. omega arith; mail = λ p k. omega arith; shelf = λ s k. omega arith }

-- the later of two pairs is one of them
later_past : (Z : Phases) (o : ℕ) (x y : Pair) → x.phase ≤ o → y.phase ≤ o → (later Z o x y).pair.phase ≤ o
later_past Z o x y a c = go (is_later Z o y x)
  where
    go : (t : Bool) → (pick t y x).phase ≤ o
    go true = c
    go false = a

-- places or slots of which one is changed
put_past : (b : Tables) (f : ℕ → Option Held) (k : ℕ) (v : Option Held) → Past b (row_in v) → ((p : ℕ) → Past b (row_in (f p)))
    → (p : ℕ) → Past b (row_in (put f k v p))
put_past b f k v here there = put_all (λ p (o : Option Held). Past b (row_in o)) f k v here (λ p ne. there p)

-- the tables after an event at j that leaves the row r there and in the slot o
abbrev pub left : Tables → ℕ → Row → Option ℕ → (ℕ → Option Held) → Tables
left b j r o mail =
    record { seat = seated b j r; mail = mail; shelf = put_at b.shelf o (some record { by = j; to = 0; row = r }) }

module _ (b : Tables) (w : NoneAhead b) where
  -- an event at j: the row r but for j's own pair q, which is no earlier than it was
  module _ (j : ℕ) (r : Row) (q : Pair) (low : Past b r) (up : phases b j ≤ q.phase) (o : Option ℕ)
      (mail : ℕ → Option Held) where
    own_up : (k : ℕ) → phases b k ≤ phases (left b j (put r j q) o mail) k
    own_up =
        put_all (λ k (s : Seat). phases b k ≤ (s.row k).phase) b.seat j (record { started = true; row = put r j q })
        (rw (put_same r j q) up) (λ k ne. omega arith)

    stays : (ρ : Row) → Past b ρ → Past (left b j (put r j q) o mail) ρ
    stays ρ h k = let a = h k in let c = own_up k in omega arith

    row_past : Past (left b j (put r j q) o mail) (put r j q)
    row_past =
        put_all (λ k (s : Seat). (put r j q k).phase ≤ (s.row k).phase) b.seat j (record { started = true; row = put r j q })
        (omega arith) (λ k ne. rw (put_other r j q k ne) (low k))

    event_past : ((p : ℕ) → Past (left b j (put r j q) o mail) (row_in (mail p))) → NoneAhead (left b j (put r j q) o mail)
    event_past posts =
        record {
          seats = put_all (λ i (s : Seat). Past (left b j (put r j q) o mail) s.row) b.seat j
              (record { started = true; row = put r j q }) row_past (λ i ne. stays (b.seat i).row (w.seats i));
          mail = posts;
          shelf = put_at_all (λ s (h : Option Held). Past (left b j (put r j q) o mail) (row_in h)) b.shelf o _
              (Each-all (λ s. row_past) o) (λ s. stays (row_in (b.shelf s)) (w.shelf s));
        }

    -- where the mail holds no row but such as were there
    quiet_past : ((p : ℕ) → Past b (row_in (mail p))) → NoneAhead (left b j (put r j q) o mail)
    quiet_past posts = event_past (λ p. stays (row_in (mail p)) (posts p))

module _ (Z : Phases) (grows : (v : ℕ) → v ≤ Z.next v) (b : Tables) (w : NoneAhead b) where
  -- an accepted act
  pub done_past : (X : Setup) (c : Act) → NoneAhead (done Z X b c).tables
  unfolding done
  done_past X (local j q) =
      quiet_past b w j (b.seat j).row (tick (own b j)) (w.seats j) (omega arith) (slot_for b q) b.mail w.mail
  done_past X (send j k q) =
      let low = w.seats j in
      let mine = tick (own b j) in
      let mail = put b.mail (free_mail b) (some record { by = j; to = k; row = grown b j }) in
      event_past b w j (b.seat j).row mine low (omega arith) (slot_for b q) mail
      (put_all (λ p (o : Option Held). Past (left b j (grown b j) (slot_for b q) mail) (row_in o)) b.mail (free_mail b) _
      (row_past b w j (b.seat j).row mine low (omega arith) (slot_for b q) mail)
      (λ p ne. stays b w j (b.seat j).row mine low (omega arith) (slot_for b q) mail (row_in (b.mail p)) (w.mail p)))
  done_past X (receive j p q) =
      quiet_past b w j (λ k. (taken Z b j (row_in (b.mail p)) k).pair) (tick (own b j))
      (λ k. later_past Z (phases b k) ((b.seat j).row k) (row_in (b.mail p) k) (w.seats j k) (w.mail p k)) (omega arith)
      (slot_for b q) (put b.mail p none) (put_past b b.mail p none (λ k. omega arith) w.mail)
  done_past X (reset j q) =
      quiet_past b w j (b.seat j).row (turn Z (own b j)) (w.seats j) (grows (phases b j)) (slot_for b q) b.mail w.mail
  done_past X (drop s) =
      record { seats = w.seats; mail = w.mail; shelf = put_past b b.shelf s none (λ k. omega arith) w.shelf }
  done_past X (discard p) =
      record { seats = w.seats; mail = put_past b b.mail p none (λ k. omega arith) w.mail; shelf = w.shelf }
  done_past X (ask q) = w

  -- any act
  pub step_past : (X : Setup) (c : Act) → NoneAhead (step Z X b c).tables
  unfolding step
  step_past X c = go (why Z X b c)
    where
      go : (n : ℕ) → NoneAhead (settle n b (done Z X b c)).tables
      go zero = done_past X c
      go (suc n) = w

-- any call, on a book with its setup
pub call_past : (Z : Setup → Phases) → ((Y : Setup) (v : ℕ) → v ≤ (Z Y).next v) → (b : Book) → NoneAhead b.tables → (c : Call)
    → NoneAhead (call Z b c).book.tables
unfolding call
call_past Z grows b w (start X) = go (first (reasons_of Z b (start X)))
  where
    go : (n : ℕ) → NoneAhead (settled n b (record { answer = accepted nothing; book = fresh_book X })).book.tables
    go zero = fresh_past
    go (suc n) = w
call_past Z grows b w (on c) = step_past (Z b.setup) (grows b.setup) b.tables w b.setup c

after_past : (s : State) → NoneAhead s.book.tables → (cs : List Call) → NoneAhead (after s cs).book.tables
unfolding after next
after_past s w [] = w
after_past s w (c ∷ cs) = after_past (next s c) (call_past _ (λ Y v. omega arith) s.book w c) cs

-- THE LAW: after any calls on the line, under any setup, no phase is later than its desk's own one. Each state that a run meets is
-- that after the first few of its calls, so no lag is ever asked of a later phase.
pub never_ahead : (X : Setup) (cs : List Call) → NoneAhead (after (begin X) cs).book.tables
never_ahead X cs = after_past (begin X) fresh_past cs
