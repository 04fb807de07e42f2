-- Every stamp that the ring answers is that of an event of the history, come round, and stays so until the next accepted start.
-- Assumes nothing.
use mathlib.Core.Path.{◌≡◌, refl, ap, sym, ◌∙◌, subst}
use mathlib.Core.Bool.{Bool, true, false, false≢true}
use mathlib.Core.Option.{Option, none, some}
use mathlib.Core.List.{List, [], ◌∷◌}
use Prim.Native.Nat.{ℕ, zero, suc, ◌≤◌, ◌<◌}
use native.Mathlib.Omega.{arith}
use Rattle.tools.specs.Tables.{Each}
use Rattle.tools.specs.Reasons.{if_done}
use Rattle.tools.proofs.Tables.{put_same, put_other, some_is, none_some}
use Rattle.ring.specs.Phases.{line}
use Rattle.rules.specs.Setups.{Setup, permits}
use Rattle.rules.specs.Model.{Row, Held, Label, Question, slot_asked, Act, local, reset, send, receive, drop, discard, ask, slot_of}
use Rattle.rules.specs.Model.{Value, Answer, by_in, row_in, used, why, ask_tells, done, step, settle}
use Rattle.rules.specs.Calls.{Book, Call, start, on, call}
use Rattle.history.specs.Round.{modulo, map_held, map_stamp, map_shown, map_value, round_row, round_book}
use Rattle.history.specs.History.{Kind, Log, History, State, logged, adds, none_yet, begin, next, after, log_after, setup_after}
use Rattle.history.specs.Stamps.{label_held, StampOf, owner_at, or_shown, stamp_in, stamp_given, event_at, event_of, Ongoing, Answered}
use Rattle.rules.proofs.Steps.{step_number}
use Rattle.rules.proofs.Accepted.{no_ask, Hands, no_stamp, row_of, stamp_of, hands}
use Rattle.history.proofs.Good.{Behind}
use Rattle.history.proofs.Runs.{start_turn, Faithful, faithful_run, after_append}
use Rattle.history.proofs.Alike.{act_alike, ring_book}

-- the later log goes on from the earlier
pub record Onward (h h' : Log) : Type 0 where
  pub longer : h.count ≤ h'.count
  pub desks : (i : ℕ) → i < h.count → h'.desk i ≡ h.desk i
  pub rows : (i : ℕ) → i < h.count → h'.row i ≡ h.row i

same_log : (h : Log) → Onward h h
same_log h = record { longer = omega arith; desks = λ i l. refl; rows = λ i l. refl }

one_more : (h : Log) (j : ℕ) (w : Kind) (r : Row) → Onward h (logged h j w r)
one_more h j w r =
    record {
      longer = omega arith;
      desks = λ i l. put_other h.desk h.count j i (omega arith);
      rows = λ i l. put_other h.row h.count r i (omega arith);
    }

abbrev now : State → Setup
now s = s.book.setup

-- the history that an accepted act makes, and the stamp in a value of the line, come round
abbrev added : State → Act → History
added s c = adds s.history s.book.tables c

abbrev round_stamp : State → Act → Value → Option Label
round_stamp s c v = stamp_in (owner_at (round_book s.book).tables (slot_of c)) (map_value (modulo (now s).phases) v)

module _ (s : State) where
  adds_on : (c : Act) → Onward s.history.log (added s c).log
  unfolding adds
  adds_on (local j q) = one_more s.history.log j _ _
  adds_on (send j k q) = one_more s.history.log j _ _
  adds_on (receive j p q) = one_more s.history.log j _ _
  adds_on (reset j q) = one_more s.history.log j _ _
  adds_on (drop t) = same_log s.history.log
  adds_on (discard p) = same_log s.history.log
  adds_on (ask q) = same_log s.history.log

  next_history : (c : Act) → (next s (on c)).history ≡ if_done (why line (now s) s.book.tables c) (added s c) s.history
  unfolding next call
  next_history c =
      ap (λ n. if_done n (added s c) s.history) (step_number line (now s) s.book.tables c)

  next_on : (c : Act) → Onward s.history.log (next s (on c)).history.log
  next_on c = rw (next_history c) (go (why line (now s) s.book.tables c))
    where
      go : (n : ℕ) → Onward s.history.log (if_done n (added s c) s.history).log
      go zero = adds_on c
      go (suc n) = same_log s.history.log

  pub next_setup : (c : Act) → (next s (on c)).book.setup ≡ now s
  unfolding next call
  next_setup c = refl

  -- a start that is not accepted changes nothing
  next_refused : (X : Setup) → permits X ≡ false → next s (start X) ≡ s
  unfolding next call
  next_refused X e = go (permits X) e
    where
      go : (t : Bool) → t ≡ false
          → let r = start_turn s.book X t in
          ◌≡◌ {A = State} (record { book = r.book; history = if_done r.answer.number none_yet s.history }) s
      go true e = absurd (false≢true (sym e))
      go false e = refl

pub stamp_onward : (X : Setup) (h h' : Log) (x : ℕ) (e : Label) → Onward h h' → StampOf X h x e → StampOf X h' x e
stamp_onward X h h' x e o w =
    record {
      is = (let a = o.longer in let c = w.is in omega arith);
      owner = o.desks x w.is ∙ w.owner;
      row = ap (round_row X.phases) (o.rows x w.is) ∙ w.row;
    }

abbrev pub StampIn : State → ℕ → Label → Type 0
StampIn s x e = StampOf s.book.setup s.history.log x e

-- a stamp stays that of its event through any calls among which no start is accepted
pub stamp_stays : (s : State) (cs : List Call) → Ongoing cs → (x : ℕ) (e : Label) → StampIn s x e → StampIn (after s cs) x e
unfolding after
stamp_stays s [] o x e w = w
stamp_stays s (start Y ∷ cs) o x e w = stamp_stays (next s (start Y)) cs o.1 x e (rw (next_refused s Y o.0) w)
stamp_stays s (on c ∷ cs) o x e w =
    stamp_stays (next s (on c)) cs o x e
    (rw (next_setup s c) (stamp_onward s.book.setup s.history.log (next s (on c)).history.log x e (next_on s c) w))

-- the setup stays through any calls among which no start is accepted
pub setup_stays : (s : State) (cs : List Call) → Ongoing cs → (after s cs).book.setup ≡ s.book.setup
unfolding after
setup_stays s [] o = refl
setup_stays s (start Y ∷ cs) o =
    setup_stays (next s (start Y)) cs o.1 ∙ ap (λ (t : State). t.book.setup) (next_refused s Y o.0)
setup_stays s (on c ∷ cs) o = setup_stays (next s (on c)) cs o ∙ next_setup s c

-- of an event that is added to the log
event_stamp : (X : Setup) (h : Log) (j : ℕ) (k : Kind) (r : Row) (e : Label)
    → some record { owner = j; row = round_row X.phases r } ≡ some e → StampOf X (logged h j k r) h.count e
event_stamp X h j k r e q =
    record {
      is = omega arith;
      owner = put_same h.desk h.count j ∙ ap (λ (l : Label). l.owner) (some_is q);
      row = ap (round_row X.phases) (put_same h.row h.count r) ∙ ap (λ (l : Label). l.row) (some_is q);
    }

-- of a used slot
held_stamp : (X : Setup) (h : Log) (x : ℕ) (o : Option Held) → used o ≡ true → Each (Behind h x) o
    → StampOf X h x (record { owner = by_in o; row = round_row X.phases (row_in o) })
held_stamp X h x none u w = absurd (false≢true u)
held_stamp X h x (some m) u w = record { is = w.0; owner = w.1; row = ap (round_row X.phases) w.2 }

by_round : (P : ℕ) (o : Option Held) → by_in o ≡ by_in (map_held (modulo P) o)
by_round P none = refl
by_round P (some m) = refl

module _ (s : State) (w : Faithful s) where
  -- THE PROMISE: the stamp of a used slot of the ring's book is that of the event behind the slot
  pub slot_stamp : (i : ℕ) (m : Held) → (round_book s.book).tables.shelf i ≡ some m → StampIn s (s.history.kept i) (label_held m)
  slot_stamp i m p = go (s.book.tables.shelf i) (w.good.shelf i) p
    where
      go : (o : Option Held) → Each (Behind s.history.log (s.history.kept i)) o → map_held (modulo (now s).phases) o ≡ some m
          → StampIn s (s.history.kept i) (label_held m)
      go none n q = absurd (none_some q)
      go (some v) n q =
          subst (λ (m : Held). StampIn s (s.history.kept i) (label_held m)) (some_is q)
          (held_stamp (now s) s.history.log _ (some v) refl n)

  abbrev slot_now : ℕ → Option Held
  slot_now t = s.book.tables.shelf t

  kept_stamp : (t : ℕ) → used (slot_now t) ≡ true
      → StampIn s (s.history.kept t) (record { owner = by_in (slot_now t); row = round_row (now s).phases (row_in (slot_now t)) })
  kept_stamp t u = held_stamp (now s) s.history.log (s.history.kept t) (slot_now t) u (w.good.shelf t)

  -- a question hands out no stamp but that of its slot
  ask_stamp : (a : Question) → why line (now s) s.book.tables (ask a) ≡ 0 → (e : Label)
      → round_stamp s (ask a) (ask_tells line (now s) s.book.tables a) ≡ some e
      → StampIn s (event_of s.history (ask a)) e
  ask_stamp a z e q = go (hands line (now s) s.book.tables a)
    where
      -- the stamp that is handed out, by the slot and the value
      handed : (o : Option ℕ) (v : Value) → slot_asked a ≡ o → ask_tells line (now s) s.book.tables a ≡ v
          → stamp_in (owner_at (round_book s.book).tables o) (map_value (modulo (now s).phases) v) ≡ some e
      handed o v n m =
          sym (λ i. stamp_in (owner_at (round_book s.book).tables (n i)) (map_value (modulo (now s).phases) (m i))) ∙ q

      -- the stamp of the slot
      kept : (t : ℕ) → slot_asked a ≡ some t
          → record { owner = by_in (slot_now t); row = round_row (now s).phases (row_in (slot_now t)) } ≡ e
          → StampIn s (event_of s.history (ask a)) e
      kept t n m =
          subst (λ (o : Option ℕ). StampIn s (event_at s.history o) e) (sym n)
          (subst (StampIn s (s.history.kept t)) m (kept_stamp t (no_ask line (now s) s.book.tables a t n z).0))

      go : Hands line (now s) s.book.tables a → StampIn s (event_of s.history (ask a)) e
      go (no_stamp n m r) =
          absurd (none_some
          (sym (λ i. or_shown (owner_at (round_book s.book).tables (slot_asked a)) (map_stamp (modulo (now s).phases) (m i))
          (map_shown (modulo (now s).phases) (r i))) ∙ q))
      go (row_of t n m) =
          kept t n
          (some_is
          ((λ i. some record { owner = by_round (now s).phases (slot_now t) i; row = round_row (now s).phases (row_in (slot_now t)) })
          ∙ handed (some t) _ n m))
      go (stamp_of t n m) = kept t n (some_is (handed (some t) _ n m))

  done_stamp : (c : Act) → why line (now s) s.book.tables c ≡ 0 → (e : Label)
      → round_stamp s c (done line (now s) s.book.tables c).answer.value ≡ some e
      → StampOf (now s) (added s c).log (event_of s.history c) e
  unfolding done adds
  done_stamp (local j q) z e p = event_stamp (now s) s.history.log j _ _ e p
  done_stamp (send j k q) z e p = event_stamp (now s) s.history.log j _ _ e p
  done_stamp (receive j i q) z e p = event_stamp (now s) s.history.log j _ _ e p
  done_stamp (reset j q) z e p = event_stamp (now s) s.history.log j _ _ e p
  done_stamp (drop t) z e p = absurd (none_some p)
  done_stamp (discard i) z e p = absurd (none_some p)
  done_stamp (ask a) z e p = ask_stamp a z e p

  step_stamp : (c : Act) (e : Label)
      → round_stamp s c (step line (now s) s.book.tables c).answer.value ≡ some e
      → StampOf (now s) (if_done (why line (now s) s.book.tables c) (added s c) s.history).log (event_of s.history c) e
  unfolding step
  step_stamp c e = go (why line (now s) s.book.tables c) refl
    where
      go : (n : ℕ) → why line (now s) s.book.tables c ≡ n
          → round_stamp s c (settle n s.book.tables (done line (now s) s.book.tables c)).answer.value ≡ some e
          → StampOf (now s) (if_done n (added s c) s.history).log (event_of s.history c) e
      go zero z q = done_stamp c z e q
      go (suc n) z q = absurd (none_some q)

  -- THE PROMISE: a stamp that the ring answers is that of the act's event
  pub stamp_next : (c : Act) (e : Label) → stamp_given (round_book s.book) c ≡ some e → StampIn (next s (on c)) (event_of s.history c) e
  stamp_next c e g =
      rw (next_setup s c, next_history s c)
      (step_stamp c e
      (ap (λ (a : Answer). stamp_in (owner_at (round_book s.book).tables (slot_of c)) a.value) (sym (act_alike s w c)) ∙ g))

-- a stamp that the ring answers in the middle of a run is that of an event of the whole run's history
pub answered_stamp : (X : Setup) → permits X ≡ true → (cs : List Call) (e : Label) (x : ℕ) → Answered X cs e x
    → StampOf (setup_after X cs) (log_after X cs) x e
unfolding after
answered_stamp X fair cs e x a =
    let s = after (begin X) a.earlier in
    let g : stamp_given (round_book s.book) a.act ≡ some e =
    ap (λ (b : Book). stamp_given b a.act) (sym (ring_book X fair a.earlier)) ∙ a.given in
    let whole : after (begin X) cs ≡ after (next s (on a.act)) a.later =
    ap (after (begin X)) a.order ∙ after_append (begin X) a.earlier (on a.act ∷ a.later) in
    subst (λ (t : State). StampIn t x e) (sym whole)
    (stamp_stays (next s (on a.act)) a.later a.ongoing x e
    (subst (λ n. StampIn (next s (on a.act)) n e) a.event (stamp_next s (faithful_run X fair a.earlier) a.act e g)))
