-- DEMAND 3, two kept stamps, over any calls: on the ring's book before says yes exactly when a chain leads from the first
-- event to the second, compare says how they stand, out of reach is answered exactly when the true phases differ by more than
-- the setup permits, and crossed is never answered.
-- Assumes nothing.
use mathlib.Core.Path.{◌≡◌, refl, ap, sym, ◌∙◌, subst}
use mathlib.Core.Bool.{true, false≢true}
use mathlib.Core.Option.{Option, none, some}
use mathlib.Core.List.{List}
use Prim.Native.Nat.{ℕ}
use native.Mathlib.Omega.{arith}
use native.Mathlib.Decide.{dec_lt}
use Rattle.ring.specs.Phases.{line}
use Rattle.rules.specs.declared.Relation.{Relation}
use Rattle.rules.specs.declared.Relation.TheVariants.{Crossed}
use Rattle.rules.specs.Setups.{Setup, permits}
use Rattle.tools.proofs.Tables.{some_is, none_some}
use Rattle.rules.specs.Model.{Held, before, compare, used, Value, relates, nothing, Answer, refusal, step}
use Rattle.rules.specs.Calls.{Book, Call, on, Turn, fresh_book, ring_of, call}
use Rattle.history.specs.History.{Log, State, begin, after, log_after, setup_after}
use Rattle.history.specs.Round.{modulo, map_value, round_book, round_answer}
use Rattle.history.specs.Runs.{left}
use Rattle.history.specs.Demand.{InReach, BeforeIs, CompareIs, Stands}
use Rattle.history.proofs.Map.{used_map}
use Rattle.history.proofs.Before.{on_before, on_compare}
use Rattle.rules.proofs.Reasons.{refused}
use Rattle.history.proofs.Runs.{Faithful, allowed, faithful_run}
use Rattle.history.proofs.Alike.{act_alike, ring_book}

held : (o : Option Held) → used o ≡ true → (e : Held) × (o ≡ some e)
held none u = absurd (false≢true u)
held (some e) u = (e, refl)

-- the coming round leaves yes and no and the words as they are
before_round : (X : Setup) (h : Log) (x y P : ℕ) (a : Answer) → BeforeIs X h x y a → BeforeIs X h x y (round_answer P a)
before_round X h x y P a w =
    record { out = w.out; said = λ i. let t = w.said i in (t.0, t.1, ap (map_value (modulo P)) t.2, t.3) }

compare_round : (X : Setup) (h : Log) (x y P : ℕ) (a : Answer) → CompareIs X h x y a → CompareIs X h x y (round_answer P a)
compare_round X h x y P a w =
    record { out = w.out; said = λ i i'. let t = w.said i i' in (t.0, t.1, ap (map_value (modulo P)) t.2, t.3) }

pub both_dec : {A B : Type 0} → Dec A → Dec B → Dec (A × B)
both_dec (yes a) (yes b) = yes (a, b)
both_dec (yes a) (no b) = no (λ p. b p.1)
both_dec (no a) d = no (λ p. a p.0)

pub in_reach? : (X : Setup) (h : Log) (x y : ℕ) → Dec (InReach X h x y)
in_reach? X h x y = both_dec (dec_lt _ _) (dec_lt _ _)

-- in a faithful state; both slots are used in the ring's book
module _ (s : State) (w : Faithful s) (i j : ℕ)
    (ui : used ((round_book s.book).tables.shelf i) ≡ true) (uj : used ((round_book s.book).tables.shelf j) ≡ true) where
  abbrev X : Setup
  X = s.book.setup

  slot_at : (k : ℕ) → used ((round_book s.book).tables.shelf k) ≡ true → (e : Held) × (s.book.tables.shelf k ≡ some e)
  slot_at k u = held _ (sym (used_map (modulo X.phases) (s.book.tables.shelf k)) ∙ u)

  pub state_before : BeforeIs X s.history.log (s.history.kept i) (s.history.kept j)
      (call ring_of (round_book s.book) (on (before i j))).answer
  state_before =
      let e = slot_at i ui in
      let f = slot_at j uj in
      rw (act_alike s w (before i j))
      (before_round X _ _ _ X.phases (step line X s.book.tables (before i j)).answer
      (on_before X (allowed s w) s.book.tables s.history w.good i j e.0 f.0 e.1 f.1))

  pub state_compare : CompareIs X s.history.log (s.history.kept i) (s.history.kept j)
      (call ring_of (round_book s.book) (on (compare i j))).answer
  state_compare =
      let e = slot_at i ui in
      let f = slot_at j uj in
      rw (act_alike s w (compare i j))
      (compare_round X _ _ _ X.phases (step line X s.book.tables (compare i j)).answer
      (on_compare X (allowed s w) s.book.tables s.history w.good i j e.0 f.0 e.1 f.1))

-- the words that compare may answer, by what it is
pub compare_words : (X : Setup) (h : Log) (x y : ℕ) (a : Answer) → ((a.number ≡ 0 → ⊥) → a ≡ refusal a.number) → CompareIs X h x y a
    → (r : Relation) → a.value ≡ relates r → Stands h x y r
compare_words X h x y a only w r v = go (both_dec (in_reach? X h x y) (in_reach? X h y x))
  where
    go : Dec (InReach X h x y × InReach X h y x) → Stands h x y r
    go (yes (p, q)) =
        let t = w.said p q in
        let e : relates t.0 ≡ relates r = sym t.2 ∙ v in
        subst (Stands h x y) (some_is (ap (λ (u : Value). u.relation) e)) t.3
    go (no n) =
        let e : a ≡ refusal a.number = only (λ z. let y = w.out.1 n in omega arith) in
        let q : nothing ≡ relates r = sym (ap (λ (b : Answer). b.value) e) ∙ v in
        absurd (none_some (ap (λ (u : Value). u.relation) q))

-- after any calls from a fresh book on
module _ (X : Setup) (fair : permits X ≡ true) (cs : List Call) (i j : ℕ)
    (ui : used ((left ring_of (fresh_book X) cs).tables.shelf i) ≡ true)
    (uj : used ((left ring_of (fresh_book X) cs).tables.shelf j) ≡ true) where
  abbrev behind : ℕ → ℕ
  behind = (after (begin X) cs).history.kept

  slot_used : (k : ℕ) → used ((left ring_of (fresh_book X) cs).tables.shelf k) ≡ true
      → used ((round_book (after (begin X) cs).book).tables.shelf k) ≡ true
  slot_used k u = ap (λ (b : Book). used (b.tables.shelf k)) (sym (ring_book X fair cs)) ∙ u

  -- Of two kept stamps within reach the first is before exactly when a chain leads from its event to the other's; out of reach
  -- is answered exactly when the true phases at the first one's desk differ by more than the setup permits.
  pub kept_before : BeforeIs (setup_after X cs) (log_after X cs) (behind i) (behind j)
      (call ring_of (left ring_of (fresh_book X) cs) (on (before i j))).answer
  kept_before =
      rw (ring_book X fair cs)
      (state_before (after (begin X) cs) (faithful_run X fair cs) i j (slot_used i ui) (slot_used j uj))

  -- Compare says before, after, same or concurrent as the history has it; out of reach, likewise, at either's desk.
  pub kept_compare : CompareIs (setup_after X cs) (log_after X cs) (behind i) (behind j)
      (call ring_of (left ring_of (fresh_book X) cs) (on (compare i j))).answer
  kept_compare =
      rw (ring_book X fair cs)
      (state_compare (after (begin X) cs) (faithful_run X fair cs) i j (slot_used i ui) (slot_used j uj))

  pub kept_words : (r : Relation) → (call ring_of (left ring_of (fresh_book X) cs) (on (compare i j))).answer.value ≡ relates r
      → Stands (log_after X cs) (behind i) (behind j) r
  kept_words =
      compare_words (setup_after X cs) (log_after X cs) (behind i) (behind j) _
      (λ ne. ap (λ (t : Turn). t.answer) (refused ring_of (left ring_of (fresh_book X) cs) (on (compare i j)) ne)) kept_compare

  pub never_crossed : (call ring_of (left ring_of (fresh_book X) cs) (on (compare i j))).answer.value ≡ relates Crossed → ⊥
  never_crossed e = kept_words Crossed e
