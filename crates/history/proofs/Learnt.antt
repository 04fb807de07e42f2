-- HOW MUCH WAS LEARNT, over the history: a receive learns of desk k exactly where an event of k is behind it that was not behind the
-- receiver's event before; and of none exactly where the mail told nothing.
-- Assumes nothing.
use mathlib.Core.Path.{◌≡◌, refl, ap, sym, ◌∙◌, subst}
use mathlib.Core.Bool.{Bool, true, false, not}
use mathlib.Core.Option.{some}
use mathlib.Core.Logic.{inl, inr, ◌↔◌}
use Prim.Native.Nat.{ℕ, ◌≤◌, ◌<◌}
use native.Mathlib.Omega.{arith}
use native.Mathlib.Decide.{ℕ_discrete}
use lib.Dec.{ltb, eqb}
use borrow.Author.Tests.{eqb-false, ltb-true, not-true}
use Rattle.tools.proofs.Tests.{and_true_l, and_true_r, count_zero, zero_count}
use Rattle.tools.proofs.Tables.{put_same, some_is}
use Rattle.ring.specs.Phases.{ring, line, Pair}
use Rattle.ring.proofs.Ring.{later_takes, later_stays}
use Rattle.rules.specs.Setups.{Setup}
use Rattle.rules.specs.Model.{Row, Seat, Tables, Answer, receive, zeros, own, row_in, merged, taken, learns, learnt, why}
use Rattle.rules.specs.Model.{done, settle, step}
use Rattle.rules.specs.Calls.{on, ring_of, line_of, call}
use Rattle.rules.proofs.Setups.{Permitted}
use Rattle.rules.proofs.Accepted.{no_receive}
use Rattle.rules.proofs.Acts.{merged_other, learns_changed, learns_other}
use Rattle.rules.proofs.Steps.{step_number}
use Rattle.history.specs.History.{Receive, Log, History, Leads, logged, adds, State, next}
use Rattle.history.specs.Round.{modulo, round_tables, round_book}
use Rattle.history.specs.Vector.{Upto}
use Rattle.history.specs.Learnt.{Knew, Tells, LearntSaid}
use Rattle.history.proofs.Keys.{key, later_key}
use Rattle.history.proofs.Causal.{Origin, seen, Fits, causal_next, leads_lt, old_desk, up_to, down_to, of_new, old_new}
use Rattle.history.proofs.Good.{SeatOf, Good, seat_clock, seat_tells, merging, mail_of}
use Rattle.history.proofs.Map.{receive_map}
use Rattle.history.proofs.Sim.{ring_agrees}
use Rattle.history.proofs.Runs.{Faithful, allowed}
use Rattle.history.proofs.Alike.{act_alike}

-- an accepted receive at j from the place p, on the line
module _ (X : Setup) (ok : Permitted X) (b : Tables) (h : History) (g : Good X b h) (j p : ℕ) (q : Bool)
    (z : why line X b (receive j p q) ≡ 0) where
  abbrev m : Row
  m = row_in (b.mail p)

  abbrev r : Row
  r = merged line b j m

  abbrev e : ℕ
  e = h.log.count

  abbrev h' : Log
  h' = logged h.log j (Receive (h.mailed p)) r

  sent : (h.mailed p < e) × (h.log.row (h.mailed p) ≡ m)
  sent = mail_of X ok b h g p (no_receive line X b j p q z).1

  fit : Fits X h.log j (Receive (h.mailed p)) r
  fit =
      let n = no_receive line X b j p q z in
      merging X ok b h g j (h.mailed p) m sent.0 sent.1 (g.bounded.past.mail p) n.0 n.2

  at_j : h'.desk e ≡ j
  at_j = put_same h.log.desk e j

  same_desk : (x : ℕ) → x < e → h'.desk x ≡ h.log.desk x
  same_desk = old_desk X h.log g.causal j (Receive (h.mailed p)) r fit

  -- what is behind the receive but itself came earlier
  earlier : (x : ℕ) → Leads h' x e → x < e
  earlier x l = leads_lt h' (causal_next X h.log g.causal j (Receive (h.mailed p)) r fit).caused l

  -- its desk knew of an event exactly where its seat did
  knew_seat : (x : ℕ) → x < e → Knew h' e x → seen h.log x x ≤ key ((b.seat j).row (h.log.desk x))
  knew_seat x a (f, (l, d, last), u) =
      seat_tells X ok b h g j x f a l (down_to X h.log g.causal j (Receive (h.mailed p)) r fit x f l u)
      (sym (same_desk f l) ∙ d ∙ at_j)

  seat_knew : (x : ℕ) → x < e → seen h.log x x ≤ key ((b.seat j).row (h.log.desk x)) → Knew h' e x
  seat_knew x a l = go (b.seat j).started (g.seats j)
    where
      go : (t : Bool) → SeatOf h.log j t (b.seat j).row → Knew h' e x
      go true s = (
        s.0,
        (s.1, same_desk s.0 s.1 ∙ s.2 ∙ sym at_j, λ i k d. s.4 i k (sym (same_desk i k) ∙ d ∙ at_j)),
        up_to X h.log g.causal j (Receive (h.mailed p)) r fit x s.0 s.1
            (g.causal.complete x s.0 a s.1 (rw s.3 l)),
      )
      go false s =
          let y : key ((b.seat j).row (h.log.desk x)) ≡ key (zeros (h.log.desk x)) =
          ap (λ (ρ : Row). key (ρ (h.log.desk x))) s.0 in
          let w = g.causal.positive x a in
          absurd (omega arith)

  -- what the receive leaves for another desk: the mail's pair where that is later, else the seat's
  module _ (k : ℕ) (ne : k ≡ j → ⊥) where
    by_key : (taken line b j m k).changed ≡ ltb (key ((b.seat j).row k)) (key (m k))
    by_key =
        later_key (own b k).phase ((b.seat j).row k) (m k) (g.bounded.past.seats j k) (g.bounded.past.mail p k)
        (seat_clock X ok b h g j k).0 (rw sent.1 at (g.causal.clocks (h.mailed p) sent.0 k).0)

    takes : (taken line b j m k).changed ≡ true → r k ≡ m k
    takes t = merged_other line X b j m k ne ∙ later_takes line (own b k).phase ((b.seat j).row k) (m k) t

    stays : (taken line b j m k).changed ≡ false → r k ≡ (b.seat j).row k
    stays t = merged_other line X b j m k ne ∙ later_stays line (own b k).phase ((b.seat j).row k) (m k) t

    -- where the pair changes, it is that of an event which the desk did not know of
    changed_tells : (taken line b j m k).changed ≡ true → Tells h' e k
    changed_tells t = go (rw sent.1 at (g.causal.origin (h.mailed p) sent.0 k))
      where
        less : key ((b.seat j).row k) < key (m k)
        less = ltb-true _ _ (sym by_key ∙ t)

        go : Origin h.log k (m k) → Tells h' e k
        go (inl w) = let y : key (m k) ≡ key (zeros k) = ap key w in absurd (omega (arith, less, y))
        go (inr (x, a, d, w)) =
            let y : seen h.log x x ≡ key (m k) = rw d (ap key w) in
            let v : key (r (h.log.desk x)) ≡ key (m k) = rw d (ap key (takes t)) in
            let u : key ((b.seat j).row (h.log.desk x)) ≡ key ((b.seat j).row k) = ap (λ i. key ((b.seat j).row i)) d in (
              x,
              same_desk x a ∙ d,
              inr (of_new X h.log g.causal j (Receive (h.mailed p)) r fit x a (omega (arith, y, v))),
              λ n. omega (arith, knew_seat x a n, y, u, less),
            )

    -- an event behind the receive is known to the row that it leaves
    behind : (x : ℕ) → h.log.desk x ≡ k → x < e → Upto h' x e → seen h.log x x ≤ key (r k)
    behind x d a u =
        subst (λ i. seen h.log x x ≤ key (r i)) d (old_new X h.log g.causal j (Receive (h.mailed p)) r fit x a u)

    tells_changed : Tells h' e k → (taken line b j m k).changed ≡ true
    tells_changed (x, d, inl w, n) = absurd (ne (sym d ∙ ap h'.desk w ∙ at_j))
    tells_changed (x, d, inr w, n) = go (taken line b j m k).changed refl
      where
        a : x < e
        a = earlier x w

        d' : h.log.desk x ≡ k
        d' = sym (same_desk x a) ∙ d

        go : (t : Bool) → (taken line b j m k).changed ≡ t → t ≡ true
        go true t = refl
        go false t =
            absurd (n (seat_knew x a (subst (λ i. seen h.log x x ≤ key ((b.seat j).row i)) (sym d')
            (subst (λ (y : Pair). seen h.log x x ≤ key y) (stays t) (behind x d' a (inr w))))))

  told_is : (k : ℕ) → (learns line b j m k ≡ true) ↔ ((k ≡ h'.desk e → ⊥) × Tells h' e k)
  told_is k = (
    λ t.
        let ne = eqb-false k j (not-true _ (and_true_l (not (eqb k j)) _ t)) in
        (λ i. ne (i ∙ at_j), changed_tells k ne (and_true_r (not (eqb k j)) _ t)),
    λ w. let ne : k ≡ j → ⊥ = λ i. w.0 (i ∙ sym at_j) in learns_changed line X b j m k ne ∙ tells_changed k ne w.1,
  )

  -- of no desk exactly where all that is behind the receive was known before
  nothing_told : (learnt line X b j m ≡ 0) ↔ ((x : ℕ) → Leads h' x e → Knew h' e x)
  nothing_told = (λ w x l. known w x (earlier x l) l (ℕ_discrete (h.log.desk x) j), none_told)
    where
      known : learnt line X b j m ≡ 0 → (x : ℕ) → x < e → Leads h' x e → Dec (h.log.desk x ≡ j) → Knew h' e x
      known w x a l (yes d) = seat_knew x a (seat_tells X ok b h g j x x a a (inl refl) d)
      known w x a l (no d) =
          let k = h.log.desk x in
          let t = sym (learns_changed line X b j m k d) ∙ count_zero X.desks (learns line b j m) w k (g.there x a) in
          seat_knew x a (subst (λ (y : Pair). seen h.log x x ≤ key y) (stays k d t) (behind k d x refl a (inr l)))

      none_told : ((x : ℕ) → Leads h' x e → Knew h' e x) → learnt line X b j m ≡ 0
      none_told f = zero_count X.desks (learns line b j m) (λ k l. off k (learns line b j m k) refl)
        where
          off : (k : ℕ) (t : Bool) → learns line b j m k ≡ t → t ≡ false
          off k false w = refl
          off k true w = absurd (deny ((told_is k).0 w))
            where
              deny : (k ≡ h'.desk e → ⊥) × Tells h' e k → ⊥
              deny (ne, (x, d, inl u, n)) = ne (sym d ∙ ap h'.desk u)
              deny (ne, (x, d, inr u, n)) = n (f x u)

-- the log with the receive, and the number that it answers on the line
module _ (s : State) (w : Faithful s) (j p : ℕ) (q : Bool) (accepted : (call line_of s.book (on (receive j p q))).answer.number ≡ 0) where
  abbrev received : State
  received = next s (on (receive j p q))

  abbrev answer : Answer
  answer = (call line_of s.book (on (receive j p q))).answer

  z : why line s.book.setup s.book.tables (receive j p q) ≡ 0
  unfolding call
  z = sym (step_number line s.book.setup s.book.tables (receive j p q)) ∙ accepted

  log_is : received.history.log
      ≡ logged s.history.log j (Receive (s.history.mailed p)) (merged line s.book.tables j (row_in (s.book.tables.mail p)))
  unfolding next call adds
  log_is = rw (step_number line s.book.setup s.book.tables (receive j p q), z)

  learnt_is : answer.value.learnt ≡ some (learnt line s.book.setup s.book.tables j (row_in (s.book.tables.mail p)))
  unfolding call step done
  learnt_is =
      let b = s.book.tables in
      ap (λ n. (settle n b (done line s.book.setup b (receive j p q))).answer.value.learnt) z

  told_by : (k : ℕ) → (learns line s.book.tables j (row_in (s.book.tables.mail p)) k ≡ true)
      ↔ ((k ≡ received.history.log.desk s.history.log.count → ⊥) × Tells received.history.log s.history.log.count k)
  told_by k = rw log_is (told_is s.book.setup (allowed s w) s.book.tables s.history w.good j p q z k)

  pub state_learnt : LearntSaid s.book.setup.desks received.history.log s.history.log.count answer
  state_learnt =
      record { told = learns line s.book.tables j (row_in (s.book.tables.mail p)); is = told_by; said = learnt_is }

  pub state_nothing : (answer.value.learnt ≡ some 0)
      ↔ ((x : ℕ) → Leads received.history.log x s.history.log.count → Knew received.history.log s.history.log.count x)
  state_nothing =
      let n = nothing_told s.book.setup (allowed s w) s.book.tables s.history w.good j p q z in
      rw log_is (λ i. n.0 (some_is (sym learnt_is ∙ i)), λ f. learnt_is ∙ ap some (n.1 f))

  -- on the ring the entry of another desk changes exactly where the receive tells of it
  module _ (k : ℕ) (ne : k ≡ j → ⊥) where
    abbrev rung : Tables
    rung = round_tables s.book.setup.phases s.book.tables

    learns_line : learns (ring s.book.setup.phases) rung j (row_in (rung.mail p)) k
        ≡ learns line s.book.tables j (row_in (s.book.tables.mail p)) k
    learns_line =
        receive_map (ring s.book.setup.phases) line (modulo s.book.setup.phases) s.book.setup s.book.tables
        (ring_agrees s.book.setup (allowed s w) s.book.tables w.good.bounded) j p q z k

    rung_done : why (ring s.book.setup.phases) s.book.setup rung (receive j p q) ≡ 0
    unfolding call
    rung_done =
        sym (step_number (ring s.book.setup.phases) s.book.setup rung (receive j p q))
        ∙ ap (λ (a : Answer). a.number) (act_alike s w (receive j p q)) ∙ accepted

    entry_is : ((call ring_of (round_book s.book) (on (receive j p q))).book.tables.seat j).row k
        ≡ merged (ring s.book.setup.phases) rung j (row_in (rung.mail p)) k
    unfolding call step done
    entry_is =
        ap (λ n. ((settle n rung (done (ring s.book.setup.phases) s.book.setup rung (receive j p q))).tables.seat j).row k) rung_done
        ∙ ap (λ (t : Seat). t.row k) (put_same rung.seat j _)

    pub ring_changes
        : (((call ring_of (round_book s.book) (on (receive j p q))).book.tables.seat j).row k ≡ (rung.seat j).row k → ⊥)
        ↔ Tells received.history.log s.history.log.count k
    ring_changes =
        let o = learns_other (ring s.book.setup.phases) s.book.setup rung j (row_in (rung.mail p)) k ne in
        let t = told_by k in
        let at = ap (λ (l : Log). l.desk s.history.log.count) log_is ∙ put_same s.history.log.desk s.history.log.count j in (
          λ d. (t.0 (sym learns_line ∙ o.1 (λ i. d (entry_is ∙ i)))).1,
          λ l. λ i. o.0 (learns_line ∙ t.1 (λ c. ne (c ∙ at), l)) (sym entry_is ∙ i),
        )
