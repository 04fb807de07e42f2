-- DEMAND 3 over bytes, stamps off the book: records of stamps that a run has given out, read under its setup.
-- Assumes nothing.
use mathlib.Core.Path.{◌≡◌, refl, ap, sym, ◌∙◌, subst}
use mathlib.Core.Bool.{Bool, true, false, false≢true}
use mathlib.Core.Option.{Option, none, some}
use mathlib.Core.List.{List, ◌∷◌}
use Prim.Native.Nat.{ℕ, zero, suc, ◌<◌, ◌≤◌}
use native.Mathlib.Omega.{arith}
use borrow.Author.Tests.{lt-ltb, le-ltb}
use mathlib.Core.Logic.{⊎_elim}
use lib.ListN.{length}
use Rattle.tools.specs.Tests.{pick, all_of}
use Rattle.tools.proofs.Tests.{lt_or_le}
use Rattle.tools.specs.Tables.{Each}
use Rattle.tools.proofs.Tables.{put_same, some_is, none_some}
use Rattle.ring.specs.Phases.{Pair, ring}
use Rattle.rules.specs.Model.{Row, Seat, Held, Tables, Label, Question, slot_asked, Value}
use Rattle.rules.specs.Model.{Act, local, reset, send, receive, drop, discard, ask, before, compare, write, slot_of}
use Rattle.rules.specs.declared.Refusal.TheVariants.{BadBook}
use Rattle.rules.specs.Numbers.{number}
use Rattle.rules.specs.Model.{Answer, refusal, by_in, row_in, used, why, ask_tells, done, step, settle}
use Rattle.book.specs.Fits.{PairFits, RowFits, SlotFits, Fits}
use Rattle.rules.specs.Setups.{Setup, limit, permits}
use Rattle.rules.specs.Calls.{Book, Call, start, on, call}
use Rattle.history.specs.History.{State, begin, next, after, log_after, setup_after}
use Rattle.history.specs.Round.{round_book}
use Rattle.history.specs.Stamps.{label_held, owner_at, or_shown, stamp_in, stamp_given, Answered}
use Rattle.history.specs.Demand.{InReach, BeforeSaid, CompareSaid}
use Rattle.history.specs.Contract.{Meets}
use Rattle.history.proofs.Labels.{off_before, off_compare, off_newest}
use Rattle.history.proofs.Agree.{state_agree_before, state_agree_compare}
use Rattle.history.proofs.Alike.{ring_book}
use Rattle.rules.proofs.Setups.{Permitted, permitted}
use Rattle.history.proofs.Runs.{after_append}
use Rattle.history.proofs.Stamps.{next_setup, setup_stays, answered_stamp}
use Rattle.history.proofs.Substitute.{meets_reach}
use Rattle.rules.proofs.Accepted.{no_local, no_send, no_receive, no_reset, no_ask, Hands, no_stamp, row_of, stamp_of, hands}
use Rattle.book.proofs.Fits.{done_fits}
use Rattle.book.specs.Sound.{sound}
use Rattle.book.specs.Codec.{decode}
use Rattle.book.specs.Stamps.{pair_reads, write_stamp, read_stamp, filled}
use Rattle.labels.specs.Records.{Readable}
use Rattle.labels.proofs.Records.{read_write}
use Rattle.book.specs.Answers.{admits, turn_on, answer_to, book_after, target_after, before_of, compare_of}
use Rattle.book.specs.Numbers.{tables_of, number_of}
use Rattle.book.proofs.Numbers.{accepted_answer, refused_answer}
use Rattle.book.proofs.Soundness.{sound_setup, sound_fits}
use Rattle.book.proofs.Answers.{answer_is}
use Rattle.promises.specs.Runs.{bytes_after}
use Rattle.promises.specs.Records.{stamp_from, Recorded, read_under, NewestIs}
use Rattle.promises.proofs.Together.{ring_answer, together_start}
use Rattle.promises.proofs.Demand.{together}

-- a desk's row that fits in a book is one that a record can tell
pair_reads_lem : (X : Setup) (o B k : ℕ) (q : Pair) → PairFits X o B k q → pair_reads X k q ≡ true
unfolding pair_reads all_of
pair_reads_lem X o B k q f =
    ⊎_elim (λ (l : k < X.desks).
    let r = f.0 l in rw (lt-ltb k X.desks l, lt-ltb q.phase X.phases r.phase, lt-ltb q.clock (limit X k) r.clock))
    (λ (l : X.desks ≤ k). rw (le-ltb k X.desks l, f.1 l)) (lt_or_le k X.desks)

row_label : (X : Setup) (o : ℕ → ℕ) (B j : ℕ) (r : Row) → j < X.desks → RowFits X o B r → Readable X (record { owner = j; row = r })
row_label X o B j r l f = record { owner = l; row = λ k. pair_reads_lem X (o k) B k (r k) (f k) }

held_label : (X : Setup) (o : ℕ → ℕ) (s : ℕ) (h : Option Held) → Each (SlotFits X o s) h → used h ≡ true
    → Readable X (record { owner = by_in h; row = row_in h })
held_label X o s none w u = absurd (false≢true u)
held_label X o s (some m) w u = row_label X o X.shelf_lag m.by m.row w.by w.row

module _ (X : Setup) (ok : Permitted X) (b : Tables) (w : Fits X b) where
  -- the row that an event at j leaves in its seat
  event_label : (c : Act) → why (ring X.phases) X b c ≡ 0 → (j : ℕ) (r : Row) (e : Label) → j < X.desks
      → ((done (ring X.phases) X b c).tables.seat j).row ≡ r → some record { owner = j; row = r } ≡ some e → Readable X e
  event_label c z j r e l q p =
      subst (Readable X) (some_is p)
      (row_label X _ X.seat_lag j r l
      (subst (RowFits X _ X.seat_lag) q ((done_fits X ok b w c z).seats j l)))

  -- a question hands out no stamp but that of its slot
  ask_label : (q : Question) → why (ring X.phases) X b (ask q) ≡ 0 → (e : Label)
      → stamp_in (owner_at b (slot_asked q)) (ask_tells (ring X.phases) X b q) ≡ some e → Readable X e
  ask_label q z e p = go (hands (ring X.phases) X b q)
    where
      kept : (s : ℕ) → slot_asked q ≡ some s → (v : Value) → ask_tells (ring X.phases) X b q ≡ v
          → stamp_in (by_in (b.shelf s)) v ≡ some record { owner = by_in (b.shelf s); row = row_in (b.shelf s) } → Readable X e
      kept s n v m h =
          subst (Readable X) (some_is (sym h ∙ sym (λ i. stamp_in (owner_at b (n i)) (m i)) ∙ p))
          (held_label X _ s (b.shelf s) (w.shelf s) (no_ask _ X b q s n z).0)

      go : Hands (ring X.phases) X b q → Readable X e
      go (no_stamp n m r) = absurd (none_some (sym (λ i. or_shown (owner_at b (slot_asked q)) (m i) (r i)) ∙ p))
      go (row_of s n m) = kept s n _ m refl
      go (stamp_of s n m) = kept s n _ m refl

  done_label : (c : Act) → why (ring X.phases) X b c ≡ 0 → (e : Label)
      → stamp_in (owner_at b (slot_of c)) (done (ring X.phases) X b c).answer.value ≡ some e → Readable X e
  unfolding done
  done_label (local j q) z e p =
      event_label (local j q) z j _ e (no_local _ X b j q z).0 (ap (λ (s : Seat). s.row) (put_same b.seat j _)) p
  done_label (send j k q) z e p =
      event_label (send j k q) z j _ e (no_send _ X b j k q z).0 (ap (λ (s : Seat). s.row) (put_same b.seat j _)) p
  done_label (receive j i q) z e p =
      event_label (receive j i q) z j _ e (no_receive _ X b j i q z).0 (ap (λ (s : Seat). s.row) (put_same b.seat j _)) p
  done_label (reset j q) z e p =
      event_label (reset j q) z j _ e (no_reset _ X b j q z).0 (ap (λ (s : Seat). s.row) (put_same b.seat j _)) p
  done_label (drop s) z e p = absurd (none_some p)
  done_label (discard i) z e p = absurd (none_some p)
  done_label (ask q) z e p = ask_label q z e p

  -- every stamp that an act is answered is in range
  pub step_label : (c : Act) (e : Label)
      → stamp_in (owner_at b (slot_of c)) (step (ring X.phases) X b c).answer.value ≡ some e → Readable X e
  unfolding step
  step_label c e = go (why (ring X.phases) X b c) refl
    where
      go : (n : ℕ) → why (ring X.phases) X b c ≡ n
          → stamp_in (owner_at b (slot_of c)) (settle n b (done (ring X.phases) X b c)).answer.value ≡ some e → Readable X e
      go zero z p = done_label c z e p
      go (suc n) z p = absurd (none_some p)

-- every stamp that any call answers, on any bytes, reads again from its record, under the book's setup
pub answered_reads : (s : List ℕ) (c : Act) (e : Label) → stamp_from s c ≡ some e
    → read_stamp (decode s).setup (write_stamp (decode s).setup.desks e) ≡ some e
unfolding answer_to admits call
answered_reads s c e = go (sound s) refl
  where
    go : (t : Bool) → sound s ≡ t
        → stamp_in (owner_at (decode s).tables (slot_of c)) (pick t (turn_on s (on c)).answer (refusal (number BadBook))).value ≡ some e
        → read_stamp (decode s).setup (write_stamp (decode s).setup.desks e) ≡ some e
    go false h p = absurd (none_some p)
    go true h p =
        let ok = permitted (decode s).setup (sound_setup s h) in
        read_write (decode s).setup ok.few e (step_label (decode s).setup ok (decode s).tables (sound_fits s h) c e p)

-- the bytes that write fills in are the record of the stamp that it is answered
pub written_record : (s : List ℕ) (i : ℕ) (t : List ℕ) (e : Label) → stamp_from s (write i (length t)) ≡ some e
    → target_after s i t ≡ filled t (write_stamp (decode s).setup.desks e)
unfolding done ask_tells
written_record s i t e g = go (number_of s (write i (length t))) refl
  where
    go : (n : ℕ) → number_of s (write i (length t)) ≡ n → target_after s i t ≡ filled t (write_stamp (decode s).setup.desks e)
    go zero z =
        let a = accepted_answer s (write i (length t)) z in
        let q : e ≡ record { owner = by_in ((tables_of s).shelf i); row = row_in ((tables_of s).shelf i) } =
        sym (some_is (ap (λ (b : Answer). stamp_in (by_in ((tables_of s).shelf i)) b.value) a ∙ g)) in
        rw (← a, q)
    go (suc n) z =
        let a = refused_answer s (write i (length t)) (suc n) (sym z) (λ y. omega arith) in
        absurd (none_some (ap (λ (b : Answer). stamp_in (by_in ((tables_of s).shelf i)) b.value) a ∙ g))

-- s: the bytes that start was given, whatever they were
module _ (s : List ℕ) (X : Setup) (started : (answer_to s (start X)).number ≡ 0) (cs : List Call) where
  abbrev bytes : List ℕ
  bytes = bytes_after (book_after s (start X)) cs

  few : (setup_after X cs).desks ≤ 8
  few = (permitted (setup_after X cs) (together s X started cs).faithful.permits).few

  fair : permits X ≡ true
  fair = (together_start s X started).faithful.permits

  module _ (r : List ℕ) (x : ℕ) (k : Recorded s X cs r x) where
    abbrev then : List ℕ
    then = bytes_after (book_after s (start X)) k.earlier

    -- the stamp is one that the ring's run of the rules answers
    answered : Answered X cs k.stamp x
    unfolding admits
    answered =
        let w = together s X started k.earlier in
        record {
          earlier = k.earlier;
          act = k.act;
          later = k.later;
          order = k.order;
          ongoing = k.ongoing;
          given =
              ap (λ (b : Book). stamp_given b k.act) (ring_book X fair k.earlier ∙ sym w.told)
              ∙ ap (λ (a : Answer). stamp_in (owner_at (decode then).tables (slot_of k.act)) a.value)
              (sym (answer_is then (on k.act) w.whole))
              ∙ k.given;
          event = k.event;
        }

    -- the setup is that of the time when the stamp was given
    same_setup : read_under X cs ≡ setup_after X k.earlier
    unfolding after
    same_setup =
        let t = after (begin X) k.earlier in
        ap (setup_after X) k.order
        ∙ ap (λ (u : State). u.book.setup) (after_append (begin X) k.earlier (on k.act ∷ k.later))
        ∙ setup_stays (next t (on k.act)) k.later k.ongoing ∙ next_setup t k.act

    -- and its record tells it again
    reads : read_stamp (read_under X cs) r ≡ some k.stamp
    reads =
        let w = together s X started k.earlier in
        subst (λ (q : List ℕ). read_stamp (read_under X cs) q ≡ some k.stamp) k.written
        (subst (λ (Y : Setup). read_stamp Y (write_stamp Y.desks k.stamp) ≡ some k.stamp)
        (ap (λ (b : Book). b.setup) w.told ∙ sym same_setup)
        (answered_reads then k.act k.stamp k.given))

  -- two records that the run has given out
  module _ (r q : List ℕ) (x y : ℕ) (a : Recorded s X cs r x) (c : Recorded s X cs q y) where
    -- Before says yes exactly when a chain leads from the one event to the other.
    pub records_before : InReach (setup_after X cs) (log_after X cs) x y
        → BeforeSaid (log_after X cs) x y (before_of (read_under X cs) r q)
    records_before l =
        rw (reads r x a, reads q y c) (off_before X fair cs x y a.stamp c.stamp (answered r x a) (answered q y c) l)

    -- Compare's word is how the one event stands to the other.
    pub records_compare : InReach (setup_after X cs) (log_after X cs) x y → InReach (setup_after X cs) (log_after X cs) y x
        → CompareSaid (log_after X cs) x y (compare_of (read_under X cs) r q)
    records_compare l m =
        rw (reads r x a, reads q y c) (off_compare X fair cs x y a.stamp c.stamp (answered r x a) (answered q y c) l m)

    -- Newest is the one that is after the other, the first if they are of one event, neither if they are concurrent.
    pub records_newest : InReach (setup_after X cs) (log_after X cs) x y → InReach (setup_after X cs) (log_after X cs) y x
        → NewestIs (read_under X cs) (log_after X cs) x y r q
    records_newest l m =
        rw (reads r x a, reads q y c) (off_newest X fair cs x y a.stamp c.stamp (answered r x a) (answered q y c) l m)

    -- both events are of the log
    there : x < (log_after X cs).count
    there = (answered_stamp X fair cs a.stamp x (answered r x a)).is

    here : y < (log_after X cs).count
    here = (answered_stamp X fair cs c.stamp y (answered q y c)).is

    -- Where the events meet the contract of resettable vector clocks, before is accepted and says whether a chain leads from the
    -- one to the other.
    pub contract_records_before : Meets (log_after X cs) (setup_after X cs).back (setup_after X cs).ahead x y
        → BeforeSaid (log_after X cs) x y (before_of (read_under X cs) r q)
    contract_records_before w = records_before (meets_reach X fair cs x y there here w)

    -- Where they do both ways, compare is, and says how the one stands to the other.
    pub contract_records_compare : Meets (log_after X cs) (setup_after X cs).back (setup_after X cs).ahead x y
        → Meets (log_after X cs) (setup_after X cs).back (setup_after X cs).ahead y x
        → CompareSaid (log_after X cs) x y (compare_of (read_under X cs) r q)
    contract_records_compare w w' = records_compare (meets_reach X fair cs x y there here w) (meets_reach X fair cs y x here there w')

  -- two kept stamps, and the records that are written from them
  module _ (i j : ℕ) (e f : Held) (pe : (decode bytes).tables.shelf i ≡ some e) (pf : (decode bytes).tables.shelf j ≡ some f) where
    slot_is : (k : ℕ) (m : Held) → (decode bytes).tables.shelf k ≡ some m → (round_book (after (begin X) cs).book).tables.shelf k ≡ some m
    slot_is k m p = ap (λ (b : Book). b.tables.shelf k) (sym (together s X started cs).told) ∙ p

    slot_reads : (k : ℕ) (m : Held) → (decode bytes).tables.shelf k ≡ some m
        → read_stamp (read_under X cs) (write_stamp (setup_after X cs).desks (label_held m)) ≡ some (label_held m)
    slot_reads k m p =
        let w = together s X started cs in
        read_write (setup_after X cs) few (label_held m)
        (subst (λ (Y : Setup). Readable Y (label_held m)) (ap (λ (b : Book). b.setup) w.told)
        (subst (λ (o : Option Held). Readable (decode bytes).setup (record { owner = by_in o; row = row_in o })) p
        (held_label (decode bytes).setup _ k ((decode bytes).tables.shelf k) ((sound_fits bytes w.whole).shelf k) (ap used p))))

    -- When the book accepts, the records get the same answer.
    pub same_off_before : (answer_to bytes (on (before i j))).number ≡ 0
        → before_of (read_under X cs) (write_stamp (setup_after X cs).desks (label_held e)) (write_stamp (setup_after X cs).desks (label_held f))
        ≡ answer_to bytes (on (before i j))
    same_off_before z =
        let w = together s X started cs in
        let g = ring_answer bytes _ w (on (before i j)) in
        rw (slot_reads i e pe, slot_reads j f pf)
        (state_agree_before _ w.faithful i j e f (slot_is i e pe) (slot_is j f pf) (ap (λ (a : Answer). a.number) (sym g) ∙ z) ∙ sym g)

    pub same_off_compare : (answer_to bytes (on (compare i j))).number ≡ 0
        → compare_of (read_under X cs) (write_stamp (setup_after X cs).desks (label_held e)) (write_stamp (setup_after X cs).desks (label_held f))
        ≡ answer_to bytes (on (compare i j))
    same_off_compare z =
        let w = together s X started cs in
        let g = ring_answer bytes _ w (on (compare i j)) in
        rw (slot_reads i e pe, slot_reads j f pf)
        (state_agree_compare _ w.faithful i j e f (slot_is i e pe) (slot_is j f pf) (ap (λ (a : Answer). a.number) (sym g) ∙ z) ∙ sym g)
