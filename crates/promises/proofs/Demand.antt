-- DEMAND 3 over bytes: any calls since an accepted start, and the same calls with phases that never come round.
-- Assumes nothing.
use mathlib.Core.Path.{◌≡◌, refl, ap, sym, subst, ◌∙◌}
use mathlib.Core.Bool.{Bool, true}
use mathlib.Core.List.{List, [], ◌∷◌}
use mathlib.Core.Option.{some}
use mathlib.Core.Logic.{◌↔◌}
use Prim.Native.Nat.{ℕ, ◌<◌}
use lib.ListN.{length}
use Rattle.rules.specs.Setups.{Setup}
use Rattle.rules.specs.declared.Relation.{Relation}
use Rattle.rules.specs.declared.Relation.TheVariants.{Crossed}
use Rattle.rules.specs.Model.{receive, before, compare, picture, used, relates, Answer, chosen}
use Rattle.rules.specs.Calls.{Book, Call, start, on, line_of, call}
use Rattle.history.specs.History.{Log, Leads, State, begin, next, after, log_after, setup_after}
use Rattle.history.specs.Round.{round_book}
use Rattle.history.specs.Demand.{InReach, Stands, BeforeSaid, BeforeIs, CompareSaid, CompareIs}
use Rattle.history.specs.Contract.{Meets}
use Rattle.history.specs.Learnt.{Knew, Tells, LearntSaid}
use Rattle.history.specs.Picture.{PictureIs}
use Rattle.history.proofs.Shelf.{state_before, state_compare, compare_words}
use Rattle.history.proofs.Substitute.{kept_in_lem, meets_reach}
use Rattle.history.proofs.Learnt.{state_learnt, state_nothing, ring_changes}
use Rattle.history.proofs.Picture.{state_picture}
use Rattle.book.specs.Sound.{sound}
use Rattle.book.specs.Codec.{decode, encode}
use Rattle.book.specs.Answers.{answer_to, book_after}
use Rattle.book.proofs.Codec.{encode_decode}
use Rattle.book.proofs.Numbers.{answer_number, refused_answer}
use Rattle.promises.specs.Runs.{bytes_after, answers_on, line_answer, line_answers}
use Rattle.promises.proofs.Together.{Together, ring_answer, ring_book, same_answer, together_next, together_start, together_after}

answers_alike : (s : List ℕ) (t : State) → Together s t → (cs : List Call) → answers_on s cs ≡ line_answers t cs
unfolding answers_on line_answers
answers_alike s t w [] = refl
answers_alike s t w (c ∷ cs) =
    λ i. same_answer s t w c i ∷ answers_alike (book_after s c) (next t c) (together_next s t w c) cs i

-- s: the bytes that start was given, whatever they were
module _ (s : List ℕ) (X : Setup) (started : (answer_to s (start X)).number ≡ 0) (cs : List Call) where
  abbrev bytes : List ℕ
  bytes = bytes_after (book_after s (start X)) cs

  pub together : Together bytes (after (begin X) cs)
  together = together_after (book_after s (start X)) (begin X) (together_start s X started) cs

  -- Both accept and refuse alike, by the same number, and their stamps differ only by the coming round.
  pub same_answers : answers_on (book_after s (start X)) cs ≡ line_answers (begin X) cs
  same_answers = answers_alike (book_after s (start X)) (begin X) (together_start s X started) cs

  -- After the calls, however many, the bytes are sound and are those of the line's book, come round.
  pub still_sound : sound bytes ≡ true
  still_sound = together.whole

  pub same_book : bytes ≡ encode (round_book (after (begin X) cs).book)
  same_book = sym (encode_decode bytes together.whole) ∙ ap encode together.told

  abbrev behind : ℕ → ℕ
  behind = (after (begin X) cs).history.kept

  is_used : (k : ℕ) → used ((decode bytes).tables.shelf k) ≡ true → used ((round_book (after (begin X) cs).book).tables.shelf k) ≡ true
  is_used k u = ap (λ (b : Book). used (b.tables.shelf k)) (sym together.told) ∙ u

  -- two used slots, and the events behind them
  module _ (i j : ℕ) (ui : used ((decode bytes).tables.shelf i) ≡ true) (uj : used ((decode bytes).tables.shelf j) ≡ true) where
    -- Of two kept stamps within reach the first is before exactly when a chain leads from its event to the other's; out
    -- of reach is answered exactly when the true phases differ by more than the setup permits.
    pub before_chains : BeforeIs (setup_after X cs) (log_after X cs) (behind i) (behind j) (answer_to bytes (on (before i j)))
    before_chains =
        rw (ring_answer bytes _ together (on (before i j)))
        (state_before _ together.faithful i j (is_used i ui) (is_used j uj))

    -- Compare likewise, with both desks.
    pub compare_chains : CompareIs (setup_after X cs) (log_after X cs) (behind i) (behind j) (answer_to bytes (on (compare i j)))
    compare_chains =
        rw (ring_answer bytes _ together (on (compare i j)))
        (state_compare _ together.faithful i j (is_used i ui) (is_used j uj))

    meets : (k l : ℕ) → used ((decode bytes).tables.shelf k) ≡ true → used ((decode bytes).tables.shelf l) ≡ true
        → Meets (log_after X cs) (setup_after X cs).back (setup_after X cs).ahead (behind k) (behind l)
        → InReach (setup_after X cs) (log_after X cs) (behind k) (behind l)
    meets k l u v =
        let there = kept_in_lem (after (begin X) cs) together.faithful in
        meets_reach X (together_start s X started).faithful.permits cs (behind k) (behind l) (there k (is_used k u)) (there l (is_used l v))

    -- Where their events meet the contract of resettable vector clocks, before is accepted and says whether a chain leads from the
    -- one to the other.
    pub contract_before : Meets (log_after X cs) (setup_after X cs).back (setup_after X cs).ahead (behind i) (behind j)
        → BeforeSaid (log_after X cs) (behind i) (behind j) (answer_to bytes (on (before i j)))
    contract_before r = before_chains.said (meets i j ui uj r)

    -- Where they do both ways, compare is, and says how the one stands to the other.
    pub contract_compare : Meets (log_after X cs) (setup_after X cs).back (setup_after X cs).ahead (behind i) (behind j)
        → Meets (log_after X cs) (setup_after X cs).back (setup_after X cs).ahead (behind j) (behind i)
        → CompareSaid (log_after X cs) (behind i) (behind j) (answer_to bytes (on (compare i j)))
    contract_compare r r' = compare_chains.said (meets i j ui uj r) (meets j i uj ui r')

    -- its words stand for a chain one way, the other way, the same event, or neither
    pub words_stand : (r : Relation) → (answer_to bytes (on (compare i j))).value ≡ relates r
        → Stands (log_after X cs) (behind i) (behind j) r
    words_stand =
        compare_words (setup_after X cs) (log_after X cs) (behind i) (behind j) _
        (λ ne. sym (refused_answer bytes (compare i j) _ (answer_number bytes (compare i j)) ne)) compare_chains

    -- Kept stamps in a book brought along from start are never crossed.
    pub never_crossed : (answer_to bytes (on (compare i j))).value ≡ relates Crossed → ⊥
    never_crossed e = words_stand Crossed e

  -- a used slot for each desk, and the events behind them
  module _ (l : List ℕ) (whole : length l ≡ (setup_after X cs).desks)
      (there : (i : ℕ) → i < length l → used ((decode bytes).tables.shelf (chosen l i)) ≡ true) where
    -- Picture says yes exactly when no event up to a choice was caused by one beyond, else names the lowest two desks where one was; out
    -- of reach is answered exactly when two choices are, wrong owner exactly when, of choices within reach, one is another desk's.
    pub picture_chains : PictureIs (setup_after X cs) (log_after X cs) (λ i. behind (chosen l i)) (answer_to bytes (on (picture l)))
    picture_chains =
        subst (PictureIs (setup_after X cs) (log_after X cs) (λ i. behind (chosen l i)))
        (sym (ring_answer bytes _ together (on (picture l))))
        (state_picture _ together.faithful l whole (λ i m. is_used (chosen l i) (there i m)))

  -- an accepted receive, the log with it, and its event, the last one there
  module _ (j p : ℕ) (q : Bool) (accepted : (answer_to bytes (on (receive j p q))).number ≡ 0) where
    abbrev log : Log
    log = (next (after (begin X) cs) (on (receive j p q))).history.log

    abbrev event : ℕ
    event = (log_after X cs).count

    same : answer_to bytes (on (receive j p q)) ≡ line_answer (after (begin X) cs) (on (receive j p q))
    same = same_answer bytes _ together (on (receive j p q))

    on_line : (call line_of (after (begin X) cs).book (on (receive j p q))).answer.number ≡ 0
    on_line = ap (λ (a : Answer). a.number) (sym same) ∙ accepted

    -- It answers of how many other desks it tells: those with an event behind it that was not behind its desk's event before.
    pub receive_learns : LearntSaid (setup_after X cs).desks log event (answer_to bytes (on (receive j p q)))
    receive_learns =
        let l = state_learnt _ together.faithful j p q on_line in
        record { told = l.told; is = l.is; said = ap (λ (a : Answer). a.value.learnt) same ∙ l.said }

    -- The entry of another desk changes in the receiver's seat exactly where the receive tells of that desk.
    pub entry_changes : (k : ℕ) → (k ≡ j → ⊥)
        → (((decode (book_after bytes (on (receive j p q)))).tables.seat j).row k ≡ ((decode bytes).tables.seat j).row k → ⊥)
        ↔ Tells log event k
    entry_changes k ne =
        let c = ring_changes _ together.faithful j p q on_line k ne in
        let before = ap (λ (b : Book). (b.tables.seat j).row k) together.told in
        let left = ap (λ (b : Book). (b.tables.seat j).row k) (ring_book bytes _ together (on (receive j p q))) in
        (λ d. c.0 (λ i. d (left ∙ i ∙ sym before)), λ t i. c.1 t (sym left ∙ i ∙ before))

    -- 0 exactly where the mail told nothing: all that is behind the receive was known before.
    pub told_nothing : ((answer_to bytes (on (receive j p q))).value.learnt ≡ some 0) ↔ ((x : ℕ) → Leads log x event → Knew log event x)
    told_nothing =
        let n = state_nothing _ together.faithful j p q on_line in
        let e = ap (λ (a : Answer). a.value.learnt) same in
        (λ i. n.0 (sym e ∙ i), λ f. e ∙ n.1 f)
