-- DEMAND 3 over runs of the office: after any calls since an accepted start every paper is right of the book, the office answers as the
-- book alone and as the line, and the summary is that of the same calls with phases that never come round.
-- Assumes nothing.
--   lags_map            where a map of phases keeps the lags of a book, it keeps the largest ones
--   papers_right        every paper is right of the book
--   papers_ready        no paper refuses a call
--   same_answers_filed  the calls are answered as on the book alone; line_answers_filed, as on the line
--   same_book_filed     and leave the bytes that they leave there
--   next_answer_filed   a further call is answered as on those bytes
--   never_bad_summary   and never by BadSummary
--   setup_line          the setup in the book is that of the line
--   summary_line        the summary is that of the line
--   may_line            may foretells what the reset would be answered on the line
use Prim.Native.Nat.{ℕ, zero, suc, ◌<◌}
use mathlib.Core.Path.{◌≡◌, refl, ap, sym, subst, ◌∙◌}
use mathlib.Core.Bool.{Bool, true, false, ◌&&◌}
use mathlib.Core.Option.{Option, none, some}
use mathlib.Core.List.{List, [], ◌∷◌}
use native.Mathlib.Omega.{arith}
use borrow.Author.Tests.{ltb-true}
use lib.Dec.{ltb, eqb}
use lib.ListN.{length}
use Rattle.tools.specs.Tests.{pick}
use Rattle.tools.specs.Tables.{Each}
use Rattle.tools.specs.Reasons.{Reason, first, rises}
use Rattle.tools.proofs.Tests.{and_true_l, and_true_r}
use Rattle.tools.proofs.Largest.{largest_cong}
use Rattle.ring.specs.Phases.{Phases}
use Rattle.rules.specs.Setups.{Setup}
use Rattle.rules.specs.declared.Refusal.TheVariants.{BadBook, BadSummary}
use Rattle.rules.specs.Numbers.{number}
use Rattle.rules.specs.Model.{Held, Tables, Question, ask_before, ask_compare, ask_picture, ask_show, ask_write}
use Rattle.rules.specs.Model.{local, reset, send, receive, drop, discard, ask, Answer, refusal, accepted, foretells, ask_reasons, reasons}
use Rattle.rules.specs.Calls.{Book, Call, start, on, alters, ring_of, line_of, reasons_of, call}
use Rattle.rules.proofs.Reasons.{call_number}
use Rattle.rules.proofs.Frames.{asking_leaves_all}
use Rattle.history.specs.History.{State, begin, after, setup_after}
use Rattle.history.specs.Round.{map_held, map_tables, modulo, round_tables, round_book}
use Rattle.history.proofs.Map.{KeepsAll, Agrees}
use Rattle.history.proofs.Sim.{ring_agrees}
use Rattle.history.proofs.Runs.{Faithful, allowed}
use Rattle.book.specs.Layout.{setup_of}
use Rattle.book.specs.Sound.{sound}
use Rattle.book.specs.Codec.{decode}
use Rattle.book.specs.Numbers.{tables_of}
use Rattle.book.specs.Answers.{admits, turn_on, answer_to, book_after}
use Rattle.book.proofs.Answers.{accepted_decode, refused}
use Rattle.summary.specs.Summary.{level, seat_lag, held_lag, lags_of, summary_of}
use Rattle.summary.specs.May.{may_of}
use Rattle.summary.proofs.Right.{summary_same}
use Rattle.summary.proofs.Foretold.{summary_length, may_foretells}
use Rattle.office.specs.Papers.{asked, papers_number, together, Ready}
use Rattle.office.specs.Office.{Folder, summary_at, papers_at, office_answer, folder_after, RightAll}
use Rattle.office.proofs.Papers as Any-papers
use Rattle.office.proofs.Filed.{due_none}
use Rattle.office.proofs.Office.{office_accepts, office_book, office_right, office_refused, office_question}
use Rattle.promises.specs.Runs.{bytes_after, answers_on, folder_left, office_answers, line_answers, line_summary}
use Rattle.promises.proofs.Together.{Together, same_answer}
use Rattle.promises.proofs.Demand as Demand

-- any two arithmetics of phases
module _ (Z Y : Phases) (φ : ℕ → ℕ → ℕ) (X : Setup) (b : Tables) (w : Agrees Z Y φ X b) where
  held_map : (j : ℕ) (o : Option Held) → Each (KeepsAll Z Y φ b) o → held_lag Z (map_tables φ b) j (map_held φ o) ≡ held_lag Y b j o
  held_map j none n = refl
  held_map j (some m) n = n j

  pub lags_map : (j : ℕ) → lags_of Z X (map_tables φ b) j ≡ lags_of Y X b j
  unfolding lags_of
  lags_map j =
      let s = largest_cong X.desks (seat_lag Z (map_tables φ b) j) (seat_lag Y b j) (λ k l. ap (pick (eqb k j) 0) (w.seats k j l)) in
      let m = largest_cong 32 (λ p. held_lag Z (map_tables φ b) j (map_held φ (b.mail p))) (λ p. held_lag Y b j (b.mail p))
      (λ p l. held_map j (b.mail p) (w.mail p)) in
      let h = largest_cong 32 (λ p. held_lag Z (map_tables φ b) j (map_held φ (b.shelf p))) (λ p. held_lag Y b j (b.shelf p))
      (λ p l. held_map j (b.shelf p) (w.shelf p)) in
      λ i. pick (ltb j X.desks) (record { seats = s i; mail = m i; shelf = h i }) level

-- the lags of the line's book, come round, are those of the line
round_summary : (t : State) → Faithful t → summary_of ring_of (round_book t.book) ≡ line_summary t
round_summary t w =
    let X = t.book.setup in
    let b = t.book.tables in
    summary_same (lags_of (ring_of X) X (round_tables X.phases b)) (lags_of (line_of X) X b)
    (λ j l. lags_map (ring_of X) (line_of X) (modulo X.phases) X b (ring_agrees X (allowed t w) b w.good.bounded) j)

-- the numbers of the book's own reasons end at 18
abbrev low : List Reason → Bool
low [] = true
low (r ∷ rs) = ltb r.number 19 && low rs

first_low : (rs : List Reason) → low rs ≡ true → first rs < 19
first_low [] h = omega arith
first_low (r ∷ rs) h =
    go r.holds (ltb-true r.number 19 (and_true_l _ _ h)) (first_low rs (and_true_r (ltb r.number 19) _ h))
  where
    go : (t : Bool) → r.number < 19 → first rs < 19 → pick t r.number (first rs) < 19
    go true a b = a
    go false a b = b

all_low : (Z : Setup → Phases) (b : Book) (c : Call) → low (reasons_of Z b c) ≡ true
unfolding reasons ask_reasons
all_low Z b (start X) = refl
all_low Z b (on (local j q)) = refl
all_low Z b (on (send j k q)) = refl
all_low Z b (on (receive j p q)) = refl
all_low Z b (on (reset j q)) = refl
all_low Z b (on (drop s)) = refl
all_low Z b (on (discard p)) = refl
all_low Z b (on (ask (ask_before s t))) = refl
all_low Z b (on (ask (ask_compare s t))) = refl
all_low Z b (on (ask (ask_picture l))) = refl
all_low Z b (on (ask (ask_show s))) = refl
all_low Z b (on (ask (ask_write s room))) = refl

number_low : (s : List ℕ) (c : Call) → (answer_to s c).number < 19
unfolding answer_to
number_low s c = go (admits s c)
  where
    go : (t : Bool) → (pick t (turn_on s c).answer (refusal (number BadBook))).number < 19
    go true =
        subst (λ n. n < 19) (sym (call_number ring_of (decode s) c))
        (first_low (reasons_of ring_of (decode s) c) (all_low ring_of (decode s) c))
    go false = omega arith

-- an accepted question leaves what the book says
question_decode : (s : List ℕ) (q : Question) → (answer_to s (on (ask q))).number ≡ 0 → decode (book_after s (on (ask q))) ≡ decode s
unfolding call
question_decode s q z =
    accepted_decode s (on (ask q)) z
    ∙ (λ i. record { setup = setup_of s; tables = asking_leaves_all (ring_of (setup_of s)) (setup_of s) (tables_of s) q i })

-- one call, from a folder on whose papers are right
module _ (f : Folder) (r : RightAll f) where
  no_reason : (c : Call) → papers_number (papers_at f c) ≡ 0
  no_reason c = go (alters c)
    where
      go : (t : Bool) → papers_number (pick t (summary_at f c ∷ []) []) ≡ 0
      go true = sym (due_none f.summary (ap length r ∙ summary_length _))
      go false = refl

  ready : (c : Call) → Ready (papers_at f c)
  ready c = (Any-papers.papers_ready (papers_at f c) 0 (go (alters c))).0 (no_reason c)
    where
      go : (t : Bool) → rises 0 (asked (pick t (summary_at f c ∷ []) [])) ≡ true
      go true = refl
      go false = refl

  -- the answer and the book are those of the book alone
  answer_filed : (c : Call) → office_answer f c ≡ answer_to f.book c
  unfolding office_answer
  answer_filed c = ap (λ n. together n (answer_to f.book c)) (no_reason c) ∙ Any-papers.together_same (answer_to f.book c)

  book_filed : (c : Call) → (folder_after f c).book ≡ book_after f.book c
  book_filed c = go (office_answer f c).number refl
    where
      go : (n : ℕ) → (office_answer f c).number ≡ n → (folder_after f c).book ≡ book_after f.book c
      go zero e = office_book f c e
      go (suc n) e =
          ap (λ (g : Folder). g.book) (office_refused f c (λ z. omega arith))
          ∙ sym (refused f.book c (λ z. let a = ap (λ (a : Answer). a.number) (answer_filed c) in omega arith))

  question_right : (q : Question) → (office_answer f (on (ask q))).number ≡ 0 → RightAll (folder_after f (on (ask q)))
  question_right q z =
      let said = ap decode (office_book f (on (ask q)) z) ∙ question_decode f.book q ((office_accepts f (on (ask q))).0 z).0 in
      (office_question f q).1 ∙ r ∙ sym (ap (summary_of ring_of) said)

  right_done : (c : Call) → (office_answer f c).number ≡ 0 → RightAll (folder_after f c)
  right_done (start X) z = office_right f (start X) z refl
  right_done (on (local j q)) z = office_right f (on (local j q)) z refl
  right_done (on (send j k q)) z = office_right f (on (send j k q)) z refl
  right_done (on (receive j p q)) z = office_right f (on (receive j p q)) z refl
  right_done (on (reset j q)) z = office_right f (on (reset j q)) z refl
  right_done (on (drop s)) z = office_right f (on (drop s)) z refl
  right_done (on (discard p)) z = office_right f (on (discard p)) z refl
  right_done (on (ask q)) z = question_right q z

  right_next : (c : Call) → RightAll (folder_after f c)
  right_next c = go (office_answer f c).number refl
    where
      go : (n : ℕ) → (office_answer f c).number ≡ n → RightAll (folder_after f c)
      go zero e = right_done c e
      go (suc n) e = subst RightAll (sym (office_refused f c (λ z. omega arith))) r

-- any calls, from such a folder on
right_left : (f : Folder) → RightAll f → (cs : List Call) → RightAll (folder_left f cs)
unfolding folder_left
right_left f r [] = r
right_left f r (c ∷ cs) = right_left (folder_after f c) (right_next f r c) cs

answers_filed : (f : Folder) → RightAll f → (cs : List Call) → office_answers f cs ≡ answers_on f.book cs
unfolding office_answers answers_on
answers_filed f r [] = refl
answers_filed f r (c ∷ cs) =
    (λ i. answer_filed f r c i ∷ answers_filed (folder_after f c) (right_next f r c) cs i)
    ∙ ap (λ s. answer_to f.book c ∷ answers_on s cs) (book_filed f r c)

book_left : (f : Folder) → RightAll f → (cs : List Call) → (folder_left f cs).book ≡ bytes_after f.book cs
unfolding folder_left bytes_after
book_left f r [] = refl
book_left f r (c ∷ cs) = book_left (folder_after f c) (right_next f r c) cs ∙ ap (λ s. bytes_after s cs) (book_filed f r c)

-- f: the bytes that start was given, the book's and the papers', whatever they were
module _ (f : Folder) (X : Setup) (started : (office_answer f (start X)).number ≡ 0) (cs : List Call) where
  abbrev held : Folder
  held = folder_left (folder_after f (start X)) cs

  first_right : RightAll (folder_after f (start X))
  first_right = office_right f (start X) started refl

  first_book : (folder_after f (start X)).book ≡ book_after f.book (start X)
  first_book = office_book f (start X) started

  -- the book alone accepts the start too
  begun : (answer_to f.book (start X)).number ≡ 0
  begun = ((office_accepts f (start X)).0 started).0

  -- THE PROMISE: after any calls every paper is right of the book
  pub papers_right : RightAll held
  papers_right = right_left (folder_after f (start X)) first_right cs

  -- so none of them refuses a call
  pub papers_ready : (c : Call) → Ready (papers_at held c)
  papers_ready = ready held papers_right

  -- the office answers as the book alone, and leaves its bytes
  pub same_answers_filed : office_answers (folder_after f (start X)) cs ≡ answers_on (book_after f.book (start X)) cs
  same_answers_filed = answers_filed (folder_after f (start X)) first_right cs ∙ ap (λ s. answers_on s cs) first_book

  pub same_book_filed : held.book ≡ bytes_after (book_after f.book (start X)) cs
  same_book_filed = book_left (folder_after f (start X)) first_right cs ∙ ap (λ s. bytes_after s cs) first_book

  -- so whatever is promised of an answer on the book holds of the office's
  pub next_answer_filed : (c : Call) → office_answer held c ≡ answer_to (bytes_after (book_after f.book (start X)) cs) c
  next_answer_filed c = answer_filed held papers_right c ∙ ap (λ s. answer_to s c) same_book_filed

  -- BadSummary never comes up again
  pub never_bad_summary : (c : Call) → (office_answer held c).number ≡ number BadSummary → ⊥
  never_bad_summary c e =
      let l = number_low (bytes_after (book_after f.book (start X)) cs) c in
      let a = ap (λ (a : Answer). a.number) (next_answer_filed c) in
      omega arith

  -- the office answers as the same calls with phases that never come round
  pub line_answers_filed : office_answers (folder_after f (start X)) cs ≡ line_answers (begin X) cs
  line_answers_filed = same_answers_filed ∙ Demand.same_answers f.book X begun cs

  told : Together (bytes_after (book_after f.book (start X)) cs) (after (begin X) cs)
  told = Demand.together f.book X begun cs

  held_told : decode held.book ≡ round_book (after (begin X) cs).book
  held_told = ap decode same_book_filed ∙ told.told

  pub setup_line : setup_of held.book ≡ setup_after X cs
  setup_line = ap (λ (b : Book). b.setup) held_told

  -- THE PROMISE: the summary is that of the same calls with phases that never come round
  pub summary_line : held.summary ≡ line_summary (after (begin X) cs)
  summary_line = papers_right ∙ ap (summary_of ring_of) held_told ∙ round_summary (after (begin X) cs) told.faithful

  -- So may, of the setup and the summary alone, foretells what a reset that is not kept would be answered on the line.
  pub may_line : (j : ℕ) → j < (setup_after X cs).desks
      → may_of (setup_of held.book) held.summary j
      ≡ accepted (foretells (call line_of (after (begin X) cs).book (on (reset j false))).answer.number)
  may_line j l =
      let whole : sound held.book ≡ true = ap sound same_book_filed ∙ told.whole in
      let there : j < (setup_of held.book).desks = subst (λ (Y : Setup). j < Y.desks) (sym setup_line) l in
      let said = ap (λ s. answer_to s (on (reset j false))) same_book_filed ∙ same_answer _ _ told (on (reset j false)) in
      may_foretells held.book whole held.summary papers_right j there ∙ ap (λ (a : Answer). accepted (foretells a.number)) said
