-- What a call of the office answers and leaves, from what the book's call does.
-- Assumes nothing.
--   no_papers    a question asks no paper
--   filed        the papers are ready, and the call is made
--   unready      a paper is not ready: nothing is made
use Rattle.std.specs.Prelude.{Result, Ok, Err}
use Rattle.std.specs.Prelude as Std
use Rattle.std.specs.Option.{unwrap_or}
use Rattle.std.specs.Result.{result_err}
use Prim.Native.Nat.{ℕ, zero, suc}
use mathlib.Core.Path.{◌≡◌, refl, sym, ap, ◌∙◌}
use mathlib.Core.Bool.{Bool, true, false, not, true≢false}
use mathlib.Core.List.{List, [], ◌∷◌, ◌++◌}
use native.Mathlib.Omega.{arith}
use borrow.Author.Tests.{eqb-true, eq-eqb, ne_eqb}
use lib.Dec.{eqb}
use lib.ListN.{length}
use lib.ListN as Bytes
use Rattle.std.proofs.Math.Seq.{drop-length}
use Rattle.std.proofs.lemmas.List.{append-nil}
use Rattle.tools.specs.Tests.{pick}
use Rattle.tools.specs.Reasons.{first, if_done}
use Rattle.rules.specs.declared.Refusal.{Refusal}
use Rattle.rules.specs.declared.Refusal.TheVariants.{BadSummary}
use Rattle.rules.specs.Numbers.{number}
use Rattle.rules.specs.Setups.{Setup}
use Rattle.rules.specs.Model.{Question, Act, drop, discard, ask, Value, Answer, refusal, accepted, reasons}
use Rattle.rules.specs.Replies.{number_in, answer_by}
use Rattle.rules.proofs.Once.{not_done}
use Rattle.rules.specs.Calls.{Call, start, on, alters, ring_of, fresh_book, call}
use Rattle.book.specs.Layout.{mail_from, shelf_from}
use Rattle.book.specs.Sound.{sound}
use Rattle.book.specs.Codec.{decode}
use Rattle.book.specs.Answers.{turn_on, answer_to, book_after}
use Rattle.book.proofs.Answers.{accepted_decode, accepted_sound, refused, refused_alone}
use Rattle.summary.specs.Summary.{summary_due, level, summary_with, summary_of}
use Rattle.summary.proofs.Right.{fresh_right}
use Rattle.book.proofs.Numbers.{answer_number}
use Rattle.refusals.specs.First.{used_number}
use Rattle.refusals.specs.Grants.{Grant, granted_by, grant_of}
use Rattle.refusals.proofs.Started.{start_ready}
use Rattle.office.specs.Papers.{papers_number, together, left}
use Rattle.office.specs.Office.{Folder, folder, summary_at, papers_at, office_answer, folder_after}
use Rattle.office.proofs.Papers.{together_same, together_first, together_last}

pub if_done_lem : {A : Type 0} (n : ℕ) (a b : A) → n ≡ 0 → if_done n a b ≡ a
if_done_lem n a b e = ap (λ n. if_done n a b) e

-- bytes in front of as many others are all of them
pub whole_front : (p s : List ℕ) → length s ≡ 26 → p ++ Bytes.drop 26 s ≡ p
whole_front p s e = ap (λ n. p ++ Bytes.drop n s) (sym e) ∙ ap (λ l. p ++ l) (drop-length s) ∙ append-nil p

-- the summary's own number
pub due_none : (m : List ℕ) → length m ≡ 26 → 0 ≡ first (summary_due m)
due_none m e = sym (λ i. pick (not (eq-eqb (length m) 26 e i)) 21 0)

pub due_length : (m : List ℕ) → (length m ≡ 26 → ⊥) → 21 ≡ first (summary_due m)
due_length m ne = sym (λ i. pick (not (ne_eqb (length m) 26 ne i)) 21 0)

pub due_ready : (m : List ℕ) (n : ℕ) → n ≡ first (summary_due m) → n ≡ 0 → length m ≡ 26
due_ready m n e z = go (eqb (length m) 26) refl (sym e ∙ z)
  where
    go : (t : Bool) → eqb (length m) 26 ≡ t → ◌≡◌ {A = ℕ} (pick (not t) 21 0) 0 → length m ≡ 26
    go true q x = eqb-true (length m) 26 q
    go false q x = absurd (omega arith)

-- a question asks no paper
pub no_papers : (f : Folder) (q : Question) → papers_at f (on (ask q)) ≡ []
no_papers f q = refl

module _ (s m : List ℕ) (c : Call) (alt : alters c ≡ true) where
  abbrev before : Folder
  before = folder s m

  -- a change asks the summary's reasons
  papers_are : papers_number (papers_at before c) ≡ first (summary_due m)
  papers_are = ap (λ t. papers_number (pick t (summary_at before c ∷ []) [])) alt

  answer_is : office_answer before c ≡ together (first (summary_due m)) (answer_to s c)
  unfolding office_answer
  answer_is = ap (λ n. together n (answer_to s c)) papers_are

  -- the number a call of the office is answered, whatever it is
  leaves : (n : ℕ) → (office_answer before c).number ≡ n
      → folder_after before c ≡ folder (if_done n (book_after s c) s) (left n (summary_at before c))
  unfolding folder_after
  leaves n e = λ i. folder (if_done (e i) (book_after s c) s) (left (e i) (summary_at before c))

  -- the book's call, whether it is accepted or not
  book_same : (k : ℕ) → (answer_to s c).number ≡ k → book_after s c ≡ if_done k (book_after s c) s
  book_same zero e = refl
  book_same (suc k) e = refused s c (λ z. omega arith)

  pub filed : (n : ℕ) → n ≡ first (summary_due m) → n ≡ 0 → (a : Answer) → a ≡ answer_to s c → (k : ℕ) → k ≡ a.number
      → (b p : List ℕ) → b ≡ book_after s c → p ≡ if_done k (summary_of ring_of (decode b)) m
      → (a ≡ office_answer before c) × (folder b p ≡ folder_after before c)
  filed n e z a ea k ek b p eb ep =
      let said : a ≡ office_answer before c =
      ea ∙ sym (answer_is ∙ ap (λ n. together n (answer_to s c)) (sym e ∙ z) ∙ together_same (answer_to s c)) in
      let number : (answer_to s c).number ≡ k = sym (ek ∙ ap (λ (a : Answer). a.number) ea) in
      let paper : p ≡ left k (summary_at before c) =
      ep ∙ (λ i. if_done k (pick (sym alt i) (summary_of ring_of (decode (eb i))) m) m) in
      let book = eb ∙ book_same k number in
      (said, (λ i. folder (book i) (paper i)) ∙ sym (leaves k (ap (λ (a : Answer). a.number) (sym said) ∙ sym ek)))

  -- a refusal leaves every byte of the book and of every paper
  still : (r : ℕ) → refusal r ≡ office_answer before c → (r ≡ 0 → ⊥) → before ≡ folder_after before c
  still zero e ne = absurd (ne refl)
  still (suc r) e ne = sym (leaves (suc r) (ap (λ (a : Answer). a.number) (sym e)))

  -- its number is the book's, or where that is 0 the papers'
  refused_by : (n : ℕ) → n ≡ first (summary_due m) → (n ≡ 0 → ⊥) → (k : ℕ) → k ≡ (answer_to s c).number
      → (refusal (together n (refusal k)).number ≡ office_answer before c) × ((together n (refusal k)).number ≡ 0 → ⊥)
  refused_by n e ne zero ek =
      let r = together_last n (refusal 0) refl ne in (
        ap (λ (a : Answer). refusal a.number) r
            ∙ sym (answer_is ∙ ap (λ n. together n (answer_to s c)) (sym e) ∙ together_last n (answer_to s c) (sym ek) ne),
        λ z. ne (ap (λ (a : Answer). a.number) (sym r) ∙ z),
      )
  refused_by n e ne (suc k) ek = (
    refused_alone s c (suc k) ek (λ z. omega arith)
        ∙ sym (answer_is ∙ together_first (first (summary_due m)) (answer_to s c) (λ z. omega (arith, ek, z))),
    λ z. omega arith,
  )

  pub unready : (n : ℕ) → n ≡ first (summary_due m) → (n ≡ 0 → ⊥) → (k : ℕ) → k ≡ (answer_to s c).number
      → (r : ℕ) → r ≡ (together n (refusal k)).number
      → (refusal r ≡ office_answer before c) × (before ≡ folder_after before c) × (r ≡ 0 → ⊥)
  unready n e ne k ek r er =
      let f = refused_by n e ne k ek in
      let a = ap refusal er ∙ f.0 in
      let no : r ≡ 0 → ⊥ = λ z. f.1 (sym er ∙ z) in
      (a, still r a no, no)

-- the number that an answer says
pub says_number : {A : Type 0} (v : A → Value) (r : Result A Refusal) (a : Answer) → answer_by v r ≡ a → number_in r ≡ a.number
says_number v (Ok x) a e = ap (λ (a : Answer). a.number) e
says_number v (Err w) a e = ap (λ (a : Answer). a.number) e

-- an accepted one leaves a sound book
pub left_sound : {A : Type 0} (v : A → Value) (s : List ℕ) (c : Call) (x : A) (b : List ℕ) → accepted (v x) ≡ answer_to s c
    → b ≡ book_after s c → sound b ≡ true
left_sound v s c x b e eb = ap sound eb ∙ accepted_sound s c (ap (λ (a : Answer). a.number) (sym e))

-- a change of the code
module _ {A : Type 0} (v : A → Value) (s m : List ℕ) (c : Call) (alt : alters c ≡ true) where
  abbrev Filed : Result A Refusal → List ℕ → List ℕ → Type 0
  Filed r b p = (answer_by v r ≡ office_answer (folder s m) c) × (folder b p ≡ folder_after (folder s m) c)

  -- a paper is not ready: the number of the book's check, or where that is 0 theirs
  unfiled : (n : length m ≡ 26 → ⊥) {B : Type 0} (g : Result B Refusal) → number_in g ≡ (answer_to s c).number
      → Filed (Err (unwrap_or (result_err g) BadSummary)) s m
  unfiled n (Ok x) e =
      let u = unready s m c alt 21 (due_length m n) (λ z. omega arith) 0 e 21 refl in (u.0, u.1)
  unfiled n (Err w) e =
      let u = unready s m c alt 21 (due_length m n) (λ z. omega arith) (number w) e (number w)
      (sym (ap (λ (a : Answer). a.number) (together_first 21 (refusal (number w)) (not_done w)))) in
      (u.0, u.1)

  -- every paper is ready: the call is made
  pub made : length m ≡ 26 → (r : Result A Refusal) → answer_by v r ≡ answer_to s c → (b : List ℕ) → b ≡ book_after s c
      → (p : List ℕ) → p ≡ if_done (number_in r) (summary_of ring_of (decode b)) m → Filed r b p
  made size r e b eb p ep =
      filed s m c alt 0 (due_none m size) refl (answer_by v r) e (number_in r) (says_number v r (answer_by v r) refl) b p eb ep

  -- either, and g is what the book's check has answered
  pub changed : {B : Type 0} (r : Result A Refusal) (b p : List ℕ)
      → ((length m ≡ 26 → ⊥) → (g : Result B Refusal) × (number_in g ≡ (answer_to s c).number)
      × (r ≡ Err (unwrap_or (result_err g) BadSummary)) × (b ≡ s) × (p ≡ m))
      → (length m ≡ 26 → (answer_by v r ≡ answer_to s c) × (b ≡ book_after s c)
      × (p ≡ if_done (number_in r) (summary_of ring_of (decode b)) m))
      → Filed r b p
  changed r b p short ready = go (eqb (length m) 26) refl
    where
      go : (t : Bool) → eqb (length m) 26 ≡ t → Filed r b p
      go true q =
          let size = eqb-true (length m) 26 q in
          let f = ready size in made size r f.0 b f.1 p f.2
      go false q =
          let ne : length m ≡ 26 → ⊥ = λ e. true≢false (sym (eq-eqb (length m) 26 e) ∙ q) in
          let f = short ne in
          let u = unfiled ne f.0 f.1 in
          (ap (answer_by v) f.2 ∙ u.0, (λ i. folder (f.3 i) (f.4 i)) ∙ u.1)

-- the number of an event, by what it is granted
pub granted_number : (s : List ℕ) (c : Act) (q : Bool) (g : Result (Std.Option ℕ) Refusal) → granted_by g ≡ grant_of s c q
    → number_in g ≡ (answer_to s (on c)).number
granted_number s c q (Ok k) e = ap (λ (g : Grant). g.number) e ∙ sym (answer_number s c)
granted_number s c q (Err w) e = ap (λ (g : Grant). g.number) e ∙ sym (answer_number s c)

-- an accepted start leaves a fresh book, by the rules
started_book : (s : List ℕ) (X : Setup) → (answer_to s (start X)).number ≡ 0 → (turn_on s (start X)).book ≡ fresh_book X
unfolding call
started_book s X z = let p = (start_ready s X z).1 in rw p

-- start writes the summary of a fresh book
pub start_filed : (s : List ℕ) (X : Setup) → (answer_to s (start X)).number ≡ 0 → (b : List ℕ) → b ≡ book_after s (start X)
    → (p : List ℕ) → p ≡ summary_with (λ j. level) → p ≡ summary_of ring_of (decode b)
start_filed s X z b eb p ep =
    let fresh = accepted_decode s (start X) z ∙ started_book s X z in
    ep ∙ fresh_right X ∙ sym (ap (summary_of ring_of) (ap decode eb ∙ fresh))

-- the number of drop and of discard
pub drop_number : (s : List ℕ) (p : ℕ) → used_number s shelf_from p ≡ (answer_to s (on (drop p))).number
unfolding reasons
drop_number s p = sym (answer_number s (drop p))

pub discard_number : (s : List ℕ) (p : ℕ) → used_number s mail_from p ≡ (answer_to s (on (discard p))).number
unfolding reasons
discard_number s p = sym (answer_number s (discard p))
