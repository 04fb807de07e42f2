-- THE OFFICE, of any call on any bytes: its number is the smallest that is due; it is accepted exactly where the book accepts it and
-- every paper is ready; accepted, its answer and its book are the book's own and a change leaves every paper right; refused, it leaves
-- every byte; a question is the book's alone.
-- Assumes nothing.
use Prim.Native.Nat.{ℕ, zero, suc}
use mathlib.Core.Path.{◌≡◌, refl, sym, ap, subst, ◌∙◌}
use mathlib.Core.Bool.{Bool, true, false, not}
use mathlib.Core.List.{[], ◌∷◌}
use mathlib.Core.Logic.{◌↔◌}
use Rattle.tools.specs.Tests.{pick}
use Rattle.tools.specs.Reasons.{first, if_done, Holds, rises, Smallest}
use Rattle.tools.proofs.Reasons.{first_smallest}
use Rattle.rules.specs.Model.{local, reset, send, receive, drop, discard, ask, ask_before, ask_compare, ask_picture, ask_show, ask_write}
use Rattle.rules.specs.Model.{Question, refusal, ask_reasons, reasons}
use Rattle.rules.specs.Calls.{Call, start, on, alters, ring_of, reasons_of}
use Rattle.rules.proofs.Reasons.{call_rising, call_number}
use Rattle.book.specs.Codec.{decode}
use Rattle.book.specs.Answers.{admits, turn_on, answer_to, book_after}
use Rattle.summary.specs.Summary.{summary_of}
use Rattle.office.specs.Papers.{asked, papers_number, together, Ready}
use Rattle.office.specs.Office.{Folder, summary_at, papers_at, office_reasons, office_answer, folder_after, RightAll}
use Rattle.office.proofs.Filed.{no_papers}
use Rattle.office.proofs.Papers.{first_of_two, papers_ready, together_which, together_both, together_same}

-- BadBook, the call's own reasons, then those of the papers: they rise
rising : (f : Folder) (c : Call) → rises 0 (office_reasons f c) ≡ true
unfolding reasons ask_reasons
rising f (start X) = refl
rising f (on (local j q)) = refl
rising f (on (send j k q)) = refl
rising f (on (receive j p q)) = refl
rising f (on (reset j q)) = refl
rising f (on (drop s)) = refl
rising f (on (discard p)) = refl
rising f (on (ask (ask_before s t))) = refl
rising f (on (ask (ask_compare s t))) = refl
rising f (on (ask (ask_picture l))) = refl
rising f (on (ask (ask_show s))) = refl
rising f (on (ask (ask_write s room))) = refl

-- a question is answered as by the book alone, and leaves every paper, whatever the papers are
pub office_question : (f : Folder) (q : Question)
    → (office_answer f (on (ask q)) ≡ answer_to f.book (on (ask q))) × ((folder_after f (on (ask q))).summary ≡ f.summary)
unfolding office_answer folder_after
office_question f q =
    let a = answer_to f.book (on (ask q)) in (
      ap (λ ps. together (papers_number ps) a) (no_papers f q) ∙ together_same a,
      go (office_answer f (on (ask q))).number,
    )
  where
    go : (n : ℕ) → if_done n f.summary f.summary ≡ f.summary
    go zero = refl
    go (suc n) = refl

module _ (f : Folder) (c : Call) where
  -- the number of the answer is that of the first reason that holds
  office_number : (office_answer f c).number ≡ first (office_reasons f c)
  unfolding office_answer answer_to
  office_number =
      together_which (papers_number (papers_at f c)) (answer_to f.book c) ∙ go (admits f.book c)
      ∙ ap (λ n. pick (not (admits f.book c)) 1 n)
      (sym (first_of_two 1 (reasons_of ring_of (decode f.book) c) (asked (papers_at f c)) (call_rising ring_of (decode f.book) c)))
    where
      go : (t : Bool)
          → (let n = (pick t (turn_on f.book c).answer (refusal 1)).number in if_done n (papers_number (papers_at f c)) n)
          ≡ pick (not t) 1 (if_done (first (reasons_of ring_of (decode f.book) c)) (papers_number (papers_at f c))
          (first (reasons_of ring_of (decode f.book) c)))
      go true = ap (λ n. if_done n (papers_number (papers_at f c)) n) (call_number ring_of (decode f.book) c)
      go false = refl

  -- THE PROMISE: the smallest number that is due is given, and none without its reason; the book's come before the papers'
  pub office_due : Smallest (Holds (office_reasons f c)) (office_answer f c).number
  office_due =
      subst (Smallest (Holds (office_reasons f c))) (sym office_number) (first_smallest (office_reasons f c) 0 (rising f c))

  -- the papers' reasons come after all others, ascending
  papers_rise : rises 18 (asked (papers_at f c)) ≡ true
  papers_rise = go (alters c)
    where
      go : (t : Bool) → rises 18 (asked (pick t (summary_at f c ∷ []) [])) ≡ true
      go true = refl
      go false = refl

  -- accepted exactly where the book accepts and every paper is ready
  pub office_accepts : ((office_answer f c).number ≡ 0) ↔ (((answer_to f.book c).number ≡ 0) × Ready (papers_at f c))
  unfolding office_answer
  office_accepts =
      let b = together_both (papers_number (papers_at f c)) (answer_to f.book c) in
      let r = papers_ready (papers_at f c) 18 papers_rise in
      (λ z. ((b.0 z).0, r.0 (b.0 z).1), λ z. b.1 (z.0, r.1 z.1))

  -- then the answer and the book are those of the call on the book alone
  pub office_answer_lem : (office_answer f c).number ≡ 0 → office_answer f c ≡ answer_to f.book c
  unfolding office_answer
  office_answer_lem z =
      ap (λ n. together n (answer_to f.book c)) ((together_both (papers_number (papers_at f c)) (answer_to f.book c)).0 z).1
      ∙ together_same (answer_to f.book c)

  pub office_book : (office_answer f c).number ≡ 0 → (folder_after f c).book ≡ book_after f.book c
  unfolding folder_after
  office_book z = ap (λ n. if_done n (book_after f.book c) f.book) z

  -- and a change leaves every paper right of it
  pub office_right : (office_answer f c).number ≡ 0 → alters c ≡ true → RightAll (folder_after f c)
  unfolding folder_after
  office_right z t =
      (λ i. if_done (z i) (pick (t i) (summary_of ring_of (decode (book_after f.book c))) f.summary) f.summary)
      ∙ sym (ap (λ s. summary_of ring_of (decode s)) (office_book z))

  -- a refused call leaves every byte of the book and of every paper
  pub office_refused : ((office_answer f c).number ≡ 0 → ⊥) → folder_after f c ≡ f
  unfolding folder_after
  office_refused ne = go (office_answer f c).number ne
    where
      go : (n : ℕ) → (n ≡ 0 → ⊥)
          → ◌≡◌ {A = Folder} (record {
            book = if_done n (book_after f.book c) f.book;
            summary = if_done n (pick (alters c) (summary_of ring_of (decode (book_after f.book c))) f.summary) f.summary;
          }) f
      go zero m = absurd (m refl)
      go (suc n) m = refl
