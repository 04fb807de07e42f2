-- What one line does on a book with the papers beside it.
-- Assumes nothing.
--   printable    an act is accepted only in a book of at most eight desks, whose pairs can be printed
--   asked        a question is answered by the book alone, and leaves every byte of it and of the papers
--   Obeyed       what a line prints from a place on, and the book and the papers that it leaves
--   obeyed       a line is obeyed by doing what it asks for and printing the answer, with the desks of the book
--   printed      the same of a line that has a command
--   blind        a line's answer goes by the bytes of it that are kept
--   bad_line     a BadLine prints its number, and changes nothing
--   long_line, no_line   a line over 64 bytes, and an empty one, is a BadLine
--   bad_setup    a start that is not permitted prints BadSetup, and changes no byte
--   bad_desks    so does every start whose D is outside 2 to 8, however many limits it has
--   miscount     a start whose limits are miscounted is a BadLine
--   line_no_event   NoEvent is answered to no line
--   no_setup, many_desks, told_may   may where the book tells no setup, one of too many desks, and any other
use Prim.Native.Nat.{ℕ, zero, suc, ◌≤◌, ◌<◌}
use mathlib.Core.Path.{◌≡◌, refl, sym, ap, ◌∙◌}
use mathlib.Core.Bool.{Bool, true, false, not}
use mathlib.Core.List.{List, [], ◌∷◌, ◌++◌, cons≢nil}
use mathlib.Core.Option.{Option, none, some}
use native.Mathlib.Omega.{arith}
use borrow.Author.Tests.{eq-eqb, ne_eqb}
use lib.Dec.{eqb, ltb}
use lib.ListN.{length}
use Rattle.std.specs.Prelude.{Some, Result, Ok, Err}
use Rattle.std.specs.Prelude as Std
use Rattle.tools.specs.Tests.{pick, all_of, all_below, within}
use Rattle.tools.specs.Lists.{byte}
use Rattle.tools.specs.Reasons.{if_done}
use Rattle.tools.proofs.Tests.{not_each}
use Rattle.rules.specs.declared.SetupNumbers.{SetupNumbers}
use Rattle.rules.specs.Setups.{Setup, setup_with, in_range, permits}
use Rattle.rules.proofs.Setups.{permitted}
use Rattle.rules.specs.Model.{Act, Question, ask, Value, Answer, refusal, foretells, done}
use Rattle.rules.specs.Replies.{answer_by, number_in}
use Rattle.rules.specs.declared.Refusal.{Refusal}
use Rattle.rules.specs.Calls.{Call, start, on, alters}
use Rattle.rules.specs.Labels.{settle_off}
use Rattle.rules.specs.declared.Refusal.TheVariants.{NoEvent}
use Rattle.rules.specs.Numbers.{number}
use Rattle.book.specs.Layout.{book_size, limits_of, setup_of}
use Rattle.book.specs.Sound.{sound}
use Rattle.book.specs.Codec.{decode}
use Rattle.book.specs.Answers.{admits, answer_to, book_after}
use Rattle.book.specs.Numbers.{number_of}
use Rattle.book.proofs.Answers.{never_no_event}
use Rattle.book.proofs.Codec.{decode_holds}
use Rattle.book.proofs.Numbers.{accepted_bytes, refused_bytes, ready}
use Rattle.book.proofs.Told.{few_desks}
use Rattle.refusals.proofs.Started.{start_badsetup}
use Rattle.summary.specs.Summary.{summary_size, lags_in}
use Rattle.summary.specs.May.{summary_ok, reset_number, may_of}
use Rattle.summary.proofs.Asked as Asked
use Rattle.office.specs.Papers.{papers_number}
use Rattle.office.specs.Office.{Folder, folder, summary_at, papers_at, office_answer, folder_after}
use Rattle.office.proofs.Papers.{together_which, together_same, together_first}
use Rattle.office.proofs.Office.{office_accepts, office_refused}
use Rattle.text.proofs.Streams.{Blind}
use Rattle.text.specs.Words.{ascii, opens}
use Rattle.text.specs.Put.{Wrote}
use Rattle.text.proofs.Writing.{same_text}
use Rattle.commands.specs.declared.Command.{Command}
use Rattle.commands.specs.Lines.{Wanted, makes, asks_may, shaped, miscounted, verbs, asks, choose, parse_of, wanted_by, wanted_in}
use Rattle.commands.specs.Written.{numbers_of, text_of, Spoken, Small}
use Rattle.commands.proofs.Shapes.{sift, long_bad, kept_enough}
use Rattle.commands.proofs.Exact.{written, bad_count}
use Rattle.replies.specs.Print.{answer_text}
use Rattle.answering.specs.Answering.{may_on, answer_of, folder_of, wanted_text, line_text, line_folder, answering}

few : (b : List ℕ) (c : Act) → (answer_to b (on c)).number ≡ 0 → byte b 2 ≤ 8
unfolding answer_to admits
few b c e = go (sound b) refl e
  where
    go : (t : Bool) → sound b ≡ t → (answer_to b (on c)).number ≡ 0 → byte b 2 ≤ 8
    go true h e = few_desks b h
    go false h e = absurd (omega (arith, rw (answer_to, h) at e))

pub printable
    : (f : Folder) (c : Act) (D : ℕ) → D ≡ byte f.book 2
    → {A : Type 0} (v : A → Value) (r : Result A Refusal) → answer_by v r ≡ office_answer f (on c)
    → number_in r ≡ 0 → D ≤ 8
printable f c D d v r x e =
    let z = ((office_accepts f (on c)).0 (ap (λ (y : Answer). y.number) (sym x) ∙ numbered v r ∙ e)).0 in
    omega (arith, few f.book c z)
  where
    numbered : {A : Type 0} (v : A → Value) (r : Result A Refusal) → (answer_by v r).number ≡ number_in r
    numbered v (Ok x) = refl
    numbered v (Err n) = refl

-- a question leaves every byte of the book
same_book : (s : List ℕ) (q : Question) → book_after s (on (ask q)) ≡ s
unfolding done
same_book s q = go (number_of s (ask q)) refl
  where
    go : (n : ℕ) → number_of s (ask q) ≡ n → book_after s (on (ask q)) ≡ s
    go zero e = sym (accepted_bytes s (ask q) e s (decode_holds s (ready s (ask q) e).0))
    go (suc n) e = sym (refused_bytes s (ask q) (suc n) (sym e) (λ z. omega arith))

pub asked : (f : Folder) (q : Question) → (answer_to f.book (on (ask q)) ≡ office_answer f (on (ask q))) × (f ≡ folder_after f (on (ask q)))
unfolding office_answer folder_after
asked f q =
    (sym (together_same (answer_to f.book (on (ask q)))), go (office_answer f (on (ask q))).number (same_book f.book q))
  where
    go : (n : ℕ) → book_after f.book (on (ask q)) ≡ f.book
        → f ≡ folder (if_done n (book_after f.book (on (ask q))) f.book) (if_done n f.summary f.summary)
    go zero e = λ i. folder (sym e i) f.summary
    go (suc n) e = refl

abbrev pub Obeyed : Folder → List ℕ → ℕ → List ℕ → Folder → List ℕ → ℕ → Type 0
Obeyed f o at l f' o' r = Wrote o at (line_text f l) o' r × (f' ≡ line_folder f l)

-- what the line l asks for is w; what it prints is written into o from at on, which leaves o', and r is its end
module _ (f : Folder) (o : List ℕ) (at : ℕ) (l : List ℕ) (w : Option Wanted) (p : w ≡ parse_of l)
    (f' : Folder) (o' : List ℕ) (r : ℕ) (a : Answer) where
  pub obeyed : a ≡ answer_of f w → f' ≡ folder_of f w → (D : ℕ) → D ≡ byte f.book 2
      → Wrote o at (answer_text D a) o' r → Obeyed f o at l f' o' r
  unfolding line_text line_folder
  obeyed x g D d e =
      let y : a ≡ answer_of f (parse_of l) = x ∙ ap (answer_of f) p in
      (same_text (λ i. answer_text (d i) (y i)) e, g ∙ ap (folder_of f) p)

-- m, the command of the line l, is n
module _ (f : Folder) (o : List ℕ) (at : ℕ) (l : List ℕ) (c : Std.Option Command) (p : wanted_in c ≡ parse_of l) (m : Command)
    (s : c ≡ Some m) (n : Command) (e : m ≡ n) (f' : Folder) (o' : List ℕ) (r : ℕ) (a : Answer) where
  pub printed : a ≡ answer_of f (some (wanted_by n)) → f' ≡ folder_of f (some (wanted_by n)) → (D : ℕ) → D ≡ byte f.book 2
      → Wrote o at (answer_text D a) o' r → Obeyed f o at l f' o' r
  printed = obeyed f o at l (some (wanted_by n)) (ap wanted_in (sym (s ∙ ap (λ (c : Command). Some c) e)) ∙ p) f' o' r a

pub blind : Blind answering
unfolding line_text line_folder
blind = record { says = λ f l. ap (wanted_text f) (kept_enough l); leaves = λ f l. ap (folder_of f) (kept_enough l) }

pub bad_line : (f : Folder) (l : List ℕ) → parse_of l ≡ none → (line_text f l ≡ ascii "017" ++ (10 ∷ [])) × (line_folder f l ≡ f)
unfolding line_text line_folder
bad_line f l e = (ap (wanted_text f) e, ap (folder_of f) e)

pub long_line : (f : Folder) (l : List ℕ) → 64 < length l → (line_text f l ≡ ascii "017" ++ (10 ∷ [])) × (line_folder f l ≡ f)
long_line f l h = bad_line f l (long_bad l (omega arith))

pub no_line : (f : Folder) → (line_text f [] ≡ ascii "017" ++ (10 ∷ [])) × (line_folder f [] ≡ f)
unfolding choose verbs asks opens all_below shaped all_of
no_line f = bad_line f [] (sift [] (omega arith))

-- a start that is written out, on a book of the right length
module _ (f : Folder) (X : Setup) (e : length f.book ≡ book_size) (s : Small (numbers_of (makes (start X)))) where
  refused_start : permits X ≡ false → refusal 2 ≡ office_answer f (start X)
  unfolding office_answer
  refused_start p =
      let a = (start_badsetup f.book X e p).0 in
      a ∙ sym (together_first (papers_number (papers_at f (start X))) (answer_to f.book (start X))
      (λ z. omega (arith, z, ap (λ (a : Answer). a.number) a)))

  pub bad_setup : permits X ≡ false → Spoken (makes (start X))
      → (line_text f (text_of (makes (start X))) ≡ ascii "002" ++ (10 ∷ [])) × (line_folder f (text_of (makes (start X))) ≡ f)
  unfolding line_text line_folder
  bad_setup p g =
      let w = written (makes (start X)) g s in
      let a = refused_start p in (
        ap (wanted_text f) w ∙ ap (answer_text (decode f.book).setup.desks) (sym a),
        ap (folder_of f) w ∙ office_refused f (start X) (λ z. omega (arith, z, ap (λ (a : Answer). a.number) a)),
      )

  pub bad_desks : within 2 8 X.desks ≡ false → length (text_of (makes (start X))) ≤ 64
      → (line_text f (text_of (makes (start X))) ≡ ascii "002" ++ (10 ∷ [])) × (line_folder f (text_of (makes (start X))) ≡ f)
  unfolding permits in_range miscounted
  bad_desks d h = bad_setup (not_each _ 0 (not_each _ 0 d)) (cons≢nil, rw (miscounted, d), h)

pub miscount : (f : Folder) (X : Setup) → miscounted X ≡ true → Small (numbers_of (makes (start X)))
    → (line_text f (text_of (makes (start X))) ≡ ascii "017" ++ (10 ∷ [])) × (line_folder f (text_of (makes (start X))) ≡ f)
miscount f X m s = bad_line f (text_of (makes (start X))) (bad_count X m s)

-- neither the papers nor may give NoEvent's number
papers_no_event : (f : Folder) (c : Call) → papers_number (papers_at f c) ≡ number NoEvent → ⊥
papers_no_event f c = go (alters c)
  where
    told : (u : Bool) → ◌≡◌ {A = ℕ} (pick (not u) 21 0) 7 → ⊥
    told true e = absurd (omega arith)
    told false e = absurd (omega arith)

    go : (t : Bool) → papers_number (pick t (summary_at f c ∷ []) []) ≡ number NoEvent → ⊥
    go true e = told (eqb (length f.summary) summary_size) e
    go false e = absurd (omega arith)

office_no_event : (f : Folder) (c : Call) → (office_answer f c).number ≡ number NoEvent → ⊥
unfolding office_answer
office_no_event f c e = go (answer_to f.book c).number refl (sym (together_which (papers_number (papers_at f c)) (answer_to f.book c)) ∙ e)
  where
    go : (k : ℕ) → (answer_to f.book c).number ≡ k → if_done k (papers_number (papers_at f c)) (answer_to f.book c).number ≡ 7 → ⊥
    go zero q z = papers_no_event f c z
    go (suc k) q z = never_no_event f.book c z

may_no_event : (X : Setup) (m : List ℕ) (j : ℕ) → (may_of X m j).number ≡ number NoEvent → ⊥
unfolding may_of
may_no_event X m j = go (permits X) (ltb j X.desks) (summary_ok X m)
  where
    go : (t u v : Bool) → (settle_off (pick (not t) 2 (pick (not u) 3 (pick (not v) 21 0))) (foretells (reset_number X (lags_in m j)))).number ≡ 7 → ⊥
    go false u v e = absurd (omega arith)
    go true false v e = absurd (omega arith)
    go true true false e = absurd (omega arith)
    go true true true e = absurd (omega arith)

pub line_no_event : (f : Folder) (l : List ℕ) → (answer_of f (parse_of l)).number ≡ number NoEvent → ⊥
line_no_event f l = go (parse_of l)
  where
    asked_may : (d : ℕ) (t : Bool) → (pick t (may_of (setup_of f.book) f.summary d) (refusal 2)).number ≡ 7 → ⊥
    asked_may d true e = may_no_event (setup_of f.book) f.summary d e
    asked_may d false e = absurd (omega arith)

    go : (o : Option Wanted) → (answer_of f o).number ≡ number NoEvent → ⊥
    go none e = absurd (omega arith)
    go (some (makes c)) e = office_no_event f c e
    go (some (asks_may d)) e = asked_may d (eqb (length f.book) book_size) e

-- may, with the setup that the book tells
module _ (f : Folder) (d : ℕ) where
  pub no_setup : (length f.book ≡ book_size → ⊥) → refusal 2 ≡ may_on f d
  no_setup ne = sym (ap (λ t. pick t (may_of (setup_of f.book) f.summary d) (refusal 2)) (ne_eqb (length f.book) book_size ne))

  module _ (e : length f.book ≡ book_size) where
    told_setup : may_of (setup_of f.book) f.summary d ≡ may_on f d
    told_setup = sym (ap (λ t. pick t (may_of (setup_of f.book) f.summary d) (refusal 2)) (eq-eqb (length f.book) book_size e))

    -- more desks than a setup may have
    pub many_desks : 8 < (setup_of f.book).desks → refusal 2 ≡ may_on f d
    many_desks l = go (permits (setup_of f.book)) refl ∙ told_setup
      where
        go : (t : Bool) → permits (setup_of f.book) ≡ t → refusal 2 ≡ may_of (setup_of f.book) f.summary d
        go true p = let r = (permitted (setup_of f.book) p).few in absurd (omega arith)
        go false p = Asked.bad_setup (Asked.numbers_in (setup_of f.book)) (setup_of f.book).limits f.summary d p

    -- the numbers in the header, and the limits of the first D seats
    pub told_may : (s : SetupNumbers) (l : List ℕ) → setup_with s (limits_of f.book) ≡ setup_of f.book → l ≡ limits_of f.book
        → (a : Answer) → a ≡ may_of (setup_with s l) f.summary d → a ≡ may_on f d
    told_may s l es el a ea =
        ea ∙ ap (λ X. may_of X f.summary d) (ap (setup_with s) el ∙ es) ∙ told_setup
