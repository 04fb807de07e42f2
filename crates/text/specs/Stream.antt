-- What a stream of bytes prints: each line is answered at its newline, a last line without one at the end of the input.
-- The book, of any type B, is whatever lines are answered on.
-- Assumes nothing. In words: docs/RULES.md, "Listing".
--   Answers           what a line prints on a book, and the book that it leaves
--   flat xs           no byte of xs is a newline
--   part a e xs       the bytes of xs from a to e, e left out
--   Ends xs a e       e is the place of the first newline of xs from a on; the end where there is none
--   State             the book, and the bytes since the last newline
--   start b           the book b, and no line begun
--   text_at, next     what one byte prints, and the state after it
--   text_of, after    the same of many bytes
--   last_text, last_book   the same of the end of the input
--   printed b xs      all that the input xs prints, from the book b on
--   most              the bytes kept of a line that has begun: one more than a line may have
--   cut s             the state s, with no more than these kept
--   runs s ps         all that is printed where the input comes in the pieces ps, with no more than these kept in between
--   line_of p         the bytes of the line that has begun
--   held b l          the state of a book b with the line l begun
use Rattle.std.specs.Prelude.{ℕ, ◌-◌, ◌≤◌, ◌<◌, ◌≡◌, Bool, true, not, ◌&&◌, List, [], ◌∷◌, ◌++◌, eqb, length, take, drop, get_or}
use Rattle.tools.specs.Tests.{pick}
use Rattle.text.specs.declared.begun.Pending.{Pending}

pub record Answers (B : Type 0) : Type 0 where
  pub says : B → List ℕ → List ℕ
  pub leaves : B → List ℕ → B

unfoldable pub flat : List ℕ → Bool
flat [] = true
flat (x ∷ xs) = not (eqb x 10) && flat xs

abbrev pub part : ℕ → ℕ → List ℕ → List ℕ
part a e xs = take (e - a) (drop a xs)

pub record Ends (xs : List ℕ) (a e : ℕ) : Type 0 where
  pub from : a ≤ e
  pub within : e ≤ length xs
  pub plain : flat (part a e xs) ≡ true
  pub newline : e < length xs → get_or xs e 0 ≡ 10

pub record State (B : Type 0) : Type 0 where
  pub book : B
  pub line : List ℕ

abbrev pub start : {B : Type 0} → B → State B
start b = record { book = b; line = [] }

abbrev pub most : ℕ
most = 65

abbrev pub cut : {B : Type 0} → State B → State B
cut s = record { book = s.book; line = take most s.line }

module _ {B : Type 0} (A : Answers B) where
  unfoldable pub text_at : State B → ℕ → List ℕ
  text_at s x = pick (eqb x 10) (A.says s.book s.line) []

  unfoldable pub next : State B → ℕ → State B
  next s x =
      pick (eqb x 10) (start (A.leaves s.book s.line)) (record { book = s.book; line = s.line ++ (x ∷ []) })

  unfoldable pub after : State B → List ℕ → State B
  after s [] = s
  after s (x ∷ xs) = after (next s x) xs

  unfoldable pub text_of : State B → List ℕ → List ℕ
  text_of s [] = []
  text_of s (x ∷ xs) = text_at s x ++ text_of (next s x) xs

  unfoldable pub last_text : State B → List ℕ
  last_text s = pick (eqb (length s.line) 0) [] (A.says s.book s.line)

  unfoldable pub last_book : State B → B
  last_book s = pick (eqb (length s.line) 0) s.book (A.leaves s.book s.line)

  unfoldable pub printed : B → List ℕ → List ℕ
  printed b xs = text_of (start b) xs ++ last_text (after (start b) xs)

  unfoldable pub runs : State B → List (List ℕ) → List ℕ
  runs s [] = last_text s
  runs s (xs ∷ ps) = text_of s xs ++ runs (cut (after s xs)) ps

abbrev pub line_of : Pending → List ℕ
line_of p = take p.count p.line

abbrev pub held : {B : Type 0} → B → List ℕ → State B
held b l = record { book = b; line = l }
