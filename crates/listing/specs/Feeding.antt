-- What pieces of a stream of lines print on a book with the papers beside it, and what they leave of them.
-- Assumes nothing.
--   fed_text s xs n   what the first n bytes of the piece xs print, from the state s on
--   Feeds s xs n f p   n bytes of the piece xs are taken in from the state s on: the book and papers f and the begun line p are left
use Rattle.std.specs.Prelude.{ℕ, ◌≤◌, ◌≡◌, List, length, take}
use Rattle.text.specs.Stream.{State, most, cut, after, text_of, held}
use Rattle.office.specs.Office.{Folder}
use Rattle.answering.specs.Answering.{answering}

abbrev pub fed_text : State Folder → List ℕ → ℕ → List ℕ
fed_text s xs n = text_of answering s (take n xs)

pub record Feeds (s : State Folder) (xs : List ℕ) (n : ℕ) (f : Folder) (p : List ℕ) : Type 0 where
  pub within : n ≤ length xs
  pub few : length p ≤ most
  pub left : held f p ≡ cut (after answering s (take n xs))
