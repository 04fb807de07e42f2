-- A call, or may, written out as a line.
-- Assumes nothing.
--   fields ns        a space and three digits for each number
--   word_of a        the verb of what is asked for; no word for show and write, which no line asks for
--   wish_number q    1 for yes, 0 for no
--   numbers_of a     its numbers, in the order of its line
--   text_of a        its line
--   Counted a        of a start, its limits are not miscounted
--   Spoken a         it has a verb, its limits are not miscounted, and its line is not over 64 bytes
--   Small ns         each number has at most three digits
use Rattle.std.specs.Prelude.{ℕ, ◌≤◌, ◌<◌, ◌≡◌, Bool, false, List, [], ◌∷◌, ◌++◌, length}
use Rattle.tools.specs.Tests.{pick}
use Rattle.tools.specs.Lists.{byte}
use Rattle.text.specs.Words.{ascii}
use Rattle.text.specs.Put.{field}
use Rattle.rules.specs.Model.{local, send, receive, reset, drop, discard, ask, ask_before, ask_compare, ask_picture, ask_show, ask_write}
use Rattle.rules.specs.Calls.{start, on}
use Rattle.commands.specs.Lines.{miscounted, Wanted, makes, asks_may}

abbrev pub fields : List ℕ → List ℕ
fields [] = []
fields (n ∷ ns) = field n ++ fields ns

abbrev pub word_of : Wanted → List ℕ
word_of (makes (start s)) = ascii "start"
word_of (makes (on (local d q))) = ascii "local"
word_of (makes (on (send d k q))) = ascii "send"
word_of (makes (on (receive d p q))) = ascii "receive"
word_of (makes (on (reset d q))) = ascii "reset"
word_of (makes (on (drop s))) = ascii "drop"
word_of (makes (on (discard p))) = ascii "discard"
word_of (makes (on (ask (ask_before s t)))) = ascii "before"
word_of (makes (on (ask (ask_compare s t)))) = ascii "compare"
word_of (makes (on (ask (ask_picture ss)))) = ascii "picture"
word_of (makes (on (ask (ask_show s)))) = []
word_of (makes (on (ask (ask_write s room)))) = []
word_of (asks_may d) = ascii "may"

abbrev pub wish_number : Bool → ℕ
wish_number q = pick q 1 0

abbrev pub numbers_of : Wanted → List ℕ
numbers_of (makes (start s)) =
    s.desks ∷ s.phases ∷ s.limits ++ (s.seat_lag ∷ s.shelf_lag ∷ s.back ∷ s.ahead ∷ [])
numbers_of (makes (on (local d q))) = d ∷ wish_number q ∷ []
numbers_of (makes (on (send d k q))) = d ∷ k ∷ wish_number q ∷ []
numbers_of (makes (on (receive d p q))) = d ∷ p ∷ wish_number q ∷ []
numbers_of (makes (on (reset d q))) = d ∷ wish_number q ∷ []
numbers_of (makes (on (drop s))) = s ∷ []
numbers_of (makes (on (discard p))) = p ∷ []
numbers_of (makes (on (ask (ask_before s t)))) = s ∷ t ∷ []
numbers_of (makes (on (ask (ask_compare s t)))) = s ∷ t ∷ []
numbers_of (makes (on (ask (ask_picture ss)))) = ss
numbers_of (makes (on (ask (ask_show s)))) = []
numbers_of (makes (on (ask (ask_write s room)))) = []
numbers_of (asks_may d) = d ∷ []

abbrev pub text_of : Wanted → List ℕ
text_of a = word_of a ++ fields (numbers_of a)

abbrev pub Counted : Wanted → Type 0
Counted (makes (start s)) = miscounted s ≡ false
Counted (makes (on c)) = Unit {0}
Counted (asks_may d) = Unit {0}

abbrev pub Spoken : Wanted → Type 0
Spoken a = (word_of a ≡ [] → ⊥) × Counted a × (length (text_of a) ≤ 64)

abbrev pub Small : List ℕ → Type 0
Small ns = (i : ℕ) → i < length ns → byte ns i < 1000
