-- The number that an act on the bytes of a book is answered.
-- Assumes nothing.
--   tables_of s    the tables that the bytes s tell
--   why_of s c     the number that the act c is due on sound bytes, 0 where it is accepted
--   number_of s c  the same on any bytes: BadBook first
use Rattle.std.specs.Prelude.{ℕ, List}
use Rattle.tools.specs.Tests.{pick}
use Rattle.rules.specs.declared.Refusal.TheVariants.{BadBook}
use Rattle.rules.specs.Numbers.{number}
use Rattle.rules.specs.Model.{Tables, Act, why}
use Rattle.rules.specs.Calls.{ring_of}
use Rattle.book.specs.Layout.{fields, setup_of}
use Rattle.book.specs.Sound.{sound}
use Rattle.book.specs.Codec.{read}

abbrev pub tables_of : List ℕ → Tables
tables_of s = read (fields s)

abbrev pub why_of : List ℕ → Act → ℕ
why_of s c = why (ring_of (setup_of s)) (setup_of s) (tables_of s) c

abbrev pub number_of : List ℕ → Act → ℕ
number_of s c = pick (sound s) (why_of s c) (number BadBook)
