-- Lines worked by hand: one for each verb, and some that are no line of the listing.
-- Assumes nothing.
--   starts      the call of a start with these numbers and limits
--   Read ts     each line of ts is read as asking for what stands beside it
--   good_lines  a line of each verb but may, each event kept and not kept, a picture of no slot, of three and of as many as a line
--               has, a start of two, three and eight desks with limits that differ and with a limit out of its range, and one of a D
--               below 2 or above 8 with none, fewer or more limits
--   bad_lines   a number of one digit or four, a space too many or too few, a verb in capitals, a number too many or too few, a
--               verb that is none, an event whose last number is neither 0 nor 1, a start of a D from 2 to 8 with no limit, one too
--               few or one too many, or of five numbers or fewer, a start and a picture in over 64 bytes
--   may_lines   a may of desk 3 and of desk 256; a may with no number, one of two digits, two, a space or a letter too many
use Prim.Native.Nat.{ℕ}
use Prim.Native.String.{String}
use mathlib.Core.Path.{◌≡◌, refl}
use mathlib.Core.Bool.{true, false}
use mathlib.Core.List.{List, [], ◌∷◌, map}
use mathlib.Core.Option.{Option, none, some}
use Rattle.tools.specs.Tests.{all_of, all_below, within}
use Rattle.tools.specs.Lists.{tab}
use Rattle.text.specs.Words.{ascii, opens}
use Rattle.text.specs.Digits.{is_digit, is_number, number_at}
use Rattle.rules.specs.Model.{local, send, receive, reset, drop, discard, before, compare, picture}
use Rattle.rules.specs.Calls.{start, on}
use Rattle.commands.specs.Lines.{shaped, Wanted, makes, asks_may, setup_from, miscounted, start_of, verbs, asks, choose, parse_of}

abbrev starts : ℕ → ℕ → List ℕ → ℕ → ℕ → ℕ → ℕ → Option Wanted
starts D P l M A m n =
    some (makes (start record { desks = D; phases = P; limits = l; seat_lag = M; shelf_lag = A; back = m; ahead = n }))

abbrev Read : List (String × Option Wanted) → Type 0
Read ts =
    map (λ (t : String × Option Wanted). parse_of (ascii t.0)) ts ≡ map (λ (t : String × Option Wanted). t.1) ts

pub good_lines : Read
    (("start 002 005 009 004 002 001 006 007", starts 2 5 (9 ∷ 4 ∷ []) 2 1 6 7)
    ∷ ("start 003 005 004 255 002 002 001 006 007", starts 3 5 (4 ∷ 255 ∷ 2 ∷ []) 2 1 6 7)
    ∷ (
      "start 008 255 002 003 004 005 006 007 008 255 127 254 128 127",
      starts 8 255 (2 ∷ 3 ∷ 4 ∷ 5 ∷ 6 ∷ 7 ∷ 8 ∷ 255 ∷ []) 127 254 128 127,
    )
    ∷ ("start 002 005 001 256 002 001 006 007", starts 2 5 (1 ∷ 256 ∷ []) 2 1 6 7)
    ∷ ("start 002 256 004 003 127 255 126 125", starts 2 256 (4 ∷ 3 ∷ []) 127 255 126 125)
    ∷ ("start 002 000 004 003 127 255 126 125", starts 2 0 (4 ∷ 3 ∷ []) 127 255 126 125)
    ∷ ("start 000 005 002 001 006 007", starts 0 5 [] 2 1 6 7)
    ∷ ("start 001 005 004 002 001 006 007", starts 1 5 (4 ∷ []) 2 1 6 7)
    ∷ ("start 001 005 004 003 002 001 006 007", starts 1 5 (4 ∷ 3 ∷ []) 2 1 6 7)
    ∷ ("start 009 005 002 001 006 007", starts 9 5 [] 2 1 6 7)
    ∷ (
      "start 009 005 002 003 004 005 006 007 008 009 002 001 006 007",
      starts 9 5 (2 ∷ 3 ∷ 4 ∷ 5 ∷ 6 ∷ 7 ∷ 8 ∷ 9 ∷ []) 2 1 6 7,
    )
    ∷ ("start 999 999 999 999 999 999 999", starts 999 999 (999 ∷ []) 999 999 999 999)
    ∷ ("local 007 000", some (makes (on (local 7 false))))
    ∷ ("local 007 001", some (makes (on (local 7 true))))
    ∷ ("send 000 255 000", some (makes (on (send 0 255 false))))
    ∷ ("send 000 255 001", some (makes (on (send 0 255 true))))
    ∷ ("receive 012 345 000", some (makes (on (receive 12 345 false))))
    ∷ ("receive 012 345 001", some (makes (on (receive 12 345 true))))
    ∷ ("reset 007 000", some (makes (on (reset 7 false))))
    ∷ ("reset 007 001", some (makes (on (reset 7 true))))
    ∷ ("drop 031", some (makes (on (drop 31))))
    ∷ ("discard 031", some (makes (on (discard 31))))
    ∷ ("before 001 002", some (makes (on (before 1 2))))
    ∷ ("compare 001 002", some (makes (on (compare 1 2))))
    ∷ ("picture", some (makes (on (picture []))))
    ∷ ("picture 000 001 002", some (makes (on (picture (0 ∷ 1 ∷ 2 ∷ [])))))
    ∷ (
      "picture 007 006 005 004 003 002 001 000 999 256 255 032 031 030",
      some (makes (on (picture (7 ∷ 6 ∷ 5 ∷ 4 ∷ 3 ∷ 2 ∷ 1 ∷ 0 ∷ 999 ∷ 256 ∷ 255 ∷ 32 ∷ 31 ∷ 30 ∷ [])))),
    )
    ∷ [])
unfolding parse_of verbs choose asks start_of setup_from miscounted shaped opens is_number is_digit number_at all_of all_below within tab
good_lines = refl

pub bad_lines : Read
    (("local 7 000", none)
    ∷ ("local 0007 000", none)
    ∷ ("local  007 000", none)
    ∷ ("local 007 000 ", none)
    ∷ ("local007 000", none)
    ∷ ("Local 007 000", none)
    ∷ ("local", none)
    ∷ ("local 007 000 000", none)
    ∷ ("show 000", none)
    ∷ ("keep 007", none)
    ∷ ("local 007", none)
    ∷ ("local 007 002", none)
    ∷ ("local 007 010", none)
    ∷ ("local 007 256", none)
    ∷ ("send 000 001", none)
    ∷ ("send 999 999 002", none)
    ∷ ("receive 000 000 999", none)
    ∷ ("reset 007 100", none)
    ∷ ("start", none)
    ∷ ("start ", none)
    ∷ ("start 003", none)
    ∷ ("start 001 005 002 001 006", none)
    ∷ ("start 009 005 002 001 006", none)
    ∷ ("start 002 005 002 001 006 007", none)
    ∷ ("start 002 005 004 002 001 006 007", none)
    ∷ ("start 002 005 004 004 004 002 001 006 007", none)
    ∷ ("start 003 005 004 004 002 001 006 007", none)
    ∷ ("start 008 005 002 003 004 005 006 007 008 002 001 006 007", none)
    ∷ ("start 007 005 002 003 004 005 006 007 008 009 002 001 006 007", none)
    ∷ ("start 009 005 002 003 004 005 006 007 008 009 010 002 001 006 007", none)
    ∷ ("start 002 005 004  04 002 001 006 007", none)
    ∷ ("start 002 005 004 004 002 001 006 007 ", none)
    ∷ ("start 002 5 004 004 002 001 006 007", none)
    ∷ ("picture 007 006 005 004 003 002 001 000 999 256 255 032 031 030 029", none)
    ∷ ("picture ", none)
    ∷ ("picture 000 ", none)
    ∷ ("picture 0", none)
    ∷ ("picture000", none)
    ∷ [])
unfolding parse_of verbs choose asks start_of setup_from miscounted shaped opens is_number is_digit number_at all_of all_below within tab
bad_lines = refl

pub may_lines : Read
    (("may 003", some (asks_may 3))
    ∷ ("may 256", some (asks_may 256))
    ∷ ("may", none)
    ∷ ("may 03", none)
    ∷ ("may 003 000", none)
    ∷ ("may  003", none)
    ∷ ("mays 003", none)
    ∷ [])
unfolding parse_of verbs choose asks shaped opens is_number is_digit number_at all_of all_below within tab
may_lines = refl
