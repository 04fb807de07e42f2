-- The starred cases that need no bytes, the listing of the rules, a run for each error that the desks would make, runs that ask of
-- resets, runs whose mails tell more or less, runs that ask for pictures, runs of desks with different limits, a run round the full
-- ring, and one for each refusal that these leave out. Refusals are by their literal numbers.
-- Assumes nothing.
--   case_setup P A    the setup of the cases with a ring of P, and kept stamps that may lag A; X, that with 5 and 4
--   uneven            X with m of 1 and n of 3
--   narrow, small     two desks that may lag one phase, as in the listing; the same with clocks and a reach to spare
--   limited_to l k    X with two desks, of the limits l and k
--   pair v t          the pair v.t
--   Made, Shown       a stamp, and a value, as the listing shows it
--   event p j ps      a stamp, with the place p where it has one
--   plain, made, posted, word, stands, odd   nothing shown; a stamp; a stamp with its place; yes or no; a relation; two desks at odds
--   learning n v      the stamp v of a receive with the number n of desks learnt of; in_slot s v, the stamp v with its slot s, last
--   pairs k n r       n pairs of the row r, from desk k on
--   cut D e, shown D v   a stamp, and the value v, as the listing shows it, with D pairs
--   Line              a number, and what is shown with it
--   told v, refused n an accepted line that shows v; the line of the refusal numbered n
--   Case              calls one after another, and the lines that answer them
--   turn_line t       the line of a turn
--   answers b c       what the ring answers to the calls of the case c, from the book b on
--   opened X cs ls    the case of the calls cs after an accepted start
--   starred           the cases of calls, by their numbers; there is no 5
--   listing           the example of the rules
--   told_by p         desk 0 resets and tells desk 1 of it by the place p, nothing kept
--   told_lines p v t  the lines of that: v the phase that desk 0 comes to, t the clock of desk 1
--   errors            a run for each error that the desks would make; that of a received mail's place is case 12
--   resets            runs that ask of resets, which reach a phase further back, and of other events
--   letters           runs whose mails tell of no desk, of one and of two
--   three s t u       the call picture, of the slots s, t and u for desks 0, 1 and 2
--   pictures          runs that ask for pictures: closed ones, each two desks at odds, and what refuses them
--   last_sent         desk 0 sends desk 1 its last clock, under the limits 4 and 2
--   limits            runs of two desks with different limits, by their numbers
--   byte_ring P A     two desks that may lag 127 phases on a ring of P, kept stamps A
--   turns n           n resets of desk 0; turn_lines v n, their lines, from the phase v on
--   up_to n           the numbers below n
--   round             the full ring, rings that are not permitted, and a run of desk 0 once round the full one, by their numbers
--   filling           32 kept events of desk 0, which fill the shelf; filled, their lines
--   room              runs on places and slots: full ones, freed ones, and a stamp written or kept too long
--   all               all of these
--   took v t          v.0 is taken, and t says whether the held pair changed
--   later_of own      what is taken of phases 4 and 0, the first held, and of 0 and 4, on a ring of 5, at that own phase
--   apart up down     a difference within reach
--   stamp_at v t      a stamp of desk 0 with the pairs v.t
--   reach_from v t vs the differences off the book from that stamp to those of the phases vs; numbers_from, the numbers of before
--   Cases             the one statement: every case is answered as its lines say, whatever book it begins on
use Rattle.std.specs.Prelude.{◌≡◌, Bool, true, false, List, [], ◌∷◌, ◌++◌, map, ℕ, zero, suc, ◌+◌, replicate}
use Rattle.std.proofs.Math.Option.{Option, none, some}
use Rattle.tools.specs.Lists.{tab}
use Rattle.ring.specs.Phases.{Pair, Gap, ring, Taken, later}
use Rattle.rules.specs.Setups.{Setup}
use Rattle.rules.specs.declared.Relation.{Relation}
use Rattle.rules.specs.declared.Relation.TheVariants.{Before, After, Same, Concurrent}
use Rattle.rules.specs.Model.{Row, Label, before, compare, picture, write, local, reset, send, receive, drop, discard, Odds, Value}
use Rattle.rules.specs.Calls.{Book, Call, start, on, Turn, ring_of}
use Rattle.rules.specs.Labels.{gap_off, before_off}
use Rattle.history.specs.Runs.{run}

abbrev pub case_setup : ℕ → ℕ → Setup
case_setup P A = record { desks = 3; phases = P; limits = 4 ∷ 4 ∷ 4 ∷ []; seat_lag = 2; shelf_lag = A; back = 2; ahead = 2 }

abbrev pub X : Setup
X = case_setup 5 4

abbrev pub uneven : Setup
uneven = record { desks = 3; phases = 5; limits = 4 ∷ 4 ∷ 4 ∷ []; seat_lag = 2; shelf_lag = 4; back = 1; ahead = 3 }

abbrev pub narrow : Setup
narrow = record { desks = 2; phases = 3; limits = 3 ∷ 3 ∷ []; seat_lag = 1; shelf_lag = 1; back = 1; ahead = 1 }

abbrev pub pair : ℕ → ℕ → Pair
pair v t = record { phase = v; clock = t }

pub record Made : Type 0 where
  pub owner : ℕ
  pub pairs : List Pair

pub record Shown : Type 0 where
  pub place : Option ℕ
  pub stamp : Option Made
  pub learnt : Option ℕ
  pub slot : Option ℕ
  pub verdict : Option Bool
  pub relation : Option Relation
  pub odds : Option Odds

abbrev pub plain : Shown
plain = record { place = none; stamp = none; learnt = none; slot = none; verdict = none; relation = none; odds = none }

abbrev pub event : Option ℕ → ℕ → List Pair → Shown
event p j ps =
    record {
      place = p;
      stamp = some record { owner = j; pairs = ps };
      learnt = none;
      slot = none;
      verdict = none;
      relation = none;
      odds = none;
    }

abbrev pub made : ℕ → List Pair → Shown
made = event none

abbrev pub posted : ℕ → ℕ → List Pair → Shown
posted p = event (some p)

abbrev pub learning : ℕ → Shown → Shown
learning n v = record { place = none; stamp = v.stamp; learnt = some n; slot = none; verdict = none; relation = none; odds = none }

abbrev pub in_slot : ℕ → Shown → Shown
in_slot s v =
    record { place = v.place; stamp = v.stamp; learnt = v.learnt; slot = some s; verdict = none; relation = none; odds = none }

abbrev pub word : Bool → Shown
word t = record { place = none; stamp = none; learnt = none; slot = none; verdict = some t; relation = none; odds = none }

abbrev pub stands : Relation → Shown
stands r = record { place = none; stamp = none; learnt = none; slot = none; verdict = none; relation = some r; odds = none }

abbrev pub odd : ℕ → ℕ → Shown
odd i k =
    record {
      place = none;
      stamp = none;
      learnt = none;
      slot = none;
      verdict = none;
      relation = none;
      odds = some record { lower = i; higher = k };
    }

unfoldable pub pairs : ℕ → ℕ → Row → List Pair
pairs k zero r = []
pairs k (suc n) r = r k ∷ pairs (suc k) n r

abbrev pub cut : ℕ → Option Label → Option Made
cut D none = none
cut D (some e) = some record { owner = e.owner; pairs = pairs 0 D e.row }

abbrev pub shown : ℕ → Value → Shown
shown D v =
    record {
      place = v.place;
      stamp = cut D v.stamp;
      learnt = v.learnt;
      slot = v.slot;
      verdict = v.verdict;
      relation = v.relation;
      odds = v.odds;
    }

pub record Line : Type 0 where
  pub number : ℕ
  pub shown : Shown

abbrev pub told : Shown → Line
told v = record { number = 0; shown = v }

abbrev pub refused : ℕ → Line
refused n = record { number = n; shown = plain }

pub record Case : Type 0 where
  pub calls : List Call
  pub lines : List Line

abbrev pub turn_line : Turn → Line
turn_line t = record { number = t.answer.number; shown = shown t.book.setup.desks t.answer.value }

abbrev pub answers : Book → Case → List Line
answers b c = map turn_line (run ring_of b c.calls)

abbrev pub opened : Setup → List Call → List Line → Case
opened X cs ls = record { calls = start X ∷ cs; lines = told plain ∷ ls }

abbrev pub starred : List Case
starred =
    -- 1 and 2: BadSetup
    record {
      calls = start X ∷ start (case_setup 4 4) ∷ start (case_setup 5 1) ∷ [];
      lines = told plain ∷ refused 2 ∷ refused 2 ∷ [];
    }
    -- 3
    ∷ opened X (on (local 0 false) ∷ []) (told (made 0 (pair 0 1 ∷ pair 0 0 ∷ pair 0 0 ∷ [])) ∷ [])
    -- 6: SameDesk, NoDesk
    ∷ opened X (on (send 0 0 false) ∷ on (send 3 3 false) ∷ []) (refused 4 ∷ refused 3 ∷ [])
    -- 7: PhaseFull
    ∷ opened X (replicate 4 (on (local 0 false)))
    (told (made 0 (pair 0 1 ∷ pair 0 0 ∷ pair 0 0 ∷ []))
    ∷ told (made 0 (pair 0 2 ∷ pair 0 0 ∷ pair 0 0 ∷ []))
    ∷ told (made 0 (pair 0 3 ∷ pair 0 0 ∷ pair 0 0 ∷ []))
    ∷ refused 8
    ∷ [])
    -- 8: SeatBehind
    ∷ opened X (replicate 3 (on (reset 0 false)))
    (told (made 0 (pair 1 0 ∷ pair 0 0 ∷ pair 0 0 ∷ []))
    ∷ told (made 0 (pair 2 0 ∷ pair 0 0 ∷ pair 0 0 ∷ []))
    ∷ refused 11
    ∷ [])
    -- 11: one slot asked against itself
    ∷ opened X (on (local 0 true) ∷ on (compare 0 0) ∷ on (before 0 0) ∷ [])
    (told (in_slot 0 (made 0 (pair 0 1 ∷ pair 0 0 ∷ pair 0 0 ∷ []))) ∷ told (stands Same) ∷ told (word false) ∷ [])
    -- 12: NotYours; it still waits, and is gone once it is received: NoPlace
    ∷ opened X (on (send 0 1 false) ∷ on (receive 2 0 false) ∷ on (receive 1 0 false) ∷ on (receive 1 0 false) ∷ [])
    (told (posted 0 0 (pair 0 1 ∷ pair 0 0 ∷ pair 0 0 ∷ []))
    ∷ refused 6
    ∷ told (learning 1 (made 1 (pair 0 1 ∷ pair 0 1 ∷ pair 0 0 ∷ [])))
    ∷ refused 5
    ∷ [])
    ∷ []

abbrev pub listing : Case
listing =
    opened narrow
    (on (local 0 true)
    ∷ on (send 0 1 false)
    ∷ on (receive 1 0 true)
    ∷ on (compare 0 1)
    ∷ on (reset 0 false)
    ∷ on (reset 0 false)
    ∷ [])
    (told (in_slot 0 (made 0 (pair 0 1 ∷ pair 0 0 ∷ [])))
    ∷ told (posted 0 0 (pair 0 2 ∷ pair 0 0 ∷ []))
    ∷ told (in_slot 1 (learning 1 (made 1 (pair 0 2 ∷ pair 0 1 ∷ []))))
    ∷ told (stands Before)
    ∷ told (made 0 (pair 1 0 ∷ pair 0 0 ∷ []))
    ∷ refused 11
    ∷ [])

abbrev pub small : Setup
small = record { desks = 2; phases = 3; limits = 99 ∷ 99 ∷ []; seat_lag = 1; shelf_lag = 1; back = 1; ahead = 2 }

abbrev pub told_by : ℕ → List Call
told_by p = on (reset 0 false) ∷ on (send 0 1 false) ∷ on (receive 1 p false) ∷ []

abbrev pub told_lines : ℕ → ℕ → ℕ → List Line
told_lines p v t =
    told (made 0 (pair v 0 ∷ pair 0 0 ∷ []))
    ∷ told (posted p 0 (pair v 1 ∷ pair 0 0 ∷ []))
    ∷ told (learning 1 (made 1 (pair v 1 ∷ pair 0 t ∷ [])))
    ∷ []

abbrev pub errors : List Case
errors =
    -- taking the larger phase byte as the later one: after 2 the phase 0 is newer, and desk 1 takes it
    opened small (told_by 0 ++ told_by 0 ++ told_by 0) (told_lines 0 1 1 ++ told_lines 0 2 2 ++ told_lines 0 0 3)
    -- taking 0.0 as "nothing seen": the newest stamp of desk 0 is 0.0, and desk 1 has not seen it
    ∷ opened small
    (told_by 0
    ++ on (reset 0 false)
    ∷ on (send 0 1 false)
    ∷ on (receive 1 0 true)
    ∷ on (reset 0 true)
    ∷ on (before 1 0)
    ∷ on (compare 1 0)
    ∷ [])
    (told_lines 0 1 1
    ++ told (made 0 (pair 2 0 ∷ pair 0 0 ∷ []))
    ∷ told (posted 0 0 (pair 2 1 ∷ pair 0 0 ∷ []))
    ∷ told (in_slot 0 (learning 1 (made 1 (pair 2 1 ∷ pair 0 2 ∷ []))))
    ∷ told (in_slot 1 (made 0 (pair 0 0 ∷ pair 0 0 ∷ [])))
    ∷ told (word false)
    ∷ told (stands Concurrent)
    ∷ [])
    -- checking only seats at a reset: the mail in place 0 has waited for two phases, MailBehind
    ∷ opened small (on (send 0 1 false) ∷ told_by 1 ++ told_by 1 ++ on (reset 0 false) ∷ [])
    (told (posted 0 0 (pair 0 1 ∷ pair 0 0 ∷ [])) ∷ told_lines 1 1 1 ++ told_lines 1 2 2 ++ refused 12 ∷ [])
    -- merging the receiver's own entry from the mail: desk 1 has a clock of 1, and the mail knows of 0
    ∷ opened small (on (send 0 1 false) ∷ on (local 1 false) ∷ on (receive 1 0 false) ∷ [])
    (told (posted 0 0 (pair 0 1 ∷ pair 0 0 ∷ []))
    ∷ told (made 1 (pair 0 0 ∷ pair 0 1 ∷ []))
    ∷ told (learning 1 (made 1 (pair 0 1 ∷ pair 0 2 ∷ [])))
    ∷ [])
    -- giving "concurrent" when one direction is out of reach: at desk 1 the difference is 0, at desk 0 it is -2, OutOfReach
    ∷ opened X
    (on (local 1 true)
    ∷ on (reset 0 false)
    ∷ on (reset 0 false)
    ∷ on (local 0 true)
    ∷ on (before 0 1)
    ∷ on (compare 0 1)
    ∷ [])
    (told (in_slot 0 (made 1 (pair 0 0 ∷ pair 0 1 ∷ pair 0 0 ∷ [])))
    ∷ told (made 0 (pair 1 0 ∷ pair 0 0 ∷ pair 0 0 ∷ []))
    ∷ told (made 0 (pair 2 0 ∷ pair 0 0 ∷ pair 0 0 ∷ []))
    ∷ told (in_slot 1 (made 0 (pair 2 1 ∷ pair 0 0 ∷ pair 0 0 ∷ [])))
    ∷ told (word false)
    ∷ refused 16
    ∷ [])
    ∷ []

abbrev pub resets : List Case
resets =
    -- from the reset 2.0 a difference of -2 is within reach, from the local 2.1 it is not; ahead 2 is beyond it from the local 0.1
    opened X
    (on (local 0 true)
    ∷ on (reset 0 false)
    ∷ on (reset 0 true)
    ∷ on (local 0 true)
    ∷ on (before 1 0)
    ∷ on (before 2 0)
    ∷ on (before 0 1)
    ∷ on (compare 1 0)
    ∷ [])
    (told (in_slot 0 (made 0 (pair 0 1 ∷ pair 0 0 ∷ pair 0 0 ∷ [])))
    ∷ told (made 0 (pair 1 0 ∷ pair 0 0 ∷ pair 0 0 ∷ []))
    ∷ told (in_slot 1 (made 0 (pair 2 0 ∷ pair 0 0 ∷ pair 0 0 ∷ [])))
    ∷ told (in_slot 2 (made 0 (pair 2 1 ∷ pair 0 0 ∷ pair 0 0 ∷ [])))
    ∷ told (word false)
    ∷ refused 16
    ∷ refused 16
    ∷ refused 16
    ∷ [])
    -- where more is permitted ahead than back, two resets one phase apart compare; each way goes by its own first stamp
    ∷ opened uneven
    (on (reset 0 true)
    ∷ on (reset 0 true)
    ∷ on (local 0 true)
    ∷ on (compare 0 1)
    ∷ on (compare 1 0)
    ∷ on (before 0 2)
    ∷ on (compare 0 2)
    ∷ [])
    (told (in_slot 0 (made 0 (pair 1 0 ∷ pair 0 0 ∷ pair 0 0 ∷ [])))
    ∷ told (in_slot 1 (made 0 (pair 2 0 ∷ pair 0 0 ∷ pair 0 0 ∷ [])))
    ∷ told (in_slot 2 (made 0 (pair 2 1 ∷ pair 0 0 ∷ pair 0 0 ∷ [])))
    ∷ told (stands Before)
    ∷ told (stands After)
    ∷ told (word true)
    ∷ refused 16
    ∷ [])
    ∷ []

abbrev pub letters : List Case
letters =
    -- desk 1 passes on what it heard: its mail tells desk 2 of both; the older mail in place 0 then tells nothing
    opened X
    (on (send 0 2 false)
    ∷ on (send 0 1 false)
    ∷ on (receive 1 1 false)
    ∷ on (send 1 2 false)
    ∷ on (receive 2 1 true)
    ∷ on (receive 2 0 false)
    ∷ [])
    (told (posted 0 0 (pair 0 1 ∷ pair 0 0 ∷ pair 0 0 ∷ []))
    ∷ told (posted 1 0 (pair 0 2 ∷ pair 0 0 ∷ pair 0 0 ∷ []))
    ∷ told (learning 1 (made 1 (pair 0 2 ∷ pair 0 1 ∷ pair 0 0 ∷ [])))
    ∷ told (posted 1 1 (pair 0 2 ∷ pair 0 2 ∷ pair 0 0 ∷ []))
    ∷ told (in_slot 0 (learning 2 (made 2 (pair 0 2 ∷ pair 0 2 ∷ pair 0 1 ∷ []))))
    ∷ told (learning 0 (made 2 (pair 0 2 ∷ pair 0 2 ∷ pair 0 2 ∷ [])))
    ∷ [])
    -- a mail of phase 1 waits while the phase comes round to 0: it is the older one, and tells nothing
    ∷ opened small (told_by 0 ++ on (send 0 1 false) ∷ told_by 1 ++ told_by 1 ++ on (receive 1 0 false) ∷ [])
    (told_lines 0 1 1
    ++ told (posted 0 0 (pair 1 2 ∷ pair 0 0 ∷ []))
    ∷ told_lines 1 2 2
    ++ told_lines 1 0 3
    ++ told (learning 0 (made 1 (pair 0 1 ∷ pair 0 4 ∷ [])))
    ∷ [])
    ∷ []

abbrev pub three : ℕ → ℕ → ℕ → Call
three s t u = on (picture (s ∷ t ∷ u ∷ []))

abbrev pub pictures : List Case
pictures =
    -- desk 0 tells desk 1, and that tells desk 2: a send may be chosen without its receipt, a receipt not without its send; the lowest
    -- desk is named, and with it the lowest at odds with it; NoPlace, WrongOwner; from 2.1 OutOfReach, not from the reset before it
    opened X
    (on (local 0 true) ∷ on (local 1 true) ∷ on (local 2 true)
    ∷ on (send 0 1 true) ∷ on (receive 1 0 true) ∷ on (send 1 2 false) ∷ on (receive 2 0 true)
    ∷ three 0 1 2 ∷ three 3 1 2 ∷ three 3 4 2
    ∷ three 0 4 5 ∷ three 0 1 5 ∷ three 3 4 5
    ∷ on (picture (3 ∷ 4 ∷ [])) ∷ three 3 4 6 ∷ three 4 3 2
    ∷ on (reset 0 false) ∷ on (reset 0 true) ∷ on (local 0 true)
    ∷ three 6 1 2 ∷ three 7 1 2 ∷ three 1 7 2
    ∷ [])
    (told (in_slot 0 (made 0 (pair 0 1 ∷ pair 0 0 ∷ pair 0 0 ∷ [])))
    ∷ told (in_slot 1 (made 1 (pair 0 0 ∷ pair 0 1 ∷ pair 0 0 ∷ [])))
    ∷ told (in_slot 2 (made 2 (pair 0 0 ∷ pair 0 0 ∷ pair 0 1 ∷ [])))
    ∷ told (in_slot 3 (posted 0 0 (pair 0 2 ∷ pair 0 0 ∷ pair 0 0 ∷ [])))
    ∷ told (in_slot 4 (learning 1 (made 1 (pair 0 2 ∷ pair 0 2 ∷ pair 0 0 ∷ []))))
    ∷ told (posted 0 1 (pair 0 2 ∷ pair 0 3 ∷ pair 0 0 ∷ []))
    ∷ told (in_slot 5 (learning 2 (made 2 (pair 0 2 ∷ pair 0 3 ∷ pair 0 2 ∷ []))))
    ∷ told (word true) ∷ told (word true) ∷ told (word true)
    ∷ told (odd 0 1) ∷ told (odd 0 2) ∷ told (odd 1 2)
    ∷ refused 5 ∷ refused 5 ∷ refused 18
    ∷ told (made 0 (pair 1 0 ∷ pair 0 0 ∷ pair 0 0 ∷ []))
    ∷ told (in_slot 6 (made 0 (pair 2 0 ∷ pair 0 0 ∷ pair 0 0 ∷ [])))
    ∷ told (in_slot 7 (made 0 (pair 2 1 ∷ pair 0 0 ∷ pair 0 0 ∷ [])))
    ∷ told (word true) ∷ refused 16 ∷ refused 16
    ∷ [])
    -- after 2 the phase comes round to 0: desk 1 knows of 0.1, which is later than 2.2 and 0.0, and no more than that send itself
    ∷ opened small
    (told_by 0 ++ told_by 0 ++ on (local 0 true) ∷ on (reset 0 true) ∷ on (send 0 1 true) ∷ on (receive 1 0 true)
    ∷ on (picture (0 ∷ 3 ∷ [])) ∷ on (picture (1 ∷ 3 ∷ [])) ∷ on (picture (2 ∷ 3 ∷ []))
    ∷ [])
    (told_lines 0 1 1 ++ told_lines 0 2 2 ++ told (in_slot 0 (made 0 (pair 2 2 ∷ pair 0 0 ∷ [])))
    ∷ told (in_slot 1 (made 0 (pair 0 0 ∷ pair 0 0 ∷ [])))
    ∷ told (in_slot 2 (posted 0 0 (pair 0 1 ∷ pair 0 0 ∷ [])))
    ∷ told (in_slot 3 (learning 1 (made 1 (pair 0 1 ∷ pair 0 3 ∷ []))))
    ∷ told (odd 0 1) ∷ told (odd 0 1) ∷ told (word true)
    ∷ [])
    ∷ []

abbrev pub limited_to : ℕ → ℕ → Setup
limited_to l k = record { desks = 2; phases = 5; limits = l ∷ k ∷ []; seat_lag = 2; shelf_lag = 4; back = 2; ahead = 2 }

abbrev pub last_sent : List Call
last_sent = on (local 0 false) ∷ on (local 0 false) ∷ on (send 0 1 false) ∷ []

abbrev pub limits : List Case
limits =
    -- 14: each desk is PhaseFull by its own limit
    opened (limited_to 4 2) (replicate 4 (on (local 0 false)) ++ replicate 2 (on (local 1 false)))
    (told (made 0 (pair 0 1 ∷ pair 0 0 ∷ []))
    ∷ told (made 0 (pair 0 2 ∷ pair 0 0 ∷ []))
    ∷ told (made 0 (pair 0 3 ∷ pair 0 0 ∷ []))
    ∷ refused 8
    ∷ told (made 1 (pair 0 0 ∷ pair 0 1 ∷ []))
    ∷ refused 8
    ∷ [])
    -- 15: desk 1 takes in a clock of desk 0 that it could not have itself
    ∷ opened (limited_to 4 2) (last_sent ++ on (receive 1 0 false) ∷ on (local 1 false) ∷ on (local 0 false) ∷ [])
    (told (made 0 (pair 0 1 ∷ pair 0 0 ∷ []))
    ∷ told (made 0 (pair 0 2 ∷ pair 0 0 ∷ []))
    ∷ told (posted 0 0 (pair 0 3 ∷ pair 0 0 ∷ []))
    ∷ told (learning 1 (made 1 (pair 0 3 ∷ pair 0 1 ∷ [])))
    ∷ refused 8
    ∷ refused 8
    ∷ [])
    ∷ []

abbrev pub up_to : ℕ → List ℕ
up_to n = tab 0 n (λ i. i)

abbrev pub byte_ring : ℕ → ℕ → Setup
byte_ring P A = record { desks = 2; phases = P; limits = 4 ∷ 4 ∷ []; seat_lag = 127; shelf_lag = A; back = 127; ahead = 127 }

abbrev pub turns : ℕ → List Call
turns n = replicate n (on (reset 0 false))

abbrev pub turn_lines : ℕ → ℕ → List Line
turn_lines v n = map (λ i. told (made 0 (pair (v + i) 0 ∷ pair 0 0 ∷ []))) (up_to n)

abbrev pub round : List Case
round =
    -- 17: A of 255 asks for the full ring; rings of 0 and of 257 are none
    record {
      calls = start (byte_ring 256 255) ∷ start (byte_ring 255 255) ∷ start (byte_ring 256 256) ∷ start (byte_ring 257 255) ∷ start (byte_ring 0 255) ∷ [];
      lines = told plain ∷ refused 2 ∷ refused 2 ∷ refused 2 ∷ refused 2 ∷ [];
    }
    -- 18: desk 0 goes once round, 127 phases at a stretch; after 255 comes 0, which is later; at 255 its kept 0.1 lags 255
    ∷ opened (byte_ring 256 255)
    (on (local 0 true)
    ∷ turns 128
    ++ on (send 0 1 false)
    ∷ on (receive 1 0 false)
    ∷ turns 127
    ++ on (send 0 1 false)
    ∷ on (receive 1 0 false)
    ∷ on (reset 0 true)
    ∷ on (reset 0 true)
    ∷ on (drop 0)
    ∷ on (reset 0 true)
    ∷ on (send 0 1 false)
    ∷ on (receive 1 0 true)
    ∷ on (compare 1 0)
    ∷ on (compare 0 1)
    ∷ on (compare 1 2)
    ∷ [])
    (told (in_slot 0 (made 0 (pair 0 1 ∷ pair 0 0 ∷ [])))
    ∷ turn_lines 1 127
    ++ refused 11
    ∷ told (posted 0 0 (pair 127 1 ∷ pair 0 0 ∷ []))
    ∷ told (learning 1 (made 1 (pair 127 1 ∷ pair 0 1 ∷ [])))
    ∷ turn_lines 128 127
    ++ told (posted 0 0 (pair 254 1 ∷ pair 0 0 ∷ []))
    ∷ told (learning 1 (made 1 (pair 254 1 ∷ pair 0 2 ∷ [])))
    ∷ told (in_slot 1 (made 0 (pair 255 0 ∷ pair 0 0 ∷ [])))
    ∷ refused 13
    ∷ told plain
    ∷ told (in_slot 0 (made 0 (pair 0 0 ∷ pair 0 0 ∷ [])))
    ∷ told (posted 0 0 (pair 0 1 ∷ pair 0 0 ∷ []))
    ∷ told (in_slot 2 (learning 1 (made 1 (pair 0 1 ∷ pair 0 3 ∷ []))))
    ∷ told (stands Before)
    ∷ told (stands After)
    ∷ told (stands Before)
    ∷ [])
    ∷ []

abbrev pub filling : List Call
filling = replicate 32 (on (local 0 true))

abbrev pub filled : List Line
filled = map (λ s. told (in_slot s (made 0 (pair 0 (s + 1) ∷ pair 0 0 ∷ [])))) (up_to 32)

abbrev pub room : List Case
room =
    -- 32 sends fill the places from the lowest on, one more is MailFull, and the next fills the place that a discard frees
    opened small (replicate 33 (on (send 0 1 false)) ++ on (discard 7) ∷ on (send 0 1 false) ∷ [])
    (map (λ p. told (posted p 0 (pair 0 (p + 1) ∷ pair 0 0 ∷ []))) (up_to 32)
    ++ refused 9
    ∷ told plain
    ∷ told (posted 7 0 (pair 0 33 ∷ pair 0 0 ∷ []))
    ∷ [])
    -- 32 kept events fill the slots, one more is ShelfFull, and the next fills the slot that a drop frees
    ∷ opened small (filling ++ on (local 0 true) ∷ on (drop 7) ∷ on (local 0 true) ∷ [])
    (filled ++ refused 10 ∷ told plain ∷ told (in_slot 7 (made 0 (pair 0 33 ∷ pair 0 0 ∷ []))) ∷ [])
    -- on a full shelf each event that is to be kept is ShelfFull and leaves clocks, places and waiting mail: the next send has the
    -- next place, and desk 1 receives without keeping; a slot that a drop frees is the next kept event's, the lowest first
    ∷ opened small
    (filling
    ++ on (send 0 1 false)
    ∷ on (local 0 true)
    ∷ on (send 0 1 true)
    ∷ on (receive 1 0 true)
    ∷ on (reset 0 true)
    ∷ on (send 0 1 false)
    ∷ on (receive 1 0 false)
    ∷ on (drop 9)
    ∷ on (drop 7)
    ∷ on (send 0 1 true)
    ∷ on (receive 1 1 true)
    ∷ [])
    (filled
    ++ told (posted 0 0 (pair 0 33 ∷ pair 0 0 ∷ []))
    ∷ refused 10
    ∷ refused 10
    ∷ refused 10
    ∷ refused 10
    ∷ told (posted 1 0 (pair 0 34 ∷ pair 0 0 ∷ []))
    ∷ told (learning 1 (made 1 (pair 0 33 ∷ pair 0 1 ∷ [])))
    ∷ told plain
    ∷ told plain
    ∷ told (in_slot 7 (posted 0 0 (pair 0 35 ∷ pair 0 0 ∷ [])))
    ∷ told (in_slot 9 (learning 1 (made 1 (pair 0 34 ∷ pair 0 2 ∷ []))))
    ∷ [])
    -- the smallest number: a reset that is to be kept on a full shelf is ShelfFull also where the seat lags, else SeatBehind
    ∷ opened small (filling ++ on (reset 0 false) ∷ on (reset 0 true) ∷ on (reset 0 false) ∷ [])
    (filled ++ told (made 0 (pair 1 0 ∷ pair 0 0 ∷ [])) ∷ refused 10 ∷ refused 11 ∷ [])
    -- a discard frees its place alone: the other mail still waits and is received; NoPlace for a place free or above 31
    ∷ opened small
    (on (send 0 1 false)
    ∷ on (send 0 1 false)
    ∷ on (discard 0)
    ∷ on (receive 1 0 false)
    ∷ on (receive 1 1 false)
    ∷ on (send 0 1 false)
    ∷ on (discard 32)
    ∷ [])
    (told (posted 0 0 (pair 0 1 ∷ pair 0 0 ∷ []))
    ∷ told (posted 1 0 (pair 0 2 ∷ pair 0 0 ∷ []))
    ∷ told plain
    ∷ refused 5
    ∷ told (learning 1 (made 1 (pair 0 2 ∷ pair 0 1 ∷ [])))
    ∷ told (posted 0 0 (pair 0 3 ∷ pair 0 0 ∷ []))
    ∷ refused 5
    ∷ [])
    -- a drop frees its slot alone: the other stamp is still kept, and is written into 20 bytes; 19 are NoRoom
    ∷ opened small
    (on (local 0 true)
    ∷ on (local 0 true)
    ∷ on (drop 0)
    ∷ on (write 0 20)
    ∷ on (write 1 19)
    ∷ on (write 1 20)
    ∷ on (local 0 true)
    ∷ on (compare 1 0)
    ∷ on (drop 32)
    ∷ [])
    (told (in_slot 0 (made 0 (pair 0 1 ∷ pair 0 0 ∷ [])))
    ∷ told (in_slot 1 (made 0 (pair 0 2 ∷ pair 0 0 ∷ [])))
    ∷ told plain
    ∷ refused 5
    ∷ refused 15
    ∷ told (made 0 (pair 0 2 ∷ pair 0 0 ∷ []))
    ∷ told (in_slot 0 (made 0 (pair 0 3 ∷ pair 0 0 ∷ [])))
    ∷ told (stands Before)
    ∷ refused 5
    ∷ [])
    -- ShelfBehind: a kept stamp lags as far as it may, until it is dropped
    ∷ opened small (on (local 0 true) ∷ told_by 0 ++ on (reset 0 false) ∷ on (drop 0) ∷ on (reset 0 false) ∷ [])
    (told (in_slot 0 (made 0 (pair 0 1 ∷ pair 0 0 ∷ [])))
    ∷ told_lines 0 1 1
    ++ refused 13
    ∷ told plain
    ∷ told (made 0 (pair 2 0 ∷ pair 0 0 ∷ []))
    ∷ [])
    ∷ []

abbrev pub all : List Case
all = starred ++ listing ∷ errors ++ resets ++ letters ++ pictures ++ limits ++ round ++ room

abbrev pub took : ℕ → Bool → Taken
took v t = record { pair = pair v 0; changed = t }

abbrev pub later_of : ℕ → List Taken
later_of own = later (ring 5) own (pair 4 0) (pair 0 0) ∷ later (ring 5) own (pair 0 0) (pair 4 0) ∷ []

abbrev pub apart : ℕ → ℕ → Option Gap
apart up down = some record { up = up; down = down }

abbrev pub stamp_at : ℕ → ℕ → Label
stamp_at v t = record { owner = 0; row = λ k. pair v t }

abbrev pub reach_from : ℕ → ℕ → List ℕ → List (Option Gap)
reach_from v t vs = map (λ u. gap_off X 0 (stamp_at v t).row (stamp_at u 1).row) vs

abbrev pub numbers_from : ℕ → ℕ → List ℕ → List ℕ
numbers_from v t vs = map (λ u. (before_off X (some (stamp_at v t)) (some (stamp_at u 1))).number) vs

pub record Cases : Type 0 where
  pub runs : (b : Book) → map (answers b) all ≡ map (λ (c : Case). c.lines) all
  -- 9
  pub newest : (later_of 0 ≡ (took 0 true ∷ took 0 false ∷ [])) × (later_of 4 ≡ (took 4 false ∷ took 4 true ∷ []))
  -- 10: r of 0, 1, 4, 3, 2, of an e that is no reset
  pub reach : reach_from 3 1 (3 ∷ 4 ∷ 2 ∷ 1 ∷ 0 ∷ []) ≡ (apart 0 0 ∷ apart 1 0 ∷ apart 0 1 ∷ none ∷ none ∷ [])
  pub numbers : numbers_from 3 1 (3 ∷ 4 ∷ 2 ∷ 1 ∷ 0 ∷ []) ≡ (0 ∷ 0 ∷ 0 ∷ 16 ∷ 16 ∷ [])
  -- and of a reset e
  pub reset_reach : reach_from 3 0 (3 ∷ 4 ∷ 2 ∷ 1 ∷ 0 ∷ []) ≡ (apart 0 0 ∷ apart 1 0 ∷ apart 0 1 ∷ apart 0 2 ∷ none ∷ [])
  pub reset_numbers : numbers_from 3 0 (3 ∷ 4 ∷ 2 ∷ 1 ∷ 0 ∷ []) ≡ (0 ∷ 0 ∷ 0 ∷ 0 ∷ 16 ∷ [])
