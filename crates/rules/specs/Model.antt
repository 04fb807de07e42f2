-- A book without its bytes, and one step function over any arithmetic of phases.
-- Assumes nothing. In words: docs/RULES.md, "Steps" and "Comparing".
--   seats              the seats; a row has a pair for each of their desks
--   places             the mail places; there are as many shelf slots
--   record_size        the bytes of a stamp record
--   Row                a pair for each desk
--   Seat, Held         a desk's seat; what a used mail place or shelf slot holds
--   Tables             the seats, the mail places and the shelf slots
--   Label              a stamp: its owner and its row
--   Question           a call that asks about the stamps on the shelf; it changes nothing
--   Act                a call on a book that is already there; the four events with whether their stamp is kept; before, compare,
--                      picture, show, write, those that ask
--   slot_asked q       the slot whose stamp a question hands out, none where it hands out none; slot_of c, the same of an act
--   Odds               two desks at odds, the lower one and the higher one, the code's own struct
--   Value              what goes with the number 0, part by part
--   tells t w o n r    a value without an event's parts: yes or no, a relation, two desks at odds, the number of a reset, a row
--   nothing            no part; the values of the calls: made, an event's place, stamp, number of desks learnt of and slot; a stamp;
--                      says, yes or no; relates, a relation; names, two desks at odds; foretells, the number of a reset; shows, a row
--   Answer             a number of the answer table, and the value that goes with it
--   refusal, accepted   the answer with a number and no value; with 0 and a value
--   Result             what an act answers, and the tables that it leaves
--   used, row_in, by_in, to_in   of a place or slot: whether it is used, its row, its sender or owner, its addressee
--   zeros, idle, fresh        a row of zeros, a seat not started, the tables of a fresh book
--   own b k            desk k's pair in its own seat; phases b k, its phase
--   free_mail b        the lowest free mail place, or their number where none is free; free_slot likewise
--   slot_for b q       the slot for the stamp of an event: the lowest free one where it is kept, q; none where it is not
--   tick, turn         a pair after local, send or receive; after a reset
--   taken b j w k      what desk j takes of its own pair for desk k and of that in the row w
--   grown, merged, turned   a desk's row after local and send; after receive; after reset
--   learns b j w k     desk j learns of the other desk k from the row w: its pair for k changes
--   learnt b j w       of how many desks it learns
--   reach_back X t     a difference within reach is above minus this: m, and m+1 from a reset, t
--   near X c d         d where it is within reach from a stamp whose own clock is c; a reset's own clock is 0
--   is_out o, gap_in o whether there is no difference within reach; the difference, 0 where there is none
--   same_by d c c'     no difference, and the same clock
--   is_before          whether the stamp of the first owner is before that of the second
--   relation           how the first of two stamps stands to the second
--   no_desk, no_mail, no_slot   there is no such desk; no used mail place, no used slot of that number
--   at_limit X b j     desk j's own clock is at its last value
--   no_shelf b q       the stamp is to be kept, q, and no slot is free
--   lags, seat_lags    what is held, the seat of another desk, lags just so far at desk j
--   gap Z X b j e f    the difference from e to f at desk j by their lags, none where it is out of reach
--   gap_held           the same between two slots, none where one is free; gap_from, by their numbers
--   too_far Z X b s t   of the stamps in the slots s and t either is out of reach from the other
--   knows_more Z b s t  the stamp in slot t knows of a later event at the desk of the stamp in slot s than that stamp itself
--   at_odds Z b s t    either of the two knows more of the other's desk
--   chosen l i         the slot that the list l has for desk i
--   of_two p l i k     the desk i is below k, and p holds of the slots that the list l has for them
--   first_odd Z b l    the lowest desk that is at odds with a higher one, by the slots of the list l; their number where none is
--   second_odd Z b l   the lowest desk above it that it is at odds with
--   pictured Z b l     yes where no two desks are at odds, else those two
--   wrong_owner b l i  the slot that the list l has for desk i holds another desk's stamp
--   seated b j r       the seats with row r in j's, started
--   event b j r q p l mail   an event at j that leaves row r there and, where it is kept, q, in its slot too; with its place p, the
--                      number l of desks learnt of and the mail as given
--   filing, telling    drop and discard, which change the mail or the shelf alone; an act that changes nothing
--   settle n b r       the result r where the number n is 0; else the refusal n, and the tables b as they were
--   ask_reasons Z X b  q  when which number is given to the question q, in ascending order; ask_tells, what an accepted one is told
--   reasons Z X b c    when which number is given to the act c, in ascending order
--   why Z X b c        the smallest number that is due, 0 where the act is accepted
--   done Z X b c       what an accepted act answers and leaves
--   step Z X b c       what an act answers and leaves: a refusal its number only, and the tables as they were
use Rattle.std.specs.Prelude.{Bool, true, false, not, ◌&&◌, ◌||◌, List, [], ◌∷◌, length, ℕ, ◌+◌, ◌*◌, ltb, eqb}
use Rattle.std.proofs.Math.Option.{Option, none, some}
use Rattle.tools.specs.Tests.{pick, any, lowest, count}
use Rattle.tools.specs.Lists.{byte}
use Rattle.tools.specs.Tables.{put, put_at}
use Rattle.tools.specs.Reasons.{Reason, first, if_done}
use Rattle.ring.specs.Phases.{Phases, Pair, Gap, later_by, lag_gap, is_later, Taken, later}
use Rattle.rules.specs.Setups.{Setup, limit}
use Rattle.rules.specs.declared.Relation.{Relation}
use Rattle.rules.specs.declared.Odds as Oddly
use Rattle.rules.specs.declared.Relation.TheVariants.{Before, After, Same, Concurrent, Crossed}
use Rattle.rules.specs.declared.Refusal.TheVariants.{
  NoDesk,
  SameDesk,
  NoPlace,
  NotYours,
  PhaseFull,
  MailFull,
  ShelfFull,
  SeatBehind,
  MailBehind,
  ShelfBehind,
  NoRoom,
  OutOfReach,
  WrongOwner,
}
use Rattle.rules.specs.Numbers.{given}

abbrev pub seats : ℕ
seats = 8

abbrev pub places : ℕ
places = 32

abbrev pub record_size : ℕ
record_size = 20

abbrev pub Row : Type 0
Row = ℕ → Pair

pub record Seat : Type 0 where
  pub started : Bool
  pub row : Row

-- mail is by its sender to its addressee; a kept stamp is by its owner, and to is 0
pub record Held : Type 0 where
  pub by : ℕ
  pub to : ℕ
  pub row : Row

pub record Tables : Type 0 where
  pub seat : ℕ → Seat
  pub mail : ℕ → Option Held
  pub shelf : ℕ → Option Held

pub record Label : Type 0 where
  pub owner : ℕ
  pub row : Row

-- slots by their numbers, picture's as a list; write also has the bytes of room that it is lent
pub data Question : Type 0 where
  ask_before ask_compare ask_write : ℕ → ℕ → Question
  ask_picture : List ℕ → Question
  ask_show : ℕ → Question

-- desks, places and slots by their numbers, an event last with whether it is kept
pub data Act : Type 0 where
  local reset : ℕ → Bool → Act
  send receive : ℕ → ℕ → Bool → Act
  drop discard : ℕ → Act
  ask : Question → Act

abbrev pub before : ℕ → ℕ → Act
before s t = ask (ask_before s t)

abbrev pub compare : ℕ → ℕ → Act
compare s t = ask (ask_compare s t)

abbrev pub picture : List ℕ → Act
picture l = ask (ask_picture l)

abbrev pub show : ℕ → Act
show s = ask (ask_show s)

abbrev pub write : ℕ → ℕ → Act
write s room = ask (ask_write s room)

abbrev pub slot_asked : Question → Option ℕ
slot_asked (ask_before s t) = none
slot_asked (ask_compare s t) = none
slot_asked (ask_picture l) = none
slot_asked (ask_show s) = some s
slot_asked (ask_write s room) = some s

abbrev pub slot_of : Act → Option ℕ
slot_of (local j q) = none
slot_of (send j k q) = none
slot_of (receive j p q) = none
slot_of (reset j q) = none
slot_of (drop s) = none
slot_of (discard p) = none
slot_of (ask q) = slot_asked q

abbrev pub Odds : Type 0
Odds = Oddly.Odds

-- the parts that a call gives; each of them is none where it gives none
pub record Value : Type 0 where
  pub place : Option ℕ
  pub stamp : Option Label
  pub learnt : Option ℕ
  pub slot : Option ℕ
  pub verdict : Option Bool
  pub relation : Option Relation
  pub odds : Option Odds
  pub foretold : Option ℕ
  pub row : Option Row

abbrev pub tells : Option Bool → Option Relation → Option Odds → Option ℕ → Option Row → Value
tells t w o n r =
    record {
      place = none;
      stamp = none;
      learnt = none;
      slot = none;
      verdict = t;
      relation = w;
      odds = o;
      foretold = n;
      row = r;
    }

abbrev pub nothing : Value
nothing = tells none none none none none

-- the place of a send, the stamp, how many desks a receive learns of, and the slot of an event that is kept
abbrev pub made : Option ℕ → ℕ → Row → Option ℕ → Option ℕ → Value
made p j r l s =
    record {
      place = p;
      stamp = some record { owner = j; row = r };
      learnt = l;
      slot = s;
      verdict = none;
      relation = none;
      odds = none;
      foretold = none;
      row = none;
    }

abbrev pub stamp : ℕ → Row → Value
stamp j r = made none j r none none

abbrev pub says : Bool → Value
says t = tells (some t) none none none none

abbrev pub relates : Relation → Value
relates w = tells none (some w) none none none

abbrev pub names : ℕ → ℕ → Value
names i k = tells none none (some record { lower = i; higher = k }) none none

abbrev pub foretells : ℕ → Value
foretells n = tells none none none (some n) none

abbrev pub shows : Row → Value
shows r = tells none none none none (some r)

pub record Answer : Type 0 where
  pub number : ℕ
  pub value : Value

abbrev pub refusal : ℕ → Answer
refusal n = record { number = n; value = nothing }

abbrev pub accepted : Value → Answer
accepted v = record { number = 0; value = v }

pub record Result : Type 0 where
  pub answer : Answer
  pub tables : Tables

abbrev pub used : Option Held → Bool
used none = false
used (some w) = true

abbrev pub zeros : Row
zeros k = record { phase = 0; clock = 0 }

abbrev pub row_in : Option Held → Row
row_in none = zeros
row_in (some w) = w.row

abbrev pub by_in : Option Held → ℕ
by_in none = 0
by_in (some w) = w.by

abbrev pub to_in : Option Held → ℕ
to_in none = 0
to_in (some w) = w.to

abbrev pub idle : Seat
idle = record { started = false; row = zeros }

abbrev pub fresh : Tables
fresh = record { seat = λ j. idle; mail = λ p. none; shelf = λ s. none }

abbrev pub own : Tables → ℕ → Pair
own b k = (b.seat k).row k

abbrev pub phases : Tables → ℕ → ℕ
phases b k = (own b k).phase

abbrev pub free_mail : Tables → ℕ
free_mail b = lowest places (λ p. not (used (b.mail p)))

abbrev pub free_slot : Tables → ℕ
free_slot b = lowest places (λ s. not (used (b.shelf s)))

abbrev pub slot_for : Tables → Bool → Option ℕ
slot_for b q = pick q (some (free_slot b)) none

abbrev pub tick : Pair → Pair
tick q = record { phase = q.phase; clock = q.clock + 1 }

abbrev pub grown : Tables → ℕ → Row
grown b j = put (b.seat j).row j (tick (own b j))

unfoldable pub reach_back : Setup → Bool → ℕ
reach_back X t = pick t (X.back + 1) X.back

-- a difference d within reach lies from -(m-1) to n-1, from a reset's stamp from -m to n-1
abbrev pub near : Setup → ℕ → Gap → Option Gap
near X c d =
    pick (ltb d.up (d.down + X.ahead) && ltb d.down (d.up + reach_back X (eqb c 0))) (some d) none

abbrev pub is_out : Option Gap → Bool
is_out none = true
is_out (some d) = false

abbrev pub gap_in : Option Gap → Gap
gap_in none = record { up = 0; down = 0 }
gap_in (some d) = d

abbrev pub same_by : Gap → ℕ → ℕ → Bool
same_by d ce cf = eqb d.down d.up && eqb ce cf

-- owners j of e and k of f; d the difference from e to f at desk j
abbrev pub is_before : Gap → ℕ → ℕ → Row → Row → Bool
is_before d j k e f =
    later_by d (e j).clock (f j).clock || (not (eqb j k) && same_by d (e j).clock (f j).clock)

-- d' the difference from f to e at desk k
abbrev pub relation : Gap → Gap → ℕ → ℕ → Row → Row → Relation
relation d d' j k e f =
    pick (eqb j k && same_by d (e j).clock (f j).clock) Same
    (pick (is_before d j k e f)
    (pick (is_before d' k j f e) Crossed Before)
    (pick (is_before d' k j f e) After Concurrent))

-- what the reasons ask
abbrev pub no_desk : Setup → ℕ → Bool
no_desk X j = not (ltb j X.desks)

abbrev pub no_mail : Tables → ℕ → Bool
no_mail b p = not (used (b.mail p) && ltb p places)

abbrev pub no_slot : Tables → ℕ → Bool
no_slot b s = not (used (b.shelf s) && ltb s places)

abbrev pub at_limit : Setup → Tables → ℕ → Bool
at_limit X b j = not (ltb ((own b j).clock + 1) (limit X j))

abbrev pub no_shelf : Tables → Bool → Bool
no_shelf b q = q && not (ltb (free_slot b) places)

-- the i-th slot of a list is for desk i
abbrev pub chosen : List ℕ → ℕ → ℕ
chosen l i = byte l i

abbrev pub of_two : (ℕ → ℕ → Bool) → List ℕ → ℕ → ℕ → Bool
of_two p l i k = ltb i k && p (chosen l i) (chosen l k)

abbrev pub wrong_owner : Tables → List ℕ → ℕ → Bool
wrong_owner b l i = not (eqb (by_in (b.shelf (chosen l i))) i)

abbrev pub seated : Tables → ℕ → Row → ℕ → Seat
seated b j r = put b.seat j (record { started = true; row = r })

-- an event at j that leaves row r: its own row is what is kept
abbrev pub event : Tables → ℕ → Row → Bool → Option ℕ → Option ℕ → (ℕ → Option Held) → Result
event b j r q p l mail =
    record {
      answer = accepted (made p j r l (slot_for b q));
      tables = record {
        seat = seated b j r;
        mail = mail;
        shelf = put_at b.shelf (slot_for b q) (some record { by = j; to = 0; row = r });
      };
    }

-- an act that is no event, with the mail and the shelf as given
abbrev pub filing : Tables → (ℕ → Option Held) → (ℕ → Option Held) → Result
filing b mail shelf =
    record { answer = accepted nothing; tables = record { seat = b.seat; mail = mail; shelf = shelf } }

abbrev pub telling : Tables → Value → Result
telling b v = record { answer = accepted v; tables = b }

abbrev pub settle : ℕ → Tables → Result → Result
settle n b r = if_done n r (record { answer = refusal n; tables = b })

module _ (Z : Phases) where
  abbrev pub turn : Pair → Pair
  turn q = record { phase = Z.next q.phase; clock = 0 }

  abbrev pub taken : Tables → ℕ → Row → ℕ → Taken
  taken b j w k = later Z (own b k).phase ((b.seat j).row k) (w k)

  abbrev pub merged : Tables → ℕ → Row → Row
  merged b j w = put (λ k. (taken b j w k).pair) j (tick (own b j))

  -- j's own pair grows at every receive and tells nothing
  abbrev pub learns : Tables → ℕ → Row → ℕ → Bool
  learns b j w k = not (eqb k j) && (taken b j w k).changed

  abbrev pub turned : Tables → ℕ → Row
  turned b j = put (b.seat j).row j (turn (own b j))

  -- whether what is held lags just so far at desk j
  abbrev pub lags : Tables → ℕ → ℕ → Option Held → Bool
  lags b j bound none = false
  lags b j bound (some w) = eqb (Z.lag (own b j).phase (w.row j).phase) bound

  abbrev pub seat_lags : Tables → ℕ → ℕ → ℕ → Bool
  seat_lags b j bound s = not (eqb s j) && eqb (Z.lag (own b j).phase ((b.seat s).row j).phase) bound

  -- at the desk of the stamp in s, whose own pair for it is the one that the stamp in t may know a later one than
  abbrev pub knows_more : Tables → ℕ → ℕ → Bool
  knows_more b s t =
      let j = by_in (b.shelf s) in is_later Z (own b j).phase (row_in (b.shelf t) j) (row_in (b.shelf s) j)

  abbrev pub at_odds : Tables → ℕ → ℕ → Bool
  at_odds b s t = knows_more b s t || knows_more b t s

  abbrev pub first_odd : Tables → List ℕ → ℕ
  first_odd b l = lowest (length l) (λ i. any (length l) (of_two (at_odds b) l i))

  abbrev pub second_odd : Tables → List ℕ → ℕ
  second_odd b l = lowest (length l) (of_two (at_odds b) l (first_odd b l))

  unfoldable pub pictured : Tables → List ℕ → Value
  pictured b l = pick (ltb (first_odd b l) (length l)) (names (first_odd b l) (second_odd b l)) (says true)

module _ (Z : Phases) (X : Setup) where
  abbrev pub learnt : Tables → ℕ → Row → ℕ
  learnt b j w = count X.desks (learns Z b j w)

  -- the difference at desk j between two kept rows, by their lags
  abbrev pub gap : Tables → ℕ → Row → Row → Option Gap
  gap b j e f = near X (e j).clock (lag_gap Z (own b j).phase (e j) (f j))

  abbrev pub gap_held : Tables → Option Held → Option Held → Option Gap
  gap_held b none f = none
  gap_held b (some e) none = none
  gap_held b (some e) (some f) = gap b e.by e.row f.row

  abbrev pub gap_from : Tables → ℕ → ℕ → Option Gap
  gap_from b s t = gap_held b (b.shelf s) (b.shelf t)

  abbrev pub too_far : Tables → ℕ → ℕ → Bool
  too_far b s t = is_out (gap_from b s t) || is_out (gap_from b t s)

  unfoldable pub ask_reasons : Tables → Question → List Reason
  ask_reasons b (ask_before s t) =
      given NoPlace (no_slot b s || no_slot b t)
      ∷ given OutOfReach (is_out (gap_from b s t))
      ∷ []
  ask_reasons b (ask_compare s t) =
      given NoPlace (no_slot b s || no_slot b t)
      ∷ given OutOfReach (too_far b s t)
      ∷ []
  ask_reasons b (ask_picture l) =
      given NoPlace (not (eqb (length l) X.desks) || any (length l) (λ i. no_slot b (chosen l i)))
      ∷ given OutOfReach (any (length l) (λ i. any (length l) (of_two (too_far b) l i)))
      ∷ given WrongOwner (any (length l) (wrong_owner b l))
      ∷ []
  ask_reasons b (ask_show s) = given NoPlace (no_slot b s) ∷ []
  ask_reasons b (ask_write s room) = given NoPlace (no_slot b s) ∷ given NoRoom (ltb room record_size) ∷ []

  unfoldable pub reasons : Tables → Act → List Reason
  reasons b (local j q) =
      given NoDesk (no_desk X j)
      ∷ given PhaseFull (at_limit X b j)
      ∷ given ShelfFull (no_shelf b q)
      ∷ []
  reasons b (send j k q) =
      given NoDesk (no_desk X j || no_desk X k)
      ∷ given SameDesk (eqb j k)
      ∷ given PhaseFull (at_limit X b j)
      ∷ given MailFull (not (ltb (free_mail b) places))
      ∷ given ShelfFull (no_shelf b q)
      ∷ []
  reasons b (receive j p q) =
      given NoDesk (no_desk X j)
      ∷ given NoPlace (no_mail b p)
      ∷ given NotYours (not (eqb (to_in (b.mail p)) j))
      ∷ given PhaseFull (at_limit X b j)
      ∷ given ShelfFull (no_shelf b q)
      ∷ []
  reasons b (reset j q) =
      given NoDesk (no_desk X j)
      ∷ given ShelfFull (no_shelf b q)
      ∷ given SeatBehind (any X.desks (seat_lags Z b j X.seat_lag))
      ∷ given MailBehind (any places (λ p. lags Z b j (2 * X.seat_lag) (b.mail p)))
      ∷ given ShelfBehind (any places (λ s. lags Z b j X.shelf_lag (b.shelf s)))
      ∷ []
  reasons b (drop s) = given NoPlace (no_slot b s) ∷ []
  reasons b (discard p) = given NoPlace (no_mail b p) ∷ []
  reasons b (ask q) = ask_reasons b q

  abbrev pub why : Tables → Act → ℕ
  why b c = first (reasons b c)

  unfoldable pub ask_tells : Tables → Question → Value
  ask_tells b (ask_before s t) =
      says (is_before (gap_in (gap_from b s t))
      (by_in (b.shelf s)) (by_in (b.shelf t)) (row_in (b.shelf s)) (row_in (b.shelf t)))
  ask_tells b (ask_compare s t) =
      relates (relation (gap_in (gap_from b s t)) (gap_in (gap_from b t s))
      (by_in (b.shelf s)) (by_in (b.shelf t)) (row_in (b.shelf s)) (row_in (b.shelf t)))
  ask_tells b (ask_picture l) = pictured Z b l
  ask_tells b (ask_show s) = shows (row_in (b.shelf s))
  ask_tells b (ask_write s room) = stamp (by_in (b.shelf s)) (row_in (b.shelf s))

  unfoldable pub done : Tables → Act → Result
  done b (local j q) = event b j (grown b j) q none none b.mail
  done b (send j k q) =
      event b j (grown b j) q (some (free_mail b)) none
      (put b.mail (free_mail b) (some record { by = j; to = k; row = grown b j }))
  done b (receive j p q) =
      let w = row_in (b.mail p) in event b j (merged Z b j w) q none (some (learnt b j w)) (put b.mail p none)
  done b (reset j q) = event b j (turned Z b j) q none none b.mail
  done b (drop s) = filing b b.mail (put b.shelf s none)
  done b (discard p) = filing b (put b.mail p none) b.shelf
  done b (ask q) = telling b (ask_tells b q)

  unfoldable pub step : Tables → Act → Result
  step b c = settle (why b c) b (done b c)
