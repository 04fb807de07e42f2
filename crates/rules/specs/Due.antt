-- The answer table, row by row: when a name is due to an act.
-- Assumes nothing. In words: docs/RULES.md, "Answer numbers". BadBook is for the bytes, BadLine for the program; NoEvent is never due.
--   AtDesk c j           the act c names the desk j
--   Ticks c j            c is local, send or receive at the desk j
--   ToKeep c             c is an event whose stamp is to be kept
--   OfMail c p           c names the mail place p
--   OfSlot c s           c names the shelf slot s
--   Asks c s t           c asks about the stamp in slot s and the one in slot t, in this order
--   Gone p o             the place p is above 31, or free
--   lag_in Z b j w       the lag of the entry for the desk j in what is held
--   Due Z X b c w        the name w is due to the act c
--   DueNumber Z X b c n   a name of the number n is due
use Rattle.std.specs.Prelude.{◌≡◌, Bool, true, ◌⊎◌, List, length, ℕ, ◌+◌, ◌*◌, ◌≤◌, ◌<◌}
use Rattle.std.proofs.Math.Option.{Option, none, some}
use Rattle.ring.specs.Phases.{Phases}
use Rattle.rules.specs.Setups.{Setup, limit}
use Rattle.rules.specs.declared.Refusal.TheVariants.{
  NoDesk,
  SameDesk,
  NoPlace,
  NotYours,
  PhaseFull,
  MailFull,
  ShelfFull,
  SeatBehind,
  MailBehind,
  ShelfBehind,
  NoRoom,
  OutOfReach,
  WrongOwner,
}
use Rattle.rules.specs.Numbers.{Name, number}
use Rattle.rules.specs.Model.{Held, Tables, Act, local, reset, send, receive, drop, discard}
use Rattle.rules.specs.Model.{before, compare, picture, show, write, used, own, near, chosen}

pub data AtDesk : Act → ℕ → Type 0 where
  at_local : {j : ℕ} {q : Bool} → AtDesk (local j q) j
  at_send : {j k : ℕ} {q : Bool} → AtDesk (send j k q) j
  at_sent : {j k : ℕ} {q : Bool} → AtDesk (send j k q) k
  at_receive : {j p : ℕ} {q : Bool} → AtDesk (receive j p q) j
  at_reset : {j : ℕ} {q : Bool} → AtDesk (reset j q) j

pub data Ticks : Act → ℕ → Type 0 where
  by_local : {j : ℕ} {q : Bool} → Ticks (local j q) j
  by_send : {j k : ℕ} {q : Bool} → Ticks (send j k q) j
  by_receive : {j p : ℕ} {q : Bool} → Ticks (receive j p q) j

pub data ToKeep : Act → Type 0 where
  keep_local : {j : ℕ} → ToKeep (local j true)
  keep_send : {j k : ℕ} → ToKeep (send j k true)
  keep_receive : {j p : ℕ} → ToKeep (receive j p true)
  keep_reset : {j : ℕ} → ToKeep (reset j true)

pub data OfMail : Act → ℕ → Type 0 where
  of_receive : {j p : ℕ} {q : Bool} → OfMail (receive j p q) p
  of_discard : {p : ℕ} → OfMail (discard p) p

pub data OfSlot : Act → ℕ → Type 0 where
  of_drop : {s : ℕ} → OfSlot (drop s) s
  of_before : {s t : ℕ} → OfSlot (before s t) s
  of_before' : {s t : ℕ} → OfSlot (before s t) t
  of_compare : {s t : ℕ} → OfSlot (compare s t) s
  of_compare' : {s t : ℕ} → OfSlot (compare s t) t
  of_picture : {l : List ℕ} {i : ℕ} → i < length l → OfSlot (picture l) (chosen l i)
  of_show : {s : ℕ} → OfSlot (show s) s
  of_write : {s room : ℕ} → OfSlot (write s room) s

pub data Asks : Act → ℕ → ℕ → Type 0 where
  asks_before : {s t : ℕ} → Asks (before s t) s t
  asks_compare : {s t : ℕ} → Asks (compare s t) s t
  asks_back : {s t : ℕ} → Asks (compare s t) t s
  asks_two : {l : List ℕ} {i k : ℕ} → i < length l → k < length l → (i ≡ k → ⊥) → Asks (picture l) (chosen l i) (chosen l k)

abbrev pub Gone : ℕ → Option Held → Type 0
Gone p o = (32 ≤ p) ⊎ (o ≡ none)

abbrev pub lag_in : Phases → Tables → ℕ → Held → ℕ
lag_in Z b j w = Z.lag (own b j).phase (w.row j).phase

pub data Due (Z : Phases) (X : Setup) (b : Tables) : Act → Name → Type 0 where
  -- a desk number is D or more
  no_desk_lem : {c : Act} {j : ℕ} → AtDesk c j → X.desks ≤ j → Due Z X b c NoDesk
  -- send to oneself
  same_desk : {j : ℕ} {q : Bool} → Due Z X b (send j j q) SameDesk
  -- place or slot above 31, or free
  no_mail_lem : {c : Act} {p : ℕ} → OfMail c p → Gone p (b.mail p) → Due Z X b c NoPlace
  no_slot_lem : {c : Act} {s : ℕ} → OfSlot c s → Gone s (b.shelf s) → Due Z X b c NoPlace
  -- picture of a list that does not name exactly D slots
  other_count : {l : List ℕ} → (length l ≡ X.desks → ⊥) → Due Z X b (picture l) NoPlace
  -- mail addressed to another desk
  not_yours : {j p : ℕ} {q : Bool} {w : Held} → b.mail p ≡ some w → (w.to ≡ j → ⊥) → Due Z X b (receive j p q) NotYours
  -- local, send or receive where the own clock is the desk's limit less 1
  phase_full : {c : Act} {j : ℕ} → Ticks c j → limit X j ≤ (own b j).clock + 1 → Due Z X b c PhaseFull
  -- send with no free place
  mail_full : {j k : ℕ} {q : Bool} → ((p : ℕ) → p < 32 → used (b.mail p) ≡ true) → Due Z X b (send j k q) MailFull
  -- an event to be kept with no free slot
  shelf_full : {c : Act} → ToKeep c → ((s : ℕ) → s < 32 → used (b.shelf s) ≡ true) → Due Z X b c ShelfFull
  -- reset at j; the entry for j lags M in the seat of another desk below D
  seat_behind : {j k : ℕ} {q : Bool} → k < X.desks → (k ≡ j → ⊥)
      → Z.lag (own b j).phase ((b.seat k).row j).phase ≡ X.seat_lag → Due Z X b (reset j q) SeatBehind
  -- reset at j; a waiting row's entry for j lags 2M
  mail_behind : {j p : ℕ} {q : Bool} {w : Held} → p < 32 → b.mail p ≡ some w
      → lag_in Z b j w ≡ 2 * X.seat_lag → Due Z X b (reset j q) MailBehind
  -- reset at j; a kept row's entry for j lags A
  shelf_behind : {j s : ℕ} {q : Bool} {w : Held} → s < 32 → b.shelf s ≡ some w
      → lag_in Z b j w ≡ X.shelf_lag → Due Z X b (reset j q) ShelfBehind
  -- write into fewer than 20 bytes
  no_room : {s room : ℕ} → room < 20 → Due Z X b (write s room) NoRoom
  -- comparison beyond reach: the difference is lag of e's entry minus lag of f's entry, at the desk of e
  out_of_reach : {c : Act} {s t : ℕ} {e f : Held} → Asks c s t → b.shelf s ≡ some e → b.shelf t ≡ some f
      → near X (e.row e.by).clock (record { up = lag_in Z b e.by e; down = lag_in Z b e.by f }) ≡ none
      → Due Z X b c OutOfReach
  -- picture where the slot given for a desk holds another desk's stamp
  wrong_owner_lem : {l : List ℕ} {i : ℕ} {e : Held} → i < length l → b.shelf (chosen l i) ≡ some e → (e.by ≡ i → ⊥)
      → Due Z X b (picture l) WrongOwner

abbrev pub DueNumber : Phases → Setup → Tables → Act → ℕ → Type 0
DueNumber Z X b c n = (w : Name) × (number w ≡ n) × Due Z X b c w
