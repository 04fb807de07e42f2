-- The summary of a book: how far each desk's phase lags at most, in the seats of other desks, in waiting mail and in used slots.
-- Assumes nothing. In words: docs/RULES.md, "The summary".
--   Lags              three largest lags of a desk's phase: in the seats of other desks, in waiting mail, in used slots
--   level             nothing lags
--   seat_lag Z b j k  how far desk j's entry lags in the seat of another desk k; 0 in its own seat
--   held_lag Z b j o  how far it lags in what a place or slot holds; 0 where it is free
--   lags_of Z X b j   the largest lags of desk j's phase; nothing lags where there is no desk j
--   summary_size      how many bytes a summary has
--   summary_mark0, summary_mark1   the mark of a summary
--   lags_at j         the byte where the three lags of desk j begin
--   lag_byte l c      which of the three lags l the c-th is
--   summary_byte f i  byte i of the summary that has the lags f of each desk
--   summary_with f    its bytes
--   summary_of Z b    the summary of the book b
--   summary_due m     why the summary m refuses a change: its length alone
--   lags_in m j       the three lags of desk j that the summary m tells
--   Right s m         the summary m is right of the book s, both of them bytes
use Rattle.std.specs.Prelude.{ℕ, ◌+◌, ◌*◌, ◌-◌, ◌/◌, ◌%◌, ◌≡◌, not, List, [], ◌∷◌, ltb, eqb, length}
use Rattle.std.proofs.Math.Option.{Option, none, some}
use Rattle.tools.specs.Tests.{pick, largest}
use Rattle.tools.specs.Lists.{byte, tab}
use Rattle.tools.specs.Reasons.{Reason}
use Rattle.ring.specs.Phases.{Phases}
use Rattle.rules.specs.Setups.{Setup}
use Rattle.rules.specs.declared.Refusal.TheVariants.{BadSummary}
use Rattle.rules.specs.Numbers.{given}
use Rattle.rules.specs.Model.{places, Held, Tables, own}
use Rattle.rules.specs.Calls.{Book, ring_of}
use Rattle.book.specs.Codec.{decode}

pub record Lags : Type 0 where
  pub seats : ℕ
  pub mail : ℕ
  pub shelf : ℕ

abbrev pub level : Lags
level = record { seats = 0; mail = 0; shelf = 0 }

module _ (Z : Phases) where
  abbrev pub seat_lag : Tables → ℕ → ℕ → ℕ
  seat_lag b j k = pick (eqb k j) 0 (Z.lag (own b j).phase ((b.seat k).row j).phase)

  abbrev pub held_lag : Tables → ℕ → Option Held → ℕ
  held_lag b j none = 0
  held_lag b j (some w) = Z.lag (own b j).phase (w.row j).phase

  unfoldable pub lags_of : Setup → Tables → ℕ → Lags
  lags_of X b j =
      pick (ltb j X.desks)
      (record {
        seats = largest X.desks (seat_lag b j);
        mail = largest places (λ p. held_lag b j (b.mail p));
        shelf = largest places (λ s. held_lag b j (b.shelf s));
      })
      level

abbrev pub summary_size : ℕ
summary_size = 26

abbrev pub summary_mark0 : ℕ
summary_mark0 = 0x53

abbrev pub summary_mark1 : ℕ
summary_mark1 = 0x55

abbrev pub lags_at : ℕ → ℕ
lags_at j = 2 + 3 * j

unfoldable pub lag_byte : Lags → ℕ → ℕ
lag_byte l c = pick (eqb c 0) l.seats (pick (eqb c 1) l.mail l.shelf)

unfoldable pub summary_byte : (ℕ → Lags) → ℕ → ℕ
summary_byte f i =
    pick (eqb i 0) summary_mark0 (pick (eqb i 1) summary_mark1 (lag_byte (f ((i - 2) / 3)) ((i - 2) % 3)))

unfoldable pub summary_with : (ℕ → Lags) → List ℕ
summary_with f = tab 0 summary_size (summary_byte f)

abbrev pub summary_of : (Setup → Phases) → Book → List ℕ
summary_of Z b = summary_with (lags_of (Z b.setup) b.setup b.tables)

abbrev pub summary_due : List ℕ → List Reason
summary_due m = given BadSummary (not (eqb (length m) summary_size)) ∷ []

abbrev pub lags_in : List ℕ → ℕ → Lags
lags_in m j = record { seats = byte m (lags_at j); mail = byte m (lags_at j + 1); shelf = byte m (lags_at j + 2) }

abbrev pub Right : List ℕ → List ℕ → Type 0
Right s m = m ≡ summary_of ring_of (decode s)
