-- The 32 places of the mail and the 32 slots of the shelf, alike: 32 records from record a on.
-- Assumes nothing.
--   held_at s a p     what the p-th of the records from record a on holds; the mail is at mail_from, the shelf at shelf_from
--   used_at s a p     it is one of the 32, and used
--   free_from s a     the lowest free one, 32 where there is none; free_place s a, the same, none where there is none
--   lag_in s j k      how far the entry for desk j in record k lags
--   lags_at s j B a p it is used and its entry for desk j lags just B
--   behind_from s j B a   some one of them does
--   seat_lags_at s j k     desk k is another than j, and its seat's entry for desk j lags M
--   seats_behind s j      some desk's seat does
use Rattle.std.specs.Prelude.{ℕ, ◌+◌, Bool, not, ◌&&◌, List, ltb, Some, None}
use Rattle.std.specs.Prelude as Std
use Rattle.std.proofs.Math.Option.{Option, none}
use Rattle.tools.specs.Tests.{pick, any, lowest}
use Rattle.ring.specs.Phases.{lag_of}
use Rattle.rules.specs.Model.{Held, used, lags, seat_lags}
use Rattle.rules.specs.Calls.{ring_of}
use Rattle.book.specs.Layout.{places, fields, setup_of, row_at}
use Rattle.book.specs.Codec.{read_held}
use Rattle.book.specs.Numbers.{tables_of}

abbrev pub held_at : List ℕ → ℕ → ℕ → Option Held
held_at s a p = pick (ltb p places) (read_held ((fields s).at (a + p))) none

abbrev pub used_at : List ℕ → ℕ → ℕ → Bool
used_at s a p = used (held_at s a p) && ltb p places

abbrev pub free_from : List ℕ → ℕ → ℕ
free_from s a = lowest places (λ p. not (used (held_at s a p)))

abbrev pub free_place : List ℕ → ℕ → Std.Option ℕ
free_place s a = pick (ltb (free_from s a) places) (Some (free_from s a)) None

abbrev pub lags_at : List ℕ → ℕ → ℕ → ℕ → ℕ → Bool
lags_at s j B a p = lags (ring_of (setup_of s)) (tables_of s) j B (held_at s a p)

abbrev pub behind_from : List ℕ → ℕ → ℕ → ℕ → Bool
behind_from s j B a = any places (lags_at s j B a)

abbrev pub seat_lags_at : List ℕ → ℕ → ℕ → Bool
seat_lags_at s j k = seat_lags (ring_of (setup_of s)) (tables_of s) j (setup_of s).seat_lag k

abbrev pub seats_behind : List ℕ → ℕ → Bool
seats_behind s j = any (setup_of s).desks (seat_lags_at s j)

abbrev pub lag_in : List ℕ → ℕ → ℕ → ℕ
lag_in s j k = lag_of (setup_of s).phases (row_at s j j).phase (row_at s k j).phase
