-- May a desk reset? Asked of a setup and a summary, without the book.
-- Assumes nothing. In words: docs/RULES.md, "May a desk reset".
--   lags_ok X l        none of the three lags l passes its bound: M for seats, 2M for mail, A for slots
--   summary_ok X m     the bytes m are a summary of 26 bytes with its mark, none of whose 24 lags passes its bound
--   reset_number X l   the number that a reset of a desk with the lags l would be answered: 0 where it would be accepted
--   may_reasons X m j  when which number is given to may at desk j, in ascending order
--   may_of X m j       the answer to may at desk j: the number of its reset, or a refusal
use Rattle.std.specs.Prelude.{ℕ, ◌*◌, Bool, not, List, [], ◌∷◌, leb, eqb, length}
use Rattle.tools.specs.Tests.{all_of, all_below}
use Rattle.tools.specs.Lists.{byte}
use Rattle.tools.specs.Reasons.{Reason, first}
use Rattle.rules.specs.Setups.{Setup, permits}
use Rattle.rules.specs.declared.Refusal.TheVariants.{BadSetup, NoDesk, SeatBehind, MailBehind, ShelfBehind, BadSummary}
use Rattle.rules.specs.Numbers.{given}
use Rattle.rules.specs.Model.{seats, foretells, Answer, no_desk}
use Rattle.rules.specs.Labels.{settle_off}
use Rattle.summary.specs.Summary.{Lags, summary_size, summary_mark0, summary_mark1, lags_in}

unfoldable pub lags_ok : Setup → Lags → Bool
lags_ok X l = all_of (leb l.seats X.seat_lag ∷ leb l.mail (2 * X.seat_lag) ∷ leb l.shelf X.shelf_lag ∷ [])

unfoldable pub summary_ok : Setup → List ℕ → Bool
summary_ok X m =
    all_of
    (eqb (length m) summary_size
    ∷ eqb (byte m 0) summary_mark0
    ∷ eqb (byte m 1) summary_mark1
    ∷ all_below seats (λ j. lags_ok X (lags_in m j))
    ∷ [])

abbrev pub reset_number : Setup → Lags → ℕ
reset_number X l =
    first
    (given SeatBehind (eqb l.seats X.seat_lag)
    ∷ given MailBehind (eqb l.mail (2 * X.seat_lag))
    ∷ given ShelfBehind (eqb l.shelf X.shelf_lag)
    ∷ [])

abbrev pub may_reasons : Setup → List ℕ → ℕ → List Reason
may_reasons X m j =
    given BadSetup (not (permits X))
    ∷ given NoDesk (no_desk X j)
    ∷ given BadSummary (not (summary_ok X m))
    ∷ []

unfoldable pub may_of : Setup → List ℕ → ℕ → Answer
may_of X m j = settle_off (first (may_reasons X m j)) (foretells (reset_number X (lags_in m j)))
