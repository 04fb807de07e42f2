-- The six numbers of a setup by fewer tests: the inequalities between them keep some ranges, and no range is asked twice.
-- Assumes nothing.
--   bounded X       the ranges of D, m and n, and P at most 256, above A, which is at least M, which is at least 1
--   on_the_ring X   2M and the reach are within the ring
use Rattle.std.specs.Prelude.{◌+◌, ◌*◌, Bool, [], ◌∷◌, leb, ltb}
use Rattle.tools.specs.Tests.{all_of, within}
use Rattle.rules.specs.Setups.{Setup}

unfoldable pub bounded : Setup → Bool
bounded X =
    all_of
    (within 2 8 X.desks
    ∷ leb X.phases 256
    ∷ leb 1 X.seat_lag
    ∷ leb X.seat_lag X.shelf_lag
    ∷ ltb X.shelf_lag X.phases
    ∷ within 1 127 X.back
    ∷ within 1 127 X.ahead
    ∷ [])

unfoldable pub on_the_ring : Setup → Bool
on_the_ring X = all_of (leb (2 * X.seat_lag + 1) X.phases ∷ leb (X.back + X.ahead) X.phases ∷ [])
