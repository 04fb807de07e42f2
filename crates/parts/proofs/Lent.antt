-- A lent buffer with bytes in front.
-- Assumes nothing.
use Rattle.std.proofs.Common.{◌≡◌, ℕ, List, [], refl}
use Rattle.book.specs.Stamps.{filled}

-- no bytes leave it as it was
pub filled_none : (t : List ℕ) → filled t [] ≡ t
unfolding filled
filled_none t = refl
