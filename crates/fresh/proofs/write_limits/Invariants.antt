use Rattle.std.proofs.Common.{◌≡◌, length}
use Rattle.rules.specs.Setups.{Setup}
use Rattle.book.specs.Layout.{book_size, records}
use Rattle.fresh.specs.Written.{Written}
use Rattle.fresh.proofs.write_limits.Given as goal

abbrev pub invariant-loop-j : goal.invariant-loop-j
invariant-loop-j l =
    (length l.book ≡ book_size)
    × ((X : Setup) → X.limits ≡ l.limits → Written X records 0 l.initial.book → Written X records (l.j) l.book)
