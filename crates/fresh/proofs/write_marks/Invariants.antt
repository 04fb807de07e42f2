use Rattle.std.proofs.Common.{◌≡◌, length}
use Rattle.book.specs.Layout.{book_size}
use Rattle.fresh.specs.Written.{Marks}
use Rattle.fresh.proofs.write_marks.Given as goal

abbrev pub invariant-loop-k : goal.invariant-loop-k
invariant-loop-k l = (length l.book ≡ book_size) × Marks l.from l.k l.initial.book l.book
