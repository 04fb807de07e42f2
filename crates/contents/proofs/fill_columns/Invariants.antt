use Rattle.std.proofs.Common.{◌≡◌, length}
use Rattle.contents.specs.Checks.{Held}
use Rattle.contents.proofs.fill_columns.Given as goal

abbrev pub invariant-loop-j : goal.invariant-loop-j
invariant-loop-j l =
    record {
      last_size : length l.columns.last ≡ 8;
      own_size : length l.columns.own ≡ 8;
      clock_size : length l.columns.clock ≡ 8;
      held : Held l.book l.j l.columns;
    }
