use Rattle.text.specs.Stream.{line_of, last_text, last_book}
use Rattle.text.proofs.Writing.{none}
use lib.Dec.{eqb}
use lib.ListN.{length}
use native.Mathlib.Omega.{arith}
use mathlib.Core.Bool.{true, false}
use mathlib.Core.Path.{◌≡◌}
use Rattle.listing.proofs.finish.Goals as goal

pub returns-then-is_empty : goal.returns-then-is_empty
unfolding last_text last_book
returns-then-is_empty c =
    let e : eqb (length (line_of c.args.pending.now)) 0 ≡ true = cc (c.is_empty.ensures, c.if-is_empty.true) in
    record { wrote = rw (last_text, e) (none c.args.out.now 0 (omega arith)); summary_after = rw (last_book, e) }

pub returns : goal.returns
unfolding last_text last_book
returns c =
    let e : eqb (length (line_of c.args.pending.now)) 0 ≡ false = cc (c.is_empty.ensures, c.if-is_empty.false) in
    let told = c.answer.ensures in
    record {
      wrote = rw (last_text, e) (rw c.as_slice.ensures at told.wrote);
      summary_after = rw (last_book, e) (rw c.as_slice.ensures at told.summary_after);
    }
