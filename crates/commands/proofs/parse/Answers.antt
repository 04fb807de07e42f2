use native.Mathlib.Omega.{arith}
use lib.ListN.{length}
use borrow.Author.Tests.{le-leb}
use Rattle.commands.specs.Lines.{verbs, parse_of}
use Rattle.commands.proofs.parse.Goals as goal

pub returns : goal.returns
unfolding parse_of verbs
returns c = rw (parse_of, le-leb (length c.args.line.now) 64 (omega arith)) c.parse_events.ensures
