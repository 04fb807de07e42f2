use Rattle.std.proofs.Common.{arith, lt-ltb}
use Rattle.tools.proofs.Tests.{all_at}
use Rattle.tools.specs.Tests.{all_of}
use Rattle.book.specs.Layout.{fields}
use Rattle.book.specs.Sound.{seat_limit, seat_ok, record_ok}
use Rattle.contents.proofs.Checked.seat_ok.Goals as goal

pub returns : goal.returns
unfolding record_ok seat_ok all_of
returns c =
    let s = c.args.self in
    let limited = all_at (seat_limit (fields s.book.now)) 8 c.args.k c.requires s.ready.limits in
    rw (record_ok, lt-ltb c.args.k 8 (omega arith), seat_ok, limited) (cc)
