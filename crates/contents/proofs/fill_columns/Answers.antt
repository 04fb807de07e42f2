use Rattle.std.proofs.Common.{◌≡◌, ◌+◌, ◌-◌, ltb, length-set, ◌∙◌, arith}
use Rattle.tools.specs.Lists.{byte}
use Rattle.contents.proofs.Checks.{last_of, clocks_there, held_more}
use Rattle.contents.proofs.fill_columns.Goals as goal

pub overflow_sub-columns : goal.overflow_sub-columns
overflow_sub-columns c =
    clocks_there c.args.book.now c.loop-j.j _ (omega arith) c.requires (c.of_desk-in-loop-j-2.ensures ∙ cc)

pub loop-j-preserved : goal.loop-j-preserved
loop-j-preserved c =
    let h = c.loop-j in
    let x = last_of (ltb h.j (byte c.args.book.now 2)) _ _ _ (c.of_desk.ensures ∙ cc) c.last_phase-last.ensures in
    let limited = c.of_desk-in-loop-j-2.ensures ∙ cc in
    let counts = clocks_there c.args.book.now h.j _ (omega arith) c.requires limited in
    let less : c.of_desk-in-loop-j-2.result - 1 + 1 ≡ c.of_desk-in-loop-j-2.result = omega (arith, counts) in
    let i = h.invariant in
    record {
      last_size = simp length-set i.last_size;
      own_size = simp length-set i.own_size;
      clock_size = simp length-set i.clock_size;
      held =
          held_more c.args.book.now h.j _ _ _ h.columns i.held (omega arith) i.last_size i.own_size i.clock_size x
          (c.of_desk-in-loop-j.ensures ∙ cc) (less ∙ limited);
    }
