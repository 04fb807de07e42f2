use Rattle.std.proofs.Common.{◌≡◌, sym, ◌∙◌, arith, Ok, length-take, length-drop}
use Rattle.ends.specs.Ends.{write_went}
use Rattle.ends.proofs.Reasons.{wrote, taken}
use Rattle.desks.proofs.write_out.Goals as goal

pub loop-preserved : goal.loop-preserved
loop-preserved g c =
    let h = c.loop.invariant in
    let went : write_went c.write.result ≡ Ok c.in_ok-done.field-0 = sym c.write_went.ensures ∙ c.in_ok-done.was in
    let more = taken c.write.result _ _ c.write.ensures.bound went in
    record {
      within = omega (arith, h.within, simp (length-take, length-drop) at more);
      wrote = wrote _ _ _ _ _ h.wrote c.write.result c.write.ensures.bytes _ went;
    }
