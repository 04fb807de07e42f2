use mathlib.Core.Bool.{◌||◌}
use native.Mathlib.Omega.{arith}
use Rattle.pictures.proofs.Placed.{Places, far_pair}
use Rattle.pictures.proofs.Listed.too_far.Goals as goal

pub returns : goal.returns
returns c =
    let m = c.args in
    let h = m.self.now in
    let s = h.book.now in
    let l = h.slots.now in
    let q = c.requires.places in
    let p : Places s l h.froms m.i m.k = record { ready = h.ready; table = h.table; first = omega (arith, q); second = q.1 } in
    far_pair s l h.froms m.i m.k p q.0 _ m.there m.back _ (omega arith) (omega arith) c.requires.there_value c.requires.back_value
    (λ x. c.out_of_reach.ensures x || c.out_of_reach-2.ensures x)
