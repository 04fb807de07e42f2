use lib.ListN.{length}
use Rattle.tools.specs.Tests.{any}
use Rattle.pictures.specs.Pairs as Pairs
use Rattle.pictures.proofs.Judged.{Near, First}
use Rattle.pictures.proofs.Listed.pairs.Given as goal

abbrev pub invariant-loop-i : goal.invariant-loop-i
invariant-loop-i l = record {
  near : Near (λ i. any (length l.self.slots.now) (Pairs.far l.self.book.now l.self.slots.now i)) (length l.self.slots.now) l.i;
  first : First (Pairs.odds l.self.book.now l.self.slots.now)
      (λ i. any (length l.self.slots.now) (Pairs.odd l.self.book.now l.self.slots.now i)) (length l.self.slots.now) l.i l.found;
}
