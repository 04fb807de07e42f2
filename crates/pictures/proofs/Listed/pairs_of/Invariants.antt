use Prim.Native.Nat.{ℕ}
use lib.ListN.{length}
use Rattle.pictures.specs.Pairs as Pairs
use Rattle.pictures.proofs.Judged.{Near, First}
use Rattle.pictures.proofs.Listed.pairs_of.Given as goal

abbrev pub invariant-loop-k : goal.invariant-loop-k
invariant-loop-k l = record {
  near : Near (Pairs.far l.self.book.now l.self.slots.now l.i) (length l.self.slots.now) l.k;
  first : First (λ (k : ℕ). k) (Pairs.odd l.self.book.now l.self.slots.now l.i) (length l.self.slots.now) l.k l.odd;
}
