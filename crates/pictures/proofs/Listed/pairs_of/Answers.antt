use Prim.Native.Nat.{ℕ, ◌+◌, ◌-◌}
use mathlib.Core.Bool.{true, false}
use mathlib.Core.Path.{◌≡◌, sym, subst, ◌∙◌}
use native.Mathlib.Omega.{arith}
use lib.ListN.{length}
use Rattle.pictures.specs.Pairs as Pairs
use Rattle.pictures.proofs.Judged.{Near, First, near_last, near_more, first_last, first_more, is_far}
use Rattle.pictures.proofs.Listed.pairs_of.Goals as goal

pub loop-k-init : goal.loop-k-init
loop-k-init c = record { near = near_last _ _; first = first_last (λ k. k) _ _ }

pub returns-then-too_far : goal.returns-then-too_far
returns-then-too_far c =
    let m = c.args in
    let h = m.self.now in
    let s = h.book.now in
    let l = h.slots.now in
    is_far _ (length l) (Pairs.far s l m.i) (c.loop-k.k - 1) (omega arith) (sym c.too_far.ensures ∙ c.if-too_far.true)

pub loop-k-preserved-then-at_odds : goal.loop-k-preserved-then-at_odds
loop-k-preserved-then-at_odds c =
    let m = c.args in
    let h = m.self.now in
    let s = h.book.now in
    let l = h.slots.now in
    let k = c.loop-k.k in
    let v = c.loop-k.invariant in
    let e : k ≡ k - 1 + 1 = omega arith in
    let far = Pairs.far s l m.i in
    let odd = Pairs.odd s l m.i in
    record {
      near = near_more far (length l) (k - 1) (subst (Near far (length l)) e v.near) (sym c.too_far.ensures ∙ c.if-too_far.false);
      first = first_more (λ j. j) odd (length l) (k - 1) true _ (omega arith)
          (subst (λ (n : ℕ). First (λ (j : ℕ). j) odd (length l) n c.loop-k.odd) e v.first) (sym c.if-at_odds.true ∙ c.at_odds.ensures);
    }

pub loop-k-preserved : goal.loop-k-preserved
loop-k-preserved c =
    let m = c.args in
    let h = m.self.now in
    let s = h.book.now in
    let l = h.slots.now in
    let k = c.loop-k.k in
    let v = c.loop-k.invariant in
    let e : k ≡ k - 1 + 1 = omega arith in
    let far = Pairs.far s l m.i in
    let odd = Pairs.odd s l m.i in
    record {
      near = near_more far (length l) (k - 1) (subst (Near far (length l)) e v.near) (sym c.too_far.ensures ∙ c.if-too_far.false);
      first = first_more (λ j. j) odd (length l) (k - 1) false _ (omega arith)
          (subst (λ (n : ℕ). First (λ (j : ℕ). j) odd (length l) n c.loop-k.odd) e v.first) (sym c.if-at_odds.false ∙ c.at_odds.ensures);
    }
