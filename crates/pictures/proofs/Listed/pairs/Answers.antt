use Prim.Native.Nat.{ℕ, ◌+◌, ◌-◌}
use mathlib.Core.Bool.{true, false}
use mathlib.Core.Path.{◌≡◌, sym, ap, subst, ◌∙◌}
use native.Mathlib.Omega.{arith}
use borrow.Author.Rules.{rules}
use lib.ListN.{length}
use Rattle.std.proofs.Common.{Err, Some}
use Rattle.tools.specs.Tests.{any}
use Rattle.pictures.specs.Pairs as Pairs
use Rattle.pictures.proofs.Judged.{Near, First, near_last, near_more, first_last, first_more, some_found, none_found, err_only, ok_only, is_far}
use Rattle.pictures.proofs.Listed.pairs.Goals as goal

pub loop-i-init : goal.loop-i-init
loop-i-init c =
    let h = c.args.self.now in
    record { near = near_last _ _; first = first_last (Pairs.odds h.book.now h.slots.now) _ _ }

pub returns-in_err-k : goal.returns-in_err-k
returns-in_err-k c =
    let m = c.args in
    let h = m.self.now in
    let s = h.book.now in
    let l = h.slots.now in
    let e : c.from_residual.result ≡ Err c.in_err-k.field-0.0 = search rules in
    let r = err_only _ _ _ c.in_err-k.ensures in
    e ∙ ap Err r.1 ∙ is_far _ (length l) (λ i. any (length l) (Pairs.far s l i)) (c.loop-i.i - 1) (omega arith) r.0

pub loop-i-preserved-in-Some : goal.loop-i-preserved-in-Some
loop-i-preserved-in-Some c =
    let m = c.args in
    let h = m.self.now in
    let s = h.book.now in
    let l = h.slots.now in
    let n = length l in
    let i = c.loop-i.i - 1 in
    let v = c.loop-i.invariant in
    let e : c.loop-i.i ≡ i + 1 = omega arith in
    let far = λ (j : ℕ). any n (Pairs.far s l j) in
    let odd = λ (j : ℕ). any n (Pairs.odd s l j) in
    let r = ok_only _ _ _ c.in_ok-k.ensures in
    let o = some_found n (Pairs.odd s l i) _ (sym c.in-Some.is ∙ r.1) in
    record {
      near = near_more far n i (subst (Near far n) e v.near) r.0;
      first = λ g. ap (λ (k : ℕ). Some (record { lower = i; higher = k })) o.1
          ∙ first_more (Pairs.odds s l) odd n i true c.loop-i.found (omega arith)
          (subst (λ (k : ℕ). First (Pairs.odds s l) odd n k c.loop-i.found) e v.first) (sym o.0) g;
    }

pub loop-i-preserved : goal.loop-i-preserved
loop-i-preserved c =
    let m = c.args in
    let h = m.self.now in
    let s = h.book.now in
    let l = h.slots.now in
    let n = length l in
    let i = c.loop-i.i - 1 in
    let v = c.loop-i.invariant in
    let e : c.loop-i.i ≡ i + 1 = omega arith in
    let far = λ (j : ℕ). any n (Pairs.far s l j) in
    let odd = λ (j : ℕ). any n (Pairs.odd s l j) in
    let r = ok_only _ _ _ c.in_ok-k.ensures in
    record {
      near = near_more far n i (subst (Near far n) e v.near) r.0;
      first = first_more (Pairs.odds s l) odd n i false _ (omega arith)
          (subst (λ (k : ℕ). First (Pairs.odds s l) odd n k c.loop-i.found) e v.first)
          (sym (none_found n (Pairs.odd s l i) (λ k q. c.in_default.not-Some k (r.1 ∙ q))));
    }
