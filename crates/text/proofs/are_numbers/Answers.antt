use Rattle.tools.specs.Tests.{all_below}
use Rattle.tools.proofs.Tests.{all_in, all_not}
use Rattle.text.specs.Digits.{is_number}
use Rattle.std.proofs.Common.{◌≡◌, ◌<◌, ◌+◌, ◌*◌, ℕ, Bool, true, false, length, MatchBool, get_or}
use Rattle.std.proofs.Common.{refl, sym, ◌∙◌, subst, arith, rules, tests}
use Rattle.std.specs.List.{AllWithin, HoldsAt, range_with_len}
use Rattle.std.proofs.lemmas.Iterator.{cases_from_all, YieldsList-from_range}
use Rattle.std.proofs.lemmas.List.FromFn.{length-range_with_len, get_or-range_with_len}
use Rattle.text.proofs.are_numbers.Goals as goal

own : (n i : ℕ) → i < n → get_or (range_with_len 0 n) i 0 ≡ i
own n i l = get_or-range_with_len 0 n i 0 l ∙ omega arith

-- what `all` over the numbers below n answers
below
    : (n : ℕ) (p : ℕ → Bool) (r : Bool)
    → (let l = range_with_len 0 n in
    MatchBool r (AllWithin (λ i. p i ≡ true) l 0 (length l)) ((k : ℕ) × (k < length l) × HoldsAt (λ i. p i ≡ false) l k))
    → r ≡ all_below n p
below n p true h =
    sym
    (all_in p n
    (λ i l. subst (λ (k : ℕ). p k ≡ true) (own n i l) (h i 0 (omega arith) (omega (arith, length-range_with_len 0 n)))))
below n p false h =
    let l : h.0 < n = omega (arith, h.1, length-range_with_len 0 n) in
    sym (all_not p n h.0 l (subst (λ (k : ℕ). p k ≡ false) (own n h.0 l) (h.2 0)))

pub returns : goal.returns
returns c =
    let p = λ (i : ℕ). is_number c.args.line.now (c.args.from + 4 * i) in
    let numbers = YieldsList-from_range 0 c.args.n c.args.n refl (omega arith) in
    below c.args.n p _
    (cases_from_all _ _ _ (λ i. p i ≡ true) (λ i. p i ≡ false) c.all.ensures.ran numbers
    (λ x q k. search (rules, tests)) (λ x q k. search (rules, tests)))
