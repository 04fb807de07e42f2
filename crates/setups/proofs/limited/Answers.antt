use Rattle.std.proofs.Common.{◌≡◌, ◌<◌, ℕ, Bool, true, false, List, length, sym, arith, rules}
use borrow.Author.Tests.{eq-eqb, ne_eqb, tests}
use Rattle.std.specs.Prelude.{MatchBool}
use Rattle.std.specs.List.{AllWithin, HoldsAt}
use Rattle.std.proofs.lemmas.Iterator.{cases_from_all, YieldsList-from_slice}
use Rattle.tools.specs.Tests.{all_below}
use Rattle.tools.specs.Lists.{byte}
use Rattle.tools.proofs.Tests.{all_in, all_not}
use Rattle.rules.specs.Setups.{limit_ok, limited}
use Rattle.setups.proofs.limited.Goals as goal

abbrev Ok : Bool → ℕ → Type 0
Ok t l = limit_ok l ≡ t

-- what all answers is whether each limit is in its range
judged : (l : List ℕ) (r : Bool)
    → MatchBool r (AllWithin (Ok true) l 0 (length l)) ((k : ℕ) × (k < length l) × HoldsAt (Ok false) l k)
    → r ≡ all_below (length l) (λ j. limit_ok (byte l j))
judged l true h = sym (all_in (λ j. limit_ok (byte l j)) (length l) (λ i m. h i 0 (omega arith) m))
judged l false (k, m, h) = sym (all_not (λ j. limit_ok (byte l j)) (length l) k m (h 0))

pub returns-then-setup : goal.returns-then-setup
unfolding limited
returns-then-setup c =
    let l = c.args.setup.limits.now in
    let e : length l ≡ c.args.setup.numbers.desks = c.if-setup.true in
    let ran =
    cases_from_all _ _ _ (Ok true) (Ok false) c.all.ensures.ran (YieldsList-from_slice l cc)
    (λ x q k. search (rules, tests)) (λ x q k. search (rules, tests)) in
    rw (eq-eqb _ _ e, ← e) (judged l _ ran)

pub returns-else-setup : goal.returns-else-setup
unfolding limited
returns-else-setup c = let e = ne_eqb _ _ c.if-setup.false in rw e
