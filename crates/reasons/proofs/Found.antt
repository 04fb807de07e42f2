-- What any and find answer over std's chains, as the definitions say it.
-- Assumes nothing.
use Prim.Native.Nat.{ℕ, zero, suc, ◌≤◌, ◌<◌}
use mathlib.Core.Path.{◌≡◌, refl, sym, ap, ◌∙◌}
use mathlib.Core.Bool.{Bool, true, false, not, ◌||◌, true≢false, false≢true}
use mathlib.Core.List.{List, [], ◌∷◌}
use native.Mathlib.Nat.{zero-add}
use native.Mathlib.Omega.{arith}
use borrow.Author.Tests.{lt-ltb, le-ltb}
use lib.Dec.{ltb}
use lib.ListN.{length, get_or}
use Rattle.std.proofs.Common.{Option, Some, None}
use Rattle.std.specs.List.{list_any, range_with_len}
use Rattle.std.specs.Option.{MatchOption, is_some}
use Rattle.std.proofs.lemmas.List.FromFn.{length-range_with_len, get_or-range_with_len}
use Rattle.tools.specs.Tests.{pick, any, lowest}
use Rattle.tools.proofs.Tests.{any_cong, lowest_at, lowest_none}

-- some number below a bound, the first of them asked first
any_first : (n : ℕ) (p : ℕ → Bool) → any (suc n) p ≡ (p 0 || any n (λ k. p (suc k)))
unfolding any
any_first zero p = refl
any_first (suc n) p = rw (any_first n p) (go (p (suc n)) (p 0) (any n (λ k. p (suc k))))
  where
    go : (t u v : Bool) → (t || (u || v)) ≡ (u || (t || v))
    go true true v = refl
    go true false v = refl
    go false u v = refl

-- of a list's members, by their places
pub any_listed : (p : ℕ → Bool) (l : List ℕ) → list_any p l ≡ any (length l) (λ i. p (get_or l i 0))
unfolding any
any_listed p [] = refl
any_listed p (x ∷ l) = ap (λ t. p x || t) (any_listed p l) ∙ sym (any_first (length l) (λ i. p (get_or (x ∷ l) i 0)))

-- of the numbers below a bound
pub any_ranged : (n : ℕ) (p : ℕ → Bool) → list_any p (range_with_len 0 n) ≡ any n p
any_ranged n p =
    any_listed p (range_with_len 0 n)
    ∙ ap (λ m. any m (λ i. p (get_or (range_with_len 0 n) i 0))) (length-range_with_len 0 n)
    ∙ any_cong n _ p (λ i l. ap p (get_or-range_with_len 0 n i 0 l ∙ zero-add i))

-- the first number below a bound is the lowest
pub first_lowest : (n : ℕ) (p : ℕ → Bool) (r : Option ℕ)
    → MatchOption r ((k : ℕ) → 0 ≤ k → k < n → p k ≡ false)
    (λ i. (0 ≤ i) × (i < n) × (p i ≡ true) × ((k : ℕ) → 0 ≤ k → k < i → p k ≡ false))
    → r ≡ pick (ltb (lowest n p) n) (Some (lowest n p)) None
first_lowest n p None h = let e = lowest_none n p (λ k l. h k (omega arith) l) in rw (e, le-ltb n n (omega arith))
first_lowest n p (Some i) h =
    let e = lowest_at n p i h.1 (λ k l. h.3 k (omega arith) l) h.2 in rw (e, lt-ltb i n h.1)

-- where there is none, no test held
pub none_by : (t u : Bool) (n : ℕ) → is_some (pick t (Some n) None) ≡ not u → u ≡ not t
none_by true true n e = absurd (true≢false e)
none_by true false n e = refl
none_by false true n e = refl
none_by false false n e = absurd (false≢true e)
