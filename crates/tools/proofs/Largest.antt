-- Laws of the larger of two numbers, and of the largest of many.
-- Assumes nothing.
--   larger_second, larger_first   which of the two it is
--   larger_least, largest_least   no more than what none of them is above
--   largest_upper   none of them is above it
--   largest_none, largest_next   a loop that takes the largest
--   largest_cong    of numbers that are the same it is the same
--   largest_zero    of zeros it is 0
--   largest_bound   where none is above a bound but 0, it is the bound exactly where one of them is
use Prim.Native.Nat.{ℕ, zero, suc, ◌+◌, ◌≤◌, ◌<◌}
use mathlib.Core.Path.{◌≡◌, refl, ap, sym, ◌∙◌}
use mathlib.Core.Bool.{Bool, true, false, false≢true}
use mathlib.Core.Logic.{◌⊎◌, inl, inr, ⊎_elim}
use native.Mathlib.Omega.{arith}
use native.Mathlib.Nat.{eq-or-lt_of_le, not-suc-le-zero, le_of_suc-le-suc}
use native.Mathlib.Numerals.{add-one}
use lib.Dec.{eqb}
use borrow.Author.Tests.{eqb-true, eq-eqb, lt-ltb, le-ltb}
use Rattle.tools.specs.Tests.{any, larger, largest}
use Rattle.tools.proofs.Tests.{lt_or_le, alike, any_true, any_false}

pub larger_second : (a b : ℕ) → a < b → b ≡ larger a b
unfolding larger
larger_second a b l = rw (lt-ltb a b l)

pub larger_first : (a b : ℕ) → b ≤ a → a ≡ larger a b
unfolding larger
larger_first a b l = rw (le-ltb a b l)

pub larger_least : (a b m : ℕ) → a ≤ m → b ≤ m → larger a b ≤ m
larger_least a b m k l =
    ⊎_elim (λ (h : a < b). rw (sym (larger_second a b h)) l) (λ (h : b ≤ a). rw (sym (larger_first a b h)) k) (lt_or_le a b)

larger_upper : (a b : ℕ) → (a ≤ larger a b) × (b ≤ larger a b)
larger_upper a b =
    ⊎_elim (λ (h : a < b). let e = larger_second a b h in (omega arith, omega arith))
    (λ (h : b ≤ a). let e = larger_first a b h in (omega arith, omega arith)) (lt_or_le a b)

-- it is one of the two
larger_either : (a b : ℕ) → (larger a b ≡ a) ⊎ (larger a b ≡ b)
larger_either a b =
    ⊎_elim (λ (h : a < b). inr (sym (larger_second a b h))) (λ (h : b ≤ a). inl (sym (larger_first a b h))) (lt_or_le a b)

pub largest_none : (f : ℕ → ℕ) → 0 ≡ largest 0 f
unfolding largest
largest_none f = refl

largest_more : (f : ℕ → ℕ) (n : ℕ) → largest (suc n) f ≡ larger (largest n f) (f n)
unfolding largest
largest_more f n = refl

pub largest_next : (f : ℕ → ℕ) (n m v : ℕ) → m ≡ largest n f → v ≡ f n → larger m v ≡ largest (n + 1) f
largest_next f n m v e h = (λ i. larger (e i) (h i)) ∙ sym (ap (λ k. largest k f) (add-one n) ∙ largest_more f n)

pub largest_cong : (n : ℕ) (f g : ℕ → ℕ) → ((i : ℕ) → i < n → f i ≡ g i) → largest n f ≡ largest n g
unfolding largest
largest_cong zero f g h = refl
largest_cong (suc n) f g h = λ i. larger (largest_cong n f g (λ k l. h k (omega arith)) i) (h n (omega arith) i)

pub largest_least : (n : ℕ) (f : ℕ → ℕ) (m : ℕ) → ((i : ℕ) → i < n → f i ≤ m) → largest n f ≤ m
unfolding largest
largest_least zero f m h = omega arith
largest_least (suc n) f m h =
    larger_least (largest n f) (f n) m (largest_least n f m (λ i l. h i (omega arith))) (h n (omega arith))

pub largest_upper : (n : ℕ) (f : ℕ → ℕ) (i : ℕ) → i < n → f i ≤ largest n f
unfolding largest
largest_upper zero f i l = absurd (not-suc-le-zero l)
largest_upper (suc n) f i l = go (largest_upper n f i) (eq-or-lt_of_le (le_of_suc-le-suc l)) (larger_upper (largest n f) (f n))
  where
    go : (i < n → f i ≤ largest n f) → (i ≡ n) ⊎ (i < n)
        → (largest n f ≤ larger (largest n f) (f n)) × (f n ≤ larger (largest n f) (f n))
        → f i ≤ larger (largest n f) (f n)
    go ih (inl e) u = rw e u.1
    go ih (inr m) u = omega (arith, ih m, u.0)

pub largest_zero : (n : ℕ) (f : ℕ → ℕ) → ((i : ℕ) → i < n → f i ≡ 0) → largest n f ≡ 0
largest_zero n f h =
    let l : largest n f ≤ 0 = largest_least n f 0 (λ i l. let e = h i l in omega arith) in
    omega arith

-- one of them is as large, where it is not 0
attained : (n : ℕ) (f : ℕ → ℕ) → 0 < largest n f → (i : ℕ) × (i < n) × (f i ≡ largest n f)
unfolding largest
attained zero f l = absurd (not-suc-le-zero l)
attained (suc n) f l = go (larger_either (largest n f) (f n)) (attained n f)
  where
    go : (larger (largest n f) (f n) ≡ largest n f) ⊎ (larger (largest n f) (f n) ≡ f n)
        → (0 < largest n f → (i : ℕ) × (i < n) × (f i ≡ largest n f))
        → (i : ℕ) × (i < suc n) × (f i ≡ larger (largest n f) (f n))
    go (inl e) ih =
        let s = ih (omega arith) in
        (s.0, (let k = s.1 in omega arith), s.2 ∙ sym e)
    go (inr e) ih = (n, omega arith, sym e)

pub largest_bound : (n : ℕ) (f : ℕ → ℕ) (m : ℕ) → 0 < m → ((i : ℕ) → i < n → f i ≤ m)
    → eqb (largest n f) m ≡ any n (λ i. eqb (f i) m)
largest_bound n f m pos h = sym (alike (any n (λ i. eqb (f i) m)) (eqb (largest n f) m) is not_is)
  where
    is : any n (λ i. eqb (f i) m) ≡ true → eqb (largest n f) m ≡ true
    is e =
        let s = any_true n (λ i. eqb (f i) m) e in
        let at : f s.0 ≡ m = eqb-true (f s.0) m s.2 in
        let up : f s.0 ≤ largest n f = largest_upper n f s.0 s.1 in
        let least : largest n f ≤ m = largest_least n f m h in
        eq-eqb (largest n f) m (omega arith)

    not_is : any n (λ i. eqb (f i) m) ≡ false → eqb (largest n f) m ≡ false
    not_is e = go (eqb (largest n f) m) refl
      where
        go : (t : Bool) → eqb (largest n f) m ≡ t → t ≡ false
        go false q = refl
        go true q =
            let is : largest n f ≡ m = eqb-true (largest n f) m q in
            let s = attained n f (omega arith) in
            absurd (false≢true (sym (any_false n (λ i. eqb (f i) m) e s.0 s.1) ∙ eq-eqb (f s.0) m (s.2 ∙ is)))
