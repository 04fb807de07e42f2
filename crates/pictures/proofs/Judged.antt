-- The lowest number that is found, one after the other, the last one first.
-- Assumes nothing.
--   found_none        of none
--   Near n k p        of no number below n p holds, as far as those from k on go
--   First n k p f o   o is what is found below n, as far as the numbers from k on go
--   near_last, near_more, first_last, first_more   of none yet, of one more
--   some_found, none_found   whether there is one, and which, by the number or the none that is found
--   err_only, ok_only   an answer that is OutOfReach or a value is which of the two
--   is_far            OutOfReach is answered where it holds of one
use Prim.Native.Nat.{ℕ, ◌+◌, ◌≤◌, ◌<◌}
use mathlib.Core.Path.{◌≡◌, refl, sym, ap, ◌∙◌}
use mathlib.Core.Bool.{Bool, true, false, true≢false}
use mathlib.Core.Logic.{◌⊎◌, inl, inr}
use native.Mathlib.Omega.{arith}
use borrow.Author.Tests.{lt-ltb, le-ltb}
use lib.Dec.{ltb}
use Rattle.std.specs.Prelude.{Option, Some, None, Result, Ok, Err, unwrap_or, is_some}
use Rattle.tools.specs.Tests.{pick, any, lowest}
use Rattle.tools.proofs.Tests.{lt_or_le, any_at, none_any, lowest_at, lowest_none, lowest_is}
use Rattle.rules.specs.declared.Refusal.{Refusal}
use Rattle.rules.specs.declared.Refusal.TheVariants.{OutOfReach}
use Rattle.pictures.specs.Pairs.{found}

-- p holds of none of one number more
below_more : (p : ℕ → Bool) (k : ℕ) → p k ≡ false → ((i : ℕ) → i < k → p i ≡ false) → (i : ℕ) → i < k + 1 → p i ≡ false
below_more p k e h i l = go (lt_or_le i k)
  where
    go : (i < k) ⊎ (k ≤ i) → p i ≡ false
    go (inl a) = h i a
    go (inr a) = let q : i ≡ k = omega arith in ap p q ∙ e

module _ {A : Type 0} (f : ℕ → A) (p : ℕ → Bool) where
  found_none : (n : ℕ) → ((i : ℕ) → i < n → p i ≡ false) → found n p f ≡ None
  found_none n h = ap (λ (t : Bool). pick t (Some (f (lowest n p))) None) (le-ltb (lowest n p) n (omega (arith, lowest_none n p h)))

  found_at : (n i : ℕ) → lowest n p ≡ i → i < n → found n p f ≡ Some (f i)
  found_at n i e l =
      ap (λ (t : Bool). pick t (Some (f (lowest n p))) None) (lt-ltb (lowest n p) n (omega (arith, e, l)))
      ∙ ap (λ (m : ℕ). Some (f m)) e

  abbrev pub First : ℕ → ℕ → Option A → Type 0
  First n k o = ((i : ℕ) → i < k → p i ≡ false) → o ≡ found n p f

  pub first_last : (n : ℕ) → First n n None
  first_last n h = sym (found_none n h)

  pub first_more : (n k : ℕ) (t : Bool) (o : Option A) → k < n → First n (k + 1) o → t ≡ p k → First n k (pick t (Some (f k)) o)
  first_more n k true o l h e g = sym (found_at n k (lowest_at n p k l g (sym e)) l)
  first_more n k false o l h e g = h (below_more p k (sym e) g)

module _ (p : ℕ → Bool) where
  abbrev pub Near : ℕ → ℕ → Type 0
  Near n k = ((i : ℕ) → i < k → p i ≡ false) → any n p ≡ false

  pub near_last : (n : ℕ) → Near n n
  near_last n h = none_any n p h

  pub near_more : (n k : ℕ) → Near n (k + 1) → p k ≡ false → Near n k
  near_more n k h e g = h (below_more p k e g)

-- the lowest number that is found, by whether there is one
module _ (n : ℕ) (p : ℕ → Bool) where
  any_lowest : any n p ≡ ltb (lowest n p) n
  any_lowest = go (lt_or_le (lowest n p) n)
    where
      go : (lowest n p < n) ⊎ (n ≤ lowest n p) → any n p ≡ ltb (lowest n p) n
      go (inl l) = any_at n p (lowest n p) l ((lowest_is n p).1 l) ∙ sym (lt-ltb _ _ l)
      go (inr l) = none_any n p (λ i m. (lowest_is n p).2 i (omega arith)) ∙ sym (le-ltb _ _ l)

  pub some_found : (k : ℕ) → Some k ≡ found n p (λ k. k) → (any n p ≡ true) × (k ≡ lowest n p)
  some_found k e = let r = go (ltb (lowest n p) n) e in (any_lowest ∙ r.0, r.1)
    where
      go : (t : Bool) → Some k ≡ pick t (Some (lowest n p)) None → (t ≡ true) × (k ≡ lowest n p)
      go true e = (refl, ap (λ (o : Option ℕ). unwrap_or o 0) e)
      go false e = absurd (true≢false (ap is_some e))

  pub none_found : ((k : ℕ) → found n p (λ k. k) ≡ Some k → ⊥) → any n p ≡ false
  none_found h = any_lowest ∙ go (ltb (lowest n p) n) h
    where
      go : (t : Bool) → ((k : ℕ) → pick t (Some (lowest n p)) None ≡ Some k → ⊥) → t ≡ false
      go true h = absurd (h (lowest n p) refl)
      go false h = refl

-- an answer that is OutOfReach or the value y
module _ {A : Type 0} (y : A) where
  is_ok : Result A Refusal → Bool
  is_ok (Ok x) = true
  is_ok (Err r) = false

  value : Result A Refusal → A
  value (Ok x) = x
  value (Err r) = y

  reason : Result A Refusal → Refusal
  reason (Ok x) = OutOfReach
  reason (Err r) = r

  pub err_only : (t : Bool) (r : Refusal) → Err r ≡ pick t (Err OutOfReach) (Ok y) → (t ≡ true) × (r ≡ OutOfReach)
  unfolding is_ok reason
  err_only true r e = (refl, ap reason e)
  err_only false r e = absurd (true≢false (sym (ap is_ok e)))

  pub ok_only : (t : Bool) (x : A) → Ok x ≡ pick t (Err OutOfReach) (Ok y) → (t ≡ false) × (x ≡ y)
  unfolding value is_ok
  ok_only true x e = absurd (true≢false (ap is_ok e))
  ok_only false x e = (refl, ap value e)

  pub is_far : (n : ℕ) (p : ℕ → Bool) (i : ℕ) → i < n → p i ≡ true
      → Err OutOfReach ≡ pick (any n p) (Err OutOfReach) (Ok y)
  is_far n p i l e = ap (λ (t : Bool). pick t (Err OutOfReach) (Ok y)) (sym (any_at n p i l e))
