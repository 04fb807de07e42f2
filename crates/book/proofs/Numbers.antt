-- From the number of an act to its answer and to the bytes that it leaves.
-- Assumes nothing.
use Prim.Native.Nat.{ℕ, zero, suc}
use mathlib.Core.Path.{◌≡◌, refl, sym, ap, ◌∙◌}
use mathlib.Core.Bool.{Bool, true, false}
use mathlib.Core.List.{List}
use native.Mathlib.Omega.{arith}
use Rattle.tools.specs.Tests.{pick}
use Rattle.rules.specs.Model.{Act, refusal, Result, done, step}
use Rattle.rules.specs.Calls.{on, ring_of, call}
use Rattle.rules.proofs.Steps.{step_number}
use Rattle.book.specs.Layout.{setup_of, Holds}
use Rattle.book.specs.Sound.{sound}
use Rattle.book.specs.Codec.{write}
use Rattle.book.specs.Answers.{admits, turn_on, answer_to, book_after}
use Rattle.book.specs.Numbers.{tables_of, why_of, number_of}
use Rattle.book.proofs.Bytes.{layout_is}
use Rattle.book.proofs.Answers.{accepted, refused}

module _ (s : List ℕ) (c : Act) where
  -- what the accepted act answers and leaves
  abbrev pub done_on : Result
  done_on = done (ring_of (setup_of s)) (setup_of s) (tables_of s) c

  pub answer_number : (answer_to s (on c)).number ≡ number_of s c
  unfolding answer_to admits call
  answer_number = go (sound s)
    where
      go : (t : Bool) → (pick t (turn_on s (on c)).answer (refusal 1)).number ≡ pick t (why_of s c) 1
      go true = step_number (ring_of (setup_of s)) (setup_of s) (tables_of s) c
      go false = refl

  refused_with : (n : ℕ) → number_of s c ≡ suc n → answer_to s (on c) ≡ refusal (suc n)
  unfolding answer_to admits call step
  refused_with n e = go (sound s) e
    where
      go : (t : Bool) → pick t (why_of s c) 1 ≡ suc n → pick t (turn_on s (on c)).answer (refusal 1) ≡ refusal (suc n)
      go true z = rw z
      go false z = ap refusal z

  -- a refusal: its number only, and every byte as it was
  pub refused_answer : (n : ℕ) → n ≡ number_of s c → (n ≡ 0 → ⊥) → refusal n ≡ answer_to s (on c)
  refused_answer zero e ne = absurd (ne refl)
  refused_answer (suc n) e ne = sym (refused_with n (sym e))

  pub refused_bytes : (n : ℕ) → n ≡ number_of s c → (n ≡ 0 → ⊥) → s ≡ book_after s (on c)
  refused_bytes n e ne = sym (refused s (on c) (λ z. let q = answer_number in ne (e ∙ sym q ∙ z)))

  -- an acceptance
  pub ready : number_of s c ≡ 0 → (sound s ≡ true) × (why_of s c ≡ 0)
  ready e = go (sound s) refl e
    where
      go : (t : Bool) → sound s ≡ t → pick t (why_of s c) 1 ≡ 0 → (sound s ≡ true) × (why_of s c ≡ 0)
      go true h z = (h, z)
      go false h z = absurd (omega arith)

  pub accepted_answer : number_of s c ≡ 0 → done_on.answer ≡ answer_to s (on c)
  unfolding answer_to admits call step
  accepted_answer e = let r = ready e in rw (answer_to, r.0, r.1)

  pub accepted_bytes : number_of s c ≡ 0 → (b : List ℕ)
      → Holds (write (record { setup = setup_of s; tables = done_on.tables })) b → b ≡ book_after s (on c)
  unfolding call step
  accepted_bytes e b h =
      let r = ready e in
      sym (layout_is _ b h) ∙ sym (accepted s (on c) (answer_number ∙ e) ∙ rw r.1)
