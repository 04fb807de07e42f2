-- What start answers and leaves.
-- Assumes nothing.
use Prim.Native.Nat.{ℕ}
use mathlib.Core.Path.{◌≡◌, refl}
use mathlib.Core.Bool.{Bool, true, false}
use mathlib.Core.List.{List}
use native.Mathlib.Omega.{arith}
use borrow.Author.Tests.{eqb-true, eq-eqb, ne_eqb}
use lib.Dec.{eqb}
use lib.ListN.{length}
use Rattle.tools.specs.Tests.{pick}
use Rattle.rules.specs.Setups.{Setup, permits}
use Rattle.rules.specs.Model.{refusal}
use Rattle.rules.specs.Calls.{start, ring_of, call, fresh_book}
use Rattle.book.specs.Layout.{book_size}
use Rattle.book.specs.Codec.{decode, encode}
use Rattle.book.specs.Answers.{admits, answer_to, book_after}

-- start refuses a bad length, then a bad setup
module _ (s : List ℕ) (X : Setup) where
  abbrev pub Starts : ℕ → List ℕ → Type 0
  Starts n b = (refusal n ≡ answer_to s (start X)) × (b ≡ book_after s (start X))

  pub start_badbook : (length s ≡ book_size → ⊥) → Starts 1 s
  unfolding answer_to book_after admits
  start_badbook n = (
    rw (answer_to, admits, ne_eqb (length s) book_size n),
    rw (book_after, answer_to, admits, ne_eqb (length s) book_size n),
  )

  pub start_badsetup : length s ≡ book_size → permits X ≡ false → Starts 2 s
  unfolding answer_to book_after admits call
  start_badsetup e p = (
    rw (answer_to, admits, eq-eqb (length s) book_size e, call, p),
    rw (book_after, answer_to, admits, eq-eqb (length s) book_size e, call, p),
  )

  -- so an accepted one has both
  pub start_ready : (answer_to s (start X)).number ≡ 0 → (length s ≡ book_size) × (permits X ≡ true)
  unfolding answer_to admits call
  start_ready e = go (eqb (length s) book_size) refl (permits X) refl e
    where
      go : (t : Bool) → eqb (length s) book_size ≡ t → (u : Bool) → permits X ≡ u
          → (pick t (call ring_of (decode s) (start X)).answer (refusal 1)).number ≡ 0
          → (length s ≡ book_size) × (permits X ≡ true)
      go true q true p e = (eqb-true (length s) book_size q, p)
      go true q false p e = absurd (omega (arith, rw (call, p) at e))
      go false q u p e = absurd (omega arith)

  pub start_done : length s ≡ book_size → permits X ≡ true → Starts 0 (encode (fresh_book X))
  unfolding answer_to book_after admits call
  start_done e p = (
    rw (answer_to, admits, eq-eqb (length s) book_size e, call, p),
    rw (book_after, answer_to, admits, eq-eqb (length s) book_size e, call, p),
  )
