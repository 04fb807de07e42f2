-- The bytes of a run and the same calls on the line go together: the bytes say the line's book with its phases come round.
-- Assumes nothing.
use mathlib.Core.Path.{◌≡◌, refl, ap, ◌∙◌}
use mathlib.Core.Bool.{Bool, true, false}
use mathlib.Core.List.{List, [], ◌∷◌}
use mathlib.Core.Logic.{inl, inr}
use Prim.Native.Nat.{ℕ}
use native.Mathlib.Omega.{arith}
use borrow.Author.Tests.{eq-eqb}
use Rattle.tools.specs.Tests.{pick}
use Rattle.rules.specs.Setups.{Setup}
use Rattle.rules.specs.Model.{refusal}
use Rattle.rules.specs.Calls.{Call, start, on, Turn, ring_of, line_of, call}
use Rattle.history.specs.History.{State, begin, next, after}
use Rattle.history.specs.Round.{round_book, round_turn, round_answer}
use Rattle.history.proofs.Runs.{Faithful, faithful_begin, faithful_next, started}
use Rattle.history.proofs.Alike.{call_alike, fresh_alike}
use Rattle.book.specs.Sound.{sound}
use Rattle.book.specs.Codec.{decode}
use Rattle.book.specs.Answers.{admits, turn_on, answer_to, book_after}
use Rattle.book.proofs.Soundness.{sound_size}
use Rattle.book.proofs.Answers.{answer_is, after_decode, after_sound}
use Rattle.promises.specs.Runs.{bytes_after}

pub record Together (s : List ℕ) (t : State) : Type 0 where
  pub whole : sound s ≡ true
  pub told : decode s ≡ round_book t.book
  pub faithful : Faithful t

-- a sound book is not refused as a bad one
pub sound_admits : (s : List ℕ) → sound s ≡ true → (c : Call) → admits s c ≡ true
unfolding admits
sound_admits s h (start X) = eq-eqb _ _ (sound_size s h)
sound_admits s h (on c) = h

module _ (s : List ℕ) (t : State) (w : Together s t) where
  admitted : (c : Call) → admits s c ≡ true
  admitted = sound_admits s w.whole

  -- one call on the bytes is the same call on the ring's book, and on the line, come round
  pub ring_answer : (c : Call) → answer_to s c ≡ (call ring_of (round_book t.book) c).answer
  ring_answer c = answer_is s c (admitted c) ∙ ap (λ b. (call ring_of b c).answer) w.told

  pub ring_book : (c : Call) → decode (book_after s c) ≡ (call ring_of (round_book t.book) c).book
  ring_book c = after_decode s c (admitted c) ∙ ap (λ b. (call ring_of b c).book) w.told

  turns : (c : Call) → turn_on s c ≡ round_turn t.book (call line_of t.book c)
  turns c = ap (λ b. call ring_of b c) w.told ∙ call_alike t w.faithful c

  pub same_answer : (c : Call) → answer_to s c ≡ round_answer t.book.setup.phases (call line_of t.book c).answer
  same_answer c = answer_is s c (admitted c) ∙ ap (λ (u : Turn). u.answer) (turns c)

  pub together_next : (c : Call) → Together (book_after s c) (next t c)
  unfolding next
  together_next c =
      record {
        whole = after_sound s c (admitted c) (inr w.whole);
        told = after_decode s c (admitted c) ∙ ap (λ (u : Turn). u.book) (turns c);
        faithful = faithful_next t w.faithful c;
      }

pub together_after : (s : List ℕ) (t : State) → Together s t → (cs : List Call) → Together (bytes_after s cs) (after t cs)
unfolding bytes_after after
together_after s t w [] = w
together_after s t w (c ∷ cs) = together_after (book_after s c) (next t c) (together_next s t w c) cs

-- an accepted start, on any bytes
pub together_start : (s : List ℕ) (X : Setup) → (answer_to s (start X)).number ≡ 0 → Together (book_after s (start X)) (begin X)
unfolding answer_to
together_start s X e = go (admits s (start X)) refl e
  where
    go : (u : Bool) → admits s (start X) ≡ u → (pick u (turn_on s (start X)).answer (refusal 1)).number ≡ 0
        → Together (book_after s (start X)) (begin X)
    go false a z = absurd (omega arith)
    go true a z =
        let f = started ring_of (decode s) X z in
        record {
          whole = after_sound s (start X) a (inl z);
          told = after_decode s (start X) a ∙ f.1 ∙ fresh_alike X;
          faithful = faithful_begin X f.0;
        }
