-- What a call leaves says what the rules say, and is sound.
-- Assumes nothing.
use Prim.Native.Nat.{ℕ, zero, suc, ◌<◌}
use mathlib.Core.Path.{◌≡◌, refl, sym, ap, ◌∙◌}
use mathlib.Core.Bool.{Bool, true, false, false≢true, not}
use mathlib.Core.List.{List}
use mathlib.Core.Logic.{◌⊎◌, inl, inr, ◌↔◌}
use native.Mathlib.Omega.{arith}
use Rattle.tools.specs.Tests.{pick}
use Rattle.tools.specs.Lists.{byte}
use Rattle.tools.specs.Reasons.{if_done}
use Rattle.tools.proofs.Reasons.{if_undone}
use Rattle.rules.specs.Setups.{Setup, limit, permits}
use Rattle.rules.specs.declared.Refusal.TheVariants.{BadBook, NoEvent}
use Rattle.rules.specs.Numbers.{number}
use Rattle.rules.specs.Model.{Act, fresh, Answer, refusal}
use Rattle.rules.specs.Calls.{Book, Call, start, on, Turn, ring_of, settled, call}
use Rattle.book.specs.Fits.{Fits}
use Rattle.rules.proofs.Setups.{permitted}
use Rattle.rules.proofs.Frames.{setup_stays}
use Rattle.book.proofs.Fits.{fresh_fits, step_fits}
use Rattle.rules.proofs.Steps.{step_refused}
use Rattle.rules.proofs.Reasons.{never_bad}
use Rattle.rules.proofs.Reasons as Whole-turns
use Rattle.rules.proofs.Due.{call_no_event}
use Rattle.book.specs.Layout.{tag_b_spot, spot, fields, setup_of}
use Rattle.book.specs.Sound.{sound}
use Rattle.book.specs.Codec.{read, write, decode, encode}
use Rattle.book.specs.Answers.{admits, turn_on, answer_to, book_after}
use Rattle.book.proofs.Bytes.{layout_holds}
use Rattle.book.proofs.Soundness.{sound_setup, sound_fits}
use Rattle.book.proofs.Codec.{limit_seen, decode_encode}
use Rattle.book.proofs.Kept.{holds_sound}

pub answer_is : (s : List ℕ) (c : Call) → admits s c ≡ true → answer_to s c ≡ (turn_on s c).answer
unfolding answer_to
answer_is s c a = rw (answer_to, a)

-- BadBook is answered exactly to a call that the bytes do not admit
pub bad_book : (s : List ℕ) (c : Call) → ((answer_to s c).number ≡ number BadBook) ↔ (admits s c ≡ false)
unfolding answer_to
bad_book s c = go (admits s c)
  where
    go : (t : Bool) → ((pick t (turn_on s c).answer (refusal (number BadBook))).number ≡ number BadBook) ↔ (t ≡ false)
    go true = (λ e. absurd (never_bad ring_of (decode s) c e), λ e. absurd (false≢true (sym e)))
    go false = (λ e. refl, λ e. refl)

-- NoEvent is answered to no call, whatever the bytes
pub never_no_event : (s : List ℕ) (c : Call) → (answer_to s c).number ≡ number NoEvent → ⊥
unfolding answer_to
never_no_event s c = go (admits s c)
  where
    go : (t : Bool) → (pick t (turn_on s c).answer (refusal (number BadBook))).number ≡ number NoEvent → ⊥
    go true = call_no_event ring_of (decode s) c
    go false = λ e. absurd (omega arith)

-- a refused call leaves every byte
pub refused : (s : List ℕ) (c : Call) → ((answer_to s c).number ≡ 0 → ⊥) → book_after s c ≡ s
unfolding book_after
refused s c ne = if_undone (answer_to s c).number _ s ne

pub accepted : (s : List ℕ) (c : Call) → (answer_to s c).number ≡ 0 → book_after s c ≡ encode (turn_on s c).book
unfolding book_after
accepted s c e = rw (book_after, e)

-- a book that a call may leave: its setup is permitted and its tables fit
pub record Whole (b : Book) : Type 0 where
  pub setup : permits b.setup ≡ true
  pub tables : Fits b.setup b.tables

pub whole_sound : (b : Book) → Whole b → sound (encode b) ≡ true
whole_sound b w = holds_sound b.setup w.setup b.tables w.tables (encode b) (layout_holds (write b))

pub whole_decode : (b : Book) → Whole b → decode (encode b) ≡ b
whole_decode b w = decode_encode b.setup (permitted b.setup w.setup) b.tables w.tables

-- every act on a sound book, accepted or not, ends with a whole book
act_whole : (s : List ℕ) → sound s ≡ true → (c : Act) → Whole (turn_on s (on c)).book
unfolding call
act_whole s h c =
    record {
      setup = sound_setup s h;
      tables = step_fits (setup_of s) (permitted (setup_of s) (sound_setup s h)) (read (fields s)) (sound_fits s h) c;
    }

-- start by the rules: a fresh book, or BadSetup
start_turn_lem : (b : Book) (X : Setup) (Q : Turn → Type 0)
    → (permits X ≡ true → Q (record { answer = refusal 0; book = record { setup = X; tables = fresh } }))
    → Q (record { answer = refusal 2; book = b }) → Q (call ring_of b (start X))
unfolding call
start_turn_lem b X Q fair bad = go (permits X) refl
  where
    go : (t : Bool) → permits X ≡ t
        → Q (settled (pick (not t) 2 0) b (record { answer = refusal 0; book = record { setup = X; tables = fresh } }))
    go true e = fair e
    go false e = bad

pub turn_whole : (s : List ℕ) (c : Call) → admits s c ≡ true → (turn_on s c).answer.number ≡ 0 → Whole (turn_on s c).book
unfolding admits
turn_whole s (start X) a z =
    start_turn_lem (decode s) X (λ t. t.answer.number ≡ 0 → Whole t.book)
    (λ p e. record { setup = p; tables = fresh_fits X (permitted X p) }) (λ e. absurd (omega arith)) z
turn_whole s (on c) a z = act_whole s a c

-- a refused call leaves the book as it was, by the rules too
turn_same : (s : List ℕ) (c : Call) → ((turn_on s c).answer.number ≡ 0 → ⊥) → (turn_on s c).book ≡ decode s
unfolding call
turn_same s (start X) n =
    start_turn_lem (decode s) X (λ t. (t.answer.number ≡ 0 → ⊥) → t.book ≡ decode s) (λ p m. absurd (m refl)) (λ m. refl) n
turn_same s (on c) n =
    let e = step_refused (ring_of (setup_of s)) (setup_of s) (read (fields s)) c n in
    λ i. record { setup = setup_of s; tables = e i }

-- THE BRIDGE: what the bytes say after a call is what the rules say of what they said before
pub after_decode : (s : List ℕ) (c : Call) → admits s c ≡ true → decode (book_after s c) ≡ (turn_on s c).book
unfolding book_after
after_decode s c a =
    ap (λ (d : Answer). decode (if_done d.number (encode (turn_on s c).book) s)) (answer_is s c a)
    ∙ go (turn_on s c).answer.number refl
  where
    go : (n : ℕ) → (turn_on s c).answer.number ≡ n → decode (if_done n (encode (turn_on s c).book) s) ≡ (turn_on s c).book
    go zero e = whole_decode (turn_on s c).book (turn_whole s c a e)
    go (suc n) e = sym (turn_same s c (λ z. omega arith))

-- every accepted call leaves a sound book, and no call spoils one
pub after_sound : (s : List ℕ) (c : Call) → admits s c ≡ true → ((turn_on s c).answer.number ≡ 0) ⊎ (sound s ≡ true)
    → sound (book_after s c) ≡ true
unfolding book_after
after_sound s c a h =
    ap (λ (d : Answer). sound (if_done d.number (encode (turn_on s c).book) s)) (answer_is s c a)
    ∙ go (turn_on s c).answer.number refl h
  where
    go : (n : ℕ) → (turn_on s c).answer.number ≡ n → ((turn_on s c).answer.number ≡ 0) ⊎ (sound s ≡ true)
        → sound (if_done n (encode (turn_on s c).book) s) ≡ true
    go zero e q = whole_sound (turn_on s c).book (turn_whole s c a e)
    go (suc n) e (inl q) = absurd (omega arith)
    go (suc n) e (inr q) = q

-- a call that is accepted did not find a bad book, and leaves a sound one
accepted_admits : (s : List ℕ) (c : Call) → (answer_to s c).number ≡ 0 → admits s c ≡ true
unfolding answer_to
accepted_admits s c = go (admits s c)
  where
    go : (t : Bool) → (pick t (turn_on s c).answer (refusal (number BadBook))).number ≡ 0 → t ≡ true
    go true e = refl
    go false e = absurd (omega arith)

pub accepted_sound : (s : List ℕ) (c : Call) → (answer_to s c).number ≡ 0 → sound (book_after s c) ≡ true
accepted_sound s c z =
    let a = accepted_admits s c z in
    after_sound s c a (inl (ap (λ (d : Answer). d.number) (sym (answer_is s c a)) ∙ z))

pub accepted_decode : (s : List ℕ) (c : Call) → (answer_to s c).number ≡ 0 → decode (book_after s c) ≡ (turn_on s c).book
accepted_decode s c z = after_decode s c (accepted_admits s c z)

-- a refusal is its number alone
pub refused_alone : (s : List ℕ) (c : Call) (n : ℕ) → n ≡ (answer_to s c).number → (n ≡ 0 → ⊥) → refusal n ≡ answer_to s c
unfolding answer_to
refused_alone s c n e ne = go (admits s c) e
  where
    go : (t : Bool) → n ≡ (pick t (turn_on s c).answer (refusal (number BadBook))).number
        → refusal n ≡ pick t (turn_on s c).answer (refusal (number BadBook))
    go true q = ap refusal q ∙ sym (ap (λ (t : Turn). t.answer) (Whole-turns.refused ring_of (decode s) c (λ z. ne (q ∙ z))))
    go false q = ap refusal q

-- the limits that stand in the seats after a call are those of the setup that the rules have then
limits_after : (s : List ℕ) (c : Call) → admits s c ≡ true → sound (book_after s c) ≡ true → (j : ℕ) → j < 8
    → byte (book_after s c) (spot j tag_b_spot) ≡ limit (turn_on s c).book.setup j
limits_after s c a h j l = limit_seen (book_after s c) h j l ∙ ap (λ (b : Book). limit b.setup j) (after_decode s c a)

-- an accepted start writes each desk's limit into its seat, and 0 into the others
pub limits_written : (s : List ℕ) (X : Setup) → (answer_to s (start X)).number ≡ 0 → (j : ℕ) → j < 8
    → byte (book_after s (start X)) (spot j tag_b_spot) ≡ limit X j
limits_written s X z j l = go (admits s (start X)) refl
  where
    go : (t : Bool) → admits s (start X) ≡ t → byte (book_after s (start X)) (spot j tag_b_spot) ≡ limit X j
    go true a =
        let d = ap (λ (x : Answer). x.number) (sym (answer_is s (start X) a)) ∙ z in
        limits_after s (start X) a (after_sound s (start X) a (inl d)) j l
        ∙ start_turn_lem (decode s) X (λ t. t.answer.number ≡ 0 → limit t.book.setup j ≡ limit X j) (λ p e. refl) (λ e. absurd (omega arith)) d
    go false a = absurd (let e = (bad_book s (start X)).1 a in omega arith)

-- no other call changes one
pub limits_stay : (s : List ℕ) (c : Act) (j : ℕ) → j < 8 → byte (book_after s (on c)) (spot j tag_b_spot) ≡ byte s (spot j tag_b_spot)
unfolding admits
limits_stay s c j l = go (sound s) refl
  where
    go : (t : Bool) → sound s ≡ t → byte (book_after s (on c)) (spot j tag_b_spot) ≡ byte s (spot j tag_b_spot)
    go true h =
        limits_after s (on c) h (after_sound s (on c) h (inr h)) j l ∙ ap (λ (X : Setup). limit X j) (setup_stays ring_of (decode s) c)
        ∙ sym (limit_seen s h j l)
    go false h = ap (λ (b : List ℕ). byte b (spot j tag_b_spot)) (refused s (on c) (λ z. let e = (bad_book s (on c)).1 h in omega arith))
