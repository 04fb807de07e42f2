-- What an act may change: at most one seat, one mail place and one shelf slot. All else stays as it was.
-- Assumes nothing.
--   Touched          a seat, a mail place and a shelf slot; none where there is none
--   touches b c      those that the act c, where it is accepted, changes in the tables b
--   SameBut o f g    f and g are alike but at the number in o; alike throughout where there is none
--   Stays t b b'     the tables b' are b but at what is touched
--   LowestFree f n   n is the lowest free place or slot of f; their number where none is free
use Rattle.std.specs.Prelude.{◌≡◌, true, ℕ, ◌≤◌, ◌<◌}
use Rattle.std.proofs.Math.Option.{Option, none, some}
use Rattle.rules.specs.Model.{places, Held, Tables, Act, local, reset, send, receive, drop, discard, ask}
use Rattle.rules.specs.Model.{used, free_mail, slot_for}

pub record Touched : Type 0 where
  pub seat : Option ℕ
  pub place : Option ℕ
  pub slot : Option ℕ

abbrev pub touches : Tables → Act → Touched
touches b (local j q) = record { seat = some j; place = none; slot = slot_for b q }
touches b (send j k q) = record { seat = some j; place = some (free_mail b); slot = slot_for b q }
touches b (receive j p q) = record { seat = some j; place = some p; slot = slot_for b q }
touches b (reset j q) = record { seat = some j; place = none; slot = slot_for b q }
touches b (drop s) = record { seat = none; place = none; slot = some s }
touches b (discard p) = record { seat = none; place = some p; slot = none }
touches b (ask q) = record { seat = none; place = none; slot = none }

abbrev pub SameBut : {A : Type 0} → Option ℕ → (ℕ → A) → (ℕ → A) → Type 0
SameBut none f g = (i : ℕ) → g i ≡ f i
SameBut (some k) f g = (i : ℕ) → (i ≡ k → ⊥) → g i ≡ f i

pub record Stays (t : Touched) (b b' : Tables) : Type 0 where
  pub seats : SameBut t.seat b.seat b'.seat
  pub mail : SameBut t.place b.mail b'.mail
  pub shelf : SameBut t.slot b.shelf b'.shelf

pub record LowestFree (f : ℕ → Option Held) (n : ℕ) : Type 0 where
  pub within : n ≤ places
  pub free : n < places → f n ≡ none
  pub below : (i : ℕ) → i < n → used (f i) ≡ true
