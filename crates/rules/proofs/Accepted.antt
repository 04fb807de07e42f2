-- What an accepted act was not refused by: of the rows of the answer table none was due.
-- Assumes nothing.
use mathlib.Core.Path.{◌≡◌, refl, sym, subst, ◌∙◌}
use mathlib.Core.Option.{Option, none, some}
use mathlib.Core.Bool.{Bool, true, false, not}
use mathlib.Core.Logic.{◌⊎◌, inl, inr}
use Prim.Native.Nat.{ℕ, ◌+◌, ◌*◌, ◌≤◌, ◌<◌}
use native.Mathlib.Omega.{arith}
use lib.Dec.{ltb, eqb}
use lib.ListN.{length}
use borrow.Author.Tests.{eqb-true, eqb-false, not-true}
use Rattle.tools.specs.Tests.{pick}
use Rattle.tools.specs.Tables.{Each}
use Rattle.tools.proofs.Tests.{and_true_l, and_true_r, lt_or_le}
use Rattle.tools.proofs.Tables.{some_is, none_some}
use Rattle.ring.specs.Phases.{Phases}
use Rattle.rules.specs.Setups.{Setup, limit}
use Rattle.rules.specs.Numbers.{Name, number}
use Rattle.rules.specs.Model.{Held, Tables, Question, ask_before, ask_compare, ask_picture, ask_show, ask_write, slot_asked}
use Rattle.rules.specs.Model.{Act, local, reset}
use Rattle.rules.specs.Model.{send, receive, ask, why, stamp, says, names, shows, free_mail, slot_for, by_in, row_in, used}
use Rattle.rules.specs.Model.{own, lags, seat_lags}
use Rattle.rules.specs.Model.{first_odd, second_odd, pictured, ask_tells}
use Rattle.rules.specs.Frames.{LowestFree}
use Rattle.rules.specs.Due.{at_local, at_send, at_sent, at_receive, at_reset, by_local, by_send, by_receive, of_receive}
use Rattle.rules.specs.Due.{OfSlot, of_show, of_write, Gone, lag_in, Due, no_desk_lem, same_desk, no_mail_lem, no_slot_lem, phase_full}
use Rattle.rules.specs.Due.{ToKeep, keep_local, keep_send, keep_receive, keep_reset}
use Rattle.rules.specs.Due.{mail_full, shelf_full, seat_behind, mail_behind, shelf_behind}
use Rattle.rules.proofs.Steps.{step_number}
use Rattle.rules.proofs.Frames.{lowest_place, lowest_slot}
use Rattle.rules.proofs.Due.{table}

-- what is not so is otherwise
below : (a n : ℕ) → (n ≤ a → ⊥) → a < n
below a n f = go (lt_or_le a n)
  where
    go : (a < n) ⊎ (n ≤ a) → a < n
    go (inl l) = l
    go (inr l) = absurd (f l)

off : (t : Bool) → (t ≡ true → ⊥) → t ≡ false
off true f = absurd (f refl)
off false f = refl

-- a place or slot that is not gone is used; where not all are used, one is free
there : (p : ℕ) (o : Option Held) → (Gone p o → ⊥) → (used o ≡ true) × (p < 32)
there p none f = absurd (f (inr refl))
there p (some w) f = (refl, below p 32 (λ l. f (inl l)))

one_free : {f : ℕ → Option Held} {n : ℕ} → LowestFree f n → (((p : ℕ) → p < 32 → used (f p) ≡ true) → ⊥) → n < 32
one_free {n = n} low f = below n 32 (λ l. f (λ p m. low.below p (omega (arith, l, m))))

module _ (Z : Phases) (X : Setup) (b : Tables) where
  -- no row is due to an act that is accepted
  none_due : {c : Act} → why Z X b c ≡ 0 → {w : Name} → Due Z X b c w → ⊥
  none_due {c = c} e {w = w} d = (table Z X b c).none.0 (step_number Z X b c ∙ e) (number w) (w, refl, d)

  -- the slot of an event that is kept is one of the shelf
  slot_there : (c : Bool → Act) → ToKeep (c true) → (q : Bool) → why Z X b (c q) ≡ 0 → Each (λ s. s < 32) (slot_for b q)
  slot_there c k true e = one_free (lowest_slot b) (λ h. none_due e (shelf_full k h))
  slot_there c k false e = tt

  pub no_local : (j : ℕ) (q : Bool) → why Z X b (local j q) ≡ 0
      → (j < X.desks) × ((own b j).clock + 1 < limit X j) × Each (λ s. s < 32) (slot_for b q)
  no_local j q e = (
    below _ _ (λ l. none_due e (no_desk_lem at_local l)),
    below _ _ (λ l. none_due e (phase_full by_local l)),
    slot_there (local j) keep_local q e,
  )

  pub no_send : (j k : ℕ) (q : Bool) → why Z X b (send j k q) ≡ 0
      → (j < X.desks) × ((own b j).clock + 1 < limit X j) × (free_mail b < 32) × (k < X.desks) × (j ≡ k → ⊥)
      × Each (λ s. s < 32) (slot_for b q)
  no_send j k q e = (
    below _ _ (λ l. none_due e (no_desk_lem at_send l)),
    below _ _ (λ l. none_due e (phase_full by_send l)),
    one_free (lowest_place b) (λ h. none_due e (mail_full h)),
    below _ _ (λ l. none_due e (no_desk_lem at_sent l)),
    λ same. none_due (subst (λ n. why Z X b (send j n q) ≡ 0) (sym same) e) same_desk,
    slot_there (send j k) keep_send q e,
  )

  pub no_receive : (j p : ℕ) (q : Bool) → why Z X b (receive j p q) ≡ 0
      → (j < X.desks) × (used (b.mail p) ≡ true) × ((own b j).clock + 1 < limit X j) × (p < 32) × Each (λ s. s < 32) (slot_for b q)
  no_receive j p q e =
      let t = there p (b.mail p) (λ g. none_due e (no_mail_lem of_receive g)) in (
        below _ _ (λ l. none_due e (no_desk_lem at_receive l)),
        t.0,
        below _ _ (λ l. none_due e (phase_full by_receive l)),
        t.1,
        slot_there (receive j p) keep_receive q e,
      )

  -- what does not lag just so far
  in_time : (j B : ℕ) (o : Option Held) → ((w : Held) → o ≡ some w → lag_in Z b j w ≡ B → ⊥) → lags Z b j B o ≡ false
  in_time j B none f = refl
  in_time j B (some w) f = off _ (λ t. f w refl (eqb-true _ _ t))

  pub no_reset : (j : ℕ) (q : Bool) → why Z X b (reset j q) ≡ 0
      → (j < X.desks)
      × ((s : ℕ) → s < X.desks → seat_lags Z b j X.seat_lag s ≡ false)
      × ((p : ℕ) → p < 32 → lags Z b j (2 * X.seat_lag) (b.mail p) ≡ false)
      × ((p : ℕ) → p < 32 → lags Z b j X.shelf_lag (b.shelf p) ≡ false)
      × Each (λ s. s < 32) (slot_for b q)
  no_reset j q e = (
    below _ _ (λ l. none_due e (no_desk_lem at_reset l)),
    λ s l. off _ (λ t. none_due e
        (seat_behind l (eqb-false s j (not-true _ (and_true_l _ _ t))) (eqb-true _ _ (and_true_r (not (eqb s j)) _ t)))),
    λ p l. in_time j _ (b.mail p) (λ w o t. none_due e (mail_behind l o t)),
    λ s l. in_time j _ (b.shelf s) (λ w o t. none_due e (shelf_behind l o t)),
    slot_there (reset j) keep_reset q e,
  )

  of_slot : (q : Question) (s : ℕ) → slot_asked q ≡ some s → OfSlot (ask q) s
  of_slot (ask_before u t) s e = absurd (none_some e)
  of_slot (ask_compare u t) s e = absurd (none_some e)
  of_slot (ask_picture l) s e = absurd (none_some e)
  of_slot (ask_show u) s e = subst (OfSlot (ask (ask_show u))) (some_is e) of_show
  of_slot (ask_write u room) s e = subst (OfSlot (ask (ask_write u room))) (some_is e) of_write

  -- a question hands out no stamp but that of a used slot
  pub no_ask : (q : Question) (s : ℕ) → slot_asked q ≡ some s → why Z X b (ask q) ≡ 0 → (used (b.shelf s) ≡ true) × (s < 32)
  no_ask q s e z = there s (b.shelf s) (λ g. none_due z (no_slot_lem (of_slot q s e) g))

  -- what a question hands out: no stamp; or of its slot the row alone, or the stamp
  pub data Hands (q : Question) : Type 0 where
    no_stamp : slot_asked q ≡ none → (ask_tells Z X b q).stamp ≡ none → (ask_tells Z X b q).row ≡ none → Hands q
    row_of : (s : ℕ) → slot_asked q ≡ some s → ask_tells Z X b q ≡ shows (row_in (b.shelf s)) → Hands q
    stamp_of : (s : ℕ) → slot_asked q ≡ some s → ask_tells Z X b q ≡ stamp (by_in (b.shelf s)) (row_in (b.shelf s)) → Hands q

  -- two desks at odds, or yes
  plain : (t : Bool) (i k : ℕ) → ((pick t (names i k) (says true)).stamp ≡ none) × ((pick t (names i k) (says true)).row ≡ none)
  plain true i k = (refl, refl)
  plain false i k = (refl, refl)

  pub hands : (q : Question) → Hands q
  unfolding ask_tells pictured
  hands (ask_before s t) = no_stamp refl refl refl
  hands (ask_compare s t) = no_stamp refl refl refl
  hands (ask_picture l) = let p = plain (ltb (first_odd Z b l) (length l)) (first_odd Z b l) (second_odd Z b l) in no_stamp refl p.0 p.1
  hands (ask_show s) = row_of s refl refl
  hands (ask_write s room) = stamp_of s refl refl
