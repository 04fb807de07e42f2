-- The answer table: the number that an act answers is the smallest whose row is due.
-- Assumes nothing.
use mathlib.Core.Path.{◌≡◌, refl, ap, sym, ◌∙◌}
use mathlib.Core.Bool.{Bool, true, false, not, ◌&&◌, ◌||◌, false≢true}
use mathlib.Core.Option.{Option, none, some}
use mathlib.Core.Logic.{◌⊎◌, inl, inr}
use mathlib.Core.List.{List}
use Prim.Native.Nat.{ℕ, ◌+◌, ◌*◌, ◌≤◌, ◌<◌}
use native.Mathlib.Omega.{arith}
use lib.Dec.{ltb, eqb}
use lib.ListN.{length}
use borrow.Author.Tests.{eqb-true, eqb-false, eq-eqb, ne_eqb, ltb-true, ltb-false, lt-ltb, le-ltb, not-true}
use Rattle.tools.specs.Tests.{pick, any}
use Rattle.tools.specs.Reasons.{Holds, Smallest}
use Rattle.tools.proofs.Reasons.{smallest_swap}
use Rattle.tools.proofs.Tests.{and_true_l, and_true_r, and_false, any_at, any_true, lt_or_le}
use Rattle.ring.specs.Phases.{Phases, Gap}
use Rattle.rules.specs.declared.Refusal.TheVariants.{
  NoDesk,
  SameDesk,
  NoPlace,
  NotYours,
  NoEvent,
  PhaseFull,
  MailFull,
  ShelfFull,
  SeatBehind,
}
use Rattle.rules.specs.Numbers.{Name}
use Rattle.rules.specs.declared.Refusal.TheVariants.{MailBehind, ShelfBehind, NoRoom, OutOfReach, WrongOwner}
use Rattle.rules.specs.Numbers.{number}
use Rattle.rules.specs.Model.{Held, Tables, Label, Act, local, reset, send, receive, drop, discard}
use Rattle.rules.specs.Model.{ask, ask_before, ask_compare, ask_picture, ask_show, ask_write, before, compare, picture, step}
use Rattle.rules.specs.Model.{refusal, used, free_slot, by_in, to_in, own, no_slot, at_limit, lags, near, is_out, gap_held, gap_from}
use Rattle.rules.specs.Model.{too_far, chosen, of_two, wrong_owner, ask_reasons, reasons}
use Rattle.rules.specs.Due.{at_local, at_send, at_sent, at_receive, at_reset, by_local, by_send, by_receive, of_receive}
use Rattle.rules.specs.Due.{ToKeep, keep_local, keep_send, keep_receive, keep_reset}
use Rattle.rules.specs.Due.{of_discard, OfSlot, of_drop, of_before, of_before', of_compare, of_compare', of_picture, of_show}
use Rattle.rules.specs.Due.{of_write, Asks}
use Rattle.rules.specs.Due.{asks_before, asks_compare, asks_back, asks_two, Gone, lag_in, Due, no_desk_lem, same_desk}
use Rattle.rules.specs.Due.{no_mail_lem, no_slot_lem}
use Rattle.rules.specs.Due.{not_yours, phase_full, mail_full, shelf_full, seat_behind, mail_behind, shelf_behind, no_room}
use Rattle.rules.specs.Due.{other_count, out_of_reach, wrong_owner_lem, DueNumber}
use Rattle.rules.specs.Frames.{LowestFree}
use Rattle.rules.specs.Setups.{Setup, limit, permits}
use Rattle.rules.specs.Labels.{reasons_off, before_off, compare_off}
use Rattle.rules.specs.Calls.{Book, Call, start, on, fresh_book, settled, call}
use Rattle.rules.proofs.Frames.{lowest_place, lowest_slot}
use Rattle.rules.proofs.Reasons.{act_number, before_due, compare_due}

-- each test of the list, and what its row says
at_least : (a n : ℕ) → n ≤ a → not (ltb a n) ≡ true
at_least a n l = rw (le-ltb a n l)

is_least : (a n : ℕ) → not (ltb a n) ≡ true → n ≤ a
is_least a n t = ltb-false a n (not-true (ltb a n) t)

either : (t u : Bool) → (t || u) ≡ true → (t ≡ true) ⊎ (u ≡ true)
either true u e = inl refl
either false u e = inr e

or_left : (t u : Bool) → t ≡ true → (t || u) ≡ true
or_left t u e = rw e

or_right : (t u : Bool) → u ≡ true → (t || u) ≡ true
or_right true u e = refl
or_right false u e = e

gone_test : (p : ℕ) (o : Option Held) → Gone p o → not (used o && ltb p 32) ≡ true
gone_test p o (inl l) = rw (le-ltb p 32 l, and_false (used o))
gone_test p o (inr e) = rw e

is_gone : (p : ℕ) (o : Option Held) → not (used o && ltb p 32) ≡ true → Gone p o
is_gone p none t = inr refl
is_gone p (some w) t = inl (is_least p 32 t)

is_out_lem : (g : Option Gap) → is_out g ≡ true → g ≡ none
is_out_lem none t = refl
is_out_lem (some d) t = absurd (false≢true t)

-- the lowest free one is none of them just where all are used
full : {f : ℕ → Option Held} {n : ℕ} → LowestFree f n → ((p : ℕ) → p < 32 → used (f p) ≡ true) → not (ltb n 32) ≡ true
full {n = n} low h = go (lt_or_le n 32)
  where
    go : (n < 32) ⊎ (32 ≤ n) → not (ltb n 32) ≡ true
    go (inl l) = absurd (false≢true (sym (ap used (low.free l)) ∙ h n l))
    go (inr l) = at_least n 32 l

is_full : {f : ℕ → Option Held} {n : ℕ} → LowestFree f n → not (ltb n 32) ≡ true → (p : ℕ) → p < 32 → used (f p) ≡ true
is_full {n = n} low t p l = low.below p (omega (arith, is_least n 32 t))

module _ (Z : Phases) (X : Setup) (b : Tables) where
  is_behind : (j B : ℕ) (f : ℕ → Option Held) → any 32 (λ p. lags Z b j B (f p)) ≡ true
      → (p : ℕ) × (w : Held) × (p < 32) × (f p ≡ some w) × (lag_in Z b j w ≡ B)
  is_behind j B f t = let s = any_true 32 (λ p. lags Z b j B (f p)) t in go s.0 s.1 (f s.0) refl s.2
    where
      go : (p : ℕ) → p < 32 → (o : Option Held) → f p ≡ o → lags Z b j B o ≡ true
          → (p : ℕ) × (w : Held) × (p < 32) × (f p ≡ some w) × (lag_in Z b j w ≡ B)
      go p l none e t = absurd (false≢true t)
      go p l (some w) e t = (p, w, l, e, eqb-true _ _ t)

  behind : (j B : ℕ) (f : ℕ → Option Held) (p : ℕ) (w : Held) → p < 32 → f p ≡ some w
      → lag_in Z b j w ≡ B → any 32 (λ p. lags Z b j B (f p)) ≡ true
  behind j B f p w l e q =
      any_at 32 (λ p. lags Z b j B (f p)) p l (ap (lags Z b j B) e ∙ eq-eqb (lag_in Z b j w) B q)

  out_test : (s t : ℕ) (e f : Held) → b.shelf s ≡ some e → b.shelf t ≡ some f
      → near X (e.row e.by).clock (record { up = lag_in Z b e.by e; down = lag_in Z b e.by f }) ≡ none
      → is_out (gap_held Z X b (b.shelf s) (b.shelf t)) ≡ true
  out_test s t e f p q g = (λ i. is_out (gap_held Z X b (p i) (q i))) ∙ ap is_out g

  -- two places of a list, one of whose stamps is out of reach from the other
  two_far : (l : List ℕ) (i k : ℕ) → i < length l → k < length l → (i ≡ k → ⊥)
      → is_out (gap_from Z X b (chosen l i) (chosen l k)) ≡ true
      → any (length l) (λ i. any (length l) (of_two (too_far Z X b) l i)) ≡ true
  two_far l i k m n ne e = go (lt_or_le i k)
    where
      far : (i k : ℕ) → i < length l → k < length l → i < k → too_far Z X b (chosen l i) (chosen l k) ≡ true
          → any (length l) (λ i. any (length l) (of_two (too_far Z X b) l i)) ≡ true
      far i k m n q t =
          any_at (length l) (λ i. any (length l) (of_two (too_far Z X b) l i)) i m
          (any_at (length l) (of_two (too_far Z X b) l i) k n (ap (λ u. u && too_far Z X b (chosen l i) (chosen l k)) (lt-ltb i k q) ∙ t))

      go : (i < k) ⊎ (k ≤ i) → any (length l) (λ i. any (length l) (of_two (too_far Z X b) l i)) ≡ true
      go (inl q) = far i k m n q (or_left _ _ e)
      go (inr q) = far k i n m (omega arith) (or_right (is_out (gap_from Z X b (chosen l k) (chosen l i))) _ e)

  is_at_limit : (j : ℕ) → at_limit X b j ≡ true → limit X j ≤ (own b j).clock + 1
  is_at_limit j t = is_least ((own b j).clock + 1) (limit X j) t

  at_limit_lem : (j : ℕ) → limit X j ≤ (own b j).clock + 1 → at_limit X b j ≡ true
  at_limit_lem j l = at_least ((own b j).clock + 1) (limit X j) l

  -- a row that is due stands in the list of reasons, by its number
  listed : {c : Act} {w : Name} → Due Z X b c w → Holds (reasons Z X b c) (number w)
  unfolding reasons ask_reasons
  listed (no_desk_lem (at_local {j = j}) l) = inl (refl, at_least j X.desks l)
  listed (no_desk_lem (at_send {j = j} {k = k}) l) = inl (refl, or_left _ _ (at_least j X.desks l))
  listed (no_desk_lem (at_sent {j = j} {k = k}) l) = inl (refl, or_right (not (ltb j X.desks)) _ (at_least k X.desks l))
  listed (no_desk_lem (at_receive {j = j}) l) = inl (refl, at_least j X.desks l)
  listed (no_desk_lem (at_reset {j = j}) l) = inl (refl, at_least j X.desks l)
  listed (same_desk {j = j}) = inr (inl (refl, eq-eqb j j refl))
  listed (no_mail_lem (of_receive {p = p}) g) = inr (inl (refl, gone_test p (b.mail p) g))
  listed (no_mail_lem (of_discard {p = p}) g) = inl (refl, gone_test p (b.mail p) g)
  listed (no_slot_lem (of_drop {s = s}) g) = inl (refl, gone_test s (b.shelf s) g)
  listed (no_slot_lem (of_before {s = s}) g) = inl (refl, or_left _ _ (gone_test s (b.shelf s) g))
  listed (no_slot_lem (of_before' {s = s} {t = t}) g) =
      inl (refl, or_right (not (used (b.shelf s) && ltb s 32)) _ (gone_test t (b.shelf t) g))
  listed (no_slot_lem (of_compare {s = s}) g) = inl (refl, or_left _ _ (gone_test s (b.shelf s) g))
  listed (no_slot_lem (of_compare' {s = s} {t = t}) g) =
      inl (refl, or_right (not (used (b.shelf s) && ltb s 32)) _ (gone_test t (b.shelf t) g))
  listed (no_slot_lem (of_picture {l = l} {i = i} m) g) =
      inl (refl, or_right (not (eqb (length l) X.desks)) _ (any_at (length l) (λ i. no_slot b (chosen l i)) i m (gone_test _ _ g)))
  listed (no_slot_lem (of_show {s = s}) g) = inl (refl, gone_test s (b.shelf s) g)
  listed (no_slot_lem (of_write {s = s}) g) = inl (refl, gone_test s (b.shelf s) g)
  listed (other_count {l = l} ne) = inl (refl, or_left _ _ (ap not (ne_eqb (length l) X.desks ne)))
  listed (not_yours {j = j} {p = p} {w = w} e ne) = inr (inr (inl (refl, rw e (ap not (ne_eqb w.to j ne)))))
  listed (phase_full (by_local {j = j}) l) = inr (inl (refl, at_limit_lem j l))
  listed (phase_full (by_send {j = j}) l) = inr (inr (inl (refl, at_limit_lem j l)))
  listed (phase_full (by_receive {j = j}) l) = inr (inr (inr (inl (refl, at_limit_lem j l))))
  listed (mail_full h) = inr (inr (inr (inl (refl, full (lowest_place b) h))))
  listed (shelf_full keep_local h) = inr (inr (inl (refl, full (lowest_slot b) h)))
  listed (shelf_full keep_send h) = inr (inr (inr (inr (inl (refl, full (lowest_slot b) h)))))
  listed (shelf_full keep_receive h) = inr (inr (inr (inr (inl (refl, full (lowest_slot b) h)))))
  listed (shelf_full keep_reset h) = inr (inl (refl, full (lowest_slot b) h))
  listed (seat_behind {j = j} {k = k} l ne q) =
      inr (inr (inl (
        refl,
        any_at X.desks (λ s. not (eqb s j) && eqb (Z.lag (own b j).phase ((b.seat s).row j).phase) X.seat_lag) k l
            (rw (ne_eqb k j ne) (eq-eqb _ _ q)),
      )))
  listed (mail_behind {j = j} {p = p} {w = w} l e q) = inr (inr (inr (inl (refl, behind j (2 * X.seat_lag) b.mail p w l e q))))
  listed (shelf_behind {j = j} {s = s} {w = w} l e q) =
      inr (inr (inr (inr (inl (refl, behind j X.shelf_lag b.shelf s w l e q)))))
  listed (no_room {room = room} l) = inr (inl (refl, lt-ltb room 20 l))
  listed (out_of_reach (asks_before {s = s} {t = t}) e f g) = inr (inl (refl, out_test s t _ _ e f g))
  listed (out_of_reach (asks_compare {s = s} {t = t}) e f g) = inr (inl (refl, or_left _ _ (out_test s t _ _ e f g)))
  listed (out_of_reach (asks_back {s = s} {t = t}) e f g) =
      inr (inl (refl, or_right (is_out (gap_held Z X b (b.shelf s) (b.shelf t))) _ (out_test t s _ _ e f g)))
  listed (out_of_reach (asks_two {l = l} {i = i} {k = k} m n ne) e f g) = inr (inl (refl, two_far l i k m n ne (out_test _ _ _ _ e f g)))
  listed (wrong_owner_lem {l = l} {i = i} {e = e} m p ne) =
      inr (inr (inl (refl, any_at (length l) (wrong_owner b l) i m (ap (λ o. not (eqb (by_in o) i)) p ∙ ap not (ne_eqb e.by i ne)))))

  -- a reason of the list that holds is due, or a smaller one is
  abbrev Down : Act → ℕ → Type 0
  Down c k = (i : ℕ) × (i ≤ k) × DueNumber Z X b c i

  due : {c : Act} {k : ℕ} (w : Name) → number w ≡ k → Due Z X b c w → Down c k
  due {k = k} w q d = (k, omega arith, (w, q, d))

  out : (c : Act) (s t : ℕ) → OfSlot c s → OfSlot c t → Asks c s t → (k : ℕ) → 16 ≡ k
      → is_out (gap_held Z X b (b.shelf s) (b.shelf t)) ≡ true → Down c k
  out c s t os ot a k q h = go (b.shelf s) (b.shelf t) refl refl h
    where
      go : (e f : Option Held) → b.shelf s ≡ e → b.shelf t ≡ f → is_out (gap_held Z X b e f) ≡ true → Down c k
      go none f p p' h = (5, omega arith, (NoPlace, refl, no_slot_lem os (inr p)))
      go (some e) none p p' h = (5, omega arith, (NoPlace, refl, no_slot_lem ot (inr p')))
      go (some e) (some f) p p' h = due OutOfReach q (out_of_reach a p p' (is_out_lem _ h))

  no_two : (c : Act) (s t : ℕ) → OfSlot c s → OfSlot c t → (k : ℕ) → 5 ≡ k
      → (not (used (b.shelf s) && ltb s 32) || not (used (b.shelf t) && ltb t 32)) ≡ true → Down c k
  no_two c s t os ot k q h = go (either (not (used (b.shelf s) && ltb s 32)) _ h)
    where
      go : (not (used (b.shelf s) && ltb s 32) ≡ true) ⊎ (not (used (b.shelf t) && ltb t 32) ≡ true) → Down c k
      go (inl h) = due NoPlace q (no_slot_lem os (is_gone s (b.shelf s) h))
      go (inr h) = due NoPlace q (no_slot_lem ot (is_gone t (b.shelf t) h))

  -- a list that does not name exactly D slots, or names one that is not there
  no_list : (l : List ℕ) (k : ℕ) → 5 ≡ k
      → (not (eqb (length l) X.desks) || any (length l) (λ i. no_slot b (chosen l i))) ≡ true → Down (picture l) k
  no_list l k q h = go (either (not (eqb (length l) X.desks)) _ h)
    where
      go : (not (eqb (length l) X.desks) ≡ true) ⊎ (any (length l) (λ i. no_slot b (chosen l i)) ≡ true) → Down (picture l) k
      go (inl h) = due NoPlace q (other_count (eqb-false _ _ (not-true _ h)))
      go (inr h) =
          let s = any_true (length l) (λ i. no_slot b (chosen l i)) h in
          due NoPlace q (no_slot_lem (of_picture s.1) (is_gone _ _ s.2))

  -- two places of a list that are out of reach
  two_out : (l : List ℕ) (k : ℕ) → 16 ≡ k → any (length l) (λ i. any (length l) (of_two (too_far Z X b) l i)) ≡ true
      → Down (picture l) k
  two_out l n q h =
      let s = any_true (length l) (λ i. any (length l) (of_two (too_far Z X b) l i)) h in
      let t = any_true (length l) (of_two (too_far Z X b) l s.0) s.2 in
      go s.0 t.0 s.1 t.1 (ltb-true _ _ (and_true_l _ _ t.2))
      (either (is_out (gap_from Z X b (chosen l s.0) (chosen l t.0))) _ (and_true_r (ltb s.0 t.0) _ t.2))
    where
      go : (i k : ℕ) → i < length l → k < length l → i < k
          → (is_out (gap_from Z X b (chosen l i) (chosen l k)) ≡ true) ⊎ (is_out (gap_from Z X b (chosen l k) (chosen l i)) ≡ true)
          → Down (picture l) n
      go i k m m' lt (inl e) = out (picture l) _ _ (of_picture m) (of_picture m') (asks_two m m' (λ d. omega arith)) n q e
      go i k m m' lt (inr e) = out (picture l) _ _ (of_picture m') (of_picture m) (asks_two m' m (λ d. omega arith)) n q e

  -- a place of a list that holds another desk's stamp
  not_own : (l : List ℕ) (k : ℕ) → 18 ≡ k → any (length l) (wrong_owner b l) ≡ true → Down (picture l) k
  not_own l k q h = let s = any_true (length l) (wrong_owner b l) h in go s.0 s.1 (b.shelf (chosen l s.0)) refl s.2
    where
      go : (i : ℕ) → i < length l → (o : Option Held) → b.shelf (chosen l i) ≡ o → not (eqb (by_in o) i) ≡ true → Down (picture l) k
      go i m none p t = (5, omega arith, (NoPlace, refl, no_slot_lem (of_picture m) (inr p)))
      go i m (some e) p t = due WrongOwner q (wrong_owner_lem m p (eqb-false _ _ (not-true _ t)))

  -- an event that is not kept asks nothing of the shelf
  no_shelf_lem : (c : Bool → Act) → ToKeep (c true) → (t : Bool) (k : ℕ) → 10 ≡ k
      → (t && not (ltb (free_slot b) 32)) ≡ true → Down (c t) k
  no_shelf_lem c w true k q h = due ShelfFull q (shelf_full w (is_full (lowest_slot b) h))
  no_shelf_lem c w false k q h = absurd (false≢true h)

  told : (c : Act) (k : ℕ) → Holds (reasons Z X b c) k → Down c k
  unfolding reasons ask_reasons
  told (local j t) k (inl (q, h)) = due NoDesk q (no_desk_lem at_local (is_least _ _ h))
  told (local j t) k (inr (inl (q, h))) = due PhaseFull q (phase_full by_local (is_at_limit j h))
  told (local j t) k (inr (inr (inl (q, h)))) = no_shelf_lem (local j) keep_local t k q h
  told (local j t) k (inr (inr (inr h))) = absurd h
  told (send j i t) k (inl (q, h)) = go (either (not (ltb j X.desks)) _ h)
    where
      go : (not (ltb j X.desks) ≡ true) ⊎ (not (ltb i X.desks) ≡ true) → Down (send j i t) k
      go (inl h) = due NoDesk q (no_desk_lem at_send (is_least _ _ h))
      go (inr h) = due NoDesk q (no_desk_lem at_sent (is_least _ _ h))
  told (send j i t) k (inr (inl (q, h))) = due SameDesk q (rw (← (eqb-true j i h)) same_desk)
  told (send j i t) k (inr (inr (inl (q, h)))) = due PhaseFull q (phase_full by_send (is_at_limit j h))
  told (send j i t) k (inr (inr (inr (inl (q, h))))) = due MailFull q (mail_full (is_full (lowest_place b) h))
  told (send j i t) k (inr (inr (inr (inr (inl (q, h)))))) = no_shelf_lem (send j i) keep_send t k q h
  told (send j i t) k (inr (inr (inr (inr (inr h))))) = absurd h
  told (receive j p t) k (inl (q, h)) = due NoDesk q (no_desk_lem at_receive (is_least _ _ h))
  told (receive j p t) k (inr (inl (q, h))) = due NoPlace q (no_mail_lem of_receive (is_gone p (b.mail p) h))
  told (receive j p t) k (inr (inr (inl (q, h)))) = go (b.mail p) refl h
    where
      go : (o : Option Held) → b.mail p ≡ o → not (eqb (to_in o) j) ≡ true → Down (receive j p t) k
      go none e h = (5, omega arith, (NoPlace, refl, no_mail_lem of_receive (inr e)))
      go (some w) e h = due NotYours q (not_yours e (eqb-false w.to j (not-true _ h)))
  told (receive j p t) k (inr (inr (inr (inl (q, h))))) = due PhaseFull q (phase_full by_receive (is_at_limit j h))
  told (receive j p t) k (inr (inr (inr (inr (inl (q, h)))))) = no_shelf_lem (receive j p) keep_receive t k q h
  told (receive j p t) k (inr (inr (inr (inr (inr h))))) = absurd h
  told (reset j t) k (inl (q, h)) = due NoDesk q (no_desk_lem at_reset (is_least _ _ h))
  told (reset j t) k (inr (inl (q, h))) = no_shelf_lem (reset j) keep_reset t k q h
  told (reset j t) k (inr (inr (inl (q, h)))) =
      let s = any_true X.desks _ h in
      due SeatBehind q
      (seat_behind s.1 (eqb-false _ _ (not-true _ (and_true_l _ _ s.2))) (eqb-true _ _ (and_true_r (not (eqb s.0 j)) _ s.2)))
  told (reset j t) k (inr (inr (inr (inl (q, h))))) =
      let s = is_behind j (2 * X.seat_lag) b.mail h in due MailBehind q (mail_behind s.2 s.3 s.4)
  told (reset j t) k (inr (inr (inr (inr (inl (q, h)))))) =
      let s = is_behind j X.shelf_lag b.shelf h in due ShelfBehind q (shelf_behind s.2 s.3 s.4)
  told (reset j t) k (inr (inr (inr (inr (inr h))))) = absurd h
  told (drop s) k (inl (q, h)) = due NoPlace q (no_slot_lem of_drop (is_gone s (b.shelf s) h))
  told (drop s) k (inr h) = absurd h
  told (discard p) k (inl (q, h)) = due NoPlace q (no_mail_lem of_discard (is_gone p (b.mail p) h))
  told (discard p) k (inr h) = absurd h
  told (ask (ask_before s t)) k (inl (q, h)) = no_two (before s t) s t of_before of_before' k q h
  told (ask (ask_before s t)) k (inr (inl (q, h))) = out (before s t) s t of_before of_before' asks_before k q h
  told (ask (ask_before s t)) k (inr (inr h)) = absurd h
  told (ask (ask_compare s t)) k (inl (q, h)) = no_two (compare s t) s t of_compare of_compare' k q h
  told (ask (ask_compare s t)) k (inr (inl (q, h))) = go (either (is_out (gap_held Z X b (b.shelf s) (b.shelf t))) _ h)
    where
      go : (is_out (gap_held Z X b (b.shelf s) (b.shelf t)) ≡ true) ⊎ (is_out (gap_held Z X b (b.shelf t) (b.shelf s)) ≡ true)
          → Down (compare s t) k
      go (inl h) = out (compare s t) s t of_compare of_compare' asks_compare k q h
      go (inr h) = out (compare s t) t s of_compare' of_compare asks_back k q h
  told (ask (ask_compare s t)) k (inr (inr h)) = absurd h
  told (ask (ask_picture l)) k (inl (q, h)) = no_list l k q h
  told (ask (ask_picture l)) k (inr (inl (q, h))) = two_out l k q h
  told (ask (ask_picture l)) k (inr (inr (inl (q, h)))) = not_own l k q h
  told (ask (ask_picture l)) k (inr (inr (inr h))) = absurd h
  told (ask (ask_show s)) k (inl (q, h)) = due NoPlace q (no_slot_lem of_show (is_gone s (b.shelf s) h))
  told (ask (ask_show s)) k (inr h) = absurd h
  told (ask (ask_write s room)) k (inl (q, h)) = due NoPlace q (no_slot_lem of_write (is_gone s (b.shelf s) h))
  told (ask (ask_write s room)) k (inr (inl (q, h))) = due NoRoom q (no_room (ltb-true _ _ h))
  told (ask (ask_write s room)) k (inr (inr h)) = absurd h

  back : (c : Act) (k : ℕ) → DueNumber Z X b c k → (i : ℕ) × (i ≤ k) × Holds (reasons Z X b c) i
  back c k (w, q, d) = (number w, omega arith, listed d)

  -- THE PROMISE: the smallest number whose row is due is given, and none is given without its reason
  pub table : (c : Act) → Smallest (DueNumber Z X b c) (step Z X b c).answer.number
  table c = smallest_swap (Holds (reasons Z X b c)) (DueNumber Z X b c) _ (act_number Z X b c) (told c) (back c)

  -- NoEvent is due to no act
  no_event : {c : Act} {w : Name} → Due Z X b c w → number w ≡ number NoEvent → ⊥
  no_event (no_desk_lem a l) e = absurd (omega arith)
  no_event same_desk e = absurd (omega arith)
  no_event (no_mail_lem o g) e = absurd (omega arith)
  no_event (no_slot_lem o g) e = absurd (omega arith)
  no_event (other_count ne) e = absurd (omega arith)
  no_event (not_yours m ne) e = absurd (omega arith)
  no_event (phase_full t l) e = absurd (omega arith)
  no_event (mail_full h) e = absurd (omega arith)
  no_event (shelf_full t h) e = absurd (omega arith)
  no_event (seat_behind l ne q) e = absurd (omega arith)
  no_event (mail_behind l m q) e = absurd (omega arith)
  no_event (shelf_behind l m q) e = absurd (omega arith)
  no_event (no_room l) e = absurd (omega arith)
  no_event (out_of_reach a m n g) e = absurd (omega arith)
  no_event (wrong_owner_lem m p ne) e = absurd (omega arith)

  act_no_event : (c : Act) → (step Z X b c).answer.number ≡ number NoEvent → ⊥
  act_no_event c e = let d = (((table c).due 7 (omega arith)).0 e).0 in no_event d.2 d.1

-- THE PROMISE: NoEvent is given to no call, in any arithmetic
pub call_no_event : (Z : Setup → Phases) (b : Book) (c : Call) → (call Z b c).answer.number ≡ number NoEvent → ⊥
unfolding call
call_no_event Z b (start X) e = go (permits X) e
  where
    go : (t : Bool) → (settled (pick (not t) 2 0) b (record { answer = refusal 0; book = fresh_book X })).answer.number ≡ 7 → ⊥
    go true e = absurd (omega arith)
    go false e = absurd (omega arith)
call_no_event Z b (on c) e = act_no_event (Z b.setup) b.setup b.tables c e

-- and off the book, whatever the records
off_reasons : (X : Setup) (e f : Option Label) (out : Bool) → Holds (reasons_off X e f out) (number NoEvent) → ⊥
off_reasons X e f out (inl (q, h)) = absurd (omega arith)
off_reasons X e f out (inr (inl (q, h))) = absurd (omega arith)
off_reasons X e f out (inr (inr (inl (q, h)))) = absurd (omega arith)
off_reasons X e f out (inr (inr (inr h))) = absurd h

pub off_no_event : (X : Setup) (e f : Option Label)
    → ((before_off X e f).number ≡ number NoEvent → ⊥) × ((compare_off X e f).number ≡ number NoEvent → ⊥)
off_no_event X e f = (
  λ q. off_reasons X e f _ (((before_due X e f).due 7 (omega arith)).0 q).0,
  λ q. off_reasons X e f _ (((compare_due X e f).due 7 (omega arith)).0 q).0,
)
