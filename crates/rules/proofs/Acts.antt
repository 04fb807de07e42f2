-- DEMAND 2 on books without bytes: what each accepted act leaves and answers, in any arithmetic.
-- Assumes nothing.
use mathlib.Core.Path.{◌≡◌, refl, ap, sym, ◌∙◌}
use mathlib.Core.Bool.{Bool, true, false, not, ◌&&◌, ◌||◌}
use mathlib.Core.Option.{none, some}
use mathlib.Core.Logic.{◌⊎◌, inl, inr, ◌↔◌}
use Prim.Native.Nat.{ℕ, ◌+◌, ◌≤◌, ◌<◌}
use native.Mathlib.Omega.{arith}
use lib.Dec.{eqb}
use borrow.Author.Tests.{eq-eqb, ne_eqb}
use Rattle.tools.proofs.Tables.{put_same, put_other}
use Rattle.tools.proofs.Tests.{eq_or_ne, count_but, count_zero, zero_count}
use Rattle.ring.specs.Phases.{Phases, Gap, later_by, lag_gap, later}
use Rattle.ring.proofs.Ring.{later_stays, changed_differs}
use Rattle.rules.specs.declared.Relation.TheVariants.{Before, After, Same, Concurrent, Crossed}
use Rattle.rules.specs.Setups.{Setup, permits}
use Rattle.rules.specs.Numbers.{Name}
use Rattle.rules.specs.Model.{Row, Held, Tables, Act, local, reset, send, receive, drop, discard}
use Rattle.rules.specs.Model.{before, compare, show, write, nothing, made, stamp, says, relates, shows, accepted, Result}
use Rattle.rules.specs.Model.{own, free_mail, free_slot, slot_for, grown, taken, merged, learns, learnt, turned, near}
use Rattle.rules.specs.Model.{gap_in, same_by, is_before, relation, gap_from}
use Rattle.rules.specs.Model.{by_in, row_in, ask_tells, settle, done, step}
use Rattle.rules.specs.Due.{Due}
use Rattle.rules.proofs.Setups.{permitted}
use Rattle.rules.proofs.Steps.{step_number}
use Rattle.rules.proofs.Due.{table}

module _ (Z : Phases) (X : Setup) (b : Tables) where
  -- an act to which no row of the answer table is due is accepted
  pub accepts : (c : Act) → ((w : Name) → Due Z X b c w → ⊥) → step Z X b c ≡ done Z X b c
  unfolding step
  accepts c free =
      ap (λ n. settle n b (done Z X b c))
      (sym (step_number Z X b c) ∙ (table Z X b c).none.1 (λ k d. free d.0 d.2))

  -- Local at j: j's own clock grows by 1. Send: as local. The rest of its row stays.
  pub grown_own : (j : ℕ) → grown b j j ≡ record { phase = (own b j).phase; clock = (own b j).clock + 1 }
  grown_own j = put_same (b.seat j).row j _

  pub grown_other : (j k : ℕ) → (k ≡ j → ⊥) → grown b j k ≡ (b.seat j).row k
  grown_other j k ne = put_other (b.seat j).row j _ k ne

  -- Receive at j: its own clock grows by 1; for every other desk, the later of the two pairs is taken.
  pub merged_own : (j : ℕ) (w : Row) → merged Z b j w j ≡ record { phase = (own b j).phase; clock = (own b j).clock + 1 }
  merged_own j w = put_same (λ k. (taken Z b j w k).pair) j _

  pub merged_other : (j : ℕ) (w : Row) (k : ℕ) → (k ≡ j → ⊥)
      → merged Z b j w k ≡ (later Z (own b k).phase ((b.seat j).row k) (w k)).pair
  merged_other j w k ne = put_other (λ k. (taken Z b j w k).pair) j _ k ne

  pub learns_changed : (j : ℕ) (w : Row) (k : ℕ) → (k ≡ j → ⊥) → learns Z b j w k ≡ (taken Z b j w k).changed
  learns_changed j w k ne = ap (λ t. not t && (taken Z b j w k).changed) (ne_eqb k j ne)

  -- It learns of another desk exactly where the pair in the row that it leaves differs from the one before; of itself never.
  pub learns_other : (j : ℕ) (w : Row) (k : ℕ) → (k ≡ j → ⊥)
      → (learns Z b j w k ≡ true) ↔ (merged Z b j w k ≡ (b.seat j).row k → ⊥)
  learns_other j w k ne =
      let d = changed_differs Z (own b k).phase ((b.seat j).row k) (w k) in
      let e = learns_changed j w k ne in
      let r = merged_other j w k ne in
      (λ t q. d.0 (sym e ∙ t) (sym r ∙ q), λ f. e ∙ d.1 (λ q. f (r ∙ q)))

  pub learns_own : (j : ℕ) (w : Row) → learns Z b j w j ≡ false
  learns_own j w = ap (λ t. not t && (taken Z b j w j).changed) (eq-eqb j j refl)

  -- So of at most D-1 desks, and of none exactly where every other desk's pair stays.
  pub learnt_most : (j : ℕ) (w : Row) → j < X.desks → learnt Z X b j w < X.desks
  learnt_most j w l = count_but X.desks (learns Z b j w) j l (learns_own j w)

  pub learnt_seven : (j : ℕ) (w : Row) → j < X.desks → permits X ≡ true → learnt Z X b j w ≤ 7
  learnt_seven j w l e = let d = (permitted X e).few in omega (arith, learnt_most j w l, d)

  pub learnt_none : (j : ℕ) (w : Row)
      → (learnt Z X b j w ≡ 0) ↔ ((k : ℕ) → k < X.desks → (k ≡ j → ⊥) → merged Z b j w k ≡ (b.seat j).row k)
  learnt_none j w = (
    λ z k l ne. merged_other j w k ne
        ∙ later_stays Z _ _ (w k) (sym (learns_changed j w k ne) ∙ count_zero X.desks (learns Z b j w) z k l),
    λ f. zero_count X.desks (learns Z b j w) (λ k l. off k l f (eq_or_ne k j)),
  )
    where
      off : (k : ℕ) → k < X.desks → ((k : ℕ) → k < X.desks → (k ≡ j → ⊥) → merged Z b j w k ≡ (b.seat j).row k)
          → (k ≡ j) ⊎ (k ≡ j → ⊥) → learns Z b j w k ≡ false
      off k l f (inl q) = ap (λ i. learns Z b j w i) q ∙ learns_own j w
      off k l f (inr ne) = go (learns Z b j w k) refl
        where
          go : (t : Bool) → learns Z b j w k ≡ t → t ≡ false
          go true t = absurd ((learns_other j w k ne).0 t (f k l ne))
          go false t = refl

  -- Reset at j: its own phase grows by 1 and its own clock becomes 0.
  pub turned_own : (j : ℕ) → turned Z b j j ≡ record { phase = Z.next (own b j).phase; clock = 0 }
  turned_own j = put_same (b.seat j).row j _

  pub turned_other : (j k : ℕ) → (k ≡ j → ⊥) → turned Z b j k ≡ (b.seat j).row k
  turned_other j k ne = put_other (b.seat j).row j _ k ne

  -- All four mark the seat started and answer a stamp, owner and row, receive of how many desks it learns, and a kept event its slot;
  -- the row stays in the seat.
  abbrev result : Act → Result
  result c = done Z X b c

  abbrev Leaves : ℕ → Row → Act → Type 0
  Leaves j r c = (result c).tables.seat j ≡ record { started = true; row = r }

  pub local_leaves : (j : ℕ) (q : Bool)
      → ((result (local j q)).answer ≡ accepted (made none j (grown b j) none (slot_for b q))) × Leaves j (grown b j) (local j q)
  unfolding done
  local_leaves j q = (refl, let e = eq-eqb j j refl in cc)

  pub send_leaves : (j k : ℕ) (q : Bool)
      → ((result (send j k q)).answer ≡ accepted (made (some (free_mail b)) j (grown b j) none (slot_for b q)))
      × Leaves j (grown b j) (send j k q)
  unfolding done
  send_leaves j k q = (refl, let e = eq-eqb j j refl in cc)

  pub receive_leaves : (j p : ℕ) (q : Bool) (w : Held) → b.mail p ≡ some w
      → ((result (receive j p q)).answer ≡ accepted (made none j (merged Z b j w.row) (some (learnt Z X b j w.row)) (slot_for b q)))
      × Leaves j (merged Z b j w.row) (receive j p q)
  unfolding done
  receive_leaves j p q w e = rw e (refl, let e = eq-eqb j j refl in cc)

  pub reset_leaves : (j : ℕ) (q : Bool)
      → ((result (reset j q)).answer ≡ accepted (made none j (turned Z b j) none (slot_for b q))) × Leaves j (turned Z b j) (reset j q)
  unfolding done
  reset_leaves j q = (refl, let e = eq-eqb j j refl in cc)

  -- Send: j's row goes into the lowest free mail place.
  pub sent_waits : (j k : ℕ) (q : Bool)
      → (result (send j k q)).tables.mail (free_mail b) ≡ some record { by = j; to = k; row = grown b j }
  unfolding done
  sent_waits j k q = let e = eq-eqb (free_mail b) (free_mail b) refl in cc

  -- Receive: the place becomes free.
  pub received_free : (j p : ℕ) (q : Bool) → (result (receive j p q)).tables.mail p ≡ none
  unfolding done
  received_free j p q = let e = eq-eqb p p refl in cc

  -- An event that is kept puts the row that it leaves into the lowest free slot; one that is not gives no slot.
  pub kept_slot : (slot_for b true ≡ some (free_slot b)) × (slot_for b false ≡ none)
  kept_slot = (refl, refl)

  abbrev Shelved : ℕ → Row → Act → Type 0
  Shelved j r c = (result c).tables.shelf (free_slot b) ≡ some record { by = j; to = 0; row = r }

  pub kept_waits : (j k p : ℕ) (w : Held) → b.mail p ≡ some w
      → Shelved j (grown b j) (local j true) × Shelved j (grown b j) (send j k true)
      × Shelved j (merged Z b j w.row) (receive j p true) × Shelved j (turned Z b j) (reset j true)
  unfolding done
  kept_waits j k p w m = let e = eq-eqb (free_slot b) (free_slot b) refl in (cc, cc, rw m cc, cc)

  -- Drop and discard free a slot or a place, and answer nothing more.
  pub dropped_free : (s : ℕ) → ((result (drop s)).answer ≡ accepted nothing) × ((result (drop s)).tables.shelf s ≡ none)
  unfolding done
  dropped_free s = (refl, let e = eq-eqb s s refl in cc)

  pub discarded_free : (p : ℕ) → ((result (discard p)).answer ≡ accepted nothing) × ((result (discard p)).tables.mail p ≡ none)
  unfolding done
  discarded_free p = (refl, let e = eq-eqb p p refl in cc)

  -- The difference between two used slots is lag of e's entry minus lag of f's entry, at e's desk; e's own clock decides its reach.
  pub gap_is : (s t : ℕ) (e f : Held) → b.shelf s ≡ some e → b.shelf t ≡ some f
      → gap_from Z X b s t ≡ near X (e.row e.by).clock (lag_gap Z (own b e.by).phase (e.row e.by) (f.row e.by))
  gap_is s t e f p q = rw (p, q)

  -- The questions tell of the stamps in their slots: whether e is before f, how it stands to f, its row, its owner and row.
  module _ (s t : ℕ) (e f : Held) (p : b.shelf s ≡ some e) (q : b.shelf t ≡ some f) where
    pub before_tells : (result (before s t)).answer
        ≡ accepted (says (is_before (gap_in (gap_from Z X b s t)) e.by f.by e.row f.row))
    unfolding done ask_tells
    before_tells = λ i. accepted (says (is_before (gap_in (gap_from Z X b s t)) (by_in (p i)) (by_in (q i)) (row_in (p i)) (row_in (q i))))

    pub compare_tells : (result (compare s t)).answer
        ≡ accepted (relates (relation (gap_in (gap_from Z X b s t)) (gap_in (gap_from Z X b t s)) e.by f.by e.row f.row))
    unfolding done ask_tells
    compare_tells = λ i.
        let d = gap_in (gap_from Z X b s t) in
        let d' = gap_in (gap_from Z X b t s) in
        accepted (relates (relation d d' (by_in (p i)) (by_in (q i)) (row_in (p i)) (row_in (q i))))

  pub show_tells : (s : ℕ) (e : Held) → b.shelf s ≡ some e → (result (show s)).answer ≡ accepted (shows e.row)
  unfolding done ask_tells
  show_tells s e p = cc

  pub write_tells : (s room : ℕ) (e : Held) → b.shelf s ≡ some e → (result (write s room)).answer ≡ accepted (stamp e.by e.row)
  unfolding done ask_tells
  write_tells s room e p = cc

-- Before: for one owner, yes when f's pair is strictly later; for different owners, when it is e's own pair or later.
pub one_owner : (d : Gap) (j : ℕ) (e f : Row) → is_before d j j e f ≡ later_by d (e j).clock (f j).clock
one_owner d j e f = rw (eq-eqb j j refl, mathlib.Core.Bool.or-false)

pub two_owners : (d : Gap) (j k : ℕ) (e f : Row) → (j ≡ k → ⊥)
    → is_before d j k e f ≡ (later_by d (e j).clock (f j).clock || same_by d (e j).clock (f j).clock)
two_owners d j k e f ne = rw (ne_eqb j k ne)

-- Compare asks both ways. Same means the same owner, d of 0 and equal clocks; both ways yes is crossed.
module _ (d d' : Gap) (j k : ℕ) (e f : Row) where
  pub says_same : j ≡ k → same_by d (e j).clock (f j).clock ≡ true → relation d d' j k e f ≡ Same
  says_same q s = let t = eq-eqb j k q in cc

  module _ (other : (eqb j k && same_by d (e j).clock (f j).clock) ≡ false) where
    pub says_before : is_before d j k e f ≡ true → is_before d' k j f e ≡ false → relation d d' j k e f ≡ Before
    says_before p q = cc

    pub says_after : is_before d j k e f ≡ false → is_before d' k j f e ≡ true → relation d d' j k e f ≡ After
    says_after p q = cc

    pub says_concurrent : is_before d j k e f ≡ false → is_before d' k j f e ≡ false → relation d d' j k e f ≡ Concurrent
    says_concurrent p q = cc

    pub says_crossed : is_before d j k e f ≡ true → is_before d' k j f e ≡ true → relation d d' j k e f ≡ Crossed
    says_crossed p q = cc
