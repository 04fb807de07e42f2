-- DEMAND 2 off the book, and of start. Off the book d is r if r <= n-1, else r-P if P-r <= m-1, or <= m where e is a reset, else
-- there is none; newest is the one that is after the other, the first if they are the same, neither if they are concurrent or
-- crossed. An accepted start leaves a fresh book and answers no more.
-- Assumes nothing.
use mathlib.Core.Path.{◌≡◌, ap, sym, ◌∙◌, subst}
use mathlib.Core.Bool.{true}
use mathlib.Core.Option.{Option, none, some}
use mathlib.Core.Logic.{◌⊎◌, inl, inr}
use Prim.Native.Nat.{ℕ, ◌+◌, ◌-◌, ◌≤◌, ◌<◌}
use native.Mathlib.Omega.{arith}
use lib.Dec.{eqb}
use Rattle.tools.proofs.Tests.{lt_or_le}
use Rattle.ring.specs.Phases.{Phases, Gap, lag_of}
use Rattle.ring.proofs.Ring.{lag_below, ComesTo}
use Rattle.rules.specs.declared.Relation.TheVariants.{Before, After, Same, Concurrent, Crossed}
use Rattle.rules.specs.Setups.{Setup, permits}
use Rattle.rules.specs.Model.{Row, Label, nothing, relates, accepted, near}
use Rattle.rules.specs.Calls.{Book, start, fresh_book, call}
use Rattle.rules.specs.Labels.{or_else, gap_off, compare_off, First, Second, Neither, newest_by, newest_off}
use Rattle.rules.proofs.Setups.{Permitted}
use Rattle.rules.proofs.Reach.{back_event, back_reset, reach_own, near_in, near_ahead, near_back, near_some}

module _ (X : Setup) (ok : Permitted X) (j : ℕ) (e f : Row) where
  -- the phase in f minus the phase in e, on the ring
  abbrev r : ℕ
  r = lag_of X.phases (f j).phase (e j).phase

  -- e's own clock, by which it is a reset
  abbrev c : ℕ
  c = (e j).clock

  abbrev ahead : Gap
  ahead = record { up = r; down = 0 }

  abbrev back : Gap
  back = record { up = 0; down = X.phases - r }

  pub off_ahead : r < X.ahead → gap_off X j e f ≡ some ahead
  off_ahead l =
      ap (λ (g : Option Gap). or_else g (near X c back))
      (near_in X c ahead (omega (arith, l)) (omega (arith, reach_own X ok (eqb c 0))))

  -- as a way has it, which is asked for its reach later: the difference ahead, or the one back
  pub shown_ahead : r < X.ahead → gap_off X j e f ≡ near X c ahead
  shown_ahead l = off_ahead l ∙ sym (near_in X c ahead (omega (arith, l)) (omega (arith, reach_own X ok (eqb c 0))))

  -- r is beyond n-1
  module _ (g : X.ahead ≤ r) where
    pub shown_back : gap_off X j e f ≡ near X c back
    shown_back = ap (λ (o : Option Gap). or_else o (near X c back)) (near_ahead X c ahead (omega (arith, g)))

    forth : 0 < X.phases - r + X.ahead
    forth = omega (arith, ok.forth)

    pub off_back : 0 < c → X.phases - r < X.back → gap_off X j e f ≡ some back
    off_back n l = shown_back ∙ near_in X c back forth (omega (arith, l, back_event X c n))

    pub off_back_reset : c ≡ 0 → X.phases - r ≤ X.back → gap_off X j e f ≡ some back
    off_back_reset n l = shown_back ∙ near_in X c back forth (omega (arith, l, back_reset X c n))

    pub off_out : 0 < c → X.back ≤ X.phases - r → gap_off X j e f ≡ none
    off_out n l = shown_back ∙ near_back X c back (omega (arith, l, back_event X c n))

    pub off_out_reset : c ≡ 0 → X.back < X.phases - r → gap_off X j e f ≡ none
    off_out_reset n l = shown_back ∙ near_back X c back (omega (arith, l, back_reset X c n))

  -- and of two phases of the ring the difference that is read comes to r, and is within reach; there is no other, `reach_once`
  pub off_comes : (f j).phase < X.phases → (d : Gap) → gap_off X j e f ≡ some d → (near X c d ≡ some d) × ComesTo X.phases r d
  off_comes l d q = go (lt_or_le r X.ahead)
    where
      go : (r < X.ahead) ⊎ (X.ahead ≤ r) → (near X c d ≡ some d) × ComesTo X.phases r d
      go (inl u) =
          let z = sym (shown_ahead u) ∙ q in
          subst (λ (g : Gap). (near X c g ≡ some g) × ComesTo X.phases r g) (near_some X c ahead d z)
          (z ∙ ap some (sym (near_some X c ahead d z)), (0, 0, omega arith))
      go (inr u) =
          let z = sym (shown_back u) ∙ q in
          let b = lag_below X.phases (f j).phase (e j).phase l in
          subst (λ (g : Gap). (near X c g ≡ some g) × ComesTo X.phases r g) (near_some X c back d z)
          (z ∙ ap some (sym (near_some X c back d z)), (1, 0, omega (arith, b)))

module _ (X : Setup) (e f : Option Label) where
  pub newest_after : (compare_off X e f).value ≡ relates After → newest_off X e f ≡ First
  newest_after q = ap newest_by q

  pub newest_same : (compare_off X e f).value ≡ relates Same → newest_off X e f ≡ First
  newest_same q = ap newest_by q

  pub newest_before : (compare_off X e f).value ≡ relates Before → newest_off X e f ≡ Second
  newest_before q = ap newest_by q

  pub newest_concurrent : (compare_off X e f).value ≡ relates Concurrent → newest_off X e f ≡ Neither
  newest_concurrent q = ap newest_by q

  pub newest_crossed : (compare_off X e f).value ≡ relates Crossed → newest_off X e f ≡ Neither
  newest_crossed q = ap newest_by q

pub start_leaves : (Z : Setup → Phases) (b : Book) (X : Setup) → permits X ≡ true
    → call Z b (start X) ≡ record { answer = accepted nothing; book = fresh_book X }
unfolding call
start_leaves Z b X fair = rw fair
