-- What the bytes say of a place or slot, and of a seat, when a reason is asked for.
-- Assumes nothing.
use Prim.Native.Nat.{ℕ, ◌+◌, ◌-◌, ◌<◌, ◌≤◌}
use mathlib.Core.Path.{◌≡◌, refl, sym, ap, ◌∙◌}
use mathlib.Core.Bool.{Bool, true, false, not, ◌&&◌, false≢true}
use mathlib.Core.Option.{none, some}
use mathlib.Core.List.{List}
use native.Mathlib.Omega.{arith}
use borrow.Author.Tests.{lt-ltb, le-ltb, ltb-true, eqb-false}
use lib.Dec.{ltb, eqb}
use Rattle.tools.specs.Tests.{pick}
use Rattle.tools.specs.Lists.{byte}
use Rattle.tools.proofs.Tests.{and_true, eq_by, and_true_r, not_off}
use Rattle.ring.specs.Phases.{Pair, lag_of}
use Rattle.rules.specs.Model.{Row, used, to_in, no_desk, lags}
use Rattle.rules.specs.Calls.{ring_of}
use Rattle.book.specs.Layout.{tag_a_spot, tag_b_spot, mail_from, spot, row_at, fields, setup_of}
use Rattle.book.specs.Sound.{sound}
use Rattle.book.specs.Codec.{read_held}
use Rattle.book.specs.Numbers.{tables_of}
use Rattle.book.proofs.Told.{own_at, seat_row, read_at}
use Rattle.book.proofs.Soundness.{held_in, sound_mail}
use Rattle.rows.specs.Rows.{AtDesk}
use Rattle.rows.proofs.Rows.{at_desk}
use Rattle.reasons.specs.Held.{held_at, used_at, lag_in, lags_at, seat_lags_at}

pub desk_there : (s : List ℕ) (j : ℕ) → sound s ≡ true → no_desk (setup_of s) j ≡ false → AtDesk s j
desk_there s j h n = at_desk s j h (ltb-true _ _ (not_off _ n))

module _ (s : List ℕ) (a p : ℕ) where
  pub none_beyond : 32 ≤ p → false ≡ used_at s a p
  none_beyond l = rw (le-ltb p 32 l)

  pub used_below : used_at s a p ≡ true → p < 32
  used_below u = ltb-true p 32 (and_true_r (used (held_at s a p)) (ltb p 32) u)

  module _ (l : p < 32) where
    pub used_held : used_at s a p ≡ used (held_at s a p)
    used_held = rw (lt-ltb p 32 l) (and_true (used (read_held ((fields s).at (a + p)))))

    -- a place is used when its first tag is not 0
    pub used_tag : not (eqb (byte s (spot (a + p) tag_a_spot)) 0) ≡ used_at s a p
    used_tag = sym (used_held ∙ rw (lt-ltb p 32 l) (go (eqb (byte s (spot (a + p) tag_a_spot)) 0)))
      where
        go : (t : Bool)
            → used (pick t none (some (held_in s (a + p)))) ≡ not t
        go true = refl
        go false = refl

    pub held_lags : (j : ℕ) → j < 8 → (B : ℕ) → (used_at s a p && eqb (lag_in s j (a + p)) B) ≡ lags_at s j B a p
    held_lags j lj B = rw (sym used_tag, lt-ltb p 32 l) (go (eqb (byte s (spot (a + p) tag_a_spot)) 0))
      where
        go : (t : Bool)
            → (not t && eqb (lag_in s j (a + p)) B)
            ≡ lags (ring_of (setup_of s)) (tables_of s) j B
            (pick t none (some (held_in s (a + p))))
        go true = refl
        go false = rw (own_at s j lj, read_at (row_at s (a + p)) j lj)

-- waiting mail names its addressee plus 1
pub addressed : (s : List ℕ) → sound s ≡ true → (p : ℕ) → p < 32 → used_at s 8 p ≡ true → (j : ℕ)
    → eqb (byte s (spot (mail_from + p) tag_b_spot)) (j + 1) ≡ eqb (to_in ((tables_of s).mail p)) j
addressed s h p l u j = rw (lt-ltb p 32 l) (go (eqb (byte s (spot (mail_from + p) tag_a_spot)) 0) refl)
  where
    go : (t : Bool) → eqb (byte s (spot (mail_from + p) tag_a_spot)) 0 ≡ t
        → eqb (byte s (spot (mail_from + p) tag_b_spot)) (j + 1)
        ≡ eqb (to_in (pick t none (some (held_in s (mail_from + p))))) j
    go true e = absurd (false≢true (sym (sym (used_tag s 8 p l) ∙ ap not e) ∙ u))
    go false e =
        let some_to = (sound_mail s h p l).some_to (eqb-false (byte s (spot (mail_from + p) tag_a_spot)) 0 e) in
        eq_by (byte s (spot (mail_from + p) tag_b_spot)) (j + 1) (byte s (spot (mail_from + p) tag_b_spot) - 1) j (λ q. omega arith)
        (λ q. omega arith)

pub seat_lags_lem : (s : List ℕ) (j k : ℕ) → j < 8 → k < 8
    → (not (eqb k j) && eqb (lag_in s j k) (byte s 5)) ≡ seat_lags_at s j k
seat_lags_lem s j k lj lk =
    let o = ap (λ (q : Pair). q.phase) (own_at s j lj) in
    let v = ap (λ (r : Row). (r j).phase) (seat_row s k lk) ∙ ap (λ (q : Pair). q.phase) (read_at (row_at s k) j lj) in
    sym (λ i. not (eqb k j) && eqb (lag_of (setup_of s).phases (o i) (v i)) (byte s 5))
