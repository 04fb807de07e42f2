-- A picture of all desks, in any arithmetic: yes exactly where no two desks are at odds; the two that are named are, and no lower two.
-- Assumes nothing.
--   at_odds_is      of two used slots: either stamp's pair for the other's desk is later than the other's own
--   picture_tells   what an accepted picture answers
--   picture_either  it is yes, or two desks are named
--   picture_yes     yes exactly where no two desks are at odds
--   picture_names   the desks that are named: the lower first, at odds, and no lower two are
use mathlib.Core.Path.{◌≡◌, refl, ap, sym, subst, ◌∙◌}
use mathlib.Core.Bool.{Bool, true, false, ◌&&◌, ◌||◌, false≢true}
use mathlib.Core.Option.{some}
use mathlib.Core.List.{List}
use mathlib.Core.Logic.{◌⊎◌, inl, inr, ◌↔◌}
use Prim.Native.Nat.{ℕ, ◌≤◌, ◌<◌}
use native.Mathlib.Omega.{arith}
use lib.Dec.{ltb}
use lib.ListN.{length}
use borrow.Author.Tests.{ltb-true, ltb-false, lt-ltb, le-ltb}
use Rattle.tools.specs.Tests.{pick, any}
use Rattle.tools.proofs.Tests.{and_true_l, and_true_r, any_true, any_false, Lowest, lowest_is, lt_or_le}
use Rattle.tools.proofs.Tables.{some_is, none_some}
use Rattle.ring.specs.Phases.{Phases, is_later}
use Rattle.rules.specs.Setups.{Setup}
use Rattle.rules.specs.Model.{Held, Tables, Odds, Value, picture, says, names, accepted, own, by_in, row_in}
use Rattle.rules.specs.Model.{at_odds, chosen, of_two, first_odd, second_odd, pictured, ask_tells, done}

module _ (Z : Phases) (b : Tables) where
  pub at_odds_is : (s t : ℕ) (e f : Held) → b.shelf s ≡ some e → b.shelf t ≡ some f
      → at_odds Z b s t
      ≡ (is_later Z (own b e.by).phase (f.row e.by) (e.row e.by)
      || is_later Z (own b f.by).phase (e.row f.by) (f.row f.by))
  at_odds_is s t e f p q = λ i.
      let j = by_in (p i) in
      let k = by_in (q i) in
      is_later Z (own b j).phase (row_in (q i) j) (row_in (p i) j) || is_later Z (own b k).phase (row_in (p i) k) (row_in (q i) k)

  pub picture_tells : (X : Setup) (l : List ℕ) → (done Z X b (picture l)).answer ≡ accepted (pictured Z b l)
  unfolding done ask_tells
  picture_tells X l = refl

  module _ (l : List ℕ) where
    abbrev odd : ℕ → ℕ → Bool
    odd i k = at_odds Z b (chosen l i) (chosen l k)

    abbrev first : ℕ
    first = first_odd Z b l

    abbrev second : ℕ
    second = second_odd Z b l

    -- no two desks of a lower one than the first
    below : (i k : ℕ) → i < k → k < length l → i < first → odd i k ≡ false
    below i k m n q =
        let f = any_false (length l) (of_two (at_odds Z b) l i)
        ((lowest_is (length l) (λ i. any (length l) (of_two (at_odds Z b) l i))).2 i q) k n in
        ap (λ t. t && odd i k) (sym (lt-ltb i k m)) ∙ f

    -- none with the first below the second
    between : (k : ℕ) → first < k → k < length l → k < second → odd first k ≡ false
    between k m n q =
        ap (λ t. t && odd first k) (sym (lt-ltb first k m)) ∙ (lowest_is (length l) (of_two (at_odds Z b) l first)).2 k q

    -- where there is a first, it is at odds with the second
    record Found : Type 0 where
      order : first < second
      there : second < length l
      odds : odd first second ≡ true

    found : first < length l → Found
    found h =
        let low = lowest_is (length l) (of_two (at_odds Z b) l first) in
        let t = any_true (length l) (of_two (at_odds Z b) l first)
        ((lowest_is (length l) (λ i. any (length l) (of_two (at_odds Z b) l i))).1 h) in
        let n : second < length l = within low t in
        let e = low.1 n in
        record { order = ltb-true _ _ (and_true_l _ _ e); there = n; odds = and_true_r (ltb first second) _ e }
      where
        within : Lowest (length l) (of_two (at_odds Z b) l first) second
            → ((k : ℕ) × (k < length l) × (of_two (at_odds Z b) l first k ≡ true)) → second < length l
        within low (k, n, e) = go (lt_or_le second (length l))
          where
            go : (second < length l) ⊎ (length l ≤ second) → second < length l
            go (inl m) = m
            go (inr m) = absurd (false≢true (sym (low.2 k (omega arith)) ∙ e))

    abbrev said : Bool → Value
    said t = pick t (names first second) (says true)

    pub picture_either : (pictured Z b l ≡ says true) ⊎ ((i : ℕ) × (k : ℕ) × (pictured Z b l ≡ names i k))
    unfolding pictured
    picture_either = go (ltb first (length l))
      where
        go : (t : Bool) → (said t ≡ says true) ⊎ ((i : ℕ) × (k : ℕ) × (said t ≡ names i k))
        go true = inr (first, second, refl)
        go false = inl refl

    pub picture_yes : (pictured Z b l ≡ says true) ↔ ((i k : ℕ) → i < k → k < length l → odd i k ≡ false)
    unfolding pictured
    picture_yes = (λ e. none_odd (ltb first (length l)) refl e, λ f. yes_said f (lt_or_le first (length l)))
      where
        none_odd : (t : Bool) → ltb first (length l) ≡ t → said t ≡ says true
            → (i k : ℕ) → i < k → k < length l → odd i k ≡ false
        none_odd true q e i k m n = absurd (none_some (sym (ap (λ (v : Value). v.odds) e)))
        none_odd false q e i k m n = below i k m n (omega (arith, ltb-false first (length l) q))

        yes_said : ((i k : ℕ) → i < k → k < length l → odd i k ≡ false) → (first < length l) ⊎ (length l ≤ first)
            → said (ltb first (length l)) ≡ says true
        yes_said f (inl h) = let o = found h in absurd (false≢true (sym (f first second o.order o.there) ∙ o.odds))
        yes_said f (inr h) = ap said (le-ltb first (length l) h)

    abbrev pub Named : ℕ → ℕ → Type 0
    Named i k =
        (i < k) × (k < length l) × (odd i k ≡ true)
        × ((i' k' : ℕ) → i' < k' → k' < length l → (i' < i) ⊎ ((i' ≡ i) × (k' < k)) → odd i' k' ≡ false)

    pub picture_names : (i k : ℕ) → pictured Z b l ≡ names i k → Named i k
    unfolding pictured
    picture_names i k = go (ltb first (length l)) refl
      where
        lower : (i' k' : ℕ) → i' < k' → k' < length l → (i' < first) ⊎ ((i' ≡ first) × (k' < second)) → odd i' k' ≡ false
        lower i' k' m n (inl q) = below i' k' m n q
        lower i' k' m n (inr (e, q)) = ap (λ j. odd j k') e ∙ between k' (subst (λ j. j < k') e m) n q

        go : (t : Bool) → ltb first (length l) ≡ t → said t ≡ names i k → Named i k
        go true q e =
            let o = some_is (ap (λ (v : Value). v.odds) e) in
            let f = found (ltb-true _ _ q) in
            subst (λ (d : Odds). Named d.lower d.higher) o (f.order, f.there, f.odds, lower)
        go false q e = absurd (none_some (ap (λ (v : Value). v.odds) e))
