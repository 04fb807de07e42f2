-- What may asks of a summary, number by number.
-- Assumes nothing.
use Prim.Native.Nat.{ℕ, ◌+◌, ◌*◌, ◌≤◌, ◌<◌}
use mathlib.Core.Path.{◌≡◌, refl, sym, ◌∙◌}
use mathlib.Core.Bool.{Bool, true, false, not, ◌&&◌}
use mathlib.Core.List.{List, [], ◌∷◌}
use lib.Dec.{leb, ltb, eqb}
use lib.ListN.{length}
use borrow.Author.Tests.{eq-eqb, ne_eqb, lt-ltb, le-ltb}
use Rattle.tools.specs.Tests.{pick, all_of, all_below}
use Rattle.tools.specs.Lists.{byte}
use Rattle.rules.specs.declared.SetupNumbers.{SetupNumbers}
use Rattle.rules.specs.Setups.{Setup, setup_with, permits}
use Rattle.rules.specs.Model.{Answer, refusal, accepted, foretells}
use Rattle.rules.specs.Labels.{settle_off}
use Rattle.summary.specs.Summary.{lags_at, lags_in}
use Rattle.summary.specs.May.{lags_ok, summary_ok, reset_number, may_of}

-- the bytes of a summary, clause by clause
module _ (X : Setup) (m : List ℕ) where
  abbrev all_keep : Bool
  all_keep =
      all_below 8
      (λ j.
      all_of (leb (byte m (lags_at j)) X.seat_lag ∷ leb (byte m (lags_at j + 1)) (2 * X.seat_lag) ∷ leb (byte m (lags_at j + 2)) X.shelf_lag ∷ []))

  ok_is : summary_ok X m ≡ (eqb (length m) 26 && (eqb (byte m 0) 0x53 && (eqb (byte m 1) 0x55 && all_keep)))
  unfolding summary_ok all_of lags_ok
  ok_is = refl

  pub short_summary : (length m ≡ 26 → ⊥) → false ≡ summary_ok X m
  short_summary ne = sym (ok_is ∙ (λ i. ne_eqb (length m) 26 ne i && (eqb (byte m 0) 0x53 && (eqb (byte m 1) 0x55 && all_keep))))

  pub whole_summary : length m ≡ 26 → (t : Bool) → t ≡ all_keep
      → (eqb (byte m 0) 0x53 && (eqb (byte m 1) 0x55 && t)) ≡ summary_ok X m
  whole_summary e t h =
      sym (ok_is ∙ (λ i. eq-eqb (length m) 26 e i && (eqb (byte m 0) 0x53 && (eqb (byte m 1) 0x55 && sym h i))))

-- a setup without its limits
abbrev pub numbers_in : Setup → SetupNumbers
numbers_in X =
    record {
      desks = X.desks;
      phases = X.phases;
      seat_lag = X.seat_lag;
      shelf_lag = X.shelf_lag;
      back = X.back;
      ahead = X.ahead;
    }

-- may, refusal by refusal; what is asked of a summary does not hang on the limits
module _ (s : SetupNumbers) (l m : List ℕ) (j : ℕ) where
  abbrev given_setup : Setup
  given_setup = setup_with s l

  -- the three tests, whatever they say
  abbrev asked : Bool → Bool → Bool → Answer
  asked t u v = settle_off (pick (not t) 2 (pick (not u) 3 (pick (not v) 21 0))) (foretells (reset_number given_setup (lags_in m j)))

  may_is : may_of given_setup m j ≡ asked (permits given_setup) (ltb j s.desks) (summary_ok (setup_with s []) m)
  unfolding may_of summary_ok lags_ok
  may_is = refl

  pub bad_setup : permits given_setup ≡ false → refusal 2 ≡ may_of given_setup m j
  bad_setup p = sym (may_is ∙ (λ i. asked (p i) (ltb j s.desks) (summary_ok (setup_with s []) m)))

  module _ (p : permits given_setup ≡ true) where
    pub no_desk_lem : s.desks ≤ j → refusal 3 ≡ may_of given_setup m j
    no_desk_lem n = sym (may_is ∙ (λ i. asked (p i) (le-ltb j s.desks n i) (summary_ok (setup_with s []) m)))

    module _ (n : j < s.desks) where
      pub bad_summary : summary_ok (setup_with s []) m ≡ false → refusal 21 ≡ may_of given_setup m j
      bad_summary b = sym (may_is ∙ (λ i. asked (p i) (lt-ltb j s.desks n i) (b i)))

      pub foretells_reset : summary_ok (setup_with s []) m ≡ true → (r : ℕ) → r ≡ reset_number (setup_with s []) (lags_in m j)
          → accepted (foretells r) ≡ may_of given_setup m j
      foretells_reset b r e =
          (λ i. accepted (foretells (e i))) ∙ sym (may_is ∙ (λ i. asked (p i) (lt-ltb j s.desks n i) (b i)))
