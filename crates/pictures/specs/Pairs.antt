-- What every two stamps of a list show.
-- Assumes nothing.
--   far s l, odd s l   two places of the list l, the lower first: a stamp is out of reach from the other; the desks are at odds
--   found n p f        what goes with the lowest number below n that p holds of, by f; none where there is none
--   odds s l i         the i-th desk, and the lowest that it is at odds with
--   pairs_of s l i     OutOfReach where one of the pairs of place i with a higher one is out of reach, else the lowest at odds with it
--   pairs s l          OutOfReach where any two are out of reach, else the lowest two at odds
use Rattle.std.specs.Prelude.{ℕ, Bool, List, length, ltb, Option, None, Some, Result, Ok, Err}
use Rattle.tools.specs.Tests.{pick, any, lowest}
use Rattle.rules.specs.declared.Odds.{Odds}
use Rattle.rules.specs.declared.Refusal.{Refusal}
use Rattle.rules.specs.declared.Refusal.TheVariants.{OutOfReach}
use Rattle.rules.specs.Model.{too_far, at_odds, of_two}
use Rattle.rules.specs.Calls.{ring_of}
use Rattle.book.specs.Layout.{setup_of}
use Rattle.book.specs.Numbers.{tables_of}

abbrev pub far : List ℕ → List ℕ → ℕ → ℕ → Bool
far s l = of_two (too_far (ring_of (setup_of s)) (setup_of s) (tables_of s)) l

abbrev pub odd : List ℕ → List ℕ → ℕ → ℕ → Bool
odd s l = of_two (at_odds (ring_of (setup_of s)) (tables_of s)) l

abbrev pub found : {A : Type 0} → ℕ → (ℕ → Bool) → (ℕ → A) → Option A
found n p f = pick (ltb (lowest n p) n) (Some (f (lowest n p))) None

abbrev pub odds : List ℕ → List ℕ → ℕ → Odds
odds s l i = record { lower = i; higher = lowest (length l) (odd s l i) }

abbrev pub pairs_of : List ℕ → List ℕ → ℕ → Result (Option ℕ) Refusal
pairs_of s l i = pick (any (length l) (far s l i)) (Err OutOfReach) (Ok (found (length l) (odd s l i) (λ k. k)))

abbrev pub pairs : List ℕ → List ℕ → Result (Option Odds) Refusal
pairs s l =
    pick (any (length l) (λ i. any (length l) (far s l i))) (Err OutOfReach)
    (Ok (found (length l) (λ i. any (length l) (odd s l i)) (odds s l)))
