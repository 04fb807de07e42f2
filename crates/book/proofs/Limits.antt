-- The limits that the bytes of a book tell.
-- Assumes nothing.
use Prim.Native.Nat.{ℕ, ◌<◌, ◌≤◌}
use mathlib.Core.Path.{◌≡◌, refl, sym, ◌∙◌}
use mathlib.Core.Bool.{Bool, true, false, ◌&&◌}
use mathlib.Core.List.{List}
use native.Mathlib.Omega.{arith}
use borrow.Author.Tests.{eq-eqb, lt-ltb}
use lib.ListN.{length}
use lib.Seq.{get_or-take, length-take-le}
use Rattle.tools.specs.Tests.{all_of, all_below}
use Rattle.tools.specs.Lists.{byte, tab}
use Rattle.tools.proofs.Tests.{each, all_at, all_in, and_false}
use Rattle.tools.proofs.Lists.{length_tab, tab_at}
use Rattle.ring.specs.Phases.{lag_of}
use Rattle.rules.specs.Setups.{limit, limit_ok, in_range, related, limited, permits}
use Rattle.rules.proofs.Setups.{ranged}
use Rattle.book.specs.Layout.{records, seats, tag_b_spot, spot, limits_of, setup_of, fields}
use Rattle.book.specs.Sound.{seat_limit, seat_ok, record_ok, record_sound}

module _ (b : List ℕ) where
  -- one by one
  pub limit_told : (j : ℕ) → j < 8 → j < byte b 2 → limit (setup_of b) j ≡ byte b (spot j tag_b_spot)
  limit_told j l m =
      get_or-take (byte b 2) (tab 0 seats (λ i. byte b (spot i tag_b_spot))) j 0 m ∙ tab_at seats (λ i. byte b (spot i tag_b_spot)) j l

  limits_long : byte b 2 ≤ 8 → length (limits_of b) ≡ byte b 2
  limits_long few =
      length-take-le (byte b 2) (tab 0 seats (λ i. byte b (spot i tag_b_spot)))
      (rw (length_tab 0 seats (λ i. byte b (spot i tag_b_spot))) few)

  -- seats in order have a limit in its range for each desk
  seat_limited : all_below records (record_sound lag_of b) ≡ true → (j : ℕ) → j < 8 → seat_limit (fields b) j ≡ true
  unfolding record_sound record_ok seat_ok
  seat_limited h j l =
      let r = each _ (all_at (record_sound lag_of b) records j (omega arith) h) 2 in
      each _ (rw (record_ok, lt-ltb j 8 l) at r) 1

  -- so where one has none, not all records are sound
  pub limits_first : all_below seats (seat_limit (fields b)) ≡ false → all_below records (record_sound lag_of b) ≡ false
  limits_first e = go (all_below records (record_sound lag_of b)) refl
    where
      go : (t : Bool) → all_below records (record_sound lag_of b) ≡ t → t ≡ false
      go true h = sym (all_in (seat_limit (fields b)) seats (seat_limited h)) ∙ e
      go false h = refl

  seats_limited : byte b 2 ≤ 8 → all_below records (record_sound lag_of b) ≡ true → limited (setup_of b) ≡ true
  unfolding limited seat_limit
  seats_limited few h =
      rw (limited, eq-eqb (length (limits_of b)) (byte b 2) (limits_long few))
      (all_in (λ j. limit_ok (limit (setup_of b) j)) (byte b 2) (λ j l. rw (limit_told j (omega arith) l) (at j l)))
    where
      at : (j : ℕ) → j < byte b 2 → limit_ok (byte b (spot j tag_b_spot)) ≡ true
      at j l = rw (seat_limit, lt-ltb j (byte b 2) l) at (seat_limited h j (omega arith))

  -- so the numbers alone are left to be asked
  pub permits_told : ((in_range (setup_of b) && related (setup_of b)) && all_below records (record_sound lag_of b))
      ≡ (permits (setup_of b) && all_below records (record_sound lag_of b))
  unfolding permits all_of
  permits_told = go (in_range (setup_of b)) (related (setup_of b)) (all_below records (record_sound lag_of b)) refl refl
    where
      go : (t u v : Bool) → in_range (setup_of b) ≡ t → all_below records (record_sound lag_of b) ≡ v
          → ((t && u) && v) ≡ ((t && (u && limited (setup_of b))) && v)
      go true true true e h = rw (seats_limited (ranged (setup_of b) e).desks.1 h)
      go true true false e h = sym (and_false (limited (setup_of b)))
      go true false v e h = refl
      go false u v e h = refl
