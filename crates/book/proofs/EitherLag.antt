-- A sound book is asked for lags of phases of the ring alone: so two lags that are one there make the same test of all bytes, whatever
-- they say elsewhere. The handbook's and the remainder are two such.
-- Assumes nothing.
use Prim.Native.Nat.{ℕ, ◌*◌, ◌≤◌, ◌<◌}
use mathlib.Core.Path.{◌≡◌, refl, ap, sym, fun_ext}
use mathlib.Core.Bool.{Bool, true, false}
use mathlib.Core.List.{List}
use mathlib.Core.Logic.{⊎_elim}
use native.Mathlib.Omega.{arith}
use borrow.Author.Tests.{ltb-true, lt-ltb, le-ltb}
use Rattle.tools.specs.Tests.{all_of, all_below}
use Rattle.tools.proofs.Tests.{lt_or_le, each, all_at}
use Rattle.ring.specs.Phases.{Lag, Pair, lag_of}
use Rattle.ring.specs.Remainder.{remainder_of}
use Rattle.ring.proofs.Ring.{lag_remainder}
use Rattle.rules.specs.Setups.{Setup}
use Rattle.rules.proofs.Setups.{permitted}
use Rattle.book.specs.Layout.{Fields, fields, setup_of, records, seats}
use Rattle.book.specs.Sound.{pair_ok, column_ok, row_ok, seat_near, seat_ok, mail_ok, slot_ok, record_ok, record_sound}
use Rattle.book.specs.Sound.{sound_by, sound}

-- two lags that are one on the ring
abbrev pub OneOnRing : Lag → Lag → Type 0
OneOnRing g h = (P own v : ℕ) → own < P → v < P → g P own v ≡ h P own v

-- the own phase of each desk is a phase of the ring
abbrev OwnOnRing : Fields → Type 0
OwnOnRing f = (j : ℕ) → j < f.setup.desks → ((f.at j).row j).phase < f.setup.phases

-- as it is where the book is sound, by whatever lag
own_on_ring : (lag : Lag) (b : List ℕ) → sound_by lag b ≡ true → OwnOnRing (fields b)
unfolding sound_by record_sound record_ok seat_ok seat_near row_ok column_ok pair_ok
own_on_ring lag b s j l =
    let few = (permitted (setup_of b) (each _ s 2)).few in
    let own = all_at (record_sound lag b) records j (omega arith) (each _ s 3) in
    let seat = rw (record_ok, lt-ltb j 8 (omega arith)) at (each _ own 2) in
    let near = rw (seat_near, lt-ltb j (setup_of b).desks l) at (each _ seat 3) in
    let column = all_at (column_ok lag (fields b) (setup_of b).seat_lag j) 8 j (omega arith) near in
    ltb-true _ _ (each _ (rw (column_ok, pair_ok, lt-ltb j (setup_of b).desks l) at column) 0)

module _ (g h : Lag) (one : OneOnRing g h) where
  pair_either : (X : Setup) (B o j : ℕ) (q : Pair) → (j < X.desks → o < X.phases) → pair_ok g X B o j q ≡ pair_ok h X B o j q
  unfolding pair_ok all_of
  pair_either X B o j q on =
      ⊎_elim
      (λ (l : j < X.desks).
      ⊎_elim (λ (m : q.phase < X.phases). let e = one X.phases o q.phase (on l) m in cc)
      (λ (m : X.phases ≤ q.phase). rw (pair_ok, lt-ltb j X.desks l, le-ltb q.phase X.phases m))
      (lt_or_le q.phase X.phases))
      (λ (l : X.desks ≤ j). rw (pair_ok, le-ltb j X.desks l)) (lt_or_le j X.desks)

  row_either : (f : Fields) → OwnOnRing f → (B k : ℕ) → row_ok g f B k ≡ row_ok h f B k
  unfolding row_ok column_ok
  row_either f on B k =
      ap (all_below seats) (fun_ext (λ j. pair_either f.setup B ((f.at j).row j).phase j ((f.at k).row j) (on j)))

  record_either : (f : Fields) → OwnOnRing f → (k : ℕ) → record_ok g f k ≡ record_ok h f k
  unfolding record_ok seat_ok seat_near mail_ok slot_ok
  record_either f on k =
      let seat = row_either f on f.setup.seat_lag k in
      let mail = row_either f on (2 * f.setup.seat_lag) k in
      let slot = row_either f on f.setup.shelf_lag k in
      cc

  one_way : (b : List ℕ) → sound_by g b ≡ true → sound_by h b ≡ true
  unfolding sound_by record_sound
  one_way b s =
      let e : record_sound g b ≡ record_sound h b
      = fun_ext (λ k. let r = record_either (fields b) (own_on_ring g b s) k in cc) in
      cc

both_ways : (t u : Bool) → (t ≡ true → u ≡ true) → (u ≡ true → t ≡ true) → t ≡ u
both_ways true u f g = sym (f refl)
both_ways false true f g = g refl
both_ways false false f g = refl

pub sound_either : (g h : Lag) → OneOnRing g h → (b : List ℕ) → sound_by g b ≡ sound_by h b
sound_either g h one b =
    both_ways (sound_by g b) (sound_by h b) (one_way g h one b) (one_way h g (λ P own v o l. sym (one P own v o l)) b)

-- NO BOOK IS JUDGED OTHERWISE: bytes are sound by the handbook's lag exactly where they are by the remainder
pub sound_remainder : (b : List ℕ) → sound b ≡ sound_by remainder_of b
sound_remainder = sound_either lag_of remainder_of lag_remainder
