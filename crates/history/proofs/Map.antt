-- One simulation for every map of phases: where the map keeps the lags of a book and goes with next, every call on the mapped
-- book answers by the same number and leaves the mapped result.
-- Assumes nothing.
use mathlib.Core.Path.{◌≡◌, refl, ap, sym, ◌∙◌, fun_ext}
use mathlib.Core.Bool.{Bool, true, false, not, ◌&&◌, ◌||◌}
use mathlib.Core.Option.{Option, none, some}
use mathlib.Core.List.{List}
use Prim.Native.Nat.{ℕ, zero, suc, ◌*◌, ◌<◌}
use native.Mathlib.Omega.{arith}
use lib.Dec.{ltb, eqb}
use lib.ListN.{length}
use borrow.Author.Tests.{ltb-true}
use Rattle.ring.specs.Phases.{Phases, Pair, is_later}
use Rattle.rules.specs.Setups.{Setup}
use Rattle.tools.specs.Tests.{pick, any}
use Rattle.tools.specs.Tables.{put, put_at}
use Rattle.rules.specs.Model.{Row, Seat, Held, Tables, Question, ask_before, ask_compare, ask_picture, ask_show, ask_write}
use Rattle.rules.specs.Model.{Act, local, reset, send, receive, drop, discard, ask}
use Rattle.rules.specs.Model.{stamp, made, shows, accepted, step, done, ask_reasons, reasons, ask_tells, why, filing, telling}
use Rattle.rules.specs.Model.{grown, taken, merged, learns, learnt, turned, event, free_mail, slot_for, row_in, by_in, to_in}
use Rattle.rules.specs.Model.{used, own, lags, tick, turn}
use Rattle.rules.specs.Model.{picture, no_slot, chosen, of_two, too_far, wrong_owner, at_odds, first_odd, second_odd}
use Rattle.rules.specs.Model.{pictured, says, names}
use Rattle.rules.specs.Model.{settle, is_out, gap_held, near}
use Rattle.history.specs.Round.{map_pair, map_row, map_seat, map_held, map_tables, map_value, map_result}
use Rattle.tools.specs.Tables.{Each}
use Rattle.tools.proofs.Tests.{pick_ap, and_true_l, not_off, or_false_r, any_false, any_cong, lowest_cong, count_cong}
use Rattle.tools.proofs.Reasons.{clear}
use Rattle.tools.proofs.Tables.{put_both}
use Rattle.rules.specs.Model.{phases}
use Rattle.rules.proofs.Accepted.{no_receive, no_ask}

-- the lag of v at desk k is the same before and after the map
abbrev pub Keeps : Phases → Phases → (ℕ → ℕ → ℕ) → Tables → ℕ → ℕ → Type 0
Keeps Z Y φ b k v = Z.lag (φ k (phases b k)) (φ k v) ≡ Y.lag (phases b k) v

abbrev pub KeepsAll : Phases → Phases → (ℕ → ℕ → ℕ) → Tables → Held → Type 0
KeepsAll Z Y φ b w = (k : ℕ) → Keeps Z Y φ b k (w.row k).phase

pub record Agrees (Z Y : Phases) (φ : ℕ → ℕ → ℕ) (X : Setup) (b : Tables) : Type 0 where
  pub nexts : (k v : ℕ) → Z.next (φ k v) ≡ φ k (Y.next v)
  pub seats : (s k : ℕ) → s < X.desks → Keeps Z Y φ b k ((b.seat s).row k).phase
  pub mail : (p : ℕ) → Each (KeepsAll Z Y φ b) (b.mail p)
  pub shelf : (s : ℕ) → Each (KeepsAll Z Y φ b) (b.shelf s)

pub used_map : (φ : ℕ → ℕ → ℕ) (o : Option Held) → used (map_held φ o) ≡ used o
used_map φ none = refl
used_map φ (some w) = refl

to_map : (φ : ℕ → ℕ → ℕ) (o : Option Held) → to_in (map_held φ o) ≡ to_in o
to_map φ none = refl
to_map φ (some w) = refl

by_map : (φ : ℕ → ℕ → ℕ) (o : Option Held) → by_in (map_held φ o) ≡ by_in o
by_map φ none = refl
by_map φ (some m) = refl

clock_map : (φ : ℕ → ℕ → ℕ) (o : Option Held) (k : ℕ) → (row_in (map_held φ o) k).clock ≡ (row_in o k).clock
clock_map φ none k = refl
clock_map φ (some m) k = refl

row_map : (φ : ℕ → ℕ → ℕ) (o : Option Held) → used o ≡ true → row_in (map_held φ o) ≡ map_row φ (row_in o)
row_map φ none u = absurd (mathlib.Core.Bool.false≢true u)
row_map φ (some m) u = refl

module _ (Z Y : Phases) (φ : ℕ → ℕ → ℕ) (X : Setup) (b : Tables) (w : Agrees Z Y φ X b) where
  lag_held : (j B : ℕ) (o : Option Held) → Each (KeepsAll Z Y φ b) o
      → lags Z (map_tables φ b) j B (map_held φ o) ≡ lags Y b j B o
  lag_held j B none n = refl
  lag_held j B (some m) n = ap (λ l. eqb l B) (n j)

  gap_held_lem : (s t : ℕ) → gap_held Z X (map_tables φ b) (map_held φ (b.shelf s)) (map_held φ (b.shelf t))
      ≡ gap_held Y X b (b.shelf s) (b.shelf t)
  gap_held_lem s t = go (b.shelf s) (b.shelf t) (w.shelf s) (w.shelf t)
    where
      go : (e f : Option Held) → Each (KeepsAll Z Y φ b) e
          → Each (KeepsAll Z Y φ b) f
          → gap_held Z X (map_tables φ b) (map_held φ e) (map_held φ f) ≡ gap_held Y X b e f
      go none f p q = refl
      go (some e) none p q = refl
      go (some e) (some f) p q = ap (near X (e.row e.by).clock) (λ i. record { up = p e.by i; down = q e.by i })

  far_map : (s t : ℕ) → too_far Z X (map_tables φ b) s t ≡ too_far Y X b s t
  far_map s t = λ i. is_out (gap_held_lem s t i) || is_out (gap_held_lem t s i)

  ask_why : (q : Question) → why Z X (map_tables φ b) (ask q) ≡ why Y X b (ask q)
  unfolding reasons ask_reasons
  ask_why (ask_before s t) = rw (gap_held_lem s t) (simp used_map)
  ask_why (ask_compare s t) = rw (gap_held_lem s t, gap_held_lem t s) (simp used_map)
  ask_why (ask_picture l) =
      let n = length l in
      let slots = any_cong n (λ i. no_slot (map_tables φ b) (chosen l i)) (λ i. no_slot b (chosen l i))
      (λ i m. ap (λ u. not (u && ltb (chosen l i) 32)) (used_map φ (b.shelf (chosen l i)))) in
      let reach = any_cong n (λ i. any n (of_two (too_far Z X (map_tables φ b)) l i)) (λ i. any n (of_two (too_far Y X b) l i))
      (λ i m. any_cong n (of_two (too_far Z X (map_tables φ b)) l i) (of_two (too_far Y X b) l i)
      (λ k m. ap (λ u. ltb i k && u) (far_map (chosen l i) (chosen l k)))) in
      let owners = any_cong n (wrong_owner (map_tables φ b) l) (wrong_owner b l)
      (λ i m. ap (λ j. not (eqb j i)) (by_map φ (b.shelf (chosen l i)))) in
      λ i. pick (not (eqb n X.desks) || slots i) 5 (pick (reach i) 16 (pick (owners i) 18 0))
  ask_why (ask_show s) = simp used_map
  ask_why (ask_write s room) = simp used_map

  why_map : (c : Act) → why Z X (map_tables φ b) c ≡ why Y X b c
  unfolding reasons
  why_map (local j q) = simp used_map
  why_map (send j k q) = simp used_map
  why_map (receive j p q) = simp (used_map, to_map)
  why_map (reset j q) =
      let p = any_cong X.desks (λ s. not (eqb s j) && eqb (Z.lag (φ j (phases b j)) (φ j ((b.seat s).row j).phase)) X.seat_lag)
      (λ s. not (eqb s j) && eqb (Y.lag (phases b j) ((b.seat s).row j).phase) X.seat_lag)
      (λ s l. ap (λ x. not (eqb s j) && eqb x X.seat_lag) (w.seats s j l)) in
      let n = any_cong 32 (λ p. lags Z (map_tables φ b) j (2 * X.seat_lag) (map_held φ (b.mail p)))
      (λ p. lags Y b j (2 * X.seat_lag) (b.mail p)) (λ p l. lag_held j (2 * X.seat_lag) (b.mail p) (w.mail p)) in
      let r = any_cong 32 (λ p. lags Z (map_tables φ b) j X.shelf_lag (map_held φ (b.shelf p)))
      (λ p. lags Y b j X.shelf_lag (b.shelf p)) (λ p l. lag_held j X.shelf_lag (b.shelf p) (w.shelf p)) in
      rw (p, n, r) (simp used_map)
  why_map (drop s) = simp used_map
  why_map (discard p) = simp used_map
  why_map (ask q) = ask_why q

  -- a place or slot that is changed, where there is one
  put_at_held : (f : ℕ → Option Held) (o : Option ℕ) (v : Option Held)
      → put_at (λ p. map_held φ (f p)) o (map_held φ v) ≡ (λ p. map_held φ (put_at f o v p))
  put_at_held f o v = fun_ext (go o)
    where
      go : (o : Option ℕ) (p : ℕ) → put_at (λ p. map_held φ (f p)) o (map_held φ v) p ≡ map_held φ (put_at f o v p)
      go none p = refl
      go (some k) p = sym (pick_ap (map_held φ) (eqb p k) v (f p))

  slot_for_lem : (q : Bool) → slot_for (map_tables φ b) q ≡ slot_for b q
  slot_for_lem q = simp used_map

  event_map : (j : ℕ) (r r' : Row) (q : Bool) (p p' l l' : Option ℕ) (m m' : ℕ → Option Held)
      → r ≡ map_row φ r' → p ≡ p' → l ≡ l' → m ≡ (λ p. map_held φ (m' p))
      → event (map_tables φ b) j r q p l m ≡ map_result φ (event b j r' q p' l' m')
  event_map j r r' q p p' l l' m m' er ep el em =
      λ i. record {
        answer = accepted (made (ep i) j (er i) (el i) (slot_for_lem q i));
        tables = record { seat = seats i; mail = em i; shelf = shelf i };
      }
    where
      seats : ◌≡◌ {A = ℕ → Seat} (λ s. pick (eqb s j) (record { started = true; row = r }) (map_seat φ (b.seat s)))
          (λ s. map_seat φ (pick (eqb s j) (record { started = true; row = r' }) (b.seat s)))
      seats =
          fun_ext (λ s. ap (λ (r : Row). pick {A = Seat} (eqb s j) (record { started = true; row = r }) (map_seat φ (b.seat s))) er
          ∙ sym (pick_ap (map_seat φ) (eqb s j) (record { started = true; row = r' }) (b.seat s)))

      shelf : ◌≡◌ {A = ℕ → Option Held}
          (put_at (λ s. map_held φ (b.shelf s)) (slot_for (map_tables φ b) q) (some record { by = j; to = 0; row = r }))
          (λ s. map_held φ (put_at b.shelf (slot_for b q) (some record { by = j; to = 0; row = r' }) s))
      shelf =
          (λ i. put_at (λ s. map_held φ (b.shelf s)) (slot_for_lem q i) (some record { by = j; to = 0; row = er i }))
          ∙ put_at_held b.shelf (slot_for b q) (some record { by = j; to = 0; row = r' })

  -- rows that agree but for one column, where they agree too
  put_row : (r r' : Row) (j : ℕ) (q q' : Pair) → q ≡ map_pair (φ j) q' → ((k : ℕ) → r k ≡ map_pair (φ k) (r' k))
      → put r j q ≡ map_row φ (put r' j q')
  put_row r r' j q q' e h = fun_ext (put_both (λ k (a p : Pair). a ≡ map_pair (φ k) p) r r' j q q' e (λ k ne. h k))

  grown_map : (j : ℕ) → grown (map_tables φ b) j ≡ map_row φ (grown b j)
  grown_map j = put_row (map_row φ (b.seat j).row) (b.seat j).row j _ (tick (own b j)) refl (λ k. refl)

  turned_map : (j : ℕ) → turned Z (map_tables φ b) j ≡ map_row φ (turned Y b j)
  turned_map j =
      put_row (map_row φ (b.seat j).row) (b.seat j).row j _ (turn Y (own b j))
      (λ i. record { phase = w.nexts j (phases b j) i; clock = 0 }) (λ k. refl)

  later_map : (k : ℕ) (x y : Pair) → Keeps Z Y φ b k x.phase → Keeps Z Y φ b k y.phase
      → is_later Z (φ k (phases b k)) (map_pair (φ k) y) (map_pair (φ k) x) ≡ is_later Y (phases b k) y x
  later_map k x y p q = rw (p, q)

  merged_map : (j : ℕ) → j < X.desks → (m : Row) → ((k : ℕ) → Keeps Z Y φ b k (m k).phase)
      → merged Z (map_tables φ b) j (map_row φ m) ≡ map_row φ (merged Y b j m)
  merged_map j h m n =
      put_row (λ k. (taken Z (map_tables φ b) j (map_row φ m) k).pair) (λ k. (taken Y b j m k).pair) j _ (tick (own b j)) refl
      (λ k. rw (later_map k ((b.seat j).row k) (m k) (w.seats j k h) (n k))
      (sym (pick_ap (map_pair (φ k)) (is_later Y (phases b k) (m k) ((b.seat j).row k)) (m k) ((b.seat j).row k))))

  learns_map : (j : ℕ) → j < X.desks → (m : Row) → ((k : ℕ) → Keeps Z Y φ b k (m k).phase) → (k : ℕ)
      → learns Z (map_tables φ b) j (map_row φ m) k ≡ learns Y b j m k
  learns_map j h m n k = ap (λ t. not (eqb k j) && t) (later_map k ((b.seat j).row k) (m k) (w.seats j k h) (n k))

  mail_keeps : (p : ℕ) → used (b.mail p) ≡ true → (k : ℕ) → Keeps Z Y φ b k (row_in (b.mail p) k).phase
  mail_keeps p u = go (b.mail p) (w.mail p) u
    where
      go : (o : Option Held) → Each (KeepsAll Z Y φ b) o → used o ≡ true
          → (k : ℕ) → Keeps Z Y φ b k (row_in o k).phase
      go none n u = absurd (mathlib.Core.Bool.false≢true u)
      go (some m) n u = n

  -- of which desks an accepted receive learns
  pub receive_map : (j p : ℕ) (q : Bool) → why Y X b (receive j p q) ≡ 0 → (k : ℕ)
      → learns Z (map_tables φ b) j (row_in (map_held φ (b.mail p))) k ≡ learns Y b j (row_in (b.mail p)) k
  receive_map j p q e k =
      let n = no_receive Y X b j p q e in
      ap (λ (r : Row). learns Z (map_tables φ b) j r k) (row_map φ (b.mail p) n.1)
      ∙ learns_map j n.0 (row_in (b.mail p)) (mail_keeps p n.1) k

  free_mail_lem : free_mail (map_tables φ b) ≡ free_mail b
  free_mail_lem = simp used_map

  -- what either of two kept stamps knows of the other's desk
  more_map : (e f : Option Held) → Each (KeepsAll Z Y φ b) e → Each (KeepsAll Z Y φ b) f → used e ≡ true → used f ≡ true
      → let j = by_in (map_held φ e) in
      is_later Z (φ j (phases b j)) (row_in (map_held φ f) j) (row_in (map_held φ e) j)
      ≡ is_later Y (phases b (by_in e)) (row_in f (by_in e)) (row_in e (by_in e))
  more_map none f p q u v = absurd (mathlib.Core.Bool.false≢true u)
  more_map (some e) none p q u v = absurd (mathlib.Core.Bool.false≢true v)
  more_map (some e) (some f) p q u v = later_map e.by (e.row e.by) (f.row e.by) (p e.by) (q e.by)

  -- all slots of a list are used
  module _ (l : List ℕ) (there : (i : ℕ) → i < length l → used (b.shelf (chosen l i)) ≡ true) where
    odds_map : (i k : ℕ) → i < length l → k < length l
        → at_odds Z (map_tables φ b) (chosen l i) (chosen l k) ≡ at_odds Y b (chosen l i) (chosen l k)
    odds_map i k m n =
        let s = chosen l i in
        let t = chosen l k in
        λ x. more_map (b.shelf s) (b.shelf t) (w.shelf s) (w.shelf t) (there i m) (there k n) x
        || more_map (b.shelf t) (b.shelf s) (w.shelf t) (w.shelf s) (there k n) (there i m) x

    -- the lower desk is one of the list where it is below the higher
    two_map : (i k : ℕ) → k < length l → of_two (at_odds Z (map_tables φ b)) l i k ≡ of_two (at_odds Y b) l i k
    two_map i k n = go (ltb i k) refl
      where
        go : (t : Bool) → ltb i k ≡ t → (t && at_odds Z (map_tables φ b) (chosen l i) (chosen l k)) ≡ (t && at_odds Y b (chosen l i) (chosen l k))
        go true e = let m : i < k = ltb-true i k e in odds_map i k (omega arith) n
        go false e = refl

    first_map : first_odd Z (map_tables φ b) l ≡ first_odd Y b l
    first_map =
        lowest_cong (length l) (λ i. any (length l) (of_two (at_odds Z (map_tables φ b)) l i)) (λ i. any (length l) (of_two (at_odds Y b) l i))
        (λ i m. any_cong (length l) (of_two (at_odds Z (map_tables φ b)) l i) (of_two (at_odds Y b) l i) (two_map i))

    second_map : second_odd Z (map_tables φ b) l ≡ second_odd Y b l
    second_map =
        lowest_cong (length l) (of_two (at_odds Z (map_tables φ b)) l (first_odd Z (map_tables φ b) l)) (of_two (at_odds Y b) l (first_odd Y b l))
        (λ k n. two_map (first_odd Z (map_tables φ b) l) k n ∙ ap (λ i. of_two (at_odds Y b) l i k) first_map)

    -- the value is the same, and has no phase in it
    pictured_map : pictured Z (map_tables φ b) l ≡ map_value φ (pictured Y b l)
    unfolding pictured
    pictured_map =
        (λ x. pick (ltb (first_map x) (length l)) (names (first_map x) (second_map x)) (says true))
        ∙ sym (pick_ap (map_value φ) (ltb (first_odd Y b l) (length l)) (names (first_odd Y b l) (second_odd Y b l)) (says true))

  all_used : (l : List ℕ) → why Y X b (picture l) ≡ 0 → (i : ℕ) → i < length l → used (b.shelf (chosen l i)) ≡ true
  unfolding reasons ask_reasons
  all_used l e i m =
      let t = any_false (length l) (λ i. no_slot b (chosen l i)) (or_false_r (not (eqb (length l) X.desks)) _ (clear _ 4 _ e).0) i m in
      and_true_l _ _ (not_off _ t)

  tells_map : (q : Question) → why Y X b (ask q) ≡ 0 → ask_tells Z X (map_tables φ b) q ≡ map_value φ (ask_tells Y X b q)
  unfolding ask_tells
  tells_map (ask_before s t) e = simp (gap_held_lem s t, by_map, clock_map)
  tells_map (ask_compare s t) e = simp (gap_held_lem s t, gap_held_lem t s, by_map, clock_map)
  tells_map (ask_picture l) e = pictured_map l (all_used l e)
  tells_map (ask_show s) e = ap shows (row_map φ (b.shelf s) (no_ask Y X b (ask_show s) s refl e).0)
  tells_map (ask_write s room) e =
      λ i. stamp (by_map φ (b.shelf s) i) (row_map φ (b.shelf s) (no_ask Y X b (ask_write s room) s refl e).0 i)

  done_map : (c : Act) → why Y X b c ≡ 0 → done Z X (map_tables φ b) c ≡ map_result φ (done Y X b c)
  unfolding done
  done_map (local j q) e = event_map j _ (grown b j) q _ none _ none _ b.mail (grown_map j) refl refl refl
  done_map (send j k q) e =
      event_map j _ (grown b j) q _ (some (free_mail b)) _ none _
      (put b.mail (free_mail b) (some record { by = j; to = k; row = grown b j })) (grown_map j) (ap some free_mail_lem) refl
      ((λ i. put (λ p. map_held φ (b.mail p)) (free_mail_lem i) (some record { by = j; to = k; row = grown_map j i }))
      ∙ put_at_held b.mail (some (free_mail b)) (some record { by = j; to = k; row = grown b j }))
  done_map (receive j p q) e =
      let n = no_receive Y X b j p q e in
      let w = row_in (b.mail p) in
      let r = row_map φ (b.mail p) n.1 in
      event_map j _ (merged Y b j w) q _ none _ (some (learnt Y X b j w)) _ (put b.mail p none)
      (ap (merged Z (map_tables φ b) j) r ∙ merged_map j n.0 w (mail_keeps p n.1)) refl
      (ap some (count_cong X.desks (learns Z (map_tables φ b) j (row_in (map_held φ (b.mail p)))) (learns Y b j w)
      (λ k l. receive_map j p q e k)))
      (put_at_held b.mail (some p) none)
  done_map (reset j q) e = event_map j _ (turned Y b j) q _ none _ none _ b.mail (turned_map j) refl refl refl
  done_map (drop s) e = λ i. filing (map_tables φ b) (map_tables φ b).mail (put_at_held b.shelf (some s) none i)
  done_map (discard p) e = λ i. filing (map_tables φ b) (put_at_held b.mail (some p) none i) (map_tables φ b).shelf
  done_map (ask q) e = ap (telling (map_tables φ b)) (tells_map q e)

  -- THE SIMULATION, one call
  pub step_map : (c : Act) → step Z X (map_tables φ b) c ≡ map_result φ (step Y X b c)
  unfolding step
  step_map c =
      ap (λ n. settle n (map_tables φ b) (done Z X (map_tables φ b) c)) (why_map c) ∙ go (why Y X b c) refl
    where
      go : (n : ℕ) → why Y X b c ≡ n
          → settle n (map_tables φ b) (done Z X (map_tables φ b) c) ≡ map_result φ (settle n b (done Y X b c))
      go zero e = done_map c e
      go (suc n) e = refl
