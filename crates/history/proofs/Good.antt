-- The line's book and its history belong together, and every call keeps it so.
-- Assumes nothing.
use mathlib.Core.Path.{◌≡◌, refl, ap, sym, ◌∙◌, subst}
use mathlib.Core.Bool.{Bool, true, false}
use mathlib.Core.Option.{Option, none, some}
use mathlib.Core.Logic.{◌⊎◌, inl, inr}
use Prim.Native.Nat.{ℕ, zero, suc, ◌+◌, ◌≤◌, ◌<◌}
use native.Mathlib.Omega.{arith}
use native.Mathlib.Decide.{ℕ_discrete}
use lib.Dec.{ltb, eqb}
use borrow.Author.Tests.{eq-eqb, ne_eqb, ltb-true, ltb-false}
use Rattle.ring.specs.Phases.{line, Pair, is_later, later}
use Rattle.rules.proofs.Setups.{Permitted}
use Rattle.rules.specs.Setups.{Setup, limit}
use Rattle.tools.specs.Tests.{pick}
use Rattle.tools.specs.Reasons.{if_done}
use Rattle.tools.specs.Tables.{put, Each}
use Rattle.rules.specs.Model.{Row, Seat, Held, Tables, Act, local, reset, send, receive, drop, discard, ask}
use Rattle.rules.specs.Model.{step, done, why, fresh, zeros, grown, taken, merged, turned, seated, free_mail, slot_for, row_in, used}
use Rattle.rules.specs.Model.{own, tick, turn, settle}
use Rattle.history.specs.History.{Kind, cause, is_reset, Local, Send, Reset, Receive, Log, History, desk_link, one, more}
use Rattle.history.specs.History.{logged, noted, none_yet}
use Rattle.history.specs.History.{adds}
use Rattle.tools.proofs.Tables.{put_all, put_both, put_at_both, put_same, put_other, Each-map, Each-all, none_some}
use Rattle.history.proofs.Keys.{key, later_key, tick_key, turn_key}
use Rattle.rules.specs.Model.{phases}
use Rattle.history.specs.Lags.{Past}
use Rattle.history.proofs.Past.{left}
use Rattle.history.proofs.Bounded.{Bounded, bounded_done, fresh_bounded}
use Rattle.rules.proofs.Accepted.{no_local, no_send, no_receive, no_reset}
use Rattle.history.specs.Vector.{Upto}
use Rattle.history.proofs.Causal.{Origin, seen, InLimit, Causal, Fits, old_desk, old_row, causal_next, below}

-- event x is behind what is held
abbrev pub Behind : Log → ℕ → Held → Type 0
Behind h x w = (x < h.count) × (h.desk x ≡ w.by) × (h.row x ≡ w.row)

-- a started desk has a last event, whose row is the seat's; a desk that has not started has no event
abbrev pub SeatOf : Log → ℕ → Bool → Row → Type 0
SeatOf h j true ρ =
    (x : ℕ) × (x < h.count) × (h.desk x ≡ j) × (h.row x ≡ ρ) × ((e : ℕ) → e < h.count → h.desk e ≡ j → e ≤ x)
SeatOf h j false ρ = (ρ ≡ zeros) × ((e : ℕ) → e < h.count → h.desk e ≡ j → ⊥)

pub record Good (X : Setup) (b : Tables) (h : History) : Type 0 where
  pub bounded : Bounded X b
  pub causal : Causal X h.log
  pub there : (e : ℕ) → e < h.log.count → h.log.desk e < X.desks
  pub known : (f : ℕ) → f < h.log.count → (k : ℕ) → key (h.log.row f k) ≤ key (own b k)
  pub seats : (j : ℕ) → SeatOf h.log j (b.seat j).started (b.seat j).row
  pub mail : (p : ℕ) → Each (Behind h.log (h.mailed p)) (b.mail p)
  pub shelf : (s : ℕ) → Each (Behind h.log (h.kept s)) (b.shelf s)

module _ (X : Setup) (ok : Permitted X) (b : Tables) (h : History) (g : Good X b h) where
  -- a clock of 0, as in a row of zeros and after a reset, is below every limit
  zero_clock : (k : ℕ) → InLimit X k (zeros k)
  zero_clock k = (omega arith, λ l. omega (arith, (ok.ticks k l).0))

  pub seat_clock : (j k : ℕ) → InLimit X k ((b.seat j).row k)
  seat_clock j k = go (b.seat j).started (g.seats j)
    where
      go : (t : Bool) → SeatOf h.log j t (b.seat j).row → InLimit X k ((b.seat j).row k)
      go true s = rw s.3 at (g.causal.clocks s.0 s.1 k)
      go false s = rw s.0 (zero_clock k)

  -- a clock that ticks stays below the limit of its own desk
  ticked : (j : ℕ) → j < X.desks → (own b j).clock + 1 < limit X j → InLimit X j (tick (own b j))
  ticked j l t = (omega (arith, t, (ok.ticks j l).1), λ l. t)

  -- what ticks is no reset
  ticks : (j : ℕ) → eqb (tick (own b j)).clock 0 ≡ false
  ticks j = ne_eqb ((own b j).clock + 1) 0 (omega arith)

  seat_known : (j k : ℕ) → key ((b.seat j).row k) ≤ key (own b k)
  seat_known j k = go (b.seat j).started (g.seats j)
    where
      go : (t : Bool) → SeatOf h.log j t (b.seat j).row → key ((b.seat j).row k) ≤ key (own b k)
      go true s = rw s.3 at (g.known s.0 s.1 k)
      go false s =
          let z : key ((b.seat j).row k) ≡ key (zeros k) = ap (λ (ρ : Row). key (ρ k)) s.0 in omega arith

  seat_heard : (j e : ℕ) → e < h.log.count → seen h.log e e ≤ key ((b.seat j).row (h.log.desk e))
      → (x : ℕ) × (x < h.log.count) × Upto h.log e x × (h.log.desk x ≡ j)
  seat_heard j e a l = go (b.seat j).started (g.seats j)
    where
      go : (t : Bool) → SeatOf h.log j t (b.seat j).row
          → (x : ℕ) × (x < h.log.count) × Upto h.log e x × (h.log.desk x ≡ j)
      go true s = (s.0, s.1, g.causal.complete e s.0 a s.1 (rw s.3 l), s.2)
      go false s =
          let z : key ((b.seat j).row (h.log.desk e)) ≡ key (zeros (h.log.desk e)) = ap (λ (ρ : Row). key (ρ (h.log.desk e)))
          s.0 in
          let y = g.causal.positive e a in
          absurd (omega arith)

  pub seat_tells : (j e x : ℕ) → e < h.log.count → x < h.log.count → Upto h.log e x → h.log.desk x ≡ j
      → seen h.log e e ≤ key ((b.seat j).row (h.log.desk e))
  seat_tells j e x a l u q = go (b.seat j).started (g.seats j)
    where
      on : (y : ℕ) → x < y → y < h.log.count → h.log.desk y ≡ j → Upto h.log e x → Upto h.log e y
      on y lt ly qy (inl z) = let d = ap h.log.desk z in inr (one (desk_link {e = e} {f = y} (omega arith) ly cc))
      on y lt ly qy (inr z) = inr (more z (desk_link lt ly cc))

      go : (t : Bool) → SeatOf h.log j t (b.seat j).row → seen h.log e e ≤ key ((b.seat j).row (h.log.desk e))
      go true s = rw s.3 at (g.causal.sound e s.0 a s.1 (to (ℕ_discrete x s.0)))
        where
          to : Dec (x ≡ s.0) → Upto h.log e s.0
          to (yes z) = subst (λ y. Upto h.log e y) z u
          to (no z) = on s.0 (let w = s.4 x l q in omega arith) s.1 s.2 u
      go false s = absurd (s.1 x l q)

  seat_from : (j k : ℕ) → Origin h.log k ((b.seat j).row k)
  seat_from j k = go (b.seat j).started (g.seats j)
    where
      go : (t : Bool) → SeatOf h.log j t (b.seat j).row → Origin h.log k ((b.seat j).row k)
      go true s = subst (λ (ρ : Row). Origin h.log k (ρ k)) s.3 (g.causal.origin s.0 s.1 k)
      go false s = inl (ap (λ (ρ : Row). ρ k) s.0)

  -- an event that hears of nothing: r is j's row with another own pair
  plain : (w : Kind) → cause w ≡ none → (j : ℕ) (q : Pair) → eqb q.clock 0 ≡ is_reset w → key (own b j) < key q
      → InLimit X j q
      → Fits X h.log j w (put (b.seat j).row j q)
  plain w no-cause j q kind l m =
      record {
        clocks = put_all (InLimit X) (b.seat j).row j q m (λ k ne. seat_clock j k);
        kind = ap (λ (p : Pair). eqb p.clock 0) (put_same (b.seat j).row j q) ∙ kind;
        sent = rw no-cause tt;
        ahead = λ f a. rw (put_same (b.seat j).row j q) (let z = g.known f a j in omega arith);
        first = rw (put_same (b.seat j).row j q) (omega arith);
        from = λ k ne. rw (put_other (b.seat j).row j q k ne) (seat_from j k);
        tells = λ e x a c u k ne. rw (put_other (b.seat j).row j q (h.log.desk e) ne) (go e x a c u k);
        heard = λ e a ne k.
            let s = seat_heard j e a (rw (put_other (b.seat j).row j q (h.log.desk e) ne) at k) in
            (s.0, s.1, s.2, inl s.3);
      }
    where
      go : (e x : ℕ) → e < h.log.count → x < h.log.count → Upto h.log e x → (h.log.desk x ≡ j) ⊎ (cause w ≡ some x)
          → seen h.log e e ≤ key ((b.seat j).row (h.log.desk e))
      go e x a c u (inl z) = seat_tells j e x a c u z
      go e x a c u (inr z) = absurd (none_some (sym no-cause ∙ z))

  plain_known : (j : ℕ) (q : Pair) (k : ℕ) → (k ≡ j → ⊥) → key (put (b.seat j).row j q k) ≤ key (own b k)
  plain_known j q k ne = rw (put_other (b.seat j).row j q k ne) (seat_known j k)

  -- the later of two pairs: it is one of them, and at least both
  later_is : (o : ℕ) (x y : Pair) → x.phase ≤ o → y.phase ≤ o → x.clock < 256 → y.clock < 256
      → (key x ≤ key (later line o x y).pair) × (key y ≤ key (later line o x y).pair)
      × (((later line o x y).pair ≡ x) ⊎ ((later line o x y).pair ≡ y))
  later_is o x y a c d e = go (is_later line o y x) (later_key o x y a c d e)
    where
      go : (t : Bool) → t ≡ ltb (key x) (key y)
          → (key x ≤ key (pick t y x)) × (key y ≤ key (pick t y x)) × ((pick t y x ≡ x) ⊎ (pick t y x ≡ y))
      go true p = let z = ltb-true (key x) (key y) (sym p) in (omega arith, omega arith, inr refl)
      go false p = let z = ltb-false (key x) (key y) (sym p) in (omega arith, omega arith, inl refl)

  module _ (j x : ℕ) (m : Row) (lx : x < h.log.count) (is : h.log.row x ≡ m) (past : Past b m) where
    m_clock : (k : ℕ) → InLimit X k (m k)
    m_clock k = rw is at (g.causal.clocks x lx k)

    at_k : (k : ℕ) → (key ((b.seat j).row k) ≤ key (taken line b j m k).pair)
        × (key (m k) ≤ key (taken line b j m k).pair)
        × (((taken line b j m k).pair ≡ (b.seat j).row k) ⊎ ((taken line b j m k).pair ≡ m k))
    at_k k =
        later_is (phases b k) ((b.seat j).row k) (m k) (g.bounded.past.seats j k) (past k) (seat_clock j k).0 (m_clock k).0

    r_other : (k : ℕ) → (k ≡ j → ⊥) → merged line b j m k ≡ (taken line b j m k).pair
    r_other k ne = put_other (λ k. (taken line b j m k).pair) j (tick (own b j)) k ne

    r_own : merged line b j m j ≡ tick (own b j)
    r_own = put_same (λ k. (taken line b j m k).pair) j (tick (own b j))

    mail_known : (k : ℕ) → key (m k) ≤ key (own b k)
    mail_known k = rw is at (g.known x lx k)

    merged_known : (k : ℕ) → (k ≡ j → ⊥) → key (merged line b j m k) ≤ key (own b k)
    merged_known k ne = rw (r_other k ne) (go (at_k k).2)
      where
        go
            : (((taken line b j m k).pair ≡ (b.seat j).row k)
            ⊎ ((taken line b j m k).pair ≡ m k))
            → key (taken line b j m k).pair ≤ key (own b k)
        go (inl z) = rw z (seat_known j k)
        go (inr z) = rw z (mail_known k)

    pub merging : j < X.desks → (own b j).clock + 1 < limit X j → Fits X h.log j (Receive x) (merged line b j m)
    merging lj t =
        record {
          clocks = put_all (InLimit X) (λ k. (taken line b j m k).pair) j (tick (own b j)) (ticked j lj t) (λ k ne. clocks k (at_k k).2);
          kind = ap (λ (p : Pair). eqb p.clock 0) r_own ∙ ticks j;
          sent = lx;
          ahead = λ f a. rw r_own (let z = g.known f a j in omega arith);
          first = rw r_own (omega arith);
          from = λ k ne. rw (r_other k ne) (from k (at_k k).2);
          tells = λ e y a c u k ne. rw (r_other (h.log.desk e) ne) (tells e y a c u k);
          heard = λ e a ne k. heard e a (at_k (h.log.desk e)).2 (rw (r_other (h.log.desk e) ne) at k);
        }
      where
        clocks : (k : ℕ)
            → (((taken line b j m k).pair ≡ (b.seat j).row k)
            ⊎ ((taken line b j m k).pair ≡ m k))
            → InLimit X k (taken line b j m k).pair
        clocks k (inl z) = rw z (seat_clock j k)
        clocks k (inr z) = rw z (m_clock k)

        from : (k : ℕ)
            → (((taken line b j m k).pair ≡ (b.seat j).row k)
            ⊎ ((taken line b j m k).pair ≡ m k))
            → Origin h.log k (taken line b j m k).pair
        from k (inl z) = rw z (seat_from j k)
        from k (inr z) = rw z (subst (λ (ρ : Row). Origin h.log k (ρ k)) is (g.causal.origin x lx k))

        tells : (e y : ℕ) → e < h.log.count → y < h.log.count → Upto h.log e y → (h.log.desk y ≡ j) ⊎ (some x ≡ some y)
            → seen h.log e e ≤ key (taken line b j m (h.log.desk e)).pair
        tells e y a c u (inl z) = let p = seat_tells j e y a c u z in let q = (at_k (h.log.desk e)).0 in omega arith
        tells e y a c u (inr z) =
            let p : seen h.log e e ≤ seen h.log e x = g.causal.sound e x a lx
            (subst (λ v. Upto h.log e v) (let s : y ≡ x = cc in s) u) in
            let p' : seen h.log e e ≤ key (m (h.log.desk e)) = rw is at p in
            let q = (at_k (h.log.desk e)).1 in
            omega arith

        heard : (e : ℕ) → e < h.log.count
            → (((taken line b j m (h.log.desk e)).pair
            ≡ (b.seat j).row (h.log.desk e))
            ⊎ ((taken line b j m (h.log.desk e)).pair ≡ m (h.log.desk e)))
            → seen h.log e e ≤ key (taken line b j m (h.log.desk e)).pair
            → (v : ℕ) × (v < h.log.count) × Upto h.log e v × ((h.log.desk v ≡ j) ⊎ (some x ≡ some v))
        heard e a (inl z) k = let s = seat_heard j e a (rw z at k) in (s.0, s.1, s.2, inl s.3)
        heard e a (inr z) k = (x, lx, g.causal.complete e x a lx (rw is (rw z at k)), inr refl)

  -- one event more
  module _ (j : ℕ) (w : Kind) (r : Row) (fit : Fits X h.log j w r)
      (less : (k : ℕ) → (k ≡ j → ⊥) → key (r k) ≤ key (own b k)) where
    behind_up : (x : ℕ) (o : Option Held) → Each (Behind h.log x) o → Each (Behind (logged h.log j w r) x) o
    behind_up x o =
        Each-map (λ m s. (
          let z = s.0 in omega arith,
          old_desk X h.log g.causal j w r fit x s.0 ∙ s.1,
          old_row X h.log g.causal j w r fit x s.0 ∙ s.2,
        )) o

    -- the event itself is behind what holds its row
    behind_itself : (to : ℕ) → Behind (logged h.log j w r) h.log.count (record { by = j; to = to; row = r })
    behind_itself to = (omega arith, put_same h.log.desk h.log.count j, put_same h.log.row h.log.count r)

    seat_up : (i : ℕ) (t : Bool) (ρ : Row) → (i ≡ j → ⊥) → SeatOf h.log i t ρ → SeatOf (logged h.log j w r) i t ρ
    seat_up i true ρ ne s = (
      s.0,
      let z = s.1 in omega arith,
      old_desk X h.log g.causal j w r fit s.0 s.1 ∙ s.2,
      old_row X h.log g.causal j w r fit s.0 s.1 ∙ s.3,
      λ e l. below (λ e. (logged h.log j w r).desk e ≡ i → e ≤ s.0) h.log.count e l
          (λ l q. s.4 e l (sym (old_desk X h.log g.causal j w r fit e l) ∙ q))
          (λ q. absurd (ne (sym q ∙ put_same h.log.desk h.log.count j))),
    )
    seat_up i false ρ ne s = (
      s.0,
      λ e l. below (λ e. (logged h.log j w r).desk e ≡ i → ⊥) h.log.count e l
          (λ l q. s.1 e l (sym (old_desk X h.log g.causal j w r fit e l) ∙ q))
          (λ q. ne (sym q ∙ put_same h.log.desk h.log.count j)),
    )

    good_event : j < X.desks → (o : Option ℕ) (mail : ℕ → Option Held) (mailed : ℕ → ℕ)
        → Bounded X (left b j r o mail)
        → ((p : ℕ) → Each (Behind (logged h.log j w r) (mailed p)) (mail p))
        → Good X (left b j r o mail) (noted h j w r o mailed)
    good_event lj o mail mailed bd posts =
        record {
          bounded = bd;
          causal = causal_next X h.log g.causal j w r fit;
          there = λ e l. below (λ e. (logged h.log j w r).desk e < X.desks) h.log.count e l
              (λ l. rw (old_desk X h.log g.causal j w r fit e l) (g.there e l))
              (rw (put_same h.log.desk h.log.count j) lj);
          known =
              λ f l. below (λ f. (k : ℕ) → key ((logged h.log j w r).row f k) ≤ key ((seated b j r k).row k)) h.log.count f l
              (λ l k. rw (old_row X h.log g.causal j w r fit f l)
              (put_all (λ k (s : Seat). key (h.log.row f k) ≤ key (s.row k)) b.seat j (record { started = true; row = r })
              (let z = fit.ahead f l in omega arith) (λ k ne. g.known f l k) k))
              (λ k. rw (put_same h.log.row h.log.count r)
              (put_all (λ k (s : Seat). key (r k) ≤ key (s.row k)) b.seat j (record { started = true; row = r })
              (omega arith) less k));
          seats = put_all (λ i (s : Seat). SeatOf (logged h.log j w r) i s.started s.row) b.seat j
              (record { started = true; row = r })
              (let here = behind_itself 0 in (h.log.count, here.0, here.1, here.2, λ e l q. omega arith))
              (λ i ne. seat_up i (b.seat i).started (b.seat i).row ne (g.seats i));
          mail = posts;
          shelf = put_at_both (λ s (m : Option Held) x. Each (Behind (logged h.log j w r) x) m) b.shelf h.kept o _ _
              (Each-all (λ s. behind_itself 0) o) (λ s. behind_up (h.kept s) (b.shelf s) (g.shelf s));
        }

  pub mail_of : (p : ℕ) → used (b.mail p) ≡ true → (h.mailed p < h.log.count) × (h.log.row (h.mailed p) ≡ row_in (b.mail p))
  mail_of p u = go (b.mail p) (g.mail p) u
    where
      go : (o : Option Held) → Each (Behind h.log (h.mailed p)) o → used o ≡ true
          → (h.mailed p < h.log.count) × (h.log.row (h.mailed p) ≡ row_in o)
      go none n u = absurd (mathlib.Core.Bool.false≢true u)
      go (some m) n u = (n.0, n.2)

  good_done : (c : Act) → why line X b c ≡ 0 → Bounded X (done line X b c).tables → Good X (done line X b c).tables (adds h b c)
  unfolding done adds
  good_done (local j q) e bd =
      let n = no_local line X b j q e in
      let fit = plain Local refl j (tick (own b j)) (ticks j) (tick_key (own b j)) (ticked j n.0 n.1) in
      good_event j Local (grown b j) fit (plain_known j (tick (own b j))) n.0 (slot_for b q) b.mail h.mailed bd
      (λ p. behind_up j Local (grown b j) fit (plain_known j (tick (own b j))) (h.mailed p) (b.mail p) (g.mail p))
  good_done (send j k q) e bd =
      let n = no_send line X b j k q e in
      let fit = plain Send refl j (tick (own b j)) (ticks j) (tick_key (own b j)) (ticked j n.0 n.1) in
      good_event j Send (grown b j) fit (plain_known j (tick (own b j))) n.0 (slot_for b q) _ _ bd
      (put_both (λ p (o : Option Held) x. Each (Behind (logged h.log j Send (grown b j)) x) o) b.mail h.mailed (free_mail b)
      (some record { by = j; to = k; row = grown b j }) h.log.count
      (behind_itself j Send (grown b j) fit (plain_known j (tick (own b j))) k)
      (λ p ne. behind_up j Send (grown b j) fit (plain_known j (tick (own b j))) (h.mailed p) (b.mail p) (g.mail p)))
  good_done (receive j p q) e bd =
      let n = no_receive line X b j p q e in
      let m = mail_of p n.1 in
      let past = g.bounded.past.mail p in
      let fit = merging j (h.mailed p) (row_in (b.mail p)) m.0 m.1 past n.0 n.2 in
      let less = merged_known j (h.mailed p) (row_in (b.mail p)) m.0 m.1 past in
      good_event j (Receive (h.mailed p)) (merged line b j (row_in (b.mail p))) fit less n.0 (slot_for b q) (put b.mail p none)
      h.mailed bd
      (put_all (λ t (o : Option Held).
      Each (Behind (logged h.log j (Receive (h.mailed p)) (merged line b j (row_in (b.mail p)))) (h.mailed t)) o) b.mail p none tt
      (λ t ne. behind_up j (Receive (h.mailed p)) (merged line b j (row_in (b.mail p))) fit less (h.mailed t) (b.mail t) (g.mail t)))
  good_done (reset j q) e bd =
      let n = no_reset line X b j q e in
      let fit = plain Reset refl j (turn line (own b j)) (eq-eqb 0 0 refl) (turn_key (own b j) (seat_clock j j).0) (zero_clock j) in
      good_event j Reset (turned line b j) fit (plain_known j (turn line (own b j))) n.0 (slot_for b q) b.mail h.mailed bd
      (λ p. behind_up j Reset (turned line b j) fit (plain_known j (turn line (own b j))) (h.mailed p) (b.mail p) (g.mail p))
  good_done (drop s) e bd =
      record {
        bounded = bd;
        causal = g.causal;
        there = g.there;
        known = g.known;
        seats = g.seats;
        mail = g.mail;
        shelf = put_all (λ t (o : Option Held). Each (Behind h.log (h.kept t)) o) b.shelf s none tt (λ t ne. g.shelf t);
      }
  good_done (discard p) e bd =
      record {
        bounded = bd;
        causal = g.causal;
        there = g.there;
        known = g.known;
        seats = g.seats;
        shelf = g.shelf;
        mail = put_all (λ t (o : Option Held). Each (Behind h.log (h.mailed t)) o) b.mail p none tt (λ t ne. g.mail t);
      }
  good_done (ask q) e bd = g

pub good_next : (X : Setup) → Permitted X → (b : Tables) (h : History) → Good X b h → (c : Act)
    → Good X (step line X b c).tables (if_done (why line X b c) (adds h b c) h)
unfolding step
good_next X ok b h g c = go (why line X b c) refl
  where
    go : (n : ℕ) → why line X b c ≡ n → Good X (settle n b (done line X b c)).tables (if_done n (adds h b c) h)
    go zero e = good_done X ok b h g c e (bounded_done X ok b g.bounded c e)
    go (suc n) e = g

pub good_begin : (X : Setup) → Good X fresh none_yet
good_begin X =
    record {
      bounded = fresh_bounded X;
      causal = record {
        clocks = λ e l. absurd (omega arith);
        caused = λ e l. absurd (omega arith);
        kinds = λ e l. absurd (omega arith);
        positive = λ e l. absurd (omega arith);
        sound = λ e f l. absurd (omega arith);
        complete = λ e f l. absurd (omega arith);
        origin = λ f l. absurd (omega arith);
      };
      there = λ e l. absurd (omega arith);
      known = λ f l. absurd (omega arith);
      seats = λ j. (refl, λ e l. absurd (omega arith));
      mail = λ p. tt;
      shelf = λ s. tt;
    }
