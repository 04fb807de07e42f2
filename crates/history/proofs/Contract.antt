-- The contract of resettable vector clocks, of two events of one state: the reach, counted in phases, is the one that counts resets.
-- Assumes nothing.
use mathlib.Core.Path.{◌≡◌, refl, ap, sym, ◌∙◌, subst}
use mathlib.Core.Bool.{Bool, true, false, ◌&&◌}
use mathlib.Core.Option.{Option, none, some}
use mathlib.Core.Logic.{◌⊎◌, inl, inr, ◌↔◌}
use Prim.Native.Nat.{ℕ, zero, suc, ◌+◌, ◌-◌, ◌*◌, ◌≤◌, ◌<◌}
use native.Mathlib.Omega.{arith}
use lib.Dec.{ltb, eqb}
use borrow.Author.Tests.{eqb-true, eq-eqb, ltb-true, ltb-false, lt-ltb}
use Rattle.tools.specs.Tests.{pick, lowest, counted}
use Rattle.tools.specs.Tables.{Each}
use Rattle.tools.proofs.Tests.{and_true_l, and_true_r, lt_or_le, Lowest, lowest_is, count_none}
use Rattle.ring.specs.Phases.{Pair}
use Rattle.rules.specs.Setups.{Setup}
use Rattle.rules.specs.Model.{reach_back}
use Rattle.rules.proofs.Setups.{Permitted}
use Rattle.history.specs.History.{is_reset, Log, Leads, desk_link, one, State}
use Rattle.history.specs.Vector.{Upto}
use Rattle.history.specs.Demand.{InReach}
use Rattle.history.specs.Contract.{reset_at, reset_before, found, reset_after, onward, repeat, previous, following, Reached, R, Meets}
use Rattle.history.proofs.Keys.{key}
use Rattle.history.proofs.Causal.{Origin, Causal, leads_lt}
use Rattle.history.proofs.Runs.{Faithful, allowed}
use Rattle.history.proofs.Resets.{resets, resets_next, reset_more, reset_same, resets_grow, resets_flat, Counts}

-- f goes on from number to number, below n and such as Q holds of; N counts those to come, and falls by one each time
module _ (f : ℕ → Option ℕ) (N : ℕ → ℕ) (n : ℕ) (Q : ℕ → Type 0) where
  abbrev pub Step : ℕ → Option ℕ → Type 0
  Step e none = N e ≡ 0
  Step e (some r) = (N e ≡ suc (N r)) × (r < n) × Q r

  -- k steps
  abbrev pub Steps : ℕ → ℕ → Option ℕ → Type 0
  Steps k e none = N e < k
  Steps k e (some r) = (N e ≡ k + N r) × (r < n) × Q r

  repeat_steps : ((e : ℕ) → e < n → Step e (f e)) → (k e : ℕ) → 1 ≤ k → e < n → Steps k e (repeat f k e)
  unfolding repeat
  repeat_steps s zero e p l = absurd (omega arith)
  repeat_steps s (suc zero) e p l = go (f e) (s e l)
    where
      go : (o : Option ℕ) → Step e o → Steps 1 e o
      go none z = omega arith
      go (some r) z = (omega (arith, z.0), z.1, z.2)
  repeat_steps s (suc (suc k)) e p l = go (repeat f (suc k) e) (repeat_steps s (suc k) e (omega arith) l)
    where
      then : (r : ℕ) (o : Option ℕ) → N e ≡ suc k + N r → Step r o → Steps (suc (suc k)) e o
      then r none q z = omega arith
      then r (some t) q z = (omega (arith, q, z.0), z.1, z.2)

      go : (o : Option ℕ) → Steps (suc k) e o → Steps (suc (suc k)) e (onward f o)
      go none w = omega arith
      go (some r) w = then r (f r) w.0 (s r w.1)

-- one step back, and one on, along the resets of desk j
module _ (h : Log) (j : ℕ) where
  abbrev IsReset : ℕ → Type 0
  IsReset r = reset_at h j r ≡ true

  abbrev Back : ℕ → Option ℕ → Type 0
  Back = Step (reset_before h j) (resets h j) h.count IsReset

  reset_back : (e : ℕ) → e ≤ h.count → Back e (reset_before h j e)
  unfolding reset_before resets
  reset_back zero l = count_none (reset_at h j)
  reset_back (suc e) l = go (reset_at h j e) refl (reset_before h j e) (reset_back e (omega arith))
    where
      go : (t : Bool) → reset_at h j e ≡ t → (o : Option ℕ) → Back e o → Back (suc e) (pick t (some e) o)
      go true q o w = (reset_more h j e q, omega arith, q)
      go false q none w = reset_same h j e q ∙ w
      go false q (some r) w = (reset_same h j e q ∙ w.0, w.1, w.2)

  -- the resets that come after the event e
  abbrev ahead : ℕ → ℕ
  ahead e = resets h j h.count - resets h j (suc e)

  abbrev On : ℕ → Option ℕ → Type 0
  On = Step (reset_after h j) ahead h.count IsReset

  reset_on : (e : ℕ) → e < h.count → On e (reset_after h j e)
  unfolding reset_after
  reset_on e l = go (lowest h.count next) (lowest_is h.count next)
    where
      next : ℕ → Bool
      next r = ltb e r && reset_at h j r

      go : (r : ℕ) → Lowest h.count next r → On e (found h.count r)
      go r w = at (ltb r h.count) refl
        where
          -- none lies between
          flat : suc e ≤ r → resets h j r ≡ resets h j (suc e)
          flat m = resets_flat h j (suc e) r m (λ i p q. rw (lt-ltb e i (omega arith)) at (w.2 i q))

          at : (t : Bool) → ltb r h.count ≡ t → On e (pick t (some r) none)
          at true q =
              let k = ltb-true r h.count q in
              let t = w.1 k in
              let z = ltb-true e r (and_true_l (ltb e r) (reset_at h j r) t) in
              let is = and_true_r (ltb e r) (reset_at h j r) t in
              let v = resets_grow h j (suc r) h.count (omega arith) in
              (omega (arith, reset_more h j r is, flat z, v), k, is)
          at false q =
              let z : r ≡ h.count = omega (arith, ltb-false r h.count q, w.0) in
              omega (arith, ap (resets h j) (sym z) ∙ flat (omega arith))

-- a pair of the phase w, its clock c a byte, is at least the first of the phase p exactly where w is at least p
first_of : (p w c : ℕ) → c < 256 → (p * 256 ≤ w * 256 + c) ↔ (p ≤ w)
first_of p w c l = (λ m. omega (arith, l, m), λ m. omega (arith, m))

-- the reach back of an event with the phase v, by the a resets before it
reset_by : (X : Setup) (t : Bool) (a v w : ℕ) → v ≡ counted t a → (v < w + reach_back X t) ↔ (a < w + X.back)
unfolding reach_back
reset_by X true a v w q = (λ l. omega (arith, l, q), λ l. omega (arith, l, q))
reset_by X false a v w q = (λ l. omega (arith, l, q), λ l. omega (arith, l, q))

-- "leads to y" is "is y or leads to y" where it is not y
module _ (h : Log) (y : ℕ) where
  leads_upto : (o : Option ℕ) → Each (λ r. Leads h r y) o → Each (λ r. Upto h r y) o
  leads_upto none w = tt
  leads_upto (some r) w = inr w

  upto_leads : (o : Option ℕ) → (o ≡ some y → ⊥) → Each (λ r. Upto h r y) o → Each (λ r. Leads h r y) o
  upto_leads none ne w = tt
  upto_leads (some r) ne (inl q) = absurd (ne (ap some q))
  upto_leads (some r) ne (inr l) = l

  no_leads : (o : Option ℕ) → Each (λ r. Upto h r y → ⊥) o → Each (λ r. Leads h r y → ⊥) o
  no_leads none w = tt
  no_leads (some r) w = λ l. w (inr l)

  no_upto : (o : Option ℕ) → (o ≡ some y → ⊥) → Each (λ r. Leads h r y → ⊥) o → Each (λ r. Upto h r y → ⊥) o
  no_upto none ne w = tt
  no_upto (some r) ne w = not_either
    where
      not_either : Upto h r y → ⊥
      not_either (inl q) = ne (ap some q)
      not_either (inr l) = w l

-- two events, in a faithful state whose phases count resets
module _ (s : State) (w : Faithful s) (n : Counts s) (x y : ℕ)
    (lx : x < s.history.log.count) (ly : y < s.history.log.count) where
  abbrev X : Setup
  X = s.book.setup

  ok : Permitted X
  ok = allowed s w

  abbrev h : Log
  h = s.history.log

  c : Causal X h
  c = w.good.causal

  abbrev j : ℕ
  j = h.desk x

  -- what y knows of x's desk
  abbrev known : ℕ
  known = (h.row y j).phase

  reset_desk : (r : ℕ) → reset_at h j r ≡ true → h.desk r ≡ j
  reset_desk r t = eqb-true (h.desk r) j (and_true_l (eqb (h.desk r) j) (is_reset (h.kind r)) t)

  reset_phase : (r : ℕ) → r < h.count → reset_at h j r ≡ true → (h.row r j).phase ≡ suc (resets h j r)
  reset_phase r l t =
      let d = reset_desk r t in
      ap (λ k. (h.row r k).phase) (sym d) ∙ n.phase r l ∙ ap (λ k. resets h k (suc r)) d ∙ reset_more h j r t

  -- at desk k y knows the pair of r, or a later one
  abbrev Seen : ℕ → ℕ → Type 0
  Seen r k = key (h.row r k) ≤ key (h.row y k)

  -- a reset of x's desk is y, or leads to it, exactly where y knows its phase
  reset_known : (r : ℕ) → r < h.count → reset_at h j r ≡ true → Upto h r y ↔ (suc (resets h j r) ≤ known)
  reset_known r l t =
      let p = reset_phase r l t in
      let f = first_of (h.row r j).phase known (h.row y j).clock (c.clocks y ly j).0 in (
        λ u. let z = f.0 (omega (arith, own, at (c.sound r y l ly u))) in omega (arith, p, z),
        λ k. c.complete r y l ly (back (omega (arith, own, f.1 (omega (arith, p, k))))),
      )
    where
      d : h.desk r ≡ j
      d = reset_desk r t

      own : (h.row r j).clock ≡ 0
      own =
          ap (λ k. (h.row r k).clock) (sym d)
          ∙ eqb-true (h.row r (h.desk r)).clock 0 (c.kinds r l ∙ and_true_r (eqb (h.desk r) j) (is_reset (h.kind r)) t)

      at : Seen r (h.desk r) → Seen r j
      at = subst (Seen r) d

      back : Seen r j → Seen r (h.desk r)
      back = subst (Seen r) (sym d)

  -- x's own phase, by the resets before it
  own_phase : (h.row x j).phase ≡ counted (is_reset (h.kind x)) (resets h j x)
  own_phase = n.phase x lx ∙ resets_next h j x ∙ (λ i. counted (eq-eqb j j refl i && is_reset (h.kind x)) (resets h j x))

  -- nobody knows of more resets than there are
  known_most : known ≤ resets h j h.count
  known_most = go (c.origin y ly j)
    where
      go : Origin h j (h.row y j) → known ≤ resets h j h.count
      go (inl q) = let z : known ≡ 0 = ap (λ (p : Pair). p.phase) q in omega (arith, z)
      go (inr (e, l, d, q)) =
          let z : known ≡ resets h j (suc e) =
          ap (λ (p : Pair). p.phase) (sym q) ∙ ap (λ k. (h.row e k).phase) (sym d) ∙ n.phase e l ∙ ap (λ k. resets h k (suc e)) d in
          let g = resets_grow h j (suc e) h.count (omega arith) in
          omega (arith, z, g)

  abbrev Behind : Option ℕ → Type 0
  Behind = Steps (reset_before h j) (resets h j) h.count (IsReset h j) X.back x

  abbrev Beyond : Option ℕ → Type 0
  Beyond = Steps (reset_after h j) (ahead h j) h.count (IsReset h j) X.ahead x

  behind : Behind (previous h X.back x)
  behind =
      repeat_steps (reset_before h j) (resets h j) h.count (IsReset h j) (λ e l. reset_back h j e (omega arith)) X.back x ok.back lx

  beyond : Beyond (following h X.ahead x)
  beyond = repeat_steps (reset_after h j) (ahead h j) h.count (IsReset h j) (reset_on h j) X.ahead x ok.forth lx

  -- PR^m of x, in numbers
  previous_is : Each (λ r. Upto h r y) (previous h X.back x) ↔ (resets h j x < known + X.back)
  previous_is = go (previous h X.back x) behind
    where
      go : (o : Option ℕ) → Behind o → Each (λ r. Upto h r y) o ↔ (resets h j x < known + X.back)
      go none f = (λ u. omega (arith, f), λ u. tt)
      go (some r) f =
          let k = reset_known r f.1 f.2 in
          (λ u. let z = k.0 u in omega (arith, f.0, z), λ u. k.1 (omega (arith, f.0, u)))

  -- the phase of NX^n of x is n ahead
  next_phase : (r : ℕ) → ahead h j x ≡ X.ahead + ahead h j r → r < h.count → reset_at h j r ≡ true
      → suc (resets h j r) ≡ (h.row x j).phase + X.ahead
  next_phase r f l t =
      let s = reset_more h j r t in
      let g = resets_grow h j (suc r) h.count (omega arith) in
      let g' = resets_grow h j (suc x) h.count (omega arith) in
      let v : (h.row x j).phase ≡ resets h j (suc x) = n.phase x lx in
      let m = ok.forth in
      omega (arith, f, s, g, g', v, m)

  following_is : Each (λ r. Upto h r y → ⊥) (following h X.ahead x) ↔ (known < (h.row x j).phase + X.ahead)
  following_is = go (following h X.ahead x) beyond
    where
      go : (o : Option ℕ) → Beyond o → Each (λ r. Upto h r y → ⊥) o ↔ (known < (h.row x j).phase + X.ahead)
      go none f =
          let v : (h.row x j).phase ≡ resets h j (suc x) = n.phase x lx in
          let m = known_most in
          (λ u. omega (arith, f, v, m), λ u. tt)
      go (some r) f = (λ u. less u (lt_or_le known ((h.row x j).phase + X.ahead)), λ l u. let z = k.0 u in omega (arith, z, l, p))
        where
          k : Upto h r y ↔ (suc (resets h j r) ≤ known)
          k = reset_known r f.1 f.2

          p : suc (resets h j r) ≡ (h.row x j).phase + X.ahead
          p = next_phase r f.0 f.1 f.2

          less : (Upto h r y → ⊥) → (known < (h.row x j).phase + X.ahead) ⊎ ((h.row x j).phase + X.ahead ≤ known)
              → known < (h.row x j).phase + X.ahead
          less u (inl l) = l
          less u (inr l) = absurd (u (k.1 (omega (arith, l, p))))

  -- THE REACH, counted in phases, is the one that counts resets
  pub log_resets : InReach X h x y ↔ Reached h X.back X.ahead x y
  log_resets =
      let b = reset_by X (is_reset (h.kind x)) (resets h j x) (h.row x j).phase known own_phase in
      (λ i. (previous_is.1 (b.0 i.1), following_is.1 i.0), λ w. (following_is.0 w.1, b.1 (previous_is.0 w.0)))

  -- and R(m,n), for an event that is neither of the two resets
  pub log_R : (previous h X.back x ≡ some y → ⊥) → (following h X.ahead x ≡ some y → ⊥) → InReach X h x y ↔ R h X.back X.ahead x y
  log_R p q = (
    λ i. let w = log_resets.0 i in (upto_leads h y _ p w.0, no_leads h y (following h X.ahead x) w.1),
    λ w. log_resets.1 (leads_upto h y (previous h X.back x) w.0, no_upto h y _ q w.1),
  )

  pub log_meets : Meets h X.back X.ahead x y → InReach X h x y
  log_meets w = log_resets.1 (leads_upto h y (previous h X.back x) w.0.0, no_upto h y _ w.1 w.0.1)

  itself : Leads h y y → ⊥
  itself l = let z = leads_lt h c.caused l in omega arith

  -- PR^m of x is within reach, though R(m,n) leaves it out
  pub log_previous : previous h X.back x ≡ some y → InReach X h x y × (R h X.back X.ahead x y → ⊥)
  log_previous q = (log_resets.1 (rw q (inl refl), following_is.1 near), λ w. itself (rw q at w.0))
    where
      near : known < (h.row x j).phase + X.ahead
      near =
          let f : Behind (some y) = rw q at behind in
          let p = reset_phase y f.1 f.2 in
          let g = resets_grow h j x (suc x) (omega arith) in
          let v : (h.row x j).phase ≡ resets h j (suc x) = n.phase x lx in
          let m = ok.forth in
          let b = ok.back in
          omega (arith, f.0, p, g, v, m, b)

  -- NX^n of x is out of reach, though it meets R(m,n)
  pub log_following : following h X.ahead x ≡ some y → (InReach X h x y → ⊥) × R h X.back X.ahead x y
  log_following q = (λ i. far i.0, (leads (previous h X.back x) behind, rw q itself))
    where
      here : Beyond (some y)
      here = rw q at beyond

      phase : suc (resets h j y) ≡ (h.row x j).phase + X.ahead
      phase = next_phase y here.0 here.1 here.2

      far : known < (h.row x j).phase + X.ahead → ⊥
      far l = let p = reset_phase y here.1 here.2 in omega (arith, l, p, phase)

      -- a reset before x comes before y at the desk
      leads : (o : Option ℕ) → Behind o → Each (λ r. Leads h r y) o
      leads none f = tt
      leads (some r) f =
          one (desk_link (go (lt_or_le r y)) here.1 (reset_desk r f.2 ∙ sym (reset_desk y here.2)))
        where
          go : (r < y) ⊎ (y ≤ r) → r < y
          go (inl l) = l
          go (inr l) =
              let g = resets_grow h j y r l in
              let g' = resets_grow h j x (suc x) (omega arith) in
              let v : (h.row x j).phase ≡ resets h j (suc x) = n.phase x lx in
              let m = ok.forth in
              let b = ok.back in
              absurd (omega (arith, f.0, g, g', v, phase, m, b))
