-- Laws of the numbers of a start: D and P, any number of limits, and M, A, m and n.
-- Assumes nothing.
--   setup_of      D and P are the first two numbers of a text, the limits those between, M, A, m and n the last four
--   counted       whether the limits are miscounted, by how many they are
--   started       a start asks for the call of its numbers where its limits are not miscounted
--   not_started   its numbers make no call where they are
--   too_few       nor do fewer than six
--   setup_back    the setup that a start's numbers make is the start's
--   setup_whole   a setup that numbers make has these numbers, and no others
use Prim.Native.Nat.{ℕ, suc, ◌+◌, ◌*◌, ◌-◌, ◌/◌, ◌<◌, ◌≤◌}
use mathlib.Core.Path.{◌≡◌, refl, sym, ap, ◌∙◌}
use mathlib.Core.Bool.{Bool, true, false, not, ◌&&◌}
use mathlib.Core.List.{List, [], ◌∷◌, ◌++◌}
use mathlib.Core.Option.{Option, none, some}
use mathlib.Core.Logic.{⊎_elim}
use borrow.Author.Tests.{le-leb, lt-leb}
use native.Mathlib.Omega.{arith}
use lib.Dec.{eqb, leb}
use lib.ListN.{length, take, drop, length-append, length-drop, take-append-drop}
use lib.Seq.{length-take-le, get_or-take, get_or-drop, take_at, drop_at}
use Rattle.tools.specs.Tests.{pick, within}
use Rattle.tools.specs.Lists.{byte, tab}
use Rattle.tools.proofs.Tests.{lt_or_le}
use Rattle.tools.proofs.Lists.{length_tab, tab_at, is_tab}
use Rattle.text.specs.Digits.{number_at, numbers_at}
use Rattle.rules.specs.Setups.{Setup, setup_with}
use Rattle.rules.specs.Calls.{start}
use Rattle.commands.specs.Lines.{Wanted, makes, setup_from, miscounted, start_of, numbers_in}
use Rattle.commands.specs.Written.{numbers_of}
use Rattle.commands.proofs.Shapes.{numbers_part}

-- six numbers or more, as they stand in a text
module _ (l : List ℕ) (six : 6 ≤ length l / 4) where
  abbrev all : List ℕ
  all = numbers_in l

  many : length all ≡ length l / 4
  many = length_tab 0 (length l / 4) (λ i. number_at l (0 + 4 * i))

  nth : (i k : ℕ) → i < length l / 4 → k ≡ 0 + 4 * i → number_at l k ≡ byte all i
  nth i k h e = ap (number_at l) e ∙ sym (tab_at (length l / 4) (λ j. number_at l (0 + 4 * j)) i h)

  last
      : (i k : ℕ)
      → i < 4
      → k ≡ 8 + 4 * (length l / 4 - 6) + 4 * i
      → number_at l k ≡ byte (drop (length all - 4) all) i
  last i k h e =
      let m = many in
      nth (length all - 4 + i) k (omega arith) (omega arith) ∙ sym (get_or-drop (length all - 4) all i 0)

  between : (n : ℕ) → n ≡ 4 * (length l / 4 - 6) → numbers_in (take n (drop 8 l)) ≡ take (length all - 6) (drop 2 all)
  between n e =
      let m = many in
      let k : n / 4 ≡ length all - 6 = omega arith in
      let s : length (take (length all - 6) (drop 2 all)) ≡ length all - 6 =
      length-take-le (length all - 6) (drop 2 all) (simp length-drop (omega arith)) in
      numbers_part l 8 n (omega arith)
      ∙ ap (numbers_at l 8) k
      ∙ sym
      (is_tab (length all - 6) (λ i. number_at l (8 + 4 * i)) (take (length all - 6) (drop 2 all)) s
      (λ i q.
      get_or-take (length all - 6) (drop 2 all) i 0 q ∙ get_or-drop 2 all i 0
      ∙ sym (nth (2 + i) (8 + 4 * i) (omega arith) (omega arith))))

  -- the last four are at z
  pub setup_of
      : (D P M A m a z : ℕ)
      → D ≡ number_at l 0
      → P ≡ number_at l 4
      → M ≡ number_at l z
      → A ≡ number_at l (z + 4)
      → m ≡ number_at l (z + 8)
      → a ≡ number_at l (z + 12)
      → z ≡ 8 + 4 * (length l / 4 - 6)
      → setup_with (record { desks = D; phases = P; seat_lag = M; shelf_lag = A; back = m; ahead = a }) (numbers_in (take (z - 8) (drop 8 l)))
      ≡ setup_from all
  unfolding setup_from
  setup_of D P M A m a z d p s h b f e =
      let d' = d ∙ nth 0 0 (omega arith) (omega arith) in
      let p' = p ∙ nth 1 4 (omega arith) (omega arith) in
      let s' = s ∙ last 0 z (omega arith) (omega arith) in
      let h' = h ∙ last 1 (z + 4) (omega arith) (omega arith) in
      let b' = b ∙ last 2 (z + 8) (omega arith) (omega arith) in
      let f' = f ∙ last 3 (z + 12) (omega arith) (omega arith) in
      let l' = between (z - 8) (omega arith) in
      λ i. record {
        desks = d' i;
        phases = p' i;
        limits = l' i;
        seat_lag = s' i;
        shelf_lag = h' i;
        back = b' i;
        ahead = f' i;
      }

  -- D is the first, n stand between, and t says whether so many limits are miscounted
  pub counted
      : (D n : ℕ) {t : Bool}
      → D ≡ number_at l 0
      → n ≡ length l / 4 - 6
      → t ≡ (within 2 8 D && not (eqb n D))
      → miscounted (setup_from all) ≡ t
  unfolding setup_from miscounted
  counted D n d h e =
      let m = many in
      let k : length (take (length all - 6) (drop 2 all)) ≡ n =
      length-take-le (length all - 6) (drop 2 all) (simp length-drop (omega arith)) ∙ omega arith in
      rw (miscounted, k, ← nth 0 0 (omega arith) (omega arith), ← d) (sym e)

  abbrev Answer : Option Wanted → Type 0
  Answer o = o ≡ pick (leb 6 (length all)) (start_of all) none

  pub started : (X : Setup) → X ≡ setup_from all → miscounted (setup_from all) ≡ false → Answer (some (makes (start X)))
  unfolding start_of
  started X e h =
      let m = many in
      rw (le-leb 6 (length all) (omega arith), start_of, h) (ap (λ (Y : Setup). some (makes (start Y))) e)

  pub not_started : miscounted (setup_from all) ≡ true → Answer none
  unfolding start_of
  not_started h = let m = many in rw (le-leb 6 (length all) (omega arith), start_of, h)

pub too_few
    : (l : List ℕ)
    → (6 ≤ length l / 4 → ⊥)
    → ◌≡◌ {A = Option Wanted} none (pick (leb 6 (length (numbers_in l))) (start_of (numbers_in l)) none)
too_few l h =
    let m = length_tab 0 (length l / 4) (λ i. number_at l (0 + 4 * i)) in
    ⊎_elim (λ (q : length l / 4 < 6). rw (lt-leb 6 (length (numbers_in l)) (omega arith)))
    (λ (q : 6 ≤ length l / 4). absurd (h q)) (lt_or_le (length l / 4) 6)

pub setup_back : (X : Setup) → setup_from (numbers_of (makes (start X))) ≡ X
unfolding setup_from
setup_back X =
    let four = X.seat_lag ∷ X.shelf_lag ∷ X.back ∷ X.ahead ∷ [] in
    let ns = numbers_of (makes (start X)) in
    let k : length X.limits ≡ length ns - 6 = simp length-append (omega arith) in
    let e : length (X.desks ∷ X.phases ∷ X.limits) ≡ length ns - 4 = simp length-append (omega arith) in
    rw (take_at X.limits four (length ns - 6) k, drop_at (X.desks ∷ X.phases ∷ X.limits) four (length ns - 4) e)

pub setup_whole : (ns : List ℕ) → 6 ≤ length ns → numbers_of (makes (start (setup_from ns))) ≡ ns
unfolding setup_from tab
setup_whole [] h = absurd (omega arith)
setup_whole (D ∷ []) h = absurd (omega arith)
setup_whole (D ∷ P ∷ ns) h =
    let k = length ns - 4 in
    let a : length (D ∷ P ∷ ns) - 6 ≡ k = omega arith in
    let b : length (D ∷ P ∷ ns) - 4 ≡ suc (suc k) = omega arith in
    let s : length (drop k ns) ≡ 4 = simp length-drop (omega arith) in
    rw (a, b)
    (ap (λ (four : List ℕ). D ∷ P ∷ take k ns ++ four) (sym (is_tab 4 (byte (drop k ns)) (drop k ns) s (λ i q. refl)))
    ∙ ap (λ (rest : List ℕ). D ∷ P ∷ rest) (take-append-drop k ns))
