-- A row and its sixteen bytes: each tells the other.
-- Assumes nothing.
use Prim.Native.Nat.{ℕ, ◌+◌, ◌*◌, ◌/◌, ◌%◌, ◌≤◌, ◌<◌}
use mathlib.Core.Path.{◌≡◌, refl, sym, ap, ◌∙◌, fun_ext}
use mathlib.Core.Bool.{Bool, true, false}
use mathlib.Core.List.{List}
use mathlib.Core.Logic.{⊎_elim}
use native.Mathlib.Omega.{arith}
use borrow.Author.Tests.{ltb-true, ltb-false, lt-ltb, eq-eqb, ne_eqb}
use lib.Dec.{ltb}
use lib.ListN.{length}
use Rattle.tools.specs.Tests.{pick}
use Rattle.tools.specs.Lists.{byte}
use Rattle.tools.proofs.Tests.{eq_or_ne}
use Rattle.tools.proofs.Lists.{tab_at, is_tab, tab_same}
use Rattle.rules.specs.Model.{Row, zeros}
use Rattle.rules.specs.Replies.{phase_spot, clock_spot, row_byte, row_bytes, row_of}

pub row_phase : (r : Row) (j : ℕ) → row_byte r (phase_spot j) ≡ (r j).phase
unfolding row_byte
row_phase r j =
    let e : (2 * j) % 2 ≡ 0 = omega arith in
    let d : 2 * j / 2 ≡ j = omega arith in
    rw (eq-eqb _ _ e, d)

pub row_clock : (r : Row) (j : ℕ) → row_byte r (clock_spot j) ≡ (r j).clock
unfolding row_byte
row_clock r j =
    let e : (1 + 2 * j) % 2 ≡ 0 → ⊥ = omega arith in
    let d : (1 + 2 * j) / 2 ≡ j = omega arith in
    rw (ne_eqb _ _ e, d)

-- rows that agree for eight desks have the same bytes
pub row_alike : (r s : Row) → ((j : ℕ) → j < 8 → r j ≡ s j) → (c : ℕ) → c < 16 → row_byte r c ≡ row_byte s c
unfolding row_byte
row_alike r s h c l = rw (h (c / 2) (omega arith))

pub rows_alike : (r s : Row) → ((j : ℕ) → j < 8 → r j ≡ s j) → row_bytes r ≡ row_bytes s
unfolding row_bytes
rows_alike r s h = tab_same 16 (row_byte r) (row_byte s) (row_alike r s h)

-- zero beyond the eighth desk
abbrev pub Eight : Row → Type 0
Eight r = (k : ℕ) → 8 ≤ k → r k ≡ zeros k

pub row_of_bytes : (r : Row) → Eight r → row_of (row_bytes r) ≡ r
unfolding row_bytes
row_of_bytes r e = fun_ext (λ k. go k (ltb k 8) refl)
  where
    go : (k : ℕ) (t : Bool) → ltb k 8 ≡ t
        → pick t (record { phase = byte (row_bytes r) (phase_spot k); clock = byte (row_bytes r) (clock_spot k) }) (zeros k) ≡ r k
    go k true l =
        let m = ltb-true k 8 l in
        let p = tab_at 16 (row_byte r) (phase_spot k) (omega arith) ∙ row_phase r k in
        let q = tab_at 16 (row_byte r) (clock_spot k) (omega arith) ∙ row_clock r k in
        λ i. record { phase = p i; clock = q i }
    go k false l = sym (e k (ltb-false k 8 l))

-- and sixteen bytes are those of the row that they tell
pub bytes_of_row : (l : List ℕ) → length l ≡ 16 → row_bytes (row_of l) ≡ l
unfolding row_bytes
bytes_of_row l n = sym (is_tab 16 (row_byte (row_of l)) l n there)
  where
    there : (i : ℕ) → i < 16 → byte l i ≡ row_byte (row_of l) i
    there i m =
        let k = lt-ltb (i / 2) 8 (omega arith) in
        ⊎_elim (λ (e : i % 2 ≡ 0).
        let q : i ≡ phase_spot (i / 2) = omega arith in
        ap (byte l) q ∙ sym (ap (row_byte (row_of l)) q ∙ row_phase (row_of l) (i / 2) ∙ rw k))
        (λ (e : i % 2 ≡ 0 → ⊥).
        let q : i ≡ clock_spot (i / 2) = omega arith in
        ap (byte l) q ∙ sym (ap (row_byte (row_of l)) q ∙ row_clock (row_of l) (i / 2) ∙ rw k)) (eq_or_ne (i % 2) 0)

-- so sixteen bytes are fixed by the row that they tell
pub row_once : (l l' : List ℕ) → length l ≡ 16 → length l' ≡ 16 → row_of l ≡ row_of l' → l ≡ l'
row_once l l' n n' e = sym (bytes_of_row l n) ∙ ap row_bytes e ∙ bytes_of_row l' n'
