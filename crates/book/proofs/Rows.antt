-- A row's sixteen bytes with one pair set.
-- Assumes nothing.
use Prim.Native.Nat.{ℕ, ◌+◌, ◌*◌, ◌/◌, ◌<◌}
use mathlib.Core.Path.{◌≡◌, sym, ap, ◌∙◌}
use mathlib.Core.List.{List}
use mathlib.Core.Logic.{⊎_elim}
use native.Mathlib.Omega.{arith}
use lib.ListN.{length, get_or, set, length-set}
use lib.Seq.{get_or-set_same, get_or-set_other}
use Rattle.tools.specs.Tables.{put}
use Rattle.tools.specs.Lists.{byte, tab}
use Rattle.tools.proofs.Tests.{eq_or_ne}
use Rattle.tools.proofs.Tables.{put_same, put_other}
use Rattle.tools.proofs.Lists.{length_tab, tab_at, is_tab, tab_same}
use Rattle.ring.specs.Phases.{Pair}
use Rattle.rules.specs.Model.{Row}
use Rattle.rules.specs.Replies.{row_byte, row_bytes}
use Rattle.rules.proofs.RowBytes.{row_phase, row_clock}
use Rattle.book.specs.Layout.{row_spot, spot, row_at}
use Rattle.book.proofs.Bytes.{row_at_lem}

-- the row that stands in the bytes
pub row_there : (b : List ℕ) (k : ℕ) → tab 0 16 (λ c. byte b (spot k row_spot + c)) ≡ row_bytes (row_at b k)
unfolding row_bytes
row_there b k =
    tab_same 16 _ (row_byte (row_at b k))
    (λ c l. let e : spot k row_spot + c ≡ spot k (row_spot + c) = omega arith in ap (byte b) e ∙ sym (row_at_lem b k c))

pub set_pair : (r : Row) (j : ℕ) → j < 8 → (q : Pair)
    → set (set (row_bytes r) (2 * j) q.phase) (1 + 2 * j) q.clock ≡ row_bytes (put r j q)
unfolding row_bytes
set_pair r j l q = is_tab 16 (row_byte (put r j q)) _ size there
  where
    old : List ℕ
    old = tab 0 16 (row_byte r)

    half : length (set old (2 * j) q.phase) ≡ 16
    half = length-set old (2 * j) q.phase ∙ length_tab 0 16 (row_byte r)

    size : length (set (set old (2 * j) q.phase) (1 + 2 * j) q.clock) ≡ 16
    size = length-set (set old (2 * j) q.phase) (1 + 2 * j) q.clock ∙ half

    there : (c : ℕ) → c < 16 → get_or (set (set old (2 * j) q.phase) (1 + 2 * j) q.clock) c 0 ≡ row_byte (put r j q) c
    there c m =
        ⊎_elim (λ (e : c ≡ 1 + 2 * j).
        rw e (get_or-set_same (set old (2 * j) q.phase) (1 + 2 * j) q.clock 0 (omega (arith, half))
        ∙ sym (row_clock (put r j q) j ∙ ap (λ (x : Pair). x.clock) (put_same r j q))))
        (λ (n : c ≡ 1 + 2 * j → ⊥).
        get_or-set_other (set old (2 * j) q.phase) (1 + 2 * j) c q.clock 0 n
        ∙ ⊎_elim (λ (e : c ≡ 2 * j).
        rw e (get_or-set_same old (2 * j) q.phase 0 (omega (arith, length_tab 0 16 (row_byte r)))
        ∙ sym (row_phase (put r j q) j ∙ ap (λ (x : Pair). x.phase) (put_same r j q))))
        (λ (n2 : c ≡ 2 * j → ⊥).
        get_or-set_other old (2 * j) c q.phase 0 n2 ∙ tab_at 16 (row_byte r) c m ∙ past c (omega arith)) (eq_or_ne c (2 * j)))
        (eq_or_ne c (1 + 2 * j))
      where
        past : (c : ℕ) → (c / 2 ≡ j → ⊥) → row_byte r c ≡ row_byte (put r j q) c
        past c n = unfold row_byte in rw (put_other r j q (c / 2) n)
