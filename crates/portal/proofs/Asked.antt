-- What show and write hand back and leave.
-- Assumes nothing.
use Prim.Native.Nat.{ℕ, zero, suc, ◌+◌}
use mathlib.Core.Path.{◌≡◌, refl, ap}
use mathlib.Core.List.{List, []}
use lib.ListN.{length}
use Rattle.tools.specs.Reasons.{if_done}
use Rattle.rules.specs.Model.{show, write, Answer}
use Rattle.book.specs.Stamps.{filled}
use Rattle.book.specs.Answers.{part_in, record_in, part_of, part_from, target_after}
use Rattle.book.specs.Numbers.{number_of}
use Rattle.book.specs.Codec.{decode}
use Rattle.book.specs.Layout.{shelf_from, row_spot, spot}
use Rattle.book.proofs.Numbers.{refused_answer}
use Rattle.parts.specs.Slices.{Slice, place}

-- a refused show: an empty part of the book, at its front; and a refused write
pub show_refused : (s : Slice) (i n : ℕ) → n ≡ number_of s.now (show i) → (n ≡ 0 → ⊥)
    → ([] ≡ part_of s.now i) × (place s 0 ≡ place s (part_from s.now i))
show_refused s i zero e ne = absurd (ne refl)
show_refused s i (suc n) e ne =
    let r = refused_answer s.now (show i) (suc n) e ne in (
      ap (λ (a : Answer). part_in a.value) r,
      ap (λ (a : Answer). place s (if_done a.number (spot (shelf_from + i) row_spot) 0)) r,
    )

pub write_refused : (s : List ℕ) (i : ℕ) (t : List ℕ) (n : ℕ) → n ≡ number_of s (write i (length t)) → (n ≡ 0 → ⊥) → t ≡ target_after s i t
unfolding filled
write_refused s i t n e ne =
    ap (λ (a : Answer). filled t (record_in (decode s).setup.desks a.value)) (refused_answer s (write i (length t)) n e ne)
