use Prim.Native.Nat.{ℕ, ◌+◌, ◌-◌, ◌<◌}
use mathlib.Core.Path.{◌≡◌, ap, ◌∙◌}
use native.Mathlib.Omega.{arith}
use lib.ListN.{length, take, drop}
use Rattle.parts.specs.Slices.{place}
use Rattle.book.specs.Layout.{book_size, row_size}
use Rattle.book.proofs.Soundness.{sound_size}
use Rattle.asking.proofs.Slots.{slot_place}
use Rattle.refusals.proofs.Slots.{show_one}
use Rattle.asking.proofs.Accepted.{show_part, show_from}
use borrow.Author.Rules.{rules}
use Rattle.asking.proofs.row_part.Goals as goal

pub overflow_add-slot : goal.overflow_add-slot
overflow_add-slot c =
    let below : c.args.slot < 32 = slot_place c.args.book.now c.args.slot (show_one _ _ c.requires).used in
    let b = below in omega arith

pub spot-a-requires : goal.spot-a-requires
spot-a-requires c =
    let below : c.args.slot < 32 = slot_place c.args.book.now c.args.slot (show_one _ _ c.requires).used in
    let b = below in (omega arith, search rules)

pub overflow_add-e : goal.overflow_add-e
overflow_add-e c =
    let below : c.args.slot < 32 = slot_place c.args.book.now c.args.slot (show_one _ _ c.requires).used in
    let b = below in omega arith

pub slice_bounds-result-end : goal.slice_bounds-result-end
slice_bounds-result-end c =
    let below : c.args.slot < 32 = slot_place c.args.book.now c.args.slot (show_one _ _ c.requires).used in
    let size : length c.args.book.now ≡ book_size = sound_size _ (show_one _ _ c.requires).whole in
    let b = below in let z = size in omega arith

pub returns : goal.returns
returns c =
    let a = c.spot-a in let e : a.result + row_size - a.result ≡ row_size = omega arith in record {
      result_value = ap (λ (n : ℕ). take n (drop a.result c.args.book.now)) e
          ∙ rw a.ensures (show_part c.args.book.now c.args.slot c.requires);
      ref_ptr_value = ap (place c.args.book) (a.ensures ∙ show_from c.args.book.now c.args.slot c.requires);
    }
