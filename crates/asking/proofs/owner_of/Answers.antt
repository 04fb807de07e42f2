use native.Mathlib.Omega.{arith}
use Rattle.asking.proofs.Slots.{slot_place, slot_used, slot_by}
use Rattle.asking.proofs.owner_of.Goals as goal

pub overflow_add-slot : goal.overflow_add-slot
overflow_add-slot c = omega (arith, slot_place c.args.book.now c.args.slot c.requires)

pub tag_a-requires : goal.tag_a-requires
tag_a-requires c = omega (arith, slot_place c.args.book.now c.args.slot c.requires)

pub overflow_sub-result : goal.overflow_sub-result
overflow_sub-result c = omega (arith, c.tag_a.ensures, slot_used c.args.book.now c.args.slot c.requires)

pub returns : goal.returns
returns c = cc (slot_by c.args.book.now c.args.slot c.requires)
