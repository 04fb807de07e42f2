use mathlib.Core.Path.{◌∙◌}
use native.Mathlib.Omega.{arith}
use Rattle.book.proofs.Told.{few_desks}
use Rattle.asking.proofs.Slots.{slot_place}
use Rattle.refusals.proofs.Slots.{write_one}
use Rattle.asking.proofs.Accepted.{write_record}
use Rattle.asking.proofs.record_at.Goals as goal

pub overflow_add-slot : goal.overflow_add-slot
overflow_add-slot c = omega (arith, slot_place c.args.book.now c.args.slot (write_one _ _ c.args.room c.requires).used)

pub row_array-row-requires : goal.row_array-row-requires
row_array-row-requires c = omega (arith, slot_place c.args.book.now c.args.slot (write_one _ _ c.args.room c.requires).used)

pub owner_of-owner-requires : goal.owner_of-owner-requires
owner_of-owner-requires c = (write_one _ _ _ c.requires).used

pub overflow_cast-desks_of : goal.overflow_cast-desks_of
overflow_cast-desks_of c = omega (arith, c.desks_of.ensures, few_desks _ (write_one _ _ _ c.requires).whole)

pub returns : goal.returns
returns c =
    c.record_of.ensures
    ∙ write_record c.args.book.now c.args.slot c.args.room c.requires _ _ _ c.desks_of.ensures
    c.owner_of-owner.ensures c.row_array-row.ensures
