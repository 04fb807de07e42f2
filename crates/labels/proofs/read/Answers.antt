use Rattle.std.proofs.Common.{arith, length, drop, length-drop, ◌-◌}
use Rattle.std.proofs.lemmas.List.{length-take-le}
use Rattle.labels.proofs.Answered.{who_size, refused_reading, told_reading}
use Rattle.labels.proofs.read.Goals as goal

-- the record is refused
pub returns-in_default : goal.returns-in_default
returns-in_default c =
    let r = refused_reading _ _ _ c.who_of-who.ensures _ c.in_default.is in
    record { result_value = r.0; row_beside = r.1 }

pub slice_bounds-copy_from_slice-count : goal.slice_bounds-copy_from_slice-count
slice_bounds-copy_from_slice-count c = omega (arith, who_size _ _ _ c.who_of-who.ensures _ c.in-Ok.is)

pub slice_bounds-copy_from_slice-start : goal.slice_bounds-copy_from_slice-start
slice_bounds-copy_from_slice-start c = omega (arith, who_size _ _ _ c.who_of-who.ensures _ c.in-Ok.is)

pub copy_from_slice-requires : goal.copy_from_slice-requires
copy_from_slice-requires c =
    let n = who_size _ _ _ c.who_of-who.ensures _ c.in-Ok.is in
    let l = c.args.bytes.now in
    omega (arith, n, length-drop 4 l, length-take-le (length l - 4) (drop 4 l) (omega (arith, length-drop 4 l)))

-- the record tells its owner
pub returns : goal.returns
returns c =
    let r = told_reading _ _ _ c.who_of-who.ensures _ _ c.in-Ok.is c.copy_from_slice.ensures.after in
    record { result_value = r.0; row_beside = r.1 }
