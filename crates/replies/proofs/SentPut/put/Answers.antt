use Rattle.text.specs.Put.{field}
use Rattle.text.proofs.Writing.{then, wrote_length}
use Rattle.rules.specs.Replies.{row_of, slot_in}
use Rattle.replies.proofs.Lengths.{slot_length, stamp_room}
use Rattle.replies.proofs.Behind.{behind}
use native.Mathlib.Omega.{arith}
use Rattle.replies.proofs.SentPut.put.Goals as goal

-- there is room for a slot and the newline
pub put_slot-d-requires : goal.put_slot-d-requires
put_slot-d-requires c =
    let room = stamp_room c.args.desks _ 5 (row_of c.args.self.stamp.row) c.put_stamp-c.ensures c.requires.printable (omega arith) in
    omega (arith, room)

pub put_byte-requires : goal.put_byte-requires
put_byte-requires c =
    let room = stamp_room c.args.desks _ 5 (row_of c.args.self.stamp.row) c.put_stamp-c.ensures c.requires.printable (omega arith) in
    omega (arith, room, wrote_length c.put_slot-d.ensures, slot_length (slot_in c.args.self.slot))

pub returns : goal.returns
returns c =
    let stamped = then c.put_three-a.ensures (then c.put_field-b.ensures c.put_stamp-c.ensures) in
    then (behind field (slot_in c.args.self.slot) stamped c.put_slot-d.ensures) c.put_byte.ensures
