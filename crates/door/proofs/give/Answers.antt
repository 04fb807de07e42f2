use Rattle.std.proofs.Common.{refl, ap, ◌∙◌, rules}
use lib.Dec.{ltb}
use lib.ListN.{length}
use Rattle.rules.specs.Model.{refusal}
use Rattle.door.specs.Door.{cramped}
use Rattle.door.proofs.Given.{gives_refusal, gives_value}
use Rattle.door.proofs.give.Goals as goal

pub returns-in-Ok : goal.returns-in-Ok
returns-in-Ok g c = λ v f none told.
    gives_value v f none _ _ _ _ c.in-Ok.value _ c.in-Ok.is c.give_byte.ensures (told c.in-Ok.value _ (search rules))

pub returns-in-Err : goal.returns-in-Err
returns-in-Err g c = λ v f none told.
    gives_refusal v f none _ _ _ _ c.in-Err.refusal c.in-Err.is refl
    (c.number_by.ensures ∙ ap (λ n. (cramped (ltb (length c.args.target.now) 1) (refusal n)).number) c.number.ensures)
