use Rattle.rules.proofs.Once.{not_done}
use Rattle.portal.proofs.Asked.{show_refused}
use Rattle.portal.proofs.show.Goals as goal

pub returns-in_default : goal.returns-in_default
returns-in_default c =
    let h = show_refused c.args.book _ _ c.in_default.ensures (not_done c.in_default.field-0) in
    record { result_value = h.0; ref_ptr_value = h.1 }
