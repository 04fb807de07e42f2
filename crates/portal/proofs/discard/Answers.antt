use Rattle.portal.proofs.Acts.{discard_acts}
use Rattle.portal.proofs.discard.Goals as goal

pub returns : goal.returns
returns c =
    let e = c.free.ensures in let w = discard_acts _ _ _ _ e.value e.book_after in record { result_value = w.0; book_after = w.1 }
