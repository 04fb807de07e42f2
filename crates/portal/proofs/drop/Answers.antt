use Rattle.portal.proofs.Acts.{drop_acts}
use Rattle.portal.proofs.drop.Goals as goal

pub returns : goal.returns
returns c =
    let e = c.free.ensures in let w = drop_acts _ _ _ _ e.value e.book_after in record { result_value = w.0; book_after = w.1 }
