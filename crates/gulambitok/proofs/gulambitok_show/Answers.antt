use Rattle.gulambitok.proofs.Called.{called}
use Rattle.gulambitok.proofs.gulambitok_show.Goals as goal

pub returns-then-row-lt-ROW_BYTES : goal.returns-then-row-lt-ROW_BYTES
returns-then-row-lt-ROW_BYTES c = search called

pub returns-then-n-ne-DONE : goal.returns-then-n-ne-DONE
returns-then-n-ne-DONE c = search called

pub lend-requires : goal.lend-requires
lend-requires c = search called

pub returns : goal.returns
returns c = search called
