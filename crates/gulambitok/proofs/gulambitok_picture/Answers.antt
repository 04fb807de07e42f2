use Rattle.gulambitok.proofs.Called.{called}
use Rattle.gulambitok.proofs.gulambitok_picture.Goals as goal

pub returns : goal.returns
returns c = search called
