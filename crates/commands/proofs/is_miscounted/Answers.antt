use Rattle.tools.specs.Tests.{within, all_of}
use Rattle.std.proofs.Common.{rules}
use Rattle.commands.proofs.is_miscounted.Goals as goal

pub returns : goal.returns
unfolding within all_of
returns c = search rules
