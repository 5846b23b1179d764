use Rattle.std.proofs.Common.{rules}
use Rattle.histories.proofs.Examples.{worked_hours}
use Rattle.histories.proofs.worked_hours.Goals as goal

pub returns : goal.returns
returns c = (search rules, worked_hours)
