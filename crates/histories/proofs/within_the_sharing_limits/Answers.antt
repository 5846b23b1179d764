use Rattle.std.proofs.Common.{arith}
use Rattle.histories.proofs.Laws.{within_sharing_limits}
use Rattle.histories.proofs.within_the_sharing_limits.Goals as goal

pub returns : goal.returns
returns c o past = within_sharing_limits _ _ (omega arith) (omega arith) o past
