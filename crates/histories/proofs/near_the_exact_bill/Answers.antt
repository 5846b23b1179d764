use Rattle.std.proofs.Common.{arith}
use Rattle.histories.proofs.Laws.{near_exact}
use Rattle.histories.proofs.near_the_exact_bill.Goals as goal

pub returns : goal.returns
returns c o past = near_exact _ _ _ (omega arith) (omega arith) (omega arith) o past
