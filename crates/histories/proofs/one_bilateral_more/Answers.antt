use Rattle.std.proofs.Common.{arith}
use Rattle.histories.proofs.Laws.{one_bilateral_more}
use Rattle.histories.proofs.one_bilateral_more.Goals as goal

pub returns : goal.returns
returns c o past o' past' = one_bilateral_more _ (omega arith) o past o' past'
