use Rattle.std.proofs.Common.{arith}
use Rattle.obligations.proofs.Limits.{pools_shareable}
use Rattle.obligations.proofs.Totals.{bills_make_fund}
use Rattle.obligations.proofs.bills_make_the_fund.Goals as goal

pub returns : goal.returns
returns c P b t k few = bills_make_fund b t P (pools_shareable P b k (omega (arith, few)) t)
