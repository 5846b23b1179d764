use Rattle.histories.proofs.Laws.{from_these_calls_alone}
use Rattle.histories.proofs.from_these_calls_alone.Goals as goal

pub returns : goal.returns
returns c = from_these_calls_alone
