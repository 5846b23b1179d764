use Rattle.histories.proofs.Laws.{both_sides}
use Rattle.histories.proofs.both_sides_of_every_cent.Goals as goal

pub returns : goal.returns
returns c = both_sides
