use Rattle.std.proofs.Common.{refl}
use Rattle.runs.proofs.Means.{means_hold}
use Rattle.runs.proofs.worked_examples.Goals as goal

pub returns-clause-examples : goal.returns-clause-examples
returns-clause-examples c = ((refl, refl, refl, refl, refl, refl), (refl, refl, refl, refl), means_hold)
