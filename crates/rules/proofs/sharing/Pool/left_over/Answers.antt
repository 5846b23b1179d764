use Rattle.std.proofs.Common.{rules, arith, unsigned_abs}
use Rattle.rules.specs.Sharing.{sizes}
use Rattle.rules.proofs.Parts.{remainders_fit}
use Rattle.rules.proofs.sharing.Pool.left_over.Goals as goal

pub sum-requires-clause-fits : goal.sum-requires-clause-fits
sum-requires-clause-fits c = let fit = remainders_fit (unsigned_abs c.args.self.now.cents.0) (sizes c.args.self.now.weights.now) (omega (arith, c.args.self.now.positive)) in search rules

pub returns : goal.returns
returns c = let fit = remainders_fit (unsigned_abs c.args.self.now.cents.0) (sizes c.args.self.now.weights.now) (omega (arith, c.args.self.now.positive)) in search rules
