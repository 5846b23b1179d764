use Rattle.std.proofs.Common.{rules}
use Rattle.prices.specs.Priced.{price_of}
use Rattle.prices.specs.Prices.{price_is}
use Rattle.prices.proofs.price.Price.new.Goals as goal

pub returns-then-are_in_range : goal.returns-then-are_in_range
returns-then-are_in_range c = price_is _

pub returns-else-are_in_range : goal.returns-else-are_in_range
unfolding price_of
returns-else-are_in_range c = search rules
