-- The sums over the members of a group.
use Rattle.std.specs.Prelude.{◌≡◌, List}
use Rattle.prices.specs.Means.{congestion_of, loss_of, weighted_sum}
use Rattle.prices.specs.Members.{total_weight}
use Rattle.prices.specs.Quotes.{Quote}
use Rattle.prices.specs.declared.member.Member.{Member}
use Rattle.prices.specs.declared.price.Market.{Market}
use Rattle.prices.specs.declared.sums.Sums.{Sums}

-- the sum of the weights, and the sums of weight × component, over these members
pub record AreSums (below : Quote) (m : Market) (xs : List Member) (sums : Sums) : Type 0 where
  pub weight : sums.weight ≡ total_weight xs
  pub congestion : sums.congestion ≡ weighted_sum congestion_of below m xs
  pub loss : sums.loss ≡ weighted_sum loss_of below m xs
