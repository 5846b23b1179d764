use Rattle.obligations.proofs.Worth.{position_worth, unrounded_is}
use Rattle.obligations.proofs.charges_in_one_pass.Goals as goal

pub returns : goal.returns
returns c b = record { positions = λ s. position_worth s b; charges = unrounded_is b }
