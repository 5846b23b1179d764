use Rattle.std.proofs.Common.{rules}
use Rattle.prices.proofs.Products.{product_fits, sum_fits}
use Rattle.prices.proofs.sums.with_component.Goals as goal

pub overflow_add-result : goal.overflow_add-result
overflow_add-result c =
    let product = product_fits c.args.component c.args.weight c.requires.component c.requires.weight in
    let total = sum_fits c.args.sum c.args.component c.args.weight c.requires.component c.requires.weight c.requires.sum in
    search rules

pub returns : goal.returns
returns c =
    let product = product_fits c.args.component c.args.weight c.requires.component c.requires.weight in
    let total = sum_fits c.args.sum c.args.component c.args.weight c.requires.component c.requires.weight c.requires.sum in
    search rules
