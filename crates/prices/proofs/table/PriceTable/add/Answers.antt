use Rattle.std.proofs.Common.{◌≡◌, true, List, [], ◌∷◌, ◌++◌, vec_items, sym, subst, rules}
use Rattle.std.specs.List.{list_all}
use Rattle.prices.specs.Quotes.{AddsPrice}
use Rattle.prices.specs.Rows.{components_in, has_one_energy, row_in_range, rows_quote}
use Rattle.prices.specs.declared.row.PriceRow.{PriceRow}
use Rattle.prices.proofs.Accepted.{accepted_row, energy_push, all_push, row_adds}
use Rattle.prices.proofs.table.PriceTable.add.Goals as goal

pub push-requires : goal.push-requires
push-requires c = let room = (accepted_row (vec_items c.args.self.now.rows.items) c.args.row c.in_ok-check.ensures).room in search rules

pub invariant_of-self : goal.invariant_of-self
invariant_of-self c =
    let rs = vec_items c.args.self.now.rows.items in
    let row = accepted_row rs c.args.row c.in_ok-check.ensures in
    let added : vec_items c.push.new.self.items ≡ rs ++ c.args.row ∷ [] = search rules in
    record {
      in_range = subst (λ (xs : List PriceRow). list_all row_in_range xs ≡ true) (sym added) (all_push row_in_range rs c.args.row c.args.self.now.in_range row.ranged);
      one_energy = subst (λ (xs : List PriceRow). has_one_energy xs ≡ true) (sym added) (energy_push rs c.args.row c.args.self.now.one_energy row.fits);
    }

pub returns : goal.returns
returns c =
    let rs = vec_items c.args.self.now.rows.items in
    let added : vec_items c.push.new.self.items ≡ rs ++ c.args.row ∷ [] = search rules in
    (c.in_ok-check.ensures, added, subst (λ (xs : List PriceRow). AddsPrice (rows_quote rs) (rows_quote xs) c.args.row.code (components_in c.args.row)) (sym added) (row_adds rs c.args.row c.in_ok-check.ensures))
