-- A price table: its rows, and what it says.
use Rattle.std.specs.Prelude.{List, vec_items}
use Rattle.prices.specs.Quotes.{Quote}
use Rattle.prices.specs.Rows.{rows_quote}
use Rattle.prices.specs.declared.row.PriceRow.{PriceRow}
use Rattle.prices.specs.declared.table.PriceTable.{PriceTable}

-- a table's rows, in the order in which they were added
abbrev pub rows_of : PriceTable → List PriceRow
rows_of t = vec_items t.rows.items

-- what a table says
abbrev pub table_quote : PriceTable → Quote
table_quote t = rows_quote (rows_of t)
