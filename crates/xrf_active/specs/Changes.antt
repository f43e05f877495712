-- What an item takes off the terminal table.
use Rattle.std.specs.Prelude.{List, Option, None}
use Rattle.xrf_base.specs.declared.items.Item.{Item}
use Rattle.xrf_base.specs.declared.items.Item.TheVariants as items
use Rattle.xrf_terms.specs.declared.rows.Row.{Row}
use Rattle.xrf_terms.specs.Table.{row_of}

-- the row of a terminal that an item takes off
abbrev pub off_row : Item → List Row → Option Row
off_row (items.Logoff term) rows = row_of term rows
off_row _ rows = None
