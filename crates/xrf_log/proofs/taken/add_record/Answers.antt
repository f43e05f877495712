-- There is room for what a put adds, and a record that ends a unit takes out what the filter does.
use Rattle.std.proofs.Common.{arith, ap, sym, ◌∙◌, not, ◌∷◌, filter, reverse, length}
use Rattle.std.proofs.lemmas.List.{length-reverse}
use Rattle.xrf_logrec.specs.LogRecords.{same_unit}
use Rattle.xrf_log.specs.Flight.{flight, open_puts}
use Rattle.xrf_logrec.proofs.Lists.{filter-reverse}
use Rattle.xrf_log.proofs.FlightLaws.{length-flight, length-open_puts, flight-commit, flight-backout, open_puts-commit, open_puts-backout}
use Rattle.xrf_log.proofs.taken.add_record.Goals as goal

pub add_put-requires-clause-unit_room : goal.add_put-requires-clause-unit_room
add_put-requires-clause-unit_room c =
    omega (arith, ap length c.requires.units, length-flight (reverse c.args.records.now), length-reverse c.args.records.now, c.args.units.now.ok.0, c.requires.unit_room)

pub add_put-requires-clause-row_room : goal.add_put-requires-clause-row_room
add_put-requires-clause-row_room c =
    omega (arith, ap length c.requires.rows, length-reverse (open_puts (reverse c.args.records.now)), length-open_puts (reverse c.args.records.now), length-reverse c.args.records.now, c.args.rows.now.ok.0, c.requires.row_room)

pub returns-in-Commit-clause-units : goal.returns-in-Commit-clause-units
returns-in-Commit-clause-units c =
    let unit = c.in-Commit.unit in
    let log = reverse c.args.records.now in
    c.end_unit.ensures.units ∙ ap (filter (λ u. not (same_unit u unit))) c.requires.units ∙ sym (flight-commit log unit)
    ∙ ap (λ r. flight (r ∷ log)) (sym c.in-Commit.is)

pub returns-in-Commit-clause-rows : goal.returns-in-Commit-clause-rows
returns-in-Commit-clause-rows c =
    let unit = c.in-Commit.unit in
    let log = reverse c.args.records.now in
    c.end_unit.ensures.rows ∙ ap (filter (λ row. not (same_unit row.unit unit))) c.requires.rows
    ∙ filter-reverse (λ row. not (same_unit row.unit unit)) (open_puts log) ∙ ap reverse (sym (open_puts-commit log unit))
    ∙ ap (λ r. reverse (open_puts (r ∷ log))) (sym c.in-Commit.is)

pub returns-in-Backout-clause-units : goal.returns-in-Backout-clause-units
returns-in-Backout-clause-units c =
    let unit = c.in-Backout.unit in
    let log = reverse c.args.records.now in
    c.end_unit-in-Backout.ensures.units ∙ ap (filter (λ u. not (same_unit u unit))) c.requires.units ∙ sym (flight-backout log unit)
    ∙ ap (λ r. flight (r ∷ log)) (sym c.in-Backout.is)

pub returns-in-Backout-clause-rows : goal.returns-in-Backout-clause-rows
returns-in-Backout-clause-rows c =
    let unit = c.in-Backout.unit in
    let log = reverse c.args.records.now in
    c.end_unit-in-Backout.ensures.rows ∙ ap (filter (λ row. not (same_unit row.unit unit))) c.requires.rows
    ∙ filter-reverse (λ row. not (same_unit row.unit unit)) (open_puts log) ∙ ap reverse (sym (open_puts-backout log unit))
    ∙ ap (λ r. reverse (open_puts (r ∷ log))) (sym c.in-Backout.is)
