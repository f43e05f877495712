-- Each branch adds what the put adds to the units in flight and their puts.
use Rattle.std.proofs.Common.{◌≡◌, true, false, ◌∷◌, ◌++◌, [], reverse, ap, sym, ◌∙◌}
use Rattle.std.specs.List.{list_any}
use Rattle.xrf_logrec.specs.LogRecords.{same_unit}
use Rattle.xrf_log.specs.Flight.{ends, has_ended, flight, open_puts}
use Rattle.xrf_logrec.proofs.Lists.{list_any-reverse, reverse-cons}
use Rattle.xrf_log.proofs.FlightLaws.{flight-put_again, flight-put_first, flight-put_ended, open_puts-put, open_puts-put_ended, in_flight-not_ended}
use Rattle.xrf_log.proofs.taken.add_put.Goals as goal

pub returns-then-contains-clause-units : goal.returns-then-contains-clause-units
returns-then-contains-clause-units c =
    let log = reverse c.args.records.now in
    let found : list_any (λ u. same_unit u c.args.row.unit) (flight log) ≡ true =
    ap (list_any (λ u. same_unit u c.args.row.unit)) (sym (c.deref.ensures.value ∙ c.requires.units)) ∙ sym c.contains.ensures ∙ c.if-contains.true in
    c.requires.units ∙ sym (flight-put_again log c.args.row found)

pub returns-then-contains-clause-rows : goal.returns-then-contains-clause-rows
returns-then-contains-clause-rows c =
    let log = reverse c.args.records.now in
    let found : list_any (λ u. same_unit u c.args.row.unit) (flight log) ≡ true =
    ap (list_any (λ u. same_unit u c.args.row.unit)) (sym (c.deref.ensures.value ∙ c.requires.units)) ∙ sym c.contains.ensures ∙ c.if-contains.true in
    c.push_reserved.ensures.items ∙ ap (λ l. l ++ c.args.row ∷ []) c.requires.rows ∙ sym (reverse-cons c.args.row (open_puts log))
    ∙ ap reverse (sym (open_puts-put log c.args.row (in_flight-not_ended log c.args.row.unit found)))

pub returns-then-not-has_ended-clause-units : goal.returns-then-not-has_ended-clause-units
returns-then-not-has_ended-clause-units c =
    let log = reverse c.args.records.now in
    let absent : list_any (λ u. same_unit u c.args.row.unit) (flight log) ≡ false =
    ap (list_any (λ u. same_unit u c.args.row.unit)) (sym (c.deref.ensures.value ∙ c.requires.units)) ∙ sym c.contains.ensures ∙ c.if-contains.false in
    let open_yet : has_ended c.args.row.unit log ≡ false = list_any-reverse (ends c.args.row.unit) c.args.records.now ∙ sym c.has_ended.ensures ∙ c.if-not-has_ended.true in
    c.push_reserved-then-not-has_ended.ensures.items ∙ ap (λ l. l ++ c.args.row.unit ∷ []) c.requires.units ∙ sym (flight-put_first log c.args.row absent open_yet)

pub returns-then-not-has_ended-clause-rows : goal.returns-then-not-has_ended-clause-rows
returns-then-not-has_ended-clause-rows c =
    let log = reverse c.args.records.now in
    let open_yet : has_ended c.args.row.unit log ≡ false = list_any-reverse (ends c.args.row.unit) c.args.records.now ∙ sym c.has_ended.ensures ∙ c.if-not-has_ended.true in
    c.push_reserved-then-not-has_ended-2.ensures.items ∙ ap (λ l. l ++ c.args.row ∷ []) c.requires.rows ∙ sym (reverse-cons c.args.row (open_puts log))
    ∙ ap reverse (sym (open_puts-put log c.args.row open_yet))

pub returns-else-not-has_ended-clause-units : goal.returns-else-not-has_ended-clause-units
returns-else-not-has_ended-clause-units c =
    let log = reverse c.args.records.now in
    let ended : has_ended c.args.row.unit log ≡ true = list_any-reverse (ends c.args.row.unit) c.args.records.now ∙ sym c.has_ended.ensures ∙ c.if-not-has_ended.false in
    c.requires.units ∙ sym (flight-put_ended log c.args.row ended)

pub returns-else-not-has_ended-clause-rows : goal.returns-else-not-has_ended-clause-rows
returns-else-not-has_ended-clause-rows c =
    let log = reverse c.args.records.now in
    let ended : has_ended c.args.row.unit log ≡ true = list_any-reverse (ends c.args.row.unit) c.args.records.now ∙ sym c.has_ended.ensures ∙ c.if-not-has_ended.false in
    c.requires.rows ∙ ap reverse (sym (open_puts-put_ended log c.args.row ended))
