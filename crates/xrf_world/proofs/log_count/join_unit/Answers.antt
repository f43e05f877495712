-- A put of a unit adds it to the units in flight where it is not there yet, and what ends a unit takes it out.
use Rattle.std.proofs.Common.{◌≡◌, ◌+◌, true, false, not, List, [], ◌∷◌, ◌++◌, length, filter, ap, sym, subst, ◌∙◌, arith}
use Rattle.std.proofs.lemmas.List.{length-append}
use Rattle.std.specs.List.{list_any}
use Rattle.xrf_base.specs.declared.items.UnitId.{UnitId}
use Rattle.xrf_log.specs.Flight.{flight, has_ended}
use Rattle.xrf_log.proofs.FlightLaws.{flight-put_again, flight-put_first, flight-commit, flight-backout}
use Rattle.xrf_logrec.specs.LogRecords.{same_unit, unit_of}
use Rattle.xrf_logrec.specs.declared.records.LogRec.{LogRec as Rec}
use Rattle.xrf_world.proofs.log_count.join_unit.Goals as goal

pub push_reserved-requires : goal.push_reserved-requires
push_reserved-requires c =
    let records = c.requires.joins.1 in
    let are : c.args.units.now.items ≡ flight records = c.requires.joins.2 in
    let joins = c.requires.joins.3 in
    let absent : list_any (λ u. same_unit u c.in-Put.unit) (flight records) ≡ false =
    ap (list_any (λ u. same_unit u c.in-Put.unit)) (sym (c.deref.ensures.value ∙ are)) ∙ sym c.contains.ensures ∙ c.if-not-contains.true in
    let open_yet : has_ended c.in-Put.unit records ≡ false = subst (λ (r : Rec). has_ended (unit_of r) records ≡ false) c.in-Put.is joins.open_unit in
    let grows : flight (c.args.rec.now ∷ records) ≡ flight records ++ c.in-Put.unit ∷ [] =
    ap (λ (r : Rec). flight (r ∷ records)) c.in-Put.is
    ∙ flight-put_first records (record { unit = c.in-Put.unit; undo = record { rrn = c.in-Put.rrn; before = c.in-Put.before } }) absent open_yet in
    let long : length (flight (c.args.rec.now ∷ records)) ≡ length (flight records) + 1 = ap length grows ∙ length-append (flight records) (c.in-Put.unit ∷ []) in
    let counted : length c.args.units.now.items ≡ length (flight records) = ap length are in
    let held : length c.deref.result.now ≡ length c.args.units.now.items = ap length c.deref.ensures.value in
    omega (arith, long, counted, held, c.deref.ensures.len, joins.room, c.requires.joins.4)

pub returns-then-not-contains-clause-units : goal.returns-then-not-contains-clause-units
returns-then-not-contains-clause-units c = λ slots records are joins.
    let absent : list_any (λ u. same_unit u c.in-Put.unit) (flight records) ≡ false =
    ap (list_any (λ u. same_unit u c.in-Put.unit)) (sym (c.deref.ensures.value ∙ are)) ∙ sym c.contains.ensures ∙ c.if-not-contains.true in
    let open_yet : has_ended c.in-Put.unit records ≡ false = subst (λ (r : Rec). has_ended (unit_of r) records ≡ false) c.in-Put.is joins.open_unit in
    c.push_reserved.ensures.items ∙ ap (λ (l : List UnitId). l ++ c.in-Put.unit ∷ []) are
    ∙ sym (flight-put_first records (record { unit = c.in-Put.unit; undo = record { rrn = c.in-Put.rrn; before = c.in-Put.before } }) absent open_yet)
    ∙ sym (ap (λ (r : Rec). flight (r ∷ records)) c.in-Put.is)

pub returns-else-not-contains-clause-units : goal.returns-else-not-contains-clause-units
returns-else-not-contains-clause-units c = λ slots records are joins.
    let found : list_any (λ u. same_unit u c.in-Put.unit) (flight records) ≡ true =
    ap (list_any (λ u. same_unit u c.in-Put.unit)) (sym (c.deref.ensures.value ∙ are)) ∙ sym c.contains.ensures ∙ c.if-not-contains.false in
    are ∙ sym (flight-put_again records (record { unit = c.in-Put.unit; undo = record { rrn = c.in-Put.rrn; before = c.in-Put.before } }) found)
    ∙ sym (ap (λ (r : Rec). flight (r ∷ records)) c.in-Put.is)

pub returns-in-Commit-clause-units : goal.returns-in-Commit-clause-units
returns-in-Commit-clause-units c = λ slots records are joins.
    c.remove_unit.ensures.items ∙ ap (filter (λ u. not (same_unit u c.in-Commit.unit))) are
    ∙ sym (flight-commit records c.in-Commit.unit) ∙ sym (ap (λ (r : Rec). flight (r ∷ records)) c.in-Commit.is)

pub returns-in-Backout-clause-units : goal.returns-in-Backout-clause-units
returns-in-Backout-clause-units c = λ slots records are joins.
    c.remove_unit-in-Backout.ensures.items ∙ ap (filter (λ u. not (same_unit u c.in-Backout.unit))) are
    ∙ sym (flight-backout records c.in-Backout.unit) ∙ sym (ap (λ (r : Rec). flight (r ∷ records)) c.in-Backout.is)
