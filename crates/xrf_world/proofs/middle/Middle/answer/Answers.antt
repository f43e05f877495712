use Rattle.std.proofs.Common.{◌≡◌, ◌∙◌, sym, ap, subst, List, Option, IfSome, slice_get, arith, ◌+◌, ◌-◌}
use Rattle.xrf_history.specs.declared.answer.Answer.TheVariants as answer
use Rattle.xrf_history.specs.Events.{Event}
use Rattle.xrf_history.specs.Looking.{record_seen}
use Rattle.xrf_trace.specs.Devices.{control, sector1, sector2}
use Rattle.xrf_trace.specs.Handing.{answer_of, item_handed}
use Rattle.xrf_trace.specs.Jobs.{known_of}
use Rattle.xrf_trace.specs.Scenario.{item_at, other, work}
use Rattle.xrf_trace.specs.Words.{now, items_taken}
use Rattle.xrf_world.proofs.middle.Middle.answer.Goals as goal

pub returns-in-Look1 : goal.returns-in-Look1
returns-in-Look1 c = λ t h stands there.
    let s = c.args.self.now.scenario in
    let data_sets = stands.middle.data_sets in
    ap (λ held. answer.Look1 held c.signal1.result) (c.control.ensures s t data_sets)
    ∙ ap (answer.Look1 (control t)) (c.signal1.ensures s t data_sets ∙ ap (sector1 t) c.other.ensures)
    ∙ sym (ap (answer_of s t c.args.site h) c.in-Look1.is)

pub returns-in-Look2 : goal.returns-in-Look2
returns-in-Look2 c = λ t h stands there.
    let s = c.args.self.now.scenario in
    ap (λ signal. answer.Look2 signal c.args.self.now.counts.tick)
    (c.signal2.ensures s t stands.middle.data_sets ∙ ap (sector2 t) c.other-in-Look2.ensures)
    ∙ ap (answer.Look2 (sector2 t (other c.args.site))) stands.middle.counts.tick
    ∙ sym (ap (answer_of s t c.args.site h) c.in-Look2.is)

pub returns-in-Decide : goal.returns-in-Decide
returns-in-Decide c = λ t h stands there.
    let s = c.args.self.now.scenario in
    let seat = c.args.place.now.seat in
    let seen : seat.seen ≡ record_seen h =
    subst (λ (job : Option (List Event)). IfSome job (λ h. seat.seen ≡ record_seen h)) there stands.place.seat.seen in
    ap (λ known. answer.Decide known c.args.self.now.counts.tick)
    (c.known.ensures s t stands.middle.counts ∙ ap (known_of t) seen)
    ∙ ap (answer.Decide (known_of t (record_seen h))) stands.middle.counts.tick
    ∙ sym (ap (answer_of s t c.args.site h) c.in-Decide.is)

pub returns-in-MsgRead : goal.returns-in-MsgRead
returns-in-MsgRead c = λ t h stands there.
    let s = c.args.self.now.scenario in
    ap answer.MsgSlot (c.message_slot.ensures s t stands.middle.data_sets)
    ∙ sym (ap (answer_of s t c.args.site h) c.in-MsgRead.is)

pub returns-in-KpRead : goal.returns-in-KpRead
returns-in-KpRead c = λ t h stands there.
    let s = c.args.self.now.scenario in
    ap answer.Gate (c.key_gate.ensures s t stands.middle.data_sets)
    ∙ sym (ap (answer_of s t c.args.site h) c.in-KpRead.is)

pub returns-in-Item : goal.returns-in-Item
returns-in-Item c = λ t h stands there.
    let s = c.args.self.now.scenario in
    let x = c.args.site in
    let taken : c.len-taken.result ≡ items_taken t x + 1 - 1 =
    omega (arith, c.len-taken.ensures, stands.place.kept.items.taken) in
    let item : c.item_at.result ≡ item_at s x (items_taken t x + 1) =
    c.item_at.ensures ∙ ap (λ items. slice_get items c.len-taken.result) c.work.ensures.work
    ∙ ap (slice_get (work s x)) taken in
    c.item_handed.ensures
    ∙ ap (λ at. item_handed at c.item_at.result) stands.middle.counts.tick
    ∙ ap (item_handed (now t)) item
    ∙ sym (ap (answer_of s t x h) c.in-Item.is)
