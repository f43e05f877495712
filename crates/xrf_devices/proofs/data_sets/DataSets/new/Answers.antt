use Rattle.std.proofs.Common.{ℕ, List, subst}
use Rattle.xrf_base.specs.Values.{slot_of}
use Rattle.xrf_trace.specs.Scenario.{value_in}
use Rattle.xrf_devices.specs.Standing.{FileIs}
use Rattle.xrf_devices.proofs.FirstLaws.{stands-first}
use Rattle.xrf_devices.proofs.data_sets.DataSets.new.Goals as goal

pub returns : goal.returns
returns c =
    stands-first c.args.scenario.now c.in_ok-ctl.ctl c.in_ok-signals.signals c.in_ok-file.file c.in_ok-messages.messages c.in_ok-log.log c.in_ok-key.key
    c.ring.result c.log.result c.file.result c.in_ok-ctl.ensures.size c.in_ok-ctl.ensures.control c.in_ok-ctl.ensures.sectors c.in_ok-signals.ensures
    c.in_ok-messages.ensures c.ring.ensures.ring c.in_ok-log.ensures c.log.ensures.log c.in_ok-key.ensures c.file.ensures.file
    (subst (λ (records : List (ℕ × List ℕ)). FileIs c.file.result c.in_ok-file.file (λ k. slot_of (value_in records k)))
    c.records.ensures.records c.in_ok-file.ensures.file)
    c.in_ok-file.ensures.size
