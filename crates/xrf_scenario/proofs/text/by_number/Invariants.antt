use Rattle.std.proofs.Common.{◌≡◌, ◌++◌, ◌+◌, drop}
use Rattle.xrf_scenario.specs.Settled.{by_number}
use Rattle.xrf_scenario.proofs.text.by_number.Given as goal

-- the records so far and those of the places left are the records
abbrev pub invariant-loop-place : goal.invariant-loop-place
invariant-loop-place l = record {
  whole : l.records.items ++ by_number l.number (drop l.place-index l.places) ≡ by_number 1 l.places;
  place : l.number ≡ l.place-index + 1;
}
