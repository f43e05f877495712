-- What a scan keeps.
use Rattle.std.specs.Prelude.{◌≡◌, ◌≤◌, ◌%◌, length}
use Rattle.xrf_log.specs.declared.restart.Scan.TheInside.{Inside}
use Rattle.xrf_log.specs.Scan.{Scanned}

abbrev pub scanned_by : Inside → Scanned
scanned_by scan = record { slots = scan.slots; anchor = scan.anchor; records = scan.taken.list; block = scan.block; ended = scan.ended }

-- LOG is in its range, there is room for LOG records and there are no more, and the anchor's start is
-- in its range
pub record IsScanning (scan : Inside) : Type 0 where
  pub least : 64 ≤ scan.slots
  pub most : scan.slots ≤ 1024
  pub blocks : scan.slots % 64 ≡ 0
  pub room : scan.taken.most ≡ scan.slots
  pub few : length scan.taken.list ≤ scan.slots
  pub start : scan.anchor.start ≤ 65535
