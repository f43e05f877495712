-- The nine lines of a generated run.
use Rattle.std.specs.Prelude.{ℕ, ◌+◌, if◌then◌else◌, List, [], ◌∷◌, ◌++◌, codes, length}
use Rattle.std.specs.Fmt.{decimal}
use Rattle.xrf_world.specs.Report.{log_counts}
use Rattle.xrf_scenario.specs.Canonical.{fed}
use Rattle.xrf_trace.specs.Devices.{control}
use Rattle.xrf_trace.specs.Landing.{is_stop}
use Rattle.xrf_trace.specs.Throughs.{is_through}
use Rattle.xrf_trace.specs.Words.{now}
use Rattle.xrf_trace.specs.declared.entry.Entry.{Entry}

-- how many entries are stops
abbrev pub stops : List Entry → ℕ
stops [] = 0
stops (e ∷ t) = if is_stop e.land then stops t + 1 else stops t

-- how many control writes that landed changed the owner's incarnation
abbrev pub throughs : List Entry → ℕ
throughs [] = 0
throughs (e ∷ t) = if is_through t e then throughs t + 1 else throughs t

-- a word and a number
abbrev pub counted_line : List ℕ → ℕ → List ℕ
counted_line word number = fed (word ++ decimal number)

-- choices, ticks and stops
abbrev pub made_lines : List Entry → List ℕ
made_lines t = counted_line (codes "CHOICES ") (length t) ++ counted_line (codes "TICKS ") (now t) ++ counted_line (codes "STOPS ") (stops t)

-- the incarnations that were given, and how often one became the owner
abbrev pub owner_lines : List Entry → List ℕ
owner_lines t = counted_line (codes "INCARNATIONS ") (control t).last ++ counted_line (codes "THROUGHS ") (throughs t)

-- the units that are committed, and those in flight
abbrev pub unit_lines : List Entry → List ℕ
unit_lines t = counted_line (codes "COMMITTED ") (log_counts t).committed ++ counted_line (codes "FLIGHT ") (log_counts t).flight

-- the seed and the number of turns, and what came of them
abbrev pub head_line : (seed turns : ℕ) → List ℕ
head_line seed turns = fed (codes "DRIVE " ++ decimal seed ++ codes " " ++ decimal turns)

abbrev pub summary_text : (seed turns : ℕ) → List Entry → List ℕ
summary_text seed turns t = head_line seed turns ++ made_lines t ++ owner_lines t ++ unit_lines t ++ fed (codes "DONE")
