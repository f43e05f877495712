-- A worked takeover: the active signals after the alternate's last look, stops and is confirmed; the alternate is served alone.
use Rattle.std.specs.Prelude.{false, List, [], ◌∷◌, ◌++◌, replicate, codes, Ok, Err}
use Rattle.std.specs.Option.{option_map_or}
use Rattle.xrf_base.specs.declared.site.Site.TheVariants as site
use Rattle.xrf_base.specs.declared.site.Takeovr.TheVariants as takeovr
use Rattle.xrf_ctl.specs.declared.parts.Level.TheVariants as level
use Rattle.xrf_setup.specs.declared.choice.Choice.{Choice}
use Rattle.xrf_setup.specs.declared.choice.Choice.TheVariants as choice
use Rattle.xrf_setup.specs.declared.choice.Landing.TheVariants as landing
use Rattle.xrf_setup.specs.declared.format.Format.TheVariants as format
use Rattle.xrf_setup.specs.Scenario.{Scen}
use Rattle.xrf_history.specs.Events.{Event}
use Rattle.xrf_trace.specs.declared.entry.Entry.{Entry}
use Rattle.xrf_trace.specs.Jobs.{hist}
use Rattle.xrf_trace.specs.Runs.{run}
use Rattle.xrf_progress.specs.Alone.{served}
use Rattle.xrf_progress.specs.InPlace.{start_of}
use Rattle.xrf_progress.specs.Pausing.{told_to_end}
use Rattle.xrf_cebt.specs.declared.commands.Cebt.TheVariants as cebt
use Rattle.xrf_base.specs.declared.items.Item.TheVariants as items
use Rattle.xrf_base.specs.declared.site.Site.{Site}

-- the scenario: AUTO, ADI 5
abbrev pub scenario : Scen
scenario = record {
  settings = record {
    format = format.One;
    applid_a = codes "CICSA";
    applid_b = codes "CICSB";
    takeovr = takeovr.Auto;
    adi = 5;
    pdi = 30;
    log = 64;
    ring = 16;
    file = 16;
    pace = 40;
    ticks = 60;
    images = false;
    level_a = level.One;
    level_b = level.One;
    force = false;
  };
  records = [];
  clt = [];
  work_a = [];
  work_b = [];
  plan = [];
}

-- both sign on, and each makes its round; in the next tick the alternate makes its round before the active signals, which stops
abbrev pub choices : List Choice
choices =
    choice.StartActive site.A ∷ replicate 11 (choice.Step site.A) ++ choice.StartStandby site.B ∷ replicate 10 (choice.Step site.B) ++
    choice.Tick ∷ replicate 6 (choice.Step site.B) ++ replicate 2 (choice.Step site.A) ++ choice.Stop site.A landing.Nothing ∷ choice.Confirm 1 ∷ []

-- what they come to
abbrev pub trace : List Entry
trace = elim (run scenario choices) [ Ok t ↦ t | Err r ↦ [] ]

-- the alternate's history
abbrev pub history : List Event
history = option_map_or (λ h. h) (hist scenario trace site.B) []

-- the alternate rests again, once its taking is written
abbrev pub waiting_trace : List Entry
waiting_trace = served scenario trace site.B 45 ++ trace

-- its history there
abbrev pub waiting_history : List Event
waiting_history = option_map_or (λ h. h) (hist scenario waiting_trace site.B) []

-- in its next round, at LOOK1
abbrev pub round_trace : List Entry
round_trace = served scenario trace site.B 3 ++ trace

-- its history there
abbrev pub round_history : List Event
round_history = option_map_or (λ h. h) (hist scenario round_trace site.B) []

-- An active is stopped, and confirmed; it is started again, and stopped in the midst of its restart, and confirmed.
abbrev pub stops : List Choice
stops =
    choice.StartActive site.A ∷ replicate 11 (choice.Step site.A) ++ choice.Stop site.A landing.Nothing ∷ choice.Confirm 1 ∷ choice.StartActive site.A
    ∷ replicate 9 (choice.Step site.A) ++ choice.Stop site.A landing.Nothing ∷ choice.Confirm 2 ∷ []

-- what they come to
abbrev pub stopped_trace : List Entry
stopped_trace = elim (run scenario stops) [ Ok t ↦ t | Err r ↦ [] ]

-- with its next start
abbrev pub started_trace : List Entry
started_trace = start_of scenario stopped_trace site.A ∷ stopped_trace

-- A takeover is commanded while the active goes on: the alternate has written its taking, and the active makes its round next.
abbrev pub pausing : List Choice
pausing =
    choice.StartActive site.A ∷ replicate 11 (choice.Step site.A) ++ choice.StartStandby site.B ∷ replicate 10 (choice.Step site.B) ++
    choice.Tick ∷ choice.Cebt site.B cebt.PerformTakeover ∷ replicate 9 (choice.Step site.B)

-- what they come to
abbrev pub paused_trace : List Entry
paused_trace = elim (run scenario pausing) [ Ok t ↦ t | Err r ↦ [] ]

-- with the round of the active, after which it rests
abbrev pub seen_trace : List Entry
seen_trace = served scenario paused_trace site.A 5 ++ paused_trace

-- and told to end
abbrev pub ending_trace : List Entry
ending_trace = told_to_end scenario seen_trace site.A ∷ seen_trace

-- the histories of the active, and of the alternate
abbrev pub history_at : List Entry → Site → List Event
history_at t x = option_map_or (λ h. h) (hist scenario t x) []

-- An active with a unit of work: a put and its commit.
abbrev pub working_scenario : Scen
working_scenario = record scenario {
  records = (1, codes "OLD") ∷ [];
  work_a = items.Begin (codes "U") ∷ items.Put (codes "U") 1 (codes "NEW") ∷ items.Commit (codes "U") ∷ [];
}

-- it has restarted
abbrev pub restarted_trace : List Entry
restarted_trace = elim (run working_scenario (choice.StartActive site.A ∷ replicate 11 (choice.Step site.A))) [ Ok t ↦ t | Err r ↦ [] ]

-- and has taken its PUT
abbrev pub put_trace : List Entry
put_trace = served working_scenario restarted_trace site.A 2 ++ restarted_trace

-- it decided THROUGH, and it holds the reserve for its through
abbrev pub through_trace : List Entry
through_trace = served scenario trace site.B 51 ++ trace

abbrev pub reserve_trace : List Entry
reserve_trace = served scenario trace site.B 52 ++ trace
