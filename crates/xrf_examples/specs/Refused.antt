-- Choices that are refused, and what comes before them.
use Rattle.std.specs.Prelude.{ℕ, false, List, [], ◌∷◌, ◌++◌, replicate, codes, Result, Err}
use Rattle.xrf_base.specs.declared.items.Item.TheVariants as items
use Rattle.xrf_base.specs.declared.site.Site.TheVariants.{A, B}
use Rattle.xrf_base.specs.declared.site.Takeovr.TheVariants as takeovr
use Rattle.xrf_ctl.specs.declared.parts.Level.TheVariants as level
use Rattle.xrf_setup.specs.declared.choice.Choice.{Choice}
use Rattle.xrf_setup.specs.declared.choice.Choice.TheVariants as choice
use Rattle.xrf_setup.specs.declared.format.Format.TheVariants as format
use Rattle.xrf_setup.specs.Scenario.{Scen}
use Rattle.xrf_trace.specs.declared.entry.Entry.{Entry}
use Rattle.xrf_trace.specs.declared.entry.Refused.{Refused}
use Rattle.xrf_trace.specs.Runs.{Refusal}

-- a pair with one unit of work at site A, whose active misses its alternate after two ticks
abbrev pub scenario : Scen
scenario = record {
  settings = record {
    format = format.One;
    applid_a = codes "CICSA";
    applid_b = codes "CICSB";
    takeovr = takeovr.Manual;
    adi = 30;
    pdi = 2;
    log = 64;
    ring = 16;
    file = 4;
    pace = 40;
    ticks = 60;
    images = false;
    level_a = level.One;
    level_b = level.One;
    force = false;
  };
  records = [];
  clt = [];
  work_a = items.Begin (codes "U1") ∷ items.Put (codes "U1") 1 (codes "NEW") ∷ items.Commit (codes "U1") ∷ [];
  work_b = [];
  plan = [];
}

-- site A starts as active and makes some acts: 3 up to the grant, 11 up to RESTARTED, 20 up to the commit
abbrev pub started : ℕ → List Choice
started count = choice.StartActive A ∷ replicate count (choice.Step A)

-- and site B stands by
abbrev pub standing_by : List Choice
standing_by = started 11 ++ choice.StartStandby B ∷ replicate 4 (choice.Step B)

-- and its signal is lost: A catches it up in one round, and misses it two ticks later
abbrev pub alternate_lost : List Choice
alternate_lost = standing_by ++ choice.Tick ∷ replicate 5 (choice.Step A) ++ choice.Tick ∷ choice.Tick ∷ replicate 5 (choice.Step A)

-- the run is refused at a place, from 0, with a reason
abbrev pub refused_at : ℕ → Refused → Result (List Entry) Refusal
refused_at place reason = Err (record { place = place; reason = reason })
