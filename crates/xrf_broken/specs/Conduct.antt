-- What the broken traces on how jobs act begin with, and the scenario that they are of: with takeovers by AUTO, an ADI of 5
-- ticks, a command list of one line, and one unit of work.
use Rattle.std.specs.Prelude.{false, List, [], ◌∷◌, codes, None}
use Rattle.xrf_base.specs.declared.site.Site.TheVariants as site
use Rattle.xrf_base.specs.declared.site.Takeovr.TheVariants as takeovr
use Rattle.xrf_base.specs.declared.items.Item.TheVariants as items
use Rattle.xrf_ctl.specs.declared.parts.Level.TheVariants as level
use Rattle.xrf_ctl.specs.declared.parts.OwnerState.TheVariants as state
use Rattle.xrf_ctl.specs.declared.parts.Cause.TheVariants as cause
use Rattle.xrf_ctl.specs.Control.{of_parts}
use Rattle.xrf_cavm.specs.declared.decisions.Decision.TheVariants as decision
use Rattle.xrf_cavm.specs.declared.decisions.Decided.TheVariants as decided
use Rattle.xrf_setup.specs.declared.choice.Landing.TheVariants as landing
use Rattle.xrf_setup.specs.declared.format.Format.TheVariants as format
use Rattle.xrf_setup.specs.Scenario.{Scen}
use Rattle.xrf_trace.specs.declared.entry.Act.TheVariants as act
use Rattle.xrf_trace.specs.declared.entry.Entry.{Entry}
use Rattle.xrf_trace.specs.declared.entry.Land.TheVariants as land
use Rattle.xrf_trace.specs.declared.entry.Who.TheVariants as who
use Rattle.xrf_examples.specs.Making.{entry_of, owner_of, alt_of, taking_of}
use Rattle.xrf_examples.specs.Beginnings.{restarted}
use Rattle.xrf_broken.specs.Steps.{by_b, ticked}

abbrev pub scenario : Scen
scenario = record {
  settings = record {
    format = format.One;
    applid_a = codes "CICSA";
    applid_b = codes "CICSB";
    takeovr = takeovr.Auto;
    adi = 5;
    pdi = 5;
    log = 64;
    ring = 16;
    file = 16;
    pace = 40;
    ticks = 60;
    images = false;
    level_a = level.One;
    level_b = level.One;
    force = false;
  };
  records = [];
  clt = record { applid = codes "CICSB"; text = codes "CANCEL CICSA" } ∷ [];
  work_a = items.Begin (codes "U1") ∷ items.Put (codes "U1") 1 (codes "V1") ∷ items.Commit (codes "U1") ∷ items.Shutdown ∷ [];
  work_b = [];
  plan = [];
}

-- the restarted active has stopped
abbrev pub stopped : List Entry
stopped = entry_of 0 who.A 1 act.NoAct (land.Stop landing.Nothing) ∷ restarted

-- the ticks 1 to 5 have come
abbrev pub five_ticks : List Entry → List Entry
five_ticks before = ticked 5 (ticked 4 (ticked 3 (ticked 2 (ticked 1 before))))

-- at tick 5 the alternate starts a takeover by loss of signal
abbrev pub started_by_loss : List Entry → List Entry
started_by_loss before =
    by_b 5 act.Release ∷
    by_b 5 (act.CtlWrite (of_parts 1 2 (owner_of 1 site.A state.Running) (alt_of 2 site.B) (taking_of 2 cause.Lost))) ∷
    by_b 5 act.CtlRead ∷
    by_b 5 act.Reserve ∷
    by_b 5 (act.Decide (decided.Alternate (decision.Start cause.Lost))) ∷
    before
