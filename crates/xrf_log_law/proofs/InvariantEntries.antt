-- The invariant is kept by each entry of a run, and at each RESTARTED the file is the book.
use Rattle.std.proofs.Common.{IfSome, List, None, Option, Some, arith, refl, true, ◌∷◌, ◌≡◌, ℕ, []}
use Rattle.xrf_base.specs.declared.site.Site.{Site}
use Rattle.xrf_setup.specs.declared.choice.Landing.{Landing}
use Rattle.xrf_history.specs.Events.{Event, StartedActive, StartedStandby}
use Rattle.xrf_trace.specs.declared.entry.Act.{Act}
use Rattle.xrf_trace.specs.declared.entry.Entry.{Entry}
use Rattle.xrf_trace.specs.Entries.{entry}
use Rattle.xrf_trace.specs.Jobs.{handed, hist}
use Rattle.xrf_trace.specs.Scenario.{Scen, first_value, other}
use Rattle.xrf_trace.specs.Words.{now}
use Rattle.xrf_trace.proofs.ByKind.{Kinds, is_quiet, made}
use Rattle.xrf_log_law.specs.Jobs.{SiteStands, Stands}
use Rattle.xrf_log_law.specs.State.{State, view}
use Rattle.xrf_log_law.proofs.SlotWrites.{first-stands}
use Rattle.xrf_log_law.proofs.SitesAfter.{OwnAfter, quiet-after, tick-after}
use Rattle.xrf_log_law.proofs.InvariantActs.{Kept, act-step, sites-stand}
use Rattle.xrf_log_law.specs.Invariant.{Invariant}
use Rattle.xrf_log_law.proofs.Tests.{false-true}
use Rattle.xrf_base.specs.declared.site.Site.TheVariants as site
use Rattle.xrf_setup.specs.declared.choice.Choice.TheVariants as choice
use Rattle.xrf_trace.specs.declared.entry.Act.TheVariants as act
use Rattle.xrf_trace.specs.declared.entry.Land.TheVariants as land

-- an entry that leaves the data sets as they are
stop-none : (s : Scen) (t : List Entry) (x : Site) (i : ℕ) (cut : Landing) → Stands s t → Kept s t (made t x i act.NoAct (land.Stop cut))
stop-none s t x i cut stands =
    record { stands = sites-stand s t x i act.NoAct (land.Stop cut) stands.counted (omega arith) stands.state tt (stands.jobs (other x)); book = tt }

-- a TICK
tick-step : (s : Scen) (t : List Entry) → Stands s t → Kept s t (entry s t choice.Tick)
tick-step s t stands = record { stands = record { state = stands.state; counted = omega (arith, stands.counted); jobs = by }; book = tt }
  where
    by : (y : Site) → IfSome (hist s (entry s t choice.Tick ∷ t) y) (SiteStands s t y (view s t))
    by site.A = tick-after (hist s t site.A) (SiteStands s t site.A (view s t)) (stands.jobs site.A)
    by site.B = tick-after (hist s t site.B) (SiteStands s t site.B (view s t)) (stands.jobs site.B)

-- a CONFIRM
confirm-step : (s : Scen) (t : List Entry) (n : ℕ) → Stands s t → Kept s t (entry s t (choice.Confirm n))
confirm-step s t n stands = record { stands = record { state = stands.state; counted = omega (arith, stands.counted); jobs = by }; book = tt }
  where
    by : (y : Site) → IfSome (hist s (entry s t (choice.Confirm n) ∷ t) y) (SiteStands s t y (view s t))
    by site.A = stands.jobs site.A
    by site.B = stands.jobs site.B

-- a choice that reaches a job
quiet-stands : (s : Scen) (t : List Entry) (x : Site) (a : Act) (job : Option (List Event)) → is_quiet a ≡ true → IfSome job (SiteStands s t x (view s t))
    → IfSome job (λ h. SiteStands s t x (view s t) (handed s t x (now t) h a ∷ h))
quiet-stands s t x a None quiet stands = tt
quiet-stands s t x act.Abend (Some h) quiet stands = stands
quiet-stands s t x (act.Reply go) (Some h) quiet stands = stands
quiet-stands s t x (act.Cebt command reply) (Some h) quiet stands = stands
quiet-stands s t x (act.Exit said) (Some h) quiet stands = stands
quiet-stands s t x act.NoAct (Some h) quiet stands = stands
quiet-stands s t x _ (Some h) quiet stands = absurd (cc)

-- a choice that reaches a job keeps the invariant
quiet-step : (s : Scen) (t : List Entry) (x : Site) (i : ℕ) (a : Act) → is_quiet a ≡ true → Stands s t → Kept s t (made t x i a land.Full)
quiet-step s t x i a quiet stands =
    by a quiet (quiet-after s t x a (hist s t x) (SiteStands s t x (view s t)) quiet (quiet-stands s t x a (hist s t x) quiet (stands.jobs x)))
  where
    by : (a : Act) → is_quiet a ≡ true → OwnAfter s t x a land.Full (hist s t x) (SiteStands s t x (view s t)) → Kept s t (made t x i a land.Full)
    by act.Abend quiet own =
        record { stands = sites-stand s t x i act.Abend land.Full stands.counted (omega arith) stands.state own (stands.jobs (other x)); book = tt }
    by (act.Reply go) quiet own =
        record {
          stands = sites-stand s t x i (act.Reply go) land.Full stands.counted (omega arith) stands.state own
              (stands.jobs (other x));
          book = tt;
        }
    by (act.Cebt command reply) quiet own =
        record {
          stands = sites-stand s t x i (act.Cebt command reply) land.Full stands.counted (omega arith) stands.state own
              (stands.jobs (other x));
          book = tt;
        }
    by (act.Exit said) quiet own =
        record {
          stands = sites-stand s t x i (act.Exit said) land.Full stands.counted (omega arith) stands.state own
              (stands.jobs (other x));
          book = tt;
        }
    by act.NoAct quiet own =
        record { stands = sites-stand s t x i act.NoAct land.Full stands.counted (omega arith) stands.state own (stands.jobs (other x)); book = tt }
    by _ quiet own = absurd (cc)

-- a START
started_active : (s : Scen) (t : List Entry) (x : Site) → SiteStands s t x (view s t) (StartedActive ∷ [])
started_active s t x = (λ e. false-true e, λ e. (refl, refl, λ unit. refl, refl), λ e. false-true e, λ e. tt, λ e. refl, λ e. false-true e)

-- a job that starts as standby
started_standby : (s : Scen) (t : List Entry) (x : Site) → SiteStands s t x (view s t) (StartedStandby ∷ [])
started_standby s t x = (λ e. false-true e, λ e. (refl, refl, λ unit. refl, refl), λ e. false-true e, λ e. tt, λ e. refl, λ e. false-true e)

-- each entry keeps it
pub kept-kinds : (s : Scen) (t : List Entry) → Invariant s t → Kinds s t (λ e. Kept s t e)
kept-kinds s t k = record {
  tick = tick-step s t k.stands;
  confirm = λ n. confirm-step s t n k.stands;
  acts = λ x h a l job is fits may. act-step s t x h l a is job fits may k;
  quiet = λ x i a quiet. quiet-step s t x i a quiet k.stands;
  stop = λ x i cut. stop-none s t x i cut k.stands;
  active =
      λ x. record {
        stands = sites-stand s t x 0 act.StartActive land.Full k.stands.counted (omega arith) k.stands.state (started_active s t x)
            (k.stands.jobs (other x));
        book = tt;
      };
  standby =
      λ x. record {
        stands = sites-stand s t x 0 act.StartStandby land.Full k.stands.counted (omega arith) k.stands.state (started_standby s t x)
            (k.stands.jobs (other x));
        book = tt;
      };
}

-- nothing is there at first
first-state : (s : Scen) → State s.settings.log (first_value s) (view s [])
first-state s = record {
  log = first-stands s.settings.log;
  whole = λ i. refl;
  within = omega arith;
  room = omega arith;
  ordered = tt;
  over = λ k unit rrn before less is. absurd (omega arith);
  keys = record { here = refl; other = tt; first = λ e. refl };
  keys_whole = λ i. refl;
  undone = record { locked = λ unit r e. refl; back = λ r. refl };
  unput = λ unit r e f x. refl;
}

-- at first
pub first-holds : (s : Scen) → Stands s []
first-holds s = record { state = first-state s; counted = omega arith; jobs = λ x. tt }
