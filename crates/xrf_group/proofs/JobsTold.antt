-- What the trace of a run tells of what its jobs were commanded and did: the CEBT behind a command, the CTLWRITE behind
-- a waiting alternate, and the mode of a job whose mode nobody set.
use Rattle.std.proofs.Common.{Option, Bool, false, true, ℕ, List, [], ◌∷◌, ◌++◌, None, Some, ◌≡◌, ap, refl, ◌&&◌, ◌||◌, not, if◌then◌else◌, subst, sym, ◌∙◌}
use Rattle.std.proofs.lemmas.Bool.{and_parts}
use Rattle.xrf_base.specs.declared.items.Item.{Item}
use Rattle.xrf_base.specs.declared.site.Site.{Site}
use Rattle.xrf_base.specs.declared.site.Takeovr.TheVariants.{Command}
use Rattle.xrf_ctl.specs.Control.{ControlRecord}
use Rattle.xrf_cebt.specs.declared.commands.Cebt.{Cebt}
use Rattle.xrf_cebt.specs.declared.commands.Cebt.TheVariants.{PerformTakeover, SetTakeover}
use Rattle.xrf_cebt.specs.declared.replies.CebtReply.{CebtReply}
use Rattle.xrf_history.specs.Accepting.{may_command}
use Rattle.xrf_history.specs.Deciding.{takeover_commanded, takeovr, takeovr_by}
use Rattle.xrf_history.specs.Events.{Event, StartedActive, StartedStandby, Ticked, ActFailed, Abended, Replied, Commanded, Exited, ControlWritten}
use Rattle.xrf_history.specs.Holding.{number, is_granted, is_waiting, is_owner, is_alternate}
use Rattle.xrf_history.specs.Next.{next}
use Rattle.xrf_history.specs.Reserving.{is_leaving}
use Rattle.xrf_history.specs.Restarting.{has_read_block}
use Rattle.xrf_history.specs.declared.settings.Settings.{Settings}
use Rattle.xrf_trace.specs.Acts.{is_act}
use Rattle.xrf_trace.specs.Entries.{entry_at, inc_at}
use Rattle.xrf_trace.specs.Jobs.{hist, handed, block_event, item_event}
use Rattle.xrf_trace.specs.Runs.{IsRun}
use Rattle.xrf_trace.specs.Scenario.{Scen, settings, item_at}
use Rattle.xrf_trace.specs.Words.{now, who_at}
use Rattle.xrf_trace.specs.declared.entry.Act.{Act}
use Rattle.xrf_trace.specs.declared.entry.Act.TheVariants as act
use Rattle.xrf_trace.specs.declared.entry.Entry.{Entry}
use Rattle.xrf_trace.specs.declared.entry.Land.{Land}
use Rattle.xrf_trace.specs.declared.entry.Land.TheVariants as land
use Rattle.xrf_trace.proofs.JobSteps.{JobCases, GoesOn, started, job-steps, at-job, is-own}
use Rattle.xrf_trace.proofs.Steps.{CanLand, IsStart, Reaches, run-step}
use Rattle.xrf_group.specs.Theorem.{StartsTakeover, SetsNone, sets_takeover}

-- events of three kinds: a command, a CTLWRITE, and the others
abbrev pub IsOther : Event → Type 0
IsOther (Commanded command at) = ⊥
IsOther (ControlWritten written) = ⊥
IsOther StartedActive = ⊥
IsOther StartedStandby = ⊥
IsOther _ = Unit {0}

-- AN INDUCTION over what comes to a job: a fact of each START that is kept by a CTLWRITE, by a command, and by each other
-- event, and by an entry that is of no concern to the job.
pub record Told (J : Scen → List Entry → Site → List Event → Type 0) : Type 0 where
  pub begins : (s : Scen) (t : List Entry) (x : Site) (a : Act) → IsStart a → J s t x (started a)
  pub goes : (s : Scen) (t : List Entry) (e : Entry) (x : Site) (h : List Event) → J s t x h → J s (e ∷ t) x h
  pub others : (s : Scen) (t : List Entry) (x : Site) (h : List Event) (made : Event) → IsOther made → J s t x h → J s t x (made ∷ h)
  pub writes : (s : Scen) (t : List Entry) (x : Site) (h : List Event) (written : ControlRecord) (l : Land) → hist s t x ≡ Some h
      → GoesOn l → CanLand t (act.CtlWrite written) l → J s t x h → J s (entry_at s t x (act.CtlWrite written) l ∷ t) x (ControlWritten written ∷ h)
  pub commands : (s : Scen) (t : List Entry) (x : Site) (h : List Event) (command : Cebt) (reply : CebtReply) → hist s t x ≡ Some h → may_command h ≡ true
      → J s t x h → J s (entry_at s t x (act.Cebt command reply) land.Full ∷ t) x (Commanded command (now t) ∷ h)

block-other : (s : Scen) (t : List Entry) (b : ℕ) (has : Bool) → IsOther (block_event s t b has)
block-other s t b true = tt
block-other s t b false = tt

item-other : (item : Option Item) → IsOther (item_event item)
item-other None = tt
item-other (Some item) = tt

-- an act that is no CTLWRITE hands another event
abbrev NoWrite : Act → Type 0
NoWrite (act.CtlWrite written) = ⊥
NoWrite _ = Unit {0}

handed-other : (s : Scen) (t : List Entry) (x : Site) (at : ℕ) (h : List Event) (a : Act) → is_act a ≡ true → NoWrite a → IsOther (handed s t x at h a)
handed-other s t x at h act.StartActive own none = absurd (cc)
handed-other s t x at h act.StartStandby own none = absurd (cc)
handed-other s t x at h act.Abend own none = absurd (cc)
handed-other s t x at h (act.Reply go) own none = absurd (cc)
handed-other s t x at h (act.Cebt command reply) own none = absurd (cc)
handed-other s t x at h (act.Exit said) own none = absurd (cc)
handed-other s t x at h (act.CtlWrite written) own none = absurd none
handed-other s t x at h (act.LogRead b) own none = block-other s t b (has_read_block h)
handed-other s t x at h (act.Item k) own none = item-other (item_at s x k)
handed-other s t x at h _ own none = tt

-- what is kept holds of each job of a run
told-cases : (J : Scen → List Entry → Site → List Event → Type 0) → Told J → (s : Scen) (t : List Entry) (e : Entry) → ((x : Site) (h : List Event) → hist s t x ≡ Some h → J s t x h)
    → JobCases s t e (λ z g. J s (e ∷ t) z g)
told-cases J told s t e before = record {
  starts = λ x a start same. told.begins s (e ∷ t) x a start;
  ticks = λ x h there same. told.others s (e ∷ t) x (h) Ticked tt (told.goes s t e x h (before x h there));
  reaches = λ x h a there reach same. reaches x h a there reach same;
  makes = λ x h a l there wants can goes same. makes x h a l there (is-own s t x h (next (settings s x) h) a wants) can goes same;
  fails = λ x h a cut there wants may same. told.others s (e ∷ t) x h (ActFailed (next (settings s x) h) (now t)) tt (told.goes s t e x h (before x h there));
  others = λ x h there far. told.goes s t e x h (before x h there);
}
  where
    reaches : (x : Site) (h : List Event) (a : Act) → hist s t x ≡ Some h → Reaches s x h a → entry_at s t x a land.Full ≡ e → J s (e ∷ t) x (handed s t x (now t) h a ∷ h)
    reaches x h act.Abend there reach same = told.others s (e ∷ t) x h Abended tt (told.goes s t e x h (before x h there))
    reaches x h (act.Reply go) there reach same = told.others s (e ∷ t) x h (Replied go (now t)) tt (told.goes s t e x h (before x h there))
    reaches x h (act.Cebt command reply) there reach same =
        subst (λ (one : Entry). J s (one ∷ t) x (Commanded command (now t) ∷ h)) same (told.commands s t x h command reply there reach (before x h there))
    reaches x h (act.Exit said) there reach same = told.others s (e ∷ t) x h (Exited said (now t)) tt (told.goes s t e x h (before x h there))
    reaches x h _ there reach same = absurd reach

    makes : (x : Site) (h : List Event) (a : Act) (l : Land) → hist s t x ≡ Some h → is_act a ≡ true → CanLand t a l → GoesOn l → entry_at s t x a l ≡ e
        → J s (e ∷ t) x (handed s t x (now t) h a ∷ h)
    makes x h (act.CtlWrite written) l there own can goes same =
        subst (λ (one : Entry). J s (one ∷ t) x (ControlWritten written ∷ h)) same (told.writes s t x h written l there goes can (before x h there))
    makes x h act.StartActive l there own can goes same = absurd (cc)
    makes x h act.StartStandby l there own can goes same = absurd (cc)
    makes x h act.Abend l there own can goes same = absurd (cc)
    makes x h (act.Reply go) l there own can goes same = absurd (cc)
    makes x h (act.Cebt command reply) l there own can goes same = absurd (cc)
    makes x h (act.Exit said) l there own can goes same = absurd (cc)
    makes x h a l there own can goes same =
        told.others s (e ∷ t) x h (handed s t x (now t) h a) (handed-other s t x (now t) h a own tt) (told.goes s t e x h (before x h there))

pub told-of : (J : Scen → List Entry → Site → List Event → Type 0) → Told J → (s : Scen) (t : List Entry) → IsRun s t → (x : Site) (h : List Event)
    → hist s t x ≡ Some h → J s t x h
told-of J told s [] is x h there = absurd (cc)
told-of J told s (e ∷ t) is x h there =
    at-job s (J s (e ∷ t)) (e ∷ t) x h (job-steps s t e (J s (e ∷ t)) (run-step s t e is) (told-cases J told s t e (told-of J told s t is.0))) there

-- BEHIND A COMMAND: of a job that was commanded to take over, the trace has the CEBT, made once the job had signed on.
pub record HasCommand (s : Scen) (t : List Entry) (x : Site) (n : ℕ) : Type 0 where
  pub later : List Entry
  pub told : Entry
  pub before : List Entry
  pub split : t ≡ later ++ told ∷ before
  pub its_site : told.who ≡ who_at x
  pub reply : CebtReply
  pub its_act : told.act ≡ act.Cebt PerformTakeover reply
  pub landed : told.land ≡ land.Full
  pub its_number : told.inc ≡ n
  pub job : List Event
  pub there : hist s before x ≡ Some job
  pub signed_on : is_granted job ≡ true
  pub is_number : number job ≡ n

abbrev pub Commands : Scen → List Entry → Site → List Event → Type 0
Commands s t x h = takeover_commanded h ≡ true → (is_granted h ≡ true) × HasCommand s t x (number h)

command-later : (s : Scen) (t : List Entry) (e : Entry) (x : Site) (n : ℕ) → HasCommand s t x n → HasCommand s (e ∷ t) x n
command-later s t e x n has = record {
  later = e ∷ has.later;
  told = has.told;
  before = has.before;
  split = ap (λ (l : List Entry). e ∷ l) has.split;
  its_site = has.its_site;
  reply = has.reply;
  its_act = has.its_act;
  landed = has.landed;
  its_number = has.its_number;
  job = has.job;
  there = has.there;
  signed_on = has.signed_on;
  is_number = has.is_number;
}

-- what other events leave as it was
others-command : (h : List Event) (made : Event) → IsOther made → takeover_commanded (made ∷ h) ≡ takeover_commanded h
others-command h (Commanded command at) is = absurd is
others-command h _ is = refl

others-granted : (h : List Event) (made : Event) → IsOther made → is_granted (made ∷ h) ≡ is_granted h
others-granted h (ControlWritten written) is = absurd is
others-granted h _ is = refl

others-number : (h : List Event) (made : Event) → IsOther made → number (made ∷ h) ≡ number h
others-number h (ControlWritten written) is = absurd is
others-number h _ is = refl

others-mode : (p : Settings) (h : List Event) (made : Event) → IsOther made → takeovr p (made ∷ h) ≡ takeovr p h
others-mode p h (Commanded command at) is = absurd is
others-mode p h _ is = refl

-- the number of a job that has one stays
number-stays : (h : List Event) (written : ControlRecord) → is_granted h ≡ true → number (ControlWritten written ∷ h) ≡ number h
number-stays h written granted = ap (λ (b : Bool). if b then number h else written.last) granted

-- a job that takes a command is granted
commanded-granted : (h : List Event) → may_command h ≡ true → is_granted h ≡ true
commanded-granted h may = (and_parts (is_granted h) (not (is_owner h)) (and_parts (is_alternate h) (not (is_leaving h)) may).0).0

commands-told : Told Commands
commands-told = record {
  begins = begins;
  goes = λ s t e x h has commanded. ((has commanded).0, command-later s t e x (number h) (has commanded).1);
  others = λ s t x h made is has commanded.
      let before = has (sym (others-command h made is) ∙ commanded) in
      (others-granted h made is ∙ before.0, subst (HasCommand s t x) (sym (others-number h made is)) before.1);
  writes = λ s t x h written l there goes can has commanded.
      let before = has commanded in (
        refl,
        subst (HasCommand s (entry_at s t x (act.CtlWrite written) l ∷ t) x) (sym (number-stays h written before.0))
            (command-later s t (entry_at s t x (act.CtlWrite written) l) x (number h) before.1),
      );
  commands = commands;
}
  where
    begins : (s : Scen) (t : List Entry) (x : Site) (a : Act) → IsStart a → Commands s t x (started a)
    begins s t x act.StartActive is = λ commanded. absurd (cc)
    begins s t x act.StartStandby is = λ commanded. absurd (cc)
    begins s t x _ is = absurd is

    here : (s : Scen) (t : List Entry) (x : Site) (h : List Event) (reply : CebtReply) → hist s t x ≡ Some h → may_command h ≡ true
        → HasCommand s (entry_at s t x (act.Cebt PerformTakeover reply) land.Full ∷ t) x (number h)
    here s t x h reply there may = record {
      later = [];
      told = entry_at s t x (act.Cebt PerformTakeover reply) land.Full;
      before = t;
      split = refl;
      its_site = refl;
      reply = reply;
      its_act = refl;
      landed = refl;
      its_number = ap (inc_at (act.Cebt PerformTakeover reply)) there;
      job = h;
      there = there;
      signed_on = commanded-granted h may;
      is_number = refl;
    }

    same : (b other : Bool) → (b || (false && other)) ≡ true → b ≡ true
    same true other is = refl
    same false other is = absurd (cc)

    commands : (s : Scen) (t : List Entry) (x : Site) (h : List Event) (command : Cebt) (reply : CebtReply) → hist s t x ≡ Some h → may_command h ≡ true
        → Commands s t x h → Commands s (entry_at s t x (act.Cebt command reply) land.Full ∷ t) x (Commanded command (now t) ∷ h)
    commands s t x h PerformTakeover reply there may has = λ commanded. (commanded-granted h may, here s t x h reply there may)
    commands s t x h command reply there may has = λ commanded.
        (commanded-granted h may, command-later s t (entry_at s t x (act.Cebt command reply) land.Full) x (number h) (has (same (takeover_commanded h) (not (is_waiting h)) commanded)).1)

pub commanded-told : (s : Scen) (t : List Entry) (x : Site) (h : List Event) → IsRun s t → hist s t x ≡ Some h → takeover_commanded h ≡ true → HasCommand s t x (number h)
commanded-told s t x h is there commanded = (told-of Commands commands-told s t is x h there commanded).1

-- BEHIND A WAITING ALTERNATE: the trace has the entry by which it started its takeover.
pub record HasStart (s : Scen) (t : List Entry) : Type 0 where
  pub later : List Entry
  pub start : Entry
  pub before : List Entry
  pub split : t ≡ later ++ start ∷ before
  pub starts : StartsTakeover s before start

abbrev pub Waits : Scen → List Entry → Site → List Event → Type 0
Waits s t x h = is_waiting h ≡ true → HasStart s t

start-later : (s : Scen) (t : List Entry) (e : Entry) → HasStart s t → HasStart s (e ∷ t)
start-later s t e has =
    record { later = e ∷ has.later; start = has.start; before = has.before; split = ap (λ (l : List Entry). e ∷ l) has.split; starts = has.starts }

others-waiting : (h : List Event) (made : Event) → IsOther made → is_waiting (made ∷ h) ≡ is_waiting h
others-waiting h (ControlWritten written) is = absurd is
others-waiting h _ is = refl

waits-told : Told Waits
waits-told = record {
  begins = begins;
  goes = λ s t e x h has waiting. start-later s t e (has waiting);
  others = λ s t x h made is has waiting. has (sym (others-waiting h made is) ∙ waiting);
  writes = λ s t x h written l there goes can has waiting. writes s t x h written l there goes can has waiting (is_waiting h) refl;
  commands = λ s t x h command reply there may has waiting. start-later s t (entry_at s t x (act.Cebt command reply) land.Full) (has waiting);
}
  where
    begins : (s : Scen) (t : List Entry) (x : Site) (a : Act) → IsStart a → Waits s t x (started a)
    begins s t x act.StartActive is = λ waiting. absurd (cc)
    begins s t x act.StartStandby is = λ waiting. absurd (cc)
    begins s t x _ is = absurd is

    writes : (s : Scen) (t : List Entry) (x : Site) (h : List Event) (written : ControlRecord) (l : Land) → hist s t x ≡ Some h
        → GoesOn l → CanLand t (act.CtlWrite written) l → Waits s t x h → is_waiting (ControlWritten written ∷ h) ≡ true → (b : Bool) → is_waiting h ≡ b
        → HasStart s (entry_at s t x (act.CtlWrite written) l ∷ t)
    writes s t x h written l there goes can has waiting true before = start-later s t (entry_at s t x (act.CtlWrite written) l) (has before)
    writes s t x h written land.Full there goes can has waiting false before = record {
      later = [];
      start = entry_at s t x (act.CtlWrite written) land.Full;
      before = t;
      split = refl;
      starts = record { at = x; job = h; written = written; its_site = refl; its_act = refl; landed = refl; there = there; tracked = before; waits = waiting };
    }
    writes s t x h written land.Lost there goes can has waiting false before = absurd (cc)
    writes s t x h written (land.Stop cut) there goes can has waiting false before = absurd goes
    writes s t x h written (land.Fail cut) there goes can has waiting false before = absurd goes

pub waiting-told : (s : Scen) (t : List Entry) (x : Site) (h : List Event) → IsRun s t → hist s t x ≡ Some h → is_waiting h ≡ true → HasStart s t
waiting-told s t x h is there waiting = told-of Waits waits-told s t is x h there waiting

-- THE MODE that nobody set is that of the scenario.
abbrev pub Modes : Scen → List Entry → Site → List Event → Type 0
Modes s t x h = s.settings.takeovr ≡ Command → SetsNone t → takeovr (settings s x) h ≡ Command

modes-told : Told Modes
modes-told = record {
  begins = begins;
  goes = λ s t e x h has mode none. has mode none.0;
  others = λ s t x h made is has mode none. others-mode (settings s x) h made is ∙ has mode none;
  writes = λ s t x h written l there goes can has mode none. has mode none.0;
  commands = λ s t x h command reply there may has mode none. commands (settings s x) h command reply (has mode none.0) none.1;
}
  where
    begins : (s : Scen) (t : List Entry) (x : Site) (a : Act) → IsStart a → Modes s t x (started a)
    begins s t x act.StartActive is = λ mode none. mode
    begins s t x act.StartStandby is = λ mode none. mode
    begins s t x _ is = absurd is

    commands : (p : Settings) (h : List Event) (command : Cebt) (reply : CebtReply) → takeovr p h ≡ Command → sets_takeover (act.Cebt command reply) ≡ false
        → takeovr_by command (takeovr p h) ≡ Command
    commands p h (SetTakeover mode) reply is none = absurd (cc)
    commands p h _ reply is none = is

pub mode-told : (s : Scen) (t : List Entry) (x : Site) (h : List Event) → IsRun s t → hist s t x ≡ Some h → s.settings.takeovr ≡ Command → SetsNone t
    → takeovr (settings s x) h ≡ Command
mode-told s t x h is there mode none = told-of Modes modes-told s t is x h there mode none
