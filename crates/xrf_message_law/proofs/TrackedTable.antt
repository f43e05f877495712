-- The table of a job is the fold of what it has taken until its restart is done; so a drained one is the tracked one.
use Rattle.std.proofs.Common.{List, false, ◌≡◌, ◌∷◌, None, Option, Some, ap, Bool, true, ℕ, if◌then◌else◌, subst, refl, sym, [], ◌∙◌}
use Rattle.xrf_base.specs.declared.site.Site.{Site}
use Rattle.xrf_base.specs.declared.site.Site.TheVariants as site
use Rattle.xrf_msg.specs.declared.messages.Message.{Message}
use Rattle.xrf_msg.specs.Numbers.{given}
use Rattle.xrf_terms.specs.Tracking.{tracked as tracked_by, tracked_after, settled}
use Rattle.xrf_terms.specs.declared.rows.Row.{Row}
use Rattle.xrf_history.specs.Events.{Event, Given, MessageRead, RestartDeclared, StartedActive, StartedStandby}
use Rattle.xrf_history.specs.declared.settings.Settings.{Settings}
use Rattle.xrf_history.specs.Holding.{is_restarted, number, starts_active}
use Rattle.xrf_history.specs.Terminals.{table, after_message}
use Rattle.xrf_history.specs.Taking.{taken, with_message, expected}
use Rattle.xrf_history.proofs.Histories.{Comes, IsHistory, induct}
use Rattle.xrf_history.proofs.Tests.{not-both}
use Rattle.xrf_history.specs.Next.{next}
use Rattle.xrf_trace.specs.declared.entry.Act.{Act}
use Rattle.xrf_trace.specs.Each.{Where, AtSite, OfJob}
use Rattle.xrf_trace.specs.Acts.{is_act}
use Rattle.xrf_trace.specs.FileIsBook.{is_restart}
use Rattle.xrf_trace.specs.declared.entry.Entry.{Entry}
use Rattle.xrf_trace.specs.Scenario.{Scen, settings}
use Rattle.xrf_trace.specs.Jobs.{hist}
use Rattle.xrf_trace.specs.Words.{who_at}
use Rattle.xrf_trace.proofs.Short.{IsShort, over_run}
use Rattle.xrf_trace.specs.TableIsTracked.{IsTracked, RestartsTracked, TableIsTracked}
use Rattle.xrf_trace.specs.declared.entry.Land.{Land}
use Rattle.xrf_trace.specs.Entries.{entry_at, inc_at}
use Rattle.xrf_trace.specs.Tracking.{messages, tracked}
use Rattle.xrf_trace.proofs.Steps.{Step}
use Rattle.xrf_trace.proofs.TraceActs.{Tells, by_act, tells}
use Rattle.xrf_trace.proofs.JobSteps.{at-job}
use Rattle.xrf_trace.proofs.Paths.{history-at}
use Rattle.xrf_trace.specs.declared.entry.Act.TheVariants as act
use Rattle.xrf_message_law.specs.Due.{DueAt, Declares, IsDue}
use Rattle.xrf_message_law.proofs.Due.{due-at, are_due}
use Rattle.xrf_message_law.specs.Drained.{IsDrained}
use Rattle.xrf_message_law.specs.Names.{ItemsNamed}
use Rattle.xrf_message_law.proofs.Rounds.{active-untaken}
use Rattle.xrf_message_law.proofs.Drained.{are_drained}

-- the table is the fold of what was taken
abbrev Folds : Settings → List Event → Type 0
Folds p h = is_restarted h ≡ false → table p h ≡ tracked_by (taken h)

-- an event that leaves the table, and what was taken
abbrev IsUntabled : Event → Type 0
IsUntabled StartedActive = ⊥
IsUntabled StartedStandby = ⊥
IsUntabled (MessageRead k slot) = ⊥
IsUntabled RestartDeclared = ⊥
IsUntabled (Given item) = ⊥
IsUntabled _ = Unit {0}

-- such an event
folds-on : (p : Settings) (h : List Event) (e : Event) → IsUntabled e → Folds p h → Folds p (e ∷ h)
folds-on p h StartedActive is before not_yet = absurd is
folds-on p h StartedStandby is before not_yet = absurd is
folds-on p h (MessageRead k slot) is before not_yet = absurd is
folds-on p h RestartDeclared is before not_yet = absurd is
folds-on p h (Given item) is before not_yet = absurd is
folds-on p h _ is before not_yet = before not_yet

-- a message that is given
folds-one : (o : Option Message) (has : List Message) (rows : List Row) → rows ≡ tracked_by has → after_message o rows ≡ tracked_by (with_message o has)
folds-one None has rows is = is
folds-one (Some m) has rows is = ap (λ (l : List Row). tracked_after l m) is

-- a MSGREAD
folds-read : (p : Settings) (h : List Event) (k : ℕ) (slot : List ℕ) → Folds p h → Folds p (MessageRead k slot ∷ h)
folds-read p h k slot before not_yet = by (is_restarted h) not_yet
  where
    one : after_message (given slot (number h) (expected h)) (table p h) ≡ tracked_by (with_message (given slot (number h) (expected h)) (taken h))
    one = folds-one (given slot (number h) (expected h)) (taken h) (table p h) (before not_yet)

    by : (b : Bool) → b ≡ false
        → (if b then table p h else after_message (given slot (number h) (expected h)) (table p h)) ≡ tracked_by (if b then taken h else with_message
        (given slot (number h) (expected h)) (taken h))
    by true is = absurd (cc)
    by false is = one

-- an event that comes: an item, and a message that is given, come to a job that is restarted
folds-step : (p : Settings) (h : List Event) (e : Event) → IsHistory p h → Comes p h e → Folds p h → Folds p (e ∷ h)
folds-step p h StartedActive is comes before = absurd comes
folds-step p h StartedStandby is comes before = absurd comes
folds-step p h (MessageRead k slot) is comes before = folds-read p h k slot before
folds-step p h RestartDeclared is comes before = λ not_yet. absurd (cc)
folds-step p h (Given item) is comes before =
    λ not_yet. absurd (not-both (is_restarted h) (subst (DueAt p h) comes (due-at p h is).due) not_yet)
folds-step p h e is comes before = folds-on p h e tt before

-- **until its restart is done, the table of every history is the fold of what it has taken**
folds : (p : Settings) (h : List Event) → IsHistory p h → Folds p h
folds p h is = induct Folds (λ p not_yet. refl) (λ p not_yet. refl) folds-step p h is

-- at a RESTARTED
restart-where : (a : Act) (X : Type 0) → is_act a ≡ false → Where (is_restart a) X
restart-where act.Restarted X inert = absurd (cc)
restart-where _ X inert = tt

-- a fact of the job at the site of an act
at-site : (s : Scen) (t : List Entry) (x : Site) (h : List Event) (F : Site → List Event → Type 0) → hist s t x ≡ Some h → F x h → AtSite s t (who_at x) F
at-site s t site.A h F there is = subst (λ (job : Option (List Event)). OfJob job (F site.A)) (sym there) is
at-site s t site.B h F there is = subst (λ (job : Option (List Event)). OfJob job (F site.B)) (sym there) is

-- a RESTARTED of a job that is drained
is-tracked : (s : Scen) → ItemsNamed s → (t : List Entry) → IsShort s t → (x : Site) (h : List Event) (l : Land) → hist s t x ≡ Some h
    → Declares h → IsDrained (messages t) h
    → Folds (settings s x) h → IsTracked s t (entry_at s t x act.Restarted l) x h
is-tracked s names t is x h l there declares drained folds = (
  ap (settled s.settings.force) (rows ∙ ap (λ (n : ℕ). tracked_by (messages t n)) (sym inc)),
  active (starts_active h) refl,
)
  where
    inc : inc_at act.Restarted (hist s t x) ≡ number h
    inc = ap (inc_at act.Restarted) there

    all : taken h ≡ messages t (number h)
    all = drained declares.stays declares.not_yet declares.no_sign_off declares.drained

    rows : table (settings s x) h ≡ tracked_by (messages t (number h))
    rows = folds declares.not_yet ∙ ap tracked_by all

    active : (b : Bool) → starts_active h ≡ b
        → Where b ((table (settings s x) (RestartDeclared ∷ h) ≡ []) × (tracked (entry_at s t x act.Restarted l ∷ t) (inc_at act.Restarted (hist s t x)) ≡ []))
    active false is_standby = tt
    active true is_active =
        let none : taken h ≡ [] = active-untaken s t is x h there is_active in
        let no_rows : tracked_by (messages t (number h)) ≡ [] = ap tracked_by (sym all ∙ none) in (
          ap (settled s.settings.force) (rows ∙ no_rows),
          ap (λ (n : ℕ). tracked_by (messages t n)) inc ∙ no_rows,
        )

-- an entry
restarts-tracked : (s : Scen) → ItemsNamed s → (t : List Entry) → IsShort s t → (e : Entry) → Step s t e → RestartsTracked s t e
restarts-tracked s names t is e step = by_act s t e (RestartsTracked s t) step (record {
  inert = λ one inert. restart-where one.act (AtSite s t one.who (IsTracked s t one)) inert;
  made = λ x h a l there wants can. by x h a l there (tells s t x h (next (settings s x) h) a wants);
})
  where
    by : (x : Site) (h : List Event) (a : Act) (l : Land) → hist s t x ≡ Some h → Tells a (next (settings s x) h) → RestartsTracked s t (entry_at s t x a l)
    by x h act.Restarted l there told =
        let due : IsDue (settings s x) h = at-job s (λ y g. IsDue (settings s y) g) t x h (are_due s t is) there in
        at-site s t x h (IsTracked s t (entry_at s t x act.Restarted l)) there
        (is-tracked s names t is x h l there (subst (DueAt (settings s x) h) told due.due) (at-job s (λ y g. IsDrained (messages t) g) t x h
        (are_drained s names t is) there)
        (folds (settings s x) h (history-at s t x h is.run there)))
    by x h _ l there told = tt

-- the law of the messages
pub tables_are_tracked : (s : Scen) → ItemsNamed s → (t : List Entry) → IsShort s t → TableIsTracked s t
tables_are_tracked s names t is = over_run s (TableIsTracked s) tt (λ t is before e step. (before, restarts-tracked s names t is e step)) t is
