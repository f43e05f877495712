-- What is known of a CTLWRITE of a run: of one that is made, and of one that comes next.
use Rattle.std.proofs.Common.{List, ◌≡◌, Some, ap, ◌∙◌, ◌∷◌, Bool, if◌then◌else◌, arith, false, not, true, ℕ, ◌==◌, ◌&&◌, refl, ◌⊎◌}
use Rattle.std.proofs.lemmas.Grind.{common_steps}
use Rattle.std.proofs.lemmas.Bool.{and_parts}
use Rattle.xrf_base.specs.declared.site.Site.{Site}
use Rattle.xrf_ctl.specs.Control.{ControlRecord}
use Rattle.xrf_ctl.specs.declared.parts.OwnerState.TheVariants.{Running}
use Rattle.xrf_cavm.specs.declared.known.Known.{Known}
use Rattle.xrf_cavm.specs.Record.{inc_of_owner, owner_is}
use Rattle.xrf_history.specs.Events.{Event}
use Rattle.xrf_history.proofs.Phases.{HasRead, phase, has_reserve}
use Rattle.xrf_history.proofs.Purposes.{IsCalled, called}
use Rattle.xrf_history.proofs.Histories.{IsHistory}
use Rattle.xrf_history.proofs.Writes.{IsRuled, Wrote, of_alternate}
use Rattle.xrf_history.specs.Notices.{epoch_number}
use Rattle.xrf_history.specs.Reserving.{purpose, record_read, Purpose, known_read, GoThrough, SignOnActive}
use Rattle.xrf_history.specs.Next.{next}
use Rattle.xrf_history.proofs.PhaseLaws.{write-phase}
use Rattle.xrf_history.specs.Holding.{is_granted, number}
use Rattle.xrf_history.specs.declared.settings.Settings.{Settings}
use Rattle.xrf_history.specs.declared.want.Want.TheVariants as want
use Rattle.xrf_trace.specs.declared.entry.Entry.{Entry}
use Rattle.xrf_trace.proofs.TraceActs.{IsMade, writes-want, act-next}
use Rattle.xrf_trace.specs.Scenario.{Scen, settings}
use Rattle.xrf_trace.specs.Words.{confirmed, who_at}
use Rattle.xrf_trace.specs.Devices.{control}
use Rattle.xrf_trace.specs.Runs.{IsRun}
use Rattle.xrf_trace.proofs.Paths.{history-at}
use Rattle.xrf_trace.specs.Acts.{is_act}
use Rattle.xrf_trace.specs.declared.entry.Act.{Act}
use Rattle.xrf_trace.specs.Entries.{inc_of_act}
use Rattle.xrf_trace.specs.Throughs.{changes_owner, is_through}
use Rattle.xrf_trace.specs.ThroughByProof.{may_run, ThroughOverNone}
use Rattle.xrf_trace.specs.Landing.{lands}
use Rattle.xrf_trace.proofs.AtSites.{where-so, made-at}
use Rattle.xrf_trace.specs.Jobs.{hist}
use Rattle.xrf_trace.specs.declared.entry.Act.TheVariants as act
use Rattle.xrf_owner_law.specs.Owner.{Job, Knows, Beside}
use Rattle.xrf_owner_law.proofs.StateSteps.{Written, written, suits-alternate}
use Rattle.xrf_owner_law.specs.Views.{view, View}
use Rattle.xrf_owner_law.proofs.Invariant.{holds-at, job-at, sound}

-- what is known of a CTLWRITE of a run
pub record WritesAt (s : Scen) (t : List Entry) (e : Entry) (x : Site) (h : List Event) (w : ControlRecord) : Type 0 where
  pub made : IsMade s t e x h
  pub path : IsHistory (settings s x) h
  pub job : Job (control t) (confirmed t) x (view (settings s x) h)
  pub rule : IsRuled (control t)
  pub phase : phase (settings s x) h ≡ HasRead
  pub read : record_read h ≡ control t
  pub written : Written (settings s x) (control t) w (confirmed t) (view (settings s x) h) (epoch_number h)
  pub called : IsCalled h (purpose h)

-- what is known of a CTLWRITE that is the next act of the job at a site
pub writes-made : (s : Scen) (t : List Entry) (e : Entry) (x : Site) (h : List Event) (w : ControlRecord) → IsRun s t → IsMade s t e x h
    → e.act ≡ act.CtlWrite w
    → WritesAt s t e x h w
writes-made s t e x h w is made acts =
    let path = history-at s t x h is made.there in
    let job = job-at s t x h is made.there in
    let wrote = write-phase (settings s x) h w path (writes-want s t x h (next (settings s x) h) w (made.made ∙ ap (λ a. Some a) acts)) in
    record {
      made = made;
      path = path;
      job = job;
      rule = (holds-at s t x is).rule;
      phase = wrote.0;
      read = (job.read wrote.0).0;
      written = written (settings s x) (control t) w (confirmed t) (view (settings s x) h) (epoch_number h) wrote.0 wrote.1 (sound (settings s x) h path) job;
      called = called (settings s x) h path (ap has_reserve wrote.0);
    }

-- what is known of a CTLWRITE of a run
pub writes-at : (s : Scen) (t : List Entry) (e : Entry) (w : ControlRecord) → IsRun s (e ∷ t) → e.act ≡ act.CtlWrite w
    → (x : Site) × (h : List Event) × WritesAt s t e x h w
writes-at s t e w is acts =
    let made = act-next s t e is (ap is_act acts) in (made.0, made.1, writes-made s t e made.0 made.1 w is.0 made.2 acts)

-- the incarnation of its entry
pub inc-at : (s : Scen) (t : List Entry) (e : Entry) (x : Site) (h : List Event) (w : ControlRecord) (g : Bool) → WritesAt s t e x h w
    → e.act ≡ act.CtlWrite w → is_granted h ≡ g
    → e.inc ≡ (if g then number h else w.last)
inc-at s t e x h w g at acts granted =
    at.made.inc ∙ ap (λ (a : Act). inc_of_act a h) acts ∙ ap (λ (b : Bool). if b then number h else w.last) granted

-- a through is over no owner that may run
pub over-none : (p : Settings) (q : Purpose) (me : ℕ) (c w : ControlRecord) (known : Known) (k : ℕ → Bool) → Wrote p q me c known w → Knows k known c
    → not (inc_of_owner w.owner == inc_of_owner c.owner) ≡ true → (owner_is c Running && not (k (inc_of_owner c.owner))) ≡ false
over-none p q me c w known k did knows changes = grind (arith, common_steps)

-- a write that changes the owner's incarnation is over no owner that may run
over-act : (s : Scen) (t : List Entry) (e : Entry) (a : Act) → IsRun s (e ∷ t) → e.act ≡ a → changes_owner (control t) a ≡ true → may_run t (control t) ≡ false
over-act s t e (act.CtlWrite w) is acts changes =
    let at = writes-at s t e w is acts in
    let p = settings s at.0 in
    over-none p (purpose at.1) (number at.1) (control t) w (known_read at.1) (confirmed t) at.2.written.did at.2.written.knows changes
over-act s t e _ is acts changes = absurd (cc)

-- every through is over no owner that may run
pub through-over-none : (s : Scen) (t : List Entry) (e : Entry) → IsRun s (e ∷ t) → ThroughOverNone t e
through-over-none s t e is =
    where-so (is_through t e) (may_run t (control t) ≡ false) (λ through.
    over-act s t e e.act is refl (and_parts (lands e.land) (changes_owner (control t) e.act) through).1)

-- a through is by one who goes through or signs on as active
pub keeps-owner : (p : Settings) (q : Purpose) (me : ℕ) (c w : ControlRecord) (known : Known) → Wrote p q me c known w
    → not (inc_of_owner w.owner == inc_of_owner c.owner) ≡ true
    → (q ≡ GoThrough) ⊎ (q ≡ SignOnActive)
keeps-owner p q me c w known did changes = grind (arith, common_steps)

-- an alternate that writes stands beside the owner
pub write-mine : (s : Scen) (t : List Entry) (x : Site) (v : View) (w : ControlRecord) (epoch : ℕ)
    → Written (settings s x) (control t) w (confirmed t) v epoch → Job (control t) (confirmed t) x v
    → of_alternate v.purpose ≡ true → Beside (control t) x v.number
write-mine s t x v w epoch writes job is =
    let alternate = suits-alternate v.purpose v.granted v.owner writes.suits is in job.stands.beside alternate.0 alternate.1

-- what is known of a CTLWRITE that comes next
pub writes-by : (s : Scen) (t : List Entry) (x : Site) (h : List Event) (w : ControlRecord) → IsRun s t → hist s t x ≡ Some h
    → next (settings s x) h ≡ want.CtlWrite w
    → Written (settings s x) (control t) w (confirmed t) (view (settings s x) h) (epoch_number h)
writes-by s t x h w is here writes =
    let p = settings s x in
    let wrote = write-phase p h w (history-at s t x h is here) writes in
    written p (control t) w (confirmed t) (view p h) (epoch_number h) wrote.0 wrote.1 (sound p h (history-at s t x h is here)) (job-at s t x h is here)

-- what is known of a CTLWRITE of a run, by the job at its site
pub writes-now : (s : Scen) (t : List Entry) (e : Entry) (x : Site) (h : List Event) (w : ControlRecord) → IsRun s (e ∷ t) → e.who ≡ who_at x
    → hist s t x ≡ Some h → e.act ≡ act.CtlWrite w → WritesAt s t e x h w
writes-now s t e x h w is who here acts = writes-made s t e x h w is.0 (made-at s t e x h is (ap is_act acts) who here) acts
