-- Beside an owner that is over, or beside the owner itself, the other site writes no message.
use Rattle.std.proofs.Common.{◌≡◌, ℕ, is_some, Bool, true, false, List, ◌∷◌, Option, Some, None, refl, ap, ◌∙◌, sym, arith}
use Rattle.std.proofs.lemmas.Grind.{common_steps}
use Rattle.xrf_base.specs.declared.site.Site.{Site}
use Rattle.xrf_base.specs.declared.site.Site.TheVariants as site
use Rattle.xrf_ctl.specs.declared.parts.Owner.{Owner}
use Rattle.xrf_ctl.specs.declared.parts.OwnerState.TheVariants.{Running}
use Rattle.xrf_cavm.specs.Record.{inc_of_owner, stands}
use Rattle.xrf_history.specs.declared.settings.Settings.{Settings}
use Rattle.xrf_history.specs.declared.want.Want.TheVariants as want
use Rattle.xrf_history.specs.Events.{Event}
use Rattle.xrf_history.specs.Holding.{number, is_owner}
use Rattle.xrf_history.specs.Reserving.{Purpose, purpose}
use Rattle.xrf_history.specs.Next.{inside, next, after_release}
use Rattle.xrf_history.proofs.Purposes.{is_sign_off}
use Rattle.xrf_owner_law.proofs.Invariant.{off-ends}
use Rattle.xrf_history.proofs.Holding.{owner-granted}
use Rattle.xrf_history.proofs.OwnersWork.{owner_acts, is_owner_act}
use Rattle.xrf_history.proofs.Phases.{Phase, phase, NextIn, is_end_of, HasWritten, Over}
use Rattle.xrf_history.proofs.PhaseLaws.{phase-next}
use Rattle.xrf_trace.specs.declared.entry.Entry.{Entry}
use Rattle.xrf_trace.specs.declared.entry.Act.{Act}
use Rattle.xrf_trace.specs.declared.entry.Act.TheVariants as act
use Rattle.xrf_trace.specs.Scenario.{Scen, settings, other}
use Rattle.xrf_trace.specs.Words.{is_of, who_at, confirmed}
use Rattle.xrf_trace.specs.Devices.{control}
use Rattle.xrf_trace.specs.Jobs.{hist}
use Rattle.xrf_trace.specs.Acts.{act_of, is_act}
use Rattle.xrf_trace.specs.Entries.{inc_of_act}
use Rattle.xrf_trace.specs.Each.{Where}
use Rattle.xrf_trace.specs.Throughs.{is_update}
use Rattle.xrf_trace.specs.OneUpdater.{running_owner}
use Rattle.xrf_trace.specs.Runs.{IsRun}
use Rattle.xrf_trace.proofs.Paths.{history-at}
use Rattle.xrf_trace.proofs.Sites.{running-at, other-site}
use Rattle.xrf_trace.proofs.TraceActs.{act-next, tells}
use Rattle.xrf_owner_law.proofs.OneUpdaterLaw.{one-updater}
use Rattle.xrf_owner_law.proofs.Invariant.{job-at}
use Rattle.xrf_owner_law.specs.Views.{is_over}
use Rattle.xrf_progress.proofs.Course.{Ground, IsOver, Restart, Written, RoundDue, OwnSignal2, OwnLook1, OwnLook2, OwnDecide, Restarting, Place, Outer, AtClose, AtBody, AtOpen}
use Rattle.xrf_progress.proofs.Entries.{writes_message}

-- a write of a message is an act
writes-acts : (a : Act) → writes_message a ≡ true → is_act a ≡ true
writes-acts a is = grind (arith, common_steps)

-- it is an update
writes-updates : (a : Act) → writes_message a ≡ true → is_update a ≡ true
writes-updates a is = grind (arith, common_steps)

-- by the number of its job
writes-inc : (a : Act) (h : List Event) → writes_message a ≡ true → inc_of_act a h ≡ number h
writes-inc (act.CtlWrite w) h is = absurd (cc)
writes-inc _ h is = refl

-- it is an owner's
writes-owners : (s : Scen) (t : List Entry) (x : Site) (h : List Event) (a : Act) → act_of s t x h (next (settings s x) h) ≡ Some a → writes_message a ≡ true
    → is_owner_act (next (settings s x) h) ≡ true
writes-owners s t x h (act.MsgClose k) made is = ap is_owner_act (tells s t x h (next (settings s x) h) (act.MsgClose k) made)
writes-owners s t x h (act.MsgBody k m) made is = ap is_owner_act (tells s t x h (next (settings s x) h) (act.MsgBody k m) made)
writes-owners s t x h (act.MsgOpen k m) made is = ap is_owner_act (tells s t x h (next (settings s x) h) (act.MsgOpen k m) made)
writes-owners s t x h _ made is = absurd (cc)

-- who writes it is the Running owner, of the other site, and not confirmed
pub record Writer (t : List Entry) (y : Site) (n : ℕ) : Type 0 where
  pub owner : (control t).owner ≡ Some (record { inc = n; site = y; state = Running })
  pub alive : confirmed t n ≡ false

-- what holds where a test is met
fact-where : (b : Bool) (F : Type 0) → b ≡ true → Where b F → F
fact-where true F is fact = fact
fact-where false F is fact = absurd (cc)

-- so it is of each entry of the other site that writes a message
writer : (s : Scen) (t : List Entry) (e : Entry) (x : Site) → IsRun s (e ∷ t) → is_of e.who x ≡ false → writes_message e.act ≡ true
    → (y : Site) × (n : ℕ) × (x ≡ other y) × Writer t y n
writer s t e x is away writes =
    let made = act-next s t e is (writes-acts e.act writes) in
    let y = made.0 in
    let h = made.1 in
    let m = made.2 in
    let path = history-at s t y h is.0 m.there in
    let granted = owner-granted h (owner_acts (settings s y) h path (writes-owners s t y h e.act m.made writes)) in
    let inc = m.inc ∙ writes-inc e.act h writes in
    let updates = fact-where (is_update e.act) ((control t).owner ≡ running_owner e.who e.inc) (writes-updates e.act writes) (one-updater s (e ∷ t) is).updates.1 in (
      y,
      number h,
      other-site y x (ap (λ w. is_of w x) (sym m.who) ∙ away),
      record {
        owner = updates ∙ ap (λ w. running_owner w e.inc) m.who ∙ ap (running_owner (who_at y)) inc ∙ running-at y (number h);
        alive = ((job-at s t y h is.0 m.there).held granted).open_yet;
      },
    )

-- **no such writer stands beside an owner that is over**
pub over-quiet : (s : Scen) (t : List Entry) (e : Entry) (x : Site) → IsRun s (e ∷ t) → is_of e.who x ≡ false → IsOver (confirmed t) (control t)
    → writes_message e.act ≡ false
over-quiet s t e x is away over = by (writes_message e.act) refl
  where
    by : (b : Bool) → writes_message e.act ≡ b → b ≡ false
    by false none = refl
    by true writes =
        let found = writer s t e x is away writes in
        let w = found.3 in
        let gone = ap (λ (o : Option Owner). confirmed t (inc_of_owner o)) (sym w.owner) ∙ over (ap (stands Running) w.owner) in
        absurd (cc (sym w.alive ∙ gone))

-- one that became the owner, and has not restarted, is not over
inner-over : (p : Settings) (h : List Event) (f : Phase) (q : Purpose) → NextIn p h f → is_end_of (inside p h) ≡ false → (inside p h ≡ Some want.Release → ⊥)
    → is_over f q ≡ false
inner-over p h HasWritten q at no_end no_release = absurd (no_release at)
inner-over p h Over q at no_end no_release = absurd (cc (sym no_end ∙ at))
inner-over p h _ q at no_end no_release = refl

-- at its RELEASE its purpose is no sign-off, since nothing is inside after it
written-over : (p : Settings) (h : List Event) (f : Phase) (q : Purpose) → NextIn p h f → inside p h ≡ Some want.Release → is_sign_off q ≡ false → is_over f q ≡ false
written-over p h HasWritten q at is stays = stays
written-over p h Over q at is stays = absurd (cc (sym (ap is_end_of is) ∙ at))
written-over p h _ q at is stays = refl

-- a RELEASE after which nothing is inside is of no sign-off
stays-on : (p : Settings) (h : List Event) → after_release p h ≡ None → is_sign_off (purpose h) ≡ false
stays-on p h ends = by (is_sign_off (purpose h)) refl
  where
    by : (b : Bool) → is_sign_off (purpose h) ≡ b → b ≡ false
    by false is = refl
    by true is = absurd (cc (sym (ap is_some ends) ∙ off-ends p h is))

-- at no place of a restart a RELEASE or ENDED comes next
place-over : (p : Settings) (h : List Event) (f : Phase) (q : Purpose) → NextIn p h f → Place p h → is_over f q ≡ false
place-over p h f q at (Outer is) = inner-over p h f q at (ap is_end_of is) (λ same. absurd (cc (sym is ∙ same)))
place-over p h f q at (AtClose k unit units is ended left) = inner-over p h f q at (ap is_end_of is) (λ same. absurd (cc (sym is ∙ same)))
place-over p h f q at (AtBody k unit units is ended left) = inner-over p h f q at (ap is_end_of is) (λ same. absurd (cc (sym is ∙ same)))
place-over p h f q at (AtOpen k unit units is ended left) = inner-over p h f q at (ap is_end_of is) (λ same. absurd (cc (sym is ∙ same)))

-- nor is one over anywhere up to its restart
restart-over : (p : Settings) (g : Ground) (n : ℕ) (h : List Event) → NextIn p h (phase p h) → Restart p g n h → is_over (phase p h) (purpose h) ≡ false
restart-over p g n h at (Written o is ends no_drop) = written-over p h (phase p h) (purpose h) at is (stays-on p h ends)
restart-over p g n h at (RoundDue o is signalled) = inner-over p h (phase p h) (purpose h) at (ap is_end_of is) (λ same. absurd (cc (sym is ∙ same)))
restart-over p g n h at (OwnSignal2 o signalled signal is) = inner-over p h (phase p h) (purpose h) at (ap is_end_of is) (λ same. absurd (cc (sym is ∙ same)))
restart-over p g n h at (OwnLook1 o signalled is) = inner-over p h (phase p h) (purpose h) at (ap is_end_of is) (λ same. absurd (cc (sym is ∙ same)))
restart-over p g n h at (OwnLook2 o signalled is saw) = inner-over p h (phase p h) (purpose h) at (ap is_end_of is) (λ same. absurd (cc (sym is ∙ same)))
restart-over p g n h at (OwnDecide o signalled is saw) = inner-over p h (phase p h) (purpose h) at (ap is_end_of is) (λ same. absurd (cc (sym is ∙ same)))
restart-over p g n h at (Restarting o signalled place) = place-over p h (phase p h) (purpose h) at place

-- each is an owner
restart-owner : (p : Settings) (g : Ground) (n : ℕ) (h : List Event) → Restart p g n h → is_owner h ≡ true
restart-owner p g n h (Written o is ends no_drop) = o.owning.owner
restart-owner p g n h (RoundDue o is signalled) = o.owning.owner
restart-owner p g n h (OwnSignal2 o signalled signal is) = o.owning.owner
restart-owner p g n h (OwnLook1 o signalled is) = o.owning.owner
restart-owner p g n h (OwnLook2 o signalled is saw) = o.owning.owner
restart-owner p g n h (OwnDecide o signalled is saw) = o.owning.owner
restart-owner p g n h (Restarting o signalled place) = o.owning.owner

-- the site of an owner
abbrev site-of : Option Owner → Site → Site
site-of None x = x
site-of (Some o) x = o.site

-- no site is the other
not-other : (x y : Site) → x ≡ other y → y ≡ x → ⊥
not-other site.A site.A first second = absurd (cc)
not-other site.A site.B first second = absurd (cc)
not-other site.B site.A first second = absurd (cc)
not-other site.B site.B first second = absurd (cc)

-- **beside one that became the owner the other site writes no message**
pub owner-quiet : (s : Scen) (t : List Entry) (e : Entry) (x : Site) (g : Ground) (n : ℕ) (h : List Event) → IsRun s (e ∷ t) → is_of e.who x ≡ false
    → hist s t x ≡ Some h → Restart (settings s x) g n h → writes_message e.act ≡ false
owner-quiet s t e x g n h is away there restart = by (writes_message e.act) refl
  where
    p : Settings
    p = settings s x

    runs : (control t).owner ≡ Some (record { inc = number h; site = x; state = Running })
    runs =
        let path = history-at s t x h is.0 there in
        (job-at s t x h is.0 there).stands.runs (restart-owner p g n h restart) (restart-over p g n h (phase-next p h path) restart)

    by : (b : Bool) → writes_message e.act ≡ b → b ≡ false
    by false none = refl
    by true writes =
        let found = writer s t e x is away writes in
        let w = found.3 in
        absurd (not-other x found.0 found.2 (ap (λ (o : Option Owner). site-of o x) (sym w.owner ∙ runs)))
