-- A start whose record does not change before its CTLREAD is granted.
use Rattle.std.proofs.Common.{ℕ, Bool, false, true, List, ◌∷◌, Some, ◌≡◌, ap, refl, subst, sym, ◌∙◌, Option}
use Rattle.xrf_base.specs.declared.site.Site.{Site}
use Rattle.xrf_base.specs.declared.site.Site.TheVariants as site
use Rattle.xrf_ctl.specs.Control.{ControlRecord}
use Rattle.xrf_cavm.specs.declared.grants.Grant.{Grant}
use Rattle.xrf_cavm.specs.declared.grants.Grant.TheVariants.{Granted}
use Rattle.xrf_cavm.specs.declared.known.Known.{Known}
use Rattle.xrf_history.specs.Events.{Event, ControlRead}
use Rattle.xrf_history.specs.Holding.{number, starts_active}
use Rattle.xrf_history.specs.Next.{next, write_next}
use Rattle.xrf_history.specs.Notices.{epoch_number}
use Rattle.xrf_history.specs.Reserving.{Purpose, SignOnActive, SignOnStandby, granted, purpose, record_by_purpose}
use Rattle.xrf_history.specs.declared.want.Want.TheVariants as want
use Rattle.xrf_history.proofs.Phases.{before_write}
use Rattle.xrf_history.proofs.PhaseLaws.{read-phase}
use Rattle.xrf_history.proofs.Purposes.{signs-on}
use Rattle.xrf_setup.specs.declared.choice.Choice.TheVariants as choice
use Rattle.xrf_trace.specs.Acts.{act_by, act_of, next_act}
use Rattle.xrf_trace.specs.Devices.{control}
use Rattle.xrf_trace.specs.Entries.{act_or_none, entry, entry_at}
use Rattle.xrf_trace.specs.Jobs.{after_other, after_own, hist, known_of}
use Rattle.xrf_trace.specs.Words.{now}
use Rattle.xrf_trace.specs.Scenario.{Scen, settings}
use Rattle.xrf_trace.specs.declared.entry.Act.{Act}
use Rattle.xrf_trace.specs.declared.entry.Act.TheVariants as act
use Rattle.xrf_trace.specs.declared.entry.Entry.{Entry}
use Rattle.xrf_trace.specs.declared.entry.Land.TheVariants as land
use Rattle.xrf_trace.proofs.Paths.{history-at}
use Rattle.xrf_trace.proofs.Sites.{pick-own}
use Rattle.xrf_overseer.specs.Theorem.{IsGrant, StartsAreGranted, grant_of}
use Rattle.xrf_overseer.specs.Views.{level_seen}
use Rattle.xrf_overseer.specs.Watching.{view_of}

-- what follows a grant
follows-grant : (g : Grant) (s : Scen) (t : List Entry) (x : Site) (h : List Event) → next_act s t x ≡ act_of s t x h (write_next (granted g)) → IsGrant g s t x
follows-grant (Granted written) s t x h is = is
follows-grant _ s t x h is = tt

-- the level of a site in the view
view-level : (s : Scen) (t : List Entry) (x : Site) → level_seen (view_of s t) x ≡ (settings s x).level
view-level s t site.A = refl
view-level s t site.B = refl

-- what a job that signs on writes, by what it was handed
signs-by : (s : Scen) (before : List Entry) (x : Site) (active : Bool) (q : Purpose) (n m : ℕ) → q ≡ elim active [ true ↦ SignOnActive | false ↦ SignOnStandby ]
    → record_by_purpose (settings s x) q n m (control before) (known_of before (control before)) ≡ granted (grant_of active (view_of s before) x)
signs-by s before site.A true q n m is = ap (λ (p : Purpose). record_by_purpose (settings s site.A) p n m (control before) (known_of before (control before))) is
signs-by s before site.B true q n m is = ap (λ (p : Purpose). record_by_purpose (settings s site.B) p n m (control before) (known_of before (control before))) is
signs-by s before site.A false q n m is = ap (λ (p : Purpose). record_by_purpose (settings s site.A) p n m (control before) (known_of before (control before))) is
signs-by s before site.B false q n m is = ap (λ (p : Purpose). record_by_purpose (settings s site.B) p n m (control before) (known_of before (control before))) is

-- the entry of the CTLREAD
read-entry : (s : Scen) (t : List Entry) (x : Site) (h : List Event) → hist s t x ≡ Some h → next (settings s x) h ≡ want.CtlRead
    → entry s t (choice.Step x) ≡ entry_at s t x act.CtlRead land.Full
read-entry s t x h there reads =
    ap (λ (o : Option Act). entry_at s t x (act_or_none o) land.Full) (ap (act_by s t x) there ∙ ap (act_of s t x h) reads)

-- the job after it
read-hist : (s : Scen) (t : List Entry) (x : Site) (h : List Event) → hist s t x ≡ Some h
    → hist s (entry_at s t x act.CtlRead land.Full ∷ t) x ≡ Some (ControlRead (control t) (known_of t (control t)) ∷ h)
read-hist s t x h there =
    pick-own x (after_own s t x (now t) act.CtlRead land.Full (hist s t x)) (after_other act.CtlRead (hist s t x)) ∙ ap (after_own s t x (now t) act.CtlRead land.Full) there

-- what it does next
read-next : (s : Scen) (t : List Entry) (x : Site) (h : List Event) → hist s t x ≡ Some h
    → next_act s (entry_at s t x act.CtlRead land.Full ∷ t) x
    ≡ act_of s (entry_at s t x act.CtlRead land.Full ∷ t) x (ControlRead (control t) (known_of t (control t)) ∷ h)
    (write_next (record_by_purpose (settings s x) (purpose h) (number h) (epoch_number h) (control t) (known_of t (control t))))
read-next s t x h there = ap (act_by s (entry_at s t x act.CtlRead land.Full ∷ t) x) (read-hist s t x h there)

pub starts_are_granted : StartsAreGranted
starts_are_granted s before t x h is there fresh reads same_record same_known =
    let p = settings s x in
    let history = history-at s t x h is there in
    let signs = signs-on p h history (ap before_write (read-phase p h history reads)) fresh in
    let writes : record_by_purpose p (purpose h) (number h) (epoch_number h) (control t) (known_of t (control t)) ≡ granted (grant_of (starts_active h) (view_of s before) x) =
    ap (λ (k : Known). record_by_purpose p (purpose h) (number h) (epoch_number h) (control t) k) same_known
    ∙ ap (λ (c : ControlRecord). record_by_purpose p (purpose h) (number h) (epoch_number h) c (known_of before (control before))) same_record
    ∙ signs-by s before x (starts_active h) (purpose h) (number h) (epoch_number h) signs in
    let e = entry_at s t x act.CtlRead land.Full in
    let held = ControlRead (control t) (known_of t (control t)) ∷ h in
    subst (λ (one : Entry). IsGrant (grant_of (starts_active h) (view_of s before) x) s (one ∷ t) x) (sym (read-entry s t x h there reads))
    (follows-grant (grant_of (starts_active h) (view_of s before) x) s (e ∷ t) x held
    (read-next s t x h there ∙ ap (λ (o : Option ControlRecord). act_of s (e ∷ t) x held (write_next o)) writes))
