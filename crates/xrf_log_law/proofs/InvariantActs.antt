-- The invariant is kept by each act of a job.
use Rattle.std.proofs.Common.{List, ◌∷◌, IfSome, None, Option, Some, false, ◌≡◌, Bool, length, true, ◌+◌, not, ◌&&◌, ◌||◌, refl, sym, ◌∙◌, arith, ℕ, ◌≤◌, subst, [], ap}
use Rattle.xrf_base.specs.declared.site.Site.{Site}
use Rattle.xrf_base.specs.Values.{slot_of}
use Rattle.xrf_log.specs.Flight.{flight, has_ended}
use Rattle.xrf_file.specs.declared.answers.Plan.{Plan}
use Rattle.xrf_setup.specs.declared.choice.Landing.{Landing}
use Rattle.xrf_history.specs.Events.{Event, ActFailed}
use Rattle.xrf_history.specs.declared.want.Want.{Want}
use Rattle.xrf_history.specs.Progress.{is_active, has_signed_off}
use Rattle.xrf_history.specs.Holding.{is_owner, is_restarted, number, is_granted}
use Rattle.xrf_history.specs.Restarting.{has_read_block, scan}
use Rattle.xrf_history.specs.Reserving.{is_on_message}
use Rattle.xrf_history.specs.declared.settings.Settings.{Settings}
use Rattle.xrf_history.specs.Rows.{boundary}
use Rattle.xrf_history.specs.Next.{or_boundary, inside, next}
use Rattle.xrf_history.specs.Working.{last_plan}
use Rattle.xrf_trace.specs.declared.entry.Entry.{Entry}
use Rattle.xrf_trace.specs.Scenario.{Scen, first_value, settings, other, limits}
use Rattle.xrf_trace.specs.declared.entry.Act.{Act}
use Rattle.xrf_trace.specs.Jobs.{handed, after_own, after_other, hist}
use Rattle.xrf_trace.specs.Words.{now}
use Rattle.xrf_trace.specs.Acts.{act_of, is_signal}
use Rattle.xrf_trace.specs.declared.entry.Land.{Land}
use Rattle.xrf_trace.proofs.Sites.{one_owner}
use Rattle.xrf_trace.proofs.ByKind.{made, LandFits, MayLand}
use Rattle.xrf_trace.specs.FileIsBook.{IsBookAt, IsBook, is_restart, RestartsAtBook}
use Rattle.xrf_trace.specs.Log.{committed, log}
use Rattle.xrf_trace.specs.Devices.{image}
use Rattle.xrf_trace.specs.Each.{Where}
use Rattle.xrf_trace.proofs.BookLaws.{as_one}
use Rattle.xrf_trace.specs.Entries.{inc_at}
use Rattle.xrf_log_law.specs.Jobs.{Idle, is_idle, Stands, InRange, IsSized, SiteStands}
use Rattle.xrf_log_law.specs.State.{View, after, view, key_after, key_number, State, booked}
use Rattle.xrf_log_law.proofs.WorkBegins.{AtWorkAfter, work-stands, next-last, next-named}
use Rattle.xrf_log_law.proofs.JobActs.{InRestart, InSequence, KnowsNone, ReadsAsOwner, StaysIdle, idle-after, inside-after, read-after, restart-after, unread-after, not-ended, of-item}
use Rattle.xrf_log_law.specs.Soundness.{is_sound}
use Rattle.xrf_log_law.specs.Due.{Restarts, IsUnread, Due, job_view, restart_view}
use Rattle.xrf_log_law.specs.AtWork.{Working, Last, LastAt}
use Rattle.xrf_log_law.proofs.StateActs.{writes_data, Lands, act-state}
use Rattle.xrf_log_law.proofs.DueAtBoundary.{boundary-due, idle-due}
use Rattle.xrf_log_law.proofs.DueOfItems.{key-due, items-due}
use Rattle.xrf_log_law.proofs.Tests.{sound-by, and-left, no-clash}
use Rattle.xrf_log_law.proofs.DueInSequence.{ItemGives, ItemsDue, act-after, After}
use Rattle.xrf_log_law.proofs.Counts.{in_range, key-count}
use Rattle.xrf_log_law.proofs.IdleJobs.{next-idle, unsound-idle}
use Rattle.xrf_log_law.proofs.BodySizes.{sized as sized_of}
use Rattle.xrf_log_law.proofs.BeforeActs.{Before, log-some}
use Rattle.xrf_log_law.specs.Ranges.{InRanges, IsFresh}
use Rattle.xrf_log_law.proofs.SitesAfter.{OwnAfter, full-after, unless-gone, fail-after}
use Rattle.xrf_owner_law.specs.Known.{IsKnown}
use Rattle.xrf_log_law.proofs.ValueRanges.{value_by-units, unused-open}
use Rattle.xrf_log_law.specs.Serving.{Serves, site_view}
use Rattle.xrf_log_law.proofs.RangeActs.{in-range}
use Rattle.xrf_trace.proofs.JobSteps.{is-own}
use Rattle.xrf_history.proofs.Holding.{owner-granted}
use Rattle.xrf_log_law.specs.Invariant.{Invariant}
use Rattle.xrf_base.specs.declared.site.Site.TheVariants as site
use Rattle.xrf_history.specs.declared.want.Want.TheVariants as want
use Rattle.xrf_trace.specs.declared.entry.Land.TheVariants as land

-- an act that is made in full
abbrev pub Made : Scen → List Entry → Site → List Event → Act → Type 0
Made s t x h a = SiteStands s t x (after s.settings.log a land.Full (view s t)) (handed s t x (now t) h a ∷ h)

-- six facts of the act that is made
all-six : (P Q R S T U : Act → Type 0) (o : Option Act) → IfSome o P → IfSome o Q → IfSome o R → IfSome o S → IfSome o T → IfSome o U
    → IfSome o (λ a. P a × Q a × R a × S a × T a × U a)
all-six P Q R S T U None p q r u w z = tt
all-six P Q R S T U (Some a) p q r u w z = (p, q, r, u, w, z)

-- the invariant of the job after an act in full
pub made-stands : (s : Scen) (t : List Entry) (x : Site) (h : List Event) (w : Want) → Before s t x h w
    → (is_active h ≡ true → IfSome (act_of s t x h w) (After s t x h))
    → IfSome (act_of s t x h w) (Made s t x h)
made-stands s t x h w b after_act =
    all-six (ReadsAsOwner s t x h) (KnowsNone s t x h) (InRestart s t x h) (InSequence s t x h) (StaysIdle s t x h) (AtWorkAfter s t x h) (act_of s t x h w)
    (read-after s t x h w b) (unread-after s t x h w b) (restart-after s t x h w b) (inside-after s t x h w after_act) (idle-after s t x h w b.rests)
    (work-stands s t x h w b)

-- as the history has it: a job that ends is gone
abbrev pub OwnStands : Scen → List Entry → Site → List Event → Land → Act → Type 0
OwnStands s t x h l a = OwnAfter s t x a l (Some h) (SiteStands s t x (after s.settings.log a l (view s t)))

-- an act that fails
pub unsound : {P : Type 0} (h : List Event) (message : Bool) → is_active h ≡ true → message ≡ false → (is_sound h && (not (is_owner h) || message)) ≡ true → P
unsound h message there none sound = by (is_owner h) (has_signed_off h) (is_sound h) message there none sound
  where
    by : {P : Type 0} (o f d m : Bool) → (o && not f) ≡ true → m ≡ false → (d && (not o || m)) ≡ true → P
    by true true d m there none sound = absurd (cc)
    by true false false m there none sound = absurd (cc)
    by true false true true there none sound = absurd (cc)
    by true false true false there none sound = absurd (cc)
    by false f d m there none sound = absurd (cc)

-- the invariant of the job after an act that failed
abbrev pub Failed : Scen → List Entry → Site → List Event → Landing → Want → Act → Type 0
Failed s t x h cut w a = SiteStands s t x (after s.settings.log a (land.Fail cut) (view s t)) (ActFailed w (now t) ∷ h)

-- in a restart
abbrev FailedRestart : Scen → List Entry → Site → List Event → View → Want → Type 0
FailedRestart s t x h v w = is_active h ≡ true → (is_sound h && (not (is_owner h) || is_on_message w)) ≡ true → has_read_block h ≡ true → is_restarted h ≡ false
    → Restarts s.settings.log (first_value s) v (restart_view (settings s x) (ActFailed w (now t) ∷ h))

-- a job that has read no block has read none after a failure
fail-unread : (s : Scen) (t : List Entry) (x : Site) (h : List Event) (w : Want) → Before s t x h w → has_read_block h ≡ false
    → IsUnread s.settings.log (settings s x) (ActFailed w (now t) ∷ h)
fail-unread s t x h (want.LogOpen place rec) b = λ e. not-ended s x h (b.stands.1 e) (b.due.5 ((b.stands.1 e).3)).0
fail-unread s t x h _ b = b.stands.1

-- after a failure a restart stands, or the job is unsound
fail-restart : (s : Scen) (t : List Entry) (x : Site) (h : List Event) (cut : Landing) (w : Want) → Before s t x h w
    → IfSome (act_of s t x h w) (λ a. FailedRestart s t x h (after s.settings.log a (land.Fail cut) (view s t)) w)
fail-restart s t x h cut want.Nothing b = tt
fail-restart s t x h cut (want.Exit told) b = tt
fail-restart s t x h cut want.Item b =
    of-item s t x (λ a. FailedRestart s t x h (after s.settings.log a (land.Fail cut) (view s t)) want.Item)
    (λ there sound. unsound h false there refl sound)
fail-restart s t x h cut (want.MsgRead k) b = λ there sound read going. b.stands.2 there (and-left (is_sound h) _ sound) read going
fail-restart s t x h cut (want.MsgClose k) b = λ there sound read going. b.stands.2 there (and-left (is_sound h) _ sound) read going
fail-restart s t x h cut (want.MsgBody k message) b = λ there sound read going. b.stands.2 there (and-left (is_sound h) _ sound) read going
fail-restart s t x h cut (want.MsgOpen k message) b = λ there sound read going. b.stands.2 there (and-left (is_sound h) _ sound) read going
fail-restart s t x h cut _ b = λ there sound. unsound h false there refl sound

-- at work
abbrev FailedWork : Scen → List Entry → Site → List Event → View → Want → Type 0
FailedWork s t x h v w = is_active h ≡ true → (is_sound h && (not (is_owner h) || is_on_message w)) ≡ true → is_restarted h ≡ true
    → Working s.settings.log (first_value s) v (settings s x) (ActFailed w (now t) ∷ h)

-- after a failure the work stands, or the job is unsound
fail-work : (s : Scen) (t : List Entry) (x : Site) (h : List Event) (cut : Landing) (w : Want) → Before s t x h w
    → IfSome (act_of s t x h w) (λ a. FailedWork s t x h (after s.settings.log a (land.Fail cut) (view s t)) w)
fail-work s t x h cut want.Nothing b = tt
fail-work s t x h cut (want.Exit told) b = tt
fail-work s t x h cut want.Item b =
    of-item s t x (λ a. FailedWork s t x h (after s.settings.log a (land.Fail cut) (view s t)) want.Item)
    (λ there sound. unsound h false there refl sound)
fail-work s t x h cut (want.MsgRead n) b =
    λ there sound working. (let d = and-left (is_sound h) _ sound in let w = b.stands.5 there d working in (w.0, w.1, b.values there d working, tt))
fail-work s t x h cut (want.MsgClose n) b =
    λ there sound working. (let d = and-left (is_sound h) _ sound in let w = b.stands.5 there d working in (w.0, w.1, b.values there d working, tt))
fail-work s t x h cut (want.MsgBody n message) b =
    λ there sound working. (let d = and-left (is_sound h) _ sound in let w = b.stands.5 there d working in (w.0, w.1, b.values there d working, tt))
fail-work s t x h cut (want.MsgOpen n message) b =
    λ there sound working. (let d = and-left (is_sound h) _ sound in let w = b.stands.5 there d working in (w.0, w.1, b.values there d working, tt))
fail-work s t x h cut _ b = λ there sound. unsound h false there refl sound

-- so the invariant stands after a failure
pub failed-stands : (s : Scen) (t : List Entry) (x : Site) (h : List Event) (cut : Landing) (w : Want) → Before s t x h w
    → IfSome (act_of s t x h w) (Failed s t x h cut w)
failed-stands s t x h cut w b = over (act_of s t x h w) (fail-restart s t x h cut w b) (fail-work s t x h cut w b)
  where
    over : (o : Option Act) → IfSome o (λ a. FailedRestart s t x h (after s.settings.log a (land.Fail cut) (view s t)) w)
        → IfSome o (λ a. FailedWork s t x h (after s.settings.log a (land.Fail cut) (view s t)) w)
        → IfSome o (Failed s t x h cut w)
    over None restart working = tt
    over (Some a) restart working = (b.stands.0, fail-unread s t x h w b, restart, λ there. tt, λ none. tt, working)

-- the job of the other site: it writes nothing where this one writes
abbrev pub OtherStands : Scen → List Entry → Site → Option (List Event) → Land → Act → Type 0
OtherStands s t y job l a = IfSome (after_other a job) (SiteStands s t y (after s.settings.log a l (view s t)))

-- a job that is no active needs nothing of the data sets
silent-stands : (s : Scen) (t : List Entry) (y : Site) (g : List Event) (v : View) → (is_active g ≡ true → ⊥) → SiteStands s t y (view s t) g
    → SiteStands s t y v g
silent-stands s t y g v silent stands =
    (stands.0, stands.1, λ there. absurd (silent there), λ there. absurd (silent there), stands.4, λ there. absurd (silent there))

-- whatever this job writes, the other stands
other-acts : (s : Scen) (t : List Entry) (x y : Site) (h g : List Event) (w : Want) (l : Land) → (writes_data w ≡ true → is_active g ≡ true → ⊥)
    → SiteStands s t y (view s t) g
    → IfSome (act_of s t x h w) (OtherStands s t y (Some g) l)
other-acts s t x y h g (want.LogClose place) l silent stands = silent-stands s t y g _ (silent refl) stands
other-acts s t x y h g (want.LogBody place rec) l silent stands = silent-stands s t y g _ (silent refl) stands
other-acts s t x y h g (want.LogOpen place rec) l silent stands = silent-stands s t y g _ (silent refl) stands
other-acts s t x y h g (want.KpClose k) l silent stands = silent-stands s t y g _ (silent refl) stands
other-acts s t x y h g (want.KpBody k keypoint) l silent stands = silent-stands s t y g _ (silent refl) stands
other-acts s t x y h g (want.KpOpen k keypoint) l silent stands = silent-stands s t y g _ (silent refl) stands
other-acts s t x y h g (want.FileWrite unit rrn value) l silent stands = silent-stands s t y g _ (silent refl) stands
other-acts s t x y h g (want.Undo rrn own) l silent stands = silent-stands s t y g _ (silent refl) stands
other-acts s t x y h g want.Nothing l silent stands = tt
other-acts s t x y h g (want.Exit told) l silent stands = tt
other-acts s t x y h g want.Item l silent stands = of-item s t x (OtherStands s t y (Some g) l) stands
other-acts s t x y h g _ l silent stands = stands

-- where no other job is
no-other : (s : Scen) (t : List Entry) (x y : Site) (h : List Event) (w : Want) (l : Land) → IfSome (act_of s t x h w) (OtherStands s t y None l)
no-other s t x y h want.Nothing l = tt
no-other s t x y h (want.Exit told) l = tt
no-other s t x y h want.Item l = of-item s t x (OtherStands s t y None l) tt
no-other s t x y h _ l = tt

-- two jobs are not both the running owner
other-stands : (s : Scen) (t : List Entry) (x : Site) (h : List Event) (w : Want) (l : Land) (job : Option (List Event)) → hist s t x ≡ Some h
    → hist s t (other x) ≡ job → IsKnown s t
    → (writes_data w ≡ true → is_active h ≡ true) → IfSome job (SiteStands s t (other x) (view s t))
    → IfSome (act_of s t x h w) (OtherStands s t (other x) job l)
other-stands s t x h w l None own none owned acts stands = no-other s t x (other x) h w l
other-stands s t x h w l (Some g) own theirs owned acts stands =
    other-acts s t x (other x) h g w l
    (λ e there. one_owner x (number h) (number g) (sym (owned.active x h own (acts e)) ∙ owned.active (other x) g theirs there)) stands

-- an act that writes the data sets is not idle
data-acts : (w : Want) → writes_data w ≡ true → is_idle w ≡ false
data-acts (want.LogClose place) e = refl
data-acts (want.LogBody place rec) e = refl
data-acts (want.LogOpen place rec) e = refl
data-acts (want.KpClose k) e = refl
data-acts (want.KpBody k keypoint) e = refl
data-acts (want.KpOpen k keypoint) e = refl
data-acts (want.FileWrite unit rrn value) e = refl
data-acts (want.Undo rrn own) e = refl
data-acts _ e = absurd (cc)

-- both sites
abbrev pub JobsStand : Scen → List Entry → Site → Option (List Event) → Land → Act → Type 0
JobsStand s t x job l a = IfSome (after_own s t x (now t) a l job) (SiteStands s t x (after s.settings.log a l (view s t)))

-- so the invariant stands after an entry of a site
pub sites-stand : (s : Scen) (t : List Entry) (x : Site) (i : ℕ) (a : Act) (l : Land) → key_number t ≤ length t
    → key_after a l (key_number t) ≤ key_number t + 1 → Lands s t l a → JobsStand s t x (hist s t x) l a
    → OtherStands s t (other x) (hist s t (other x)) l a → Stands s (made t x i a l ∷ t)
sites-stand s t x i a l counted count lands own others = record { state = lands; counted = omega (arith, counted, count); jobs = by x own others }
  where
    by : (x : Site) → JobsStand s t x (hist s t x) l a → OtherStands s t (other x) (hist s t (other x)) l a
        → (y : Site) → IfSome (hist s (made t x i a l ∷ t) y) (SiteStands s t y (after s.settings.log a l (view s t)))
    by site.A own others site.A = own
    by site.A own others site.B = others
    by site.B own others site.A = others
    by site.B own others site.B = own

-- what is known before the next act
or_boundary-due : (p : Settings) (first : ℕ → Option (List ℕ)) (v : View) (h : List Event) (o : Option Want)
    → IfSome o (Due p.limits.log first v (job_view p h))
    → Due p.limits.log first v (job_view p h) (boundary p h) → Due p.limits.log first v (job_view p h) (or_boundary p h o)
or_boundary-due p first v h None inner outer = outer
or_boundary-due p first v h (Some w) inner outer = inner

-- a scan that has ended has read a block
ended-reads : (s : Scen) (x : Site) (h : List Event) → (has_read_block h ≡ false → IsUnread s.settings.log (settings s x) h)
    → (scan (settings s x) h).ended ≡ true → has_read_block h ≡ true
ended-reads s x h unread ended = by (has_read_block h) refl
  where
    by : (b : Bool) → has_read_block h ≡ b → b ≡ true
    by true e = refl
    by false e = not-ended s x h (unread e) ended

-- what is due of the next act of an active
pub writer-due : (s : Scen) (t : List Entry) (x : Site) (h : List Event) → State s.settings.log (first_value s) (view s t)
    → SiteStands s t x (view s t) h → is_active h ≡ true
    → Due s.settings.log (first_value s) (view s t) (job_view (settings s x) h) (next (settings s x) h)
writer-due s t x h state stands there =
    or_boundary-due (settings s x) (first_value s) (view s t) h (inside (settings s x) h) (stands.3 there)
    (boundary-due (settings s x) (first_value s) (view s t) h state
    (λ owner none. record {
      sound = sound-by h none;
      restart = λ going ended. (stands.2 there (sound-by h none) (ended-reads s x h stands.1 ended) going).undoing ended;
      work =
          λ restarted due. (let w = stands.5 there (sound-by h none) restarted in key-due s.settings.log (first_value s) (view s t)
          (settings s x) h state w.0 w.1 due);
    }))

-- what an ITEM is given
item-gives : (T : Type 0) (first : ℕ → Option (List ℕ)) (v : View) (plan : Plan) (w : Want) (P : Type 0) → (P → LastAt first v plan w)
    → (P → Last first v → T) → ItemGives w (P → T)
item-gives T first v plan want.Item P last gives = λ e. gives e (last e)
item-gives T first v plan _ P last gives = tt

-- a number that is held and not restarted has ended no unit
fresh-number : (s : Scen) (t : List Entry) (x : Site) (h : List Event) → InRanges s t → hist s t x ≡ Some h → is_granted h ≡ true → is_restarted h ≡ false
    → (serial : ℕ) → has_ended (record { inc = number h; serial = serial }) (log t) ≡ false
fresh-number s t x h ranges job granted going serial =
    let fresh : IsFresh (log t) h = subst (λ (o : Option (List Event)). IfSome o (IsFresh (log t))) job (ranges.fresh x) in
    unused-open (record { inc = number h; serial = serial }) (log t) (fresh granted going)

-- what is known before the next act of a job that is there
pub before-next : (s : Scen) (t : List Entry) (x : Site) (h : List Event) → Invariant s t → hist s t x ≡ Some h → Before s t x h (next (settings s x) h)
before-next s t x h k job = record {
  scen = k.scen;
  job = job;
  is = refl;
  state = k.stands.state;
  stands = here;
  serves = serves;
  ranges = k.ranges;
  counted = k.stands.counted;
  due = by_due (is_active h) refl;
  acts = by_acts (is_active h) refl;
  rests = rests;
  idle = λ unsound. unsound-idle (settings s x) h unsound (serves.3 unsound);
  values = λ there sound restarted. next-last s.settings.log (first_value s) (view s t) (settings s x) h (here.5 there sound restarted);
  named = λ there sound restarted. next-named s.settings.log (first_value s) (view s t) (settings s x) h restarted (here.5 there sound restarted);
  fresh = λ there going. fresh-number s t x h k.ranges job (owner-granted h (and-left (is_owner h) _ there)) going;
  held = k.known.held x h job;
  writes = λ written comes. k.writes x h written job comes;
  most = omega (arith, k.known.last, k.few);
  few = omega (arith, k.few);
}
  where
    here : SiteStands s t x (view s t) h
    here = subst (λ (o : Option (List Event)). IfSome o (SiteStands s t x (view s t))) job (k.stands.jobs x)

    serves : Serves (settings s x) h (site_view s t x)
    serves = subst (λ (o : Option (List Event)). IfSome o (λ g. Serves (settings s x) g (site_view s t x))) job (k.serves x)

    rests : is_active h ≡ false → Idle (next (settings s x) h)
    rests none = next-idle (settings s x) h (k.known.off x h job) none (here.4 none)

    by_due : (b : Bool) → is_active h ≡ b → Due s.settings.log (first_value s) (view s t) (job_view (settings s x) h) (next (settings s x) h)
    by_due true there = writer-due s t x h k.stands.state here there
    by_due false none = idle-due s.settings.log (first_value s) (view s t) (job_view (settings s x) h) (next (settings s x) h) (rests none)

    by_acts : (b : Bool) → is_active h ≡ b → is_idle (next (settings s x) h) ≡ false → b ≡ true
    by_acts true there acts = refl
    by_acts false none acts = no-clash (is_idle (next (settings s x) h)) (rests none) acts

-- what is due after the next act
next-after : (s : Scen) (t : List Entry) (x : Site) (h : List Event) → Before s t x h (next (settings s x) h) → is_active h ≡ true
    → IfSome (act_of s t x h (next (settings s x) h)) (After s t x h)
next-after s t x h b there =
    act-after s t x h (next (settings s x) h) b.state b.due
    (in_range s t x h s.settings.log (first_value s) (job_view (settings s x) h) (next (settings s x) h) b.due b.few b.counted
    (in-range s t x h (next (settings s x) h) b))
    (b.stands.3 there)
    (item-gives (ItemsDue s t x h) (first_value s) (view s t) (last_plan (settings s x) h) (next (settings s x) h)
    ((is_restarted h ≡ true) × (is_sound h ≡ true))
    (λ at. b.values there at.1 at.0)
    (λ at last. items-due s.settings.log (first_value s) (view s t) (settings s x) h b.state (b.stands.5 there at.1 at.0).0 last))

-- the file is the book, and no unit is in flight, where the next act is RESTARTED
pub book-at : (s : Scen) (t : List Entry) → ((r : ℕ) → image s t r ≡ booked (first_value s) (view s t) r) → IsBookAt s t
book-at s t same r from to = same r ∙ ap slot_of (value_by-units t r (committed (log t)) (first_value s r))

-- at a RESTARTED
restart-book : (s : Scen) (t : List Entry) (x : Site) (h : List Event) (w : Want) → Due s.settings.log (first_value s) (view s t) (job_view (settings s x) h) w
    → IfSome (act_of s t x h w) (λ a. Where (is_restart a) (IsBook s t × (flight (log t) ≡ [])))
restart-book s t x h want.Nothing due = tt
restart-book s t x h (want.Exit told) due = tt
restart-book s t x h want.Item due = of-item s t x (λ a. Where (is_restart a) (IsBook s t × (flight (log t) ≡ []))) tt
restart-book s t x h want.Restarted due = (as_one s t (book-at s t due.3), due.2)
restart-book s t x h _ due = tt

-- an act of a job
pub record Kept (s : Scen) (t : List Entry) (e : Entry) : Type 0 where
  pub stands : Stands s (e ∷ t)
  pub book : RestartsAtBook s t e

-- the job of an act, by how the act lands
own-made : (s : Scen) (t : List Entry) (x : Site) (h : List Event) → Before s t x h (next (settings s x) h)
    → IfSome (act_of s t x h (next (settings s x) h)) (Made s t x h)
own-made s t x h b = made-stands s t x h (next (settings s x) h) b (next-after s t x h b)

-- a signal that is lost
abbrev Lost : Scen → List Entry → Site → List Event → Act → Type 0
Lost s t x h a = is_signal a ≡ true → SiteStands s t x (after s.settings.log a land.Lost (view s t)) (handed s t x (now t) h a ∷ h)

-- after a signal that is lost
lost-stands : (s : Scen) (t : List Entry) (x : Site) (h : List Event) (w : Want) → IfSome (act_of s t x h w) (Made s t x h)
    → IfSome (act_of s t x h w) (Lost s t x h)
lost-stands s t x h (want.Signal1 signal) stands = λ e. stands
lost-stands s t x h (want.Signal2 signal) stands = λ e. stands
lost-stands s t x h want.Nothing stands = tt
lost-stands s t x h (want.Exit told) stands = tt
lost-stands s t x h want.Item stands = of-item s t x (Lost s t x h) (λ e. absurd (cc))
lost-stands s t x h _ stands = λ e. absurd (cc)

-- by how the act lands
own-stands : (s : Scen) (t : List Entry) (x : Site) (h : List Event) (a : Act) (l : Land) → act_of s t x h (next (settings s x) h) ≡ Some a → MayLand l a
    → Before s t x h (next (settings s x) h) → OwnStands s t x h l a
own-stands s t x h a land.Full is may b =
    full-after s t x h a (SiteStands s t x (after s.settings.log a land.Full (view s t))) (is-own s t x h (next (settings s x) h) a is)
    (unless-gone a _ (subst (λ (o : Option Act). IfSome o (Made s t x h)) is (own-made s t x h b)))
own-stands s t x h a land.Lost is may b =
    full-after s t x h a (SiteStands s t x (after s.settings.log a land.Lost (view s t))) (is-own s t x h (next (settings s x) h) a is)
    (unless-gone a _ (subst (λ (o : Option Act). IfSome o (Lost s t x h)) is (lost-stands s t x h (next (settings s x) h) (own-made s t x h b)) may))
own-stands s t x h a (land.Stop cut) is may b = tt
own-stands s t x h a (land.Fail cut) is may b =
    fail-after s t x h a cut (SiteStands s t x (after s.settings.log a (land.Fail cut) (view s t))) is may
    (subst (λ (o : Option Act). IfSome o (Failed s t x h cut (next (settings s x) h))) is (failed-stands s t x h cut (next (settings s x) h) b))

-- an act of a job keeps the invariant
pub act-step : (s : Scen) (t : List Entry) (x : Site) (h : List Event) (l : Land) (a : Act) → act_of s t x h (next (settings s x) h) ≡ Some a
    → hist s t x ≡ Some h
    → LandFits l a → MayLand l a → Invariant s t → Kept s t (made t x (inc_at a (Some h)) a l)
act-step s t x h l a is job fits may k =
    let w : Want = next (settings s x) h in
    let b = before-next s t x h k job in
    let ranged : InRange a = subst (λ (o : Option Act). IfSome o InRange) is (in-range s t x h w b) in
    let sized : IfSome (act_of s t x h w) (IsSized l) = subst (λ (o : Option Act). IfSome o (IsSized l)) (sym is) (sized_of l a ranged fits) in
    let lands : IfSome (act_of s t x h w) (Lands s t l) = act-state s t x h (job_view (settings s x) h) w l
    (log-some (limits s) k.scen.limits) k.stands.state (λ e. b.due) sized in
    let others : IfSome (act_of s t x h w) (OtherStands s t (other x) (hist s t (other x)) l) =
    other-stands s t x h w l (hist s t (other x)) job refl k.known (λ e. b.acts (data-acts w e)) (k.stands.jobs (other x)) in
    record {
      stands =
          sites-stand s t x (inc_at a (Some h)) a l k.stands.counted
          (subst (λ (o : Option Act). IfSome o (λ b. key_after b l (key_number t) ≤ key_number t + 1)) is
          (key-count s t x h s.settings.log (first_value s) (job_view (settings s x) h) w l b.due))
          (subst (λ (o : Option Act). IfSome o (Lands s t l)) is lands)
          (subst (λ (o : Option (List Event)). JobsStand s t x o l a) (sym job) (own-stands s t x h a l is may b))
          (subst (λ (o : Option Act). IfSome o (OtherStands s t (other x) (hist s t (other x)) l)) is others);
      book = subst (λ (o : Option Act). IfSome o (λ b. Where (is_restart b) (IsBook s t × (flight (log t) ≡ [])))) is (restart-book s t x h w b.due);
    }
