-- Format by level, of every run.
use Rattle.std.proofs.Common.{Bool, not, ◌==◌, ◌≡◌, ◌&&◌, if◌then◌else◌, arith, ℕ, refl, true, None, Option, Some, false, subst, sym, ◌⊎◌, List, ◌||◌, ap, ◌∷◌, ◌∙◌, [], IfSome}
use Rattle.std.proofs.lemmas.Grind.{common_steps}
use Rattle.std.proofs.lemmas.Bool.{and_parts}
use Rattle.xrf_base.specs.declared.site.Site.{Site}
use Rattle.xrf_base.specs.declared.site.Site.TheVariants as site
use Rattle.xrf_ctl.specs.Control.{ControlRecord}
use Rattle.xrf_ctl.specs.declared.parts.OwnerState.{OwnerState}
use Rattle.xrf_ctl.specs.declared.parts.Cause.{Cause}
use Rattle.xrf_ctl.specs.declared.parts.Level.{Level}
use Rattle.xrf_ctl.specs.declared.parts.Owner.{Owner}
use Rattle.xrf_ctl.specs.declared.parts.OwnerState.TheVariants.{Running}
use Rattle.xrf_cavm.specs.Record.{inc_of_owner, owner_is}
use Rattle.xrf_cavm.specs.declared.known.Known.{Known}
use Rattle.xrf_cavm.specs.Grants.{is_foreign}
use Rattle.xrf_history.specs.declared.settings.Settings.{Settings}
use Rattle.xrf_history.proofs.Writes.{IsRuled, Wrote, of_alternate}
use Rattle.xrf_history.specs.Reserving.{SignOnActive, GoThrough, SignOnStandby, SignOff, DropAlternate, Leave, StartTakeover, Purpose, purpose, known_read}
use Rattle.xrf_history.specs.declared.want.EndWhy.{EndWhy}
use Rattle.xrf_history.specs.Events.{Event, ControlRead, ControlWritten, Released, Reserved, StartedActive, StartedStandby}
use Rattle.xrf_history.specs.Holding.{is_granted, is_owner, number}
use Rattle.xrf_history.proofs.Purposes.{Suits}
use Rattle.xrf_history.proofs.Phases.{Phase, may_reserve, phase, Held, Outside, is_work}
use Rattle.xrf_history.proofs.Histories.{Comes, is_started}
use Rattle.xrf_history.specs.Next.{after_release, next}
use Rattle.xrf_history.specs.Notices.{epoch_number}
use Rattle.xrf_history.proofs.PhaseLaws.{read-phase, releases-phase, reserve-phase, write-phase, work-phase}
use Rattle.xrf_history.specs.declared.want.Want.TheVariants as want
use Rattle.xrf_trace.specs.FormatByLevel.{is_two, level_of, has_two, FormatIs, is_one, HasFormatOne, MeetsFormat, FormatByLevel}
use Rattle.xrf_trace.specs.Scenario.{Scen, settings, other}
use Rattle.xrf_trace.specs.declared.entry.Entry.{Entry}
use Rattle.xrf_trace.specs.Devices.{control, written_if, control_after}
use Rattle.xrf_trace.specs.Words.{who_at, confirmed}
use Rattle.xrf_trace.specs.Runs.{IsRun}
use Rattle.xrf_trace.specs.Throughs.{changes_owner}
use Rattle.xrf_trace.specs.declared.entry.Act.{Act}
use Rattle.xrf_trace.specs.Landing.{lands}
use Rattle.xrf_trace.proofs.Sites.{other-other}
use Rattle.xrf_trace.proofs.Moves.{control_by}
use Rattle.xrf_trace.specs.Jobs.{hist}
use Rattle.xrf_trace.proofs.Paths.{history-at}
use Rattle.xrf_trace.proofs.EachJob.{Fact, Kept, each-job}
use Rattle.xrf_trace.specs.Each.{Where}
use Rattle.xrf_trace.proofs.AtSites.{where-so, made-at, at-site, each-of}
use Rattle.xrf_trace.specs.Acts.{is_act}
use Rattle.xrf_trace.proofs.TraceActs.{looks-want, reads-want, writes-want}
use Rattle.xrf_trace.specs.declared.entry.Act.TheVariants as act
use Rattle.xrf_owner_law.specs.Owner.{Beside, Job, Knows}
use Rattle.xrf_owner_law.proofs.WritesOfRuns.{WritesAt, writes-at, over-none, write-mine, writes-by}
use Rattle.xrf_owner_law.proofs.StateSteps.{suits-alternate, Written}
use Rattle.xrf_owner_law.specs.Views.{View, is_over, view}
use Rattle.xrf_owner_law.proofs.Invariant.{holds-at, job-at, off-ends}
use Rattle.xrf_owner_law.proofs.JobSteps.{is_quiet, quiet-view, over-released}

-- whether the owner's incarnation changes
abbrev pub changes : ControlRecord → ControlRecord → Bool
changes c w = not (inc_of_owner w.owner == inc_of_owner c.owner)

-- the format after a write: 2 where a job of level 2 becomes owner, else as it was
abbrev FormatAfter : Settings → ControlRecord → ControlRecord → Type 0
FormatAfter p c w = w.format ≡ (if changes c w && is_two p.level then 2 else c.format)

-- a sign-on as active
format-active : (p : Settings) (me : ℕ) (c w : ControlRecord) (known : Known) → Wrote p SignOnActive me c known w → IsRuled c → FormatAfter p c w
format-active p me c w known did rule = grind (arith, common_steps)

-- a through
format-through : (p : Settings) (me : ℕ) (c w : ControlRecord) (known : Known) → Wrote p GoThrough me c known w → Beside c p.site me → FormatAfter p c w
format-through p me c w known did beside = grind (arith, common_steps)

-- a sign-on as standby
format-standby : (p : Settings) (me : ℕ) (c w : ControlRecord) (known : Known) → Wrote p SignOnStandby me c known w → FormatAfter p c w
format-standby p me c w known did = grind (arith, common_steps)

-- a sign-off
format-off : (p : Settings) (state : OwnerState) (me : ℕ) (c w : ControlRecord) (known : Known) → Wrote p (SignOff state) me c known w → FormatAfter p c w
format-off p state me c w known did = grind (arith, common_steps)

-- a drop
format-drop : (p : Settings) (me : ℕ) (c w : ControlRecord) (known : Known) → Wrote p DropAlternate me c known w → FormatAfter p c w
format-drop p me c w known did = grind (arith, common_steps)

-- a leave
format-leave : (p : Settings) (reason : EndWhy) (me : ℕ) (c w : ControlRecord) (known : Known) → Wrote p (Leave reason) me c known w → FormatAfter p c w
format-leave p reason me c w known did = grind (arith, common_steps)

-- a start of a takeover
format-start : (p : Settings) (cause : Cause) (me : ℕ) (c w : ControlRecord) (known : Known) → Wrote p (StartTakeover cause) me c known w → FormatAfter p c w
format-start p cause me c w known did = grind (arith, common_steps)

-- whatever is written, the format is so after it
pub format-after : (p : Settings) (q : Purpose) (me : ℕ) (c w : ControlRecord) (known : Known) → Wrote p q me c known w → IsRuled c
    → (of_alternate q ≡ true → Beside c p.site me) → FormatAfter p c w
format-after p SignOnActive me c w known did rule mine = format-active p me c w known did rule
format-after p SignOnStandby me c w known did rule mine = format-standby p me c w known did
format-after p (SignOff state) me c w known did rule mine = format-off p state me c w known did
format-after p DropAlternate me c w known did rule mine = format-drop p me c w known did
format-after p (Leave reason) me c w known did rule mine = format-leave p reason me c w known did
format-after p (StartTakeover cause) me c w known did rule mine = format-start p cause me c w known did
format-after p GoThrough me c w known did rule mine = format-through p me c w known did (mine refl)

-- beside an owner at a site of level 2 the format is 2
abbrev pub IsLevel : (Site → Level) → ℕ → Option Owner → Type 0
IsLevel level format None = Unit {0}
IsLevel level format (Some o) = is_two (level o.site) ≡ true → format ≡ 2

-- where the owner's site is of level 2 the format is 2
abbrev pub OwnerLevel : (Site → Level) → ControlRecord → Type 0
OwnerLevel level c = IsLevel level c.format c.owner

-- after a sign-on as active
level-active : (p : Settings) (level : Site → Level) (me : ℕ) (c w : ControlRecord) (known : Known) → Wrote p SignOnActive me c known w → level p.site ≡ p.level
    → OwnerLevel level w
level-active p level me c w known did same = grind (arith, common_steps)

-- after a through
level-through : (p : Settings) (level : Site → Level) (me : ℕ) (c w : ControlRecord) (known : Known) → Wrote p GoThrough me c known w → level p.site ≡ p.level
    → Beside c p.site me → OwnerLevel level w
level-through p level me c w known did same beside = grind (arith, common_steps)

-- after a sign-off
level-off : (p : Settings) (level : Site → Level) (state : OwnerState) (me : ℕ) (c w : ControlRecord) (known : Known) → Wrote p (SignOff state) me c known w
    → OwnerLevel level c → OwnerLevel level w
level-off p level state me c w known did before = grind (arith, common_steps)

-- the purposes that leave the owner
abbrev keeps_owner : Purpose → Bool
keeps_owner SignOnActive = false
keeps_owner GoThrough = false
keeps_owner (SignOff state) = false
keeps_owner _ = true

-- they leave owner and format
same-owner : (p : Settings) (q : Purpose) (me : ℕ) (c w : ControlRecord) (known : Known) → Wrote p q me c known w → keeps_owner q ≡ true
    → (w.owner ≡ c.owner) × (w.format ≡ c.format)
same-owner p q me c w known did keeps = grind (arith, common_steps)

-- so it stays
level-same : (level : Site → Level) (c w : ControlRecord) → w.owner ≡ c.owner → w.format ≡ c.format → OwnerLevel level c → OwnerLevel level w
level-same level c w owner format before = subst (IsLevel level w.format) (sym owner) (subst (λ (n : ℕ). IsLevel level n c.owner) (sym format) before)

-- whatever is written, where the owner's site is of level 2 the format is 2
pub level-after : (p : Settings) (level : Site → Level) (q : Purpose) (me : ℕ) (c w : ControlRecord) (known : Known) → Wrote p q me c known w
    → level p.site ≡ p.level
    → (of_alternate q ≡ true → Beside c p.site me) → OwnerLevel level c → OwnerLevel level w
level-after p level SignOnActive me c w known did same mine before = level-active p level me c w known did same
level-after p level (SignOff state) me c w known did same mine before = level-off p level state me c w known did before
level-after p level GoThrough me c w known did same mine before = level-through p level me c w known did same (mine refl)
level-after p level q me c w known did same mine before =
    let kept = same-owner p q me c w known did refl in level-same level c w kept.0 kept.1 before

-- a job of level 1 that may meet the record: the format is 1
pub is-one : (format : ℕ) → (format ≡ 1) ⊎ (format ≡ 2) → (format == 2) ≡ false → format ≡ 1
is-one format two not_two = grind (arith, common_steps)

-- the level of a site of the scenario
abbrev pub levels : Scen → Site → Level
levels s x = (settings s x).level

-- the format, and what the owner tells of it
pub record FormatOf (s : Scen) (c : ControlRecord) (two : Bool) : Type 0 where
  pub format : c.format ≡ (if two then 2 else 1)
  pub level : OwnerLevel (levels s) c

-- an alternate that writes stands beside the owner
mine-of : (s : Scen) (t : List Entry) (e : Entry) (x : Site) (h : List Event) (w : ControlRecord) → WritesAt s t e x h w
    → of_alternate (purpose h) ≡ true → Beside (control t) x (number h)
mine-of s t e x h w at is =
    let alternate = suits-alternate (purpose h) (is_granted h) (is_owner h) at.written.suits is in at.job.stands.beside alternate.0 alternate.1

-- the level of an entry's site
level-at : (s : Scen) (x : Site) → level_of s (who_at x) ≡ levels s x
level-at s site.A = refl
level-at s site.B = refl

-- a disjunction with what is not met
or-false : (b : Bool) → (b || false) ≡ b
or-false true = refl
or-false false = refl

-- the format by whether an owner of level 2 was
two-after : (n c : ℕ) (two d : Bool) → n ≡ (if d then 2 else c) → c ≡ (if two then 2 else 1) → n ≡ (if two || d then 2 else 1)
two-after n c two d after before = grind (arith, common_steps)

-- a CTLWRITE, by whether it lands
format-write : (s : Scen) (t : List Entry) (e : Entry) (w : ControlRecord) (b : Bool) → IsRun s (e ∷ t) → e.act ≡ act.CtlWrite w
    → FormatOf s (control t) (has_two s t)
    → FormatOf s (written_if b w (control t)) (has_two s t || ((b && changes_owner (control t) (act.CtlWrite w)) && is_two (level_of s e.who)))
format-write s t e w false is acts before = subst (FormatOf s (control t)) (sym (or-false (has_two s t))) before
format-write s t e w true is acts before =
    let found = writes-at s t e w is acts in
    let at = found.2 in
    let p = settings s found.0 in
    let mine = mine-of s t e found.0 found.1 w at in
    let two = ap is_two (ap (level_of s) at.made.who ∙ level-at s found.0) in
    let after = format-after p (purpose found.1) (number found.1) (control t) w (known_read found.1) at.written.did at.rule mine in
    record {
      format = two-after w.format (control t).format (has_two s t) (changes (control t) w && is_two (level_of s e.who))
          (after ∙ ap (λ (b : Bool). if changes (control t) w && b then 2 else (control t).format) (sym two)) before.format;
      level = level-after p (levels s) (purpose found.1) (number found.1) (control t) w (known_read found.1) at.written.did refl mine before.level;
    }

-- where the owner stays no owner of level 2 comes
no-change : (two landed level : Bool) → (two || ((landed && false) && level)) ≡ two
no-change two landed level = grind (arith, common_steps)

-- each act keeps the format as it is told
format-act : (s : Scen) (t : List Entry) (e : Entry) (a : Act) → IsRun s (e ∷ t) → e.act ≡ a → FormatOf s (control t) (has_two s t)
    → FormatOf s (control_after a e.land (control t)) (has_two s t || ((lands e.land && changes_owner (control t) a) && is_two (level_of s e.who)))
format-act s t e (act.CtlWrite w) is acts before = format-write s t e w (lands e.land) is acts before
format-act s t e _ is acts before = subst (FormatOf s (control t)) (sym (no-change (has_two s t) (lands e.land) (is_two (level_of s e.who)))) before

-- the format is 2 where an owner of level 2 was, of every run
pub formats : (s : Scen) (t : List Entry) → IsRun s t → FormatOf s (control t) (has_two s t)
formats s [] is = record { format = refl; level = tt }
formats s (e ∷ t) is = format-act s t e e.act is refl (formats s t is.0)

-- each entry leaves the format so
format-is : (s : Scen) (t : List Entry) (e : Entry) → IsRun s (e ∷ t) → FormatIs s t e
format-is s t e is = (formats s (e ∷ t) is).format

-- a job of level 1 that holds a number and has not signed off meets format 1
abbrev IsMet : Scen → ControlRecord → Site → View → Type 0
IsMet s c x v = is_one (levels s x) ≡ true → v.granted ≡ true → is_over v.phase v.purpose ≡ false → c.format ≡ 1

-- of the writer
one-or-two : (format : ℕ) (two : Bool) → format ≡ (if two then 2 else 1) → (format ≡ 1) ⊎ (format ≡ 2)
one-or-two format two is = grind (arith, common_steps)

-- a job of level 1 leaves format 1
own-format : (c w : ControlRecord) (level : Level) → w.format ≡ (if changes c w && is_two level then 2 else c.format) → is_one level ≡ true
    → w.format ≡ c.format
own-format c w level after one = grind (arith, common_steps)

-- who is granted knows the format
not-foreign : (p : Settings) (q : Purpose) (me : ℕ) (c w : ControlRecord) (known : Known) (granted owner : Bool) → Wrote p q me c known w
    → Suits q granted owner
    → (owner ≡ true → granted ≡ true) → granted ≡ false → is_foreign p.level c.format ≡ false
not-foreign p q me c w known granted owner did suits is_granted fresh = grind (arith, common_steps)

-- a format that level 1 knows is 1
foreign-one : (level : Level) (format : ℕ) → is_one level ≡ true → is_foreign level format ≡ false → (format == 2) ≡ false
foreign-one level format one native = grind (arith, common_steps)

-- a job of level 1 that writes read a record of format 1
read-format : (s : Scen) (t : List Entry) (x : Site) (v : View) (w : ControlRecord) (epoch : ℕ) (b : Bool) → IsRun s t → v.granted ≡ b
    → Written (settings s x) (control t) w (confirmed t) v epoch → (v.owner ≡ true → v.granted ≡ true)
    → is_one (levels s x) ≡ true → (v.granted ≡ true → (control t).format ≡ 1) → (control t).format ≡ 1
read-format s t x v w epoch true is granted writes is_granted one met = met granted
read-format s t x v w epoch false is granted writes is_granted one met =
    let p = settings s x in
    is-one (control t).format (one-or-two (control t).format (has_two s t) (formats s t is).format)
    (foreign-one p.level (control t).format one
    (not-foreign p v.purpose v.number (control t) w v.known v.granted v.owner writes.did writes.suits is_granted granted))

-- of the other job
owner-runs : (c : ControlRecord) (k : ℕ → Bool) (y : Site) (n : ℕ) → c.owner ≡ Some (record { inc = n; site = y; state = Running }) → k n ≡ false
    → (owner_is c Running && not (k (inc_of_owner c.owner))) ≡ false → ⊥
owner-runs c k y n owner open_yet over = grind (arith, common_steps)

-- beside an alternate of level 1 the owner is of level 1 where the format is 1
level-two : (level : Site → Level) (c : ControlRecord) (x y : Site) (n : ℕ) → OwnerLevel level c → Beside c y n → x ≡ other y
    → is_two (level x) ≡ true → c.format ≡ 2
level-two level c x y n rule beside there two = grind (arith, common_steps)

-- no owner of level 2 comes beside a job of level 1
no-through : (p : Settings) (level : Site → Level) (q : Purpose) (me : ℕ) (c w : ControlRecord) (known : Known) (k : ℕ → Bool) (y : Site) (u : View) (o b : Bool)
    → Wrote p q me c known w → Knows k known c → Job c k y u → u.granted ≡ true → u.owner ≡ o → is_over u.phase u.purpose ≡ false
    → level p.site ≡ p.level → p.site ≡ other y
    → OwnerLevel level c → c.format ≡ 1 → (changes c w && is_two p.level) ≡ b → b ≡ false
no-through p level q me c w known k y u o false did knows job granted owner over same there rule one is = refl
no-through p level q me c w known k y u true true did knows job granted owner over same there rule one is =
    absurd (owner-runs c k y u.number (job.stands.runs owner over) (job.held granted).open_yet
    (over-none p q me c w known k did knows (and_parts (changes c w) (is_two p.level) is).0))
no-through p level q me c w known k y u false true did knows job granted owner over same there rule one is =
    absurd
    (cc (sym one ∙ level-two level c p.site y u.number rule (job.stands.beside granted owner) there
    (ap is_two same ∙ (and_parts (changes c w) (is_two p.level) is).1)))

-- a write of the other job leaves format 1 to a job of level 1
other-met : (s : Scen) (t : List Entry) (x : Site) (v : View) (w : ControlRecord) (epoch : ℕ) (u : View) → IsRun s t
    → Written (settings s x) (control t) w (confirmed t) v epoch
    → (of_alternate v.purpose ≡ true → Beside (control t) x v.number) → Job (control t) (confirmed t) (other x) u
    → IsMet s (control t) (other x) u → IsMet s w (other x) u
other-met s t x v w epoch u is writes mine job met = λ one granted over.
    let p = settings s x in
    let before = met one granted over in
    format-after p v.purpose v.number (control t) w v.known writes.did (holds-at s t x is).rule mine
    ∙ ap (λ (b : Bool). if b then 2 else (control t).format)
    (no-through p (levels s) v.purpose v.number (control t) w v.known (confirmed t) (other x) u u.owner (changes (control t) w && is_two p.level)
    writes.did writes.knows job granted refl over refl (sym (other-other x)) (formats s t is).level before refl)
    ∙ before

-- over moves
over-reserve : (f : Phase) (q : Purpose) → may_reserve f ≡ true → is_over f q ≡ false
over-reserve f q may = grind (arith, common_steps)

-- an event that leaves the view
quiet-met : (s : Scen) (c : ControlRecord) (x : Site) (made : Event) (h : List Event) → is_quiet made ≡ true → IsMet s c x (view (settings s x) h)
    → IsMet s c x (view (settings s x) (made ∷ h))
quiet-met s c x made h quiet met = subst (IsMet s c x) (sym (quiet-view (settings s x) made h quiet)) met

-- each event of a job keeps it
own-met : (s : Scen) (t : List Entry) (x : Site) (h : List Event) (made : Event) → IsRun s t → hist s t x ≡ Some h → Comes (settings s x) h made
    → IsMet s (control t) x (view (settings s x) h) → IsMet s (control_by made (control t)) x (view (settings s x) (made ∷ h))
own-met s t x h StartedActive is here comes met = absurd comes
own-met s t x h StartedStandby is here comes met = absurd comes
own-met s t x h Reserved is here comes met = λ one granted over.
    met one granted (over-reserve (phase (settings s x) h) (purpose h) (reserve-phase (settings s x) h (history-at s t x h is here) comes))
own-met s t x h (ControlRead held known) is here comes met = λ one granted over.
    met one granted (ap (λ (f : Phase). is_over f (purpose h)) (read-phase (settings s x) h (history-at s t x h is here) comes))
own-met s t x h Released is here comes met = λ one granted over.
    met one granted
    (over-released (purpose h) (phase (settings s x) h) (after_release (settings s x) h)
    (releases-phase (settings s x) h (history-at s t x h is here) comes) (off-ends (settings s x) h) over)
own-met s t x h (ControlWritten w) is here comes met = λ one granted over.
    let p = settings s x in
    let job = job-at s t x h is here in
    let writes = writes-by s t x h w is here comes in
    let read = (write-phase p h w (history-at s t x h is here) comes).0 in
    own-format (control t) w p.level
    (format-after p (purpose h) (number h) (control t) w (known_read h) writes.did (holds-at s t x is).rule
    (write-mine s t x (view p h) w (epoch_number h) writes job)) one
    ∙ read-format s t x (view p h) w (epoch_number h) (is_granted h) is refl writes job.stands.is_granted one
    (λ had. met one had (ap (λ (f : Phase). is_over f (purpose h)) read))
own-met s t x h made is here comes met = quiet-met s (control t) x made h refl met

-- of each job of a run
abbrev pub Met : Fact
Met s c k x h = IsMet s c x (view (settings s x) h)

-- of a job that starts
fresh-met : (s : Scen) (c : ControlRecord) (k : ℕ → Bool) (x : Site) (made : Event) → is_started made ≡ true → Met s c k x (made ∷ [])
fresh-met s c k x StartedActive started = λ one granted over. absurd (cc)
fresh-met s c k x StartedStandby started = λ one granted over. absurd (cc)
fresh-met s c k x _ started = absurd (cc)

-- a write of the other job keeps it
beside-met : (s : Scen) (t : List Entry) (x : Site) (h g : List Event) (w : ControlRecord) → IsRun s t → hist s t x ≡ Some h
    → next (settings s x) h ≡ want.CtlWrite w
    → hist s t (other x) ≡ Some g → Met s (control t) (confirmed t) (other x) g → Met s w (confirmed t) (other x) g
beside-met s t x h g w is here comes there met =
    let p = settings s x in
    let writes = writes-by s t x h w is here comes in
    other-met s t x (view p h) w (epoch_number h) (view (settings s (other x)) g) is writes
    (write-mine s t x (view p h) w (epoch_number h) writes (job-at s t x h is here))
    (job-at s t (other x) g is there) met

-- each kind of move keeps it
met-kept : Kept Met
met-kept = record {
  born = fresh-met;
  ticked = λ s c k x h met. met;
  confirms = λ s c k x h n met. met;
  own = λ s t x h made is here comes given met. own-met s t x h made is here comes met;
  beside = beside-met;
}

-- a job of level 1 meets a record of format 1, of every run
pub are-met : (s : Scen) (t : List Entry) → IsRun s t → (x : Site) → IfSome (hist s t x) (Met s (control t) (confirmed t) x)
are-met = each-job Met met-kept

-- what a job of level 1 meets
met-by : (s : Scen) (t : List Entry) (x : Site) (h : List Event) (f : Phase) → IsRun s t → hist s t x ≡ Some h → phase (settings s x) h ≡ f
    → is_over f (purpose h) ≡ false
    → is_one (levels s x) ≡ true → Where (is_granted h) ((control t).format ≡ 1)
met-by s t x h f is here at over one =
    where-so (is_granted h) ((control t).format ≡ 1) (λ granted.
    let met = subst (λ (job : Option (List Event)). IfSome job (Met s (control t) (confirmed t) x)) here (are-met s t is x) in
    met one granted (ap (λ (g : Phase). is_over g (purpose h)) at ∙ over))

-- so does what it writes
write-met : (s : Scen) (t : List Entry) (x : Site) (h : List Event) (w : ControlRecord) → IsRun s t → hist s t x ≡ Some h
    → next (settings s x) h ≡ want.CtlWrite w
    → is_one (levels s x) ≡ true → w.format ≡ 1
write-met s t x h w is here wants one =
    let p = settings s x in
    let job = job-at s t x h is here in
    let writes = writes-by s t x h w is here wants in
    let read = (write-phase p h w (history-at s t x h is here) wants).0 in
    let met = subst (λ (job : Option (List Event)). IfSome job (Met s (control t) (confirmed t) x)) here (are-met s t is x) in
    own-format (control t) w p.level
    (format-after p (purpose h) (number h) (control t) w (known_read h) writes.did (holds-at s t x is).rule
    (write-mine s t x (view p h) w (epoch_number h) writes job)) one
    ∙ read-format s t x (view p h) w (epoch_number h) (is_granted h) is refl writes job.stands.is_granted one
    (λ had. met one had (ap (λ (f : Phase). is_over f (purpose h)) read))

-- an act of a job of level 1 meets format 1
meets-act : (s : Scen) (t : List Entry) (e : Entry) (x : Site) (h : List Event) (a : Act) → IsRun s (e ∷ t) → e.who ≡ who_at x → hist s t x ≡ Some h → e.act ≡ a
    → is_one (levels s x) ≡ true → HasFormatOne t h a
meets-act s t e x h (act.CtlWrite w) is who here acts one =
    let made = made-at s t e x h is (ap is_act acts) who here in
    write-met s t x h w is.0 here (writes-want s t x h (next (settings s x) h) w (made.made ∙ ap (λ a. Some a) acts)) one
meets-act s t e x h act.CtlRead is who here acts one =
    let made = made-at s t e x h is (ap is_act acts) who here in
    met-by s t x h Held is.0 here
    (read-phase (settings s x) h (history-at s t x h is.0 here) (reads-want s t x h (next (settings s x) h) (made.made ∙ ap (λ a. Some a) acts))) refl one
meets-act s t e x h act.Look1 is who here acts one =
    let made = made-at s t e x h is (ap is_act acts) who here in
    met-by s t x h Outside is.0 here
    (work-phase (settings s x) h (history-at s t x h is.0 here)
    (ap is_work (looks-want s t x h (next (settings s x) h) (made.made ∙ ap (λ a. Some a) acts)))) refl one
meets-act s t e x h _ is who here acts one = tt

-- each entry of a job of level 1 does
meets-format : (s : Scen) (t : List Entry) (e : Entry) → IsRun s (e ∷ t) → MeetsFormat s t e
meets-format s t e is =
    at-site s t e.who (λ x h. Where (is_one (settings s x).level) (HasFormatOne t h e.act)) (λ x h who here.
    where-so (is_one (settings s x).level) (HasFormatOne t h e.act) (meets-act s t e x h e.act is who here refl))

-- **format by level, of every run**
pub format-by-level : (s : Scen) (t : List Entry) → IsRun s t → FormatByLevel s t
format-by-level s t is = record { meets = each-of s (MeetsFormat s) (meets-format s) t is; format = each-of s (FormatIs s) (format-is s) t is }
