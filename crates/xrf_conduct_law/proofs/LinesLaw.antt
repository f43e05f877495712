-- In every run the lines of the command list are issued by a waiting alternate alone, each once and in their order.
use Rattle.std.proofs.Common.{◌≡◌, ℕ, ◌+◌, Bool, true, false, ◌&&◌, ◌||◌, nat_lt, is_some, is_none, if◌then◌else◌, List, [], ◌∷◌, Option, Some, None, IfSome, refl, sym, ap, ◌∙◌, subst, arith}
use Rattle.std.proofs.lemmas.Grind.{common_steps}
use Rattle.std.proofs.lemmas.Bool.{and_parts}
use Rattle.xrf_base.specs.declared.site.Site.{Site}
use Rattle.xrf_ctl.specs.declared.parts.OwnerState.{OwnerState}
use Rattle.xrf_ctl.specs.Control.{ControlRecord}
use Rattle.xrf_cavm.specs.declared.known.Known.{Known}
use Rattle.xrf_exit.specs.declared.Notice.{Notice}
use Rattle.xrf_history.specs.declared.settings.Settings.{Settings}
use Rattle.xrf_history.specs.declared.want.EndWhy.{EndWhy}
use Rattle.xrf_history.specs.declared.want.Want.{Want}
use Rattle.xrf_history.specs.declared.want.Want.TheVariants as want
use Rattle.xrf_history.specs.Events.{Event, StartedActive, StartedStandby, Ticked, Abended, Replied, Commanded, Exited, ControlWritten, Released, DecisionMade, FirstBlockRead, BlockRead, LineIssued, EndedAs, ActFailed}
use Rattle.xrf_history.specs.Answers.{may_fail}
use Rattle.xrf_history.specs.Holding.{number, is_granted, is_owner, is_alternate, is_waiting, has_started_takeover}
use Rattle.xrf_history.specs.Reserving.{Purpose, SignOff, Leave, StartTakeover, purpose, record_read, known_read, sign_off_due, leaves, record_by_purpose, end_by_purpose}
use Rattle.xrf_history.specs.Notices.{notice, epoch_number}
use Rattle.xrf_history.specs.Rows.{lines_issued, lines_left, owner_works, owner_row, alternate_row, alternate_next, boundary}
use Rattle.xrf_history.specs.Next.{inside, next, or_boundary, end_for, end_next, record_for}
use Rattle.xrf_history.proofs.Histories.{IsHistory, Comes, induct}
use Rattle.xrf_history.proofs.Phases.{is_outside, before_write}
use Rattle.xrf_history.proofs.PhaseLaws.{boundary-outside, write-phase}
use Rattle.xrf_history.proofs.Purposes.{Suits, suited}
use Rattle.xrf_trace.specs.declared.entry.Entry.{Entry}
use Rattle.xrf_trace.specs.declared.entry.Act.{Act}
use Rattle.xrf_trace.specs.declared.entry.Act.TheVariants as act
use Rattle.xrf_trace.specs.Scenario.{Scen, settings}
use Rattle.xrf_trace.specs.Words.{who_at}
use Rattle.xrf_trace.specs.Jobs.{hist}
use Rattle.xrf_trace.specs.Acts.{is_act, act_of}
use Rattle.xrf_trace.specs.Runs.{IsRun}
use Rattle.xrf_trace.specs.Each.{AtSite, Where}
use Rattle.xrf_trace.specs.LinesAsListed.{IsListed, LinesAsListed}
use Rattle.xrf_trace.proofs.Paths.{history-at}
use Rattle.xrf_trace.proofs.AtSites.{at-site, each-of, made-at}
use Rattle.xrf_log_law.proofs.JobActs.{of-item}
use Rattle.xrf_conduct_law.proofs.Begun.{begins-at}

abbrev is_line : Want → Bool
is_line (want.Clt k) = true
is_line _ = false

-- no owner issues a line at a boundary
works-no_line : (p : Settings) (h : List Event) → is_line (owner_works p h) ≡ false
works-no_line p h = grind (arith, common_steps)

owner-no_line : (p : Settings) (h : List Event) (state : Option OwnerState) (told : Option Notice) → is_line (owner_row p h state told) ≡ false
owner-no_line p h (Some state) told = refl
owner-no_line p h None (Some told) = refl
owner-no_line p h None None = works-no_line p h

-- nor does an alternate that has none left
row-no_line : (p : Settings) (h : List Event) → is_line (alternate_row p h (leaves h)) ≡ false
row-no_line p h = grind (arith, common_steps)

-- a line that comes at a boundary is the next of those that are left
abbrev IsNextLine : Settings → List Event → ℕ → Type 0
IsNextLine p h k = (lines_left p h ≡ true) × (k ≡ lines_issued h + 1)

same-line : (k n : ℕ) → want.Clt k ≡ want.Clt n → n ≡ k
same-line k n is = grind (arith, common_steps)

line-left : (p : Settings) (h : List Event) (k : ℕ) → alternate_next p h ≡ want.Clt k → IsNextLine p h k
line-left p h k is = by (lines_left p h) refl is
  where
    by : (b : Bool) → lines_left p h ≡ b → (if b then want.Clt (lines_issued h + 1) else alternate_row p h (leaves h)) ≡ want.Clt k → IsNextLine p h k
    by true left is = (left, same-line (lines_issued h + 1) k is)
    by false left is = absurd (cc (sym (row-no_line p h) ∙ ap is_line is))

boundary-line : (p : Settings) (h : List Event) (k : ℕ) → boundary p h ≡ want.Clt k → IsNextLine p h k
boundary-line p h k is = by (is_owner h) is
  where
    by : (b : Bool) → (if b then owner_row p h (sign_off_due h) (notice h) else alternate_next p h) ≡ want.Clt k → IsNextLine p h k
    by true is = absurd (cc (sym (owner-no_line p h (sign_off_due h) (notice h)) ∙ ap is_line is))
    by false is = line-left p h k is

-- and while lines are left it does come there
left-boundary : (p : Settings) (h : List Event) → lines_left p h ≡ true → boundary p h ≡ want.Clt (lines_issued h + 1)
left-boundary p h left = by (is_owner h) refl
  where
    owner-none : is_owner h ≡ true → lines_left p h ≡ false
    owner-none owner = grind (arith, common_steps)

    by : (b : Bool) → is_owner h ≡ b → (if b then owner_row p h (sign_off_due h) (notice h) else alternate_next p h) ≡ want.Clt (lines_issued h + 1)
    by true owner = absurd (cc (sym (owner-none owner) ∙ left))
    by false owner = ap (λ (b : Bool). if b then want.Clt (lines_issued h + 1) else alternate_row p h (leaves h)) left

-- while lines are left the job stands at a boundary, or before the RELEASE of a start that goes on
abbrev Lets : Option Want → Option EndWhy → Type 0
Lets None ends = Unit {0}
Lets (Some want.Release) ends = ends ≡ None
Lets (Some _) ends = ⊥

abbrev LinesGoOn : Settings → List Event → Type 0
LinesGoOn p h = lines_left p h ≡ true → Lets (inside p h) (end_for p h)

abbrev is_listed : Want → Bool
is_listed (want.Clt k) = true
is_listed want.Release = true
is_listed _ = false

-- so where another act is next none are left
none-left : (p : Settings) (h : List Event) → LinesGoOn p h → is_listed (next p h) ≡ false → lines_left p h ≡ false
none-left p h goes other = by (lines_left p h) refl
  where
    stands : lines_left p h ≡ true → (o : Option Want) → Lets o (end_for p h) → is_listed (or_boundary p h o) ≡ false → ⊥
    stands left None lets other = absurd (cc (sym (ap is_listed (left-boundary p h left)) ∙ other))
    stands left (Some want.Release) lets other = absurd (cc)
    stands left (Some _) lets other = absurd lets

    by : (b : Bool) → lines_left p h ≡ b → b ≡ false
    by false left = refl
    by true left = absurd (stands left (inside p h) (goes left) other)

-- so no such act is followed by a line
none-after : (p : Settings) (h : List Event) → LinesGoOn p h → is_listed (next p h) ≡ false → lines_left p h ≡ true → ⊥
none-after p h goes other left = absurd (cc (sym (none-left p h goes other) ∙ left))

fails-other : (w : Want) → may_fail w ≡ true → is_listed w ≡ false
fails-other w may = grind (arith, common_steps)

-- the write by which a job begins to wait is that of a start that goes on, since it brings a taking
start-ends : (p : Settings) (q : Purpose) (granted owner started : Bool) (n epoch : ℕ) (held w : ControlRecord) (known : Known)
    → Suits q granted owner → record_by_purpose p q n epoch held known ≡ Some w → owner ≡ false → (granted ≡ true → started ≡ false)
    → (started || is_some w.taking) ≡ true
    → end_by_purpose p q (if granted then n else w.last) held known ≡ None
start-ends p q granted owner started n epoch held w known suits gives no_owner fresh taking = grind (arith, common_steps)

wait-ends : (p : Settings) (h : List Event) (w : ControlRecord) → IsHistory p h → next p h ≡ want.CtlWrite w → lines_left p h ≡ false
    → lines_left p (ControlWritten w ∷ h) ≡ true → end_for p (ControlWritten w ∷ h) ≡ None
wait-ends p h w is comes none left =
    let wrote = write-phase p h w is comes in
    let suits = suited p h is (ap before_write wrote.0) in
    let waits = and_parts (is_waiting (ControlWritten w ∷ h)) (nat_lt (lines_issued h) p.clt_lines) left in
    let kind = and_parts (is_alternate (ControlWritten w ∷ h)) (has_started_takeover (ControlWritten w ∷ h)) waits.0 in
    start-ends p (purpose h) (is_granted h) (is_owner h) (has_started_takeover h) (number h) (epoch_number h) (record_read h) w (known_read h)
    suits wrote.1 (no-owner kind.0) (fresh waits.1) (starts kind.1)
  where
    no-owner : is_alternate (ControlWritten w ∷ h) ≡ true → is_owner h ≡ false
    no-owner alternate = grind (arith, common_steps)

    fresh : nat_lt (lines_issued h) p.clt_lines ≡ true → is_granted h ≡ true → has_started_takeover h ≡ false
    fresh less granted = grind (arith, common_steps)

    starts : has_started_takeover (ControlWritten w ∷ h) ≡ true → (has_started_takeover h || is_some w.taking) ≡ true
    starts started = grind (arith, common_steps)

-- the RELEASE of such a start is followed by no ENDED
release-lets : (p : Settings) (h : List Event) (o : Option Want) → or_boundary p h o ≡ want.Release → Lets o (end_for p h) → Lets (end_next (end_for p h)) (end_for p h)
release-lets p h None is lets = absurd (cc (sym (boundary-outside p h) ∙ ap is_outside is))
release-lets p h (Some want.Release) is lets = subst (λ (o : Option EndWhy). Lets (end_next o) o) (sym lets) tt
release-lets p h (Some _) is lets = absurd lets

lines-step : (p : Settings) (h : List Event) (e : Event) → IsHistory p h → Comes p h e → LinesGoOn p h → LinesGoOn p (e ∷ h)
lines-step p h StartedActive is comes goes = absurd comes
lines-step p h StartedStandby is comes goes = absurd comes
lines-step p h (EndedAs reason) is comes goes = absurd comes
lines-step p h Ticked is comes goes = goes
lines-step p h Abended is comes goes = goes
lines-step p h (Replied go n) is comes goes = goes
lines-step p h (Commanded command n) is comes goes = goes
lines-step p h (Exited answer n) is comes goes = goes
lines-step p h (LineIssued k) is comes goes = λ left. tt
lines-step p h (ControlWritten w) is comes goes = λ left. wait-ends p h w is comes (none-left p h goes (ap is_listed comes)) left
lines-step p h Released is comes goes = λ left. release-lets p h (inside p h) comes (goes left)
lines-step p h (DecisionMade known n decision) is comes goes = λ left. absurd (none-after p h goes (ap is_listed comes.0) left)
lines-step p h (FirstBlockRead block keys) is comes goes = λ left. absurd (none-after p h goes (ap is_listed comes.1) left)
lines-step p h (BlockRead block) is comes goes = λ left. absurd (none-after p h goes (ap is_listed comes.1) left)
lines-step p h (ActFailed tried n) is comes goes = λ left. absurd (none-after p h goes (ap is_listed comes.0 ∙ fails-other tried comes.1) left)
lines-step p h e is comes goes = λ left. absurd (none-after p h goes (ap is_listed comes) left)

lines-go-on : (p : Settings) (h : List Event) → IsHistory p h → LinesGoOn p h
lines-go-on p h is = induct LinesGoOn (λ p. λ left. absurd (cc)) (λ p. λ left. absurd (cc)) lines-step p h is

-- the act that is next keeps to the list
next-listed : (s : Scen) (t : List Entry) (x : Site) (h : List Event) (w : Want) → IsHistory (settings s x) h → next (settings s x) h ≡ w
    → IfSome (act_of s t x h w) (IsListed (settings s x) h)
next-listed s t x h want.Nothing is comes = tt
next-listed s t x h (want.Exit told) is comes = tt
next-listed s t x h (want.Clt k) is comes = boundary-line (settings s x) h k (begins-at (settings s x) h (want.Clt k) comes refl)
next-listed s t x h want.Release is comes = tt
next-listed s t x h want.Item is comes =
    of-item s t x (IsListed (settings s x) h) (none-left (settings s x) h (lines-go-on (settings s x) h is) (ap is_listed comes))
next-listed s t x h w is comes = none-left (settings s x) h (lines-go-on (settings s x) h is) (ap is_listed comes)

-- nothing is said of what is no act
where-not : (b : Bool) (F : Type 0) → b ≡ false → Where b F
where-not true F no_act = absurd (cc)
where-not false F no_act = tt

inert-listed : (p : Settings) (h : List Event) (a : Act) → is_act a ≡ false → IsListed p h a
inert-listed p h (act.Clt k) inert = absurd (cc)
inert-listed p h act.Release inert = tt
inert-listed p h a inert = where-not (is_act a) (lines_left p h ≡ false) inert

listed-at : (s : Scen) (t : List Entry) (e : Entry) (x : Site) (h : List Event) → IsRun s (e ∷ t) → e.who ≡ who_at x → hist s t x ≡ Some h
    → IsListed (settings s x) h e.act
listed-at s t e x h is who here = by (is_act e.act) refl
  where
    by : (b : Bool) → is_act e.act ≡ b → IsListed (settings s x) h e.act
    by false inert = inert-listed (settings s x) h e.act inert
    by true acts =
        subst (λ (o : Option Act). IfSome o (IsListed (settings s x) h)) (made-at s t e x h is acts who here).made
        (next-listed s t x h (next (settings s x) h) (history-at s t x h is.0 here) refl)

-- **lines are issued as listed, in every run**
pub lines-as-listed : (s : Scen) (t : List Entry) → IsRun s t → LinesAsListed s t
lines-as-listed s t is =
    each-of s (λ t e. AtSite s t e.who (λ x h. IsListed (settings s x) h e.act))
    (λ t e is. at-site s t e.who (λ x h. IsListed (settings s x) h e.act) (λ x h who here. listed-at s t e x h is who here)) t is
