-- A DECIDE START of a run, and a line of the command list.
use Rattle.std.proofs.Common.{Bool, false, true, ℕ, List, ◌∷◌, None, Some, ◌≡◌, ap, refl, ◌+◌, ◌&&◌, not, if◌then◌else◌, subst, sym, ◌∙◌, arith, Option, IfSome, nat_lt, length}
use Rattle.std.proofs.lemmas.Grind.{common_steps}
use Rattle.std.proofs.lemmas.Bool.{and_parts}
use Rattle.xrf_base.specs.declared.site.Site.{Site}
use Rattle.xrf_base.specs.declared.site.Takeovr.{Takeovr}
use Rattle.xrf_base.specs.declared.site.Takeovr.TheVariants.{Auto, Manual, Command}
use Rattle.xrf_ctl.specs.Control.{ControlRecord}
use Rattle.xrf_ctl.specs.declared.parts.Cause.{Cause}
use Rattle.xrf_ctl.specs.declared.parts.Cause.TheVariants as cause
use Rattle.xrf_ctl.specs.declared.parts.OwnerState.TheVariants.{OffNormal, OffAbend, OffTakeover}
use Rattle.xrf_cavm.specs.Decisions.{decide, decide_active, decide_waiting, is_auto, is_manual, misses_owner, starts_itself}
use Rattle.xrf_cavm.specs.Record.{is_alt, owner_is}
use Rattle.xrf_cavm.specs.declared.decisions.Decided.{Decided}
use Rattle.xrf_cavm.specs.declared.decisions.Decided.TheVariants.{Alternate, Waiting, Owner}
use Rattle.xrf_cavm.specs.declared.decisions.Decision.{Decision}
use Rattle.xrf_cavm.specs.declared.decisions.Decision.TheVariants as decision
use Rattle.xrf_cavm.specs.declared.decisions.Mode.{Mode}
use Rattle.xrf_cavm.specs.declared.known.Known.{Known}
use Rattle.xrf_history.specs.Deciding.{mode_of, takeover_commanded, takeovr, cause as job_cause}
use Rattle.xrf_history.specs.Events.{Event}
use Rattle.xrf_history.specs.Holding.{is_owner, is_waiting, number}
use Rattle.xrf_history.specs.Looking.{change as change_of, record_seen}
use Rattle.xrf_history.specs.Next.{next}
use Rattle.xrf_history.specs.Notices.{epoch}
use Rattle.xrf_history.specs.declared.settings.Settings.{Settings}
use Rattle.xrf_history.specs.declared.want.Want.{Want}
use Rattle.xrf_history.specs.declared.want.Want.TheVariants as want
use Rattle.xrf_trace.specs.Acts.{act_of, is_act, next_item}
use Rattle.xrf_trace.specs.Jobs.{hist, known_of}
use Rattle.xrf_trace.specs.Runs.{IsRun}
use Rattle.xrf_trace.specs.Scenario.{Scen, settings, work}
use Rattle.xrf_trace.specs.Entries.{inc_of_act}
use Rattle.xrf_trace.specs.Words.{items_taken, now as now_of, who_at}
use Rattle.xrf_trace.specs.declared.entry.Act.{Act}
use Rattle.xrf_trace.specs.declared.entry.Act.TheVariants as act
use Rattle.xrf_trace.specs.declared.entry.Entry.{Entry}
use Rattle.xrf_trace.proofs.Sites.{same-site}
use Rattle.xrf_trace.proofs.TraceActs.{IsMade, act-next, decides-want}
use Rattle.xrf_group.specs.Theorem.{start_decided}
use Rattle.xrf_group.proofs.LinesWait.{lines-wait}

-- what a start tells: a command, where it is by command; and in COMMAND mode nothing else starts it
abbrev pub StartTells : Mode → Decision → Type 0
StartTells mode (decision.Start cause.Command) = mode.commanded ≡ true
StartTells mode (decision.Start why) = starts_itself mode.takeovr ≡ true
StartTells mode _ = Unit {0}

-- AUTO and MANUAL start by themselves
auto-starts : (mode : Takeovr) → is_auto mode ≡ true → starts_itself mode ≡ true
auto-starts Auto is = refl
auto-starts Manual is = absurd (cc)
auto-starts Command is = absurd (cc)

manual-starts : (mode : Takeovr) → is_manual mode ≡ true → starts_itself mode ≡ true
manual-starts Auto is = absurd (cc)
manual-starts Manual is = refl
manual-starts Command is = absurd (cc)

-- of either of two, by a test
either-tells : (mode : Mode) (b : Bool) (one other : Decision) → (b ≡ true → StartTells mode one) → (b ≡ false → StartTells mode other)
    → StartTells mode (if b then one else other)
either-tells mode true one other first second = first refl
either-tells mode false one other first second = second refl

decide-tells : (change : ℕ) (r : ControlRecord) (me : ℕ) (mode : Mode) (now : ℕ) → StartTells mode (decide change r me mode now)
decide-tells change r me mode now =
    either-tells mode mode.shutdown _ _ (λ _. tt) (λ _.
    either-tells mode (not (is_alt r me)) _ _ (λ _. tt) (λ _.
    either-tells mode (owner_is r OffNormal) _ _ (λ _. tt) (λ _.
    either-tells mode mode.commanded _ _ (λ commanded. commanded) (λ _.
    either-tells mode (owner_is r OffAbend && starts_itself mode.takeovr) _ _ (λ both. (and_parts (owner_is r OffAbend) (starts_itself mode.takeovr) both).1) (λ _.
    either-tells mode (owner_is r OffTakeover && starts_itself mode.takeovr) _ _ (λ both. (and_parts (owner_is r OffTakeover) (starts_itself mode.takeovr) both).1) (λ _.
    either-tells mode (misses_owner change r mode now && is_auto mode.takeovr) _ _ (λ both. auto-starts mode.takeovr (and_parts (misses_owner change r mode now) (is_auto mode.takeovr) both).1) (λ _.
    either-tells mode (misses_owner change r mode now && is_manual mode.takeovr && mode.go) _ _ (λ both.
    manual-starts mode.takeovr
    (and_parts (misses_owner change r mode now) (is_manual mode.takeovr) (and_parts (misses_owner change r mode now && is_manual mode.takeovr) mode.go both).0).1) (λ _.
    either-tells mode (misses_owner change r mode now && is_manual mode.takeovr && not mode.asked) _ _ (λ _. tt) (λ _. tt)))))))))

-- A START of a run comes of a tracking alternate, whose cause it is.
pub record StartsBy (s : Scen) (t : List Entry) (e : Entry) (x : Site) (cause : Cause) : Type 0 where
  pub job : List Event
  pub there : hist s t x ≡ Some job
  pub its_number : e.inc ≡ number job
  pub tells : StartTells (mode_of (settings s x) job) (decision.Start cause)

abbrev DecidedTells : Settings → List Event → Decided → Type 0
DecidedTells p h (Alternate made) = StartTells (mode_of p h) made
DecidedTells p h _ = Unit {0}

cause-tells : (p : Settings) (h : List Event) (known : Known) (at : ℕ) → DecidedTells p h (job_cause p h known at)
cause-tells p h known at = by (is_owner h) (is_waiting h)
  where
    by : (owner waiting : Bool) → DecidedTells p h (elim owner [
      | true ↦ Owner (decide_active (change_of h) (record_seen h) (epoch h) p.pdi at)
      | false ↦ elim waiting [
        | true ↦ Waiting (decide_waiting (record_seen h) known)
        | false ↦ Alternate (decide (change_of h) (record_seen h) (number h) (mode_of p h) at)
      ]
    ])
    by true waiting = tt
    by false true = tt
    by false false = decide-tells (change_of h) (record_seen h) (number h) (mode_of p h) at

-- the act of a START
start-act : (a : Act) (c : Cause) → start_decided a ≡ Some c → a ≡ act.Decide (Alternate (decision.Start c))
start-act (act.Decide (Alternate (decision.Start d))) c is =
    let same : d ≡ c = grind (arith, common_steps) in
    ap (λ (k : Cause). act.Decide (Alternate (decision.Start k))) same
start-act _ c is = absurd (cc)

pub starts-by : (s : Scen) (t : List Entry) (e : Entry) (x : Site) (c : Cause) → IsRun s (e ∷ t) → e.who ≡ who_at x → start_decided e.act ≡ Some c → StartsBy s t e x c
starts-by s t e x c is who starts =
    let acts = start-act e.act c starts in
    let made = act-next s t e is (ap is_act acts) in
    let site : made.0 ≡ x = same-site made.0 x (sym made.2.who ∙ who) in
    let moved : IsMade s t e x made.1 = subst (λ y. IsMade s t e y made.1) site made.2 in
    let decided = decides-want s t x made.1 (next (settings s x) made.1) (Alternate (decision.Start c)) (moved.made ∙ ap (λ a. Some a) acts) in
    record {
      job = made.1;
      there = moved.there;
      its_number = moved.inc ∙ ap (λ a. inc_of_act a made.1) acts;
      tells = subst (DecidedTells (settings s x) made.1) (sym decided.1) (cause-tells (settings s x) made.1 (known_of t (record_seen made.1)) (now_of t));
    }

-- by command: the job was commanded
pub by-command : (p : Settings) (h : List Event) → StartTells (mode_of p h) (decision.Start cause.Command) → takeover_commanded h ≡ true
by-command p h tells = tells

-- in COMMAND mode each start is by command
pub in-command-mode : (p : Settings) (h : List Event) (c : Cause) → takeovr p h ≡ Command → StartTells (mode_of p h) (decision.Start c) → c ≡ cause.Command
in-command-mode p h cause.Command mode tells = refl
in-command-mode p h cause.Lost mode tells = absurd (cc (sym tells ∙ ap starts_itself mode))
in-command-mode p h cause.Abend mode tells = absurd (cc (sym tells ∙ ap starts_itself mode))
in-command-mode p h cause.Shutdown mode tells = absurd (cc (sym tells ∙ ap starts_itself mode))

-- A LINE of the command list comes of a waiting alternate.
abbrev TellsLine : Act → Want → Type 0
TellsLine (act.Clt k) w = w ≡ want.Clt k
TellsLine _ w = Unit {0}

item-line : (s : Scen) (t : List Entry) (x : Site) → IfSome (next_item s t x) (λ a. TellsLine a want.Item)
item-line s t x = by (nat_lt (items_taken t x) (length (work s x)))
  where
    by : (b : Bool) → IfSome (if b then Some (act.Item (items_taken t x + 1)) else None) (λ a. TellsLine a want.Item)
    by true = tt
    by false = tt

act_of-line : (s : Scen) (t : List Entry) (x : Site) (h : List Event) (w : Want) → IfSome (act_of s t x h w) (λ a. TellsLine a w)
act_of-line s t x h (want.Clt k) = refl
act_of-line s t x h want.Item = item-line s t x
act_of-line s t x h _ = tt

pub record LineBy (s : Scen) (t : List Entry) : Type 0 where
  pub at : Site
  pub job : List Event
  pub there : hist s t at ≡ Some job
  pub waits : is_waiting job ≡ true

pub line-by : (s : Scen) (t : List Entry) (e : Entry) (k : ℕ) → IsRun s (e ∷ t) → e.act ≡ act.Clt k → LineBy s t
line-by s t e k is acts =
    let made = act-next s t e is (ap is_act acts) in
    let p = settings s made.0 in
    let wanted : next p made.1 ≡ want.Clt k =
    subst (λ (o : Option Act). IfSome o (λ a. TellsLine a (next p made.1))) (made.2.made ∙ ap (λ a. Some a) acts) (act_of-line s t made.0 made.1 (next p made.1)) in
    record { at = made.0; job = made.1; there = made.2.there; waits = lines-wait p made.1 k wanted }
