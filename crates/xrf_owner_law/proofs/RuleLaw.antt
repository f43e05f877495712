-- The record keeps its rule, its last number is at most the number of entries, and a sign-off gives a record.
use Rattle.std.proofs.Common.{arith, ℕ, ◌≤◌, ◌+◌, Bool, List, false, length, true, ◌≡◌, ◌∷◌, refl, [], is_some, Some, ap, subst, sym}
use Rattle.std.proofs.lemmas.Grind.{common_steps}
use Rattle.xrf_base.specs.declared.site.Site.{Site}
use Rattle.xrf_ctl.specs.Control.{ControlRecord, KeepsRule}
use Rattle.xrf_ctl.specs.declared.parts.OwnerState.{OwnerState}
use Rattle.xrf_ctl.specs.declared.parts.Cause.{Cause}
use Rattle.xrf_cavm.specs.declared.known.Known.{Known}
use Rattle.xrf_cavm.specs.Writes.{sign_off}
use Rattle.xrf_history.specs.declared.settings.Settings.{Settings}
use Rattle.xrf_history.specs.Reserving.{SignOnActive, SignOnStandby, SignOff, DropAlternate, Leave, StartTakeover, GoThrough, Purpose, known_read, purpose, record_read}
use Rattle.xrf_history.proofs.Writes.{Wrote}
use Rattle.xrf_history.specs.declared.want.EndWhy.{EndWhy}
use Rattle.xrf_history.specs.Holding.{number, is_granted, is_owner}
use Rattle.xrf_history.specs.Events.{Event}
use Rattle.xrf_history.proofs.Phases.{HasRead, Phase, before_write, phase}
use Rattle.xrf_history.proofs.Purposes.{Suits, suited}
use Rattle.xrf_trace.specs.declared.entry.Entry.{Entry}
use Rattle.xrf_trace.specs.Runs.{IsRun}
use Rattle.xrf_trace.specs.Scenario.{Scen, settings}
use Rattle.xrf_trace.specs.Devices.{control, written_if, control_after}
use Rattle.xrf_trace.specs.declared.entry.Act.{Act}
use Rattle.xrf_trace.specs.Landing.{lands}
use Rattle.xrf_trace.specs.Jobs.{hist}
use Rattle.xrf_trace.proofs.Paths.{history-at}
use Rattle.xrf_trace.specs.declared.entry.Act.TheVariants as act
use Rattle.xrf_owner_law.proofs.WritesOfRuns.{writes-at}
use Rattle.xrf_owner_law.specs.Owner.{IsOwner}
use Rattle.xrf_owner_law.specs.Views.{is_over}
use Rattle.xrf_owner_law.proofs.Invariant.{job-at}

-- a sign-on as active keeps the record's rule
keeps-active : (p : Settings) (me : ℕ) (c w : ControlRecord) (known : Known) → Wrote p SignOnActive me c known w → KeepsRule c → KeepsRule w
keeps-active p me c w known did rule = grind (arith, common_steps)

-- a sign-on as standby
keeps-standby : (p : Settings) (me : ℕ) (c w : ControlRecord) (known : Known) → Wrote p SignOnStandby me c known w → KeepsRule c → KeepsRule w
keeps-standby p me c w known did rule = grind (arith, common_steps)

-- a sign-off
keeps-off : (p : Settings) (state : OwnerState) (me : ℕ) (c w : ControlRecord) (known : Known) → Wrote p (SignOff state) me c known w → KeepsRule c
    → KeepsRule w
keeps-off p state me c w known did rule = grind (arith, common_steps)

-- a drop
keeps-drop : (p : Settings) (me : ℕ) (c w : ControlRecord) (known : Known) → Wrote p DropAlternate me c known w → KeepsRule c → KeepsRule w
keeps-drop p me c w known did rule = grind (arith, common_steps)

-- a leave
keeps-leave : (p : Settings) (reason : EndWhy) (me : ℕ) (c w : ControlRecord) (known : Known) → Wrote p (Leave reason) me c known w → KeepsRule c → KeepsRule w
keeps-leave p reason me c w known did rule = grind (arith, common_steps)

-- a start of a takeover
keeps-start : (p : Settings) (cause : Cause) (me : ℕ) (c w : ControlRecord) (known : Known) → Wrote p (StartTakeover cause) me c known w
    → KeepsRule c → KeepsRule w
keeps-start p cause me c w known did rule = grind (arith, common_steps)

-- a through
keeps-through : (p : Settings) (me : ℕ) (c w : ControlRecord) (known : Known) → Wrote p GoThrough me c known w → KeepsRule c → KeepsRule w
keeps-through p me c w known did rule = grind (arith, common_steps)

-- whatever is written keeps the record's rule
keeps : (p : Settings) (q : Purpose) (me : ℕ) (c w : ControlRecord) (known : Known) → Wrote p q me c known w → KeepsRule c → KeepsRule w
keeps p SignOnActive me c w known did rule = keeps-active p me c w known did rule
keeps p SignOnStandby me c w known did rule = keeps-standby p me c w known did rule
keeps p (SignOff state) me c w known did rule = keeps-off p state me c w known did rule
keeps p DropAlternate me c w known did rule = keeps-drop p me c w known did rule
keeps p (Leave reason) me c w known did rule = keeps-leave p reason me c w known did rule
keeps p (StartTakeover cause) me c w known did rule = keeps-start p cause me c w known did rule
keeps p GoThrough me c w known did rule = keeps-through p me c w known did rule

-- the last number rises by one at most
pub rises-by-one : (p : Settings) (q : Purpose) (me : ℕ) (c w : ControlRecord) (known : Known) → Wrote p q me c known w → w.last ≤ c.last + 1
rises-by-one p q me c w known did = grind (arith, common_steps)

-- the record keeps its rule, and its last number is at most the number of entries
pub record IsKept (c : ControlRecord) (count : ℕ) : Type 0 where
  pub rule : KeepsRule c
  pub last : c.last ≤ count

-- a CTLWRITE, by whether it lands
kept-write : (s : Scen) (t : List Entry) (e : Entry) (w : ControlRecord) (b : Bool) → IsRun s (e ∷ t) → e.act ≡ act.CtlWrite w → IsKept (control t) (length t)
    → IsKept (written_if b w (control t)) (length t + 1)
kept-write s t e w false is acts before = record { rule = before.rule; last = omega (arith, before.last) }
kept-write s t e w true is acts before =
    let found = writes-at s t e w is acts in
    let at = found.2 in
    let p = settings s found.0 in
    record {
      rule = keeps p (purpose found.1) (number found.1) (control t) w (known_read found.1) at.written.did before.rule;
      last = omega (arith, before.last, rises-by-one p (purpose found.1) (number found.1) (control t) w (known_read found.1) at.written.did);
    }

-- each act keeps it
kept-act : (s : Scen) (t : List Entry) (e : Entry) (a : Act) → IsRun s (e ∷ t) → e.act ≡ a → IsKept (control t) (length t)
    → IsKept (control_after a e.land (control t)) (length t + 1)
kept-act s t e (act.CtlWrite w) is acts before = kept-write s t e w (lands e.land) is acts before
kept-act s t e _ is acts before = record { rule = before.rule; last = omega (arith, before.last) }

-- **the record of every run keeps its rule, and its last number is at most the number of entries**
pub kept : (s : Scen) (t : List Entry) → IsRun s t → IsKept (control t) (length t)
kept s [] is = record { rule = record { owner = tt; alt = tt; taking = tt }; last = omega arith }
kept s (e ∷ t) is =
    let now = kept-act s t e e.act is refl (kept s t is.0) in
    record { rule = now.rule; last = omega (arith, now.last) }

-- what take asks: after the CTLREAD of a sign-off and of a through a record is given
off-gives : (c : ControlRecord) (x : Site) (n : ℕ) (state : OwnerState) → IsOwner c x n → is_some (sign_off c n state) ≡ true
off-gives c x n state owner = grind (arith, common_steps)

-- after the CTLREAD of a sign-off there is a record to write
pub sign-off-gives : (s : Scen) (t : List Entry) (x : Site) (h : List Event) (state : OwnerState) → IsRun s t → hist s t x ≡ Some h
    → phase (settings s x) h ≡ HasRead
    → purpose h ≡ SignOff state → is_some (sign_off (record_read h) (number h) state) ≡ true
sign-off-gives s t x h state is here at purposed =
    let p = settings s x in
    let job = job-at s t x h is here in
    let path = history-at s t x h is here in
    let owner = subst (λ (q : Purpose). Suits q (is_granted h) (is_owner h)) purposed (suited p h path (ap before_write at)) in
    subst (λ (c : ControlRecord). is_some (sign_off c (number h) state) ≡ true) (sym (job.read at).0)
    (off-gives (control t) x (number h) state (job.stands.runs owner (ap (λ (f : Phase). is_over f (purpose h)) at)))
