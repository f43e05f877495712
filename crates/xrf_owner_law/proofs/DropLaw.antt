-- A drop that is made leaves no alternate, of every run.
use Rattle.std.proofs.Common.{None, true, ◌≡◌, arith, ℕ, Option, Some, List, ◌∷◌, Bool, [], ap, is_none, ◌&&◌, IfSome, subst, sym, ◌∙◌, refl}
use Rattle.std.proofs.lemmas.Grind.{common_steps}
use Rattle.xrf_base.specs.declared.site.Site.{Site}
use Rattle.xrf_ctl.specs.Control.{ControlRecord}
use Rattle.xrf_cavm.specs.declared.known.Known.{Known}
use Rattle.xrf_cavm.specs.Record.{is_alt}
use Rattle.xrf_history.proofs.Phases.{HasWritten, phase, released, has_reserve, HasRead, NextIn, Phase, may_release}
use Rattle.xrf_history.specs.Notices.{is_drop, drop_is_made, epoch, number_or_none}
use Rattle.xrf_history.specs.Reserving.{purpose, Purpose, known_read, record_by_purpose, record_read}
use Rattle.xrf_history.specs.declared.settings.Settings.{Settings}
use Rattle.xrf_history.proofs.Writes.{Wrote}
use Rattle.xrf_history.specs.declared.want.Want.{Want}
use Rattle.xrf_history.proofs.Histories.{Comes, is_started}
use Rattle.xrf_history.specs.Events.{ControlRead, ControlWritten, Event, Released, Reserved, StartedActive, StartedStandby}
use Rattle.xrf_history.specs.Next.{after_release, after_control_read, next, record_for}
use Rattle.xrf_history.specs.Holding.{number}
use Rattle.xrf_history.proofs.PhaseLaws.{write-phase, next-inside, phase-next, releases-none, releases-phase}
use Rattle.xrf_history.specs.declared.want.Want.TheVariants as want
use Rattle.xrf_trace.proofs.EachJob.{Fact, Kept, each-job}
use Rattle.xrf_trace.specs.Scenario.{settings, Scen}
use Rattle.xrf_trace.specs.declared.entry.Entry.{Entry}
use Rattle.xrf_trace.proofs.Moves.{IsHanded, control_by}
use Rattle.xrf_trace.specs.Runs.{IsRun}
use Rattle.xrf_trace.specs.Words.{confirmed}
use Rattle.xrf_trace.specs.Devices.{control}
use Rattle.xrf_trace.specs.Jobs.{hist}
use Rattle.xrf_trace.proofs.Paths.{history-at}
use Rattle.xrf_owner_law.proofs.WritesOfRuns.{writes-by}
use Rattle.xrf_owner_law.proofs.Invariant.{one-reserve, job-at}

-- after the write of a drop
abbrev Dropped : Fact
Dropped s c k x h = phase (settings s x) h ≡ HasWritten → is_drop (purpose h) ≡ true → c.alt ≡ None

-- a drop leaves no alternate
drops : (p : Settings) (q : Purpose) (me : ℕ) (c w : ControlRecord) (known : Known) → Wrote p q me c known w → is_drop q ≡ true → w.alt ≡ None
drops p q me c w known did is = grind (arith, common_steps)

-- after a RELEASE nothing is written
pub not-written : (o : Option Want) → released o ≡ HasWritten → ⊥
not-written None is = absurd (cc)
not-written (Some w) is = absurd (cc)

-- each event keeps it
own-dropped : (s : Scen) (t : List Entry) (x : Site) (h : List Event) (made : Event) → IsRun s t → hist s t x ≡ Some h → Comes (settings s x) h made
    → IsHanded s t x h made
    → Dropped s (control t) (confirmed t) x h → Dropped s (control_by made (control t)) (confirmed t) x (made ∷ h)
own-dropped s t x h StartedActive is here comes given dropped = absurd comes
own-dropped s t x h StartedStandby is here comes given dropped = absurd comes
own-dropped s t x h Reserved is here comes given dropped = λ at. absurd (cc)
own-dropped s t x h (ControlRead held known) is here comes given dropped = λ at. absurd (cc)
own-dropped s t x h (ControlWritten w) is here comes given dropped = λ at drop.
    drops (settings s x) (purpose h) (number h) (control t) w (known_read h) (writes-by s t x h w is here comes).did drop
own-dropped s t x h Released is here comes given dropped = λ at. absurd (not-written (after_release (settings s x) h) at)
own-dropped s t x h _ is here comes given dropped = dropped

-- of a START
dropped-born : (s : Scen) (c : ControlRecord) (k : ℕ → Bool) (x : Site) (made : Event) → is_started made ≡ true → Dropped s c k x (made ∷ [])
dropped-born s c k x StartedActive started = λ at. absurd (cc)
dropped-born s c k x StartedStandby started = λ at. absurd (cc)
dropped-born s c k x _ started = absurd (cc)

-- each kind of move keeps it
dropped-kept : Kept Dropped
dropped-kept = record {
  born = dropped-born;
  ticked = λ s c k x h holds. holds;
  confirms = λ s c k x h n holds. holds;
  own = own-dropped;
  beside = λ s t x h g w is here writes there holds. λ at.
      absurd (one-reserve s t x h g is here there (ap has_reserve (write-phase (settings s x) h w (history-at s t x h is here) writes).0) (ap has_reserve at));
}

-- at the RELEASE
no-alt : (c : ControlRecord) (n : ℕ) → c.alt ≡ None → is_alt c n ≡ true → ⊥
no-alt c n none is = grind (arith, common_steps)

-- a drop that gives no record finds the alternate another one
drop-writes : (p : Settings) (q : Purpose) (me n : ℕ) (c : ControlRecord) (known : Known) → (is_drop q && is_none c.taking) ≡ true
    → record_by_purpose p q me n c known ≡ None → is_alt c n ≡ true → ⊥
drop-writes p q me n c known drop none is = grind (arith, common_steps)

-- the first of two tests that are met
is-drop : (a b : Bool) → (a && b) ≡ true → a ≡ true
is-drop a b is = grind (arith, common_steps)

-- at the RELEASE of a drop, by its phase
release-drops : (s : Scen) (t : List Entry) (x : Site) (h : List Event) (n : ℕ) (f : Phase) → IsRun s t → hist s t x ≡ Some h
    → phase (settings s x) h ≡ f → may_release f ≡ true
    → next (settings s x) h ≡ want.Release → drop_is_made h ≡ true → is_alt (control t) n ≡ true → epoch h ≡ Some n → ⊥
release-drops s t x h n HasRead is here at may releases made alt of_epoch =
    let p = settings s x in
    let none = releases-none (record_for p h)
    (sym (next-inside p h (after_control_read p h) (subst (NextIn p h) at (phase-next p h (history-at s t x h is here)))) ∙ releases) in
    drop-writes p (purpose h) (number h) n (record_read h) (known_read h) made
    (sym (ap (λ (o : Option ℕ). record_by_purpose p (purpose h) (number h) (number_or_none o) (record_read h) (known_read h)) of_epoch) ∙ none)
    (ap (λ (c : ControlRecord). is_alt c n) ((job-at s t x h is here).read at).0 ∙ alt)
release-drops s t x h n HasWritten is here at may releases made alt of_epoch =
    no-alt (control t) n
    (subst (λ (job : Option (List Event)). IfSome job (Dropped s (control t) (confirmed t) x)) here (each-job Dropped dropped-kept s t is x) at
    (is-drop (is_drop (purpose h)) (is_none (record_read h).taking) made)) alt
release-drops s t x h n _ is here at may releases made alt of_epoch = absurd (cc)

-- **at the RELEASE of a drop that is made the record does not name the epoch as the alternate, of every run**
pub dropped : (s : Scen) (t : List Entry) (x : Site) (h : List Event) (n : ℕ) → IsRun s t → hist s t x ≡ Some h
    → next (settings s x) h ≡ want.Release → drop_is_made h ≡ true
    → is_alt (control t) n ≡ true → epoch h ≡ Some n → ⊥
dropped s t x h n is here releases made alt of_epoch =
    release-drops s t x h n (phase (settings s x) h) is here refl
    (releases-phase (settings s x) h (history-at s t x h is here) releases) releases made alt of_epoch
