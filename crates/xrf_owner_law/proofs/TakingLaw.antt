-- While a tracking alternate lives the record has no taking, of every run.
use Rattle.std.proofs.Common.{None, true, ◌≡◌, Option, Some, false, is_some, refl, Bool, arith, not, ◌||◌, ◌&&◌, List, ◌∷◌, ℕ, sym, [], IfSome}
use Rattle.std.proofs.lemmas.Grind.{common_steps}
use Rattle.xrf_base.specs.declared.site.Site.{Site}
use Rattle.xrf_ctl.specs.declared.parts.Taking.{Taking}
use Rattle.xrf_ctl.specs.Control.{ControlRecord}
use Rattle.xrf_cavm.specs.Record.{is_owner as names_owner}
use Rattle.xrf_cavm.specs.declared.known.Known.{Known}
use Rattle.xrf_history.specs.Holding.{is_tracking, has_started_takeover, is_granted, is_owner, number}
use Rattle.xrf_history.proofs.Histories.{Comes, is_started}
use Rattle.xrf_history.specs.Events.{ControlWritten, Event, StartedActive, StartedStandby}
use Rattle.xrf_history.proofs.Writes.{number_after, Wrote, of_alternate}
use Rattle.xrf_history.specs.Reserving.{Purpose, known_read, purpose}
use Rattle.xrf_history.specs.declared.settings.Settings.{Settings}
use Rattle.xrf_history.specs.Notices.{epoch_number}
use Rattle.xrf_history.specs.Next.{next}
use Rattle.xrf_history.specs.declared.want.Want.TheVariants as want
use Rattle.xrf_trace.proofs.EachJob.{Fact, Kept, each-job}
use Rattle.xrf_trace.specs.declared.entry.Entry.{Entry}
use Rattle.xrf_trace.proofs.Moves.{IsHanded, control_by}
use Rattle.xrf_trace.specs.Runs.{IsRun}
use Rattle.xrf_trace.specs.Scenario.{Scen, settings, other}
use Rattle.xrf_trace.specs.Words.{confirmed}
use Rattle.xrf_trace.specs.Devices.{control}
use Rattle.xrf_trace.specs.Jobs.{hist}
use Rattle.xrf_trace.proofs.Sites.{other-other}
use Rattle.xrf_owner_law.proofs.Invariant.{job-at}
use Rattle.xrf_owner_law.proofs.WritesKeep.{not-both}
use Rattle.xrf_owner_law.specs.Views.{view}
use Rattle.xrf_owner_law.proofs.WritesOfRuns.{write-mine, writes-by}

-- while an alternate tracks the record has no taking
abbrev pub Untaken : Fact
Untaken s c k x h = is_tracking h ≡ true → c.taking ≡ None

-- an option that is not there is none
none-of : (o : Option Taking) → is_some o ≡ false → o ≡ None
none-of None is = refl
none-of (Some taking) is = absurd (cc)

-- who tracks after its write tracked before it, or signs on
tracks : (owner started names taken : Bool) → (not (owner || names) && not (started || (not (owner || names) && taken))) ≡ true
    → (owner ≡ false) × (taken ≡ false)
tracks owner started names taken is = grind (arith, common_steps)

-- each event of a job keeps it
own-taking : (s : Scen) (t : List Entry) (x : Site) (h : List Event) (made : Event) → IsRun s t → hist s t x ≡ Some h → Comes (settings s x) h made
    → IsHanded s t x h made
    → Untaken s (control t) (confirmed t) x h → Untaken s (control_by made (control t)) (confirmed t) x (made ∷ h)
own-taking s t x h (ControlWritten w) is here comes given untaken = λ tracking.
    none-of w.taking (tracks (is_owner h) (has_started_takeover h) (names_owner w (number_after (is_granted h) (number h) w)) (is_some w.taking) tracking).1
own-taking s t x h _ is here comes given untaken = untaken

-- the other site's write
not-alternate : (b : Bool) → (b ≡ true → ⊥) → b ≡ false
not-alternate true is = absurd (is refl)
not-alternate false is = refl

-- a write of the other job brings no taking, beside an alternate
taking-beside : (p : Settings) (q : Purpose) (me : ℕ) (c w : ControlRecord) (known : Known) → Wrote p q me c known w → of_alternate q ≡ false
    → c.taking ≡ None → w.taking ≡ None
taking-beside p q me c w known did own none = grind (arith, common_steps)

-- who tracks holds a number and is no owner
tracking-place : (granted owner started : Bool) → (granted && not owner && not started) ≡ true → (granted ≡ true) × (owner ≡ false)
tracking-place granted owner started is = grind (arith, common_steps)

-- so a write of the other job keeps it
beside-taking : (s : Scen) (t : List Entry) (x : Site) (h g : List Event) (w : ControlRecord) → IsRun s t → hist s t x ≡ Some h
    → next (settings s x) h ≡ want.CtlWrite w
    → hist s t (other x) ≡ Some g → Untaken s (control t) (confirmed t) (other x) g → Untaken s w (confirmed t) (other x) g
beside-taking s t x h g w is here writes there untaken = λ tracking.
    let p = settings s x in
    let wrote = writes-by s t x h w is here writes in
    let place = tracking-place (is_granted g) (is_owner g) (has_started_takeover g) tracking in
    let beside = (job-at s t (other x) g is there).stands.beside place.0 place.1 in
    taking-beside p (purpose h) (number h) (control t) w (known_read h) wrote.did
    (not-alternate (of_alternate (purpose h)) (λ alternate.
    not-both (control t) x (other x) (number g) (number h) (sym (other-other x)) beside
    (write-mine s t x (view p h) w (epoch_number h) wrote (job-at s t x h is here) alternate)))
    (untaken tracking)

-- of a job that starts
untaken-born : (s : Scen) (c : ControlRecord) (k : ℕ → Bool) (x : Site) (made : Event) → is_started made ≡ true → Untaken s c k x (made ∷ [])
untaken-born s c k x StartedActive started = λ tracking. absurd (cc)
untaken-born s c k x StartedStandby started = λ tracking. absurd (cc)
untaken-born s c k x _ started = absurd (cc)

-- each kind of move keeps it
untaken-kept : Kept Untaken
untaken-kept = record {
  born = untaken-born;
  ticked = λ s c k x h holds. holds;
  confirms = λ s c k x h n holds. holds;
  own = own-taking;
  beside = beside-taking;
}

-- **while an alternate tracks the record has no taking, of every run**
pub untaken : (s : Scen) (t : List Entry) → IsRun s t → (x : Site) → IfSome (hist s t x) (Untaken s (control t) (confirmed t) x)
untaken = each-job Untaken untaken-kept
