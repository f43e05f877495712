-- What a write of the control record leaves of the numbers and of the alternate's place, of every run.
use Rattle.std.proofs.Common.{arith, true, ◌≡◌, ℕ, ◌+◌, ◌⊎◌, Bool, false, inl, inr, ◌≤◌, sym, ◌∙◌, List, Some, Option, is_some, ◌==◌, ◌&&◌, subst, ap, ◌||◌, refl, ◌∷◌}
use Rattle.std.proofs.lemmas.Grind.{common_steps}
use Rattle.std.specs.Option.{option_map}
use Rattle.xrf_base.specs.declared.site.Site.{Site}
use Rattle.xrf_ctl.specs.Control.{ControlRecord, AltFits}
use Rattle.xrf_ctl.specs.declared.parts.Alt.{Alt}
use Rattle.xrf_ctl.specs.declared.parts.Owner.{Owner}
use Rattle.xrf_cavm.specs.declared.known.Known.{Known}
use Rattle.xrf_cavm.specs.Record.{is_alt, inc_of_alt, is_owner as names_owner}
use Rattle.xrf_history.specs.Reserving.{Purpose, known_read, purpose, SignOnActive, GoThrough, DropAlternate, Leave, SignOff, SignOnStandby, StartTakeover}
use Rattle.xrf_history.specs.declared.settings.Settings.{Settings}
use Rattle.xrf_history.proofs.Writes.{Wrote, of_alternate, last-kept, number_after, IsRuled}
use Rattle.xrf_history.proofs.Purposes.{Suits}
use Rattle.xrf_history.specs.Events.{Event, ControlWritten}
use Rattle.xrf_history.specs.Holding.{is_granted, number, is_owner}
use Rattle.xrf_history.specs.Next.{next}
use Rattle.xrf_history.specs.Notices.{epoch_number}
use Rattle.xrf_history.specs.declared.want.Want.TheVariants as want
use Rattle.xrf_trace.specs.declared.entry.Entry.{Entry}
use Rattle.xrf_trace.specs.Runs.{IsRun}
use Rattle.xrf_trace.specs.Scenario.{Scen, other, settings}
use Rattle.xrf_trace.specs.Devices.{control}
use Rattle.xrf_trace.specs.Jobs.{hist}
use Rattle.xrf_owner_law.proofs.Invariant.{job-at, holds-at}
use Rattle.xrf_owner_law.proofs.WritesOfRuns.{writes-by, write-mine}
use Rattle.xrf_owner_law.proofs.RuleLaw.{rises-by-one, kept}
use Rattle.xrf_owner_law.specs.Owner.{Apart, view_at, Beside}
use Rattle.xrf_owner_law.specs.Views.{View, view}
use Rattle.xrf_owner_law.proofs.WritesKeep.{own-leave, own-standby, own-start}

-- an alternate that a write names is the one before, or it has the next number
named : (p : Settings) (q : Purpose) (me : ℕ) (c w : ControlRecord) (known : Known) (n : ℕ) → Wrote p q me c known w → is_alt w n ≡ true
    → (is_alt c n ≡ true) ⊎ (n ≡ c.last + 1)
named p q me c w known n did is = grind (arith, common_steps)

-- the write of an alternate
own-place : (p : Settings) (q : Purpose) (me : ℕ) (c w : ControlRecord) (known : Known) → Wrote p q me c known w → of_alternate q ≡ true → is_alt c me ≡ true
own-place p q me c w known did is = grind (arith, common_steps)

-- a job that holds a number and is no owner writes as an alternate
alternates : (q : Purpose) (granted owner : Bool) → Suits q granted owner → granted ≡ true → owner ≡ false → of_alternate q ≡ true
alternates q granted owner suits is no_owner = grind (arith, common_steps)

-- of the other job's number: it is the alternate only if it was
old-place : (c : ControlRecord) (n : ℕ) → n ≤ c.last → (is_alt c n ≡ true) ⊎ (n ≡ c.last + 1) → is_alt c n ≡ true
old-place c n given (inl was) = was
old-place c n given (inr new) = absurd (omega (arith, given, new))

-- an alternate that was not named has the next number
new-place : (c : ControlRecord) (n : ℕ) → is_alt c n ≡ false → (is_alt c n ≡ true) ⊎ (n ≡ c.last + 1) → n ≡ c.last + 1
new-place c n not_yet (inl was) = absurd (cc (sym not_yet ∙ was))
new-place c n not_yet (inr new) = new

-- a number that is held is at most the last
pub number-few : (s : Scen) (t : List Entry) (x : Site) (h : List Event) → IsRun s t → hist s t x ≡ Some h → is_granted h ≡ true → number h ≤ (control t).last
number-few s t x h is here granted = ((job-at s t x h is here).held granted).given

-- the place of the other job, named after a write, was named before it
pub keeps-place : (s : Scen) (t : List Entry) (z : Site) (g h : List Event) (w : ControlRecord) → IsRun s t → hist s t z ≡ Some g → hist s t (other z) ≡ Some h
    → next (settings s (other z)) h ≡ want.CtlWrite w → is_granted g ≡ true → is_alt w (number g) ≡ true → is_alt (control t) (number g) ≡ true
keeps-place s t z g h w is there here writes granted named_so =
    old-place (control t) (number g) (number-few s t z g is there granted)
    (named (settings s (other z)) (purpose h) (number h) (control t) w (known_read h) (number g) (writes-by s t (other z) h w is here writes).did named_so)

-- an alternate that writes has its place
pub stays-placed : (s : Scen) (t : List Entry) (x : Site) (h : List Event) (w : ControlRecord) → IsRun s t → hist s t x ≡ Some h
    → next (settings s x) h ≡ want.CtlWrite w
    → is_granted h ≡ true → is_owner h ≡ false → is_alt (control t) (number h) ≡ true
stays-placed s t x h w is here writes granted no_owner =
    let wrote = writes-by s t x h w is here writes in
    own-place (settings s x) (purpose h) (number h) (control t) w (known_read h) wrote.did
    (alternates (purpose h) (is_granted h) (is_owner h) wrote.suits granted no_owner)

-- the last number never falls
pub last-rises : (s : Scen) (t : List Entry) (x : Site) (h : List Event) (w : ControlRecord) → IsRun s t → hist s t x ≡ Some h
    → next (settings s x) h ≡ want.CtlWrite w
    → (control t).last ≤ w.last
last-rises s t x h w is here writes =
    last-kept (settings s x) (purpose h) (number h) (epoch_number h) (control t) w (known_read h) (writes-by s t x h w is here writes).made

-- and rises by one at most
pub last-by-one : (s : Scen) (t : List Entry) (x : Site) (h : List Event) (w : ControlRecord) → IsRun s t → hist s t x ≡ Some h
    → next (settings s x) h ≡ want.CtlWrite w
    → w.last ≤ (control t).last + 1
last-by-one s t x h w is here writes = rises-by-one (settings s x) (purpose h) (number h) (control t) w (known_read h) (writes-by s t x h w is here writes).did

-- an alternate that is new has the next number
pub alt-next : (s : Scen) (t : List Entry) (x : Site) (h : List Event) (w : ControlRecord) (n : ℕ) → IsRun s t → hist s t x ≡ Some h
    → next (settings s x) h ≡ want.CtlWrite w
    → is_alt w n ≡ true → is_alt (control t) n ≡ false → n ≡ (control t).last + 1
alt-next s t x h w n is here writes names not_yet =
    new-place (control t) n not_yet (named (settings s x) (purpose h) (number h) (control t) w (known_read h) n (writes-by s t x h w is here writes).did names)

-- the alternate of a record that keeps its rule
fits-place : (last n : ℕ) (owner : Option Owner) (alt : Option Alt) → AltFits last owner alt → (is_some alt && inc_of_alt alt == n) ≡ true
    → (1 ≤ n) × (n ≤ last)
fits-place last n owner alt fits is = grind (arith, common_steps)

-- an alternate of the record has a number that was given
pub alt-given : (s : Scen) (t : List Entry) (n : ℕ) → IsRun s t → is_alt (control t) n ≡ true → (1 ≤ n) × (n ≤ (control t).last)
alt-given s t n is names = fits-place (control t).last n (control t).owner (control t).alt (kept s t is).rule.alt names

-- two jobs never hold one number
both-apart : (a b : Option View) (v u : View) → a ≡ Some v → b ≡ Some u → Apart a b → Apart (Some v) (Some u)
both-apart a b v u own beside apart = subst (λ (o : Option View). Apart (Some v) o) beside (subst (λ (o : Option View). Apart o b) own apart)

-- **two jobs never hold one number, of every run**
pub distinct : (s : Scen) (t : List Entry) (z : Site) (g h : List Event) → IsRun s t → hist s t z ≡ Some g → hist s t (other z) ≡ Some h
    → is_granted g ≡ true → is_granted h ≡ true
    → number h ≡ number g → ⊥
distinct s t z g h is here there granted granted_there same =
    both-apart (view_at s t z) (view_at s t (other z)) (view (settings s z) g) (view (settings s (other z)) h) (ap (option_map (view (settings s z))) here)
    (ap (option_map (view (settings s (other z)))) there) (holds-at s t z is).apart granted granted_there (sym same)

-- a write by which a job becomes the owner names no alternate
pub or-second : (a b : Bool) → a ≡ false → (a || b) ≡ true → b ≡ true
or-second a b first is = grind (arith, common_steps)

-- a sign-on as active names no alternate
alone-active : (p : Settings) (me : ℕ) (c w : ControlRecord) (known : Known) (n : ℕ) → Wrote p SignOnActive me c known w → is_alt w n ≡ false
alone-active p me c w known n did = grind (arith, common_steps)

-- nor does a through
alone-through : (p : Settings) (me : ℕ) (c w : ControlRecord) (known : Known) (n : ℕ) → Wrote p GoThrough me c known w → is_alt w n ≡ false
alone-through p me c w known n did = grind (arith, common_steps)

-- the number of a job that was granted by its write
pub no-number : (granted : Bool) (me : ℕ) (w : ControlRecord) → granted ≡ false → names_owner w (number_after granted me w) ≡ names_owner w w.last
no-number granted me w fresh = grind (arith, common_steps)

-- the number of a job that held one
pub own-number : (granted : Bool) (me : ℕ) (w : ControlRecord) → granted ≡ true → names_owner w (number_after granted me w) ≡ names_owner w me
own-number granted me w is = grind (arith, common_steps)

-- who becomes owner names no alternate
becomes-alone : (p : Settings) (q : Purpose) (me : ℕ) (c w : ControlRecord) (known : Known) (granted owner : Bool) (n : ℕ) → Wrote p q me c known w
    → IsRuled c → Suits q granted owner
    → (of_alternate q ≡ true → Beside c p.site me) → owner ≡ false → names_owner w (number_after granted me w) ≡ true → is_alt w n ≡ false
becomes-alone p SignOnActive me c w known granted owner n did rule suits mine no_owner is = alone-active p me c w known n did
becomes-alone p SignOnStandby me c w known granted owner n did rule suits mine no_owner is =
    absurd (cc (sym (own-standby p me c w known did rule).0 ∙ sym (no-number granted me w suits) ∙ is))
becomes-alone p (SignOff state) me c w known granted owner n did rule suits mine no_owner is = absurd (cc (sym suits ∙ no_owner))
becomes-alone p DropAlternate me c w known granted owner n did rule suits mine no_owner is = absurd (cc (sym suits ∙ no_owner))
becomes-alone p (Leave reason) me c w known granted owner n did rule suits mine no_owner is =
    absurd (cc (sym (own-leave p me reason c w known did (mine refl)).0 ∙ sym (own-number granted me w suits.0) ∙ is))
becomes-alone p (StartTakeover cause) me c w known granted owner n did rule suits mine no_owner is =
    absurd (cc (sym (own-start p me cause c w known did (mine refl)).0 ∙ sym (own-number granted me w suits.0) ∙ is))
becomes-alone p GoThrough me c w known granted owner n did rule suits mine no_owner is = alone-through p me c w known n did

-- a write by which a job becomes owner names no alternate, of every run
pub alone : (s : Scen) (t : List Entry) (x : Site) (h : List Event) (w : ControlRecord) (n : ℕ) → IsRun s t → hist s t x ≡ Some h
    → next (settings s x) h ≡ want.CtlWrite w
    → is_owner h ≡ false → is_owner (ControlWritten w ∷ h) ≡ true → is_alt w n ≡ false
alone s t x h w n is here writes no_owner owner =
    let p = settings s x in
    let wrote = writes-by s t x h w is here writes in
    becomes-alone p (purpose h) (number h) (control t) w (known_read h) (is_granted h) (is_owner h) n wrote.did (holds-at s t x is).rule wrote.suits
    (write-mine s t x (view p h) w (epoch_number h) wrote (job-at s t x h is here)) no_owner
    (or-second (is_owner h) (names_owner w (number_after (is_granted h) (number h) w)) no_owner owner)
