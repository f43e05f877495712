-- What the messages take of the law of the owner: numbers, owners and the alternate's place, at any time and at a write.
use Rattle.std.proofs.Common.{List, Some, ◌≡◌, true, false, ◌||◌, ◌+◌, Bool, arith, refl, ◌≤◌, ℕ, ◌∷◌, sym, ◌∙◌}
use Rattle.xrf_base.specs.declared.site.Site.{Site}
use Rattle.xrf_ctl.specs.Control.{ControlRecord}
use Rattle.xrf_cavm.specs.Record.{is_alt, is_owner as names_owner}
use Rattle.xrf_history.specs.Events.{Event, ControlWritten}
use Rattle.xrf_history.proofs.SigningOff.{Stays}
use Rattle.xrf_history.specs.Holding.{number, is_granted, is_owner, starts_active}
use Rattle.xrf_history.specs.Next.{next}
use Rattle.xrf_history.specs.Notices.{drop_is_made, epoch}
use Rattle.xrf_history.specs.declared.want.Want.TheVariants as want
use Rattle.xrf_trace.specs.declared.entry.Entry.{Entry}
use Rattle.xrf_trace.proofs.Short.{IsShort}
use Rattle.xrf_trace.specs.Scenario.{Scen, other, settings}
use Rattle.xrf_trace.specs.Devices.{control}
use Rattle.xrf_trace.specs.Jobs.{hist}
use Rattle.xrf_trace.specs.OneUpdater.{running_owner}
use Rattle.xrf_trace.specs.Words.{who_at}
use Rattle.xrf_trace.proofs.Paths.{history-at}
use Rattle.xrf_trace.proofs.Sites.{one_owner}
use Rattle.xrf_owner_law.proofs.StayingLaw.{owns as law_owns, active-owns as law_active}
use Rattle.xrf_owner_law.proofs.PlaceLaw.{keeps-place as law_keeps, stays-placed as law_stays, distinct as law_distinct, alt-given, number-few as law_few}
use Rattle.xrf_owner_law.proofs.KnownLaw.{writes-known}
use Rattle.xrf_owner_law.specs.Known.{WritesAre}
use Rattle.xrf_owner_law.proofs.DropLaw.{dropped as law_dropped}

-- an owner that has not reserved for its sign-off is the Running owner of its site
pub owns : (s : Scen) (t : List Entry) → IsShort s t → (x : Site) (h : List Event) → hist s t x ≡ Some h → Stays h
    → (control t).owner ≡ running_owner (who_at x) (number h)
owns s t is x h here stays = law_owns s t x h is.run here stays

-- the place of an alternate is given to its own job alone: a write of the other site that names it finds it named
pub keeps-place : (s : Scen) (t : List Entry) → IsShort s t → (z : Site) (g h : List Event) (written : ControlRecord) → hist s t z ≡ Some g
    → hist s t (other z) ≡ Some h → next (settings s (other z)) h ≡ want.CtlWrite written → is_granted g ≡ true
    → is_alt written (number g) ≡ true → is_alt (control t) (number g) ≡ true
keeps-place s t is z g h written here there comes granted names = law_keeps s t z g h written is.run here there comes granted names

-- and a later write of its own does too
pub stays-placed : (s : Scen) (t : List Entry) → IsShort s t → (x : Site) (h : List Event) (written : ControlRecord) → hist s t x ≡ Some h
    → next (settings s x) h ≡ want.CtlWrite written → is_granted h ≡ true → is_owner h ≡ false
    → (is_alt written (number h) || names_owner written (number h)) ≡ true → is_alt (control t) (number h) ≡ true
stays-placed s t is x h written here comes granted alternate names = law_stays s t x h written is.run here comes granted alternate

-- a new number is one more than the last
pub gives-next : (s : Scen) (t : List Entry) → IsShort s t → (x : Site) (h : List Event) (written : ControlRecord) → hist s t x ≡ Some h
    → next (settings s x) h ≡ want.CtlWrite written → is_granted h ≡ false → written.last ≡ (control t).last + 1
gives-next s t is x h written here comes fresh = (writes-known s t is.run x h written here comes).last_of_grant fresh

-- two jobs never hold one number
pub distinct : (s : Scen) (t : List Entry) → IsShort s t → (z : Site) (g h : List Event) → hist s t z ≡ Some g → hist s t (other z) ≡ Some h
    → is_granted g ≡ true → is_granted h ≡ true → number h ≡ number g → ⊥
distinct s t is z g h here there granted granted_there same = law_distinct s t z g h is.run here there granted granted_there same

-- a job that was started as active is an owner once it holds a number
pub active-owns : (s : Scen) (t : List Entry) → IsShort s t → (x : Site) (h : List Event) → hist s t x ≡ Some h → starts_active h ≡ true
    → is_granted h ≡ true → is_owner h ≡ true
active-owns s t is x h here active granted = law_active (settings s x) h (history-at s t x h is.run here) active granted

-- the last number never falls
pub last-rises : (s : Scen) (t : List Entry) → IsShort s t → (x : Site) (h : List Event) (written : ControlRecord) → hist s t x ≡ Some h
    → next (settings s x) h ≡ want.CtlWrite written → (control t).last ≤ written.last
last-rises s t is x h written here comes = by (is_granted h) refl
  where
    write : WritesAre s t x h written
    write = writes-known s t is.run x h written here comes

    by : (granted : Bool) → is_granted h ≡ granted → (control t).last ≤ written.last
    by true granted = let same : written.last ≡ (control t).last = write.last_else granted in omega (arith, same)
    by false fresh = let next_one : written.last ≡ (control t).last + 1 = write.last_of_grant fresh in omega (arith, next_one)

-- and rises by one at most
pub last-by-one : (s : Scen) (t : List Entry) → IsShort s t → (x : Site) (h : List Event) (written : ControlRecord) → hist s t x ≡ Some h
    → next (settings s x) h ≡ want.CtlWrite written → written.last ≤ (control t).last + 1
last-by-one s t is x h written here comes = by (is_granted h) refl
  where
    write : WritesAre s t x h written
    write = writes-known s t is.run x h written here comes

    by : (granted : Bool) → is_granted h ≡ granted → written.last ≤ (control t).last + 1
    by true granted = let same : written.last ≡ (control t).last = write.last_else granted in omega (arith, same)
    by false fresh = let next_one : written.last ≡ (control t).last + 1 = write.last_of_grant fresh in omega (arith, next_one)

-- a write that names an alternate that was not named names the next number
pub alt-next : (s : Scen) (t : List Entry) → IsShort s t → (x : Site) (h : List Event) (written : ControlRecord) (n : ℕ) → hist s t x ≡ Some h
    → next (settings s x) h ≡ want.CtlWrite written → is_alt written n ≡ true → is_alt (control t) n ≡ false → n ≡ (control t).last + 1
alt-next s t is x h written n here comes names fresh = (writes-known s t is.run x h written here comes).alt_new n names fresh

-- an alternate of the record has a number from 1 to the last
pub alt-least : (s : Scen) (t : List Entry) → IsShort s t → (n : ℕ) → is_alt (control t) n ≡ true → 1 ≤ n
alt-least s t is n names = (alt-given s t n is.run names).0

-- nor above the last
pub alt-few : (s : Scen) (t : List Entry) → IsShort s t → (n : ℕ) → is_alt (control t) n ≡ true → n ≤ (control t).last
alt-few s t is n names = (alt-given s t n is.run names).1

-- and so has a job
pub number-few : (s : Scen) (t : List Entry) → IsShort s t → (x : Site) (h : List Event) → hist s t x ≡ Some h → is_granted h ≡ true
    → number h ≤ (control t).last
number-few s t is x h here granted = law_few s t x h is.run here granted

-- a write by which a job becomes the owner names no alternate
pub alone : (s : Scen) (t : List Entry) → IsShort s t → (x : Site) (h : List Event) (written : ControlRecord) (n : ℕ) → hist s t x ≡ Some h
    → next (settings s x) h ≡ want.CtlWrite written → is_owner h ≡ false → is_owner (ControlWritten written ∷ h) ≡ true → is_alt written n ≡ false
alone s t is x h written n here comes alternate owner = (writes-known s t is.run x h written here comes).alone n alternate owner

-- at the RELEASE of a drop that is made the record does not name the epoch as the alternate
pub dropped : (s : Scen) (t : List Entry) → IsShort s t → (x : Site) (h : List Event) (n : ℕ) → hist s t x ≡ Some h
    → next (settings s x) h ≡ want.Release → drop_is_made h ≡ true → Stays h → is_alt (control t) n ≡ true → epoch h ≡ Some n → ⊥
dropped s t is x h n here releases made stays names of_epoch = law_dropped s t x h n is.run here releases made names of_epoch

-- two owners that have not reserved for their sign-off are not there at one time
pub one-stays : (s : Scen) → (t : List Entry) → IsShort s t → (x : Site) (h g : List Event) → hist s t x ≡ Some h
    → hist s t (other x) ≡ Some g → Stays h → Stays g → ⊥
one-stays s t is x h g there beside stays too =
    one_owner x (number h) (number g) (sym (owns s t is x h there stays) ∙ owns s t is (other x) g beside too)
