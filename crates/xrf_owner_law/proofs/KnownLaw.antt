-- What is known of the record, the jobs and a write that comes next, of every run.
use Rattle.std.proofs.Common.{Bool, false, not, refl, true, ◌≡◌, List, Some, sym, ◌∙◌, subst, arith, length, ◌≤◌, ◌∷◌}
use Rattle.std.proofs.lemmas.Bool.{and_parts}
use Rattle.xrf_base.specs.declared.site.Site.{Site}
use Rattle.xrf_base.specs.declared.site.Site.TheVariants as site
use Rattle.xrf_ctl.specs.Control.{ControlRecord}
use Rattle.xrf_ctl.specs.declared.parts.OwnerState.TheVariants.{Running}
use Rattle.xrf_cavm.specs.Record.{is_alt}
use Rattle.xrf_history.specs.Events.{Event}
use Rattle.xrf_history.specs.Progress.{is_active}
use Rattle.xrf_history.specs.Holding.{number, is_alternate, is_granted, is_owner}
use Rattle.xrf_history.specs.Next.{next}
use Rattle.xrf_history.specs.Reserving.{known_read, purpose}
use Rattle.xrf_history.specs.declared.want.Want.TheVariants as want
use Rattle.xrf_trace.specs.declared.entry.Entry.{Entry}
use Rattle.xrf_trace.specs.Runs.{IsRun}
use Rattle.xrf_trace.specs.Scenario.{Scen, other, settings}
use Rattle.xrf_trace.specs.Jobs.{hist}
use Rattle.xrf_trace.proofs.Sites.{one_owner, other-other, running-at}
use Rattle.xrf_trace.specs.Devices.{control}
use Rattle.xrf_trace.proofs.Paths.{history-at}
use Rattle.xrf_trace.specs.Words.{holds_reserve, confirmed}
use Rattle.xrf_trace.specs.OneOwner.{IsOwnerOfRecord, IsNotConfirmed, OneOwner}
use Rattle.xrf_trace.specs.Each.{OfJob, EverySite}
use Rattle.xrf_trace.proofs.AtSites.{of-job, where-so, each-of}
use Rattle.xrf_owner_law.proofs.StateSteps.{not-free}
use Rattle.xrf_owner_law.proofs.SigningOffLaw.{writer, off-due}
use Rattle.xrf_owner_law.specs.Owner.{Beside}
use Rattle.xrf_owner_law.proofs.Invariant.{job-at, holds-at, reserve-at}
use Rattle.xrf_owner_law.proofs.PlaceLaw.{keeps-place, alone, alt-given, distinct, alt-next, stays-placed}
use Rattle.xrf_owner_law.specs.Known.{IsKnown, WritesAreKnown}
use Rattle.xrf_owner_law.proofs.StayingLaw.{active-owns, owns}
use Rattle.xrf_owner_law.proofs.DropLaw.{dropped}
use Rattle.xrf_owner_law.proofs.RuleLaw.{kept, sign-off-gives}
use Rattle.xrf_owner_law.proofs.ThroughActs.{let-gives}
use Rattle.xrf_owner_law.proofs.WaitingLaw.{waiting-now}
use Rattle.xrf_owner_law.proofs.OneUpdaterLaw.{same-last}
use Rattle.xrf_owner_law.proofs.WritesOfRuns.{writes-by}

-- a test that is not met
not-true : (b : Bool) → not b ≡ true → b ≡ false
not-true true is = absurd (cc)
not-true false is = refl

-- of two jobs one at most is an active
one-active : (s : Scen) (t : List Entry) (x : Site) (h g : List Event) → IsRun s t → hist s t x ≡ Some h → hist s t (other x) ≡ Some g → is_active h ≡ true
    → is_active g ≡ false
one-active s t x h g is here there active = not-free (is_active g) (λ active_there.
    one_owner x (number h) (number g) (sym (writer s t x h is here active) ∙ writer s t (other x) g is there active_there))

-- the place of an alternate
place-at : (s : Scen) (t : List Entry) (x : Site) (h : List Event) → IsRun s t → hist s t x ≡ Some h → is_alternate h ≡ true
    → Beside (control t) x (number h)
place-at s t x h is here alternate =
    let parts = and_parts (is_granted h) (not (is_owner h)) alternate in
    (job-at s t x h is here).stands.beside parts.0 (not-true (is_owner h) parts.1)

-- the place of the other job, named after a write, was named before it
place-beside : (s : Scen) (t : List Entry) (x : Site) (h g : List Event) (w : ControlRecord) → IsRun s t → hist s t x ≡ Some h → hist s t (other x) ≡ Some g
    → next (settings s x) h ≡ want.CtlWrite w → is_granted g ≡ true → is_alt w (number g) ≡ true → is_alt (control t) (number g) ≡ true
place-beside s t x h g w is here there comes granted names =
    keeps-place s t (other x) g h w is there (subst (λ (y : Site). hist s t y ≡ Some h) (sym (other-other x)) here)
    (subst (λ (y : Site). next (settings s y) h ≡ want.CtlWrite w) (sym (other-other x)) comes) granted names

-- **what is known of every run that is not too long**
pub known : (s : Scen) (t : List Entry) → IsRun s t → length t ≤ 8192 → IsKnown s t
known s t is few = record {
  rule = (kept s t is).rule;
  last = (kept s t is).last;
  few = omega (arith, (kept s t is).last, few);
  held = λ x h here granted. (job-at s t x h is here).held granted;
  apart = λ x h g here there granted granted_there same. distinct s t x h g is here there granted granted_there (sym same);
  reserve = λ x h here. reserve-at s t x h is here;
  alone = λ x holds. not-free (holds_reserve t (other x)) (λ holds_there. (holds-at s t x is).alone holds holds_there);
  active = λ x h here active. writer s t x h is here active;
  one_active = λ x h g here there active. one-active s t x h g is here there active;
  staying = λ x h here stays. owns s t x h is here stays;
  off = λ x h here off. off-due s t x h is here off;
  active_owns = λ x h here active granted. active-owns (settings s x) h (history-at s t x h is here) active granted;
  place = λ x h here alternate. place-at s t x h is here alternate;
  waiting = λ x h here waiting stays. waiting-now s t x h is here waiting stays;
  gives_off = λ x h state here at purposed. sign-off-gives s t x h state is here at purposed;
  gives_through = λ x h here at purposed. let-gives s t x h is here at purposed;
  alt_given = λ n names. alt-given s t n is names;
  dropped = λ x h n here releases made of_epoch. not-free (is_alt (control t) n) (λ names. dropped s t x h n is here releases made names of_epoch);
}

-- **and of each write that comes next**
pub writes-known : (s : Scen) (t : List Entry) → IsRun s t → WritesAreKnown s t
writes-known s t is x h w here comes =
    let wrote = writes-by s t x h w is here comes in
    record {
      last_of_grant = λ fresh. wrote.next fresh;
      last_else =
          λ granted. same-last (settings s x) (purpose h) (is_granted h) (is_owner h) (number h) (control t) w (known_read h) wrote.did wrote.suits granted;
      alt_new = λ n names not_yet. alt-next s t x h w n is here comes names not_yet;
      place_beside = λ g there granted names. place-beside s t x h g w is here there comes granted names;
      place_own = λ granted no_owner. stays-placed s t x h w is here comes granted no_owner;
      alone = λ n no_owner owner. alone s t x h w n is here comes no_owner owner;
    }

-- **one owner, of every run**
active-at : (s : Scen) (t : List Entry) (x : Site) → IsRun s t → OfJob (hist s t x) (IsOwnerOfRecord t x)
active-at s t x is = of-job (hist s t x) (IsOwnerOfRecord t x) (λ h here.
    where-so (is_active h) ((control t).owner ≡ Some (record { inc = number h; site = x; state = Running })) (λ active.
    writer s t x h is here active ∙ running-at x (number h)))

-- a number that a job holds is not confirmed
alive-at : (s : Scen) (t : List Entry) (x : Site) → IsRun s t → OfJob (hist s t x) (IsNotConfirmed t)
alive-at s t x is = of-job (hist s t x) (IsNotConfirmed t) (λ h here.
    where-so (is_granted h) (confirmed t (number h) ≡ false) (λ granted. ((job-at s t x h is here).held granted).open_yet))

-- **one owner, of every run**
pub one-owner : (s : Scen) (t : List Entry) → IsRun s t → OneOwner s t
one-owner s t is = record {
  stands = each-of s (λ before e. EverySite s (e ∷ before) (IsOwnerOfRecord (e ∷ before)))
      (λ t e is. (active-at s (e ∷ t) site.A is, active-at s (e ∷ t) site.B is)) t is;
  alive = each-of s (λ before e. EverySite s (e ∷ before) (λ x h. IsNotConfirmed (e ∷ before) h))
      (λ t e is. (alive-at s (e ∷ t) site.A is, alive-at s (e ∷ t) site.B is)) t is;
}
