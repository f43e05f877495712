-- An owner that has not reserved for its sign-off is the running one, of every run.
use Rattle.std.proofs.Common.{Bool, false, true, ◌≡◌, List, arith, None, Option, Some, ap, subst, ℕ, ◌||◌, ◌∙◌, refl, ◌∷◌, [], is_some, sym, IfSome}
use Rattle.std.proofs.lemmas.Grind.{common_steps}
use Rattle.xrf_base.specs.declared.site.Site.{Site}
use Rattle.xrf_ctl.specs.Control.{ControlRecord}
use Rattle.xrf_cavm.specs.declared.known.Known.{Known}
use Rattle.xrf_cavm.specs.Record.{is_owner as names_owner}
use Rattle.xrf_cavm.specs.declared.grants.Grant.{Grant}
use Rattle.xrf_cavm.specs.Grants.{grant_active, grant_standby}
use Rattle.xrf_cavm.specs.declared.grants.Grant.TheVariants as grant
use Rattle.xrf_history.proofs.Phases.{Phase, before_write, phase, released, Over, may_release, HasWritten}
use Rattle.xrf_history.specs.Reserving.{Purpose, SignOnActive, granted, purpose, purpose_now, record_by_purpose, known_read, record_read, end_by_purpose, end_of_grant, DropAlternate, GoThrough, Leave, SignOff, SignOnStandby, StartTakeover}
use Rattle.xrf_history.specs.Events.{Event, ControlRead, ControlWritten, Released, Reserved, StartedActive, StartedStandby}
use Rattle.xrf_history.specs.declared.settings.Settings.{Settings}
use Rattle.xrf_history.specs.Holding.{is_granted, is_owner, starts_active, number}
use Rattle.xrf_history.specs.declared.want.Want.{Want}
use Rattle.xrf_history.proofs.Writes.{number_after, wrote, IsRuled, of_alternate}
use Rattle.xrf_history.proofs.Tests.{or-left, or-right}
use Rattle.xrf_history.proofs.Histories.{Comes, IsHistory, induct, is_started}
use Rattle.xrf_history.specs.Next.{after_release, end_next}
use Rattle.xrf_history.specs.Notices.{epoch_number}
use Rattle.xrf_history.proofs.PhaseLaws.{read-phase, write-phase, releases-phase}
use Rattle.xrf_history.proofs.SigningOff.{has_reserved_off, Stays}
use Rattle.xrf_history.proofs.Purposes.{is_sign_off, Suits, suited}
use Rattle.xrf_trace.proofs.EachJob.{Fact, Kept, each-job}
use Rattle.xrf_trace.specs.Scenario.{settings, Scen}
use Rattle.xrf_trace.specs.declared.entry.Entry.{Entry}
use Rattle.xrf_trace.proofs.Moves.{IsHanded}
use Rattle.xrf_trace.specs.Runs.{IsRun}
use Rattle.xrf_trace.specs.Devices.{control}
use Rattle.xrf_trace.specs.Jobs.{hist}
use Rattle.xrf_trace.proofs.Paths.{history-at}
use Rattle.xrf_trace.specs.Words.{confirmed, who_at}
use Rattle.xrf_trace.proofs.Sites.{running-at}
use Rattle.xrf_trace.specs.OneUpdater.{running_owner}
use Rattle.xrf_owner_law.proofs.WritesKeep.{own-active, own-leave, own-start}
use Rattle.xrf_owner_law.specs.Owner.{Beside}
use Rattle.xrf_owner_law.proofs.PlaceLaw.{or-second, own-number}
use Rattle.xrf_owner_law.proofs.Invariant.{holds-at, job-at}
use Rattle.xrf_owner_law.specs.Views.{view, is_over}
use Rattle.xrf_owner_law.proofs.WritesOfRuns.{write-mine, writes-by}

-- a job that was started as active is an owner once it holds a number
pub record Actives (active granted owner : Bool) (f : Phase) (q : Purpose) : Type 0 where
  pub owns : active ≡ true → granted ≡ true → owner ≡ true
  pub purposed : active ≡ true → granted ≡ false → before_write f ≡ true → q ≡ SignOnActive

-- of a history
abbrev IsActive : Settings → List Event → Type 0
IsActive p h = Actives (starts_active h) (is_granted h) (is_owner h) (phase p h) (purpose h)

-- a job that was started as active reserves to sign on so
active-now : (h : List Event) → starts_active h ≡ true → is_granted h ≡ false → purpose_now h ≡ SignOnActive
active-now h active fresh = grind (arith, common_steps)

-- after a RELEASE nothing is to be written
not-early : (o : Option Want) → before_write (released o) ≡ true → ⊥
not-early None is = absurd (cc)
not-early (Some w) is = absurd (cc)

-- its write makes it an owner
active-write : (p : Settings) (c w : ControlRecord) (known : Known) (q : Purpose) (granted owner : Bool) (me epoch : ℕ) (b : Bool) → granted ≡ b
    → (granted ≡ true → owner ≡ true) → (granted ≡ false → q ≡ SignOnActive) → record_by_purpose p q me epoch c known ≡ Some w
    → (owner || names_owner w (number_after granted me w)) ≡ true
active-write p c w known q granted owner me epoch true is owns purposed makes = or-left owner (names_owner w (number_after granted me w)) (owns is)
active-write p c w known q granted owner me epoch false is owns purposed makes =
    or-right owner (names_owner w (number_after granted me w))
    (ap (λ (b : Bool). names_owner w (number_after b me w)) is
    ∙
    (own-active p me c w known
    (wrote p SignOnActive me epoch c w known (subst (λ (r : Purpose). record_by_purpose p r me epoch c known ≡ Some w) (purposed is) makes))).0)

-- each event keeps it
active-step : (p : Settings) (h : List Event) (e : Event) → IsHistory p h → Comes p h e → IsActive p h → IsActive p (e ∷ h)
active-step p h StartedActive is comes active = absurd comes
active-step p h StartedStandby is comes active = absurd comes
active-step p h Reserved is comes active = record { owns = active.owns; purposed = λ started fresh early. active-now h started fresh }
active-step p h (ControlRead held known) is comes active =
    record { owns = active.owns; purposed = λ started fresh early. active.purposed started fresh (ap before_write (read-phase p h is comes)) }
active-step p h (ControlWritten w) is comes active =
    let writes = write-phase p h w is comes in
    record {
      owns = λ started granted.
          active-write p (record_read h) w (known_read h) (purpose h) (is_granted h) (is_owner h) (number h) (epoch_number h) (is_granted h) refl
          (active.owns started)
          (λ fresh. active.purposed started fresh (ap before_write writes.0)) writes.1;
      purposed = λ started fresh early. absurd (cc);
    }
active-step p h Released is comes active = record { owns = active.owns; purposed = λ started fresh early. absurd (not-early (after_release p h) early) }
active-step p h _ is comes active = active

-- a job that was started as active is an owner once it holds a number
pub active-owns : (p : Settings) (h : List Event) → IsHistory p h → starts_active h ≡ true → is_granted h ≡ true → is_owner h ≡ true
active-owns p h is =
    (induct IsActive (λ p. record { owns = λ started granted. absurd (cc); purposed = λ started fresh early. absurd (cc) })
    (λ p. record { owns = λ started granted. absurd (cc); purposed = λ started fresh early. absurd (cc) }) active-step p h is).owns

-- who has a purpose to sign off has reserved for it
reserved-off : (h : List Event) → is_sign_off (purpose h) ≡ true → has_reserved_off h ≡ true
reserved-off [] is = absurd (cc)
reserved-off (Reserved ∷ h) is = or-right (has_reserved_off h) (is_sign_off (purpose_now h)) is
reserved-off (_ ∷ h) is = reserved-off h is

-- an owner that ends after its RELEASE signs off
pub record Ending (f : Phase) (owner ends : Bool) (q : Purpose) : Type 0 where
  pub under : may_release f ≡ true → owner ≡ true → ends ≡ true → is_sign_off q ≡ true
  pub over : f ≡ Over → owner ≡ true → is_sign_off q ≡ true

-- of a history
abbrev pub EndsBy : Settings → List Event → Type 0
EndsBy p h = Ending (phase p h) (is_owner h) (is_some (after_release p h)) (purpose h)

-- as a fact of each job
abbrev EndsOff : Fact
EndsOff s c k x h = EndsBy (settings s x) h

-- an owner that reads, and ends, signs off
read-ends : (p : Settings) (q : Purpose) (granted owner : Bool) (me : ℕ) (c : ControlRecord) (known : Known) → Suits q granted owner → owner ≡ true
    → is_some (end_next (end_by_purpose p q me c known)) ≡ true → (owner ≡ true → granted ≡ true) → is_sign_off q ≡ true
read-ends p q granted owner me c known suits is ends grants = grind (arith, common_steps)

-- who is granted does not end
grant-stays : (g : Grant) (w : ControlRecord) → granted g ≡ Some w → is_some (end_next (end_of_grant g)) ≡ true → ⊥
grant-stays (grant.Granted written) w is ends = absurd (cc)
grant-stays _ w is ends = absurd (cc)

-- as a fact of each job
abbrev Signs : Settings → Purpose → (me epoch after : ℕ) → ControlRecord → ControlRecord → Known → (granted owner : Bool) → Type 0
Signs p q me epoch after c w known granted owner =
    record_by_purpose p q me epoch c known ≡ Some w → IsRuled c → Suits q granted owner → (of_alternate q ≡ true → Beside c p.site me)
    → (owner || names_owner w (number_after granted me w)) ≡ true → is_some (end_next (end_by_purpose p q after c known)) ≡ true → is_sign_off q ≡ true

-- who becomes owner and ends signs off
write-ends : (p : Settings) (q : Purpose) (me epoch after : ℕ) (c w : ControlRecord) (known : Known) (granted owner : Bool)
    → Signs p q me epoch after c w known granted owner
write-ends p SignOnActive me epoch after c w known granted owner makes rule suits mine owns ends =
    absurd (grant-stays (grant_active c p.site known p.level) w makes ends)
write-ends p SignOnStandby me epoch after c w known granted owner makes rule suits mine owns ends =
    absurd (grant-stays (grant_standby c p.site known p.level) w makes ends)
write-ends p (SignOff state) me epoch after c w known granted owner makes rule suits mine owns ends = refl
write-ends p DropAlternate me epoch after c w known granted owner makes rule suits mine owns ends = absurd (cc)
write-ends p (Leave reason) me epoch after c w known granted owner makes rule suits mine owns ends =
    absurd (cc (sym (own-leave p me reason c w known (wrote p (Leave reason) me epoch c w known makes) (mine refl)).0 ∙ sym (own-number granted me w suits.0)
    ∙ or-second owner (names_owner w (number_after granted me w)) suits.1 owns))
write-ends p (StartTakeover why) me epoch after c w known granted owner makes rule suits mine owns ends =
    absurd (cc (sym (own-start p me why c w known (wrote p (StartTakeover why) me epoch c w known makes) (mine refl)).0 ∙ sym (own-number granted me w suits.0)
    ∙ or-second owner (names_owner w (number_after granted me w)) suits.1 owns))
write-ends p GoThrough me epoch after c w known granted owner makes rule suits mine owns ends = absurd (cc)

-- after a RELEASE no RELEASE comes
released-not : (o : Option Want) → may_release (released o) ≡ true → ⊥
released-not None is = absurd (cc)
released-not (Some w) is = absurd (cc)

-- a job that is over ends
pub over-some : (o : Option Want) → released o ≡ Over → is_some o ≡ true
over-some None is = absurd (cc)
over-some (Some w) is = refl

-- each event keeps it
own-ends : (s : Scen) (t : List Entry) (x : Site) (h : List Event) (made : Event) → IsRun s t → hist s t x ≡ Some h → Comes (settings s x) h made
    → IsHanded s t x h made
    → EndsBy (settings s x) h → EndsBy (settings s x) (made ∷ h)
own-ends s t x h StartedActive is here comes given ending = absurd comes
own-ends s t x h StartedStandby is here comes given ending = absurd comes
own-ends s t x h Reserved is here comes given ending = record { under = λ may. absurd (cc); over = λ over. absurd (cc) }
own-ends s t x h (ControlRead held known) is here comes given ending =
    let p = settings s x in
    let path = history-at s t x h is here in
    record {
      under = λ may owner ends.
          read-ends p (purpose h) (is_granted h) (is_owner h) (number h) held known (suited p h path (ap before_write (read-phase p h path comes))) owner ends
          (job-at s t x h is here).stands.is_granted;
      over = λ over. absurd (cc);
    }
own-ends s t x h (ControlWritten w) is here comes given ending =
    let p = settings s x in
    let path = history-at s t x h is here in
    let job = job-at s t x h is here in
    let wrote = writes-by s t x h w is here comes in
    let read = (job.read (write-phase p h w path comes).0).0 in
    record {
      under = λ may owner ends.
          write-ends p (purpose h) (number h) (epoch_number h) (number_after (is_granted h) (number h) w) (control t) w (known_read h) (is_granted h)
          (is_owner h) wrote.made
          (holds-at s t x is).rule wrote.suits (write-mine s t x (view p h) w (epoch_number h) wrote job) owner
          (sym (ap (λ (c : ControlRecord). is_some
          (end_next (end_by_purpose p (purpose h) (number_after (is_granted h) (number h) w) c (known_read h)))) read) ∙ ends);
      over = λ over. absurd (cc);
    }
own-ends s t x h Released is here comes given ending =
    let p = settings s x in
    record {
      under = λ may. absurd (released-not (after_release p h) may);
      over = λ over owner. ending.under (releases-phase p h (history-at s t x h is here) comes) owner (over-some (after_release p h) over);
    }
own-ends s t x h _ is here comes given ending = ending

-- of a START
ends-born : (s : Scen) (c : ControlRecord) (k : ℕ → Bool) (x : Site) (made : Event) → is_started made ≡ true → EndsOff s c k x (made ∷ [])
ends-born s c k x StartedActive started = record { under = λ may. absurd (cc); over = λ over. absurd (cc) }
ends-born s c k x StartedStandby started = record { under = λ may. absurd (cc); over = λ over. absurd (cc) }
ends-born s c k x _ started = absurd (cc)

-- each kind of move keeps it
ends-kept : Kept EndsOff
ends-kept = record {
  born = ends-born;
  ticked = λ s c k x h holds. holds;
  confirms = λ s c k x h n holds. holds;
  own = own-ends;
  beside = λ s t x h g w is here writes there holds. holds;
}

-- an owner that ends after its RELEASE signs off, of every run
pub ends-at : (s : Scen) (t : List Entry) (x : Site) (h : List Event) → IsRun s t → hist s t x ≡ Some h → EndsBy (settings s x) h
ends-at s t x h is here = subst (λ (job : Option (List Event)). IfSome job (EndsOff s (control t) (confirmed t) x)) here (each-job EndsOff ends-kept s t is x)

-- an owner that does not sign off is not over
not-over : (f : Phase) (q : Purpose) → is_sign_off q ≡ false → (f ≡ Over → is_sign_off q ≡ true) → is_over f q ≡ false
not-over HasWritten q stays over = stays
not-over Over q stays over = absurd (cc (sym stays ∙ over refl))
not-over _ q stays over = refl

-- what leads to what is not so is not so
not-off : (b c : Bool) → (b ≡ true → c ≡ true) → c ≡ false → b ≡ false
not-off true c is stays = absurd (cc (sym stays ∙ is refl))
not-off false c is stays = refl

-- **an owner that has not reserved for its sign-off is the Running owner of its site, of every run**
pub owns : (s : Scen) (t : List Entry) (x : Site) (h : List Event) → IsRun s t → hist s t x ≡ Some h → Stays h
    → (control t).owner ≡ running_owner (who_at x) (number h)
owns s t x h is here stays =
    let p = settings s x in
    let ending = ends-at s t x h is here in
    (job-at s t x h is here).stands.runs stays.owner
    (not-over (phase p h) (purpose h) (not-off (is_sign_off (purpose h)) (has_reserved_off h) (reserved-off h) stays.stays) (λ over. ending.over over stays.owner))
    ∙ sym (running-at x (number h))
