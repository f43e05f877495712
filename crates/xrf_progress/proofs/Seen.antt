-- What an alternate saw at LOOK1 named it, while the record names it.
use Rattle.std.proofs.Common.{◌==◌, ◌≡◌, ◌&&◌, ℕ, is_some, Bool, true, false, List, [], ◌∷◌, IfSome, Option, Some, None, refl, ap, ◌∙◌, sym, subst, arith}
use Rattle.std.proofs.lemmas.Grind.{common_steps}
use Rattle.xrf_base.specs.declared.site.Site.{Site}
use Rattle.xrf_ctl.specs.Control.{ControlRecord}
use Rattle.xrf_ctl.specs.declared.parts.OwnerState.TheVariants.{OffNormal, Running}
use Rattle.xrf_cavm.specs.Record.{inc_of_owner, is_owner as names_owner, is_alt, owner_is}
use Rattle.xrf_cavm.specs.declared.known.Known.{Known}
use Rattle.xrf_history.specs.declared.settings.Settings.{Settings}
use Rattle.xrf_history.specs.declared.want.Want.{Want}
use Rattle.xrf_history.specs.declared.want.Want.TheVariants as want
use Rattle.xrf_history.specs.Events.{Event, StartedActive, StartedStandby, Ticked, Abended, Replied, Commanded, Exited, ControlRead, Released, Looked1, Looked2, MessageRead, MessageClosed, LogLooked, LogClosed, LogOpened, KeyLooked, RecordRead, RecordUndone, Given}
use Rattle.xrf_history.specs.Holding.{number, is_granted, is_owner}
use Rattle.xrf_history.specs.Looking.{record_seen}
use Rattle.xrf_history.specs.Next.{inside, next, or_boundary}
use Rattle.xrf_history.proofs.Histories.{Comes, is_started}
use Rattle.xrf_history.proofs.Rounds.{is_rounds, no-rounds}
use Rattle.xrf_history.proofs.Silence.{is_looking_of}
use Rattle.xrf_trace.specs.declared.entry.Entry.{Entry}
use Rattle.xrf_trace.specs.Scenario.{Scen, settings, other}
use Rattle.xrf_trace.specs.Words.{confirmed}
use Rattle.xrf_trace.specs.Devices.{control}
use Rattle.xrf_trace.specs.Jobs.{hist}
use Rattle.xrf_trace.specs.Runs.{IsRun}
use Rattle.xrf_trace.proofs.Moves.{IsHanded, control_by}
use Rattle.xrf_trace.proofs.EachJob.{Fact, Kept, each-job}
use Rattle.xrf_owner_law.proofs.KnownLaw.{writes-known}
use Rattle.xrf_owner_law.proofs.WritesOfRuns.{writes-by}
use Rattle.xrf_owner_law.proofs.Invariant.{job-at}
use Rattle.xrf_owner_law.specs.Views.{is_over}
use Rattle.xrf_owner_law.specs.Owner.{OwnerBeside}
use Rattle.xrf_ctl.specs.declared.parts.Owner.{Owner}
use Rattle.xrf_history.specs.Reserving.{Purpose, SignOnActive, SignOnStandby, SignOff, DropAlternate, Leave, StartTakeover, GoThrough, purpose, known_read}
use Rattle.xrf_history.proofs.Writes.{Wrote}
use Rattle.xrf_history.proofs.Purposes.{Suits, is_sign_off}
use Rattle.xrf_history.proofs.Phases.{Phase}
use Rattle.xrf_history.proofs.PhaseLaws.{write-phase}
use Rattle.xrf_trace.proofs.Paths.{history-at}
use Rattle.xrf_cavm.specs.Record.{stands}

-- from LOOK1 to DECIDE, where the record names the alternate, what it saw did
abbrev Named : Fact
Named s c k x h =
    is_owner h ≡ false → is_granted h ≡ true → is_looking_of (inside (settings s x) h) ≡ true → is_alt c (number h) ≡ true → is_alt (record_seen h) (number h) ≡ true

-- LOOK2 stands inside its sequence
pub look2-inside : (p : Settings) (h : List Event) → next p h ≡ want.Look2 → is_looking_of (inside p h) ≡ true
look2-inside p h is = by (inside p h) is
  where
    by : (o : Option Want) → or_boundary p h o ≡ want.Look2 → is_looking_of o ≡ true
    by None same = absurd (cc (sym (ap is_rounds same) ∙ no-rounds p h))
    by (Some w) same = ap (λ (v : Want). is_looking_of (Some v)) same

-- the events after which a look goes on
abbrev goes_by : Event → Bool
goes_by Ticked = true
goes_by Abended = true
goes_by (Replied go at) = true
goes_by (Commanded command at) = true
goes_by (Exited answer at) = true
goes_by (Looked1 held signal) = true
goes_by (Looked2 signal at) = true
goes_by _ = false

-- after another event no look goes on
looks-after : (p : Settings) (h : List Event) (e : Event) → goes_by e ≡ false → is_looking_of (inside p (e ∷ h)) ≡ false
looks-after p h (MessageRead k slot) plain = grind (arith, common_steps)
looks-after p h (MessageClosed k) plain = grind (arith, common_steps)
looks-after p h (LogLooked k gate) plain = grind (arith, common_steps)
looks-after p h (LogClosed k) plain = grind (arith, common_steps)
looks-after p h (LogOpened k rec) plain = grind (arith, common_steps)
looks-after p h (KeyLooked k gate) plain = grind (arith, common_steps)
looks-after p h (RecordRead k slot) plain = grind (arith, common_steps)
looks-after p h (RecordUndone k before) plain = grind (arith, common_steps)
looks-after p h (Given item) plain = grind (arith, common_steps)
looks-after p h (ControlRead held known) plain = grind (arith, common_steps)
looks-after p h Released plain = grind (arith, common_steps)
looks-after p h Ticked plain = absurd (cc)
looks-after p h Abended plain = absurd (cc)
looks-after p h (Replied go at) plain = absurd (cc)
looks-after p h (Commanded command at) plain = absurd (cc)
looks-after p h (Exited answer at) plain = absurd (cc)
looks-after p h (Looked1 held signal) plain = absurd (cc)
looks-after p h (Looked2 signal at) plain = absurd (cc)
looks-after p h _ plain = refl

-- so it does not
pub not-looking : (p : Settings) (h : List Event) (e : Event) → goes_by e ≡ false → is_looking_of (inside p (e ∷ h)) ≡ true → ⊥
not-looking p h e plain looks = absurd (cc (sym (looks-after p h e plain) ∙ looks))

-- each event keeps it
named-own : (s : Scen) (t : List Entry) (x : Site) (h : List Event) (made : Event) → IsRun s t → hist s t x ≡ Some h → Comes (settings s x) h made
    → IsHanded s t x h made → Named s (control t) (confirmed t) x h → Named s (control_by made (control t)) (confirmed t) x (made ∷ h)
named-own s t x h StartedActive is here comes given named = absurd comes
named-own s t x h StartedStandby is here comes given named = absurd comes
named-own s t x h Ticked is here comes given named = named
named-own s t x h Abended is here comes given named = named
named-own s t x h (Replied go at) is here comes given named = named
named-own s t x h (Commanded command at) is here comes given named = named
named-own s t x h (Exited answer at) is here comes given named = named
named-own s t x h (Looked1 held signal) is here comes given named = λ no_owner granted looks names.
    ap (λ (c : ControlRecord). is_alt c (number h)) given.0 ∙ names
named-own s t x h (Looked2 signal at) is here comes given named = λ no_owner granted looks names.
    named no_owner granted (look2-inside (settings s x) h comes) names
named-own s t x h e is here comes given named = λ no_owner granted looks names. absurd (not-looking (settings s x) h e refl looks)

-- so does each kind of move
named-kept : Kept Named
named-kept = record {
  born = λ s c k x made started no_owner granted looks names. absurd (not-granted made started granted);
  ticked = λ s c k x h named. named;
  confirms = λ s c k x h n named. named;
  own = named-own;
  beside = λ s t x h g w is here comes there named no_owner granted looks names.
      named no_owner granted looks ((writes-known s t is x h w here comes).place_beside g there granted names);
}
  where
    not-granted : (made : Event) → is_started made ≡ true → is_granted (made ∷ []) ≡ true → ⊥
    not-granted made started granted = grind (arith, common_steps)

-- **what an alternate saw named it, while the record names it**
pub seen-named : (s : Scen) (t : List Entry) (x : Site) (h : List Event) → IsRun s t → hist s t x ≡ Some h → is_owner h ≡ false → is_granted h ≡ true
    → is_looking_of (inside (settings s x) h) ≡ true → is_alt (control t) (number h) ≡ true → is_alt (record_seen h) (number h) ≡ true
seen-named s t x h is here =
    subst (λ (job : Option (List Event)). IfSome job (Named s (control t) (confirmed t) x)) here (each-job Named named-kept s t is x)

-- A write that names an alternate leaves an owner that signed off normally as it is: none but the owner signs off, and of the
-- others no write that names an alternate is made beside one that is not Running.
normal-kept : (p : Settings) (q : Purpose) (me n : ℕ) (c w : ControlRecord) (known : Known) → Wrote p q me c known w → is_alt w n ≡ true
    → (is_sign_off q ≡ true → owner_is c Running ≡ true) → owner_is c OffNormal ≡ true → owner_is w OffNormal ≡ true
normal-kept p SignOnActive me n c w known did names runs normal = grind (arith, common_steps)
normal-kept p SignOnStandby me n c w known did names runs normal = grind (arith, common_steps)
normal-kept p (SignOff state) me n c w known did names runs normal = absurd (one-state c (runs refl) normal)
  where
    one-state : (c : ControlRecord) → owner_is c Running ≡ true → owner_is c OffNormal ≡ true → ⊥
    one-state c first second = grind (arith, common_steps)
normal-kept p DropAlternate me n c w known did names runs normal = grind (arith, common_steps)
normal-kept p (Leave reason) me n c w known did names runs normal = grind (arith, common_steps)
normal-kept p (StartTakeover cause) me n c w known did names runs normal = grind (arith, common_steps)
normal-kept p GoThrough me n c w known did names runs normal = grind (arith, common_steps)

-- who signs off is the Running owner
sign-off-runs : (s : Scen) (t : List Entry) (x : Site) (h : List Event) (w : ControlRecord) → IsRun s t → hist s t x ≡ Some h
    → next (settings s x) h ≡ want.CtlWrite w → is_sign_off (purpose h) ≡ true → owner_is (control t) Running ≡ true
sign-off-runs s t x h w is here writes off =
    let p = settings s x in
    let at = (write-phase p h w (history-at s t x h is here) writes).0 in
    let owner = sign-off-owner (purpose h) (is_granted h) (is_owner h) (writes-by s t x h w is here writes).suits off in
    let runs = (job-at s t x h is here).stands.runs owner (ap (λ (f : Phase). is_over f (purpose h)) at) in
    ap (stands Running) runs
  where
    sign-off-owner : (q : Purpose) (granted owner : Bool) → Suits q granted owner → is_sign_off q ≡ true → owner ≡ true
    sign-off-owner (SignOff state) granted owner suits off = suits
    sign-off-owner _ granted owner suits off = absurd (cc)

-- so where the record has an owner that did not sign off normally, the one that it saw did not
abbrev NotNormal : Fact
NotNormal s c k x h =
    is_owner h ≡ false → is_granted h ≡ true → is_looking_of (inside (settings s x) h) ≡ true → is_alt c (number h) ≡ true
    → owner_is c OffNormal ≡ false → owner_is (record_seen h) OffNormal ≡ false

-- each event keeps it
normal-own : (s : Scen) (t : List Entry) (x : Site) (h : List Event) (made : Event) → IsRun s t → hist s t x ≡ Some h → Comes (settings s x) h made
    → IsHanded s t x h made → NotNormal s (control t) (confirmed t) x h → NotNormal s (control_by made (control t)) (confirmed t) x (made ∷ h)
normal-own s t x h StartedActive is here comes given kept = absurd comes
normal-own s t x h StartedStandby is here comes given kept = absurd comes
normal-own s t x h Ticked is here comes given kept = kept
normal-own s t x h Abended is here comes given kept = kept
normal-own s t x h (Replied go at) is here comes given kept = kept
normal-own s t x h (Commanded command at) is here comes given kept = kept
normal-own s t x h (Exited answer at) is here comes given kept = kept
normal-own s t x h (Looked1 held signal) is here comes given kept = λ no_owner granted looks names not_normal.
    ap (λ (c : ControlRecord). owner_is c OffNormal) given.0 ∙ not_normal
normal-own s t x h (Looked2 signal at) is here comes given kept = λ no_owner granted looks names not_normal.
    kept no_owner granted (look2-inside (settings s x) h comes) names not_normal
normal-own s t x h e is here comes given kept = λ no_owner granted looks names not_normal. absurd (not-looking (settings s x) h e refl looks)

-- so does a write of the other job
normal-beside : (s : Scen) (t : List Entry) (x : Site) (h g : List Event) (w : ControlRecord) → IsRun s t → hist s t x ≡ Some h
    → next (settings s x) h ≡ want.CtlWrite w → hist s t (other x) ≡ Some g → NotNormal s (control t) (confirmed t) (other x) g
    → NotNormal s w (confirmed t) (other x) g
normal-beside s t x h g w is here comes there kept = λ no_owner granted looks names not_normal.
    kept no_owner granted looks ((writes-known s t is x h w here comes).place_beside g there granted names)
    (by (owner_is (control t) OffNormal) refl names not_normal)
  where
    by : (b : Bool) → owner_is (control t) OffNormal ≡ b → is_alt w (number g) ≡ true → owner_is w OffNormal ≡ false → b ≡ false
    by false is_b names not_normal = refl
    by true is_b names not_normal =
        absurd
        (cc (
        sym not_normal ∙ normal-kept (settings s x) (purpose h) (number h) (number g) (control t) w (known_read h) (writes-by s t x h w is here comes).did names
        (sign-off-runs s t x h w is here comes) is_b
        ))

-- so does each kind of move
normal-kept-all : Kept NotNormal
normal-kept-all = record {
  born = λ s c k x made started no_owner granted looks names not_normal. absurd (not-granted-yet made started granted);
  ticked = λ s c k x h kept. kept;
  confirms = λ s c k x h n kept. kept;
  own = normal-own;
  beside = normal-beside;
}
  where
    not-granted-yet : (made : Event) → is_started made ≡ true → is_granted (made ∷ []) ≡ true → ⊥
    not-granted-yet made started granted = grind (arith, common_steps)

-- **the owner that an alternate saw did not sign off normally, while the one of the record did not**
pub seen-normal : (s : Scen) (t : List Entry) (x : Site) (h : List Event) → IsRun s t → hist s t x ≡ Some h → is_owner h ≡ false → is_granted h ≡ true
    → is_looking_of (inside (settings s x) h) ≡ true → is_alt (control t) (number h) ≡ true → owner_is (control t) OffNormal ≡ false
    → owner_is (record_seen h) OffNormal ≡ false
seen-normal s t x h is here =
    subst (λ (job : Option (List Event)). IfSome job (NotNormal s (control t) (confirmed t) x)) here (each-job NotNormal normal-kept-all s t is x)

-- beside an alternate there is an owner
pub beside-owned : (o : Option Owner) (x : Site) (n : ℕ) → OwnerBeside o x n → is_some o ≡ true
beside-owned None x n beside = absurd beside
beside-owned (Some o) x n beside = refl

-- which is another
pub beside-not : (c : ControlRecord) (x : Site) (n : ℕ) → OwnerBeside c.owner x n → names_owner c n ≡ false
beside-not c x n beside = by c.owner beside
  where
    by : (o : Option Owner) → OwnerBeside o x n → (is_some o && inc_of_owner o == n) ≡ false
    by None is = refl
    by (Some o) is = differ o.inc n is.1
      where
        differ : (a b : ℕ) → (a ≡ b → ⊥) → (a == b) ≡ false
        differ a b apart = grind (arith, apart)

-- what an alternate saw at LOOK1 had an owner
abbrev Owned : Fact
Owned s c k x h = is_owner h ≡ false → is_granted h ≡ true → is_looking_of (inside (settings s x) h) ≡ true → is_some (record_seen h).owner ≡ true

-- each event keeps it
owned-own : (s : Scen) (t : List Entry) (x : Site) (h : List Event) (made : Event) → IsRun s t → hist s t x ≡ Some h → Comes (settings s x) h made
    → IsHanded s t x h made → Owned s (control t) (confirmed t) x h → Owned s (control_by made (control t)) (confirmed t) x (made ∷ h)
owned-own s t x h StartedActive is here comes given owned = absurd comes
owned-own s t x h StartedStandby is here comes given owned = absurd comes
owned-own s t x h Ticked is here comes given owned = owned
owned-own s t x h Abended is here comes given owned = owned
owned-own s t x h (Replied go at) is here comes given owned = owned
owned-own s t x h (Commanded command at) is here comes given owned = owned
owned-own s t x h (Exited answer at) is here comes given owned = owned
owned-own s t x h (Looked1 held signal) is here comes given owned = λ no_owner granted looks.
    ap (λ (c : ControlRecord). is_some c.owner) given.0
    ∙ beside-owned (control t).owner x (number h) ((job-at s t x h is here).stands.beside granted no_owner).owner
owned-own s t x h (Looked2 signal at) is here comes given owned = λ no_owner granted looks. owned no_owner granted (look2-inside (settings s x) h comes)
owned-own s t x h e is here comes given owned = λ no_owner granted looks. absurd (not-looking (settings s x) h e refl looks)

-- so does each kind of move
owned-kept : Kept Owned
owned-kept = record {
  born = λ s c k x made started no_owner granted looks. absurd (not-granted-at-first made started granted);
  ticked = λ s c k x h owned. owned;
  confirms = λ s c k x h n owned. owned;
  own = owned-own;
  beside = λ s t x h g w is here comes there owned. owned;
}
  where
    not-granted-at-first : (made : Event) → is_started made ≡ true → is_granted (made ∷ []) ≡ true → ⊥
    not-granted-at-first made started granted = grind (arith, common_steps)

-- **what an alternate saw had an owner**
pub seen-owned : (s : Scen) (t : List Entry) (x : Site) (h : List Event) → IsRun s t → hist s t x ≡ Some h → is_owner h ≡ false → is_granted h ≡ true
    → is_looking_of (inside (settings s x) h) ≡ true → is_some (record_seen h).owner ≡ true
seen-owned s t x h is here =
    subst (λ (job : Option (List Event)). IfSome job (Owned s (control t) (confirmed t) x)) here (each-job Owned owned-kept s t is x)
