-- Through by proof: nobody becomes owner beside an owner that may still run.
use Rattle.std.specs.Prelude.{◌≡◌, ℕ, ◌+◌, Bool, true, false, ◌&&◌, not, is_some, if◌then◌else◌, List, [], ◌∷◌, Some, None}
use Rattle.xrf_base.specs.declared.site.Site.{Site}
use Rattle.xrf_ctl.specs.declared.parts.Level.{Level}
use Rattle.xrf_ctl.specs.declared.parts.OwnerState.TheVariants.{Running}
use Rattle.xrf_ctl.specs.Control.{ControlRecord, of_parts}
use Rattle.xrf_cavm.specs.declared.known.Known.{Known}
use Rattle.xrf_cavm.specs.declared.decisions.Waiting.TheVariants as waiting
use Rattle.xrf_cavm.specs.declared.decisions.Decided.{Decided}
use Rattle.xrf_cavm.specs.declared.decisions.Decided.TheVariants as decided
use Rattle.xrf_cavm.specs.Record.{inc_of_owner, inc_of_alt, owner_is, is_alt}
use Rattle.xrf_cavm.specs.Grants.{is_foreign, owner_format}
use Rattle.xrf_history.specs.declared.want.EndWhy.{EndWhy}
use Rattle.xrf_history.specs.declared.want.EndWhy.TheVariants as end
use Rattle.xrf_history.specs.Events.{Event}
use Rattle.xrf_history.specs.Holding.{is_waiting, is_granted, number, starts_active}
use Rattle.xrf_history.specs.Progress.{made_since_read, made_since_decision, has_read}
use Rattle.xrf_history.specs.Reserving.{Purpose, SignOnActive, purpose, last_decision, is_through_decision, record_read, known_read}
use Rattle.xrf_history.specs.Looking.{record_seen}
use Rattle.xrf_trace.specs.declared.entry.Entry.{Entry}
use Rattle.xrf_trace.specs.declared.entry.Act.{Act}
use Rattle.xrf_trace.specs.declared.entry.Act.TheVariants as act
use Rattle.xrf_trace.specs.Scenario.{Scen, settings}
use Rattle.xrf_trace.specs.Words.{confirmed}
use Rattle.xrf_trace.specs.Devices.{control}
use Rattle.xrf_trace.specs.Throughs.{is_through, has_taking}
use Rattle.xrf_trace.specs.StartByCause.{DecidesSo}
use Rattle.xrf_trace.specs.Acts.{is_act}
use Rattle.xrf_trace.specs.Each.{Each, Where, AtSite, InPlace}

-- the owner of a record may run: it is there, Running, and not confirmed
abbrev pub may_run : List Entry → ControlRecord → Bool
may_run t r = owner_is r Running && not (confirmed t (inc_of_owner r.owner))

-- Each DECIDE of a waiting alternate is THROUGH exactly where the owner of its LOOK1 record is not Running or
-- is confirmed, else WAIT.
abbrev pub through_or_wait : Bool → Decided
through_or_wait true = decided.Waiting waiting.Wait
through_or_wait false = decided.Waiting waiting.Through

abbrev pub DecidesThrough : List Entry → Entry → List Event → Type 0
DecidesThrough t e h = DecidesSo (is_waiting h) (through_or_wait (may_run t (record_seen h))) e.act

abbrev pub WaitsForProof : Scen → List Entry → Entry → Type 0
WaitsForProof s t e = AtSite s t e.who (λ x h. DecidesThrough t e h)

-- Where the last DECIDE is THROUGH, the acts since it are RESERVE, CTLREAD, the CTLWRITE that makes the alternate
-- owner, and RELEASE.
abbrev pub through_record : Site → Level → ℕ → ControlRecord → ControlRecord
through_record x level n held = of_parts (owner_format level held.format) held.last (Some (record { inc = n; site = x; state = Running })) None None

abbrev pub through_sequence : Site → Level → ℕ → ControlRecord → List Act
through_sequence x level n held = act.Reserve ∷ act.CtlRead ∷ act.CtlWrite (through_record x level n held) ∷ act.Release ∷ []

abbrev pub GoesThrough : Scen → Site → List Event → Act → Type 0
GoesThrough s x h a = Where (is_through_decision (last_decision h) && is_act a) (InPlace (through_sequence x (settings s x).level (number h) (record_read h)) (made_since_decision h) a)

abbrev pub ThroughWhere : Scen → List Entry → Entry → Type 0
ThroughWhere s t e = AtSite s t e.who (λ x h. GoesThrough s x h e.act)

-- Every through is by the one that becomes owner: a START as active that is granted, or an alternate that waits,
-- decided THROUGH, and stands in the record with its taking.
abbrev pub may_come : ControlRecord → List Event → Bool
may_come held h =
    elim (is_granted h) [
      | false ↦ starts_active h
      | true ↦ is_waiting h && is_through_decision (last_decision h) && is_alt held (number h) && has_taking held.taking (number h)
    ]

abbrev pub NamesItself : Entry → Site → Act → Type 0
NamesItself e x (act.CtlWrite written) = written.owner ≡ Some (record { inc = e.inc; site = x; state = Running })
NamesItself e x _ = Unit {0}

abbrev pub ThroughOnlyWhere : Scen → List Entry → Entry → Type 0
ThroughOnlyWhere s t e = Where (is_through t e) (AtSite s t e.who (λ x h. (may_come (control t) h ≡ true) × NamesItself e x e.act))

-- A sign-on as active is granted exactly where the record read under the reserve is of a format that the job's
-- level reads, and has no owner that is Running and unconfirmed and no alternate that is unconfirmed.
abbrev pub may_sign_on : Level → ControlRecord → Known → Bool
may_sign_on level held known =
    not (is_foreign level held.format) && not (owner_is held Running && not known.owner) && not (is_some held.alt && not known.alt)

abbrev pub sign_on_record : Site → Level → ControlRecord → ControlRecord
sign_on_record x level held =
    of_parts (owner_format level held.format) (held.last + 1) (Some (record { inc = held.last + 1; site = x; state = Running })) None None

abbrev pub sign_on_end : Level → ControlRecord → Known → EndWhy
sign_on_end level held known =
    if is_foreign level held.format then end.Format else
    (if owner_is held Running && not known.owner then end.Refused (inc_of_owner held.owner) else end.Refused (inc_of_alt held.alt))

abbrev pub sign_on_sequence : Site → Level → ControlRecord → Known → List Act
sign_on_sequence x level held known =
    elim (may_sign_on level held known) [
      | true ↦ act.CtlWrite (sign_on_record x level held) ∷ act.Release ∷ []
      | false ↦ act.Release ∷ act.Ended (sign_on_end level held known) ∷ []
    ]

abbrev pub is_sign_on : Purpose → Bool
is_sign_on SignOnActive = true
is_sign_on _ = false

abbrev pub SignsOn : Scen → Site → List Event → Act → Type 0
SignsOn s x h a =
    Where (is_sign_on (purpose h) && has_read h && is_act a)
    (InPlace (sign_on_sequence x (settings s x).level (record_read h) (known_read h)) (made_since_read h) a)

abbrev pub SignOnWhere : Scen → List Entry → Entry → Type 0
SignOnWhere s t e = AtSite s t e.who (λ x h. SignsOn s x h e.act)

-- at every through the owner before, where there is one, is not Running or is confirmed
abbrev pub ThroughOverNone : List Entry → Entry → Type 0
ThroughOverNone t e = Where (is_through t e) (may_run t (control t) ≡ false)

pub record ThroughByProof (s : Scen) (t : List Entry) : Type 0 where
  pub waits : Each (WaitsForProof s) t
  pub goes : Each (ThroughWhere s) t
  pub only : Each (ThroughOnlyWhere s) t
  pub signs_on : Each (SignOnWhere s) t
  pub over_none : Each ThroughOverNone t
