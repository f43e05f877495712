-- From DECIDE THROUGH on: RESERVE, CTLREAD, CTLWRITE, RELEASE.
use Rattle.std.proofs.Common.{Bool, is_some, not, ℕ, ◌&&◌, Some, false, true, ◌≡◌, List, [], ◌∷◌, None, Option, ◌≤◌, arith, ap, ◌∙◌, sym, refl, subst}
use Rattle.std.proofs.lemmas.Grind.{common_steps}
use Rattle.xrf_base.specs.declared.site.Site.{Site}
use Rattle.xrf_ctl.specs.Control.{ControlRecord}
use Rattle.xrf_ctl.specs.declared.parts.Alt.{Alt}
use Rattle.xrf_cavm.specs.declared.known.Known.{Known}
use Rattle.xrf_cavm.specs.Record.{is_alt, owner_may_run}
use Rattle.xrf_cavm.specs.declared.decisions.Decided.{Decided}
use Rattle.xrf_history.specs.Events.{ControlRead, Event, Reserved, ControlWritten, Released, Abended, ActFailed, BlockRead, Commanded, DecisionMade, EndedAs, Exited, FirstBlockRead, Replied, StartedActive, StartedStandby, Ticked}
use Rattle.xrf_history.proofs.Decisions.{is_go}
use Rattle.xrf_history.specs.Holding.{number, is_granted, is_owner}
use Rattle.xrf_history.specs.Reserving.{purpose, GoThrough, Purpose, known_read, last_decision, leaves, open_decision, record_read, is_through_decision, end_in, purpose_now, record_by_purpose}
use Rattle.xrf_history.specs.declared.want.EndWhy.{EndWhy}
use Rattle.xrf_history.proofs.Phases.{Outside, Phase, HasRead, HasWritten, Held, phase, is_work, may_reserve, may_release}
use Rattle.xrf_history.specs.declared.want.Want.{Want}
use Rattle.xrf_history.specs.declared.settings.Settings.{Settings}
use Rattle.xrf_history.specs.Next.{inside, next, or_boundary}
use Rattle.xrf_history.specs.Rows.{lines_left, boundary}
use Rattle.xrf_history.specs.Progress.{made_since_decision}
use Rattle.xrf_history.specs.Deciding.{cause}
use Rattle.xrf_history.proofs.Histories.{IsHistory, Comes, induct}
use Rattle.xrf_history.proofs.PhaseLaws.{work-phase, reserve-phase, read-phase, write-phase, releases-phase, fails-work}
use Rattle.xrf_history.specs.Notices.{is_drop}
use Rattle.xrf_history.proofs.Stages.{read-none}
use Rattle.xrf_history.proofs.Rounds.{decides-granted, decides-lines}
use Rattle.xrf_history.specs.declared.want.Want.TheVariants as want

-- a record that lets it through
abbrev pub lets_go : ControlRecord → ℕ → Known → Bool
lets_go c n known = is_alt c n && is_some c.taking && not (owner_may_run c known)

-- each record that it read to go through lets it
abbrev pub GoesWell : Site → Bool → ControlRecord → ℕ → Known → Type 0
GoesWell x true c n known = (lets_go c n known ≡ true) × (c.alt ≡ Some (record { inc = n; site = x }))
GoesWell x false c n known = Unit {0}

-- each record that was read to go through let it
abbrev pub LetGo : Site → List Event → Type 0
LetGo x [] = Unit {0}
LetGo x (ControlRead held known ∷ h) = LetGo x h × GoesWell x (is_go (purpose h)) held (number h) known
LetGo x (_ ∷ h) = LetGo x h

-- before the RESERVE
pub record Ready (made : ℕ) (act : Option Want) (granted owner lines : Bool) (stays : Option EndWhy) (opened last : Option Decided) (f : Phase) : Type 0 where
  pub none_made : made ≡ 0
  pub at : act ≡ None
  pub is_granted : granted ≡ true
  pub no_owner : owner ≡ false
  pub no_lines : lines ≡ false
  pub stays_on : stays ≡ None
  pub same : opened ≡ last
  pub outside : f ≡ Outside

-- where a through stands: at the decision, at RESERVE, at CTLREAD, at CTLWRITE, or behind it
pub data Place (made : ℕ) (act : Option Want) (granted owner lines : Bool) (stays : Option EndWhy) (opened last : Option Decided) (f : Phase)
    (q : Purpose) (lets : Bool) (alt me : Option Alt) : Type 0 where
  AtDecision : Ready made act granted owner lines stays opened last f → Place made act granted owner lines stays opened last f q lets alt me
  AtReserve : made ≡ 1 → f ≡ Held → q ≡ GoThrough → Place made act granted owner lines stays opened last f q lets alt me
  AtRead : made ≡ 2 → f ≡ HasRead → q ≡ GoThrough → lets ≡ true → alt ≡ me → Place made act granted owner lines stays opened last f q lets alt me
  AtWrite : made ≡ 3 → f ≡ HasWritten → Place made act granted owner lines stays opened last f q lets alt me
  Gone : 4 ≤ made → Place made act granted owner lines stays opened last f q lets alt me

-- of a history
abbrev pub PlaceOf : Settings → List Event → Type 0
PlaceOf p h =
    Place (made_since_decision h) (inside p h) (is_granted h) (is_owner h) (lines_left p h) (leaves h) (open_decision h)
    (last_decision h) (phase p h) (purpose h)
    (lets_go (record_read h) (number h) (known_read h)) (record_read h).alt (Some (record { inc = number h; site = p.site }))

-- after DECIDE THROUGH
abbrev pub GoesOn : Settings → List Event → Type 0
GoesOn p h = LetGo p.site h → is_through_decision (last_decision h) ≡ true → PlaceOf p h

-- at the decision RESERVE is next
ready-boundary : (p : Settings) (h : List Event) → is_owner h ≡ false → lines_left p h ≡ false → leaves h ≡ None → is_through_decision (open_decision h) ≡ true
    → boundary p h ≡ want.Reserve
ready-boundary p h no_owner no_lines none_left through = grind (arith, common_steps)

-- at the decision RESERVE is next
ready-next : (p : Settings) (h : List Event) → inside p h ≡ None → is_owner h ≡ false → lines_left p h ≡ false → leaves h ≡ None
    → open_decision h ≡ last_decision h
    → is_through_decision (last_decision h) ≡ true → next p h ≡ want.Reserve
ready-next p h at no_owner no_lines none_left same through =
    ap (or_boundary p h) at ∙ ready-boundary p h no_owner no_lines none_left (ap is_through_decision same ∙ through)

-- who decides THROUGH is no owner and does not leave
cause-through : (p : Settings) (h : List Event) (known : Known) (n : ℕ) (decision : Decided) → decision ≡ cause p h known n
    → is_through_decision (Some decision) ≡ true
    → (is_owner h ≡ false) × (end_in decision ≡ None)
cause-through p h known n decision made is = grind (arith, common_steps)

-- it reserves to go through
ready-purpose : (h : List Event) → is_granted h ≡ true → is_owner h ≡ false → leaves h ≡ None → is_through_decision (open_decision h) ≡ true
    → purpose_now h ≡ GoThrough
ready-purpose h granted no_owner stays through = grind (arith, common_steps)

-- the last decision is THROUGH
abbrev pub Through : List Event → Type 0
Through h = is_through_decision (last_decision h) ≡ true

-- at the decision RESERVE is next, by what is known there
pub ready-reserves : (p : Settings) (h : List Event) → Through h
    → Ready (made_since_decision h) (inside p h) (is_granted h) (is_owner h) (lines_left p h) (leaves h) (open_decision h) (last_decision h)
    (phase p h) → next p h ≡ want.Reserve
ready-reserves p h through ready = ready-next p h ready.at ready.no_owner ready.no_lines ready.stays_on ready.same through

-- work comes only behind the sequence
work-gone : (p : Settings) (h : List Event) (w : Want) → IsHistory p h → next p h ≡ w → is_work w ≡ true → Through h → PlaceOf p h → 4 ≤ made_since_decision h
work-gone p h w is comes work through (AtDecision ready) = absurd (cc (sym (ap is_work (sym (ready-reserves p h through ready) ∙ comes) ∙ work)))
work-gone p h w is comes work through (AtReserve made at purposed) = absurd (cc (sym at ∙ work-phase p h is (ap is_work comes ∙ work)))
work-gone p h w is comes work through (AtRead made at purposed lets alt) = absurd (cc (sym at ∙ work-phase p h is (ap is_work comes ∙ work)))
work-gone p h w is comes work through (AtWrite made at) = absurd (cc (sym at ∙ work-phase p h is (ap is_work comes ∙ work)))
work-gone p h w is comes work through (Gone made) = made

-- after the RESERVE
reserved-place : (p : Settings) (h : List Event) → IsHistory p h → next p h ≡ want.Reserve → Through h → PlaceOf p h → PlaceOf p (Reserved ∷ h)
reserved-place p h is comes through (AtDecision ready) =
    AtReserve (omega (arith, ready.none_made)) refl
    (ready-purpose h ready.is_granted ready.no_owner ready.stays_on (ap is_through_decision ready.same ∙ through))
reserved-place p h is comes through (AtReserve made at purposed) = absurd (cc (sym (ap may_reserve at) ∙ reserve-phase p h is comes))
reserved-place p h is comes through (AtRead made at purposed lets alt) = absurd (cc (sym (ap may_reserve at) ∙ reserve-phase p h is comes))
reserved-place p h is comes through (AtWrite made at) = absurd (cc (sym (ap may_reserve at) ∙ reserve-phase p h is comes))
reserved-place p h is comes through (Gone made) = Gone (omega (arith, made))

-- a record that was read to go through, by its purpose
pub goes-well : (x : Site) (q : Purpose) (c : ControlRecord) (n : ℕ) (known : Known) → q ≡ GoThrough → GoesWell x (is_go q) c n known
    → GoesWell x true c n known
goes-well x q c n known is goes = subst (λ (r : Purpose). GoesWell x (is_go r) c n known) is goes

-- after the CTLREAD
read-place : (p : Settings) (h : List Event) (held : ControlRecord) (known : Known) → IsHistory p h → next p h ≡ want.CtlRead → Through h
    → GoesWell p.site (is_go (purpose h)) held (number h) known → PlaceOf p h → PlaceOf p (ControlRead held known ∷ h)
read-place p h held known is comes through well (AtDecision ready) = absurd (cc (sym (ready-reserves p h through ready) ∙ comes))
read-place p h held known is comes through well (AtReserve made at purposed) =
    let goes = goes-well p.site (purpose h) held (number h) known purposed well in AtRead (omega (arith, made)) refl purposed goes.0 goes.1
read-place p h held known is comes through well (AtRead made at purposed lets alt) = absurd (cc (sym at ∙ read-phase p h is comes))
read-place p h held known is comes through well (AtWrite made at) = absurd (cc (sym at ∙ read-phase p h is comes))
read-place p h held known is comes through well (Gone made) = Gone (omega (arith, made))

-- after the CTLWRITE
write-place : (p : Settings) (h : List Event) (w : ControlRecord) → IsHistory p h → next p h ≡ want.CtlWrite w → Through h → PlaceOf p h
    → PlaceOf p (ControlWritten w ∷ h)
write-place p h w is comes through (AtDecision ready) = absurd (cc (sym (ready-reserves p h through ready) ∙ comes))
write-place p h w is comes through (AtReserve made at purposed) = absurd (cc (sym at ∙ (write-phase p h w is comes).0))
write-place p h w is comes through (AtRead made at purposed lets alt) = AtWrite (omega (arith, made)) refl
write-place p h w is comes through (AtWrite made at) = absurd (cc (sym at ∙ (write-phase p h w is comes).0))
write-place p h w is comes through (Gone made) = Gone (omega (arith, made))

-- a record is given to go through
let-gives : (p : Settings) (n : ℕ) (c : ControlRecord) (known : Known) → lets_go c n known ≡ true → is_some (record_by_purpose p GoThrough n 0 c known) ≡ true
let-gives p n c known lets = grind (arith, common_steps)

-- the same, by its purpose
go-gives : (p : Settings) (q : Purpose) (n : ℕ) (c : ControlRecord) (known : Known) → q ≡ GoThrough → lets_go c n known ≡ true
    → (is_drop q ≡ false) × (is_some (record_by_purpose p q n 0 c known) ≡ true)
go-gives p q n c known is lets =
    subst (λ (r : Purpose). (is_drop r ≡ false) × (is_some (record_by_purpose p r n 0 c known) ≡ true)) (sym is) (refl, let-gives p n c known lets)

-- after the RELEASE
release-place : (p : Settings) (h : List Event) → IsHistory p h → next p h ≡ want.Release → Through h → PlaceOf p h → PlaceOf p (Released ∷ h)
release-place p h is comes through (AtDecision ready) = absurd (cc (sym (ready-reserves p h through ready) ∙ comes))
release-place p h is comes through (AtReserve made at purposed) = absurd (cc (sym (ap may_release at) ∙ releases-phase p h is comes))
release-place p h is comes through (AtRead made at purposed lets alt) =
    let gives = go-gives p (purpose h) (number h) (record_read h) (known_read h) purposed lets in
    absurd (cc (sym (ap (λ (o : Option ControlRecord). is_some o) (read-none p h is comes gives.0 at)) ∙ gives.1))
release-place p h is comes through (AtWrite made at) = Gone (omega (arith, made))
release-place p h is comes through (Gone made) = Gone (omega (arith, made))

-- each event keeps it
go-step : (p : Settings) (h : List Event) (e : Event) → IsHistory p h → Comes p h e → GoesOn p h → GoesOn p (e ∷ h)
go-step p h StartedActive is comes goes = absurd comes
go-step p h StartedStandby is comes goes = absurd comes
go-step p h Ticked is comes goes = goes
go-step p h Abended is comes goes = goes
go-step p h (Replied go n) is comes goes = goes
go-step p h (Commanded command n) is comes goes = goes
go-step p h (Exited answer n) is comes goes = goes
go-step p h (DecisionMade known n decision) is comes goes = λ let_go through.
    let by = cause-through p h known n decision comes.1 through in
    AtDecision (record {
      none_made = refl;
      at = refl;
      is_granted = decides-granted p h is comes.0;
      no_owner = by.0;
      no_lines = decides-lines p h is comes.0 by.0;
      stays_on = by.1;
      same = refl;
      outside = work-phase p h is (ap is_work comes.0);
    })
go-step p h Reserved is comes goes = λ let_go through. reserved-place p h is comes through (goes let_go through)
go-step p h (ControlRead held known) is comes goes = λ let_go through. read-place p h held known is comes through let_go.1 (goes let_go.0 through)
go-step p h (ControlWritten w) is comes goes = λ let_go through. write-place p h w is comes through (goes let_go through)
go-step p h Released is comes goes = λ let_go through. release-place p h is comes through (goes let_go through)
go-step p h (FirstBlockRead block keys) is comes goes = λ let_go through.
    let made = work-gone p h (want.LogRead comes.0) is comes.1 refl through (goes let_go through) in Gone (omega (arith, made))
go-step p h (BlockRead block) is comes goes = λ let_go through.
    let made = work-gone p h (want.LogRead comes.0) is comes.1 refl through (goes let_go through) in Gone (omega (arith, made))
go-step p h (ActFailed tried n) is comes goes = λ let_go through.
    let made = work-gone p h tried is comes.0 (fails-work tried comes.1) through (goes let_go through) in Gone (omega (arith, made))
go-step p h (EndedAs reason) is comes goes = absurd comes
go-step p h e is comes goes = λ let_go through.
    let made = work-gone p h (next p h) is refl (ap is_work comes) through (goes let_go through) in Gone (omega (arith, made))

-- after DECIDE THROUGH a through stands in its place
pub goes-on : (p : Settings) (h : List Event) → IsHistory p h → GoesOn p h
goes-on p h is = induct GoesOn (λ p. λ let_go through. absurd (cc)) (λ p. λ let_go through. absurd (cc)) go-step p h is
