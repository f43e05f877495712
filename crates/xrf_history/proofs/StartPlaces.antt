-- From DECIDE START on: where the start stands, by the count of acts.
use Rattle.std.proofs.Common.{Bool, false, true, None, Option, ◌≡◌, ℕ, suc, List, Some, arith, ap, ◌∙◌, sym, ◌+◌, inl, inr, ◌⊎◌, refl, ◌∷◌}
use Rattle.std.proofs.lemmas.Grind.{common_steps}
use Rattle.xrf_ctl.specs.declared.parts.Cause.{Cause}
use Rattle.xrf_ctl.specs.Control.{ControlRecord}
use Rattle.xrf_cavm.specs.declared.decisions.Decided.{Decided}
use Rattle.xrf_cavm.specs.declared.known.Known.{Known}
use Rattle.xrf_history.proofs.Phases.{Held, Phase, Outside, phase, is_work, may_reserve, released, may_release}
use Rattle.xrf_history.specs.declared.want.EndWhy.{EndWhy}
use Rattle.xrf_history.specs.declared.want.Want.{Want}
use Rattle.xrf_history.specs.Events.{Event, Reserved, ControlRead, ControlWritten, Released, Abended, ActFailed, BlockRead, Commanded, DecisionMade, EndedAs, Exited, FirstBlockRead, Replied, StartedActive, StartedStandby, Ticked}
use Rattle.xrf_history.specs.declared.settings.Settings.{Settings}
use Rattle.xrf_history.specs.Progress.{has_read_since_decision, made_since_decision, made_since_read, has_read}
use Rattle.xrf_history.specs.Next.{inside, next, or_boundary, after_release}
use Rattle.xrf_history.specs.Holding.{is_owner}
use Rattle.xrf_history.specs.Reserving.{last_decision, leaves, open_decision, start_in, start_due, purpose}
use Rattle.xrf_history.specs.Rows.{lines_left, boundary}
use Rattle.xrf_history.proofs.Starting.{AreRuled, Before, Since, StartsAt, nothing-due, start-cause, start-reads, starts}
use Rattle.xrf_history.proofs.Histories.{IsHistory, Comes, induct}
use Rattle.xrf_history.proofs.PhaseLaws.{work-phase, reserve-phase, read-phase, write-phase, releases-phase, fails-work}
use Rattle.xrf_history.proofs.Rounds.{decides-lines}
use Rattle.xrf_history.specs.declared.want.Want.TheVariants as want

-- where a start stands
abbrev is_held : Phase → Bool
is_held Held = true
is_held _ = false

-- before the RESERVE
pub record Ready (made : ℕ) (act : Option Want) (owner lines : Bool) (left : Option EndWhy) (opened last : Option Decided) (since : Bool) (f : Phase) : Type 0 where
  pub none_made : made ≡ 0
  pub at : act ≡ None
  pub no_owner : owner ≡ false
  pub no_lines : lines ≡ false
  pub none_left : left ≡ None
  pub same : opened ≡ last
  pub unread : since ≡ false
  pub outside : f ≡ Outside

-- where a start stands: at the decision, at RESERVE, or behind its CTLREAD
pub data Place (made count : ℕ) (act : Option Want) (owner lines : Bool) (left : Option EndWhy) (opened last : Option Decided) (since : Bool)
    (f : Phase) : Type 0 where
  AtDecision : Ready made act owner lines left opened last since f → Place made count act owner lines left opened last since f
  AtReserve : made ≡ 1 → f ≡ Held → since ≡ false → Place made count act owner lines left opened last since f
  AfterRead : made ≡ suc (suc count) → is_held f ≡ false → since ≡ true → Place made count act owner lines left opened last since f

-- of a history
abbrev pub PlaceOf : Settings → List Event → Type 0
PlaceOf p h =
    Place (made_since_decision h) (made_since_read h) (inside p h) (is_owner h) (lines_left p h) (leaves h) (open_decision h) (last_decision h)
    (has_read_since_decision h) (phase p h)

-- after DECIDE START
abbrev IsPlaced : Settings → List Event → Type 0
IsPlaced p h = AreRuled h → (why : Cause) → start_in (last_decision h) ≡ Some why → PlaceOf p h

-- at the decision RESERVE is next at a boundary
ready-boundary : (p : Settings) (h : List Event) (why : Cause) → is_owner h ≡ false → lines_left p h ≡ false → leaves h ≡ None
    → start_due h ≡ Some why → boundary p h ≡ want.Reserve
ready-boundary p h why no_owner no_lines none_left due = grind (arith, common_steps)

-- at the decision RESERVE is next
pub ready-reserves : (p : Settings) (h : List Event) (why : Cause) → start_in (last_decision h) ≡ Some why
    → Ready (made_since_decision h) (inside p h) (is_owner h) (lines_left p h) (leaves h) (open_decision h) (last_decision h)
    (has_read_since_decision h) (phase p h) → next p h ≡ want.Reserve
ready-reserves p h why last ready =
    ap (or_boundary p h) ready.at ∙ ready-boundary p h why ready.no_owner ready.no_lines ready.none_left (ap start_in ready.same ∙ last)

-- work comes only behind the CTLREAD
work-place : (p : Settings) (h : List Event) (e : Event) (w : Want) (why : Cause) → IsHistory p h → next p h ≡ w → is_work w ≡ true
    → start_in (last_decision h) ≡ Some why → PlaceOf p h
    → (made_since_decision h ≡ suc (suc (made_since_read h))) × (has_read_since_decision h ≡ true) × (is_held (phase p h) ≡ false)
work-place p h e w why is comes work last (AtDecision ready) = absurd (cc (sym (ap is_work (sym (ready-reserves p h why last ready) ∙ comes) ∙ work)))
work-place p h e w why is comes work last (AtReserve made at unread) = absurd (cc (sym at ∙ work-phase p h is (ap is_work comes ∙ work)))
work-place p h e w why is comes work last (AfterRead made free since) = (made, since, free)

-- one act more
one-more : (made count : ℕ) → made ≡ suc (suc count) → made + 1 ≡ suc (suc (count + 1))
one-more made count is = omega (arith, is)

-- a second RESERVE would come of nothing
no-second : (p : Settings) (h : List Event) (why : Cause) → IsHistory p h → next p h ≡ want.Reserve → has_read_since_decision h ≡ true
    → start_in (last_decision h) ≡ Some why → StartsAt p h why
    → ⊥
no-second p h why is comes since last at = by at.at
  where
    by : (Before (open_decision h) (last_decision h) (has_read_since_decision h) (phase p h) ⊎ Since (open_decision h) (has_read_since_decision h)
        (has_read h) (purpose h) why) → ⊥
    by (inl before) = absurd (cc (sym before.unread ∙ since))
    by (inr rest) = nothing-due p h why is comes at rest.none

-- after the RESERVE
reserved-place : (p : Settings) (h : List Event) (why : Cause) → IsHistory p h → next p h ≡ want.Reserve → start_in (last_decision h) ≡ Some why
    → StartsAt p h why → PlaceOf p h
    → PlaceOf p (Reserved ∷ h)
reserved-place p h why is comes last at (AtDecision ready) = AtReserve (omega (arith, ready.none_made)) refl ready.unread
reserved-place p h why is comes last at (AtReserve made held unread) = absurd (cc (sym (ap may_reserve held) ∙ reserve-phase p h is comes))
reserved-place p h why is comes last at (AfterRead made free since) = absurd (no-second p h why is comes since last at)

-- after the CTLREAD
read-place : (p : Settings) (h : List Event) (held : ControlRecord) (known : Known) (why : Cause) → IsHistory p h → next p h ≡ want.CtlRead
    → start_in (last_decision h) ≡ Some why → PlaceOf p h
    → PlaceOf p (ControlRead held known ∷ h)
read-place p h held known why is comes last (AtDecision ready) = absurd (cc (sym (ready-reserves p h why last ready) ∙ comes))
read-place p h held known why is comes last (AtReserve made at unread) = AfterRead (omega (arith, made)) refl refl
read-place p h held known why is comes last (AfterRead made free since) = absurd (cc (sym free ∙ ap is_held (read-phase p h is comes)))

-- after the CTLWRITE
write-place : (p : Settings) (h : List Event) (w : ControlRecord) (why : Cause) → IsHistory p h → next p h ≡ want.CtlWrite w
    → start_in (last_decision h) ≡ Some why → PlaceOf p h
    → PlaceOf p (ControlWritten w ∷ h)
write-place p h w why is comes last (AtDecision ready) = absurd (cc (sym (ready-reserves p h why last ready) ∙ comes))
write-place p h w why is comes last (AtReserve made at unread) = absurd (cc (sym at ∙ (write-phase p h w is comes).0))
write-place p h w why is comes last (AfterRead made free since) = AfterRead (one-more (made_since_decision h) (made_since_read h) made) refl since

-- after a RELEASE the reserve is not held
not-held : (o : Option Want) → is_held (released o) ≡ false
not-held None = refl
not-held (Some w) = refl

-- after the RELEASE
release-place : (p : Settings) (h : List Event) (why : Cause) → IsHistory p h → next p h ≡ want.Release → start_in (last_decision h) ≡ Some why
    → PlaceOf p h → PlaceOf p (Released ∷ h)
release-place p h why is comes last (AtDecision ready) = absurd (cc (sym (ready-reserves p h why last ready) ∙ comes))
release-place p h why is comes last (AtReserve made at unread) = absurd (cc (sym (ap may_release at) ∙ releases-phase p h is comes))
release-place p h why is comes last (AfterRead made free since) =
    AfterRead (one-more (made_since_decision h) (made_since_read h) made) (not-held (after_release p h)) since

-- each event keeps it
place-step : (p : Settings) (h : List Event) (e : Event) → IsHistory p h → Comes p h e → IsPlaced p h → IsPlaced p (e ∷ h)
place-step p h StartedActive is comes placed = absurd comes
place-step p h StartedStandby is comes placed = absurd comes
place-step p h Ticked is comes placed = placed
place-step p h Abended is comes placed = placed
place-step p h (Replied go n) is comes placed = placed
place-step p h (Commanded command n) is comes placed = placed
place-step p h (Exited answer n) is comes placed = placed
place-step p h (DecisionMade known n decision) is comes placed = λ ruled why last.
    let no_owner = start-cause p h known n decision why comes.1 last in
    AtDecision (record {
      none_made = refl;
      at = refl;
      no_owner = no_owner;
      no_lines = decides-lines p h is comes.0 no_owner;
      none_left = (start-reads decision why last).1;
      same = refl;
      unread = refl;
      outside = work-phase p h is (ap is_work comes.0);
    })
place-step p h Reserved is comes placed = λ ruled why last. reserved-place p h why is comes last (starts p h is ruled why last) (placed ruled why last)
place-step p h (ControlRead held known) is comes placed = λ ruled why last. read-place p h held known why is comes last (placed ruled.0 why last)
place-step p h (ControlWritten w) is comes placed = λ ruled why last. write-place p h w why is comes last (placed ruled why last)
place-step p h Released is comes placed = λ ruled why last. release-place p h why is comes last (placed ruled why last)
place-step p h (FirstBlockRead block keys) is comes placed = λ ruled why last.
    let now = work-place p h (FirstBlockRead block keys) (want.LogRead comes.0) why is comes.1 refl last (placed ruled why last) in AfterRead
    (one-more (made_since_decision h) (made_since_read h) now.0) now.2 now.1
place-step p h (BlockRead block) is comes placed = λ ruled why last.
    let now = work-place p h (BlockRead block) (want.LogRead comes.0) why is comes.1 refl last (placed ruled why last) in AfterRead
    (one-more (made_since_decision h) (made_since_read h) now.0) now.2 now.1
place-step p h (ActFailed tried n) is comes placed = λ ruled why last.
    let now = work-place p h (ActFailed tried n) tried why is comes.0 (fails-work tried comes.1) last (placed ruled why last) in AfterRead
    (one-more (made_since_decision h) (made_since_read h) now.0) now.2 now.1
place-step p h (EndedAs reason) is comes placed = absurd comes
place-step p h e is comes placed = λ ruled why last.
    let now = work-place p h e (next p h) why is refl (ap is_work comes) last (placed ruled why last) in AfterRead
    (one-more (made_since_decision h) (made_since_read h) now.0) now.2 now.1

-- after DECIDE START a start stands in its place
pub places : (p : Settings) (h : List Event) → IsHistory p h → IsPlaced p h
places p h is = induct IsPlaced (λ p. λ ruled why last. absurd (cc)) (λ p. λ ruled why last. absurd (cc)) place-step p h is
