-- Of an alternate nothing is due that is due of an owner.
use Rattle.std.proofs.Common.{◌≡◌, ℕ, Bool, true, false, List, ◌∷◌, Option, None, refl, ap, ◌∙◌, sym, arith}
use Rattle.std.proofs.lemmas.Grind.{common_steps}
use Rattle.xrf_ctl.specs.declared.parts.OwnerState.{OwnerState}
use Rattle.xrf_cavm.specs.Record.{is_owner as names_owner}
use Rattle.xrf_cavm.specs.declared.known.Known.{Known}
use Rattle.xrf_cavm.specs.declared.decisions.Decided.{Decided}
use Rattle.xrf_exit.specs.declared.Notice.{Notice}
use Rattle.xrf_history.specs.declared.settings.Settings.{Settings}
use Rattle.xrf_history.specs.declared.want.Want.{Want}
use Rattle.xrf_history.specs.Events.{Event, StartedActive, StartedStandby, Abended, Exited, Reserved, ControlWritten, Released, DecisionMade, Given, RestartDeclared, ActFailed, EndedAs}
use Rattle.xrf_history.specs.Holding.{number, is_owner, is_restarted}
use Rattle.xrf_history.specs.Notices.{notice, notice_in, is_drop}
use Rattle.xrf_history.specs.Reserving.{sign_off_due, drop_due, purpose, purpose_now}
use Rattle.xrf_exit.specs.declared.ExitAnswer.{ExitAnswer}
use Rattle.xrf_history.specs.Accepting.{may_abend, exit_allowed}
use Rattle.xrf_history.specs.Deciding.{cause}
use Rattle.xrf_history.specs.Next.{next}
use Rattle.xrf_history.proofs.Histories.{IsHistory, Comes, induct}
use Rattle.xrf_history.proofs.OwnersWork.{owner_acts, is_owner_act}
use Rattle.xrf_history.proofs.News.{or-none}

-- nothing of an owner is due of one that is none
pub record Clean (off : Option OwnerState) (told : Option Notice) (drop restarted drops : Bool) : Type 0 where
  pub no_off : off ≡ None
  pub no_told : told ≡ None
  pub no_drop : drop ≡ false
  pub fresh : restarted ≡ false
  pub drops_none : drops ≡ false

-- of a history
abbrev pub CleanOf : List Event → Type 0
CleanOf h = Clean (sign_off_due h) (notice h) (drop_due h) (is_restarted h) (is_drop (purpose h))

-- so it is of an alternate
abbrev IsClean : Settings → List Event → Type 0
IsClean p h = is_owner h ≡ false → CleanOf h

-- it is told nothing by what it decides
told-none : (p : Settings) (h : List Event) (known : Known) (at : ℕ) (d : Decided) → is_owner h ≡ false → d ≡ cause p h known at → notice h ≡ None
    → notice_in d (notice h) ≡ None
told-none p h known at d no_owner made none = grind (arith, common_steps)

-- nor by a RELEASE
released-none : (h : List Event) → is_drop (purpose h) ≡ false → notice h ≡ None → notice (Released ∷ h) ≡ None
released-none h drops none = grind (arith, common_steps)

-- it reserves for no drop
reserved-none : (h : List Event) → is_owner h ≡ false → is_drop (purpose_now h) ≡ false
reserved-none h no_owner = grind (arith, common_steps)

-- a failed act of it brings no sign-off
failed-none : (h : List Event) (tried : Want) (at : ℕ) → is_owner h ≡ false → sign_off_due h ≡ None → sign_off_due (ActFailed tried at ∷ h) ≡ None
failed-none h tried at no_owner none = grind (arith, common_steps)

-- and no drop
failed-drops : (h : List Event) (tried : Want) (at : ℕ) → is_owner h ≡ false → drop_due h ≡ false → drop_due (ActFailed tried at ∷ h) ≡ false
failed-drops h tried at no_owner none = grind (arith, common_steps)

-- ABEND does not reach it
not-abend : (h : List Event) → is_owner h ≡ false → may_abend h ≡ true → ⊥
not-abend h no_owner may = grind (arith, common_steps)

-- nor does EXIT
not-exit : (told : Option Notice) (said : ExitAnswer) → told ≡ None → exit_allowed told said ≡ true → ⊥
not-exit told said none may = grind (arith, common_steps)

-- it makes no act of an owner
not-owner : (p : Settings) (h : List Event) → IsHistory p h → is_owner h ≡ false → is_owner_act (next p h) ≡ true → ⊥
not-owner p h is no_owner acts = absurd (cc (sym (owner_acts p h is acts) ∙ no_owner))

-- each event keeps it
clean-step : (p : Settings) (h : List Event) (e : Event) → IsHistory p h → Comes p h e → IsClean p h → IsClean p (e ∷ h)
clean-step p h StartedActive is comes clean = absurd comes
clean-step p h StartedStandby is comes clean = absurd comes
clean-step p h Abended is comes clean = λ none. absurd (not-abend h none comes)
clean-step p h (Exited said at) is comes clean = λ none. absurd (not-exit (notice h) said (clean none).no_told comes)
clean-step p h Reserved is comes clean = λ none.
    let c = clean none in
    record { no_off = c.no_off; no_told = c.no_told; no_drop = refl; fresh = c.fresh; drops_none = reserved-none h none }
clean-step p h (ControlWritten w) is comes clean = λ none. clean (or-none (is_owner h) (names_owner w (number (ControlWritten w ∷ h))) none)
clean-step p h Released is comes clean = λ none.
    let c = clean none in
    record { no_off = c.no_off; no_told = released-none h c.drops_none c.no_told; no_drop = c.no_drop; fresh = c.fresh; drops_none = c.drops_none }
clean-step p h (DecisionMade known at d) is comes clean = λ none.
    let c = clean none in
    record { no_off = c.no_off; no_told = told-none p h known at d none comes.1 c.no_told; no_drop = c.no_drop; fresh = c.fresh; drops_none = c.drops_none }
clean-step p h (Given item) is comes clean = λ none. absurd (not-owner p h is none (ap is_owner_act comes))
clean-step p h RestartDeclared is comes clean = λ none. absurd (not-owner p h is none (ap is_owner_act comes))
clean-step p h (ActFailed tried at) is comes clean = λ none.
    let c = clean none in
    record {
      no_off = failed-none h tried at none c.no_off;
      no_told = c.no_told;
      no_drop = failed-drops h tried at none c.no_drop;
      fresh = c.fresh;
      drops_none = c.drops_none;
    }
clean-step p h (EndedAs reason) is comes clean = absurd comes
clean-step p h _ is comes clean = clean

-- **of an alternate nothing is due that is due of an owner**
pub alternate-clean : (p : Settings) (h : List Event) → IsHistory p h → is_owner h ≡ false → CleanOf h
alternate-clean p h is =
    induct IsClean (λ p none. record { no_off = refl; no_told = refl; no_drop = refl; fresh = refl; drops_none = refl })
    (λ p none. record { no_off = refl; no_told = refl; no_drop = refl; fresh = refl; drops_none = refl }) clean-step p h is
