-- What stands inside a sequence, and where ENDED does.
use Rattle.std.proofs.Common.{◌≡◌, Bool, true, false, List, [], ◌∷◌, Option, Some, None, refl, ap, ◌∙◌, sym, subst, arith}
use Rattle.std.proofs.lemmas.Grind.{common_steps}
use Rattle.xrf_history.specs.declared.settings.Settings.{Settings}
use Rattle.xrf_history.specs.declared.want.Want.{Want}
use Rattle.xrf_history.specs.declared.want.Want.TheVariants as want
use Rattle.xrf_history.specs.Events.{Event, StartedActive, StartedStandby, Ticked, Abended, Replied, Commanded, Exited, Reserved, ControlRead, ControlWritten, Released, MessageRead, MessageClosed, LogLooked, LogClosed, LogOpened, KeyLooked, RecordRead, RecordUndone, Given}
use Rattle.xrf_history.specs.Holding.{is_granted}
use Rattle.xrf_history.specs.Next.{inside, after_release}
use Rattle.xrf_history.proofs.Histories.{IsHistory, Comes, induct}
use Rattle.xrf_history.proofs.OwnersWork.{is_owner_act}
use Rattle.xrf_history.proofs.Phases.{Phase, phase, NextIn, Fresh, Outside, Over, may_reserve, released, is_inner_of, is_end_of}
use Rattle.xrf_history.proofs.PhaseLaws.{phase-next, reserve-phase, next-inside}

-- what stands inside a sequence: an act of a round, one on the control data set, ENDED, or one of an owner
abbrev pub is_kind : Want → Bool
is_kind (want.Signal2 signal) = true
is_kind want.Look1 = true
is_kind want.Look2 = true
is_kind want.Decide = true
is_kind want.Reserve = true
is_kind want.CtlRead = true
is_kind (want.CtlWrite written) = true
is_kind want.Release = true
is_kind (want.Ended reason) = true
is_kind w = is_owner_act w

-- so it is of what stands inside
abbrev pub is_kind_of : Option Want → Bool
is_kind_of None = true
is_kind_of (Some w) = is_kind w

-- **what stands inside a sequence is one of these**
pub inside-kind : (p : Settings) (h : List Event) → is_kind_of (inside p h) ≡ true
inside-kind p [] = refl
inside-kind p (Ticked ∷ h) = inside-kind p h
inside-kind p (Abended ∷ h) = inside-kind p h
inside-kind p (Replied go at ∷ h) = inside-kind p h
inside-kind p (Commanded command at ∷ h) = inside-kind p h
inside-kind p (Exited answer at ∷ h) = inside-kind p h
inside-kind p (ControlRead held known ∷ h) = grind (arith, common_steps)
inside-kind p (Released ∷ h) = grind (arith, common_steps)
inside-kind p (MessageRead place slot ∷ h) = grind (arith, common_steps)
inside-kind p (MessageClosed place ∷ h) = grind (arith, common_steps)
inside-kind p (LogLooked place gate ∷ h) = grind (arith, common_steps)
inside-kind p (LogClosed place ∷ h) = grind (arith, common_steps)
inside-kind p (LogOpened place rec ∷ h) = grind (arith, common_steps)
inside-kind p (KeyLooked place gate ∷ h) = grind (arith, common_steps)
inside-kind p (RecordRead rrn slot ∷ h) = grind (arith, common_steps)
inside-kind p (RecordUndone rrn before ∷ h) = grind (arith, common_steps)
inside-kind p (Given item ∷ h) = grind (arith, common_steps)
inside-kind p (_ ∷ h) = refl

-- RESERVE stands inside only before the first one
abbrev IsFree : Settings → List Event → Type 0
IsFree p h = phase p h ≡ Fresh → is_granted h ≡ false

-- each event keeps that one before its first RESERVE holds no number
free-step : (p : Settings) (h : List Event) (e : Event) → IsHistory p h → Comes p h e → IsFree p h → IsFree p (e ∷ h)
free-step p h (ControlWritten w) is comes free = λ fresh. absurd (cc)
free-step p h (ControlRead held known) is comes free = λ fresh. absurd (cc)
free-step p h Reserved is comes free = λ fresh. absurd (cc)
free-step p h Released is comes free = λ fresh. absurd (not-fresh (inside p (Released ∷ h)) fresh)
  where
    not-fresh : (o : Option Want) → released o ≡ Fresh → ⊥
    not-fresh None same = absurd (cc)
    not-fresh (Some w) same = absurd (cc)
free-step p h StartedActive is comes free = absurd comes
free-step p h StartedStandby is comes free = absurd comes
free-step p h _ is comes free = free

-- one before its first RESERVE holds no number
fresh-free : (p : Settings) (h : List Event) → IsHistory p h → phase p h ≡ Fresh → is_granted h ≡ false
fresh-free p h is = induct IsFree (λ p fresh. refl) (λ p fresh. refl) free-step p h is

-- one that holds a number has no RESERVE inside
pub not-reserve : (p : Settings) (h : List Event) → IsHistory p h → is_granted h ≡ true → inside p h ≡ Some want.Reserve → ⊥
not-reserve p h is granted inner = by (phase p h) refl (reserve-phase p h is (next-inside p h want.Reserve inner))
  where
    by : (f : Phase) → phase p h ≡ f → may_reserve f ≡ true → ⊥
    by Fresh at may = absurd (cc (sym (fresh-free p h is at) ∙ granted))
    by Outside at may = outer (inside p h) (subst (NextIn p h) at (phase-next p h is)) inner
      where
        outer : (o : Option Want) → is_inner_of o ≡ true → o ≡ Some want.Reserve → ⊥
        outer o inner is = absurd (cc (sym inner ∙ ap is_inner_of is))
    by _ at may = absurd (cc)

-- after a RELEASE that ENDED follows a job is over
over-of : (o : Option Want) → is_end_of o ≡ true → released o ≡ Over
over-of None is = absurd (cc)
over-of (Some w) is = refl

-- no other event has ENDED after it
not-end : (o : Option Want) → is_end_of o ≡ false → is_end_of o ≡ true → ⊥
not-end o none is = absurd (cc (sym none ∙ is))

-- **where ENDED stands inside a job is over**
pub end-over : (p : Settings) (h : List Event) → is_end_of (inside p h) ≡ true → phase p h ≡ Over
end-over p [] is = absurd (cc)
end-over p (Ticked ∷ h) is = end-over p h is
end-over p (Abended ∷ h) is = end-over p h is
end-over p (Replied go at ∷ h) is = end-over p h is
end-over p (Commanded command at ∷ h) is = end-over p h is
end-over p (Exited answer at ∷ h) is = end-over p h is
end-over p (ControlRead held known ∷ h) is = absurd (not-end (inside p (ControlRead held known ∷ h)) (grind (arith, common_steps)) is)
end-over p (Released ∷ h) is = over-of (after_release p h) is
end-over p (MessageRead place slot ∷ h) is = absurd (not-end (inside p (MessageRead place slot ∷ h)) (grind (arith, common_steps)) is)
end-over p (MessageClosed place ∷ h) is = absurd (not-end (inside p (MessageClosed place ∷ h)) (grind (arith, common_steps)) is)
end-over p (LogLooked place gate ∷ h) is = absurd (not-end (inside p (LogLooked place gate ∷ h)) (grind (arith, common_steps)) is)
end-over p (LogClosed place ∷ h) is = absurd (not-end (inside p (LogClosed place ∷ h)) (grind (arith, common_steps)) is)
end-over p (LogOpened place rec ∷ h) is = absurd (not-end (inside p (LogOpened place rec ∷ h)) (grind (arith, common_steps)) is)
end-over p (KeyLooked place gate ∷ h) is = absurd (not-end (inside p (KeyLooked place gate ∷ h)) (grind (arith, common_steps)) is)
end-over p (RecordRead rrn slot ∷ h) is = absurd (not-end (inside p (RecordRead rrn slot ∷ h)) (grind (arith, common_steps)) is)
end-over p (RecordUndone rrn before ∷ h) is = absurd (not-end (inside p (RecordUndone rrn before ∷ h)) (grind (arith, common_steps)) is)
end-over p (Given item ∷ h) is = absurd (not-end (inside p (Given item ∷ h)) (grind (arith, common_steps)) is)
end-over p (_ ∷ h) is = absurd (cc)
