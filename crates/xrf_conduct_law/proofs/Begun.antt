-- What is begun at a boundary comes inside no sequence.
use Rattle.std.proofs.Common.{◌≡◌, Bool, true, false, List, [], ◌∷◌, Option, Some, None, refl, sym, ap, ◌∙◌, arith, if◌then◌else◌}
use Rattle.std.proofs.lemmas.Grind.{common_steps}
use Rattle.xrf_history.specs.declared.settings.Settings.{Settings}
use Rattle.xrf_history.specs.declared.want.Want.{Want}
use Rattle.xrf_history.specs.declared.want.Want.TheVariants as want
use Rattle.xrf_history.specs.Events.{Event, Ticked, Abended, Replied, Commanded, Exited, MessageRead, MessageClosed, LogLooked, LogClosed, LogOpened, KeyLooked, RecordRead, RecordUndone, Given, ControlRead, Released}
use Rattle.xrf_history.specs.Rows.{boundary}
use Rattle.xrf_history.specs.Next.{inside, next, or_boundary}

-- a round, other work, and a line of the command list
abbrev pub is_begun : Want → Bool
is_begun (want.Signal1 signal) = true
is_begun (want.MsgRead k) = true
is_begun (want.LogRead b) = true
is_begun (want.KpRead k) = true
is_begun want.Item = true
is_begun want.Restarted = true
is_begun (want.Clt k) = true
is_begun _ = false

abbrev pub is_begun_of : Option Want → Bool
is_begun_of None = false
is_begun_of (Some w) = is_begun w

-- none of it is begun inside a sequence
pub inside-begins : (p : Settings) (h : List Event) → is_begun_of (inside p h) ≡ false
inside-begins p [] = refl
inside-begins p (Ticked ∷ h) = inside-begins p h
inside-begins p (Abended ∷ h) = inside-begins p h
inside-begins p (Replied go at ∷ h) = inside-begins p h
inside-begins p (Commanded command at ∷ h) = inside-begins p h
inside-begins p (Exited answer at ∷ h) = inside-begins p h
inside-begins p (MessageRead k slot ∷ h) = grind (arith, common_steps)
inside-begins p (MessageClosed k ∷ h) = grind (arith, common_steps)
inside-begins p (LogLooked k gate ∷ h) = grind (arith, common_steps)
inside-begins p (LogClosed k ∷ h) = grind (arith, common_steps)
inside-begins p (LogOpened k rec ∷ h) = grind (arith, common_steps)
inside-begins p (KeyLooked k gate ∷ h) = grind (arith, common_steps)
inside-begins p (RecordRead k slot ∷ h) = grind (arith, common_steps)
inside-begins p (RecordUndone k before ∷ h) = grind (arith, common_steps)
inside-begins p (Given item ∷ h) = grind (arith, common_steps)
inside-begins p (ControlRead held known ∷ h) = grind (arith, common_steps)
inside-begins p (Released ∷ h) = grind (arith, common_steps)
inside-begins p (e ∷ h) = refl

-- so where it is next it is the act at the boundary
pub begins-at : (p : Settings) (h : List Event) (w : Want) → next p h ≡ w → is_begun w ≡ true → boundary p h ≡ w
begins-at p h w is begun = by (inside p h) (inside-begins p h) is
  where
    by : (o : Option Want) → is_begun_of o ≡ false → or_boundary p h o ≡ w → boundary p h ≡ w
    by None none is = is
    by (Some v) none is = absurd (cc (sym (ap is_begun is ∙ begun) ∙ none))
