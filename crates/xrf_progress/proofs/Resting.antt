-- Where a job rests nothing is inside, and an alternate has made its round and has nothing to reserve for.
use Rattle.std.proofs.Common.{◌≡◌, Bool, true, false, List, [], ◌∷◌, Option, Some, None, refl, ap, ◌∙◌, sym, arith}
use Rattle.std.proofs.lemmas.Grind.{common_steps}
use Rattle.xrf_base.specs.declared.site.Site.{Site}
use Rattle.xrf_history.specs.declared.settings.Settings.{Settings}
use Rattle.xrf_history.specs.declared.want.Want.{Want}
use Rattle.xrf_history.specs.declared.want.Want.TheVariants as want
use Rattle.xrf_history.specs.Events.{Event, Abended, Exited, Released, MessageRead, MessageClosed, LogLooked, LogClosed, LogOpened, KeyLooked, RecordRead, RecordUndone, Given, Ticked, Replied, Commanded, ControlRead}
use Rattle.xrf_history.specs.Holding.{is_granted, is_owner, has_started_takeover, is_tracking, is_waiting}
use Rattle.xrf_history.specs.Reserving.{leaves, open_decision, start_in, is_through_decision}
use Rattle.xrf_history.specs.Rows.{boundary, has_signalled, lines_left}
use Rattle.xrf_history.specs.Next.{inside, next, or_boundary}
use Rattle.xrf_trace.specs.declared.entry.Entry.{Entry}
use Rattle.xrf_trace.specs.Scenario.{Scen, settings}
use Rattle.xrf_trace.specs.Acts.{act_of}
use Rattle.xrf_progress.proofs.Rests.{signal-boundary}

-- the wants that may be no act
abbrev pub is_still : Want → Bool
is_still want.Nothing = true
is_still (want.Exit told) = true
is_still want.Item = true
is_still _ = false

-- such a want inside a sequence
abbrev pub is_still_of : Option Want → Bool
is_still_of None = false
is_still_of (Some w) = is_still w

-- none of them stands inside a sequence
inside-still : (p : Settings) (h : List Event) → is_still_of (inside p h) ≡ false
inside-still p [] = refl
inside-still p (Ticked ∷ h) = inside-still p h
inside-still p (Abended ∷ h) = inside-still p h
inside-still p (Replied go at ∷ h) = inside-still p h
inside-still p (Commanded command at ∷ h) = inside-still p h
inside-still p (Exited answer at ∷ h) = inside-still p h
inside-still p (ControlRead held known ∷ h) = grind (arith, common_steps)
inside-still p (Released ∷ h) = grind (arith, common_steps)
inside-still p (MessageRead place slot ∷ h) = grind (arith, common_steps)
inside-still p (MessageClosed place ∷ h) = grind (arith, common_steps)
inside-still p (LogLooked place gate ∷ h) = grind (arith, common_steps)
inside-still p (LogClosed place ∷ h) = grind (arith, common_steps)
inside-still p (LogOpened place rec ∷ h) = grind (arith, common_steps)
inside-still p (KeyLooked place gate ∷ h) = grind (arith, common_steps)
inside-still p (RecordRead rrn slot ∷ h) = grind (arith, common_steps)
inside-still p (RecordUndone rrn before ∷ h) = grind (arith, common_steps)
inside-still p (Given item ∷ h) = grind (arith, common_steps)
inside-still p (_ ∷ h) = refl

-- an act is next but for those
pub still-of : (s : Scen) (t : List Entry) (x : Site) (h : List Event) (w : Want) → act_of s t x h w ≡ None → is_still w ≡ true
still-of s t x h w none = grind (arith, common_steps)

-- so at rest nothing stands inside
pub rests-outside : (s : Scen) (t : List Entry) (x : Site) (h : List Event) → act_of s t x h (next (settings s x) h) ≡ None
    → (inside (settings s x) h ≡ None) × (is_still (boundary (settings s x) h) ≡ true)
rests-outside s t x h none = by (inside (settings s x) h) (inside-still (settings s x) h) (still-of s t x h (next (settings s x) h) none)
  where
    by : (o : Option Want) → is_still_of o ≡ false → is_still (or_boundary (settings s x) h o) ≡ true → (o ≡ None) × (is_still (boundary (settings s x) h) ≡ true)
    by None inner still = (refl, still)
    by (Some w) inner still = absurd (cc (sym inner ∙ still))

-- there an alternate does not leave
pub still-stays : (p : Settings) (h : List Event) → is_owner h ≡ false → is_still (boundary p h) ≡ true → leaves h ≡ None
still-stays p h no_owner still = grind (arith, common_steps)

-- it starts nothing
pub still-start : (p : Settings) (h : List Event) → is_owner h ≡ false → is_still (boundary p h) ≡ true → start_in (open_decision h) ≡ None
still-start p h no_owner still = grind (arith, common_steps)

-- it goes through nothing
pub still-through : (p : Settings) (h : List Event) → is_owner h ≡ false → is_still (boundary p h) ≡ true → is_through_decision (open_decision h) ≡ false
still-through p h no_owner still = grind (arith, common_steps)

-- with a line that is left it does not rest
line-boundary : (p : Settings) (h : List Event) → is_owner h ≡ false → lines_left p h ≡ true → is_still (boundary p h) ≡ false
line-boundary p h no_owner left = grind (arith, common_steps)

-- it has made its SIGNAL1 in this tick
pub still-signalled : (p : Settings) (h : List Event) → is_granted h ≡ true → is_owner h ≡ false → is_still (boundary p h) ≡ true → has_signalled h ≡ true
still-signalled p h granted no_owner still = by (has_signalled h) (lines_left p h) refl refl
  where
    by : (b c : Bool) → has_signalled h ≡ b → lines_left p h ≡ c → b ≡ true
    by true c is left = refl
    by false true is left = absurd (cc (sym (line-boundary p h no_owner left) ∙ still))
    by false false is left =
        absurd
        (cc (
        sym still ∙ ap is_still (signal-boundary p h granted no_owner is (still-stays p h no_owner still) (still-start p h no_owner still)
        (still-through p h no_owner still) left)
        ))

-- one that tracks holds a number
pub tracks-granted : (h : List Event) → is_tracking h ≡ true → is_granted h ≡ true
tracks-granted h tracks = grind (arith, common_steps)

-- it is no owner
pub tracks-no_owner : (h : List Event) → is_tracking h ≡ true → is_owner h ≡ false
tracks-no_owner h tracks = grind (arith, common_steps)

-- it has not started a takeover
pub tracks-not_started : (h : List Event) → is_tracking h ≡ true → has_started_takeover h ≡ false
tracks-not_started h tracks = grind (arith, common_steps)

-- one that waits holds a number
pub waits-granted : (h : List Event) → is_waiting h ≡ true → is_granted h ≡ true
waits-granted h waits = grind (arith, common_steps)

-- it is no owner
pub waits-no_owner : (h : List Event) → is_waiting h ≡ true → is_owner h ≡ false
waits-no_owner h waits = grind (arith, common_steps)

-- it has started a takeover
pub waits-started : (h : List Event) → is_waiting h ≡ true → has_started_takeover h ≡ true
waits-started h waits = grind (arith, common_steps)
