-- What a seat keeps beside its job, after an answer; and an alternate has no sign-off due.
use Rattle.std.proofs.Common.{◌≡◌, List, ◌∷◌, ℕ, None, refl}
use Rattle.xrf_history.specs.declared.answer.Answer.{Answer}
use Rattle.xrf_history.specs.declared.answer.Answer.TheVariants as answer
use Rattle.xrf_history.specs.declared.settings.Settings.{Settings}
use Rattle.xrf_history.specs.declared.want.Want.{Want}
use Rattle.xrf_history.specs.declared.want.Want.TheVariants as want
use Rattle.xrf_history.specs.Answers.{event, event_by, made, gate_event}
use Rattle.xrf_history.specs.Events.{Event}
use Rattle.xrf_history.specs.Looking.{record_seen}
use Rattle.xrf_history.specs.Next.{next}
use Rattle.xrf_history.specs.Reserving.{sign_off_due}
use Rattle.xrf_history.specs.Restarting.{has_read_block}
use Rattle.xrf_active.specs.Promoting.{WasAlternate}
use Rattle.xrf_active.proofs.Alternates.{tells_nothing}
use Rattle.xrf_world.specs.Seats.{seen_after, read_after}

-- an act that is answered by the tick alone looks at no record and reads no block
made-sees : (w : Want) (h : List Event) → record_seen (made w ∷ h) ≡ record_seen h
made-sees want.Reserve h = refl
made-sees _ h = refl

made-reads : (w : Want) (h : List Event) → has_read_block (made w ∷ h) ≡ has_read_block h
made-reads want.Reserve h = refl
made-reads _ h = refl

gate-sees : (w : Want) (gate : ℕ) (h : List Event) → record_seen (gate_event w gate ∷ h) ≡ record_seen h
gate-sees (want.KpRead place) gate h = refl
gate-sees _ gate h = refl

gate-reads : (w : Want) (gate : ℕ) (h : List Event) → has_read_block (gate_event w gate ∷ h) ≡ has_read_block h
gate-reads (want.KpRead place) gate h = refl
gate-reads _ gate h = refl

sees : (p : Settings) (h : List Event) (w : Want) (a : Answer) → record_seen (event_by p h w a ∷ h) ≡ seen_after a (record_seen h)
sees p h w (answer.Done at) = made-sees w h
sees p h w (answer.Gate gate) = gate-sees w gate h
sees p h w _ = refl

reads : (p : Settings) (h : List Event) (w : Want) (a : Answer) → has_read_block (event_by p h w a ∷ h) ≡ read_after a (has_read_block h)
reads p h w (answer.Done at) = made-reads w h
reads p h w (answer.Gate gate) = gate-reads w gate h
reads p h w _ = refl

-- the record that a job saw last, and whether it has read a block, once it is handed an answer
pub event_sees : (p : Settings) (h : List Event) (a : Answer) → record_seen (event p h a ∷ h) ≡ seen_after a (record_seen h)
event_sees p h a = sees p h (next p h) a

pub event_reads : (p : Settings) (h : List Event) (a : Answer) → has_read_block (event p h a ∷ h) ≡ read_after a (has_read_block h)
event_reads p h a = reads p h (next p h) a

-- no sign-off is due for an alternate
pub no_sign_off : (h : List Event) → WasAlternate h → sign_off_due h ≡ None
no_sign_off h was = (tells_nothing h was).4
