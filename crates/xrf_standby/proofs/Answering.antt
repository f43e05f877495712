-- The answers that an alternate takes, and what they make of it.
use Rattle.std.proofs.Common.{◌≡◌, ℕ, Bool, true, false, List, ◌∷◌, None, refl, ap, sym, subst}
use Rattle.xrf_base.specs.declared.items.Item.{Item}
use Rattle.xrf_exit.specs.declared.ExitAnswer.{ExitAnswer}
use Rattle.xrf_history.specs.declared.settings.Settings.{Settings}
use Rattle.xrf_history.specs.declared.want.Want.{Want}
use Rattle.xrf_history.specs.declared.want.Want.TheVariants as want
use Rattle.xrf_history.specs.declared.answer.Answer.{Answer}
use Rattle.xrf_history.specs.declared.answer.Answer.TheVariants as answer
use Rattle.xrf_history.specs.Events.{Event, ActFailed}
use Rattle.xrf_history.specs.Holding.{is_owner}
use Rattle.xrf_history.specs.Next.{next}
use Rattle.xrf_history.specs.Accepting.{may_take}
use Rattle.xrf_history.specs.Answers.{event, fits, made, may_fail}
use Rattle.xrf_history.specs.Working.{item_answer}
use Rattle.xrf_active.specs.Promoting.{WasAlternate}
use Rattle.xrf_active.proofs.Alternates.{no_notice}
use Rattle.xrf_active.proofs.Taken.{gate-answer}
use Rattle.xrf_standby.specs.declared.alternate.Alternate.{Alternate}
use Rattle.xrf_standby.specs.Alternate.{Stands}
use Rattle.xrf_standby.proofs.Acts.{is_act, next_act}

-- The answers that an alternate takes: none of an act of an owner, no ABEND and no EXIT.
abbrev pub is_taken : Answer → Bool
is_taken (answer.LogBlock block) = false
is_taken (answer.Anchored block keys) = false
is_taken (answer.Gate gate) = false
is_taken (answer.FileSlot slot) = false
is_taken (answer.Item item) = false
is_taken (answer.Exit said at) = false
is_taken answer.Abend = false
is_taken _ = true

-- what is handed of an act of an owner fits none of an alternate
no-block : (p : Settings) (h : List Event) (w : Want) (block : List ℕ) → is_act w ≡ true → fits p h w (answer.LogBlock block) ≡ false
no-block p h (want.LogRead place) block act = absurd (cc)
no-block p h _ block act = refl

no-anchors : (p : Settings) (h : List Event) (w : Want) (block keys : List ℕ) → is_act w ≡ true → fits p h w (answer.Anchored block keys) ≡ false
no-anchors p h (want.LogRead place) block keys act = absurd (cc)
no-anchors p h _ block keys act = refl

no-gate : (p : Settings) (h : List Event) (w : Want) (gate : ℕ) → is_act w ≡ true → fits p h w (answer.Gate gate) ≡ false
no-gate p h (want.LogLook place) gate act = absurd (cc)
no-gate p h (want.KpRead place) gate act = absurd (cc)
no-gate p h _ gate act = refl

no-record : (p : Settings) (h : List Event) (w : Want) (slot : List ℕ) → is_act w ≡ true → fits p h w (answer.FileSlot slot) ≡ false
no-record p h (want.FileRead rrn) slot act = absurd (cc)
no-record p h _ slot act = refl

no-item : (p : Settings) (h : List Event) (w : Want) (item : Item) → is_act w ≡ true → fits p h w (answer.Item item) ≡ false
no-item p h want.Item item act = absurd (cc)
no-item p h _ item act = refl

-- and no choice fits an act
no-exit : (p : Settings) (h : List Event) (w : Want) (said : ExitAnswer) (at : ℕ) → fits p h w (answer.Exit said at) ≡ false
no-exit p h want.Nothing said at = refl
no-exit p h _ said at = refl

no-abend : (p : Settings) (h : List Event) (w : Want) → fits p h w answer.Abend ≡ false
no-abend p h want.Nothing = refl
no-abend p h _ = refl

-- no other answer is handed to it
pub not_handed : (p : Settings) (h : List Event) (a : Answer) → WasAlternate h → is_owner h ≡ false → is_taken a ≡ false → may_take p h a ≡ false
not_handed p h (answer.LogBlock block) was alt is = no-block p h (next p h) block (next_act p h was alt)
not_handed p h (answer.Anchored block keys) was alt is = no-anchors p h (next p h) block keys (next_act p h was alt)
not_handed p h (answer.Gate gate) was alt is = no-gate p h (next p h) gate (next_act p h was alt)
not_handed p h (answer.FileSlot slot) was alt is = no-record p h (next p h) slot (next_act p h was alt)
not_handed p h (answer.Item item) was alt is = no-item p h (next p h) item (next_act p h was alt)
not_handed p h (answer.Exit said at) was alt is = rw (no_notice h was) (no-exit p h (next p h) said at)
not_handed p h answer.Abend was alt is = rw alt (no-abend p h (next p h))
not_handed p h _ was alt is = absurd (cc)

-- the act of an alternate that may fail is the read of a message slot
pub fails_reading : (w : Want) → is_act w ≡ true → may_fail w ≡ true → (place : ℕ) × (w ≡ want.MsgRead place)
fails_reading (want.MsgRead place) act fails = (place, refl)
fails_reading _ act fails = absurd (cc)

-- none of its acts ends an item
made-none : (p : Settings) (h : List Event) (w : Want) → is_act w ≡ true → item_answer p (made w ∷ h) ≡ None
made-none p h (want.LogOpen place rec) act = absurd (cc)
made-none p h (want.FileWrite unit rrn value) act = absurd (cc)
made-none p h _ act = refl

pub ends_none : (p : Settings) (h : List Event) (a : Answer) → WasAlternate h → is_owner h ≡ false → may_take p h a ≡ true → item_answer p (event p h a ∷ h) ≡ None
ends_none p h (answer.Done at) was alt may = made-none p h (next p h) (next_act p h was alt)
ends_none p h (answer.Gate gate) was alt may = gate-answer p h (next p h) gate
ends_none p h (answer.FileSlot slot) was alt may = absurd (cc (not_handed p h (answer.FileSlot slot) was alt refl, may))
ends_none p h (answer.Item item) was alt may = absurd (cc (not_handed p h (answer.Item item) was alt refl, may))
ends_none p h _ was alt may = refl

pub refused : (p : Settings) (h : List Event) (a b : Answer) → a ≡ b → WasAlternate h → is_owner h ≡ false → is_taken b ≡ false → may_take p h a ≡ true → ⊥
refused p h a b same was alt is may = cc (not_handed p h b was alt is, ap (may_take p h) same, may)

-- a job that stands after an answer stands after the same answer
pub taken : (job : Alternate) (p : Settings) (h : List Event) (a b : Answer) → a ≡ b → Stands job (event p h b ∷ h) → Stands job (event p h a ∷ h)
taken job p h a b same stands = subst (λ (x : Answer). Stands job (event p h x ∷ h)) (sym same) stands

-- after an act that failed it stands after the same act
pub failed-act : (job : Alternate) (h : List Event) (at : ℕ) (tried act : Want) → act ≡ tried → Stands job (ActFailed tried at ∷ h) → Stands job (ActFailed act at ∷ h)
failed-act job h at tried act same stands = subst (λ (w : Want). Stands job (ActFailed w at ∷ h)) (sym same) stands
