use Rattle.std.proofs.Common.{◌≡◌, ◌∷◌, ℕ, List, None, true, sym, subst}
use Rattle.xrf_history.specs.declared.answer.Answer.{Answer}
use Rattle.xrf_history.specs.Accepting.{may_take}
use Rattle.xrf_history.specs.declared.answer.Answer.TheVariants as answer
use Rattle.xrf_history.specs.Answers.{event, fits}
use Rattle.xrf_history.specs.Events.{FirstBlockRead}
use Rattle.xrf_history.specs.Working.{item_answer}
use Rattle.xrf_history.specs.Next.{next}
use Rattle.xrf_active.specs.Standing.{Stands}
use Rattle.xrf_active.specs.Taking.{HasSmallKeys}
use Rattle.xrf_active.proofs.Taken.{taken, gate-answer}
use Rattle.xrf_active.proofs.active.Active.handed.Goals as goal

pub first_block_handed-requires : goal.first_block_handed-requires
first_block_handed-requires c =
    let p = c.args.self.now.settings in
    let h = c.requires.can.0 in
    let can = c.requires.can.1 in
    let keys = c.in-Anchored.keys in
    let fitting = subst (λ (a : Answer). may_take p h a ≡ true) c.in-Anchored.is can.handed.fitting in
    let lent : fits p h (next p h) (answer.Anchored c.bytes-in-Anchored.result.now keys) ≡ true =
    subst (λ (bytes : List ℕ). fits p h (next p h) (answer.Anchored bytes keys) ≡ true) (sym c.bytes-in-Anchored.ensures) fitting in
    let small = subst (λ (a : Answer). HasSmallKeys a) c.in-Anchored.is can.handed.small_keys in
    (h, can.stands, can.handed.few, lent, small.0, small.1)

pub returns-in-Anchored-clause-stands : goal.returns-in-Anchored-clause-stands
returns-in-Anchored-clause-stands c = λ h can.
    let p = c.args.self.now.settings in
    let keys = c.in-Anchored.keys in
    let fitting = subst (λ (a : Answer). may_take p h a ≡ true) c.in-Anchored.is can.handed.fitting in
    let lent : fits p h (next p h) (answer.Anchored c.bytes-in-Anchored.result.now keys) ≡ true =
    subst (λ (bytes : List ℕ). fits p h (next p h) (answer.Anchored bytes keys) ≡ true) (sym c.bytes-in-Anchored.ensures) fitting in
    let small = subst (λ (a : Answer). HasSmallKeys a) c.in-Anchored.is can.handed.small_keys in
    taken _ p h _ _ c.in-Anchored.is (subst (λ (bytes : List ℕ). Stands c.first_block_handed.new.self (FirstBlockRead bytes keys ∷ h)) c.bytes-in-Anchored.ensures
    (c.first_block_handed.ensures.stands h can.stands lent small.0 small.1))

pub returns-in-Gate-clause-answer : goal.returns-in-Gate-clause-answer
returns-in-Gate-clause-answer c = λ h can.
    let p = c.args.self.now.settings in
    subst (λ (a : Answer). item_answer p (event p h a ∷ h) ≡ None) (sym c.in-Gate.is) (gate-answer p h (next p h) _)

pub returns-in-Failed-clause-stands : goal.returns-in-Failed-clause-stands
returns-in-Failed-clause-stands c = λ h can.
    let p = c.args.self.now.settings in
    let fails = subst (λ (a : Answer). may_take p h a ≡ true) c.in-Failed.is can.handed.fitting in
    taken _ p h _ _ c.in-Failed.is (c.act_failed.ensures.stands h _ can.stands fails)
