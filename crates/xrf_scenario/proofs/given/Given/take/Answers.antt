use Rattle.std.proofs.Common.{ℕ, List, Option}
use Rattle.xrf_scenario.proofs.given.Given.take.Goals as goal

-- each setting is given once
pub returns-in-Takeovr : goal.returns-in-Takeovr
returns-in-Takeovr c = λ so. rw c.in-Takeovr.is (c.once.ensures (record so { given = c.args.self.now }) (λ s. record c.args.self.now { takeovr = s }))

pub returns-in-Images : goal.returns-in-Images
returns-in-Images c = λ so. rw c.in-Images.is (c.once-in-Images.ensures (record so { given = c.args.self.now }) (λ s. record c.args.self.now { images = s }))

pub returns-in-Xrfsoff : goal.returns-in-Xrfsoff
returns-in-Xrfsoff c = λ so. rw c.in-Xrfsoff.is (c.once-in-Xrfsoff.ensures (record so { given = c.args.self.now }) (λ s. record c.args.self.now { force = s }))

pub returns-in-Quantity : goal.returns-in-Quantity
returns-in-Quantity c = λ so. rw (c.in-Quantity.is, ← c.place.ensures.place) (c.take_quantity.ensures (record so { given = c.args.self.now }) (λ (held : List (Option ℕ)). record c.args.self.now { quantities = held }))
