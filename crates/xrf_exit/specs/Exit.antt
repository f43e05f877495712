-- What a status exit may answer.
use Rattle.std.specs.Prelude.{Bool, true, false, IsTrue}
use Rattle.xrf_exit.specs.declared.Notice.{Notice}
use Rattle.xrf_exit.specs.declared.Notice.TheVariants.{TakeoverSeen, AlternateLost}
use Rattle.xrf_exit.specs.declared.ExitAnswer.{ExitAnswer}
use Rattle.xrf_exit.specs.declared.ExitAnswer.TheVariants.{Abend, Keep, Drop}

-- An active that has seen a takeover may only end. One that has lost its alternate keeps it or drops it.
abbrev pub is_allowed : Notice → ExitAnswer → Bool
is_allowed TakeoverSeen Abend = true
is_allowed TakeoverSeen Keep = false
is_allowed TakeoverSeen Drop = false
is_allowed AlternateLost Abend = false
is_allowed AlternateLost Keep = true
is_allowed AlternateLost Drop = true

-- Each answer that a closure may give to a notice is allowed for it. gives holds of a notice and an
-- answer where a call with the notice may give that answer.
abbrev pub AnswersAllowed : (gives : Notice → ExitAnswer → Type 0) → Type 0
AnswersAllowed gives = (notice : Notice) (answer : ExitAnswer) → gives notice answer → IsTrue (is_allowed notice answer)
