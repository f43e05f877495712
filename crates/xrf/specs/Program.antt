-- What the top call answers: to `run` what a threaded run does, and to other words what the call that never waits does.
use Rattle.std.specs.Prelude.{List, MatchBool, String}
use Rattle.std.specs.Global.{Global}
use Rattle.xrf_edge.specs.Ends.{End}
use Rattle.xrf_exit.specs.declared.ExitAnswer.{ExitAnswer}
use Rattle.xrf.specs.Answer.{Answered, Complete}
use Rattle.xrf.specs.Live.{is_run_word, Lived, LivesThrough}
use Rattle.xrf.specs.declared.status.Status.{Status}

-- The answer of the top call, over the ends before and after it. What the exit may answer counts for `run` alone.
abbrev pub TopAnswered : (may : ExitAnswer → Type 0) → List (String Global) → End → End → End → End → Status → Type 0
TopAnswered may words source source' sink sink' status = MatchBool (is_run_word words) (Lived may source source' sink sink' status) (Answered words source source' sink sink' status)

-- An input of which something can be made, read and written without a fault, is answered Done, or for want of memory.
abbrev pub TopComplete : List (String Global) → End → End → End → End → Status → Type 0
TopComplete words source source' sink sink' status = MatchBool (is_run_word words) (LivesThrough source source' sink sink' status) (Complete words source source' sink sink' status)
