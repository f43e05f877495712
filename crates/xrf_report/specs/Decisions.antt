-- The texts of decisions, and of why a job ends.
use Rattle.std.specs.Prelude.{ℕ, List, ◌++◌, codes}
use Rattle.std.specs.Fmt.{decimal}
use Rattle.xrf_cavm.specs.declared.decisions.Why.{Why}
use Rattle.xrf_cavm.specs.declared.decisions.Why.TheVariants as why
use Rattle.xrf_cavm.specs.declared.decisions.Decision.{Decision}
use Rattle.xrf_cavm.specs.declared.decisions.Decision.TheVariants as decision
use Rattle.xrf_cavm.specs.declared.decisions.Waiting.{Waiting}
use Rattle.xrf_cavm.specs.declared.decisions.Waiting.TheVariants as waiting
use Rattle.xrf_cavm.specs.declared.decisions.Acting.{Acting}
use Rattle.xrf_cavm.specs.declared.decisions.Acting.TheVariants as acting
use Rattle.xrf_cavm.specs.declared.decisions.Decided.{Decided}
use Rattle.xrf_cavm.specs.declared.decisions.Decided.TheVariants.{Alternate, Waiting as Waits, Owner}
use Rattle.xrf_history.specs.declared.want.EndWhy.{EndWhy}
use Rattle.xrf_history.specs.declared.want.EndWhy.TheVariants as end
use Rattle.xrf_report.specs.Records.{cause_word}

abbrev pub leave_word : Why → List ℕ
leave_word why.Shutdown = codes "SHUTDOWN"
leave_word why.Dropped = codes "DROPPED"
leave_word why.Normal = codes "NORMAL"

-- of an alternate that tracks the owner
abbrev pub decision_text : Decision → List ℕ
decision_text decision.Nothing = codes "NOTHING"
decision_text decision.Ask = codes "ASK"
decision_text (decision.Start cause) = codes "START " ++ cause_word cause
decision_text (decision.Leave reason) = codes "END " ++ leave_word reason

-- of one that waits to be let through
abbrev pub waiting_word : Waiting → List ℕ
waiting_word waiting.Wait = codes "WAIT"
waiting_word waiting.Through = codes "THROUGH"

-- of an owner
abbrev pub acting_text : Acting → List ℕ
acting_text acting.Nothing = codes "NOTHING"
acting_text acting.Seen = codes "SEEN"
acting_text (acting.CatchUp inc) = codes "CATCHUP " ++ decimal inc
acting_text acting.Forget = codes "FORGET"
acting_text acting.Lost = codes "LOST"

abbrev pub decided_text : Decided → List ℕ
decided_text (Alternate decision) = decision_text decision
decided_text (Waits waiting) = waiting_word waiting
decided_text (Owner acting) = acting_text acting

-- why a job ends; a sign-on that is refused tells the incarnation in its way
abbrev pub ending_text : EndWhy → List ℕ
ending_text (end.Refused inc) = codes "REFUSED " ++ decimal inc
ending_text end.NoActive = codes "NOACTIVE"
ending_text end.SignedOff = codes "SIGNEDOFF"
ending_text end.Dropped = codes "DROPPED"
ending_text end.Normal = codes "NORMAL"
ending_text end.Shutdown = codes "SHUTDOWN"
ending_text end.Abandoned = codes "ABANDONED"
ending_text end.MsgError = codes "MSGERROR"
ending_text end.Format = codes "FORMAT"
