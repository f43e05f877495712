-- The lines of the jobs.
use Rattle.std.specs.Prelude.{ℕ, List, ◌++◌, codes}
use Rattle.std.specs.Fmt.{decimal}
use Rattle.xrf_base.specs.declared.site.Site.{Site}
use Rattle.xrf_grammar.specs.Spelling.{site_word}
use Rattle.xrf_world.specs.declared.state.JobState.{JobState}
use Rattle.xrf_world.specs.declared.state.JobState.TheVariants.{Absent, Starting, Restarting, Active, Tracking, Waiting, Ending}
use Rattle.xrf_report.specs.Words.{blank, line}

-- incarnation and state
abbrev pub job_text : JobState → List ℕ
job_text Absent = codes "NONE"
job_text Starting = codes "0 STARTING"
job_text (Restarting inc) = decimal inc ++ codes " RESTARTING"
job_text (Active inc) = decimal inc ++ codes " ACTIVE"
job_text (Tracking inc) = decimal inc ++ codes " TRACKING"
job_text (Waiting inc) = decimal inc ++ codes " WAITING"
job_text (Ending inc) = decimal inc ++ codes " ENDING"

-- the job at a site
abbrev pub job_line : Site → JobState → List ℕ
job_line x state = line (codes "JOB " ++ site_word x ++ blank (job_text state))
