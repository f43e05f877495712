-- What holds of a job and of the data sets together, by where the job stands.
use Rattle.std.specs.Prelude.{Bool, false, true, ◌≡◌, IfSome, List, Option, ℕ, length, ◌≤◌}
use Rattle.xrf_base.specs.declared.site.Site.{Site}
use Rattle.xrf_logrec.specs.LogRecords.{IsLogRecord, spelling}
use Rattle.xrf_logrec.specs.Keypoints.{key_spelling}
use Rattle.xrf_history.specs.declared.want.Want.{Want}
use Rattle.xrf_history.specs.Events.{Event}
use Rattle.xrf_history.specs.declared.settings.Settings.{Settings}
use Rattle.xrf_history.specs.Restarting.{has_read_block}
use Rattle.xrf_history.specs.Next.{inside}
use Rattle.xrf_history.specs.Holding.{is_owner, is_restarted}
use Rattle.xrf_history.specs.Progress.{is_active}
use Rattle.xrf_trace.specs.declared.entry.Entry.{Entry}
use Rattle.xrf_trace.specs.Scenario.{Scen, first_value, settings}
use Rattle.xrf_trace.specs.Jobs.{hist}
use Rattle.xrf_trace.specs.declared.entry.Act.{Act}
use Rattle.xrf_trace.specs.declared.entry.Land.{Land}
use Rattle.xrf_trace.specs.Landing.{landed}
use Rattle.xrf_log_law.specs.Due.{InsideDue, IsUnread, Restarts, restart_view}
use Rattle.xrf_log_law.specs.State.{View, State, key_number, view}
use Rattle.xrf_log_law.specs.AtWork.{Working}
use Rattle.xrf_log_law.specs.Soundness.{is_sound}
use Rattle.xrf_history.specs.declared.want.Want.TheVariants as want
use Rattle.xrf_trace.specs.declared.entry.Act.TheVariants as act

-- an act that neither writes nor reads the log, the keypoints or the file, and is no ITEM and no RESTARTED
abbrev pub is_idle : Want → Bool
is_idle (want.LogRead b) = false
is_idle (want.LogLook place) = false
is_idle (want.LogClose place) = false
is_idle (want.LogBody place rec) = false
is_idle (want.LogOpen place rec) = false
is_idle (want.KpRead k) = false
is_idle (want.KpClose k) = false
is_idle (want.KpBody k keypoint) = false
is_idle (want.KpOpen k keypoint) = false
is_idle (want.FileRead rrn) = false
is_idle (want.FileWrite unit rrn value) = false
is_idle (want.Undo rrn before) = false
is_idle want.Item = false
is_idle want.Restarted = false
is_idle _ = true

-- the same as a fact
abbrev pub Idle : Want → Type 0
Idle w = is_idle w ≡ true

-- what holds of a job
abbrev pub JobStands : (size : ℕ) → (ℕ → Option (List ℕ)) → View → Settings → List Event → Type 0
JobStands size first v p h =
    (has_read_block h ≡ true → is_owner h ≡ true)
    × (has_read_block h ≡ false → IsUnread size p h)
    × (is_active h ≡ true → is_sound h ≡ true → has_read_block h ≡ true → is_restarted h ≡ false → Restarts size first v (restart_view p h))
    × (is_active h ≡ true → InsideDue size first v p h)
    × (is_active h ≡ false → IfSome (inside p h) Idle)
    × (is_active h ≡ true → is_sound h ≡ true → is_restarted h ≡ true → Working size first v p h)

-- what is said of a job at a site, by what is read of the trace
abbrev pub SiteStands : Scen → List Entry → Site → View → List Event → Type 0
SiteStands s t x v h = JobStands s.settings.log (first_value s) v (settings s x) h

-- the invariant of the data sets and the jobs
pub record Stands (s : Scen) (t : List Entry) : Type 0 where
  pub state : State s.settings.log (first_value s) (view s t)
  pub counted : key_number t ≤ length t
  pub jobs : (x : Site) → IfSome (hist s t x) (JobStands s.settings.log (first_value s) (view s t) (settings s x))

-- what is written to the log is in its ranges
abbrev pub InRange : Act → Type 0
InRange (act.LogBody p rec) = IsLogRecord rec
InRange _ = Unit {0}

-- what lands of a body has 63 bytes
abbrev pub IsSized : Land → Act → Type 0
IsSized l (act.LogBody p rec) = IfSome (landed l (spelling p rec)) (λ body. length body ≡ 63)
IsSized l (act.KpBody k keypoint) = IfSome (landed l (key_spelling keypoint)) (λ body. length body ≡ 63)
IsSized l _ = Unit {0}
