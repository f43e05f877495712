-- What a failed act makes of a job.
use Rattle.std.specs.Prelude.{◌≡◌, Bool, true, false, ◌&&◌, ◌||◌, not, if◌then◌else◌, Some, None}
use Rattle.xrf_ctl.specs.declared.parts.OwnerState.TheVariants.{OffAbend}
use Rattle.xrf_history.specs.declared.want.Want.{Want}
use Rattle.xrf_history.specs.declared.want.Want.TheVariants as want
use Rattle.xrf_history.specs.Reserving.{or_else}
use Rattle.xrf_job.specs.declared.stage.Stage.TheVariants as stages
use Rattle.xrf_active.specs.declared.active.Active.{Active}

-- a failed act on a message that it sends makes a drop due, and another a sign-off
abbrev pub is_sending : Active → Bool → Bool
is_sending job on_message = on_message && not job.is_draining

abbrev pub failed : Active → Bool → Active
failed job on_message = record job {
  sign_off = or_else job.sign_off (if is_sending job on_message then None else Some OffAbend);
  must_drop = job.must_drop || is_sending job on_message;
  common = record job.common { stage = stages.Boundary };
}

-- an act that no word of a history counts where it fails, on a message slot or not
abbrev pub IsQuiet : Want → Bool → Type 0
IsQuiet (want.MsgClose place) on_message = on_message ≡ true
IsQuiet (want.MsgBody place message) on_message = on_message ≡ true
IsQuiet (want.LogRead block) on_message = on_message ≡ false
IsQuiet (want.LogLook place) on_message = on_message ≡ false
IsQuiet (want.LogClose place) on_message = on_message ≡ false
IsQuiet (want.LogBody place rec) on_message = on_message ≡ false
IsQuiet (want.KpRead place) on_message = on_message ≡ false
IsQuiet (want.KpClose place) on_message = on_message ≡ false
IsQuiet (want.KpBody place keypoint) on_message = on_message ≡ false
IsQuiet (want.FileRead rrn) on_message = on_message ≡ false
IsQuiet (want.FileWrite unit rrn value) on_message = on_message ≡ false
IsQuiet _ on_message = ⊥
