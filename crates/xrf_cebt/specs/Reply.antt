-- What a region replies to a CEBT command.
use Rattle.std.specs.Prelude.{ℕ, Bool, if◌then◌else◌, List, ◌++◌, codes}
use Rattle.xrf_base.specs.declared.site.Takeovr.{Takeovr}
use Rattle.xrf_cebt.specs.declared.commands.Cebt.{Cebt}
use Rattle.xrf_cebt.specs.declared.commands.Cebt.TheVariants.{PerformTakeover, PerformShutdown, InquireTakeover, InquireSurveillance, SetTakeover, SetSurveillance}
use Rattle.xrf_cebt.specs.declared.replies.CebtReply.{CebtReply}
use Rattle.xrf_cebt.specs.declared.replies.CebtReply.TheVariants.{TakeoverAccepted, ShutdownAccepted, InProgress, TakeoverMode, Surveillance}
use Rattle.xrf_cebt.specs.Command.{mode_word, switch_word}

-- the reply of an alternate that is waiting or tracking, whose mode and surveillance after the
-- command are these
abbrev pub reply_to : Cebt → (waiting : Bool) → (mode : Takeovr) → (surveillance : Bool) → CebtReply
reply_to PerformTakeover waiting mode surveillance = if waiting then InProgress else TakeoverAccepted
reply_to PerformShutdown waiting mode surveillance = if waiting then InProgress else ShutdownAccepted
reply_to InquireTakeover waiting mode surveillance = TakeoverMode mode
reply_to (SetTakeover asked) waiting mode surveillance = TakeoverMode mode
reply_to InquireSurveillance waiting mode surveillance = Surveillance surveillance
reply_to (SetSurveillance asked) waiting mode surveillance = Surveillance surveillance

-- the text of each reply
abbrev pub reply_text : CebtReply → List ℕ
reply_text TakeoverAccepted = codes "TAKEOVER ACCEPTED"
reply_text ShutdownAccepted = codes "SHUTDOWN ACCEPTED"
reply_text InProgress = codes "TAKEOVER IN PROGRESS"
reply_text (TakeoverMode mode) = codes "TAKEOVER " ++ mode_word mode
reply_text (Surveillance on) = codes "SURVEILLANCE " ++ switch_word on
