-- What is printed of acts and of what they hold is a part of a line.
use Rattle.std.proofs.Common.{◌≡◌, ◌≤◌, ℕ, Bool, true, false, nat_le, inl, inr, List, codes, length, Option, Some, None, refl, arith}
use Rattle.std.specs.List.{list_all}
use Rattle.xrf_base.specs.declared.site.Site.{Site}
use Rattle.xrf_base.specs.declared.site.Site.TheVariants.{A as SiteA, B as SiteB}
use Rattle.xrf_base.specs.declared.items.UnitId.{UnitId}
use Rattle.xrf_base.specs.declared.site.Takeovr.TheVariants.{Auto, Manual, Command}
use Rattle.xrf_cavm.specs.declared.decisions.Why.{Why}
use Rattle.xrf_cavm.specs.declared.decisions.Why.TheVariants as why
use Rattle.xrf_cavm.specs.declared.decisions.Decision.{Decision}
use Rattle.xrf_cavm.specs.declared.decisions.Decision.TheVariants as decision
use Rattle.xrf_cavm.specs.declared.decisions.Waiting.{Waiting}
use Rattle.xrf_cavm.specs.declared.decisions.Waiting.TheVariants as waiting
use Rattle.xrf_cavm.specs.declared.decisions.Acting.{Acting}
use Rattle.xrf_cavm.specs.declared.decisions.Acting.TheVariants as acting
use Rattle.xrf_cavm.specs.declared.decisions.Decided.{Decided}
use Rattle.xrf_cavm.specs.declared.decisions.Decided.TheVariants.{Alternate, Waiting as Waits, Owner as Owns}
use Rattle.xrf_cebt.specs.Command.{command_text, switch_word}
use Rattle.xrf_cebt.specs.Reply.{reply_text}
use Rattle.xrf_cebt.specs.declared.commands.Cebt.{Cebt as Order}
use Rattle.xrf_cebt.specs.declared.commands.Cebt.TheVariants.{PerformTakeover, PerformShutdown, InquireTakeover, InquireSurveillance, SetTakeover, SetSurveillance}
use Rattle.xrf_cebt.specs.declared.replies.CebtReply.{CebtReply}
use Rattle.xrf_cebt.specs.declared.replies.CebtReply.TheVariants.{TakeoverAccepted, ShutdownAccepted, InProgress, TakeoverMode, Surveillance}
use Rattle.xrf_ctl.specs.Control.{ControlRecord, IsControl, IsGiven, IsFormat, OwnerFits, AltFits, TakingFits}
use Rattle.xrf_ctl.specs.Signal.{SignalRecord}
use Rattle.xrf_ctl.specs.declared.parts.Owner.{Owner}
use Rattle.xrf_ctl.specs.declared.parts.OwnerState.{OwnerState}
use Rattle.xrf_ctl.specs.declared.parts.OwnerState.TheVariants.{Running, OffNormal, OffAbend, OffTakeover}
use Rattle.xrf_ctl.specs.declared.parts.Alt.{Alt}
use Rattle.xrf_ctl.specs.declared.parts.Taking.{Taking}
use Rattle.xrf_ctl.specs.declared.parts.Cause.{Cause}
use Rattle.xrf_ctl.specs.declared.parts.Cause.TheVariants as cause
use Rattle.xrf_exit.specs.declared.ExitAnswer.{ExitAnswer}
use Rattle.xrf_exit.specs.declared.ExitAnswer.TheVariants as answer
use Rattle.xrf_grammar.specs.Spelling.{site_word, answer_word}
use Rattle.xrf_history.specs.declared.want.EndWhy.{EndWhy}
use Rattle.xrf_history.specs.declared.want.EndWhy.TheVariants as end
use Rattle.xrf_logrec.specs.declared.keypoints.Keypoint.{Keypoint}
use Rattle.xrf_logrec.specs.declared.records.LogRec.{LogRec}
use Rattle.xrf_logrec.specs.declared.records.LogRec.TheVariants.{Put, Commit, Backout}
use Rattle.xrf_msg.specs.declared.messages.Message.{Message}
use Rattle.xrf_msg.specs.declared.messages.Message.TheVariants.{Begin, Term, End, User}
use Rattle.xrf_setup.specs.declared.format.Format.{Format}
use Rattle.xrf_setup.specs.declared.format.Format.TheVariants.{One, Two}
use Rattle.xrf_report.specs.Records.{state_word, cause_word, owner_text, alt_text, taking_text, format_text, control_text}
use Rattle.xrf_report.specs.Messages.{user_text, place_text, terminal_text, message_text}
use Rattle.xrf_report.specs.Logged.{unit_text, log_text, keypoint_text}
use Rattle.xrf_report.specs.Decisions.{leave_word, decision_text, waiting_word, acting_text, decided_text, ending_text}
use Rattle.xrf_report.specs.Acts.{go_word, signal_text}
use Rattle.xrf_report.specs.Fits.{Is32, SignalFits, UserFits, TerminalFits, MessageFits, UnitFits, LogFits, KeypointFits, ActingFits, DecidedFits, EndingFits}
use Rattle.xrf_report.proofs.Parts.{IsPart, word, no-byte, within, joined, behind-blank, behind-dot, number, long-number, name}

-- a word of at most so many bytes
short-word : (text : List ℕ) (most : ℕ) → nat_le (length text) most ≡ true → list_all (nat_le 32) text ≡ true → IsPart most text
short-word text most few passed = within most few (word text passed)

pub site-part : (site : Site) → IsPart 1 (site_word site)
site-part SiteA = word (codes "A") refl
site-part SiteB = word (codes "B") refl

state-part : (state : OwnerState) → IsPart 8 (state_word state)
state-part Running = short-word (codes "RUNNING") 8 refl refl
state-part OffNormal = short-word (codes "NORMAL") 8 refl refl
state-part OffAbend = short-word (codes "ABEND") 8 refl refl
state-part OffTakeover = short-word (codes "TAKEOVER") 8 refl refl

cause-part : (c : Cause) → IsPart 8 (cause_word c)
cause-part cause.Lost = short-word (codes "LOST") 8 refl refl
cause-part cause.Abend = short-word (codes "ABEND") 8 refl refl
cause-part cause.Shutdown = short-word (codes "SHUTDOWN") 8 refl refl
cause-part cause.Command = short-word (codes "COMMAND") 8 refl refl

-- an incarnation that was given is a number of 32 bits
given-fits : (last inc : ℕ) → Is32 last → IsGiven last inc → Is32 inc
given-fits last inc low given = let few : inc ≤ last = given.1 in omega (arith, low, few)

owner-part : (last : ℕ) (owner : Option Owner) → Is32 last → OwnerFits last owner → IsPart 21 (owner_text owner)
owner-part last None low fits = short-word (codes "NONE") 21 refl refl
owner-part last (Some owner) low fits =
    joined (joined (number owner.inc (given-fits last owner.inc low fits)) (behind-dot (site-part owner.site))) (behind-dot (state-part owner.state))

alt-part : (last : ℕ) (owner : Option Owner) (alt : Option Alt) → Is32 last → AltFits last owner alt → IsPart 12 (alt_text alt)
alt-part last owner None low fits = short-word (codes "NONE") 12 refl refl
alt-part last None (Some alt) low fits = absurd fits
alt-part last (Some owner) (Some alt) low fits = joined (number alt.inc (given-fits last alt.inc low fits.0)) (behind-dot (site-part alt.site))

taking-part : (last : ℕ) (alt : Option Alt) (taking : Option Taking) → Is32 last → TakingFits last alt taking → IsPart 19 (taking_text taking)
taking-part last alt None low fits = short-word (codes "NONE") 19 refl refl
taking-part last None (Some taking) low fits = absurd fits
taking-part last (Some alt) (Some taking) low fits = joined (number taking.inc (given-fits last taking.inc low fits.0)) (behind-dot (cause-part taking.cause))

format-fits : (format : ℕ) → IsFormat format → Is32 format
format-fits format (inl is) = omega (arith, is)
format-fits format (inr is) = omega (arith, is)

format-part : (xrf : Format) (format : ℕ) → IsFormat format → IsPart 18 (format_text xrf format)
format-part One format is = within 18 refl no-byte
format-part Two format is = joined (word (codes " FORMAT ") refl) (number format (format-fits format is))

-- what is printed of a control record is a part
pub control-part : (xrf : Format) (r : ControlRecord) → IsControl r → IsPart 100 (control_text xrf r)
control-part xrf r is =
    joined
    (joined
    (joined
    (joined
    (joined
    (joined (joined (number r.last is.last) (word (codes " OWNER ") refl)) (owner-part r.last r.owner is.last is.rule.owner))
    (word (codes " ALT ") refl))
    (alt-part r.last r.owner r.alt is.last is.rule.alt))
    (word (codes " TAKING ") refl))
    (taking-part r.last r.alt r.taking is.last is.rule.taking))
    (format-part xrf r.format is.format)

pub user-part : (user : Option (List ℕ)) → UserFits user → IsPart 8 (user_text user)
user-part None fits = short-word (codes "-") 8 refl refl
user-part (Some user) fits = name user fits

place-part : (epoch seq : ℕ) → Is32 epoch → Is32 seq → IsPart 21 (place_text epoch seq)
place-part epoch seq of-epoch of-seq = joined (number epoch of-epoch) (behind-blank (number seq of-seq))

on-part : (on : Bool) → IsPart 3 (switch_word on)
on-part true = short-word (codes "ON") 3 refl refl
on-part false = short-word (codes "OFF") 3 refl refl

terminal-part : (epoch seq : ℕ) (term : List ℕ) (class : ℕ) (on : Bool) → TerminalFits epoch seq term class → IsPart 45 (terminal_text epoch seq term class on)
terminal-part epoch seq term class on fits =
    joined (joined (joined (place-part epoch seq fits.0 fits.1) (behind-blank (name term fits.2))) (behind-blank (number class fits.3))) (behind-blank (on-part on))

pub message-part : (message : Message) → MessageFits message → IsPart 59 (message_text message)
message-part (Begin epoch) fits = within 59 refl (joined (word (codes "BEGIN ") refl) (number epoch fits))
message-part (Term epoch seq term class on) fits = within 59 refl (joined (word (codes "TERM ") refl) (terminal-part epoch seq term class on fits))
message-part (End epoch seq) fits = within 59 refl (joined (word (codes "END ") refl) (place-part epoch seq fits.0 fits.1))
message-part (User epoch seq term class on user) fits =
    joined (joined (word (codes "USER ") refl) (terminal-part epoch seq term class on fits.0)) (behind-blank (user-part user fits.1))

pub unit-part : (unit : UnitId) → UnitFits unit → IsPart 21 (unit_text unit)
unit-part unit fits = joined (number unit.inc fits.0) (behind-dot (number unit.serial fits.1))

pub log-part : (rec : LogRec) → LogFits rec → IsPart 36 (log_text rec)
log-part (Put unit rrn before) fits = joined (joined (word (codes "PUT ") refl) (unit-part unit fits.0)) (behind-blank (number rrn fits.1))
log-part (Commit unit) fits = within 36 refl (joined (word (codes "COMMIT ") refl) (unit-part unit fits))
log-part (Backout unit) fits = within 36 refl (joined (word (codes "BACKOUT ") refl) (unit-part unit fits))

pub keypoint-part : (keypoint : Keypoint) → KeypointFits keypoint → IsPart 36 (keypoint_text keypoint)
keypoint-part keypoint fits =
    joined (joined (joined (word (codes "KEYPOINT ") refl) (number keypoint.number fits.0)) (word (codes " START ") refl)) (number keypoint.start fits.1)

leave-part : (reason : Why) → IsPart 8 (leave_word reason)
leave-part why.Shutdown = short-word (codes "SHUTDOWN") 8 refl refl
leave-part why.Dropped = short-word (codes "DROPPED") 8 refl refl
leave-part why.Normal = short-word (codes "NORMAL") 8 refl refl

decision-part : (d : Decision) → IsPart 18 (decision_text d)
decision-part decision.Nothing = short-word (codes "NOTHING") 18 refl refl
decision-part decision.Ask = short-word (codes "ASK") 18 refl refl
decision-part (decision.Start cause) = within 18 refl (joined (word (codes "START ") refl) (cause-part cause))
decision-part (decision.Leave reason) = within 18 refl (joined (word (codes "END ") refl) (leave-part reason))

waiting-part : (w : Waiting) → IsPart 18 (waiting_word w)
waiting-part waiting.Wait = short-word (codes "WAIT") 18 refl refl
waiting-part waiting.Through = short-word (codes "THROUGH") 18 refl refl

acting-part : (a : Acting) → ActingFits a → IsPart 18 (acting_text a)
acting-part acting.Nothing fits = short-word (codes "NOTHING") 18 refl refl
acting-part acting.Seen fits = short-word (codes "SEEN") 18 refl refl
acting-part (acting.CatchUp inc) fits = joined (word (codes "CATCHUP ") refl) (number inc fits)
acting-part acting.Forget fits = short-word (codes "FORGET") 18 refl refl
acting-part acting.Lost fits = short-word (codes "LOST") 18 refl refl

pub decided-part : (d : Decided) → DecidedFits d → IsPart 18 (decided_text d)
decided-part (Alternate d) fits = decision-part d
decided-part (Waits w) fits = waiting-part w
decided-part (Owns a) fits = acting-part a fits

pub ending-part : (reason : EndWhy) → EndingFits reason → IsPart 18 (ending_text reason)
ending-part (end.Refused inc) fits = joined (word (codes "REFUSED ") refl) (number inc fits)
ending-part end.NoActive fits = short-word (codes "NOACTIVE") 18 refl refl
ending-part end.SignedOff fits = short-word (codes "SIGNEDOFF") 18 refl refl
ending-part end.Dropped fits = short-word (codes "DROPPED") 18 refl refl
ending-part end.Normal fits = short-word (codes "NORMAL") 18 refl refl
ending-part end.Shutdown fits = short-word (codes "SHUTDOWN") 18 refl refl
ending-part end.Abandoned fits = short-word (codes "ABANDONED") 18 refl refl
ending-part end.MsgError fits = short-word (codes "MSGERROR") 18 refl refl
ending-part end.Format fits = short-word (codes "FORMAT") 18 refl refl

pub signal-part : (signal : SignalRecord) → SignalFits signal → IsPart 31 (signal_text signal)
signal-part signal fits = joined (long-number signal.counter fits.0) (behind-blank (number signal.cursor fits.1))

pub go-part : (go : Bool) → IsPart 6 (go_word go)
go-part true = short-word (codes "GO") 6 refl refl
go-part false = short-word (codes "IGNORE") 6 refl refl

pub exit-part : (said : ExitAnswer) → IsPart 5 (answer_word said)
exit-part answer.Abend = short-word (codes "ABEND") 5 refl refl
exit-part answer.Keep = short-word (codes "KEEP") 5 refl refl
exit-part answer.Drop = short-word (codes "DROP") 5 refl refl

pub command-part : (command : Order) → IsPart 20 (command_text command)
command-part PerformTakeover = short-word (codes "PERFORM TAKEOVER") 20 refl refl
command-part PerformShutdown = short-word (codes "PERFORM SHUTDOWN") 20 refl refl
command-part InquireTakeover = short-word (codes "INQUIRE TAKEOVER") 20 refl refl
command-part InquireSurveillance = short-word (codes "INQUIRE SURVEILLANCE") 20 refl refl
command-part (SetTakeover Auto) = short-word (codes "SET TAKEOVER AUTO") 20 refl refl
command-part (SetTakeover Manual) = short-word (codes "SET TAKEOVER MANUAL") 20 refl refl
command-part (SetTakeover Command) = short-word (codes "SET TAKEOVER COMMAND") 20 refl refl
command-part (SetSurveillance true) = short-word (codes "SET SURVEILLANCE ON") 20 refl refl
command-part (SetSurveillance false) = short-word (codes "SET SURVEILLANCE OFF") 20 refl refl

pub reply-part : (reply : CebtReply) → IsPart 20 (reply_text reply)
reply-part TakeoverAccepted = short-word (codes "TAKEOVER ACCEPTED") 20 refl refl
reply-part ShutdownAccepted = short-word (codes "SHUTDOWN ACCEPTED") 20 refl refl
reply-part InProgress = short-word (codes "TAKEOVER IN PROGRESS") 20 refl refl
reply-part (TakeoverMode Auto) = short-word (codes "TAKEOVER AUTO") 20 refl refl
reply-part (TakeoverMode Manual) = short-word (codes "TAKEOVER MANUAL") 20 refl refl
reply-part (TakeoverMode Command) = short-word (codes "TAKEOVER COMMAND") 20 refl refl
reply-part (Surveillance true) = short-word (codes "SURVEILLANCE ON") 20 refl refl
reply-part (Surveillance false) = short-word (codes "SURVEILLANCE OFF") 20 refl refl
