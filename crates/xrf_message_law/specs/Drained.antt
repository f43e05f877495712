-- What a job has taken once it has drained the messages.
use Rattle.std.specs.Prelude.{List, None, false, ◌≡◌, ℕ}
use Rattle.xrf_msg.specs.declared.messages.Message.{Message}
use Rattle.xrf_history.specs.Events.{Event}
use Rattle.xrf_history.proofs.SigningOff.{Stays}
use Rattle.xrf_history.specs.Taking.{is_draining, taken}
use Rattle.xrf_history.specs.Holding.{is_restarted, number}
use Rattle.xrf_history.specs.Reserving.{sign_off_due}

-- an owner that is drained, without a sign-off that is due, has taken all messages of its epoch, until its restart
-- is done
abbrev pub IsDrained : (ℕ → List Message) → List Event → Type 0
IsDrained messages h = Stays h → is_restarted h ≡ false → sign_off_due h ≡ None → is_draining h ≡ false → taken h ≡ messages (number h)
