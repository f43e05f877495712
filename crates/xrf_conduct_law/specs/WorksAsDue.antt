-- Works as due: a job makes RESTARTED once; it writes a keypoint where one is due, and that one; and the body of a message, a
-- log record or a keypoint is written into a slot that is closed, so that what was there is closed before it is written over.
use Rattle.std.specs.Prelude.{◌≡◌, ◌%◌, true, false, List}
use Rattle.xrf_gated.specs.Slots.{is_open}
use Rattle.xrf_history.specs.declared.settings.Settings.{Settings}
use Rattle.xrf_history.specs.Events.{Event}
use Rattle.xrf_history.specs.Holding.{is_restarted}
use Rattle.xrf_history.specs.Working.{keypoint_due, next_keypoint}
use Rattle.xrf_trace.specs.declared.entry.Entry.{Entry}
use Rattle.xrf_trace.specs.declared.entry.Act.{Act}
use Rattle.xrf_trace.specs.declared.entry.Act.TheVariants as act
use Rattle.xrf_trace.specs.Scenario.{Scen, settings}
use Rattle.xrf_trace.specs.Devices.{message_slot, log_slot, key_slot}
use Rattle.xrf_trace.specs.Each.{Each, AtSite}

-- what is due of RESTARTED and of the acts on the keypoints
abbrev pub IsAsDue : Settings → List Event → Act → Type 0
IsAsDue p h act.Restarted = is_restarted h ≡ false
IsAsDue p h (act.KpRead k) = keypoint_due p h ≡ true
IsAsDue p h (act.KpClose k) = keypoint_due p h ≡ true
IsAsDue p h (act.KpBody k keypoint) = (keypoint_due p h ≡ true) × (keypoint ≡ next_keypoint p h)
IsAsDue p h (act.KpOpen k keypoint) = (keypoint_due p h ≡ true) × (keypoint ≡ next_keypoint p h)
IsAsDue p h _ = Unit {0}

-- a body is written into a slot that is closed
abbrev pub IsClosedFirst : Scen → List Entry → Act → Type 0
IsClosedFirst s t (act.MsgBody k message) = is_open (message_slot t k) ≡ false
IsClosedFirst s t (act.LogBody p rec) = is_open (log_slot s t (p % s.settings.log)) ≡ false
IsClosedFirst s t (act.KpBody k keypoint) = is_open (key_slot t k) ≡ false
IsClosedFirst s t _ = Unit {0}

pub record WorksAsDue (s : Scen) (t : List Entry) : Type 0 where
  pub due : Each (λ t e. AtSite s t e.who (λ x h. IsAsDue (settings s x) h e.act)) t
  pub closed : Each (λ t e. IsClosedFirst s t e.act) t
