-- Rounds are whole: a round is SIGNAL1, SIGNAL2, LOOK1, LOOK2 and DECIDE in this order, and they come in no other place.
-- Its signals tell the number of the job, a counter that is one more than that of the round before, and the cursor. A tick
-- has one round at most, and until it is begun no other work is.
use Rattle.std.specs.Prelude.{◌≡◌, ℕ, ◌+◌, nat_lt, Bool, true, false, if◌then◌else◌, List, [], ◌∷◌, Option, Some, None}
use Rattle.std.specs.Option.{option_map}
use Rattle.xrf_history.specs.Events.{Event, Ticked, Abended, Replied, Commanded, Exited, Signalled1}
use Rattle.xrf_history.specs.Rows.{rounds, round_due, signal_of}
use Rattle.xrf_trace.specs.declared.entry.Entry.{Entry}
use Rattle.xrf_trace.specs.declared.entry.Act.{Act}
use Rattle.xrf_trace.specs.declared.entry.Act.TheVariants as act
use Rattle.xrf_trace.specs.Scenario.{Scen}
use Rattle.xrf_trace.specs.Acts.{is_act}
use Rattle.xrf_trace.specs.Each.{Each, Where, AtSite}

-- the acts of the job since its last SIGNAL1, where it made one
abbrev pub made_since_signal : List Event → Option ℕ
made_since_signal [] = None
made_since_signal (Signalled1 signal ∷ h) = Some 0
made_since_signal (Ticked ∷ h) = made_since_signal h
made_since_signal (Abended ∷ h) = made_since_signal h
made_since_signal (Replied go at ∷ h) = made_since_signal h
made_since_signal (Commanded command at ∷ h) = made_since_signal h
made_since_signal (Exited answer at ∷ h) = made_since_signal h
made_since_signal (_ ∷ h) = option_map (λ n. n + 1) (made_since_signal h)

-- how many of the four acts that follow SIGNAL1 stand between it and an act, and how many of them a job inside a round has made
abbrev pub place_in_round : Act → Option ℕ
place_in_round (act.Signal2 signal) = Some 0
place_in_round act.Look1 = Some 1
place_in_round act.Look2 = Some 2
place_in_round (act.Decide made) = Some 3
place_in_round _ = None

abbrev pub in_round : (made : Option ℕ) → Option ℕ
in_round None = None
in_round (Some n) = if nat_lt n 4 then Some n else None

-- other work, as far as it is begun: a message or a block that is read, a keypoint, an item, the end of a restart
abbrev pub begins_work : Act → Bool
begins_work (act.MsgRead k) = true
begins_work (act.LogRead b) = true
begins_work (act.KpRead k) = true
begins_work (act.Item k) = true
begins_work act.Restarted = true
begins_work _ = false

abbrev pub IsOfRound : List Event → Act → Type 0
IsOfRound h (act.Signal1 signal) = (signal ≡ signal_of h (rounds h + 1)) × (round_due h ≡ true) × (in_round (made_since_signal h) ≡ None)
IsOfRound h (act.Signal2 signal) = (signal ≡ signal_of h (rounds h)) × (in_round (made_since_signal h) ≡ Some 0)
IsOfRound h a = Where (is_act a) ((place_in_round a ≡ in_round (made_since_signal h)) × Where (begins_work a) (round_due h ≡ false))

abbrev pub RoundsAreWhole : Scen → List Entry → Type 0
RoundsAreWhole s t = Each (λ t e. AtSite s t e.who (λ x h. IsOfRound h e.act)) t
