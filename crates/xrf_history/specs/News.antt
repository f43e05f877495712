-- News of the other site, as an alternate has it.
use Rattle.std.specs.Prelude.{ℕ, ◌-◌, nat_lt, Bool, false, ◌&&◌, ◌||◌, not, List, [], ◌∷◌, Option, Some, None}
use Rattle.xrf_cavm.specs.Watch.{Look, is_news}
use Rattle.xrf_cebt.specs.declared.commands.Cebt.{Cebt}
use Rattle.xrf_cebt.specs.declared.commands.Cebt.TheVariants.{SetSurveillance}
use Rattle.xrf_history.specs.Events.{Event, Looked2, Replied, Commanded}
use Rattle.xrf_history.specs.Looking.{signal_seen}

-- the last look, which is the signals of a LOOK1 and of its LOOK2
abbrev pub look_before : List Event → Option Look
look_before [] = None
look_before (Looked2 signal at ∷ h) = Some (signal_seen h, signal)
look_before (_ ∷ h) = look_before h

abbrev pub turns_on : Cebt → Bool
turns_on (SetSurveillance on) = on
turns_on _ = false

-- a tick is one of the last `adi` ticks, up to the present one
abbrev pub is_within : (adi now at : ℕ) → Bool
is_within adi now at = nat_lt (now - at) adi

-- There was news within the last `adi` ticks: a first look, or one unlike the look before it; and IGNORE and SET
-- SURVEILLANCE ON count as news.
abbrev pub has_news : (adi now : ℕ) → List Event → Bool
has_news adi now [] = false
has_news adi now (Looked2 signal at ∷ h) = (is_within adi now at && is_news (signal_seen h, signal) (look_before h)) || has_news adi now h
has_news adi now (Replied go at ∷ h) = (is_within adi now at && not go) || has_news adi now h
has_news adi now (Commanded command at ∷ h) = (is_within adi now at && turns_on command) || has_news adi now h
has_news adi now (_ ∷ h) = has_news adi now h
