-- Terminals are told: what an owner sent is its terminals, and after a takeover they stand at the new active.
use Rattle.std.specs.Prelude.{◌≡◌, ℕ, ◌-◌, ◌==◌, nat_lt, Bool, false, ◌&&◌, not, is_none, if◌then◌else◌, List, [], ◌∷◌, take, Option, Some, None, IfSome}
use Rattle.xrf_base.specs.declared.site.Site.{Site}
use Rattle.xrf_base.specs.declared.site.Site.TheVariants.{A, B}
use Rattle.xrf_terms.specs.declared.rows.Row.{Row}
use Rattle.xrf_terms.specs.Tracking.{settled}
use Rattle.xrf_history.specs.Events.{Event, RestartDeclared}
use Rattle.xrf_history.specs.Holding.{is_owner, is_restarted}
use Rattle.xrf_history.specs.Notices.{epoch}
use Rattle.xrf_history.specs.Terminals.{after_message, table}
use Rattle.xrf_history.specs.Sending.{sent, is_end_sent, message_due, is_cut, is_caught_up, told_rows}
use Rattle.xrf_trace.specs.declared.entry.Entry.{Entry}
use Rattle.xrf_trace.specs.Scenario.{Scen, settings}
use Rattle.xrf_trace.specs.Jobs.{hist}
use Rattle.xrf_trace.specs.Tracking.{tracked}
use Rattle.xrf_trace.specs.FileIsBook.{is_restart}
use Rattle.xrf_trace.specs.Each.{Each, After, EverySite, Where, AtSite}

-- what is to be told of the table of a job
abbrev pub told_of_job : Scen → Site → List Event → List Row
told_of_job s x h = told_rows (settings s x).level (table (settings s x) h)

-- a tracked table with the message that is due
abbrev pub with_due : Scen → Site → List Event → List Row → List Row
with_due s x h rows = after_message (message_due (settings s x) h) rows

-- Once End is sent and no message has failed since the CATCHUP, the table that the messages of the epoch track, with
-- the message that is due, is that of the owner: its rows of class 1 or 2, at level 2 with their users.
abbrev pub Tells : Scen → List Entry → Site → List Event → Option ℕ → Type 0
Tells s t x h None = Unit {0}
Tells s t x h (Some n) = with_due s x h (tracked t n) ≡ told_of_job s x h

abbrev pub TellsAll : Scen → List Entry → Site → List Event → Type 0
TellsAll s t x h = Where (is_caught_up h) (Tells s t x h (epoch h))

-- Before End, once Begin is sent, it is the first of these rows, one for each message that was sent after Begin.
abbrev pub TellsSome : Scen → List Entry → Site → List Event → Option ℕ → Type 0
TellsSome s t x h None = Unit {0}
TellsSome s t x h (Some n) = tracked t n ≡ take (sent h - 1) (told_of_job s x h)

abbrev pub TellsFirst : Scen → List Entry → Site → List Event → Type 0
TellsFirst s t x h = Where (is_owner h && is_restarted h && not (is_end_sent h) && nat_lt 0 (sent h) && not (is_cut h)) (TellsSome s t x h (epoch h))

-- the sender of an incarnation: the job that has it as its epoch, or had it last, as it was then
pub record Sender : Type 0 where
  pub site : Site
  pub history : List Event

abbrev pub has_epoch : ℕ → Option ℕ → Bool
has_epoch n None = false
has_epoch n (Some m) = m == n

abbrev pub sender_at : Site → ℕ → Option (List Event) → Option Sender → Option Sender
sender_at x n None before = before
sender_at x n (Some h) before = if has_epoch n (epoch h) then Some (record { site = x; history = h }) else before

abbrev pub sender : Scen → List Entry → ℕ → Option Sender
sender s [] n = None
sender s (e ∷ t) n = sender_at A n (hist s (e ∷ t) A) (sender_at B n (hist s (e ∷ t) B) (sender s t n))

-- At a RESTARTED whose incarnation has a sender that was caught up: where no message was due, the table right after it
-- is the sender's, settled; and what the messages track lacks at most the change whose message was due.
abbrev pub is_all_sent : Scen → Sender → Bool
is_all_sent s from = is_caught_up from.history && is_none (message_due (settings s from.site) from.history)

abbrev pub KeepsTable : Scen → Site → List Event → Sender → Type 0
KeepsTable s x h from =
    Where (is_all_sent s from) (table (settings s x) (RestartDeclared ∷ h) ≡ settled s.settings.force (told_of_job s from.site from.history))

abbrev pub LacksDue : Scen → List Row → Sender → Type 0
LacksDue s rows from = Where (is_caught_up from.history) (with_due s from.site from.history rows ≡ told_of_job s from.site from.history)

abbrev pub TakesOver : Scen → List Entry → Entry → Site → List Event → Type 0
TakesOver s t e x h = IfSome (sender s t e.inc) (λ from. KeepsTable s x h from × LacksDue s (tracked (e ∷ t) e.inc) from)

pub record TerminalsAreTold (s : Scen) (t : List Entry) : Type 0 where
  pub all : After (λ t. EverySite s t (TellsAll s t)) t
  pub first : After (λ t. EverySite s t (TellsFirst s t)) t
  pub takeovers : Each (λ t e. Where (is_restart e.act) (AtSite s t e.who (TakesOver s t e))) t
