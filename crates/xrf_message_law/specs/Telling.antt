-- What was sent tells the owner's terminals.
use Rattle.std.specs.Prelude.{Bool, List, false, take, true, ◌≡◌, ℕ, ◌-◌, [], Some}
use Rattle.xrf_terms.specs.declared.rows.Row.{Row}
use Rattle.xrf_terms.specs.Tracking.{tracked as tracked_by}
use Rattle.xrf_history.specs.Events.{Event}
use Rattle.xrf_history.specs.declared.settings.Settings.{Settings}
use Rattle.xrf_history.specs.Terminals.{after_message, table}
use Rattle.xrf_history.specs.Sending.{message_of_change, sent, told_rows, is_end_sent, is_cut}
use Rattle.xrf_history.specs.Notices.{epoch}
use Rattle.xrf_history.specs.Holding.{is_restarted}
use Rattle.xrf_message_law.specs.Listing.{opened}

-- What the messages that were opened tell: before End the first rows of the table, in its order, and then, with
-- the message that is due, all of it.
abbrev pub TellsBy : Settings → ℕ → List Event → List Row → Bool → Type 0
TellsBy p n h rows false = tracked_by (opened h) ≡ take (sent h - 1) (told_rows p.level rows)
TellsBy p n h rows true = after_message (message_of_change p n (sent h) h) (tracked_by (opened h)) ≡ told_rows p.level rows

-- before its restart is done a job has sent nothing
pub record SentNone (h : List Event) : Type 0 where
  pub sent_none : sent h ≡ 0
  pub opened_none : opened h ≡ []
  pub no_end : is_end_sent h ≡ false

-- what is known before its restart is done, and after
abbrev pub TellsIn : Settings → ℕ → List Event → Bool → Type 0
TellsIn p n h false = SentNone h
TellsIn p n h true = TellsBy p n h (table p h) (is_end_sent h)

-- so it is while no message has failed
abbrev pub Telling : Settings → List Event → Type 0
Telling p h = is_cut h ≡ false → (n : ℕ) → epoch h ≡ Some n → TellsIn p n h (is_restarted h)
