-- The terminal table of a job.
use Rattle.std.specs.Prelude.{List, [], ◌∷◌, Option, Some, None, if◌then◌else◌}
use Rattle.xrf_base.specs.declared.items.Item.{Item}
use Rattle.xrf_base.specs.declared.items.Item.TheVariants as items
use Rattle.xrf_base.specs.declared.items.ItemAnswer.TheVariants.{Done}
use Rattle.xrf_msg.specs.declared.messages.Message.{Message}
use Rattle.xrf_msg.specs.Numbers.{given}
use Rattle.xrf_terms.specs.declared.rows.Row.{Row}
use Rattle.xrf_terms.specs.Items.{Answered, answered, logon, logoff, signon, signoff}
use Rattle.xrf_terms.specs.Tracking.{tracked_after, settled}
use Rattle.xrf_history.specs.declared.settings.Settings.{Settings}
use Rattle.xrf_history.specs.Events.{Event, MessageRead, RestartDeclared, Given}
use Rattle.xrf_history.specs.Holding.{number, is_restarted}
use Rattle.xrf_history.specs.Taking.{expected}

-- the table after a message, if a slot gave one
abbrev pub after_message : Option Message → List Row → List Row
after_message None rows = rows
after_message (Some message) rows = tracked_after rows message

-- what an item is answered of the table, and the table after it; CEMT is answered Done
abbrev pub terminal_answer : Item → List Row → Answered
terminal_answer (items.Logon term class) rows = logon term class rows
terminal_answer (items.Logoff term) rows = logoff term rows
terminal_answer (items.Signon term user) rows = signon term user rows
terminal_answer (items.Signoff term) rows = signoff term rows
terminal_answer _ rows = answered Done rows

-- The table: the fold of the messages taken, settled at RESTARTED, and then changed by each LOGON, LOGOFF,
-- SIGNON and SIGNOFF that is answered Done.
abbrev pub table : Settings → List Event → List Row
table p [] = []
table p (MessageRead place slot ∷ h) = if is_restarted h then table p h else after_message (given slot (number h) (expected h)) (table p h)
table p (RestartDeclared ∷ h) = settled p.force (table p h)
table p (Given item ∷ h) = (terminal_answer item (table p h)).rows
table p (_ ∷ h) = table p h
