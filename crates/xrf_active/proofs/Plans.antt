-- What a record of an item's plan rests on, and the stages of its log record.
use Rattle.std.proofs.Common.{◌≡◌, ℕ, Bool, true, false, cond, List, ◌∷◌, Option, Some, None, refl, sym, ◌∙◌, ap}
use Rattle.xrf_base.specs.declared.items.UnitId.{UnitId}
use Rattle.xrf_logrec.specs.declared.records.LogRec.TheVariants.{Put}
use Rattle.xrf_file.specs.Ledger.{Ledger, IsPlanned, IsPending, plan_of}
use Rattle.xrf_file.specs.declared.answers.Plan.{Plan}
use Rattle.xrf_file.specs.declared.answers.Plan.TheVariants as plans
use Rattle.xrf_base.specs.declared.items.Item.{Item}
use Rattle.xrf_base.specs.declared.items.Item.TheVariants as items
use Rattle.xrf_base.specs.declared.items.ItemAnswer.TheVariants.{Done}
use Rattle.xrf_terms.specs.declared.rows.Row.{Row}
use Rattle.xrf_msg.specs.declared.messages.Message.{Message}
use Rattle.xrf_base.specs.declared.items.ItemAnswer.{ItemAnswer}
use Rattle.xrf_file.specs.Ledger.{IsUnitItem, planned, after_begin, after_end, begin_answer, closed}
use Rattle.xrf_file.specs.Rows.{unit_named, is_hot}
use Rattle.xrf_active.specs.declared.sending.Sending.{Sending}
use Rattle.xrf_active.specs.Standing.{Sends}
use Rattle.xrf_history.specs.declared.settings.Settings.{Settings}
use Rattle.xrf_history.specs.Events.{Event, Given}
use Rattle.xrf_history.specs.Reserving.{or_else, state_by_item}
use Rattle.xrf_history.specs.Terminals.{terminal_answer, table}
use Rattle.xrf_history.specs.Sending.{sent, message_of_item, message_of_change}
use Rattle.xrf_history.specs.Working.{ledger, answer_of_plan, answer_at_once}
use Rattle.xrf_history.specs.Next.{record_of_plan}

-- a put that is written is the one that its item planned, and gets the number next
pub pending-put : (l : Ledger) (plan : Plan) (slot : List ℕ) (unit : UnitId) (rrn : ℕ) (before : List ℕ) → record_of_plan plan slot ≡ Some (Put unit rrn before) → IsPending l plan
    → (value : List ℕ) × IsPlanned l (plans.Put unit rrn value l.next)
pending-put l (plans.Put u k value place) slot unit rrn before e waits =
    let same_unit : u ≡ unit = cc in
    let same_rrn : k ≡ rrn = cc in
    (value, (waits.1.0, waits.1.1 ∙ ap (λ (n : ℕ). plans.Put u k value n) waits.0 ∙ ap (λ (v : UnitId). plans.Put v k value l.next) same_unit ∙ ap (λ (n : ℕ). plans.Put unit n value l.next) same_rrn))
pending-put l (plans.Answer answer) slot unit rrn before e waits = absurd (cc)
pending-put l (plans.Get k) slot unit rrn before e waits = absurd (cc)
pending-put l (plans.Commit u place) slot unit rrn before e waits = absurd (cc)
pending-put l (plans.Roll u place) slot unit rrn before e waits = absurd (cc)

-- the first of two where the second is none
pub or_else-none : {X : Type 0} → (x : Option X) → or_else x None ≡ x
or_else-none None = refl
or_else-none (Some x) = refl

-- an item on a unit changes no terminal, signs nobody off, and is answered as it is planned
pub unit-state : (item : Item) → IsUnitItem item → state_by_item item ≡ None
unit-state (items.Begin name) is = refl
unit-state (items.Put name rrn value) is = refl
unit-state (items.Get name rrn) is = refl
unit-state (items.Commit name) is = refl
unit-state (items.Roll name) is = refl
unit-state (items.Logon term class) is = absurd is
unit-state (items.Logoff term) is = absurd is
unit-state items.Shutdown is = absurd is
unit-state items.ShutdownTakeover is = absurd is
unit-state (items.Signon term user) is = absurd is
unit-state (items.Signoff term) is = absurd is

pub unit-rows : (item : Item) (rows : List Row) → IsUnitItem item → (terminal_answer item rows).rows ≡ rows
unit-rows (items.Begin name) rows is = refl
unit-rows (items.Put name rrn value) rows is = refl
unit-rows (items.Get name rrn) rows is = refl
unit-rows (items.Commit name) rows is = refl
unit-rows (items.Roll name) rows is = refl
unit-rows (items.Logon term class) rows is = absurd is
unit-rows (items.Logoff term) rows is = absurd is
unit-rows items.Shutdown rows is = absurd is
unit-rows items.ShutdownTakeover rows is = absurd is
unit-rows (items.Signon term user) rows is = absurd is
unit-rows (items.Signoff term) rows is = absurd is

pub unit-message : (p : Settings) (n q : ℕ) (item : Item) (h : List Event) → IsUnitItem item → message_of_item p n q item h ≡ None
unit-message p n q (items.Begin name) h is = refl
unit-message p n q (items.Put name rrn value) h is = refl
unit-message p n q (items.Get name rrn) h is = refl
unit-message p n q (items.Commit name) h is = refl
unit-message p n q (items.Roll name) h is = refl
unit-message p n q (items.Logon term class) h is = absurd is
unit-message p n q (items.Logoff term) h is = absurd is
unit-message p n q items.Shutdown h is = absurd is
unit-message p n q items.ShutdownTakeover h is = absurd is
unit-message p n q (items.Signon term user) h is = absurd is
unit-message p n q (items.Signoff term) h is = absurd is

pub unit-answer : (p : Settings) (h : List Event) (item : Item) → IsUnitItem item → answer_at_once p h item ≡ answer_of_plan (plan_of (ledger p h) item)
unit-answer p h (items.Begin name) is = refl
unit-answer p h (items.Put name rrn value) is = refl
unit-answer p h (items.Get name rrn) is = refl
unit-answer p h (items.Commit name) is = refl
unit-answer p h (items.Roll name) is = refl
unit-answer p h (items.Logon term class) is = absurd is
unit-answer p h (items.Logoff term) is = absurd is
unit-answer p h items.Shutdown is = absurd is
unit-answer p h items.ShutdownTakeover is = absurd is
unit-answer p h (items.Signon term user) is = absurd is
unit-answer p h (items.Signoff term) is = absurd is

-- what a plan leaves of a ledger as it is
pub record IsKept (l after : Ledger) : Type 0 where
  pub slots : after.slots ≡ l.slots
  pub records : after.records ≡ l.records
  pub start : after.start ≡ l.start

kept-answered : (l : Ledger) (name : List ℕ) (answer : ItemAnswer) → IsKept l (after_begin l name answer)
kept-answered l name Done = record { slots = refl; records = refl; start = refl }
kept-answered l name _ = record { slots = refl; records = refl; start = refl }

kept-hot : (l : Ledger) (unit : UnitId) (b : Bool) → IsKept l (cond b l (closed l unit))
kept-hot l unit true = record { slots = refl; records = refl; start = refl }
kept-hot l unit false = record { slots = refl; records = refl; start = refl }

kept-closed : (l : Ledger) (unit : Option UnitId) → IsKept l (after_end l unit)
kept-closed l None = record { slots = refl; records = refl; start = refl }
kept-closed l (Some unit) = kept-hot l unit (is_hot unit l.puts)

pub kept-planned : (l : Ledger) (item : Item) → IsKept l (planned l item)
kept-planned l (items.Begin name) = kept-answered l name (begin_answer l name)
kept-planned l (items.Commit name) = kept-closed l (unit_named name l.units)
kept-planned l (items.Roll name) = kept-closed l (unit_named name l.units)
kept-planned l _ = record { slots = refl; records = refl; start = refl }

-- and of the messages
pub sends-unit : (p : Settings) (s : Option Sending) (item : Item) (h : List Event) → IsUnitItem item → Sends p s h → Sends p s (Given item ∷ h)
sends-unit p None item h is sends = sends
sends-unit p (Some s) item h is sends =
    (sends.0, sends.1, sends.2, sends.3, λ over. sends.4 over ∙ sym (ap (λ (m : Option Message). or_else m (message_of_change p s.writer.epoch (sent h) h)) (unit-message p s.writer.epoch (sent h) item h is)))

-- an item on a terminal leaves the units as they are, and is answered at once
pub terminal-planned : (l : Ledger) (item : Item) → (IsUnitItem item → ⊥) → planned l item ≡ l
terminal-planned l (items.Begin name) is = absurd (is tt)
terminal-planned l (items.Put name rrn value) is = absurd (is tt)
terminal-planned l (items.Get name rrn) is = absurd (is tt)
terminal-planned l (items.Commit name) is = absurd (is tt)
terminal-planned l (items.Roll name) is = absurd (is tt)
terminal-planned l (items.Logon term class) is = refl
terminal-planned l (items.Logoff term) is = refl
terminal-planned l items.Shutdown is = refl
terminal-planned l items.ShutdownTakeover is = refl
terminal-planned l (items.Signon term user) is = refl
terminal-planned l (items.Signoff term) is = refl

pub terminal-plan : (l : Ledger) (item : Item) → (IsUnitItem item → ⊥) → plan_of l item ≡ plans.Answer Done
terminal-plan l (items.Begin name) is = absurd (is tt)
terminal-plan l (items.Put name rrn value) is = absurd (is tt)
terminal-plan l (items.Get name rrn) is = absurd (is tt)
terminal-plan l (items.Commit name) is = absurd (is tt)
terminal-plan l (items.Roll name) is = absurd (is tt)
terminal-plan l (items.Logon term class) is = refl
terminal-plan l (items.Logoff term) is = refl
terminal-plan l items.Shutdown is = refl
terminal-plan l items.ShutdownTakeover is = refl
terminal-plan l (items.Signon term user) is = refl
terminal-plan l (items.Signoff term) is = refl

pub terminal-answer : (p : Settings) (h : List Event) (item : Item) → (IsUnitItem item → ⊥) → answer_at_once p h item ≡ Some (terminal_answer item (table p h)).answer
terminal-answer p h (items.Begin name) is = absurd (is tt)
terminal-answer p h (items.Put name rrn value) is = absurd (is tt)
terminal-answer p h (items.Get name rrn) is = absurd (is tt)
terminal-answer p h (items.Commit name) is = absurd (is tt)
terminal-answer p h (items.Roll name) is = absurd (is tt)
terminal-answer p h (items.Logon term class) is = refl
terminal-answer p h (items.Logoff term) is = refl
terminal-answer p h items.Shutdown is = refl
terminal-answer p h items.ShutdownTakeover is = refl
terminal-answer p h (items.Signon term user) is = refl
terminal-answer p h (items.Signoff term) is = refl

pub ruleset unit_items = (or_else-none, unit-state, unit-rows, unit-message, unit-answer)

pub ruleset terminal_items = (terminal-planned, terminal-plan, terminal-answer)
