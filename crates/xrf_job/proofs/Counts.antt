-- What a job counts is no more than the events of its history.
use Rattle.std.proofs.Common.{◌≡◌, ℕ, ◌+◌, ◌≤◌, Bool, true, false, List, [], ◌∷◌, length, cond, Option, Some, None, refl, arith}
use Rattle.xrf_base.specs.declared.items.Item.{Item}
use Rattle.xrf_base.specs.declared.items.Item.TheVariants as items
use Rattle.xrf_base.specs.declared.items.ItemAnswer.{ItemAnswer}
use Rattle.xrf_base.specs.declared.items.ItemAnswer.TheVariants.{Done}
use Rattle.xrf_base.specs.declared.items.UnitId.{UnitId}
use Rattle.xrf_cavm.specs.declared.decisions.Decided.{Decided}
use Rattle.xrf_cavm.specs.declared.decisions.Decided.TheVariants.{Owner}
use Rattle.xrf_cavm.specs.declared.decisions.Acting.TheVariants as acting
use Rattle.xrf_logrec.specs.declared.records.LogRec.{LogRec}
use Rattle.xrf_logrec.specs.declared.records.LogRec.TheVariants.{Put, Commit, Backout}
use Rattle.xrf_msg.specs.declared.messages.Message.{Message}
use Rattle.xrf_msg.specs.Numbers.{given}
use Rattle.xrf_file.specs.Ledger.{Ledger, planned, after_begin, after_end, begin_answer}
use Rattle.xrf_file.specs.Rows.{unit_named, is_hot}
use Rattle.xrf_history.specs.declared.settings.Settings.{Settings}
use Rattle.xrf_history.specs.declared.want.Want.TheVariants as want
use Rattle.xrf_history.specs.Events.{Event, Signalled1, RecordUndone, LogOpened, KeyOpened, MessageOpened, MessageRead, DecisionMade, Given, FirstBlockRead, BlockRead, RestartDeclared, ActFailed}
use Rattle.xrf_history.specs.Holding.{number, is_restarted}
use Rattle.xrf_history.specs.Taking.{taken, with_message, expected}
use Rattle.xrf_history.specs.Rows.{rounds}
use Rattle.xrf_history.specs.Restarting.{undone, records_opened}
use Rattle.xrf_history.specs.Working.{ledger, after_record, undone_of_item}
use Rattle.xrf_history.specs.Sending.{sent, sent_after}

pub rounds-few : (h : List Event) → rounds h ≤ length h
rounds-few [] = omega arith
rounds-few (Signalled1 signal ∷ h) = let few = rounds-few h in omega arith
rounds-few (_ ∷ h) = let few = rounds-few h in omega arith

pub undone-few : (h : List Event) → undone h ≤ length h
undone-few [] = omega arith
undone-few (RecordUndone rrn before ∷ h) = let few = undone-few h in omega arith
undone-few (ActFailed (want.Undo rrn before) at ∷ h) = let few = undone-few h in omega arith
undone-few (FirstBlockRead block keys ∷ h) = omega arith
undone-few (BlockRead block ∷ h) = omega arith
undone-few (_ ∷ h) = let few = undone-few h in omega arith

pub rolled-few : (h : List Event) → undone_of_item h ≤ length h
rolled-few [] = omega arith
rolled-few (Given item ∷ h) = omega arith
rolled-few (RecordUndone rrn before ∷ h) = let few = rolled-few h in omega arith
rolled-few (ActFailed (want.Undo rrn before) at ∷ h) = let few = rolled-few h in omega arith
rolled-few (_ ∷ h) = let few = rolled-few h in omega arith

pub opened-few : (h : List Event) → records_opened h ≤ length h
opened-few [] = omega arith
opened-few (LogOpened place rec ∷ h) = let few = opened-few h in omega arith
opened-few (ActFailed (want.LogOpen place rec) at ∷ h) = let few = opened-few h in omega arith
opened-few (_ ∷ h) = let few = opened-few h in omega arith

-- a decision adds none to the messages sent
sent_after-le : (decision : Decided) (n : ℕ) → sent_after decision n ≤ n
sent_after-le (Owner (acting.CatchUp inc)) n = omega arith
sent_after-le _ n = omega arith

pub sent-few : (h : List Event) → sent h ≤ length h
sent-few [] = omega arith
sent-few (DecisionMade known at decision ∷ h) = let few = sent-few h in let le = sent_after-le decision (sent h) in omega arith
sent-few (MessageOpened place message ∷ h) = let few = sent-few h in omega arith
sent-few (ActFailed (want.MsgOpen place message) at ∷ h) = let few = sent-few h in omega arith
sent-few (_ ∷ h) = let few = sent-few h in omega arith

-- a slot adds one message at most
with_message-le : (message : Option Message) (messages : List Message) → length (with_message message messages) ≤ length messages + 1
with_message-le None messages = omega arith
with_message-le (Some message) messages = omega arith

taken-read : (b : Bool) (message : Option Message) (messages : List Message) (n : ℕ) → length messages ≤ n → length (cond b messages (with_message message messages)) ≤ n + 1
taken-read true message messages n few = omega arith
taken-read false message messages n few = let le = with_message-le message messages in omega arith

pub expected-few : (h : List Event) → expected h ≤ length h
expected-few [] = omega arith
expected-few (MessageRead place slot ∷ h) =
    let few = taken-read (is_restarted h) (given slot (number h) (length (taken h))) (taken h) (length h) (expected-few h) in omega arith
expected-few (_ ∷ h) = let few = expected-few h in omega arith

-- an item opens one unit at most
begun-answered : (l : Ledger) (name : List ℕ) (answer : ItemAnswer) → (after_begin l name answer).begun ≤ l.begun + 1
begun-answered l name Done = omega arith
begun-answered l name _ = omega arith

begun-closed : (l : Ledger) (unit : Option UnitId) → (after_end l unit).begun ≡ l.begun
begun-closed l None = refl
begun-closed l (Some unit) = by (is_hot unit l.puts) refl
  where
    by : (b : Bool) → is_hot unit l.puts ≡ b → (after_end l (Some unit)).begun ≡ l.begun
    by true e = rw e refl
    by false e = rw e refl

begun-planned : (l : Ledger) (item : Item) → (planned l item).begun ≤ l.begun + 1
begun-planned l (items.Begin name) = begun-answered l name (begin_answer l name)
begun-planned l (items.Commit name) = let same = begun-closed l (unit_named name l.units) in omega arith
begun-planned l (items.Roll name) = let same = begun-closed l (unit_named name l.units) in omega arith
begun-planned l _ = omega arith

begun-recorded : (rec : LogRec) (l : Ledger) → (after_record rec l).begun ≡ l.begun
begun-recorded (Put unit rrn before) l = refl
begun-recorded (Commit unit) l = refl
begun-recorded (Backout unit) l = refl

pub begun-few : (p : Settings) (h : List Event) → (ledger p h).begun ≤ length h
begun-few p [] = omega arith
begun-few p (RestartDeclared ∷ h) = omega arith
begun-few p (Given item ∷ h) = let few = begun-few p h in let le = begun-planned (ledger p h) item in omega arith
begun-few p (LogOpened place rec ∷ h) = let few = begun-few p h in let same = begun-recorded rec (ledger p h) in omega arith
begun-few p (KeyOpened place keypoint ∷ h) = let few = begun-few p h in omega arith
begun-few p (ActFailed (want.LogOpen place rec) at ∷ h) = let few = begun-few p h in let same = begun-recorded rec (ledger p h) in omega arith
begun-few p (ActFailed (want.KpOpen place keypoint) at ∷ h) = let few = begun-few p h in omega arith
begun-few p (_ ∷ h) = let few = begun-few p h in omega arith

-- the counts of the words of a history
pub ruleset counts = (rounds-few, undone-few, rolled-few, opened-few, sent-few, expected-few, begun-few)
