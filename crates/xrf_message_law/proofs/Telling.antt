-- What was opened tells the rows of the table.
use Rattle.std.proofs.Common.{List, None, ◌≡◌, IfSome, Option, Some, Bool, false, take, true, ℕ, ◌+◌, ◌-◌, refl, ap, arith, slice_get, subst, suc, sym, ◌∙◌, eqb-true, zero, ◌==◌, if◌then◌else◌, ◌||◌, ◌∷◌}
use Rattle.xrf_base.specs.declared.items.Item.{Item}
use Rattle.xrf_ctl.specs.declared.parts.Level.{Level}
use Rattle.xrf_ctl.specs.declared.parts.Level.TheVariants.{One, Two}
use Rattle.xrf_cavm.specs.declared.decisions.Decided.{Decided}
use Rattle.xrf_cavm.specs.declared.known.Known.{Known}
use Rattle.xrf_cavm.specs.declared.decisions.Decided.TheVariants.{Owner}
use Rattle.xrf_cavm.specs.declared.decisions.Acting.TheVariants as acting
use Rattle.xrf_msg.specs.declared.messages.Message.{Message}
use Rattle.xrf_msg.specs.declared.messages.Message.TheVariants.{Begin}
use Rattle.xrf_terms.specs.declared.rows.Row.{Row}
use Rattle.xrf_terms.specs.Tracking.{tracked_after, tracked as tracked_by}
use Rattle.xrf_terms.specs.Table.{IsTable}
use Rattle.xrf_history.specs.Events.{Event, MessageOpened, Given, RestartDeclared, MessageRead, Released, ActFailed, DecisionMade, StartedActive, StartedStandby}
use Rattle.xrf_history.specs.declared.settings.Settings.{Settings}
use Rattle.xrf_history.specs.declared.want.Want.{Want}
use Rattle.xrf_history.specs.Sending.{message_due, told_rows, is_end, on_message, on_or_end, told_row, tracked_rows, message_of_catch_up, message_of_change, sent, is_end_sent, message_due_in, message_of_item, is_cut}
use Rattle.xrf_history.proofs.Boundary.{IsIdle, IsCalm, boundary-by}
use Rattle.xrf_history.proofs.Inside.{IsInner, inside-inner}
use Rattle.xrf_history.specs.Next.{inside, next, or_boundary}
use Rattle.xrf_history.specs.Terminals.{table, after_message}
use Rattle.xrf_history.specs.Reserving.{or_else, is_on_message}
use Rattle.xrf_history.specs.Holding.{is_restarted}
use Rattle.xrf_history.specs.Notices.{drop_is_made, epoch}
use Rattle.xrf_history.proofs.Histories.{Comes, IsHistory, induct}
use Rattle.xrf_history.specs.declared.want.Want.TheVariants as want
use Rattle.xrf_trace.specs.declared.entry.Entry.{Entry}
use Rattle.xrf_trace.proofs.Short.{IsShort}
use Rattle.xrf_trace.proofs.JobSteps.{OfJobs, of_job}
use Rattle.xrf_trace.specs.Scenario.{Scen, settings}
use Rattle.xrf_trace.specs.Jobs.{hist}
use Rattle.xrf_trace.proofs.Paths.{history-at}
use Rattle.xrf_message_law.proofs.ToldPlaces.{length-told, ordered-told, set-next, take-past, told-get}
use Rattle.xrf_message_law.proofs.ToldItems.{on-sets, answer-told}
use Rattle.xrf_message_law.specs.Due.{Sending, Declares, DueAt}
use Rattle.xrf_message_law.specs.Telling.{Telling, TellsBy, TellsIn, SentNone}
use Rattle.xrf_message_law.specs.Listing.{opened}
use Rattle.xrf_message_law.proofs.Tables.{tables}
use Rattle.xrf_message_law.proofs.Tests.{neither-left, neither-right}
use Rattle.xrf_message_law.proofs.Due.{due-at}

-- where an item is taken no message is due
abbrev NoneAt : Settings → List Event → Want → Type 0
NoneAt p h want.Item = message_due p h ≡ None
NoneAt p h _ = Unit {0}

-- an idle act is no ITEM
idle-none : (p : Settings) (h : List Event) (w : Want) → IsIdle w → NoneAt p h w
idle-none p h want.Item idle = absurd idle
idle-none p h _ idle = tt

-- nor is an act of a restart
calm-none : (p : Settings) (h : List Event) (w : Want) → IsCalm w → NoneAt p h w
calm-none p h want.Item calm = absurd calm
calm-none p h _ calm = tt

-- nor is an act inside a sequence
inner-none : (p : Settings) (h : List Event) (w : Want) → IsInner w → NoneAt p h w
inner-none p h want.Item inner = absurd inner
inner-none p h _ inner = tt

-- where an ITEM comes next no message is due
none-next : (p : Settings) (h : List Event) → NoneAt p h (next p h)
none-next p h = by (inside p h) (inside-inner p h)
  where
    by : (o : Option Want) → IfSome o IsInner → NoneAt p h (or_boundary p h o)
    by (Some w) inner = inner-none p h w inner
    by None inner = boundary-by (NoneAt p h) p h (record {
      idle = idle-none p h;
      calm = λ w calm works. calm-none p h w calm;
      signals = λ granted works. tt;
      reads = λ alternate due. tt;
      drains = λ works draining. tt;
      restarts = λ works drained not_yet. tt;
      sends = λ works drained restarted m due may. tt;
      works = λ works drained restarted none. none;
    })

-- the message of a catch-up: Begin, the on of the next row, or End
abbrev Caught : Level → List Row → ℕ → List Row → Message → Bool → Type 0
Caught level rows q before m false = tracked_after before m ≡ take (q + 1 - 1) (told_rows level rows)
Caught level rows q before m true = tracked_after before m ≡ told_rows level rows

-- an on is not End
on-no_end : (level : Level) (n q : ℕ) (row : Row) → is_end (on_message level n q row) ≡ false
on-no_end One n q row = refl
on-no_end Two n q row = refl

-- the on of the next row
caught-next : (level : Level) (n q k : ℕ) (rows before : List Row) → IsTable rows → q ≡ suc k → before ≡ take k (told_rows level rows) → (o : Option Row)
    → slice_get (tracked_rows rows) k ≡ o
    → Caught level rows q before (on_or_end level n q o) (is_end (on_or_end level n q o))
caught-next level n q k rows before is same was None past = was ∙ take-past level (tracked_rows rows) k past
caught-next level n q k rows before is same was (Some row) there =
    subst (Caught level rows q before (on_message level n q row)) (sym (on-no_end level n q row))
    (let few = length-told level rows in let most = is.few in let more : suc k ≡ q + 1 - 1 = omega (arith, same) in
    ap (λ (l : List Row). tracked_after l (on_message level n q row)) was ∙ on-sets level n q row (take k (told_rows level rows))
    ∙ set-next (told_row level row) (told_rows level rows) k (ordered-told level rows is.ordered) (omega (arith, few, most))
    (told-get level (tracked_rows rows) k row there)
    ∙ ap (λ (i : ℕ). take i (told_rows level rows)) more)

-- so the message of a catch-up tells one row more, or is End
caught-up : (p : Settings) (n q : ℕ) (rows before : List Row) → IsTable rows → before ≡ take (q - 1) (told_rows p.level rows)
    → Caught p.level rows q before (message_of_catch_up p n q rows) (is_end (message_of_catch_up p n q rows))
caught-up p n q rows before is was = by (q == 0) refl
  where
    least : (q == 0) ≡ false → q ≡ suc (q - 1)
    least no_it = cases q no_it
      where
        cases : (i : ℕ) → (i == 0) ≡ false → i ≡ suc (i - 1)
        cases zero other = absurd (cc)
        cases (suc j) other = omega arith

    by : (b : Bool) → (q == 0) ≡ b
        → Caught p.level rows q before (if b then Begin n else on_or_end p.level n q (slice_get (tracked_rows rows) (q - 1)))
        (is_end (if b then Begin n else on_or_end p.level n q (slice_get (tracked_rows rows) (q - 1))))
    by true first = let none : q ≡ 0 = eqb-true q 0 first in ap (λ (i : ℕ). take (i + 1 - 1) (told_rows p.level rows)) (sym none)
    by false later = caught-next p.level n q (q - 1) rows before is (least later) was (slice_get (tracked_rows rows) (q - 1)) refl

-- the message due of an epoch, before End and after
abbrev pub due_by : Settings → ℕ → List Event → Bool → Option Message
due_by p n h e = elim e [ true ↦ message_of_change p n (sent h) h | false ↦ Some (message_of_catch_up p n (sent h) (table p h)) ]

-- a message that is opened
telling-opened : (p : Settings) (h : List Event) (k : ℕ) (m : Message) → Sending p h k m → Telling p h → Telling p (MessageOpened k m ∷ h)
telling-opened p h k m sending before uncut n ep =
    subst (TellsIn p n (MessageOpened k m ∷ h)) (sym sending.restarted)
    (by (is_end_sent h) refl due (subst (TellsIn p n h) sending.restarted (before uncut n ep)))
  where
    due : message_due_in p (Some n) h ≡ Some m
    due = ap (λ (o : Option ℕ). message_due_in p o h) (sym ep) ∙ sending.due

    caught : (b : Bool) → Caught p.level (table p h) (sent h) (tracked_by (opened h)) m b → TellsBy p n (MessageOpened k m ∷ h) (table p h) b
    caught true is = is
    caught false is = is

    by : (e : Bool) → is_end_sent h ≡ e → due_by p n h e ≡ Some m
        → TellsBy p n h (table p h) e → TellsBy p n (MessageOpened k m ∷ h) (table p h) (e || is_end m)
    by true is some was = ap (λ (o : Option Message). after_message o (tracked_by (opened h))) (sym some) ∙ was
    by false is some was =
        let same : message_of_catch_up p n (sent h) (table p h) ≡ m = cc in
        caught (is_end m)
        (subst (λ (one : Message). Caught p.level (table p h) (sent h) (tracked_by (opened h)) one (is_end one)) same (caught-up p n (sent h) (table p h)
        (tracked_by (opened h)) (tables p h) was))

-- an item: the message that is due then tells what it makes of the table
or_else-none : (o : Option Message) → or_else o None ≡ o
or_else-none None = refl
or_else-none (Some m) = refl

-- an item that is given
telling-given : (p : Settings) (h : List Event) (item : Item) → is_restarted h ≡ true → message_due p h ≡ None → Telling p h → Telling p (Given item ∷ h)
telling-given p h item restarted none before uncut n ep =
    subst (TellsIn p n (Given item ∷ h)) (sym restarted) (by (is_end_sent h) due (subst (TellsIn p n h) restarted (before uncut n ep)))
  where
    due : message_due_in p (Some n) h ≡ None
    due = ap (λ (o : Option ℕ). message_due_in p o h) (sym ep) ∙ none

    by : (e : Bool) → due_by p n h e ≡ None
        → TellsBy p n h (table p h) e → TellsBy p n (Given item ∷ h) (table p (Given item ∷ h)) e
    by true none was =
        let all : tracked_by (opened h) ≡ told_rows p.level (table p h) = ap (λ (o : Option Message). after_message o (tracked_by (opened h)))
        (sym none) ∙ was in
        ap (λ (o : Option Message). after_message (or_else (message_of_item p n (sent h) item h) o) (tracked_by (opened h))) none
        ∙ ap (λ (o : Option Message). after_message o (tracked_by (opened h))) (or_else-none (message_of_item p n (sent h) item h))
        ∙ ap (after_message (message_of_item p n (sent h) item h)) all
        ∙ answer-told p.level n (sent h) item (table p h) (tables p h)
    by false some was = absurd (cc)

-- RESTARTED
telling-restarted : (p : Settings) (h : List Event) → is_restarted h ≡ false → Telling p h → Telling p (RestartDeclared ∷ h)
telling-restarted p h not_yet before uncut n ep =
    let none : SentNone h = subst (TellsIn p n h) not_yet (before uncut n ep) in
    subst (TellsBy p n (RestartDeclared ∷ h) (table p (RestartDeclared ∷ h))) (sym none.no_end)
    (ap tracked_by none.opened_none ∙ ap (λ (q : ℕ). take (q - 1) (told_rows p.level (table p (RestartDeclared ∷ h)))) (sym none.sent_none))

-- a MSGREAD leaves the table of a job that is restarted
telling-read : (p : Settings) (h : List Event) (k : ℕ) (slot : List ℕ) → Telling p h → Telling p (MessageRead k slot ∷ h)
telling-read p h k slot before uncut n ep = by (is_restarted h) refl (before uncut n ep)
  where
    rows : (e : Bool) (now : List Row) → now ≡ table p h → TellsBy p n h (table p h) e → TellsBy p n (MessageRead k slot ∷ h) now e
    rows true now same was = was ∙ ap (told_rows p.level) (sym same)
    rows false now same was = was ∙ ap (λ (l : List Row). take (sent h - 1) (told_rows p.level l)) (sym same)

    by : (b : Bool) → is_restarted h ≡ b → TellsIn p n h b → TellsIn p n (MessageRead k slot ∷ h) b
    by true restarted was = rows (is_end_sent h) (table p (MessageRead k slot ∷ h)) (rw restarted refl) was
    by false not_yet was = record { sent_none = was.sent_none; opened_none = was.opened_none; no_end = was.no_end }

-- a RELEASE
telling-released : (p : Settings) (h : List Event) → Telling p h → Telling p (Released ∷ h)
telling-released p h before uncut n ep = by (drop_is_made h) ep
  where
    on : (b : Bool) → TellsIn p n h b → TellsIn p n (Released ∷ h) b
    on true was = ended (is_end_sent h) was
      where
        ended : (e : Bool) → TellsBy p n h (table p h) e → TellsBy p n (Released ∷ h) (table p h) e
        ended true was = was
        ended false was = was
    on false was = record { sent_none = was.sent_none; opened_none = was.opened_none; no_end = was.no_end }

    by : (b : Bool) → (if b then None else epoch h) ≡ Some n → TellsIn p n (Released ∷ h) (is_restarted h)
    by true gone = absurd (cc)
    by false is = on (is_restarted h) (before uncut n is)

-- the same, over an event that none of its words sees
abbrev IsUntold : Event → Type 0
IsUntold StartedActive = ⊥
IsUntold StartedStandby = ⊥
IsUntold Released = ⊥
IsUntold (DecisionMade known at d) = ⊥
IsUntold (MessageRead k slot) = ⊥
IsUntold (MessageOpened k m) = ⊥
IsUntold (Given item) = ⊥
IsUntold RestartDeclared = ⊥
IsUntold (ActFailed w at) = ⊥
IsUntold _ = Unit {0}

-- before End, and after
tells-by : (p : Settings) (n : ℕ) (h : List Event) (e : Event) (b : Bool) → IsUntold e → TellsBy p n h (table p h) b → TellsBy p n (e ∷ h) (table p (e ∷ h)) b
tells-by p n h StartedActive b is was = absurd is
tells-by p n h StartedStandby b is was = absurd is
tells-by p n h Released b is was = absurd is
tells-by p n h (DecisionMade known at d) b is was = absurd is
tells-by p n h (MessageRead k slot) b is was = absurd is
tells-by p n h (MessageOpened k m) b is was = absurd is
tells-by p n h (Given item) b is was = absurd is
tells-by p n h RestartDeclared b is was = absurd is
tells-by p n h (ActFailed w at) b is was = absurd is
tells-by p n h _ true is was = was
tells-by p n h _ false is was = was

-- before its restart is done, and after
tells-in : (p : Settings) (n : ℕ) (h : List Event) (e : Event) (b : Bool) → IsUntold e → TellsIn p n h b → TellsIn p n (e ∷ h) b
tells-in p n h StartedActive b is was = absurd is
tells-in p n h StartedStandby b is was = absurd is
tells-in p n h Released b is was = absurd is
tells-in p n h (DecisionMade known at d) b is was = absurd is
tells-in p n h (MessageRead k slot) b is was = absurd is
tells-in p n h (MessageOpened k m) b is was = absurd is
tells-in p n h (Given item) b is was = absurd is
tells-in p n h RestartDeclared b is was = absurd is
tells-in p n h (ActFailed w at) b is was = absurd is
tells-in p n h e true is was = tells-by p n h e (is_end_sent h) tt was
tells-in p n h _ false is was = record { sent_none = was.sent_none; opened_none = was.opened_none; no_end = was.no_end }

-- so what is told stays
telling-on : (p : Settings) (h : List Event) (e : Event) → IsUntold e → Telling p h → Telling p (e ∷ h)
telling-on p h StartedActive is before uncut n ep = absurd is
telling-on p h StartedStandby is before uncut n ep = absurd is
telling-on p h Released is before uncut n ep = absurd is
telling-on p h (DecisionMade known at d) is before uncut n ep = absurd is
telling-on p h (MessageRead k slot) is before uncut n ep = absurd is
telling-on p h (MessageOpened k m) is before uncut n ep = absurd is
telling-on p h (Given item) is before uncut n ep = absurd is
telling-on p h RestartDeclared is before uncut n ep = absurd is
telling-on p h (ActFailed w at) is before uncut n ep = absurd is
telling-on p h e is before uncut n ep = tells-in p n h e (is_restarted h) tt (before uncut n ep)

-- a DECIDE: a CATCHUP begins anew
decided-in : (p : Settings) (n : ℕ) (h : List Event) (known : Known) (at : ℕ) (d : Decided) (b : Bool) → sent (DecisionMade known at d ∷ h) ≡ sent h
    → opened (DecisionMade known at d ∷ h) ≡ opened h
    → is_end_sent (DecisionMade known at d ∷ h) ≡ is_end_sent h → TellsIn p n h b → TellsIn p n (DecisionMade known at d ∷ h) b
decided-in p n h known at d true same_sent same_opened same_end was =
    subst (TellsBy p n (DecisionMade known at d ∷ h) (table p h)) (sym same_end) (by (is_end_sent h) was)
  where
    by : (e : Bool) → TellsBy p n h (table p h) e → TellsBy p n (DecisionMade known at d ∷ h) (table p h) e
    by true was =
        ap (λ (q : ℕ). after_message (message_of_change p n q h) (tracked_by (opened (DecisionMade known at d ∷ h)))) same_sent
        ∙ ap (λ (l : List Message). after_message (message_of_change p n (sent h) h) (tracked_by l)) same_opened ∙ was
    by false was = ap tracked_by same_opened ∙ was ∙ ap (λ (q : ℕ). take (q - 1) (told_rows p.level (table p h))) (sym same_sent)
decided-in p n h known at d false same_sent same_opened same_end was =
    record { sent_none = same_sent ∙ was.sent_none; opened_none = same_opened ∙ was.opened_none; no_end = same_end ∙ was.no_end }

-- so a decision keeps what is told
telling-decided : (p : Settings) (h : List Event) (known : Known) (at : ℕ) (d : Decided) → Telling p h → Telling p (DecisionMade known at d ∷ h)
telling-decided p h known at (Owner (acting.CatchUp m)) before uncut n ep = by (is_restarted h)
  where
    by : (b : Bool) → TellsIn p n (DecisionMade known at (Owner (acting.CatchUp m)) ∷ h) b
    by true = refl
    by false = record { sent_none = refl; opened_none = refl; no_end = refl }
telling-decided p h known at (Owner acting.Forget) before uncut n ep = absurd (cc)
telling-decided p h known at (Owner d) before uncut n ep = decided-in p n h known at (Owner d) (is_restarted h) refl refl refl (before uncut n ep)
telling-decided p h known at d before uncut n ep = decided-in p n h known at d (is_restarted h) refl refl refl (before uncut n ep)

-- a failed act that is on no message
failed-in : (p : Settings) (n : ℕ) (h : List Event) (w : Want) (at : ℕ) (b : Bool) → (is_on_message w ≡ true → ⊥) → TellsIn p n h b
    → TellsIn p n (ActFailed w at ∷ h) b
failed-in p n h (want.MsgOpen k m) at b off was = absurd (off refl)
failed-in p n h w at true off was = by (is_end_sent h) was
  where
    by : (e : Bool) → TellsBy p n h (table p h) e → TellsBy p n (ActFailed w at ∷ h) (table p h) e
    by true was = was
    by false was = was
failed-in p n h _ at false off was = record { sent_none = was.sent_none; opened_none = was.opened_none; no_end = was.no_end }

-- a failed act
telling-failed : (p : Settings) (h : List Event) (w : Want) (at : ℕ) → Telling p h → Telling p (ActFailed w at ∷ h)
telling-failed p h w at before uncut n ep =
    failed-in p n h w at (is_restarted h) (neither-right (is_cut h) (is_on_message w) uncut) (before (neither-left (is_cut h) (is_on_message w) uncut) n ep)

-- an event that comes
telling-step : (p : Settings) (h : List Event) (e : Event) → IsHistory p h → Comes p h e → Telling p h → Telling p (e ∷ h)
telling-step p h StartedActive is comes before = absurd comes
telling-step p h StartedStandby is comes before = absurd comes
telling-step p h Released is comes before = telling-released p h before
telling-step p h (DecisionMade known at d) is comes before = telling-decided p h known at d before
telling-step p h (MessageRead k slot) is comes before = telling-read p h k slot before
telling-step p h (MessageOpened k m) is comes before = telling-opened p h k m (subst (DueAt p h) comes (due-at p h is).due) before
telling-step p h (Given item) is comes before =
    telling-given p h item (subst (DueAt p h) comes (due-at p h is).due) (subst (NoneAt p h) comes (none-next p h)) before
telling-step p h RestartDeclared is comes before =
    let declares : Declares h = subst (DueAt p h) comes (due-at p h is).due in telling-restarted p h declares.not_yet before
telling-step p h (ActFailed w at) is comes before = telling-failed p h w at before
telling-step p h e is comes before = telling-on p h e tt before

-- **of every history**
pub telling : (p : Settings) (h : List Event) → IsHistory p h → Telling p h
telling p h is = induct Telling (λ p uncut n ep. absurd (cc)) (λ p uncut n ep. absurd (cc)) telling-step p h is

-- in every run
pub are_telling : (s : Scen) (t : List Entry) → IsShort s t → OfJobs s t (λ x h. Telling (settings s x) h)
are_telling s t is x = of_job (λ y h. Telling (settings s y) h) x (hist s t x) (λ h there. telling (settings s x) h (history-at s t x h is.run there))
