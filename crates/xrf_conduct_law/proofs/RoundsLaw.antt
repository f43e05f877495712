-- In every run a round is whole, its signals are its own, and in a tick no other work is begun before it.
use Rattle.std.proofs.Common.{◌≡◌, ℕ, ◌+◌, ◌%◌, Bool, true, false, List, [], ◌∷◌, length, nat_lt, nat_le, Option, Some, None, IfSome, refl, sym, ap, ◌∙◌, subst, arith, if◌then◌else◌}
use Rattle.std.proofs.lemmas.Grind.{common_steps}
use Rattle.std.specs.Option.{option_map}
use Rattle.xrf_base.specs.declared.site.Site.{Site}
use Rattle.xrf_base.specs.declared.items.UnitId.{UnitId}
use Rattle.xrf_ctl.specs.declared.parts.Cause.{Cause}
use Rattle.xrf_ctl.specs.declared.parts.OwnerState.{OwnerState}
use Rattle.xrf_exit.specs.declared.Notice.{Notice}
use Rattle.xrf_logrec.specs.declared.records.LogRec.{LogRec}
use Rattle.xrf_logrec.specs.declared.records.LogRec.TheVariants.{Backout}
use Rattle.xrf_logrec.specs.declared.records.Undo.{Undo}
use Rattle.xrf_msg.specs.declared.messages.Message.{Message}
use Rattle.xrf_msg.specs.Messages.{number_of}
use Rattle.xrf_history.specs.declared.settings.Settings.{Settings}
use Rattle.xrf_history.specs.declared.want.EndWhy.{EndWhy}
use Rattle.xrf_history.specs.declared.want.EndWhy.TheVariants as end
use Rattle.xrf_history.specs.declared.want.Want.{Want}
use Rattle.xrf_history.specs.declared.want.Want.TheVariants as want
use Rattle.xrf_history.specs.Events.{Event, StartedActive, StartedStandby, Ticked, Abended, Replied, Commanded, Exited, Signalled1, Signalled2, Looked1, Looked2, DecisionMade, FirstBlockRead, BlockRead, EndedAs, ActFailed, MessageRead, MessageClosed, LogLooked, LogClosed, LogOpened, KeyLooked, RecordRead, RecordUndone, Given, ControlRead, Released}
use Rattle.xrf_history.specs.Answers.{may_fail}
use Rattle.xrf_history.specs.Holding.{is_owner, is_restarted}
use Rattle.xrf_history.specs.Notices.{notice}
use Rattle.xrf_history.specs.Reserving.{sign_off_due, drop_due, start_due, through_due, leaves}
use Rattle.xrf_history.specs.Taking.{is_draining}
use Rattle.xrf_history.specs.Restarting.{scan, rows_left, backouts_left, next_record}
use Rattle.xrf_history.specs.Working.{keypoint_due, next_keypoint}
use Rattle.xrf_history.specs.Sending.{may_write, message_due}
use Rattle.xrf_history.specs.Rows.{rounds, round_due, signal_of, reading_due, reading_place, log_write, backout_next, undo_next, restart_next, active_next, owner_works, owner_row, alternate_tracks, alternate_starts, alternate_row, alternate_next, lines_left, lines_issued, boundary}
use Rattle.xrf_history.specs.Next.{inside, next, or_boundary}
use Rattle.xrf_history.proofs.Histories.{IsHistory, Comes, induct}
use Rattle.xrf_history.proofs.Rounds.{is_rounds, is_rounds_of, rounds-after}
use Rattle.xrf_history.proofs.News.{inside-is}
use Rattle.xrf_trace.specs.declared.entry.Entry.{Entry}
use Rattle.xrf_trace.specs.declared.entry.Act.{Act}
use Rattle.xrf_trace.specs.declared.entry.Act.TheVariants as act
use Rattle.xrf_trace.specs.Scenario.{Scen, settings, work}
use Rattle.xrf_trace.specs.Words.{who_at, items_taken}
use Rattle.xrf_trace.specs.Jobs.{hist}
use Rattle.xrf_trace.specs.Acts.{is_act, act_of, next_item}
use Rattle.xrf_trace.specs.Runs.{IsRun}
use Rattle.xrf_trace.specs.Each.{AtSite, Where}
use Rattle.xrf_trace.proofs.Paths.{history-at}
use Rattle.xrf_trace.proofs.AtSites.{at-site, each-of, made-at}
use Rattle.xrf_trace.specs.RoundsAreWhole.{made_since_signal, in_round, place_in_round, begins_work, IsOfRound, RoundsAreWhole}
use Rattle.xrf_conduct_law.proofs.Begun.{is_begun, begins-at}

-- one act more
abbrev one_more : Option ℕ → Option ℕ
one_more o = option_map (λ n. n + 1) o

-- the act that is due in the sequence, against the place in the round
abbrev AtRound : List Event → Option Want → Type 0
AtRound h None = in_round (made_since_signal h) ≡ None
AtRound h (Some (want.Signal2 signal)) = (made_since_signal h ≡ Some 0) × (signal ≡ signal_of h (rounds h))
AtRound h (Some want.Look1) = made_since_signal h ≡ Some 1
AtRound h (Some want.Look2) = made_since_signal h ≡ Some 2
AtRound h (Some want.Decide) = made_since_signal h ≡ Some 3
AtRound h (Some _) = in_round (made_since_signal h) ≡ None

-- no act of a round is due where no round goes on
plain-at : (h : List Event) (o : Option Want) → (is_rounds_of o ≡ true → ⊥) → in_round (made_since_signal h) ≡ None → AtRound h o
plain-at h None plain out = out
plain-at h (Some (want.Signal2 signal)) plain out = absurd (plain refl)
plain-at h (Some want.Look1) plain out = absurd (plain refl)
plain-at h (Some want.Look2) plain out = absurd (plain refl)
plain-at h (Some want.Decide) plain out = absurd (plain refl)
plain-at h (Some _) plain out = out

-- and no round goes on where none is due
at-plain : (h : List Event) (o : Option Want) → is_rounds_of o ≡ false → AtRound h o → in_round (made_since_signal h) ≡ None
at-plain h None plain at = at
at-plain h (Some (want.Signal2 signal)) plain at = absurd (cc)
at-plain h (Some want.Look1) plain at = absurd (cc)
at-plain h (Some want.Look2) plain at = absurd (cc)
at-plain h (Some want.Decide) plain at = absurd (cc)
at-plain h (Some _) plain at = at

-- where the next act is none of a round, none goes on
out-of : (p : Settings) (h : List Event) → AtRound h (inside p h) → is_rounds (next p h) ≡ false → in_round (made_since_signal h) ≡ None
out-of p h at plain = by (inside p h) plain at
  where
    by : (o : Option Want) → is_rounds (or_boundary p h o) ≡ false → AtRound h o → in_round (made_since_signal h) ≡ None
    by None plain at = at
    by (Some w) plain at = at-plain h (Some w) plain at

-- one act more leaves it so
out-more : (o : Option ℕ) → in_round o ≡ None → in_round (one_more o) ≡ None
out-more None out = refl
out-more (Some n) out = grind (arith, common_steps)

-- what passes inside a sequence leaves its place
pass : (h g : List Event) (o : Option Want) → made_since_signal g ≡ made_since_signal h → signal_of g (rounds g) ≡ signal_of h (rounds h) → AtRound h o → AtRound g o
pass h g None made same at = ap in_round made ∙ at
pass h g (Some (want.Signal2 signal)) made same at = (made ∙ at.0, at.1 ∙ sym same)
pass h g (Some want.Look1) made same at = made ∙ at
pass h g (Some want.Look2) made same at = made ∙ at
pass h g (Some want.Decide) made same at = made ∙ at
pass h g (Some _) made same at = ap in_round made ∙ at

-- no act of a round may fail
fails-plain : (w : Want) → may_fail w ≡ true → is_rounds w ≡ false
fails-plain (want.Signal2 signal) may = absurd (cc)
fails-plain want.Look1 may = absurd (cc)
fails-plain want.Look2 may = absurd (cc)
fails-plain want.Decide may = absurd (cc)
fails-plain _ may = refl

abbrev InPlace : Settings → List Event → Type 0
InPlace p h = AtRound h (inside p h)

-- the act of a round that is next stands in its place
place-is : (p : Settings) (h : List Event) (w : Want) → InPlace p h → next p h ≡ w → is_rounds w ≡ true → AtRound h (Some w)
place-is p h w at is rounds = subst (AtRound h) (inside-is p h w is rounds) at

place-step : (p : Settings) (h : List Event) (e : Event) → IsHistory p h → Comes p h e → InPlace p h → InPlace p (e ∷ h)
place-step p h StartedActive is comes at = absurd comes
place-step p h StartedStandby is comes at = absurd comes
place-step p h Ticked is comes at = pass h (Ticked ∷ h) (inside p h) refl refl at
place-step p h Abended is comes at = pass h (Abended ∷ h) (inside p h) refl refl at
place-step p h (Replied go n) is comes at = pass h (Replied go n ∷ h) (inside p h) refl refl at
place-step p h (Commanded command n) is comes at = pass h (Commanded command n ∷ h) (inside p h) refl refl at
place-step p h (Exited answer n) is comes at = pass h (Exited answer n ∷ h) (inside p h) refl refl at
place-step p h (Signalled1 signal) is comes at = (refl, refl)
place-step p h (Signalled2 signal) is comes at = ap one_more (place-is p h (want.Signal2 signal) at comes refl).0
place-step p h (Looked1 held signal) is comes at = ap one_more (place-is p h want.Look1 at comes refl)
place-step p h (Looked2 signal n) is comes at = ap one_more (place-is p h want.Look2 at comes refl)
place-step p h (DecisionMade known n decision) is comes at = ap (λ (o : Option ℕ). in_round (one_more o)) (place-is p h want.Decide at comes.0 refl)
place-step p h (FirstBlockRead block keys) is comes at = out-more (made_since_signal h) (out-of p h at (ap is_rounds comes.1))
place-step p h (BlockRead block) is comes at = out-more (made_since_signal h) (out-of p h at (ap is_rounds comes.1))
place-step p h (EndedAs reason) is comes at = absurd comes
place-step p h (ActFailed tried n) is comes at = out-more (made_since_signal h) (out-of p h at (ap is_rounds comes.0 ∙ fails-plain tried comes.1))
place-step p h e is comes at =
    plain-at (e ∷ h) (inside p (e ∷ h)) (rounds-after p h e refl) (out-more (made_since_signal h) (out-of p h at (ap is_rounds comes)))

-- of every history
in-place : (p : Settings) (h : List Event) → IsHistory p h → InPlace p h
in-place p h is = induct InPlace (λ p. refl) (λ p. refl) place-step p h is

-- what is known of it there
abbrev AtRow : List Event → (due : Bool) → Want → Type 0
AtRow h due (want.Signal1 signal) = (signal ≡ signal_of h (rounds h + 1)) × (due ≡ true)
AtRow h due (want.MsgRead k) = due ≡ false
AtRow h due (want.LogRead b) = due ≡ false
AtRow h due (want.KpRead k) = due ≡ false
AtRow h due want.Item = due ≡ false
AtRow h due want.Restarted = due ≡ false
AtRow h due _ = Unit {0}

write-row : (p : Settings) (h : List Event) (place : ℕ) (rec : LogRec) → AtRow h false (log_write p place rec)
write-row p h place rec = by (nat_le p.limits.log place)
  where
    by : (b : Bool) → AtRow h false (elim b [ true ↦ want.LogLook place | false ↦ want.LogBody place rec ])
    by true = tt
    by false = tt

restart-row : (p : Settings) (h : List Event) → AtRow h false (restart_next p h)
restart-row p h = by (scan p h).ended
  where
    backouts : (units : List UnitId) → AtRow h false (backout_next p h units)
    backouts [] = refl
    backouts (unit ∷ units) = write-row p h (next_record p h) (Backout unit)

    undos : (rows : List Undo) → AtRow h false (undo_next p h rows)
    undos [] = backouts (backouts_left p h)
    undos (row ∷ rows) = tt

    by : (b : Bool) → AtRow h false (elim b [ false ↦ want.LogRead (scan p h).block | true ↦ undo_next p h (rows_left p h) ])
    by false = refl
    by true = undos (rows_left p h)

active-row : (p : Settings) (h : List Event) (o : Option Message) → AtRow h false (active_next p h o)
active-row p h None = by (keypoint_due p h)
  where
    by : (b : Bool) → AtRow h false (elim b [ true ↦ want.KpRead ((next_keypoint p h).number % 2) | false ↦ want.Item ])
    by true = refl
    by false = refl
active-row p h (Some m) = by (may_write p h)
  where
    by : (b : Bool) → AtRow h false (elim b [ true ↦ want.MsgRead (number_of m % p.limits.ring) | false ↦ want.Nothing ])
    by true = refl
    by false = tt

works-row : (p : Settings) (h : List Event) → AtRow h (round_due h) (owner_works p h)
works-row p h = by (drop_due h) (round_due h) (is_draining h) (is_restarted h)
  where
    by : (drop due drains restarted : Bool)
        → AtRow h due (if drop then want.Reserve else (if due then want.Signal1 (signal_of h (rounds h + 1))
        else (if drains then want.MsgRead (reading_place p h) else (if restarted then active_next p h (message_due p h) else restart_next p h))))
    by true due drains restarted = tt
    by false true drains restarted = (refl, refl)
    by false false true restarted = refl
    by false false false true = active-row p h (message_due p h)
    by false false false false = restart-row p h

tracks-row : (p : Settings) (h : List Event) → AtRow h (round_due h) (alternate_tracks p h)
tracks-row p h = by (through_due h) (round_due h) (reading_due h)
  where
    by : (through due reads : Bool)
        → AtRow h due (if through then want.Reserve else (if due then want.Signal1 (signal_of h (rounds h + 1))
        else (if reads then want.MsgRead (reading_place p h) else want.Nothing)))
    by true due reads = tt
    by false true reads = (refl, refl)
    by false false true = refl
    by false false false = tt

boundary-row : (p : Settings) (h : List Event) → AtRow h (round_due h) (boundary p h)
boundary-row p h = by (is_owner h)
  where
    owner : (state : Option OwnerState) (told : Option Notice) → AtRow h (round_due h) (owner_row p h state told)
    owner (Some state) told = tt
    owner None (Some told) = tt
    owner None None = works-row p h

    starts : (cause : Option Cause) → AtRow h (round_due h) (alternate_starts p h cause)
    starts (Some cause) = tt
    starts None = tracks-row p h

    leaving : (reason : Option EndWhy) → AtRow h (round_due h) (alternate_row p h reason)
    leaving None = starts (start_due h)
    leaving (Some end.Dropped) = tt
    leaving (Some _) = tt

    lines : (b : Bool) → AtRow h (round_due h) (if b then want.Clt (lines_issued h + 1) else alternate_row p h (leaves h))
    lines true = tt
    lines false = leaving (leaves h)

    by : (b : Bool) → AtRow h (round_due h) (if b then owner_row p h (sign_off_due h) (notice h) else alternate_next p h)
    by true = owner (sign_off_due h) (notice h)
    by false = lines (lines_left p h)

-- what is known where it is next
row-is : (p : Settings) (h : List Event) (w : Want) → next p h ≡ w → is_begun w ≡ true → AtRow h (round_due h) w
row-is p h w is begun = subst (AtRow h (round_due h)) (begins-at p h w is begun) (boundary-row p h)

-- where the next act is none of a round, none goes on
none-is : (p : Settings) (h : List Event) (w : Want) → InPlace p h → next p h ≡ w → is_rounds w ≡ false → None ≡ in_round (made_since_signal h)
none-is p h w at is plain = sym (out-of p h at (ap is_rounds is ∙ plain))

-- an item that is next
item-round : (s : Scen) (t : List Entry) (x : Site) (h : List Event) → IsOfRound h (act.Item (items_taken t x + 1)) → IfSome (next_item s t x) (IsOfRound h)
item-round s t x h so = by (nat_lt (items_taken t x) (length (work s x)))
  where
    by : (b : Bool) → IfSome (if b then Some (act.Item (items_taken t x + 1)) else None) (IsOfRound h)
    by true = so
    by false = tt

-- the act that is next stands in its place
next-round : (s : Scen) (t : List Entry) (x : Site) (h : List Event) (w : Want) → InPlace (settings s x) h → next (settings s x) h ≡ w → IfSome (act_of s t x h w) (IsOfRound h)
next-round s t x h want.Nothing at is = tt
next-round s t x h (want.Exit told) at is = tt
next-round s t x h (want.Signal1 signal) at is =
    let row = row-is (settings s x) h (want.Signal1 signal) is refl in (row.0, row.1, sym (none-is (settings s x) h (want.Signal1 signal) at is refl))
next-round s t x h (want.Signal2 signal) at is =
    let place = place-is (settings s x) h (want.Signal2 signal) at is refl in (place.1, ap in_round place.0)
next-round s t x h want.Look1 at is = (sym (ap in_round (place-is (settings s x) h want.Look1 at is refl)), tt)
next-round s t x h want.Look2 at is = (sym (ap in_round (place-is (settings s x) h want.Look2 at is refl)), tt)
next-round s t x h want.Decide at is = (sym (ap in_round (place-is (settings s x) h want.Decide at is refl)), tt)
next-round s t x h (want.MsgRead k) at is = (none-is (settings s x) h (want.MsgRead k) at is refl, row-is (settings s x) h (want.MsgRead k) is refl)
next-round s t x h (want.LogRead b) at is = (none-is (settings s x) h (want.LogRead b) at is refl, row-is (settings s x) h (want.LogRead b) is refl)
next-round s t x h (want.KpRead k) at is = (none-is (settings s x) h (want.KpRead k) at is refl, row-is (settings s x) h (want.KpRead k) is refl)
next-round s t x h want.Restarted at is = (none-is (settings s x) h want.Restarted at is refl, row-is (settings s x) h want.Restarted is refl)
next-round s t x h want.Item at is =
    item-round s t x h (none-is (settings s x) h want.Item at is refl, row-is (settings s x) h want.Item is refl)
next-round s t x h w at is = (none-is (settings s x) h w at is refl, tt)

-- nothing is said of what is no act
where-not : (b : Bool) (F : Type 0) → b ≡ false → Where b F
where-not true F no_act = absurd (cc)
where-not false F no_act = tt

inert-round : (h : List Event) (a : Act) → is_act a ≡ false → IsOfRound h a
inert-round h (act.Signal1 signal) inert = absurd (cc)
inert-round h (act.Signal2 signal) inert = absurd (cc)
inert-round h a inert = where-not (is_act a) ((place_in_round a ≡ in_round (made_since_signal h)) × Where (begins_work a) (round_due h ≡ false)) inert

round-at : (s : Scen) (t : List Entry) (e : Entry) (x : Site) (h : List Event) → IsRun s (e ∷ t) → e.who ≡ who_at x → hist s t x ≡ Some h → IsOfRound h e.act
round-at s t e x h is who here = by (is_act e.act) refl
  where
    by : (b : Bool) → is_act e.act ≡ b → IsOfRound h e.act
    by false inert = inert-round h e.act inert
    by true acts =
        subst (λ (o : Option Act). IfSome o (IsOfRound h)) (made-at s t e x h is acts who here).made
        (next-round s t x h (next (settings s x) h) (in-place (settings s x) h (history-at s t x h is.0 here)) refl)

-- **rounds are whole, in every run**
pub rounds-are-whole : (s : Scen) (t : List Entry) → IsRun s t → RoundsAreWhole s t
rounds-are-whole s t is =
    each-of s (λ t e. AtSite s t e.who (λ x h. IsOfRound h e.act))
    (λ t e is. at-site s t e.who (λ x h. IsOfRound h e.act) (λ x h who here. round-at s t e x h is who here)) t is
