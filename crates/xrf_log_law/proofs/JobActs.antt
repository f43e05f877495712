-- What holds of a job after each of its acts.
use Rattle.std.proofs.Common.{IfSome, List, false, true, ◌≡◌, Bool, refl, ◌&&◌, ◌||◌, None, Some, length, nat_lt, ◌+◌, if◌then◌else◌, Option, ◌∷◌, ap, arith, ℕ, [], subst, sym, ◌%◌, ◌<◌, ◌*◌, ◌∙◌, ◌++◌, not}
use Rattle.std.specs.List.{flat_map, range_with_len}
use Rattle.xrf_base.specs.declared.site.Site.{Site}
use Rattle.xrf_base.specs.declared.items.Item.{Item}
use Rattle.xrf_base.specs.declared.items.UnitId.{UnitId}
use Rattle.xrf_gated.specs.Slots.{bytes_of}
use Rattle.xrf_logrec.specs.declared.keypoints.Keypoint.{Keypoint}
use Rattle.xrf_logrec.specs.declared.records.LogRec.TheVariants.{Backout}
use Rattle.xrf_logrec.specs.declared.records.LogRec.{LogRec}
use Rattle.xrf_logrec.specs.LogRecords.{spelling as record_spelling}
use Rattle.xrf_log.specs.Scan.{Scanned, after_block, after_anchors, anchor_of}
use Rattle.xrf_history.specs.Events.{Event, BlockRead, FirstBlockRead, LogOpened}
use Rattle.xrf_history.specs.declared.want.Want.{Want}
use Rattle.xrf_history.specs.Progress.{is_active, has_signed_off}
use Rattle.xrf_history.specs.Restarting.{has_read_block, scan, has_backout, records_opened, backouts_left}
use Rattle.xrf_history.specs.Holding.{is_owner, is_restarted}
use Rattle.xrf_history.specs.declared.settings.Settings.{Settings}
use Rattle.xrf_history.specs.Next.{record_of_restart, record_at_hand, record_of_plan, slot_read}
use Rattle.xrf_history.specs.Working.{last_plan}
use Rattle.xrf_trace.specs.declared.entry.Entry.{Entry}
use Rattle.xrf_trace.specs.Scenario.{Scen, first_value, settings, item_at, limits, work}
use Rattle.xrf_trace.specs.Acts.{act_of, next_item}
use Rattle.xrf_trace.specs.declared.entry.Act.{Act}
use Rattle.xrf_trace.specs.Words.{items_taken, now}
use Rattle.xrf_trace.specs.Jobs.{item_event, handed, block_event}
use Rattle.xrf_trace.specs.Devices.{key_slots, log_block, log_slot, open_at, body_at, close_at}
use Rattle.xrf_log_law.proofs.DueInSequence.{After}
use Rattle.xrf_log_law.specs.Due.{IsUnread, Restarts, rows_left_of, restart_view}
use Rattle.xrf_log_law.specs.Jobs.{Idle}
use Rattle.xrf_log_law.proofs.BeforeActs.{Before, log-some}
use Rattle.xrf_log_law.specs.State.{State, after, view, View}
use Rattle.xrf_log_law.specs.Soundness.{is_sound}
use Rattle.xrf_log_law.specs.LogParts.{IsPart}
use Rattle.xrf_log_law.proofs.RestartSteps.{scanned-restarts, backed-restarts, moved-restarts, undone-restarts}
use Rattle.xrf_log_law.proofs.KeyWrites.{anchor}
use Rattle.xrf_log_law.proofs.IdleJobs.{AfterIdle, act-idle}
use Rattle.xrf_base.specs.Ranges.{AreLimits}
use Rattle.xrf_history.proofs.Tests.{or-left}
use Rattle.xrf_log_law.proofs.Tests.{and-left, no-clash}
use Rattle.xrf_history.specs.declared.want.Want.TheVariants as want
use Rattle.xrf_trace.specs.declared.entry.Act.TheVariants as act
use Rattle.xrf_trace.specs.declared.entry.Land.TheVariants as land

-- that holds of an item that is given, or of none
pub of-item : (s : Scen) (t : List Entry) (x : Site) (P : Act → Type 0) → P (act.Item (items_taken t x + 1)) → IfSome (next_item s t x) P
of-item s t x P holds = by (nat_lt (items_taken t x) (length (work s x)))
  where
    by : (b : Bool) → IfSome (if b then Some (act.Item (items_taken t x + 1)) else None) P
    by true = holds
    by false = tt

-- it reads the log only as an owner
abbrev pub ReadsAsOwner : Scen → List Entry → Site → List Event → Act → Type 0
ReadsAsOwner s t x h a = has_read_block (handed s t x (now t) h a ∷ h) ≡ true → is_owner (handed s t x (now t) h a ∷ h) ≡ true

-- after each act
pub read-after : (s : Scen) (t : List Entry) (x : Site) (h : List Event) (w : Want) → Before s t x h w → IfSome (act_of s t x h w) (ReadsAsOwner s t x h)
read-after s t x h want.Nothing b = tt
read-after s t x h (want.Exit told) b = tt
read-after s t x h (want.CtlWrite written) b = λ e. or-left (is_owner h) _ (b.stands.0 e)
read-after s t x h (want.LogRead n) b = by (has_read_block h)
  where
    by : (has : Bool) → has_read_block (block_event s t n has ∷ h) ≡ true → is_owner (block_event s t n has ∷ h) ≡ true
    by true e = and-left (is_owner h) _ (b.acts refl)
    by false e = and-left (is_owner h) _ (b.acts refl)
read-after s t x h want.Item b = of-item s t x (ReadsAsOwner s t x h) (by (item_at s x (items_taken t x + 1)))
  where
    by : (o : Option Item) → has_read_block (item_event o ∷ h) ≡ true → is_owner (item_event o ∷ h) ≡ true
    by None = b.stands.0
    by (Some item) = b.stands.0
read-after s t x h _ b = b.stands.0

-- it knows nothing of the log before
abbrev pub KnowsNone : Scen → List Entry → Site → List Event → Act → Type 0
KnowsNone s t x h a = has_read_block (handed s t x (now t) h a ∷ h) ≡ false → IsUnread s.settings.log (settings s x) (handed s t x (now t) h a ∷ h)

-- a job that has read no block has no scan that ended
pub not-ended : {P : Type 0} (s : Scen) (x : Site) (h : List Event) → IsUnread s.settings.log (settings s x) h → (scan (settings s x) h).ended ≡ true → P
not-ended s x h unread ended = no-clash (scan (settings s x) h).ended ended (ap (λ (found : Scanned). found.ended) unread.0)

-- after each act
pub unread-after : (s : Scen) (t : List Entry) (x : Site) (h : List Event) (w : Want) → Before s t x h w → IfSome (act_of s t x h w) (KnowsNone s t x h)
unread-after s t x h want.Nothing b = tt
unread-after s t x h (want.Exit told) b = tt
unread-after s t x h (want.LogRead n) b = by (has_read_block h) refl
  where
    by : (has : Bool) → has_read_block h ≡ has → has_read_block (block_event s t n has ∷ h) ≡ false
        → IsUnread s.settings.log (settings s x) (block_event s t n has ∷ h)
    by true is e = no-clash (has_read_block h) is e
    by false is e = absurd (cc)
unread-after s t x h (want.LogOpen place rec) b = λ e. not-ended s x h (b.stands.1 e) (b.due.5 ((b.stands.1 e).3)).0
unread-after s t x h want.Restarted b = λ e. not-ended s x h (b.stands.1 e) b.due.1
unread-after s t x h want.Item b = of-item s t x (KnowsNone s t x h) (by (item_at s x (items_taken t x + 1)))
  where
    by : (o : Option Item) → has_read_block (item_event o ∷ h) ≡ false → IsUnread s.settings.log (settings s x) (item_event o ∷ h)
    by None = b.stands.1
    by (Some item) = b.stands.1
unread-after s t x h _ b = b.stands.1

-- it is in its restart
abbrev pub KnowsRestart : Scen → List Entry → Site → List Event → View → List Event → Type 0
KnowsRestart s t x h v now_h =
    is_active now_h ≡ true → is_sound now_h ≡ true → has_read_block now_h ≡ true → is_restarted now_h ≡ false
    → Restarts s.settings.log (first_value s) v (restart_view (settings s x) now_h)

-- after an act in full
abbrev pub InRestart : Scen → List Entry → Site → List Event → Act → Type 0
InRestart s t x h a = KnowsRestart s t x h (after s.settings.log a land.Full (view s t)) (handed s t x (now t) h a ∷ h)

-- no records are a part of the log
pub no-records : (size : ℕ) (first : ℕ → Option (List ℕ)) (v : View) → State size first v → IsPart v.log v.start []
no-records size first v state = record { within = omega (arith, state.within); same = λ j less. absurd (omega arith) }

-- a further block
next-block : (p : Settings) (first : ℕ → Option (List ℕ)) (v : View) (h : List Event) (block : List ℕ) → 0 < p.limits.log → p.limits.log % 64 ≡ 0
    → State p.limits.log first v
    → Restarts p.limits.log first v (restart_view p h) → (scan p h).ended ≡ false
    → block ≡ flat_map (λ i. bytes_of (v.slot i)) (range_with_len (64 * (scan p h).block) 64)
    → Restarts p.limits.log first v (restart_view p (BlockRead block ∷ h))
next-block p first v h block some even state restarts going are =
    let scans = restarts.scanning going in
    subst (λ (last : Keypoint). Restarts p.limits.log first v
    (record { scan = after_block (scan p h) block; last = last; opened = records_opened h; backout = λ unit. has_backout unit h; undone = 0 }))
    (sym restarts.keypoint)
    (scanned-restarts p.limits.log first v (scan p h) block (records_opened h)
    (λ unit. has_backout unit h) some even state restarts.slots scans.anchor scans.part scans.opened scans.backouts are)

-- the first block, with the KEY slots
first-block : (p : Settings) (first : ℕ → Option (List ℕ)) (v : View) (h : List Event) (block keys : List ℕ) → 0 < p.limits.log
    → p.limits.log % 64 ≡ 0 → State p.limits.log first v
    → IsUnread p.limits.log p h → keys ≡ bytes_of (v.key 0) ++ bytes_of (v.key 1)
    → block ≡ flat_map (λ i. bytes_of (v.slot i)) (range_with_len (64 * (scan p h).block) 64)
    → Restarts p.limits.log first v (restart_view p (FirstBlockRead block keys ∷ h))
first-block p first v h block keys some even state unread are_keys are =
    let is_anchor : anchor_of keys ≡ record { number = v.number; start = v.start } = ap anchor_of are_keys
    ∙ anchor v.number v.start v.key state.keys_whole state.keys in
    let none : [] ≡ (scan p h).records = sym (ap (λ (found : Scanned). found.records) unread.0) in
    subst (λ (last : Keypoint). Restarts p.limits.log first v
    (record {
      scan = after_block
          (after_anchors (scan p h) keys) block;
      last = last;
      opened = records_opened h;
      backout = λ unit. has_backout unit h;
      undone = 0;
    }))
    (sym is_anchor)
    (scanned-restarts p.limits.log first v (after_anchors (scan p h) keys) block (records_opened h) (λ unit. has_backout unit h) some even state
    (ap (λ (found : Scanned). found.slots) unread.0) (ap (λ (k : Keypoint). k.start) is_anchor)
    (subst (IsPart v.log v.start) none (no-records p.limits.log first v state)) unread.1 unread.2 are)

-- so each LOGREAD leaves a scan of the log
block-restart : (s : Scen) (t : List Entry) (x : Site) (h : List Event) (b : ℕ) (has : Bool) → AreLimits (limits s)
    → State s.settings.log (first_value s) (view s t) → has_read_block h ≡ has
    → (has_read_block h ≡ false → IsUnread s.settings.log (settings s x) h)
    → (has_read_block h ≡ true → Restarts s.settings.log (first_value s) (view s t) (restart_view (settings s x) h))
    → (scan (settings s x) h).ended ≡ false → b ≡ (scan (settings s x) h).block
    → Restarts s.settings.log (first_value s) (view s t) (restart_view (settings s x) (block_event s t b has ∷ h))
block-restart s t x h b true log state is unread before going place =
    next-block (settings s x) (first_value s) (view s t) h (log_block s t b) (log-some (limits s) log) log.log_blocks state (before is) going
    (ap (log_block s t) place)
block-restart s t x h b false log state is unread before going place =
    first-block (settings s x) (first_value s) (view s t) h (log_block s t b) (key_slots t) (log-some (limits s) log) log.log_blocks state
    (unread is) refl (ap (log_block s t) place)

-- the record that a restart opens is the Backout that is next
open-restart : (s : Scen) (t : List Entry) (x : Site) (h : List Event) (place : ℕ) (rec : LogRec) (left : List UnitId) → (record_of_restart left) ≡ Some rec
    → (scan (settings s x) h).ended ≡ true → rows_left_of (restart_view (settings s x) h) ≡ []
    → Restarts s.settings.log (first_value s) (view s t) (restart_view (settings s x) h)
    → Restarts s.settings.log (first_value s) (after s.settings.log (act.LogOpen place rec) land.Full (view s t))
    (restart_view (settings s x) (LogOpened place rec ∷ h))
open-restart s t x h place rec [] hand ended none before = absurd (cc)
open-restart s t x h place rec (unit ∷ units) hand ended none before =
    subst (λ (o : LogRec). Restarts s.settings.log (first_value s) (after s.settings.log (act.LogOpen place o) land.Full (view s t))
    (restart_view (settings s x) (LogOpened place o ∷ h))) (some-same (Backout unit) rec hand)
    (backed-restarts s.settings.log (first_value s) (view s t) (λ i. open_at (place % s.settings.log) land.Full i (log_slot s t i))
    (restart_view (settings s x) h) unit ended none before)
  where
    some-same : (a b : LogRec) → Some a ≡ Some b → a ≡ b
    some-same a b same = cc

-- the record at hand in a restart is the next Backout
pub restart-hand : (p : Settings) (h : List Event) (rec : LogRec) → is_restarted h ≡ false → record_at_hand p h ≡ Some rec
    → record_of_restart (backouts_left p h) ≡ Some rec
restart-hand p h rec restart hand =
    subst (λ (b : Bool). (elim b [ true ↦ record_of_plan (last_plan p h) (slot_read h) | false ↦ record_of_restart (backouts_left p h) ])
    ≡ Some rec) restart hand

-- an owner that is an active after a CTLWRITE was one before
pub by-write : (o n g f : Bool) → ((o || n) && not (g || f)) ≡ true → o ≡ true → (o && not g) ≡ true
by-write true n true f e is = absurd (cc)
by-write true n false f e is = refl
by-write false n g f e is = absurd (cc)

-- after each act
pub restart-after : (s : Scen) (t : List Entry) (x : Site) (h : List Event) (w : Want) → Before s t x h w → IfSome (act_of s t x h w) (InRestart s t x h)
restart-after s t x h want.Nothing b = tt
restart-after s t x h (want.Exit told) b = tt
restart-after s t x h (want.CtlWrite written) b =
    λ there sound read going. b.stands.2 (by-write (is_owner h) _ (has_signed_off h) _ there (b.stands.0 read)) sound read going
restart-after s t x h (want.LogRead n) b = by (has_read_block h) refl
  where
    by : (has : Bool) → has_read_block h ≡ has → KnowsRestart s t x h (view s t) (block_event s t n has ∷ h)
    by true is there sound read going = block-restart s t x h n true b.scen.limits b.state is b.stands.1 (λ e. b.stands.2 there sound e going) b.due.1 b.due.2
    by false is there sound read going = block-restart s t x h n false b.scen.limits b.state is b.stands.1 (λ e. b.stands.2 there sound e going) b.due.1 b.due.2
restart-after s t x h (want.LogClose place) b =
    λ there sound read going. moved-restarts s.settings.log (first_value s) (view s t)
    (λ i. close_at (place % s.settings.log) land.Full i (log_slot s t i)) (restart_view (settings s x) h) (b.stands.2 there sound read going)
restart-after s t x h (want.LogBody place rec) b =
    λ there sound read going. moved-restarts s.settings.log (first_value s) (view s t)
    (λ i. body_at (place % s.settings.log) land.Full (record_spelling place rec) i (log_slot s t i)) (restart_view (settings s x) h)
    (b.stands.2 there sound read going)
restart-after s t x h (want.LogOpen place rec) b =
    λ there sound read going. open-restart s t x h place rec (backouts_left (settings s x) h) (restart-hand (settings s x) h rec going b.due.3)
    (b.due.5 going).0 (b.due.5 going).1 (b.stands.2 there sound read going)
restart-after s t x h (want.Undo rrn own) b =
    λ there sound read going. undone-restarts s.settings.log (first_value s) (view s t) (restart_view (settings s x) h) rrn own (b.due.1 going).1.0
    (b.due.1 going).0 (b.due.1 going).1.1 (b.stands.2 there sound read going)
restart-after s t x h (want.KpClose k) b = λ there sound read going. no-clash (is_restarted h) b.due.3 going
restart-after s t x h (want.KpBody k keypoint) b = λ there sound read going. no-clash (is_restarted h) b.due.3 going
restart-after s t x h (want.KpOpen k keypoint) b = λ there sound read going. no-clash (is_restarted h) b.due.4 going
restart-after s t x h (want.FileWrite unit rrn value) b = λ there sound read going. no-clash (is_restarted h) b.due.2 going
restart-after s t x h want.Restarted b = λ there sound read going. absurd (cc)
restart-after s t x h want.Item b = of-item s t x (InRestart s t x h) (by (item_at s x (items_taken t x + 1)))
  where
    by : (o : Option Item) → KnowsRestart s t x h (view s t) (item_event o ∷ h)
    by None = b.stands.2
    by (Some item) = b.stands.2
restart-after s t x h _ b = b.stands.2

-- inside a sequence
abbrev pub InSequence : Scen → List Entry → Site → List Event → Act → Type 0
InSequence s t x h a = is_active (handed s t x (now t) h a ∷ h) ≡ true → After s t x h a

-- after each act
pub inside-after : (s : Scen) (t : List Entry) (x : Site) (h : List Event) (w : Want)
    → (is_active h ≡ true → IfSome (act_of s t x h w) (After s t x h)) → IfSome (act_of s t x h w) (InSequence s t x h)
inside-after s t x h want.Nothing go = tt
inside-after s t x h (want.Exit told) go = tt
inside-after s t x h (want.CtlWrite written) go = λ there. tt
inside-after s t x h (want.LogRead n) go = λ there. go (by (has_read_block h) there)
  where
    by : (has : Bool) → is_active (block_event s t n has ∷ h) ≡ true → is_active h ≡ true
    by true there = there
    by false there = there
inside-after s t x h want.Item go = by (nat_lt (items_taken t x) (length (work s x))) go
  where
    given : (o : Option Item) → is_active (item_event o ∷ h) ≡ true → is_active h ≡ true
    given None there = there
    given (Some item) there = there

    by : (b : Bool) → (is_active h ≡ true → IfSome (if b then Some (act.Item (items_taken t x + 1)) else None) (After s t x h))
        → IfSome (if b then Some (act.Item (items_taken t x + 1)) else None) (InSequence s t x h)
    by true go = λ there. go (given (item_at s x (items_taken t x + 1)) there)
    by false go = tt
inside-after s t x h _ go = go

-- and a job that writes none
abbrev pub StaysIdle : Scen → List Entry → Site → List Event → Act → Type 0
StaysIdle s t x h a = is_active (handed s t x (now t) h a ∷ h) ≡ false → AfterIdle s t x h a

-- after each act
pub idle-after : (s : Scen) (t : List Entry) (x : Site) (h : List Event) (w : Want) → (is_active h ≡ false → Idle w)
    → IfSome (act_of s t x h w) (StaysIdle s t x h)
idle-after s t x h want.Nothing idle = tt
idle-after s t x h (want.Exit told) idle = tt
idle-after s t x h (want.CtlWrite written) idle = λ none. refl
idle-after s t x h (want.LogRead n) idle = λ none. absurd (false-true (idle (by (has_read_block h) none)))
  where
    false-true : false ≡ true → ⊥
    false-true e = absurd (cc)

    by : (has : Bool) → is_active (block_event s t n has ∷ h) ≡ false → is_active h ≡ false
    by true none = none
    by false none = none
idle-after s t x h want.Item idle = of-item s t x (StaysIdle s t x h) (λ none. absurd (false-true (idle (given (item_at s x (items_taken t x + 1)) none))))
  where
    false-true : false ≡ true → ⊥
    false-true e = absurd (cc)

    given : (o : Option Item) → is_active (item_event o ∷ h) ≡ false → is_active h ≡ false
    given None none = none
    given (Some item) none = none
idle-after s t x h w idle = λ none. act-idle s t x h w (idle none)
