-- What one does next that became the owner, and where that leads: on in its restart, or it is declared.
use Rattle.std.proofs.Common.{◌≡◌, ℕ, ◌+◌, ◌%◌, ◌≤◌, Bool, true, false, List, ◌∷◌, Some, None, refl, ap, ◌∙◌, sym, subst, arith}
use Rattle.xrf_base.specs.declared.site.Site.{Site}
use Rattle.xrf_logrec.specs.declared.records.LogRec.TheVariants.{Backout}
use Rattle.xrf_history.specs.declared.settings.Settings.{Settings}
use Rattle.xrf_history.specs.declared.want.Want.{Want}
use Rattle.xrf_history.specs.declared.want.Want.TheVariants as want
use Rattle.xrf_history.specs.Events.{Event}
use Rattle.xrf_history.specs.Holding.{number}
use Rattle.xrf_history.specs.Looking.{record_seen}
use Rattle.xrf_history.specs.Deciding.{cause}
use Rattle.xrf_history.specs.Restarting.{has_read_block, scan}
use Rattle.xrf_history.specs.Rows.{has_signalled, reading_place, rounds, signal_of}
use Rattle.xrf_history.specs.Next.{inside, next}
use Rattle.xrf_history.proofs.PhaseLaws.{next-inside}
use Rattle.xrf_trace.specs.declared.entry.Entry.{Entry}
use Rattle.xrf_trace.specs.declared.entry.Act.{Act}
use Rattle.xrf_trace.specs.declared.entry.Act.TheVariants as act
use Rattle.xrf_trace.specs.declared.entry.Land.TheVariants as land
use Rattle.xrf_trace.specs.Scenario.{Scen, settings, other}
use Rattle.xrf_trace.specs.Words.{now}
use Rattle.xrf_trace.specs.Devices.{control, control_after, sector1, sector2, message_slot, log_slot, log_block, key_slots}
use Rattle.xrf_trace.specs.Jobs.{handed, known_of, block_event}
use Rattle.xrf_trace.specs.Acts.{act_of}
use Rattle.xrf_progress.proofs.Entries.{is_ended, writes_message}
use Rattle.xrf_progress.proofs.Course.{Ground, IsAlone, Owning, Place, Outer, AtClose, AtBody, AtOpen, Restart, Written, RoundDue, OwnSignal2, OwnLook1, OwnLook2, OwnDecide, Restarting}
use Rattle.xrf_progress.proofs.Rests.{next-boundary}
use Rattle.xrf_progress.proofs.Sequences.{owner-release}
use Rattle.xrf_progress.proofs.OwnRounds.{round-boundary, own-signal1, own-signal2, own-look1, own-look2, own-decide, signal1-less, signal2-less, look1-less, look2-less, own-decide-less}
use Rattle.xrf_progress.proofs.Restarts.{Does, Drains, Scans, Undoes, Looks, Bodies, Declares, does, message-goes, first-goes, block-goes, look-goes, close-goes, body-goes, open-goes, undo-goes}
use Rattle.xrf_progress.proofs.Potential.{restart_left, owner_left, inner_done, Less}
use Rattle.xrf_progress.proofs.Lefts.{release-less, place-left}

-- where an act leads: on in the restart, beside the same record; or it declares it
pub data Restores (s : Scen) (t : List Entry) (x : Site) (g : Ground) (n : ℕ) (h : List Event) (a : Act) : Type 0 where
  GoesOn : is_ended a ≡ false → writes_message a ≡ false → control_after a land.Full (control t) ≡ control t
      → Restart (settings s x) g n (handed s t x (now t) h a ∷ h)
      → Less (settings s x) (restart_left (message_slot t) (settings s x) h) (restart_left (message_slot t) (settings s x) (handed s t x (now t) h a ∷ h))
      → Restores s t x g n h a
  Done : a ≡ act.Restarted → number h ≡ g.me → Restores s t x g n h a

-- the act that comes next
abbrev pub RestoresNext : Scen → List Entry → Site → Ground → ℕ → List Event → Type 0
RestoresNext s t x g n h = (a : Act) × (act_of s t x h (next (settings s x) h) ≡ Some a) × Restores s t x g n h a

-- by the want that is next
wanted : (s : Scen) (t : List Entry) (x : Site) (g : Ground) (n : ℕ) (h : List Event) (w : Want) (a : Act) → next (settings s x) h ≡ w
    → act_of s t x h w ≡ Some a → Restores s t x g n h a → RestoresNext s t x g n h
wanted s t x g n h w a is of restores = (a, ap (act_of s t x h) is ∙ of, restores)

-- an event of a restart that leads on in it, and leaves less
abbrev MovesOn : Scen → List Entry → Site → Ground → ℕ → List Event → Event → Type 0
MovesOn s t x g n h made =
    Owning g n (made ∷ h) × Place (settings s x) (made ∷ h)
    × Less (settings s x) (owner_left (message_slot t) (settings s x) h) (owner_left (message_slot t) (settings s x) (made ∷ h))

-- so its act leads on
moves-on : (s : Scen) (t : List Entry) (x : Site) (g : Ground) (n : ℕ) (h : List Event) (a : Act) → is_ended a ≡ false → writes_message a ≡ false
    → control_after a land.Full (control t) ≡ control t → has_signalled h ≡ true → has_signalled (handed s t x (now t) h a ∷ h) ≡ true → Place (settings s x) h
    → MovesOn s t x g n h (handed s t x (now t) h a) → Restores s t x g n h a
moves-on s t x g n h a goes quiet same signalled still place moved =
    GoesOn goes quiet same (Restarting moved.0 still moved.1) (λ whole.
    let less = moved.2 whole in
    let before = place-left (message_slot t) (settings s x) h signalled place in
    let after = place-left (message_slot t) (settings s x) (handed s t x (now t) h a ∷ h) still moved.1 in
    omega (arith, less, before, after))

-- a read of a block
block-leads : (s : Scen) (t : List Entry) (x : Site) (g : Ground) (n : ℕ) (h : List Event) (b : ℕ) (has : Bool) → has_read_block h ≡ has → Owning g n h
    → has_signalled h ≡ true → inside (settings s x) h ≡ None → (scan (settings s x) h).ended ≡ false → Restores s t x g n h (act.LogRead b)
block-leads s t x g n h b true has o signalled at going =
    moves-on s t x g n h (act.LogRead b) refl refl refl signalled (ap (λ (c : Bool). has_signalled (block_event s t b c ∷ h)) has ∙ signalled) (Outer at)
    (subst (λ (c : Bool). MovesOn s t x g n h (block_event s t b c)) (sym has)
    (block-goes (settings s x) g n h (message_slot t) (log_block s t b) o at has going))
block-leads s t x g n h b false has o signalled at going =
    moves-on s t x g n h (act.LogRead b) refl refl refl signalled (ap (λ (c : Bool). has_signalled (block_event s t b c ∷ h)) has ∙ signalled) (Outer at)
    (subst (λ (c : Bool). MovesOn s t x g n h (block_event s t b c)) (sym has)
    (first-goes (settings s x) g n h (message_slot t) (log_block s t b) (key_slots t) o at has going))

-- at a boundary of the restart
outer-restores : (s : Scen) (t : List Entry) (x : Site) (g : Ground) (n : ℕ) (h : List Event) → Owning g n h → has_signalled h ≡ true
    → inside (settings s x) h ≡ None → RestoresNext s t x g n h
outer-restores s t x g n h o signalled at = by (does p g n h o signalled at)
  where
    p : Settings
    p = settings s x

    by : Does p h → RestoresNext s t x g n h
    by (Drains draining is) =
        let k = reading_place p h in
        wanted s t x g n h (want.MsgRead k) (act.MsgRead k) is refl
        (moves-on s t x g n h (act.MsgRead k) refl refl refl signalled signalled (Outer at) (message-goes p g n h (message_slot t) o at draining))
    by (Scans going is) =
        let b = (scan p h).block in
        wanted s t x g n h (want.LogRead b) (act.LogRead b) is refl (block-leads s t x g n h b (has_read_block h) refl o signalled at going)
    by (Undoes row rows ended left is) =
        wanted s t x g n h (want.Undo row.rrn row.before) (act.Undo row.rrn row.before) is refl
        (moves-on s t x g n h (act.Undo row.rrn row.before) refl refl refl signalled signalled (Outer at)
        (undo-goes p g n h (message_slot t) row.rrn row.before row rows o at ended left))
    by (Looks k unit units ended left is) =
        wanted s t x g n h (want.LogLook k) (act.LogLook k) is refl
        (moves-on s t x g n h (act.LogLook k) refl refl refl signalled signalled (Outer at)
        (look-goes p g n h (message_slot t) k (log_slot s t (k % s.settings.log)).gate unit units o at ended left))
    by (Bodies k unit units ended left is) =
        wanted s t x g n h (want.LogBody k (Backout unit)) (act.LogBody k (Backout unit)) is refl
        (moves-on s t x g n h (act.LogBody k (Backout unit)) refl refl refl signalled signalled (Outer at)
        (body-goes p g n h (message_slot t) k 0 unit units o (ap inner_done at) (omega arith) ended left))
    by (Declares is) = wanted s t x g n h want.Restarted act.Restarted is refl (Done refl o.mine)

-- **where one stands that became the owner, its next act leads on**
pub restores : (s : Scen) (t : List Entry) (x : Site) (g : Ground) (n : ℕ) (h : List Event) → IsAlone (control t) → Restart (settings s x) g n h
    → RestoresNext s t x g n h
restores s t x g n h alone (Written o inner ends no_drop) =
    let p = settings s x in
    wanted s t x g n h want.Release act.Release (next-inside p h want.Release inner) refl
    (GoesOn refl refl refl (owner-release p g n h o ends no_drop) (λ whole. release-less (message_slot t) p h whole.log inner ends))
restores s t x g n h alone (RoundDue o inner signalled) =
    let p = settings s x in
    let a = o.owning in
    let signal = signal_of h (rounds h + 1) in
    wanted s t x g n h (want.Signal1 signal) (act.Signal1 signal)
    (next-boundary p h (want.Signal1 signal) inner (round-boundary p h a.granted a.owner signalled a.no_off a.no_told a.no_drop)) refl
    (GoesOn refl refl refl (own-signal1 p g n h signal o) (signal1-less (message_slot t) p h signal inner signalled))
restores s t x g n h alone (OwnSignal2 o signalled signal inner) =
    let p = settings s x in
    wanted s t x g n h (want.Signal2 signal) (act.Signal2 signal) (next-inside p h (want.Signal2 signal) inner) refl
    (GoesOn refl refl refl (own-signal2 p g n h signal o signalled) (signal2-less (message_slot t) p h signal signal inner))
restores s t x g n h alone (OwnLook1 o signalled inner) =
    let p = settings s x in
    wanted s t x g n h want.Look1 act.Look1 (next-inside p h want.Look1 inner) refl
    (GoesOn refl refl refl (own-look1 p g n h (control t) (sector1 t (other x)) o signalled alone)
    (look1-less (message_slot t) p h (control t) (sector1 t (other x)) inner))
restores s t x g n h alone (OwnLook2 o signalled inner saw) =
    let p = settings s x in
    wanted s t x g n h want.Look2 act.Look2 (next-inside p h want.Look2 inner) refl
    (GoesOn refl refl refl (own-look2 p g n h (sector2 t (other x)) (now t) o signalled saw)
    (look2-less (message_slot t) p h (sector2 t (other x)) (now t) inner))
restores s t x g n h alone (OwnDecide o signalled inner saw) =
    let p = settings s x in
    let known = known_of t (record_seen h) in
    let d = cause p h known (now t) in
    wanted s t x g n h want.Decide (act.Decide d) (next-inside p h want.Decide inner) refl
    (GoesOn refl refl refl (own-decide p g n h known (now t) d o signalled saw refl) (own-decide-less (message_slot t) p h known (now t) d inner signalled))
restores s t x g n h alone (Restarting o signalled (Outer at)) = outer-restores s t x g n h o signalled at
restores s t x g n h alone (Restarting o signalled (AtClose k unit units inner ended left)) =
    let p = settings s x in
    wanted s t x g n h (want.LogClose k) (act.LogClose k) (next-inside p h (want.LogClose k) inner) refl
    (moves-on s t x g n h (act.LogClose k) refl refl refl signalled signalled (AtClose k unit units inner ended left)
    (close-goes p g n h (message_slot t) k unit units o inner ended left))
restores s t x g n h alone (Restarting o signalled (AtBody k unit units inner ended left)) =
    let p = settings s x in
    wanted s t x g n h (want.LogBody k (Backout unit)) (act.LogBody k (Backout unit)) (next-inside p h (want.LogBody k (Backout unit)) inner) refl
    (moves-on s t x g n h (act.LogBody k (Backout unit)) refl refl refl signalled signalled (AtBody k unit units inner ended left)
    (body-goes p g n h (message_slot t) k 2 unit units o (ap inner_done inner) (omega arith) ended left))
restores s t x g n h alone (Restarting o signalled (AtOpen k unit units inner ended left)) =
    let p = settings s x in
    wanted s t x g n h (want.LogOpen k (Backout unit)) (act.LogOpen k (Backout unit)) (next-inside p h (want.LogOpen k (Backout unit)) inner) refl
    (moves-on s t x g n h (act.LogOpen k (Backout unit)) refl refl refl signalled signalled (AtOpen k unit units inner ended left)
    (open-goes p g n h (message_slot t) k unit units o inner ended left))

-- by which TICK one stands there
pub restart-few : (p : Settings) (g : Ground) (n : ℕ) (h : List Event) → Restart p g n h → n ≤ g.by
restart-few p g n h (Written o inner ends no_drop) = o.few
restart-few p g n h (RoundDue o inner signalled) = o.few
restart-few p g n h (OwnSignal2 o signalled signal inner) = o.few
restart-few p g n h (OwnLook1 o signalled inner) = o.few
restart-few p g n h (OwnLook2 o signalled inner saw) = o.few
restart-few p g n h (OwnDecide o signalled inner saw) = o.few
restart-few p g n h (Restarting o signalled inner) = o.few
