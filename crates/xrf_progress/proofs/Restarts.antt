-- The acts of a restart lead on in it, and leave less of it.
use Rattle.std.proofs.Common.{◌==◌, ◌≡◌, ℕ, suc, ◌+◌, ◌-◌, ◌≤◌, nat_le, Bool, true, false, List, [], ◌∷◌, length, Option, Some, None, refl, ap, ◌∙◌, sym, subst, arith}
use Rattle.std.proofs.lemmas.Grind.{common_steps}
use Rattle.xrf_base.specs.declared.items.UnitId.{UnitId}
use Rattle.xrf_gated.specs.declared.gated.Slot.{Slot}
use Rattle.xrf_gated.specs.declared.gated.TheConstants.{OPEN}
use Rattle.xrf_logrec.specs.declared.records.LogRec.{LogRec}
use Rattle.xrf_logrec.specs.declared.records.LogRec.TheVariants.{Backout}
use Rattle.xrf_logrec.specs.declared.records.Undo.{Undo}
use Rattle.xrf_history.specs.declared.settings.Settings.{Settings}
use Rattle.xrf_history.specs.declared.want.Want.{Want}
use Rattle.xrf_history.specs.declared.want.Want.TheVariants as want
use Rattle.xrf_history.specs.Events.{Event, MessageRead, FirstBlockRead, BlockRead, LogLooked, LogClosed, LogBodied, LogOpened, RecordUndone}
use Rattle.xrf_history.specs.Holding.{is_owner, is_restarted}
use Rattle.xrf_history.specs.Notices.{notice}
use Rattle.xrf_history.specs.Reserving.{sign_off_due, drop_due}
use Rattle.xrf_history.specs.Restarting.{scan, has_read_block, rows_left, backouts_left, next_record}
use Rattle.xrf_history.specs.Taking.{is_draining}
use Rattle.xrf_history.specs.Rows.{boundary, has_signalled, log_write, restart_next, reading_place}
use Rattle.xrf_history.specs.Next.{inside, next, after_gate}
use Rattle.xrf_progress.proofs.Course.{Ground, Owning, Place, Outer, AtClose, AtBody, AtOpen}
use Rattle.xrf_progress.proofs.Scanning.{scan_left, done-left, first-less, block-less, undo-less, open-less}
use Rattle.xrf_progress.proofs.Rests.{next-boundary}
use Rattle.xrf_progress.proofs.Reading.{drains-less}
use Rattle.xrf_progress.proofs.Potential.{undrained, inner_done, owner_left, Less}
use Rattle.xrf_gated.specs.Slots.{bytes_of}

-- what a restart does next at a boundary
pub data Does (p : Settings) (h : List Event) : Type 0 where
  Drains : is_draining h ≡ true → next p h ≡ want.MsgRead (reading_place p h) → Does p h
  Scans : (scan p h).ended ≡ false → next p h ≡ want.LogRead (scan p h).block → Does p h
  Undoes : (row : Undo) → (rows : List Undo) → (scan p h).ended ≡ true → rows_left p h ≡ row ∷ rows → next p h ≡ want.Undo row.rrn row.before → Does p h
  Looks : (k : ℕ) → (unit : UnitId) → (units : List UnitId) → (scan p h).ended ≡ true → backouts_left p h ≡ unit ∷ units → next p h ≡ want.LogLook k → Does p h
  Bodies : (k : ℕ) → (unit : UnitId) → (units : List UnitId) → (scan p h).ended ≡ true → backouts_left p h ≡ unit ∷ units
      → next p h ≡ want.LogBody k (Backout unit) → Does p h
  Declares : next p h ≡ want.Restarted → Does p h

-- one that drains reads a message next
drains-boundary : (p : Settings) (h : List Event) → is_owner h ≡ true → has_signalled h ≡ true → sign_off_due h ≡ None → notice h ≡ None
    → drop_due h ≡ false → is_draining h ≡ true → boundary p h ≡ want.MsgRead (reading_place p h)
drains-boundary p h owner signalled no_off no_told no_drop draining = grind (arith, common_steps)

-- and one that has drained goes on with its restart
restart-boundary : (p : Settings) (h : List Event) → is_owner h ≡ true → has_signalled h ≡ true → sign_off_due h ≡ None → notice h ≡ None
    → drop_due h ≡ false → is_restarted h ≡ false → is_draining h ≡ false → boundary p h ≡ restart_next p h
restart-boundary p h owner signalled no_off no_told no_drop fresh drained = grind (arith, common_steps)

-- the scan goes on
scans-restart : (p : Settings) (h : List Event) → (scan p h).ended ≡ false → restart_next p h ≡ want.LogRead (scan p h).block
scans-restart p h goes = grind (arith, common_steps)

-- a row is left
undoes-restart : (p : Settings) (h : List Event) (row : Undo) (rows : List Undo) → (scan p h).ended ≡ true → rows_left p h ≡ row ∷ rows
    → restart_next p h ≡ want.Undo row.rrn row.before
undoes-restart p h row rows ended left = grind (arith, common_steps)

-- a Backout is left
writes-restart : (p : Settings) (h : List Event) (unit : UnitId) (units : List UnitId) → (scan p h).ended ≡ true → rows_left p h ≡ []
    → backouts_left p h ≡ unit ∷ units → restart_next p h ≡ log_write p (next_record p h) (Backout unit)
writes-restart p h unit units ended none left = grind (arith, common_steps)

-- nothing is left
declares-restart : (p : Settings) (h : List Event) → (scan p h).ended ≡ true → rows_left p h ≡ [] → backouts_left p h ≡ [] → restart_next p h ≡ want.Restarted
declares-restart p h ended none left = grind (arith, common_steps)

-- at a boundary a restart does one of these
pub does : (p : Settings) (g : Ground) (n : ℕ) (h : List Event) → Owning g n h → has_signalled h ≡ true → inside p h ≡ None → Does p h
does p g n h o signalled at = by (is_draining h) refl
  where
    starts : is_draining h ≡ false → (w : Want) → restart_next p h ≡ w → next p h ≡ w
    starts drained w is =
        let a = o.owning in
        next-boundary p h w at (restart-boundary p h a.owner signalled a.no_off a.no_told a.no_drop a.fresh drained ∙ is)

    writes : is_draining h ≡ false → (unit : UnitId) (units : List UnitId) → (scan p h).ended ≡ true → backouts_left p h ≡ unit ∷ units
        → restart_next p h ≡ log_write p (next_record p h) (Backout unit) → (b : Bool) → nat_le p.limits.log (next_record p h) ≡ b → Does p h
    writes drained unit units ended left is true old =
        Looks (next_record p h) unit units ended left
        (starts drained (want.LogLook (next_record p h))
        (is ∙ ap (λ (c : Bool). elim c [ true ↦ want.LogLook (next_record p h) | false ↦ want.LogBody (next_record p h) (Backout unit) ]) old))
    writes drained unit units ended left is false old =
        Bodies (next_record p h) unit units ended left
        (starts drained (want.LogBody (next_record p h) (Backout unit))
        (is ∙ ap (λ (c : Bool). elim c [ true ↦ want.LogLook (next_record p h) | false ↦ want.LogBody (next_record p h) (Backout unit) ]) old))

    backs : is_draining h ≡ false → (scan p h).ended ≡ true → rows_left p h ≡ [] → (us : List UnitId) → backouts_left p h ≡ us → Does p h
    backs drained ended none [] left = Declares (starts drained want.Restarted (declares-restart p h ended none left))
    backs drained ended none (unit ∷ units) left =
        writes drained unit units ended left (writes-restart p h unit units ended none left) (nat_le p.limits.log (next_record p h)) refl

    undos : is_draining h ≡ false → (scan p h).ended ≡ true → (rows : List Undo) → rows_left p h ≡ rows → Does p h
    undos drained ended [] none = backs drained ended none (backouts_left p h) refl
    undos drained ended (row ∷ rows) left =
        Undoes row rows ended left (starts drained (want.Undo row.rrn row.before) (undoes-restart p h row rows ended left))

    scans : is_draining h ≡ false → (b : Bool) → (scan p h).ended ≡ b → Does p h
    scans drained false goes = Scans goes (starts drained (want.LogRead (scan p h).block) (scans-restart p h goes))
    scans drained true ended = undos drained ended (rows_left p h) refl

    by : (b : Bool) → is_draining h ≡ b → Does p h
    by true draining =
        let a = o.owning in
        Drains draining (next-boundary p h (want.MsgRead (reading_place p h)) at (drains-boundary p h a.owner signalled a.no_off a.no_told a.no_drop draining))
    by false drained = scans drained (scan p h).ended refl

-- an act at a boundary that reads no message leaves less
outer-counts : (u x i y : ℕ) → i ≡ 0 → y + 1 ≤ x → u + (y - 0) + 1 ≤ u + (x - i)
outer-counts u x i y none less = omega (arith, none, less)

-- a read of a message
-- after a read of a message nothing is inside
message-inside : (p : Settings) (h : List Event) (k : ℕ) (slot : List ℕ) → is_restarted h ≡ false → inside p (MessageRead k slot ∷ h) ≡ None
message-inside p h k slot fresh = grind (arith, common_steps)

-- it leads on, and leaves less
pub message-goes : (p : Settings) (g : Ground) (n : ℕ) (h : List Event) (slot : ℕ → Slot) → Owning g n h → inside p h ≡ None → is_draining h ≡ true
    → Owning g n (MessageRead (reading_place p h) (bytes_of (slot (reading_place p h))) ∷ h)
    × Place p (MessageRead (reading_place p h) (bytes_of (slot (reading_place p h))) ∷ h)
    × Less p (owner_left slot p h) (owner_left slot p (MessageRead (reading_place p h) (bytes_of (slot (reading_place p h))) ∷ h))
message-goes p g n h slot o at draining =
    let k = reading_place p h in
    let bytes = bytes_of (slot k) in
    let inner = message-inside p h k bytes o.owning.fresh in (
      record { owning = o.owning; mine = o.mine; few = o.few },
      Outer inner,
      λ whole.
          let less = drains-less slot p h whole.ring o.owning.fresh draining in
          let first : inner_done (inside p (MessageRead k bytes ∷ h)) ≡ 0 = ap inner_done inner in
          let second : inner_done (inside p h) ≡ 0 = ap inner_done at in
          reads (undrained slot p (MessageRead k bytes ∷ h)) (scan_left p h) (inner_done (inside p (MessageRead k bytes ∷ h))) (undrained slot p h)
          (inner_done (inside p h)) less first second,
    )
  where
    reads : (v y j u i : ℕ) → v + 1 ≤ u → j ≡ 0 → i ≡ 0 → v + (y - j) + 1 ≤ u + (y - i)
    reads v y j u i less first second = omega (arith, less, first, second)

-- the first read of a block
pub first-goes : (p : Settings) (g : Ground) (n : ℕ) (h : List Event) (slot : ℕ → Slot) (block keys : List ℕ) → Owning g n h → inside p h ≡ None → has_read_block h ≡ false
    → (scan p h).ended ≡ false → Owning g n (FirstBlockRead block keys ∷ h) × Place p (FirstBlockRead block keys ∷ h) × Less p (owner_left slot p h) (owner_left slot p (FirstBlockRead block keys ∷ h))
first-goes p g n h slot block keys o at first going = (
  record { owning = o.owning; mine = o.mine; few = o.few },
  Outer refl,
  λ whole.
      outer-counts (undrained slot p h) (scan_left p h) (inner_done (inside p h)) (scan_left p (FirstBlockRead block keys ∷ h))
      (ap inner_done at) (first-less p h block keys whole.log first going),
)

-- a read of another block
pub block-goes : (p : Settings) (g : Ground) (n : ℕ) (h : List Event) (slot : ℕ → Slot) (block : List ℕ) → Owning g n h → inside p h ≡ None → has_read_block h ≡ true
    → (scan p h).ended ≡ false → Owning g n (BlockRead block ∷ h) × Place p (BlockRead block ∷ h) × Less p (owner_left slot p h) (owner_left slot p (BlockRead block ∷ h))
block-goes p g n h slot block o at has going = (
  record { owning = o.owning; mine = o.mine; few = o.few },
  Outer refl,
  λ whole.
      outer-counts (undrained slot p h) (scan_left p h) (inner_done (inside p h)) (scan_left p (BlockRead block ∷ h))
      (ap inner_done at) (block-less p h block whole.log has going),
)

-- after an UNDO nothing is inside
undo-inside : (p : Settings) (h : List Event) (k : ℕ) (before : List ℕ) → is_restarted h ≡ false → inside p (RecordUndone k before ∷ h) ≡ None
undo-inside p h k before fresh = grind (arith, common_steps)

-- it leads on, and leaves less
pub undo-goes : (p : Settings) (g : Ground) (n : ℕ) (h : List Event) (slot : ℕ → Slot) (k : ℕ) (before : List ℕ) (row : Undo) (rows : List Undo) → Owning g n h
    → inside p h ≡ None → (scan p h).ended ≡ true → rows_left p h ≡ row ∷ rows
    → Owning g n (RecordUndone k before ∷ h) × Place p (RecordUndone k before ∷ h) × Less p (owner_left slot p h) (owner_left slot p (RecordUndone k before ∷ h))
undo-goes p g n h slot k before row rows o at ended left =
    let inner = undo-inside p h k before o.owning.fresh in (
      record { owning = o.owning; mine = o.mine; few = o.few },
      Outer inner,
      λ whole.
          subst (λ (q : Option Want). undrained slot p h + (scan_left p (RecordUndone k before ∷ h) - inner_done q) + 1 ≤ owner_left slot p h)
          (sym inner)
          (outer-counts (undrained slot p h) (scan_left p h) (inner_done (inside p h)) (scan_left p (RecordUndone k before ∷ h))
          (ap inner_done at) (undo-less p h k before row rows ended left)),
    )

-- while a Backout is left at least five are
backout-left : (p : Settings) (h : List Event) (unit : UnitId) (units : List UnitId) → (scan p h).ended ≡ true → backouts_left p h ≡ unit ∷ units
    → 5 ≤ scan_left p h
backout-left p h unit units ended left =
    let done = done-left p h ended in
    let some : length (backouts_left p h) ≡ suc (length units) = ap (λ (us : List UnitId). length us) left in
    omega (arith, done, some)

-- after a LOGLOOK the slot is closed where it is open, and else the record written
look-inside : (p : Settings) (h : List Event) (k gate : ℕ) (unit : UnitId) (units : List UnitId) → is_restarted h ≡ false → backouts_left p h ≡ unit ∷ units
    → inside p (LogLooked k gate ∷ h) ≡ Some (after_gate gate (want.LogClose k) (want.LogBody k (Backout unit)))
look-inside p h k gate unit units fresh left = grind (arith, common_steps)

-- after a LOGCLOSE the record is written
close-inside : (p : Settings) (h : List Event) (k : ℕ) (unit : UnitId) (units : List UnitId) → is_restarted h ≡ false → backouts_left p h ≡ unit ∷ units
    → inside p (LogClosed k ∷ h) ≡ Some (want.LogBody k (Backout unit))
close-inside p h k unit units fresh left = grind (arith, common_steps)

-- after a LOGOPEN nothing is inside
open-inside : (p : Settings) (h : List Event) (k : ℕ) (rec : LogRec) → is_restarted h ≡ false → inside p (LogOpened k rec ∷ h) ≡ None
open-inside p h k rec fresh = grind (arith, common_steps)

-- an act in the write of a Backout leaves less
inner-counts : (u x i y j : ℕ) (o q : Option Want) → inner_done o ≡ i → inner_done q ≡ j → (y - j) + 1 ≤ x - i
    → u + (y - inner_done q) + 1 ≤ u + (x - inner_done o)
inner-counts u x i y j o q first second less = omega (arith, first, second, less)

-- the LOGLOOK of a Backout
pub look-goes : (p : Settings) (g : Ground) (n : ℕ) (h : List Event) (slot : ℕ → Slot) (k gate : ℕ) (unit : UnitId) (units : List UnitId) → Owning g n h
    → inside p h ≡ None → (scan p h).ended ≡ true → backouts_left p h ≡ unit ∷ units
    → Owning g n (LogLooked k gate ∷ h) × Place p (LogLooked k gate ∷ h) × Less p (owner_left slot p h) (owner_left slot p (LogLooked k gate ∷ h))
look-goes p g n h slot k gate unit units o at ended left = by (gate == OPEN) refl
  where
    some_left : 5 ≤ scan_left p h
    some_left = backout-left p h unit units ended left

    inner : (b : Bool) → (gate == OPEN) ≡ b
        → inside p (LogLooked k gate ∷ h) ≡ Some (elim b [ true ↦ want.LogClose k | false ↦ want.LogBody k (Backout unit) ])
    inner b is =
        look-inside p h k gate unit units o.owning.fresh left
        ∙ ap (λ (c : Bool). Some (elim c [ true ↦ want.LogClose k | false ↦ want.LogBody k (Backout unit) ])) is

    by : (b : Bool) → (gate == OPEN) ≡ b
        → Owning g n (LogLooked k gate ∷ h) × Place p (LogLooked k gate ∷ h) × Less p (owner_left slot p h) (owner_left slot p (LogLooked k gate ∷ h))
    by true is = (
      record { owning = o.owning; mine = o.mine; few = o.few },
      AtClose k unit units (inner true is) ended left,
      λ whole.
          inner-counts (undrained slot p h) (scan_left p h) 0 (scan_left p h) 1 (inside p h) (inside p (LogLooked k gate ∷ h))
          (ap inner_done at) (ap inner_done (inner true is)) (omega (arith, some_left)),
    )
    by false is = (
      record { owning = o.owning; mine = o.mine; few = o.few },
      AtBody k unit units (inner false is) ended left,
      λ whole.
          inner-counts (undrained slot p h) (scan_left p h) 0 (scan_left p h) 2 (inside p h) (inside p (LogLooked k gate ∷ h))
          (ap inner_done at) (ap inner_done (inner false is)) (omega (arith, some_left)),
    )

-- its LOGCLOSE
pub close-goes : (p : Settings) (g : Ground) (n : ℕ) (h : List Event) (slot : ℕ → Slot) (k : ℕ) (unit : UnitId) (units : List UnitId) → Owning g n h
    → inside p h ≡ Some (want.LogClose k) → (scan p h).ended ≡ true → backouts_left p h ≡ unit ∷ units
    → Owning g n (LogClosed k ∷ h) × Place p (LogClosed k ∷ h) × Less p (owner_left slot p h) (owner_left slot p (LogClosed k ∷ h))
close-goes p g n h slot k unit units o at ended left =
    let inner = close-inside p h k unit units o.owning.fresh left in
    let some_left = backout-left p h unit units ended left in (
      record { owning = o.owning; mine = o.mine; few = o.few },
      AtBody k unit units inner ended left,
      λ whole.
          inner-counts (undrained slot p h) (scan_left p h) 1 (scan_left p h) 2 (inside p h) (inside p (LogClosed k ∷ h))
          (ap inner_done at) (ap inner_done inner) (omega (arith, some_left)),
    )

-- its LOGBODY
pub body-goes : (p : Settings) (g : Ground) (n : ℕ) (h : List Event) (slot : ℕ → Slot) (k i : ℕ) (unit : UnitId) (units : List UnitId) → Owning g n h
    → inner_done (inside p h) ≡ i → i ≤ 2 → (scan p h).ended ≡ true → backouts_left p h ≡ unit ∷ units
    → Owning g n (LogBodied k (Backout unit) ∷ h) × Place p (LogBodied k (Backout unit) ∷ h) × Less p (owner_left slot p h) (owner_left slot p (LogBodied k (Backout unit) ∷ h))
body-goes p g n h slot k i unit units o at early ended left =
    let some_left = backout-left p h unit units ended left in (
      record { owning = o.owning; mine = o.mine; few = o.few },
      AtOpen k unit units refl ended left,
      λ whole.
          inner-counts (undrained slot p h) (scan_left p h) i (scan_left p h) 3 (inside p h) (Some (want.LogOpen k (Backout unit)))
          at refl (omega (arith, some_left, early)),
    )

-- its LOGOPEN
pub open-goes : (p : Settings) (g : Ground) (n : ℕ) (h : List Event) (slot : ℕ → Slot) (k : ℕ) (unit : UnitId) (units : List UnitId) → Owning g n h
    → inside p h ≡ Some (want.LogOpen k (Backout unit)) → (scan p h).ended ≡ true → backouts_left p h ≡ unit ∷ units
    → Owning g n (LogOpened k (Backout unit) ∷ h) × Place p (LogOpened k (Backout unit) ∷ h) × Less p (owner_left slot p h) (owner_left slot p (LogOpened k (Backout unit) ∷ h))
open-goes p g n h slot k unit units o at ended left =
    let inner = open-inside p h k (Backout unit) o.owning.fresh in
    let less = open-less p h k unit units ended left in (
      record { owning = o.owning; mine = o.mine; few = o.few },
      Outer inner,
      λ whole.
          inner-counts (undrained slot p h) (scan_left p h) 3 (scan_left p (LogOpened k (Backout unit) ∷ h)) 0 (inside p h)
          (inside p (LogOpened k (Backout unit) ∷ h)) (ap inner_done at) (ap inner_done inner) (omega (arith, less)),
    )
