-- The round of one that became the owner leads on to its restart.
use Rattle.std.proofs.Common.{◌≡◌, ℕ, ◌+◌, true, false, ◌⊎◌, inl, inr, List, ◌∷◌, Option, Some, None, refl, ap, ◌∙◌, arith}
use Rattle.std.proofs.lemmas.Grind.{common_steps}
use Rattle.xrf_ctl.specs.Control.{ControlRecord}
use Rattle.xrf_ctl.specs.Signal.{SignalRecord}
use Rattle.xrf_cavm.specs.declared.known.Known.{Known}
use Rattle.xrf_cavm.specs.declared.decisions.Acting.TheVariants as acting
use Rattle.xrf_cavm.specs.declared.decisions.Decided.{Decided}
use Rattle.xrf_cavm.specs.declared.decisions.Decided.TheVariants.{Owner}
use Rattle.xrf_gated.specs.declared.gated.Slot.{Slot}
use Rattle.xrf_history.specs.declared.settings.Settings.{Settings}
use Rattle.xrf_history.specs.declared.want.Want.TheVariants as want
use Rattle.xrf_history.specs.Events.{Event, Signalled1, Signalled2, Looked1, Looked2, DecisionMade}
use Rattle.xrf_history.specs.Holding.{is_granted, is_owner}
use Rattle.xrf_history.specs.Deciding.{cause}
use Rattle.xrf_history.specs.Looking.{record_seen}
use Rattle.xrf_history.specs.Notices.{notice, notice_in}
use Rattle.xrf_history.specs.Reserving.{sign_off_due, drop_due}
use Rattle.xrf_history.specs.Rows.{boundary, has_signalled, rounds, signal_of}
use Rattle.xrf_history.specs.Next.{inside}
use Rattle.xrf_progress.proofs.Course.{Ground, Owning, IsAlone, Restart, OwnSignal2, OwnLook1, OwnLook2, OwnDecide, Restarting, Outer}
use Rattle.xrf_progress.proofs.Lefts.{inner-left, round-left, place-left}
use Rattle.xrf_progress.proofs.Potential.{restart_left, Less}

-- an owner that made no SIGNAL1 in this tick makes a round next
pub round-boundary : (p : Settings) (h : List Event) → is_granted h ≡ true → is_owner h ≡ true → has_signalled h ≡ false → sign_off_due h ≡ None
    → notice h ≡ None → drop_due h ≡ false → boundary p h ≡ want.Signal1 (signal_of h (rounds h + 1))
round-boundary p h granted owner signalled no_off no_told no_drop = grind (arith, common_steps)

-- an owner beside no alternate, and without a taking, decides nothing, or forgets its alternate
owner-decides : (p : Settings) (h : List Event) (known : Known) (at : ℕ) → is_owner h ≡ true → IsAlone (record_seen h)
    → (cause p h known at ≡ Owner acting.Nothing) ⊎ (cause p h known at ≡ Owner acting.Forget)
owner-decides p h known at owner alone = by owner alone.no_alt alone.no_taking
  where
    by : is_owner h ≡ true → (record_seen h).alt ≡ None → (record_seen h).taking ≡ None
        → (cause p h known at ≡ Owner acting.Nothing) ⊎ (cause p h known at ≡ Owner acting.Forget)
    by owns no_alt no_taking = grind (arith, common_steps)

-- so it is told nothing
decided-told : (p : Settings) (h : List Event) (known : Known) (at : ℕ) (d : Decided) → is_owner h ≡ true → IsAlone (record_seen h) → d ≡ cause p h known at
    → notice_in d (notice h) ≡ notice h
decided-told p h known at d owner alone made = by (owner-decides p h known at owner alone)
  where
    by : (cause p h known at ≡ Owner acting.Nothing) ⊎ (cause p h known at ≡ Owner acting.Forget) → notice_in d (notice h) ≡ notice h
    by (inl is) = ap (λ (e : Decided). notice_in e (notice h)) (made ∙ is)
    by (inr is) = ap (λ (e : Decided). notice_in e (notice h)) (made ∙ is)

-- its SIGNAL1
pub own-signal1 : (p : Settings) (g : Ground) (n : ℕ) (h : List Event) (signal : SignalRecord) → Owning g n h → Restart p g n (Signalled1 signal ∷ h)
own-signal1 p g n h signal o =
    OwnSignal2 (record { owning = o.owning; mine = o.mine; few = o.few }) refl (signal_of h (rounds h + 1)) refl

-- its SIGNAL2
pub own-signal2 : (p : Settings) (g : Ground) (n : ℕ) (h : List Event) (signal : SignalRecord) → Owning g n h → has_signalled h ≡ true
    → Restart p g n (Signalled2 signal ∷ h)
own-signal2 p g n h signal o signalled = OwnLook1 (record { owning = o.owning; mine = o.mine; few = o.few }) signalled refl

-- its LOOK1
pub own-look1 : (p : Settings) (g : Ground) (n : ℕ) (h : List Event) (c : ControlRecord) (signal : Option SignalRecord) → Owning g n h
    → has_signalled h ≡ true → IsAlone c → Restart p g n (Looked1 c signal ∷ h)
own-look1 p g n h c signal o signalled alone = OwnLook2 (record { owning = o.owning; mine = o.mine; few = o.few }) signalled refl alone

-- its LOOK2
pub own-look2 : (p : Settings) (g : Ground) (n : ℕ) (h : List Event) (signal : Option SignalRecord) (at : ℕ) → Owning g n h
    → has_signalled h ≡ true → IsAlone (record_seen h) → Restart p g n (Looked2 signal at ∷ h)
own-look2 p g n h signal at o signalled alone =
    let a = o.owning in
    OwnDecide (record {
      owning = record { granted = a.granted; owner = a.owner; no_off = a.no_off; no_told = a.no_told; no_drop = a.no_drop; fresh = a.fresh };
      mine = o.mine;
      few = o.few;
    }) signalled refl alone

-- its DECIDE
pub own-decide : (p : Settings) (g : Ground) (n : ℕ) (h : List Event) (known : Known) (at : ℕ) (d : Decided) → Owning g n h
    → has_signalled h ≡ true → IsAlone (record_seen h) → d ≡ cause p h known at → Restart p g n (DecisionMade known at d ∷ h)
own-decide p g n h known at d o signalled alone made =
    let a = o.owning in
    Restarting (record {
      owning = record {
        granted = a.granted;
        owner = a.owner;
        no_off = a.no_off;
        no_told = decided-told p h known at d a.owner alone made ∙ a.no_told;
        no_drop = a.no_drop;
        fresh = a.fresh;
      };
      mine = o.mine;
      few = o.few;
    }) signalled (Outer refl)

-- each act of the round leaves less
pub signal1-less : (slot : ℕ → Slot) (p : Settings) (h : List Event) (signal : SignalRecord) → inside p h ≡ None → has_signalled h ≡ false
    → Less p (restart_left slot p h) (restart_left slot p (Signalled1 signal ∷ h))
signal1-less slot p h signal at signalled whole = let before = round-left slot p h at signalled in omega (arith, before)

-- its SIGNAL2
pub signal2-less : (slot : ℕ → Slot) (p : Settings) (h : List Event) (made signal : SignalRecord) → inside p h ≡ Some (want.Signal2 made)
    → Less p (restart_left slot p h) (restart_left slot p (Signalled2 signal ∷ h))
signal2-less slot p h made signal at whole = let before = inner-left slot p h (want.Signal2 made) at in omega (arith, before)

-- its LOOK1
pub look1-less : (slot : ℕ → Slot) (p : Settings) (h : List Event) (c : ControlRecord) (signal : Option SignalRecord) → inside p h ≡ Some want.Look1
    → Less p (restart_left slot p h) (restart_left slot p (Looked1 c signal ∷ h))
look1-less slot p h c signal at whole = let before = inner-left slot p h want.Look1 at in omega (arith, before)

-- its LOOK2
pub look2-less : (slot : ℕ → Slot) (p : Settings) (h : List Event) (signal : Option SignalRecord) (now : ℕ) → inside p h ≡ Some want.Look2
    → Less p (restart_left slot p h) (restart_left slot p (Looked2 signal now ∷ h))
look2-less slot p h signal now at whole = let before = inner-left slot p h want.Look2 at in omega (arith, before)

-- its DECIDE
pub own-decide-less : (slot : ℕ → Slot) (p : Settings) (h : List Event) (known : Known) (now : ℕ) (d : Decided) → inside p h ≡ Some want.Decide
    → has_signalled h ≡ true → Less p (restart_left slot p h) (restart_left slot p (DecisionMade known now d ∷ h))
own-decide-less slot p h known now d at signalled whole =
    let before = inner-left slot p h want.Decide at in
    let after = place-left slot p (DecisionMade known now d ∷ h) signalled (Outer refl) in
    omega (arith, before, after)
