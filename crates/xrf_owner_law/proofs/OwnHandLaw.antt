-- Own hand: nobody changes an owner's state but the owner itself, and a place in the record goes by its own hand, by
-- the drop, or once it is confirmed that its job ended.
use Rattle.std.proofs.Common.{arith, true, ◌≡◌, ℕ, false, ◌⊎◌, inl, inr, subst, List, ap, sym, ◌∙◌, refl, ◌∷◌, Bool, is_some, ◌==◌, ◌||◌, ◌&&◌, not, Option, None, Some, IfSome}
use Rattle.std.proofs.lemmas.Grind.{common_steps}
use Rattle.xrf_base.specs.declared.site.Site.{Site}
use Rattle.xrf_ctl.specs.Control.{ControlRecord, KeepsRule}
use Rattle.xrf_ctl.specs.declared.parts.OwnerState.{OwnerState}
use Rattle.xrf_ctl.specs.declared.parts.Taking.{Taking}
use Rattle.xrf_cavm.specs.declared.known.Known.{Known}
use Rattle.xrf_cavm.specs.Writes.{with_state}
use Rattle.xrf_cavm.specs.Record.{inc_of_alt, inc_of_owner}
use Rattle.xrf_history.proofs.Writes.{IsRuled, Wrote, of_alternate}
use Rattle.xrf_history.specs.declared.settings.Settings.{Settings}
use Rattle.xrf_history.specs.Reserving.{SignOnActive, GoThrough, Purpose, SignOff, known_read, purpose, SignOnStandby, DropAlternate, Leave, StartTakeover}
use Rattle.xrf_history.proofs.Decisions.{is_start, purposed as purposed-of}
use Rattle.xrf_history.proofs.Purposes.{is_sign_off, Suits}
use Rattle.xrf_history.specs.Events.{Event}
use Rattle.xrf_history.proofs.Phases.{Phase, before_write}
use Rattle.xrf_history.specs.Holding.{has_started_takeover, is_granted, is_owner, is_tracking, is_waiting, number}
use Rattle.xrf_history.proofs.Holding.{owner-granted}
use Rattle.xrf_history.specs.Notices.{is_drop}
use Rattle.xrf_history.proofs.Tests.{or-right, or-left}
use Rattle.xrf_trace.specs.OwnHand.{changes_state, state_of, IsByOwner, ChangesNoMore, alternate_goes, inc_of_taking, taking_goes, is_own_or_ended, AlternateLets, has_failed, lets_taking, TakingLets, OwnHand}
use Rattle.xrf_trace.specs.Throughs.{changes_owner}
use Rattle.xrf_trace.specs.declared.entry.Entry.{Entry}
use Rattle.xrf_trace.specs.Devices.{control}
use Rattle.xrf_trace.specs.OneUpdater.{running_owner}
use Rattle.xrf_trace.specs.Scenario.{Scen, settings}
use Rattle.xrf_trace.proofs.Sites.{running-at}
use Rattle.xrf_trace.specs.Words.{who_at, confirmed}
use Rattle.xrf_trace.specs.Runs.{IsRun}
use Rattle.xrf_trace.specs.declared.entry.Act.{Act}
use Rattle.xrf_trace.proofs.AtSites.{where-so, each-of, where-at}
use Rattle.xrf_trace.specs.Jobs.{hist}
use Rattle.xrf_trace.specs.Each.{Where, AtSite}
use Rattle.xrf_trace.specs.Landing.{lands}
use Rattle.xrf_trace.specs.declared.entry.Act.TheVariants as act
use Rattle.xrf_owner_law.specs.Owner.{IsOwner, Knows}
use Rattle.xrf_owner_law.proofs.WritesOfRuns.{WritesAt, inc-at, writes-at, writes-now}
use Rattle.xrf_owner_law.specs.Views.{is_over}
use Rattle.xrf_owner_law.proofs.StateSteps.{suits-alternate}
use Rattle.xrf_owner_law.proofs.LeavingLaw.{is_leave, leaves-failed}
use Rattle.xrf_owner_law.proofs.RuleLaw.{kept}
use Rattle.xrf_owner_law.proofs.TakingLaw.{Untaken, untaken}

-- a sign-on as active, and a through, make another owner
active-other : (p : Settings) (me : ℕ) (c w : ControlRecord) (known : Known) → Wrote p SignOnActive me c known w → IsRuled c
    → changes_state c.owner w.owner ≡ true → ⊥
active-other p me c w known did rule changes = grind (arith, common_steps)

-- a through makes another owner
through-other : (p : Settings) (me : ℕ) (c w : ControlRecord) (known : Known) → Wrote p GoThrough me c known w → IsRuled c
    → changes_state c.owner w.owner ≡ true → ⊥
through-other p me c w known did rule changes = grind (arith, common_steps)

-- all other writes but a sign-off leave the owner
owner-stays : (p : Settings) (q : Purpose) (me : ℕ) (c w : ControlRecord) (known : Known) → Wrote p q me c known w → is_sign_off q ≡ false
    → (w.owner ≡ c.owner) ⊎ ((q ≡ SignOnActive) ⊎ (q ≡ GoThrough))
owner-stays p q me c w known did other = grind (arith, common_steps)

-- an owner that stays keeps its state
same-state : (c w : ControlRecord) → w.owner ≡ c.owner → changes_state c.owner w.owner ≡ true → ⊥
same-state c w same changes = grind (arith, common_steps)

-- so no other write changes the owner's state
no-hand : (p : Settings) (q : Purpose) (me : ℕ) (c w : ControlRecord) (known : Known) → Wrote p q me c known w → IsRuled c → is_sign_off q ≡ false
    → changes_state c.owner w.owner ≡ true → ⊥
no-hand p q me c w known did rule other changes = by (owner-stays p q me c w known did other)
  where
    by : ((w.owner ≡ c.owner) ⊎ ((q ≡ SignOnActive) ⊎ (q ≡ GoThrough))) → ⊥
    by (inl same) = same-state c w same changes
    by (inr (inl is)) = active-other p me c w known (subst (λ (r : Purpose). Wrote p r me c known w) is did) rule changes
    by (inr (inr is)) = through-other p me c w known (subst (λ (r : Purpose). Wrote p r me c known w) is did) rule changes

-- a sign-off changes the state of the running owner alone
off-alone : (p : Settings) (state : OwnerState) (me : ℕ) (c w : ControlRecord) (known : Known) (x : Site) → Wrote p (SignOff state) me c known w
    → IsOwner c x me → w ≡ record c { owner = with_state (state_of w.owner) c.owner }
off-alone p state me c w known x did owner = grind (arith, common_steps)

-- what is known of a write that changes the owner's state
record OffHand (t : List Entry) (e : Entry) (w : ControlRecord) : Type 0 where
  pub owner : (control t).owner ≡ running_owner e.who e.inc
  pub alone : w ≡ record (control t) { owner = with_state (state_of w.owner) (control t).owner }

-- a write that changes the owner's state is the owner's own sign-off
hand-by : (s : Scen) (t : List Entry) (e : Entry) (x : Site) (h : List Event) (w : ControlRecord) (q : Purpose) → WritesAt s t e x h w
    → e.act ≡ act.CtlWrite w → purpose h ≡ q → changes_state (control t).owner w.owner ≡ true → OffHand t e w
hand-by s t e x h w (SignOff state) at acts purposed changes =
    let p = settings s x in
    let owner = subst (λ (q : Purpose). Suits q (is_granted h) (is_owner h)) purposed at.written.suits in
    let runs = at.job.stands.runs owner (ap (λ (f : Phase). is_over f (purpose h)) at.phase) in
    let inc = inc-at s t e x h w true at acts (owner-granted h owner) in
    record {
      owner = runs ∙ sym (running-at x (number h)) ∙ sym (ap (running_owner (who_at x)) inc) ∙ sym (ap (λ who. running_owner who e.inc) at.made.who);
      alone = off-alone p state (number h) (control t) w (known_read h) x
          (subst (λ (q : Purpose). Wrote p q (number h) (control t) (known_read h) w) purposed at.written.did) runs;
    }
hand-by s t e x h w q at acts purposed changes =
    absurd (no-hand (settings s x) (purpose h) (number h) (control t) w (known_read h) at.written.did at.rule (ap is_sign_off purposed) changes)

-- so is each of a run
hand-at : (s : Scen) (t : List Entry) (e : Entry) (w : ControlRecord) → IsRun s (e ∷ t) → e.act ≡ act.CtlWrite w
    → changes_state (control t).owner w.owner ≡ true → OffHand t e w
hand-at s t e w is acts changes =
    let found = writes-at s t e w is acts in hand-by s t e found.0 found.1 w (purpose found.1) found.2 acts refl changes

-- the owner's state is changed by its own hand
by-owner : (s : Scen) (t : List Entry) (e : Entry) (a : Act) → IsRun s (e ∷ t) → e.act ≡ a → IsByOwner t e a
by-owner s t e (act.CtlWrite w) is acts =
    where-so (changes_state (control t).owner w.owner) ((control t).owner ≡ running_owner e.who e.inc) (λ changes. (hand-at s t e w is acts changes).owner)
by-owner s t e _ is acts = tt

-- and alone
no-more : (s : Scen) (t : List Entry) (e : Entry) (a : Act) → IsRun s (e ∷ t) → e.act ≡ a → ChangesNoMore t a
no-more s t e (act.CtlWrite w) is acts =
    where-so (changes_state (control t).owner w.owner) (w ≡ record (control t) { owner = with_state (state_of w.owner) (control t).owner })
    (λ changes. (hand-at s t e w is acts changes).alone)
no-more s t e _ is acts = tt

-- The alternate, and with it the taking: who writes it away is the alternate itself, or signs on once it is
-- confirmed,
-- or drops it.
abbrev Lets : Purpose → (me n : ℕ) → (ℕ → Bool) → Type 0
Lets q me n k = (k n ≡ true) ⊎ (((n ≡ me) × (of_alternate q ≡ true)) ⊎ (is_drop q ≡ true))

-- who signs on as active was handed the alternate as confirmed
alt-active : (p : Settings) (me : ℕ) (c w : ControlRecord) (known : Known) (k : ℕ → Bool) → Wrote p SignOnActive me c known w → Knows k known c
    → is_some c.alt ≡ true → k (inc_of_alt c.alt) ≡ true
alt-active p me c w known k did knows some = grind (arith, common_steps)

-- so was who signs on as standby
alt-standby : (p : Settings) (me : ℕ) (c w : ControlRecord) (known : Known) (k : ℕ → Bool) → Wrote p SignOnStandby me c known w → Knows k known c
    → is_some c.alt ≡ true → k (inc_of_alt c.alt) ≡ true
alt-standby p me c w known k did knows some = grind (arith, common_steps)

-- a sign-off leaves the alternate
alt-off : (p : Settings) (me : ℕ) (state : OwnerState) (c w : ControlRecord) (known : Known) → Wrote p (SignOff state) me c known w
    → alternate_goes c w ≡ true → ⊥
alt-off p me state c w known did goes = grind (arith, common_steps)

-- an alternate that writes is the one of the record
alt-own : (p : Settings) (q : Purpose) (me : ℕ) (c w : ControlRecord) (known : Known) → Wrote p q me c known w → of_alternate q ≡ true
    → inc_of_alt c.alt ≡ me
alt-own p q me c w known did own = grind (arith, common_steps)

-- an alternate that goes was there
goes-some : (c w : ControlRecord) → alternate_goes c w ≡ true → is_some c.alt ≡ true
goes-some c w goes = grind (arith, common_steps)

-- who writes the alternate away is it, or signs on once it is confirmed, or drops it
alt-lets : (p : Settings) (q : Purpose) (me : ℕ) (c w : ControlRecord) (known : Known) (k : ℕ → Bool) → Wrote p q me c known w → Knows k known c
    → alternate_goes c w ≡ true → Lets q me (inc_of_alt c.alt) k
alt-lets p SignOnActive me c w known k did knows goes = inl (alt-active p me c w known k did knows (goes-some c w goes))
alt-lets p SignOnStandby me c w known k did knows goes = inl (alt-standby p me c w known k did knows (goes-some c w goes))
alt-lets p (SignOff state) me c w known k did knows goes = absurd (alt-off p me state c w known did goes)
alt-lets p DropAlternate me c w known k did knows goes = inr (inr refl)
alt-lets p (Leave reason) me c w known k did knows goes = inr (inl (alt-own p (Leave reason) me c w known did refl, refl))
alt-lets p (StartTakeover cause) me c w known k did knows goes = inr (inl (alt-own p (StartTakeover cause) me c w known did refl, refl))
alt-lets p GoThrough me c w known k did knows goes = inr (inl (alt-own p GoThrough me c w known did refl, refl))

-- the taking is the alternate's
taking-own : (c w : ControlRecord) → KeepsRule c → taking_goes c w ≡ true → (is_some c.alt ≡ true) × (inc_of_taking c.taking ≡ inc_of_alt c.alt)
taking-own c w rule goes = grind (arith, common_steps)

-- a sign-off leaves the taking
taking-off : (p : Settings) (me : ℕ) (state : OwnerState) (c w : ControlRecord) (known : Known) → Wrote p (SignOff state) me c known w
    → taking_goes c w ≡ true → ⊥
taking-off p me state c w known did goes = grind (arith, common_steps)

-- a drop writes no taking away
taking-drop : (p : Settings) (me : ℕ) (c w : ControlRecord) (known : Known) → Wrote p DropAlternate me c known w → taking_goes c w ≡ true → ⊥
taking-drop p me c w known did goes = grind (arith, common_steps)

-- who writes the taking away is its alternate, or signs on once it is confirmed
taking-lets : (p : Settings) (q : Purpose) (me : ℕ) (c w : ControlRecord) (known : Known) (k : ℕ → Bool) → Wrote p q me c known w → Knows k known c
    → KeepsRule c → taking_goes c w ≡ true → (k (inc_of_alt c.alt) ≡ true) ⊎ ((inc_of_alt c.alt ≡ me) × (of_alternate q ≡ true))
taking-lets p SignOnActive me c w known k did knows rule goes = inl (alt-active p me c w known k did knows (taking-own c w rule goes).0)
taking-lets p SignOnStandby me c w known k did knows rule goes = inl (alt-standby p me c w known k did knows (taking-own c w rule goes).0)
taking-lets p (SignOff state) me c w known k did knows rule goes = absurd (taking-off p me state c w known did goes)
taking-lets p DropAlternate me c w known k did knows rule goes = absurd (taking-drop p me c w known did goes)
taking-lets p (Leave reason) me c w known k did knows rule goes = inr (alt-own p (Leave reason) me c w known did refl, refl)
taking-lets p (StartTakeover cause) me c w known k did knows rule goes = inr (alt-own p (StartTakeover cause) me c w known did refl, refl)
taking-lets p GoThrough me c w known k did knows rule goes = inr (alt-own p GoThrough me c w known did refl, refl)

-- it is its own incarnation, or is confirmed to have ended
own-ended : (n inc : ℕ) (k : Bool) → (k ≡ true) ⊎ (n ≡ inc) → (n == inc || k) ≡ true
own-ended n inc k lets = grind (arith, common_steps)

-- the incarnation of an alternate's entry
own-inc : (s : Scen) (t : List Entry) (e : Entry) (x : Site) (h : List Event) (w : ControlRecord) → WritesAt s t e x h w → e.act ≡ act.CtlWrite w
    → of_alternate (purpose h) ≡ true → number h ≡ e.inc
own-inc s t e x h w at acts own =
    sym (inc-at s t e x h w true at acts (suits-alternate (purpose h) (is_granted h) (is_owner h) at.written.suits own).0)

-- an alternate goes by its own hand, or is confirmed, or by the drop
alt-by : (s : Scen) (t : List Entry) (e : Entry) (x : Site) (h : List Event) (w : ControlRecord) → WritesAt s t e x h w → e.act ≡ act.CtlWrite w
    → Lets (purpose h) (number h) (inc_of_alt (control t).alt) (confirmed t)
    → (is_own_or_ended t e (inc_of_alt (control t).alt) || is_drop (purpose h)) ≡ true
alt-by s t e x h w at acts (inl ended) =
    or-left (is_own_or_ended t e (inc_of_alt (control t).alt)) (is_drop (purpose h))
    (own-ended (inc_of_alt (control t).alt) e.inc (confirmed t (inc_of_alt (control t).alt)) (inl ended))
alt-by s t e x h w at acts (inr (inl own)) =
    or-left (is_own_or_ended t e (inc_of_alt (control t).alt)) (is_drop (purpose h))
    (own-ended (inc_of_alt (control t).alt) e.inc (confirmed t (inc_of_alt (control t).alt)) (inr (own.0 ∙ own-inc s t e x h w at acts own.1)))
alt-by s t e x h w at acts (inr (inr drops)) = or-right (is_own_or_ended t e (inc_of_alt (control t).alt)) (is_drop (purpose h)) drops

-- so it is at each act
alternate-act : (s : Scen) (t : List Entry) (e : Entry) (x : Site) (h : List Event) (a : Act) → IsRun s (e ∷ t) → e.who ≡ who_at x → hist s t x ≡ Some h
    → e.act ≡ a → AlternateLets t e h a
alternate-act s t e x h (act.CtlWrite w) is who here acts =
    where-so (alternate_goes (control t) w) ((is_own_or_ended t e (inc_of_alt (control t).alt) || is_drop (purpose h)) ≡ true) (λ goes.
    let at = writes-now s t e x h w is who here acts in
    alt-by s t e x h w at acts
    (alt-lets (settings s x) (purpose h) (number h) (control t) w (known_read h) (confirmed t) at.written.did at.written.knows goes))
alternate-act s t e x h _ is who here acts = tt

-- a through changes the owner
through-changes : (p : Settings) (me : ℕ) (c w : ControlRecord) (known : Known) → Wrote p GoThrough me c known w → IsRuled c
    → not (inc_of_owner w.owner == inc_of_owner c.owner) ≡ true
through-changes p me c w known did rule = grind (arith, common_steps)

-- an alternate beside a taking waits
waits-beside : (granted owner started : Bool) (taking : Option Taking) → granted ≡ true → owner ≡ false → ((granted && not owner && not started) ≡ true → taking ≡ None)
    → is_some taking ≡ true → (granted && not owner && started) ≡ true
waits-beside granted owner started taking holds other untaken some = grind (arith, common_steps)

-- the taking was there
taking-some : (c w : ControlRecord) → taking_goes c w ≡ true → is_some c.taking ≡ true
taking-some c w goes = grind (arith, common_steps)

-- who takes its own taking away waits
taker-waits : (s : Scen) (t : List Entry) (e : Entry) (x : Site) (h : List Event) (w : ControlRecord) → IsRun s t → WritesAt s t e x h w
    → of_alternate (purpose h) ≡ true → taking_goes (control t) w ≡ true → is_waiting h ≡ true
taker-waits s t e x h w is at own goes =
    let suits = suits-alternate (purpose h) (is_granted h) (is_owner h) at.written.suits own in
    let none : is_tracking h ≡ true → (control t).taking ≡ None = subst (λ (job : Option (List Event)). IfSome job (Untaken s (control t) (confirmed t) x)) at.made.there (untaken s t is x) in
    waits-beside (is_granted h) (is_owner h) (has_started_takeover h) (control t).taking suits.0 suits.1 none (taking-some (control t) w goes)

-- it goes through, or leaves since an act of it failed
taker-may : (s : Scen) (t : List Entry) (e : Entry) (x : Site) (h : List Event) (w : ControlRecord) (q : Purpose) → WritesAt s t e x h w → is_waiting h ≡ true
    → of_alternate q ≡ true → purpose h ≡ q → (changes_owner (control t) (act.CtlWrite w) || has_failed h) ≡ true
taker-may s t e x h w GoThrough at waiting own purposed =
    or-left (changes_owner (control t) (act.CtlWrite w)) (has_failed h)
    (through-changes (settings s x) (number h) (control t) w (known_read h)
    (subst (λ (q : Purpose). Wrote (settings s x) q (number h) (control t) (known_read h) w) purposed at.written.did) at.rule)
taker-may s t e x h w (Leave reason) at waiting own purposed =
    or-right (changes_owner (control t) (act.CtlWrite w)) (has_failed h)
    (leaves-failed (settings s x) h at.path (ap before_write at.phase) (ap is_leave purposed) waiting)
taker-may s t e x h w (StartTakeover cause) at waiting own purposed =
    let tracks : is_waiting h ≡ false = (purposed-of (settings s x) h at.path (ap before_write at.phase)).0 (ap is_start purposed) in absurd (cc (sym waiting ∙ tracks))
taker-may s t e x h w _ at waiting own purposed = absurd (cc)

-- such a taking may go
may-go : (taken inc : ℕ) (ended may : Bool) → (ended ≡ true) ⊎ ((taken ≡ inc) × (may ≡ true)) → (ended || (taken == inc && may)) ≡ true
may-go taken inc ended may lets = grind (arith, common_steps)

-- a taking goes by its own hand, or is confirmed
taking-by : (s : Scen) (t : List Entry) (e : Entry) (x : Site) (h : List Event) (w : ControlRecord) → IsRun s t → WritesAt s t e x h w → e.act ≡ act.CtlWrite w
    → taking_goes (control t) w ≡ true → (confirmed t (inc_of_alt (control t).alt) ≡ true) ⊎ ((inc_of_alt (control t).alt ≡ number h) × (of_alternate (purpose h) ≡ true))
    → lets_taking t e h (inc_of_alt (control t).alt) ≡ true
taking-by s t e x h w is at acts goes (inl ended) =
    may-go (inc_of_alt (control t).alt) e.inc (confirmed t (inc_of_alt (control t).alt)) (changes_owner (control t) e.act || has_failed h) (inl ended)
taking-by s t e x h w is at acts goes (inr own) =
    may-go (inc_of_alt (control t).alt) e.inc (confirmed t (inc_of_alt (control t).alt)) (changes_owner (control t) e.act || has_failed h)
    (inr (
      own.0 ∙ own-inc s t e x h w at acts own.1,
      ap (λ (a : Act). changes_owner (control t) a || has_failed h) acts ∙ taker-may s t e x h w (purpose h) at (taker-waits s t e x h w is at own.1 goes) own.1 refl,
    ))

-- so it is at each act
taking-act : (s : Scen) (t : List Entry) (e : Entry) (x : Site) (h : List Event) (a : Act) → IsRun s (e ∷ t) → e.who ≡ who_at x → hist s t x ≡ Some h
    → e.act ≡ a → TakingLets t e h a
taking-act s t e x h (act.CtlWrite w) is who here acts =
    where-so (taking_goes (control t) w) (lets_taking t e h (inc_of_taking (control t).taking) ≡ true) (λ goes.
    let at = writes-now s t e x h w is who here acts in
    let rule = (kept s t is.0).rule in
    ap (lets_taking t e h) (taking-own (control t) w rule goes).1
    ∙ taking-by s t e x h w is.0 at acts goes
    (taking-lets (settings s x) (purpose h) (number h) (control t) w (known_read h) (confirmed t) at.written.did at.written.knows rule goes))
taking-act s t e x h _ is who here acts = tt

-- a fact of an entry that lands
where-lands : (e : Entry) (F : Type 0) → F → Where (lands e.land) F
where-lands e F holds = where-so (lands e.land) F (λ landed. holds)

-- **own hand, of every run**
pub own-hand : (s : Scen) (t : List Entry) → IsRun s t → OwnHand s t
own-hand s t is = record {
  states = each-of s (λ t e. Where (lands e.land) (IsByOwner t e e.act)) (λ t e is. where-lands e (IsByOwner t e e.act) (by-owner s t e e.act is refl)) t is;
  states_alone = each-of s (λ t e. Where (lands e.land) (ChangesNoMore t e.act))
      (λ t e is. where-lands e (ChangesNoMore t e.act) (no-more s t e e.act is refl)) t is;
  alternates = each-of s (λ t e. Where (lands e.land) (AtSite s t e.who (λ x h. AlternateLets t e h e.act)))
      (λ t e is. where-at s t e (lands e.land) (λ x h. AlternateLets t e h e.act) (λ landed x h who here. alternate-act s t e x h e.act is who here refl)) t is;
  takings = each-of s (λ t e. Where (lands e.land) (AtSite s t e.who (λ x h. TakingLets t e h e.act)))
      (λ t e is. where-at s t e (lands e.land) (λ x h. TakingLets t e h e.act) (λ landed x h who here. taking-act s t e x h e.act is who here refl)) t is;
}
