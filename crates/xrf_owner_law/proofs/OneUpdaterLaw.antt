-- One updater: the running owner alone updates, and incarnations are given one by one, each with its place.
use Rattle.std.proofs.Common.{Bool, Option, false, List, None, Some, length, nat_lt, true, ◌≡◌, ◌+◌, if◌then◌else◌, refl, arith, ap, sym, ◌∙◌, ◌∷◌, ℕ, not, subst}
use Rattle.std.specs.Option.{option_map_or}
use Rattle.std.proofs.lemmas.Grind.{common_steps}
use Rattle.xrf_base.specs.declared.site.Site.{Site}
use Rattle.xrf_ctl.specs.Control.{ControlRecord}
use Rattle.xrf_cavm.specs.declared.known.Known.{Known}
use Rattle.xrf_history.specs.Events.{Event}
use Rattle.xrf_history.specs.declared.want.Want.{Want}
use Rattle.xrf_history.proofs.OwnersWork.{is_owner_act, owner_acts}
use Rattle.xrf_history.proofs.Phases.{is_work, before_write}
use Rattle.xrf_history.specs.Holding.{number, is_granted, is_owner, starts_active}
use Rattle.xrf_history.specs.Next.{next}
use Rattle.xrf_history.specs.Reserving.{purpose, Purpose, known_read, SignOnActive, SignOnStandby}
use Rattle.xrf_history.proofs.PhaseLaws.{work-phase}
use Rattle.xrf_history.specs.declared.settings.Settings.{Settings}
use Rattle.xrf_history.proofs.Purposes.{Suits, signs-on}
use Rattle.xrf_history.proofs.Writes.{Wrote}
use Rattle.xrf_history.specs.declared.want.Want.TheVariants as want
use Rattle.xrf_trace.specs.declared.entry.Act.{Act}
use Rattle.xrf_trace.specs.Throughs.{is_update}
use Rattle.xrf_trace.specs.declared.entry.Entry.{Entry}
use Rattle.xrf_trace.specs.Scenario.{Scen, work, settings}
use Rattle.xrf_trace.specs.Words.{items_taken, who_at}
use Rattle.xrf_trace.specs.Acts.{next_item, act_of, is_act}
use Rattle.xrf_trace.specs.Entries.{inc_of_act}
use Rattle.xrf_trace.proofs.TraceActs.{IsMade, act-next}
use Rattle.xrf_trace.specs.Runs.{IsRun}
use Rattle.xrf_trace.specs.Devices.{control}
use Rattle.xrf_trace.proofs.Paths.{history-at}
use Rattle.xrf_trace.proofs.Sites.{running-at}
use Rattle.xrf_trace.specs.OneUpdater.{running_owner, UpdatesAsOwner, CountsUp, CountsByGrants, HasNumber, GrantsNext, PlaceIs, HasPlace, GrantsPlace, OneUpdater}
use Rattle.xrf_trace.specs.Each.{Where}
use Rattle.xrf_trace.specs.Jobs.{hist}
use Rattle.xrf_trace.specs.Landing.{lands}
use Rattle.xrf_trace.proofs.AtSites.{where-at, each-of}
use Rattle.xrf_trace.specs.declared.entry.Act.TheVariants as act
use Rattle.xrf_owner_law.specs.Views.{is_over}
use Rattle.xrf_owner_law.proofs.Invariant.{job-at}
use Rattle.xrf_owner_law.proofs.WritesOfRuns.{WritesAt, writes-now, inc-at}

-- an update is an owner's act
abbrev pub updates : Option Act → Bool
updates o = option_map_or is_update o false

-- an ITEM is no update
no-item : (s : Scen) (t : List Entry) (x : Site) → updates (next_item s t x) ≡ true → ⊥
no-item s t x = by (nat_lt (items_taken t x) (length (work s x)))
  where
    by : (b : Bool) → updates (if b then Some (act.Item (items_taken t x + 1)) else None) ≡ true → ⊥
    by true is = absurd (cc)
    by false is = absurd (cc)

-- an update is wanted by an owner outside the reserve
pub update-want : (s : Scen) (t : List Entry) (x : Site) (h : List Event) (w : Want) → updates (act_of s t x h w) ≡ true
    → (is_owner_act w ≡ true) × (is_work w ≡ true)
update-want s t x h (want.MsgClose place) is = (refl, refl)
update-want s t x h (want.MsgBody place message) is = (refl, refl)
update-want s t x h (want.MsgOpen place message) is = (refl, refl)
update-want s t x h (want.LogClose place) is = (refl, refl)
update-want s t x h (want.LogBody place rec) is = (refl, refl)
update-want s t x h (want.LogOpen place rec) is = (refl, refl)
update-want s t x h (want.KpClose place) is = (refl, refl)
update-want s t x h (want.KpBody place keypoint) is = (refl, refl)
update-want s t x h (want.KpOpen place keypoint) is = (refl, refl)
update-want s t x h (want.FileWrite unit rrn value) is = (refl, refl)
update-want s t x h (want.Undo rrn before) is = (refl, refl)
update-want s t x h want.Item is = absurd (no-item s t x is)
update-want s t x h _ is = absurd (cc)

-- an update is an act
pub update-act : (a : Act) → is_update a ≡ true → is_act a ≡ true
update-act a is = grind (arith, common_steps)

-- it carries the number of its job
update-inc : (a : Act) (h : List Event) → is_update a ≡ true → inc_of_act a h ≡ number h
update-inc a h is = grind (arith, common_steps)

-- an update is by the Running owner of the record
made-updates : (s : Scen) (t : List Entry) (e : Entry) (x : Site) (h : List Event) → IsRun s t → is_update e.act ≡ true → IsMade s t e x h
    → (control t).owner ≡ running_owner e.who e.inc
made-updates s t e x h is updating made =
    let path = history-at s t x h is made.there in
    let wanted = update-want s t x h (next (settings s x) h) (ap updates made.made ∙ updating) in
    let job = job-at s t x h is made.there in
    let outside = work-phase (settings s x) h path wanted.1 in
    let runs = job.stands.runs (owner_acts (settings s x) h path wanted.0) (ap (λ f. is_over f (purpose h)) outside) in
    runs ∙ sym (running-at x (number h)) ∙ sym (ap (running_owner (who_at x)) (made.inc ∙ update-inc e.act h updating)) ∙ sym
    (ap (λ w. running_owner w e.inc) made.who)

-- so is each update of a run
pub updates-as-owner : (s : Scen) (t : List Entry) (e : Entry) → IsRun s (e ∷ t) → UpdatesAsOwner t e
updates-as-owner s t e is = by (is_update e.act) refl
  where
    by : (b : Bool) → is_update e.act ≡ b → Where b ((control t).owner ≡ running_owner e.who e.inc)
    by false updating = tt
    by true updating =
        let made = act-next s t e is (update-act e.act updating) in
        made-updates s t e made.0 made.1 is.0 updating made.2

-- who holds a number keeps the last one
pub same-last : (p : Settings) (q : Purpose) (granted owner : Bool) (me : ℕ) (c w : ControlRecord) (known : Known) → Wrote p q me c known w
    → Suits q granted owner → granted ≡ true → w.last ≡ c.last
same-last p q granted owner me c w known did suits has = grind (arith, common_steps)

-- the last number after a write
last-by : (s : Scen) (t : List Entry) (e : Entry) (x : Site) (h : List Event) (w : ControlRecord) (g : Bool) → WritesAt s t e x h w → is_granted h ≡ g
    → w.last ≡ (if not g then (control t).last + 1 else (control t).last)
last-by s t e x h w false at granted = at.written.next granted
last-by s t e x h w true at granted =
    same-last (settings s x) (purpose h) (is_granted h) (is_owner h) (number h) (control t) w (known_read h) at.written.did at.written.suits granted

-- an act counts up by a grant alone
counts-act : (s : Scen) (t : List Entry) (e : Entry) (x : Site) (h : List Event) (a : Act) → IsRun s (e ∷ t) → e.who ≡ who_at x → hist s t x ≡ Some h
    → e.act ≡ a → CountsUp t (not (is_granted h)) a
counts-act s t e x h (act.CtlWrite w) is who here acts = last-by s t e x h w (is_granted h) (writes-now s t e x h w is who here acts) refl
counts-act s t e x h _ is who here acts = tt

-- the last number never falls, and rises by one at a grant alone
counts-by-grants : (s : Scen) (t : List Entry) (e : Entry) → IsRun s (e ∷ t) → CountsByGrants s t e
counts-by-grants s t e is =
    where-at s t e (lands e.land) (λ x h. CountsUp t (not (is_granted h)) e.act) (λ landed x h who here. counts-act s t e x h e.act is who here refl)

-- a grant gives that number to its job
number-by : (s : Scen) (t : List Entry) (e : Entry) (x : Site) (h : List Event) (w : ControlRecord) (g : Bool) → WritesAt s t e x h w
    → e.act ≡ act.CtlWrite w → is_granted h ≡ g → Where (not g) (e.inc ≡ (control t).last + 1)
number-by s t e x h w true at acts granted = tt
number-by s t e x h w false at acts granted = inc-at s t e x h w false at acts granted ∙ at.written.next granted

-- an act that grants gives the next number
number-act : (s : Scen) (t : List Entry) (e : Entry) (x : Site) (h : List Event) (a : Act) → IsRun s (e ∷ t) → e.who ≡ who_at x → hist s t x ≡ Some h
    → e.act ≡ a → HasNumber t e (not (is_granted h)) a
number-act s t e x h (act.CtlWrite w) is who here acts = number-by s t e x h w (is_granted h) (writes-now s t e x h w is who here acts) acts refl
number-act s t e x h _ is who here acts = tt

-- a grant gives the next number to its job
grants-next : (s : Scen) (t : List Entry) (e : Entry) → IsRun s (e ∷ t) → GrantsNext s t e
grants-next s t e is =
    where-at s t e (lands e.land) (λ x h. HasNumber t e (not (is_granted h)) e.act) (λ landed x h who here. number-act s t e x h e.act is who here refl)

-- and its place
place-active : (p : Settings) (me n : ℕ) (c w : ControlRecord) (known : Known) → Wrote p SignOnActive me c known w → n ≡ w.last
    → PlaceIs p.site n w true
place-active p me n c w known did same = grind (arith, common_steps)

-- a standby's place is the alternate's
place-standby : (p : Settings) (me n : ℕ) (c w : ControlRecord) (known : Known) → Wrote p SignOnStandby me c known w → n ≡ w.last
    → PlaceIs p.site n w false
place-standby p me n c w known did same = grind (arith, common_steps)

-- the place of a sign-on, as the job was started
place-of : (p : Settings) (active : Bool) (me n : ℕ) (c w : ControlRecord) (known : Known)
    → Wrote p (elim active [ true ↦ SignOnActive | false ↦ SignOnStandby ]) me c known w → n ≡ w.last → PlaceIs p.site n w active
place-of p true me n c w known did same = place-active p me n c w known did same
place-of p false me n c w known did same = place-standby p me n c w known did same

-- the place of a write that grants
place-by : (s : Scen) (t : List Entry) (e : Entry) (x : Site) (h : List Event) (w : ControlRecord) (g : Bool) → WritesAt s t e x h w
    → e.act ≡ act.CtlWrite w → is_granted h ≡ g → Where (not g) (PlaceIs x e.inc w (starts_active h))
place-by s t e x h w true at acts granted = tt
place-by s t e x h w false at acts granted =
    let p = settings s x in
    let signs = signs-on p h at.path (ap before_write at.phase) granted in
    place-of p (starts_active h) (number h) e.inc (control t) w (known_read h)
    (subst (λ (q : Purpose). Wrote p q (number h) (control t) (known_read h) w) signs at.written.did) (inc-at s t e x h w false at acts granted)

-- the place of an act that grants
place-act : (s : Scen) (t : List Entry) (e : Entry) (x : Site) (h : List Event) (a : Act) → IsRun s (e ∷ t) → e.who ≡ who_at x → hist s t x ≡ Some h
    → e.act ≡ a → HasPlace e x h a
place-act s t e x h (act.CtlWrite w) is who here acts = place-by s t e x h w (is_granted h) (writes-now s t e x h w is who here acts) acts refl
place-act s t e x h _ is who here acts = tt

-- a grant gives its place
grants-place : (s : Scen) (t : List Entry) (e : Entry) → IsRun s (e ∷ t) → GrantsPlace s t e
grants-place s t e is =
    where-at s t e (lands e.land) (λ x h. HasPlace e x h e.act) (λ landed x h who here. place-act s t e x h e.act is who here refl)

-- **one updater, of every run**
pub one-updater : (s : Scen) (t : List Entry) → IsRun s t → OneUpdater s t
one-updater s t is = record {
  updates = each-of s UpdatesAsOwner (updates-as-owner s) t is;
  counts = each-of s (CountsByGrants s) (counts-by-grants s) t is;
  grants = each-of s (GrantsNext s) (grants-next s) t is;
  places = each-of s (GrantsPlace s) (grants-place s) t is;
}
