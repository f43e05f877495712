-- Where one stands that was started as active, up to its CTLWRITE; and what it does next, beside a record that grants its sign-on.
use Rattle.std.proofs.Common.{◌≡◌, ℕ, ◌+◌, ◌≤◌, Bool, true, false, List, ◌∷◌, Option, Some, None, is_some, refl, ap, ◌∙◌, arith}
use Rattle.std.proofs.lemmas.Grind.{common_steps}
use Rattle.xrf_base.specs.declared.site.Site.{Site}
use Rattle.xrf_ctl.specs.declared.parts.Level.{Level}
use Rattle.xrf_ctl.specs.declared.parts.OwnerState.TheVariants.{Running}
use Rattle.xrf_ctl.specs.Control.{ControlRecord}
use Rattle.xrf_cavm.specs.Grants.{is_foreign}
use Rattle.xrf_cavm.specs.Record.{owner_is, owner_may_run, alt_may_run, inc_of_alt, is_owner as names_owner}
use Rattle.xrf_cavm.specs.declared.known.Known.{Known}
use Rattle.xrf_gated.specs.declared.gated.Slot.{Slot}
use Rattle.xrf_history.specs.declared.settings.Settings.{Settings}
use Rattle.xrf_history.specs.declared.want.Want.{Want}
use Rattle.xrf_history.specs.declared.want.Want.TheVariants as want
use Rattle.xrf_history.specs.Events.{Event, ControlRead, ControlWritten}
use Rattle.xrf_history.specs.Holding.{number, is_granted, is_owner, is_restarted, starts_active}
use Rattle.xrf_history.specs.Notices.{notice, epoch_number, is_drop}
use Rattle.xrf_history.specs.Reserving.{Purpose, SignOnActive, purpose, purpose_now, sign_off_due, drop_due, record_by_purpose, end_by_purpose}
use Rattle.xrf_history.specs.Rows.{has_signalled}
use Rattle.xrf_history.specs.Next.{inside, next, write_next, end_next, after_release}
use Rattle.xrf_history.proofs.PhaseLaws.{next-inside}
use Rattle.xrf_trace.specs.declared.entry.Entry.{Entry}
use Rattle.xrf_trace.specs.declared.entry.Act.{Act}
use Rattle.xrf_trace.specs.declared.entry.Act.TheVariants as act
use Rattle.xrf_trace.specs.declared.entry.Land.TheVariants as land
use Rattle.xrf_trace.specs.Scenario.{Scen, settings}
use Rattle.xrf_trace.specs.Words.{now, confirmed}
use Rattle.xrf_trace.specs.Devices.{control, control_after, message_slot}
use Rattle.xrf_trace.specs.Jobs.{handed, known_of}
use Rattle.xrf_trace.specs.Acts.{act_of}
use Rattle.xrf_trace.specs.ThroughByProof.{sign_on_record}
use Rattle.xrf_progress.proofs.Course.{Ground, IsAlone, IsOver, Restart, Written}
use Rattle.xrf_progress.proofs.Entries.{is_ended, writes_message}
use Rattle.xrf_progress.proofs.Potential.{most_of_restart, restart_left, own_round, Less}

-- the record grants a sign-on as active: the level reads its format, its owner is over, and its alternate is confirmed
pub record IsFree (level : Level) (k : ℕ → Bool) (c : ControlRecord) : Type 0 where
  pub known : is_foreign level c.format ≡ false
  pub over : IsOver k c
  pub gone : is_some c.alt ≡ true → k (inc_of_alt c.alt) ≡ true

-- a job that was started as active and holds no number
pub record Begun (h : List Event) : Type 0 where
  pub active : starts_active h ≡ true
  pub no_number : is_granted h ≡ false
  pub no_owner : is_owner h ≡ false
  pub no_off : sign_off_due h ≡ None
  pub no_told : notice h ≡ None
  pub no_drop : drop_due h ≡ false
  pub fresh : is_restarted h ≡ false

-- where it stands
pub data SignOn (p : Settings) (g : Ground) (h : List Event) : Type 0 where
  ToReserve : Begun h → inside p h ≡ Some want.Reserve → SignOn p g h
  ToRead : Begun h → inside p h ≡ Some want.CtlRead → purpose h ≡ SignOnActive → SignOn p g h
  ToWrite : Begun h → (w : ControlRecord) → inside p h ≡ Some (want.CtlWrite w) → purpose h ≡ SignOnActive → w.last ≡ g.me → names_owner w g.me ≡ true
      → IsAlone w → after_release p (ControlWritten w ∷ h) ≡ None → SignOn p g h

-- the acts that are left to it
abbrev pub sign_stage : Option Want → ℕ
sign_stage (Some want.Reserve) = 3
sign_stage (Some want.CtlRead) = 2
sign_stage _ = 1

abbrev pub sign_left : Settings → List Event → ℕ
sign_left p h = sign_stage (inside p h) + most_of_restart p + 1 + 5

-- where an act leads: on in the sign-on, or to the write by which it is the owner
pub data Signs (s : Scen) (t : List Entry) (x : Site) (g : Ground) (n : ℕ) (h : List Event) (a : Act) : Type 0 where
  OnInIt : is_ended a ≡ false → writes_message a ≡ false → control_after a land.Full (control t) ≡ control t
      → SignOn (settings s x) g (handed s t x (now t) h a ∷ h) → sign_left (settings s x) (handed s t x (now t) h a ∷ h) + 1 ≤ sign_left (settings s x) h
      → Signs s t x g n h a
  Granted : (w : ControlRecord) → a ≡ act.CtlWrite w → IsAlone w → Restart (settings s x) g n (handed s t x (now t) h a ∷ h)
      → Less (settings s x) (sign_left (settings s x) h) (restart_left (message_slot t) (settings s x) (handed s t x (now t) h a ∷ h))
      → Signs s t x g n h a

-- the act that comes next
abbrev pub SignsNext : Scen → List Entry → Site → Ground → ℕ → List Event → Type 0
SignsNext s t x g n h = (a : Act) × (act_of s t x h (next (settings s x) h) ≡ Some a) × Signs s t x g n h a

-- an owner that is over may not run
owner-not : (t : List Entry) (c : ControlRecord) → IsOver (confirmed t) c → owner_may_run c (known_of t c) ≡ false
owner-not t c over = by (owner_is c Running) refl
  where
    by : (b : Bool) → owner_is c Running ≡ b → owner_may_run c (known_of t c) ≡ false
    by true is = let gone = over is in grind (arith, common_steps)
    by false is = grind (arith, common_steps)

-- nor may an alternate that is confirmed
alt-not : (t : List Entry) (c : ControlRecord) → (is_some c.alt ≡ true → confirmed t (inc_of_alt c.alt) ≡ true) → alt_may_run c (known_of t c) ≡ false
alt-not t c gone = by (is_some c.alt) refl
  where
    by : (b : Bool) → is_some c.alt ≡ b → alt_may_run c (known_of t c) ≡ false
    by true is = let confirms = gone is in grind (arith, common_steps)
    by false is = grind (arith, common_steps)

-- so the sign-on writes its record
sign-on-writes : (p : Settings) (q : Purpose) (n epoch : ℕ) (c : ControlRecord) (known : Known) → q ≡ SignOnActive → is_foreign p.level c.format ≡ false
    → owner_may_run c known ≡ false → alt_may_run c known ≡ false
    → write_next (record_by_purpose p q n epoch c known) ≡ want.CtlWrite (sign_on_record p.site p.level c)
sign-on-writes p q n epoch c known is foreign owner alt = grind (arith, common_steps)

-- and goes on
sign-on-ends : (p : Settings) (q : Purpose) (n : ℕ) (c : ControlRecord) (known : Known) → q ≡ SignOnActive → is_foreign p.level c.format ≡ false
    → owner_may_run c known ≡ false → alt_may_run c known ≡ false → end_by_purpose p q n c known ≡ None
sign-on-ends p q n c known is foreign owner alt = grind (arith, common_steps)

-- the record names its number as the owner
sign-on-names : (x : Site) (level : Level) (c : ControlRecord) (me : ℕ) → c.last + 1 ≡ me → names_owner (sign_on_record x level c) me ≡ true
sign-on-names x level c me is = grind (arith, common_steps)

-- one that was started as active reserves to sign on so
begun-purpose : (h : List Event) → Begun h → purpose_now h ≡ SignOnActive
begun-purpose h b = by b.no_number b.active
  where
    by : is_granted h ≡ false → starts_active h ≡ true → purpose_now h ≡ SignOnActive
    by none active = grind (arith, common_steps)

-- its number is the last one of the record
begun-number : (h : List Event) (w : ControlRecord) → is_granted h ≡ false → number (ControlWritten w ∷ h) ≡ w.last
begun-number h w none = grind (arith, common_steps)

-- and it is the owner
begun-owner : (h : List Event) (w : ControlRecord) (me : ℕ) → is_granted h ≡ false → w.last ≡ me → names_owner w me ≡ true → is_owner (ControlWritten w ∷ h) ≡ true
begun-owner h w me none last names = grind (arith, common_steps)

-- so many acts are left to an owner that was started so, with its record written
begun-left : (slot : ℕ → Slot) (p : Settings) (h : List Event) (w : ControlRecord) → starts_active h ≡ true
    → restart_left slot p (ControlWritten w ∷ h) ≡ 0 + most_of_restart p + 1 + own_round (has_signalled h)
begun-left slot p h w active = grind (arith, common_steps)

-- its round has five acts at most
own-most : (b : Bool) → own_round b ≤ 5
own-most true = omega arith
own-most false = omega arith

-- the stage of one that stands inside a sequence
sign-stage : (p : Settings) (h : List Event) (w : Want) → inside p h ≡ Some w → sign_left p h ≡ sign_stage (Some w) + most_of_restart p + 1 + 5
sign-stage p h w is = ap (λ (o : Option Want). sign_stage o + most_of_restart p + 1 + 5) is

-- **where one stands that was started as active, its next act leads on**
pub signs : (s : Scen) (t : List Entry) (x : Site) (g : Ground) (n : ℕ) (h : List Event) → IsFree (settings s x).level (confirmed t) (control t)
    → (control t).last + 1 ≡ g.me → n ≤ g.by → SignOn (settings s x) g h → SignsNext s t x g n h
signs s t x g n h free mine few (ToReserve b at) =
    let p = settings s x in
    let before = sign-stage p h want.Reserve at in (
      act.Reserve,
      ap (act_of s t x h) (next-inside p h want.Reserve at),
      OnInIt refl refl refl
          (ToRead (record {
            active = b.active;
            no_number = b.no_number;
            no_owner = b.no_owner;
            no_off = b.no_off;
            no_told = b.no_told;
            no_drop = refl;
            fresh = b.fresh;
          }) refl (begun-purpose h b))
          (omega (arith, before)),
    )
signs s t x g n h free mine few (ToRead b at purposed) =
    let p = settings s x in
    let c = control t in
    let known = known_of t c in
    let owner = owner-not t c free.over in
    let alt = alt-not t c free.gone in
    let w = sign_on_record x p.level c in
    let writes : inside p (ControlRead c known ∷ h) ≡ Some (want.CtlWrite w) =
    ap (λ (v : Want). Some v) (sign-on-writes p (purpose h) (number h) (epoch_number h) c known purposed free.known owner alt) in
    let before = sign-stage p h want.CtlRead at in
    let after = sign-stage p (ControlRead c known ∷ h) (want.CtlWrite w) writes in (
      act.CtlRead,
      ap (act_of s t x h) (next-inside p h want.CtlRead at),
      OnInIt refl refl refl
          (ToWrite (record {
            active = b.active;
            no_number = b.no_number;
            no_owner = b.no_owner;
            no_off = b.no_off;
            no_told = b.no_told;
            no_drop = b.no_drop;
            fresh = b.fresh;
          }) w writes purposed mine (sign-on-names x p.level c g.me mine) (record { no_alt = refl; no_taking = refl })
          (ap end_next (sign-on-ends p (purpose h) (number (ControlWritten w ∷ ControlRead c known ∷ h)) c known purposed free.known owner alt)))
          (omega (arith, before, after)),
    )
signs s t x g n h free mine few (ToWrite b w at purposed last names alone ends) =
    let p = settings s x in
    let before = sign-stage p h (want.CtlWrite w) at in (
      act.CtlWrite w,
      ap (act_of s t x h) (next-inside p h (want.CtlWrite w) at),
      Granted w refl alone
          (Written (record {
            owning = record {
              granted = refl;
              owner = begun-owner h w g.me b.no_number last names;
              no_off = b.no_off;
              no_told = b.no_told;
              no_drop = b.no_drop;
              fresh = b.fresh;
            };
            mine = begun-number h w b.no_number ∙ last;
            few = few;
          }) refl ends (ap is_drop purposed))
          (λ whole.
          let after = begun-left (message_slot t) p h w b.active in
          let round = own-most (has_signalled h) in
          omega (arith, before, after, round)),
    )
