-- What an entry that serves a site does to its job, to the control record and to the other site's signals.
use Rattle.std.proofs.Common.{◌≡◌, ℕ, ◌&&◌, ◌||◌, Bool, true, false, List, ◌∷◌, Option, Some, refl, ap, ◌∙◌, arith}
use Rattle.std.proofs.lemmas.Grind.{common_steps}
use Rattle.xrf_base.specs.declared.site.Site.{Site}
use Rattle.xrf_base.specs.declared.site.Site.TheVariants as site
use Rattle.xrf_ctl.specs.Control.{ControlRecord}
use Rattle.xrf_ctl.specs.Signal.{SignalRecord}
use Rattle.xrf_history.specs.Events.{Event}
use Rattle.xrf_history.specs.Next.{next}
use Rattle.xrf_trace.specs.declared.entry.Entry.{Entry}
use Rattle.xrf_trace.specs.declared.entry.Act.{Act}
use Rattle.xrf_trace.specs.declared.entry.Act.TheVariants as act
use Rattle.xrf_trace.specs.declared.entry.Land.{Land}
use Rattle.xrf_trace.specs.declared.entry.Land.TheVariants as land
use Rattle.xrf_trace.specs.declared.entry.Who.{Who}
use Rattle.xrf_trace.specs.declared.entry.Who.TheVariants as who
use Rattle.xrf_trace.specs.Scenario.{Scen, settings, other}
use Rattle.xrf_trace.specs.Landing.{lands, is_in_full}
use Rattle.xrf_trace.specs.Words.{is_of, who_at, now, tick_after, confirmed, confirms}
use Rattle.xrf_trace.specs.Devices.{control, control_after, sector1, sector1_after, sector2, sector2_after}
use Rattle.xrf_trace.specs.Jobs.{hist, handed, after_act, after_own, after_other}
use Rattle.xrf_trace.specs.Acts.{act_of, is_act, is_signal, is_control_write}
use Rattle.xrf_trace.specs.Entries.{inc_of_act}
use Rattle.xrf_trace.specs.Runs.{IsRun}
use Rattle.xrf_trace.proofs.AtSites.{made-at}
use Rattle.xrf_progress.specs.Serving.{is_tick, speaks}

-- an entry of a site
pub who-is : (w : Who) (x : Site) → is_of w x ≡ true → w ≡ who_at x
who-is who.A site.A is = refl
who-is who.A site.B is = absurd (cc)
who-is who.B site.A is = absurd (cc)
who-is who.B site.B is = refl
who-is who.Env site.A is = absurd (cc)
who-is who.Env site.B is = absurd (cc)

-- it is of no other
not-other : (w : Who) (x : Site) → is_of w x ≡ true → is_of w (other x) ≡ false
not-other who.A site.A is = refl
not-other who.A site.B is = absurd (cc)
not-other who.B site.A is = absurd (cc)
not-other who.B site.B is = refl
not-other who.Env site.A is = refl
not-other who.Env site.B is = refl

-- what is made in full
full-is : (l : Land) → is_in_full l ≡ true → l ≡ land.Full
full-is land.Full is = refl
full-is land.Lost is = absurd (cc)
full-is (land.Stop cut) is = absurd (cc)
full-is (land.Fail cut) is = absurd (cc)

-- ENDED
abbrev pub is_ended : Act → Bool
is_ended (act.Ended reason) = true
is_ended _ = false

-- a write of a message slot
abbrev pub writes_message : Act → Bool
writes_message (act.MsgClose k) = true
writes_message (act.MsgBody k message) = true
writes_message (act.MsgOpen k message) = true
writes_message _ = false

-- the job goes on after an act that is made in full
goes-on : (s : Scen) (t : List Entry) (x : Site) (at : ℕ) (h : List Event) (a : Act) → is_act a ≡ true → is_ended a ≡ false
    → after_act s t x at a (Some h) ≡ Some (handed s t x at h a ∷ h)
goes-on s t x at h act.StartActive acts goes = absurd (cc)
goes-on s t x at h act.StartStandby acts goes = absurd (cc)
goes-on s t x at h (act.Ended reason) acts goes = absurd (cc)
goes-on s t x at h _ acts goes = refl

-- signals of the other site stay
sector1-own : (a : Act) (l : Bool) (before : Option SignalRecord) → sector1_after a (false && l) before ≡ before
sector1-own (act.Signal1 signal) l before = refl
sector1-own _ l before = refl

sector2-own : (a : Act) (l : Bool) (before : Option SignalRecord) → sector2_after a (false && l) before ≡ before
sector2-own (act.Signal2 signal) l before = refl
sector2-own _ l before = refl

-- an act of a job is no tick, and confirms nothing
own-ticks : (a : Act) (n : ℕ) → is_act a ≡ true → tick_after a n ≡ n
own-ticks act.Tick n acts = absurd (cc)
own-ticks _ n acts = refl

-- and it confirms nothing
own-confirms : (a : Act) (m : ℕ) → is_act a ≡ true → confirms a m ≡ false
own-confirms (act.Confirm n) m acts = absurd (cc)
own-confirms _ m acts = refl

-- what does not change: the other site's signals, the present tick, what is confirmed
pub record Keeps (t : List Entry) (e : Entry) (x : Site) : Type 0 where
  pub one : sector1 (e ∷ t) (other x) ≡ sector1 t (other x)
  pub two : sector2 (e ∷ t) (other x) ≡ sector2 t (other x)

-- an act of the job at the site, made in full
pub record Own (s : Scen) (t : List Entry) (e : Entry) (x : Site) (h : List Event) : Type 0 where
  pub made : act_of s t x h (next (settings s x) h) ≡ Some e.act
  pub inc : e.inc ≡ inc_of_act e.act h
  pub after : is_ended e.act ≡ false → hist s (e ∷ t) x ≡ Some (handed s t x (now t) h e.act ∷ h)
  pub record_after : control (e ∷ t) ≡ control_after e.act land.Full (control t)
  pub keeps : Keeps t e x
  pub ticks : (n : ℕ) → tick_after e.act n ≡ n
  pub confirmed_after : (m : ℕ) → confirmed (e ∷ t) m ≡ confirmed t m

-- the job after such an act
own-hist : (s : Scen) (t : List Entry) (e : Entry) (x : Site) (h : List Event) (b : Bool) → is_of e.who x ≡ b → b ≡ true → e.land ≡ land.Full → e.tick ≡ now t
    → hist s t x ≡ Some h → hist s (e ∷ t) x ≡ after_act s t x (now t) e.act (Some h)
own-hist s t e x h b is own full at there =
    ap (λ (c : Bool). elim c [ true ↦ after_own s t x e.tick e.act e.land (hist s t x) | false ↦ after_other e.act (hist s t x) ]) (is ∙ own)
    ∙ ap (λ (l : Land). after_own s t x e.tick e.act l (hist s t x)) full
    ∙ ap (λ (n : ℕ). after_act s t x n e.act (hist s t x)) at
    ∙ ap (after_act s t x (now t) e.act) there

-- **an act of the job at the site, made in full**
pub own : (s : Scen) (t : List Entry) (e : Entry) (x : Site) (h : List Event) → IsRun s (e ∷ t) → is_of e.who x ≡ true → is_act e.act ≡ true
    → is_in_full e.land ≡ true → hist s t x ≡ Some h → Own s t e x h
own s t e x h is mine acts full there =
    let made = made-at s t e x h is acts (who-is e.who x mine) there in
    let whole = full-is e.land full in
    let away = not-other e.who x mine in
    record {
      made = made.made;
      inc = made.inc;
      after = λ goes. own-hist s t e x h (is_of e.who x) refl mine whole made.tick there ∙ goes-on s t x (now t) h e.act acts goes;
      record_after = ap (λ (l : Land). control_after e.act l (control t)) whole;
      keeps = record {
        one = ap (λ (b : Bool). sector1_after e.act (b && lands e.land) (sector1 t (other x))) away ∙ sector1-own e.act (lands e.land) (sector1 t (other x));
        two = ap (λ (b : Bool). sector2_after e.act (b && lands e.land) (sector2 t (other x))) away ∙ sector2-own e.act (lands e.land) (sector2 t (other x));
      };
      ticks = λ n. own-ticks e.act n acts;
      confirmed_after = λ m. ap (λ (b : Bool). b || confirmed t m) (own-confirms e.act m acts);
    }

-- an entry that is not of the site and lands no control record and no signal
quiet-control : (a : Act) (l : Bool) (c : ControlRecord) (la : Land) → lands la ≡ l → (l && (is_control_write a || is_signal a)) ≡ false → control_after a la c ≡ c
quiet-control (act.CtlWrite w) l c la is quiet = grind (arith, common_steps)
quiet-control _ l c la is quiet = refl

-- it leaves the first sector
quiet-one : (a : Act) (b l : Bool) (before : Option SignalRecord) → (l && (is_control_write a || is_signal a)) ≡ false → sector1_after a (b && l) before ≡ before
quiet-one (act.Signal1 signal) b l before quiet = grind (arith, common_steps)
quiet-one _ b l before quiet = refl

-- and the second
quiet-two : (a : Act) (b l : Bool) (before : Option SignalRecord) → (l && (is_control_write a || is_signal a)) ≡ false → sector2_after a (b && l) before ≡ before
quiet-two (act.Signal2 signal) b l before quiet = grind (arith, common_steps)
quiet-two _ b l before quiet = refl

-- a tick speaks not
tick-quiet : (a : Act) (l : Bool) → is_tick a ≡ true → (l && (is_control_write a || is_signal a)) ≡ false
tick-quiet act.Tick l is = grind (arith, common_steps)
tick-quiet _ l is = absurd (cc)

-- what such an entry leaves
pub record Quiet (s : Scen) (t : List Entry) (e : Entry) (x : Site) : Type 0 where
  pub after : hist s (e ∷ t) x ≡ after_other e.act (hist s t x)
  pub record_after : control (e ∷ t) ≡ control t
  pub keeps : Keeps t e x
  pub confirmed_after : (m : ℕ) → confirmed t m ≡ true → confirmed (e ∷ t) m ≡ true

-- a test of which the second part is met
later : (a b : Bool) → b ≡ true → (a || b) ≡ true
later true b is = refl
later false b is = is

-- so it leaves them
quiet-by : (s : Scen) (t : List Entry) (e : Entry) (x : Site) → is_of e.who x ≡ false → speaks e ≡ false → Quiet s t e x
quiet-by s t e x away quiet = record {
  after = ap (λ (c : Bool). elim c [ true ↦ after_own s t x e.tick e.act e.land (hist s t x) | false ↦ after_other e.act (hist s t x) ]) away;
  record_after = quiet-control e.act (lands e.land) (control t) e.land refl quiet;
  keeps = record {
    one = quiet-one e.act (is_of e.who (other x)) (lands e.land) (sector1 t (other x)) quiet;
    two = quiet-two e.act (is_of e.who (other x)) (lands e.land) (sector2 t (other x)) quiet;
  };
  confirmed_after = λ m is. later (confirms e.act m) (confirmed t m) is;
}

-- a TICK
pub tick-is : (a : Act) → is_tick a ≡ true → a ≡ act.Tick
tick-is act.Tick is = refl
tick-is _ is = absurd (cc)

-- **a TICK leaves them**
pub ticked : (s : Scen) (t : List Entry) (e : Entry) (x : Site) → is_of e.who x ≡ false → is_tick e.act ≡ true → Quiet s t e x
ticked s t e x away tick = quiet-by s t e x away (tick-quiet e.act (lands e.land) tick)

-- another, which is no TICK
other-hist : (a : Act) (job : Option (List Event)) → is_tick a ≡ false → after_other a job ≡ job
other-hist act.Tick job none = absurd (cc)
other-hist _ job none = refl

-- and leaves the tick
pub no-ticks : (a : Act) (n : ℕ) → is_tick a ≡ false → tick_after a n ≡ n
no-ticks act.Tick n none = absurd (cc)
no-ticks _ n none = refl

-- **so does any other entry that lands no control record and no signal**
pub silent : (s : Scen) (t : List Entry) (e : Entry) (x : Site) → is_of e.who x ≡ false → speaks e ≡ false → is_tick e.act ≡ false
    → Quiet s t e x × (hist s (e ∷ t) x ≡ hist s t x)
silent s t e x away quiet no_tick =
    let q = quiet-by s t e x away quiet in (q, q.after ∙ other-hist e.act (hist s t x) no_tick)
