-- What each entry of a run asks of the data sets and of what is counted: from the laws.
use Rattle.std.proofs.Common.{◌≡◌, ◌≤◌, ◌<◌, ◌+◌, ℕ, Bool, true, false, ◌∙◌, ap, subst, refl, arith, nat_lt, if◌then◌else◌, List, [], ◌∷◌, length, Option, Some, None, IfSome}
use Rattle.std.proofs.lemmas.Grind.{common_steps}
use Rattle.xrf_base.specs.declared.site.Site.{Site}
use Rattle.xrf_devices.specs.Writing.{FitsTorn, HasTorn, MayLand, MessageMayLand, LogMayLand, KeyMayLand}
use Rattle.xrf_log.specs.Flight.{flight, has_ended}
use Rattle.xrf_logrec.specs.LogRecords.{unit_of}
use Rattle.xrf_logrec.specs.declared.records.LogRec.{LogRec}
use Rattle.xrf_setup.specs.declared.choice.Landing.TheVariants as landing
use Rattle.xrf_setup.specs.declared.ranges.TheConstants.{CHOICES_MOST}
use Rattle.xrf_history.specs.declared.want.Want.{Want}
use Rattle.xrf_history.specs.declared.want.Want.TheVariants as want
use Rattle.xrf_history.specs.Events.{Event}
use Rattle.xrf_history.specs.Next.{next}
use Rattle.xrf_trace.specs.declared.entry.Act.{Act}
use Rattle.xrf_trace.specs.declared.entry.Act.TheVariants as act
use Rattle.xrf_trace.specs.declared.entry.Entry.{Entry}
use Rattle.xrf_trace.specs.declared.entry.Land.{Land}
use Rattle.xrf_trace.specs.declared.entry.Land.TheVariants as land
use Rattle.xrf_trace.specs.Acts.{act_of, next_item, torn_size, is_act}
use Rattle.xrf_trace.specs.Devices.{message_slot, log_slot, key_slot, control}
use Rattle.xrf_trace.specs.Jobs.{hist}
use Rattle.xrf_trace.specs.Landing.{opens}
use Rattle.xrf_trace.specs.Log.{log, log_after}
use Rattle.xrf_trace.specs.Refusals.{may_confirm}
use Rattle.xrf_trace.specs.Runs.{IsRun}
use Rattle.xrf_trace.specs.Scenario.{Scen, IsScen, settings, work}
use Rattle.xrf_trace.specs.UnitsAreItems.{IsOfNoEnded}
use Rattle.xrf_trace.specs.Each.{Where}
use Rattle.xrf_trace.specs.Words.{now, items_taken, tick_after}
use Rattle.xrf_trace.proofs.ByKind.{LandFits}
use Rattle.xrf_trace.proofs.JobSteps.{at-job}
use Rattle.xrf_trace.proofs.Steps.{IsStart, Reaches, Step, OfTick, OfConfirm, OfStart, OfChoice, OfAct, OfStop, run-step}
use Rattle.xrf_trace.proofs.TraceActs.{by_act}
use Rattle.xrf_owner_law.proofs.KnownLaw.{known}
use Rattle.xrf_log_law.proofs.LogLaw.{conditions-are-met, data-sets-stand, units-are-items}
use Rattle.xrf_log_law.specs.Conditions.{MayBeWritten, WorldConditions}
use Rattle.xrf_log_law.specs.DataSets.{DataSetsStand}
use Rattle.xrf_message_law.proofs.MessageLaw.{lands}
use Rattle.xrf_message_law.specs.MayLand.{MayLand as SlotMayLand}
use Rattle.xrf_world.specs.Counts.{CanCount, IsMarked, JoinsIf}
use Rattle.xrf_world.specs.Making.{CanFollow}

-- an ITEM is next while one is left
pub of-item : (s : Scen) (t : List Entry) (x : Site) (K : Act → Type 0) → K (act.Item (items_taken t x + 1)) → IfSome (next_item s t x) K
of-item s t x K holds = by (nat_lt (items_taken t x) (length (work s x)))
  where
    by : (b : Bool) → IfSome (if b then Some (act.Item (items_taken t x + 1)) else None) K
    by true = holds
    by false = tt

-- what is said of the act that a want is, of a next act
pub of-act : (s : Scen) (t : List Entry) (x : Site) (h : List Event) (a : Act) (K : Act → Type 0) → IfSome (act_of s t x h (next (settings s x) h)) K
    → act_of s t x h (next (settings s x) h) ≡ Some a → K a
of-act s t x h a K each is = subst (λ (o : Option Act). IfSome o K) is each

-- WHAT LANDS. Torn bytes are as many as the write has.
torn-size : (size : Option ℕ) (bytes : List ℕ) → IfSome size (λ n. length bytes ≡ n) → FitsTorn size (land.Stop (landing.Torn bytes))
torn-size None bytes fits = tt
torn-size (Some n) bytes fits = fits

torn-failed : (size : Option ℕ) (bytes : List ℕ) → IfSome size (λ n. length bytes ≡ n) → FitsTorn size (land.Fail (landing.Torn bytes))
torn-failed None bytes fits = tt
torn-failed (Some n) bytes fits = fits

untorn : (size : Option ℕ) (l : Land) → ((n : ℕ) → HasTorn n l) → FitsTorn size l
untorn None l fits = tt
untorn (Some n) l fits = fits n

fits-torn : (a : Act) (l : Land) → LandFits l a → FitsTorn (torn_size a) l
fits-torn a land.Full fits = untorn (torn_size a) land.Full (λ n. tt)
fits-torn a land.Lost fits = untorn (torn_size a) land.Lost (λ n. tt)
fits-torn a (land.Stop landing.Nothing) fits = untorn (torn_size a) (land.Stop landing.Nothing) (λ n. tt)
fits-torn a (land.Stop landing.All) fits = untorn (torn_size a) (land.Stop landing.All) (λ n. tt)
fits-torn a (land.Stop (landing.Torn bytes)) fits = torn-size (torn_size a) bytes fits
fits-torn a (land.Fail landing.Nothing) fits = untorn (torn_size a) (land.Fail landing.Nothing) (λ n. tt)
fits-torn a (land.Fail landing.All) fits = untorn (torn_size a) (land.Fail landing.All) (λ n. tt)
fits-torn a (land.Fail (landing.Torn bytes)) fits = torn-failed (torn_size a) bytes fits

-- the slots of the log and of KEY
log-lands : (s : Scen) (t : List Entry) (a : Act) → MayBeWritten s t a → LogMayLand s.settings.log (log_slot s t) a
log-lands s t (act.LogClose p) may = may
log-lands s t (act.LogBody p rec) may = may
log-lands s t (act.LogOpen p rec) may = may
log-lands s t _ may = tt

key-lands : (s : Scen) (t : List Entry) (a : Act) → MayBeWritten s t a → KeyMayLand 2 (key_slot t) a
key-lands s t (act.KpClose k) may = may
key-lands s t (act.KpBody k keypoint) may = may
key-lands s t (act.KpOpen k keypoint) may = may
key-lands s t _ may = tt

-- the slots of the messages
message-act : (s : Scen) (t : List Entry) (x : Site) (h : List Event) (w : Want) → SlotMayLand (message_slot t) s.settings.ring w
    → IfSome (act_of s t x h w) (MessageMayLand s.settings.ring (message_slot t))
message-act s t x h (want.MsgClose k) may = may
message-act s t x h (want.MsgBody k message) may = may
message-act s t x h (want.MsgOpen k message) may = may
message-act s t x h want.Nothing may = tt
message-act s t x h (want.Exit told) may = tt
message-act s t x h want.Item may = of-item s t x (MessageMayLand s.settings.ring (message_slot t)) tt
message-act s t x h _ may = tt

message-inert : (ring : ℕ) (t : List Entry) (a : Act) → is_act a ≡ false → MessageMayLand ring (message_slot t) a
message-inert ring t (act.MsgClose k) inert = absurd (cc)
message-inert ring t (act.MsgBody k message) inert = absurd (cc)
message-inert ring t (act.MsgOpen k message) inert = absurd (cc)
message-inert ring t _ inert = tt

-- what the next act of a job finds in the ring
pub slot-may : (s : Scen) (t : List Entry) (x : Site) (h : List Event) → IsScen s → IsRun s t → length t ≤ CHOICES_MOST → hist s t x ≡ Some h
    → SlotMayLand (message_slot t) s.settings.ring (next (settings s x) h)
slot-may s t x h scen is few there =
    at-job s (λ y g. SlotMayLand (message_slot t) s.settings.ring (next (settings s y) g)) t x h (lands s t scen is few).may there

message-lands : (s : Scen) (t : List Entry) (e : Entry) → IsScen s → IsRun s (e ∷ t) → length t ≤ CHOICES_MOST
    → MessageMayLand s.settings.ring (message_slot t) e.act
message-lands s t e scen is few =
    by_act s t e (λ one. MessageMayLand s.settings.ring (message_slot t) one.act) (run-step s t e is) (record {
      inert = λ one inert. message-inert s.settings.ring t one.act inert;
      made = λ x h a l there wants can.
          of-act s t x h a (MessageMayLand s.settings.ring (message_slot t))
          (message-act s t x h (next (settings s x) h) (slot-may s t x h scen is.0 few there)) wants;
    })

pub may-land : (s : Scen) (t : List Entry) (e : Entry) → IsScen s → IsRun s (e ∷ t) → length t < CHOICES_MOST → MayLand s t e.act e.land
may-land s t e scen is few =
    let met : WorldConditions s (e ∷ t) = conditions-are-met s (e ∷ t) scen is (omega (arith, few)) in
    record {
      torn = fits-torn e.act e.land met.torn.1;
      message = message-lands s t e scen is (omega (arith, few));
      log = log-lands s t e.act met.written.1;
      key = key-lands s t e.act met.written.1;
    }

-- WHAT IS COUNTED. A number that is confirmed has a mark.
unmarked : (s : Scen) (t : List Entry) (x : Site) (h : List Event) (w : Want) (marks : ℕ) → IfSome (act_of s t x h w) (IsMarked marks)
unmarked s t x h want.Nothing marks = tt
unmarked s t x h (want.Exit told) marks = tt
unmarked s t x h want.Item marks = of-item s t x (IsMarked marks) tt
unmarked s t x h _ marks = tt

start-unmarked : (a : Act) (marks : ℕ) → IsStart a → IsMarked marks a
start-unmarked act.StartActive marks is = tt
start-unmarked act.StartStandby marks is = tt
start-unmarked _ marks is = absurd is

reach-unmarked : (s : Scen) (x : Site) (h : List Event) (a : Act) (marks : ℕ) → Reaches s x h a → IsMarked marks a
reach-unmarked s x h act.Abend marks reach = tt
reach-unmarked s x h (act.Reply go) marks reach = tt
reach-unmarked s x h (act.Cebt command reply) marks reach = tt
reach-unmarked s x h (act.Exit said) marks reach = tt
reach-unmarked s x h _ marks reach = absurd reach

confirmed-few : (s : Scen) (t : List Entry) (n : ℕ) → may_confirm s t n ≡ true → (control t).last ≤ length t → length t < CHOICES_MOST → n < CHOICES_MOST + 1
confirmed-few s t n may last few = grind (arith, common_steps)

marked : (s : Scen) (t : List Entry) (e : Entry) → Step s t e → (control t).last ≤ length t → length t < CHOICES_MOST → IsMarked (CHOICES_MOST + 1) e.act
marked s t e (OfTick same) last few = subst (λ (one : Entry). IsMarked (CHOICES_MOST + 1) one.act) same tt
marked s t e (OfConfirm n may same) last few =
    subst (λ (one : Entry). IsMarked (CHOICES_MOST + 1) one.act) same (confirmed-few s t n may last few)
marked s t e (OfStart x a start none same) last few =
    subst (λ (one : Entry). IsMarked (CHOICES_MOST + 1) one.act) same (start-unmarked a (CHOICES_MOST + 1) start)
marked s t e (OfChoice x h a there reach same) last few =
    subst (λ (one : Entry). IsMarked (CHOICES_MOST + 1) one.act) same (reach-unmarked s x h a (CHOICES_MOST + 1) reach)
marked s t e (OfAct x h a l there wants can same) last few =
    subst (λ (one : Entry). IsMarked (CHOICES_MOST + 1) one.act) same
    (of-act s t x h a (IsMarked (CHOICES_MOST + 1)) (unmarked s t x h (next (settings s x) h) (CHOICES_MOST + 1)) wants)
marked s t e (OfStop x h cut there same) last few = subst (λ (one : Entry). IsMarked (CHOICES_MOST + 1) one.act) same tt

-- a record that is opened joins the log
joins-log : (s : Scen) (t : List Entry) (p : ℕ) (rec : LogRec) (l : Land) → length t < CHOICES_MOST → DataSetsStand s t
    → (opens l ≡ true → has_ended (unit_of rec) (log t) ≡ false)
    → (opens l ≡ true → length (flight (rec ∷ log t)) ≤ s.settings.log) → JoinsIf s.settings.log (log t) (act.LogOpen p rec) l
joins-log s t p rec l few stand ended room open_it =
    record { open_unit = ended open_it; few = omega (arith, few, stand.count); room = room open_it }

-- where a test is met
where-met : (b : Bool) (F : Type 0) → b ≡ true → Where b F → F
where-met true F met holds = holds
where-met false F met holds = absurd (cc)

joined-room : (s : Scen) (t : List Entry) (e : Entry) (p : ℕ) (rec : LogRec) → DataSetsStand s (e ∷ t) → e.act ≡ act.LogOpen p rec → opens e.land ≡ true
    → length (flight (rec ∷ log t)) ≤ s.settings.log
joined-room s t e p rec stand is open_it =
    let same : log (e ∷ t) ≡ rec ∷ log t = ap (λ (a : Act). log_after a e.land (log t)) is
    ∙ ap (λ (b : Bool). if b then rec ∷ log t else log t) open_it in
    let flights : length (flight (log (e ∷ t))) ≡ length (flight (rec ∷ log t)) = ap (λ (records : List LogRec). length (flight records)) same in
    omega (arith, flights, stand.within, stand.room)

joins-if : (s : Scen) (t : List Entry) (e : Entry) → length t < CHOICES_MOST → DataSetsStand s t → DataSetsStand s (e ∷ t)
    → (a : Act) → e.act ≡ a → IsOfNoEnded t a e.land → JoinsIf s.settings.log (log t) a e.land
joins-if s t e few before after (act.LogOpen p rec) is none =
    joins-log s t p rec e.land few before (λ open_it. where-met (opens e.land) (has_ended (unit_of rec) (log t) ≡ false) open_it none)
    (λ open_it. joined-room s t e p rec after is open_it)
joins-if s t e few before after _ is none = tt

now-few : (t : List Entry) → now t ≤ length t
now-few [] = omega arith
now-few (e ∷ t) = by e.act (now-few t)
  where
    by : (a : Act) → now t ≤ length t → tick_after a (now t) ≤ length (e ∷ t)
    by act.Tick few = omega (arith, few)
    by _ few = omega (arith, few)

pub can-count : (s : Scen) (t : List Entry) (e : Entry) → IsScen s → IsRun s (e ∷ t) → length t < CHOICES_MOST → CanCount s t e
can-count s t e scen is few = record {
  marked = marked s t e (run-step s t e is) (known s t is.0 (omega (arith, few))).last few;
  joins = joins-if s t e few (data-sets-stand s t scen is.0 (omega (arith, few))) (data-sets-stand s (e ∷ t) scen is (omega (arith, few))) e.act refl
      (units-are-items s (e ∷ t) scen is (omega (arith, few))).once.1;
  few = omega (arith, few, now-few t);
}

-- **an entry of a run may be followed**
pub can-follow : (s : Scen) (t : List Entry) (e : Entry) → IsScen s → IsRun s (e ∷ t) → length t < CHOICES_MOST → CanFollow s t e
can-follow s t e scen is few = record { lands = may-land s t e scen is few; counts = can-count s t e scen is few; few = few }
