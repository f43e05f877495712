-- What is known where an entry is made, and what it leaves.
use Rattle.std.specs.Prelude.{◌≡◌, ◌<◌, ◌≤◌, ◌*◌, ◌+◌, ◌==◌, ℕ, if◌then◌else◌, List, [], ◌∷◌, length, Option, Some, None, Result, Ok, Err}
use Rattle.xrf_active.specs.Taking.{MayBeHanded}
use Rattle.xrf_base.specs.declared.items.ItemAnswer.{ItemAnswer}
use Rattle.xrf_base.specs.declared.site.Site.{Site}
use Rattle.xrf_devices.specs.Writing.{MayLand}
use Rattle.xrf_setup.specs.declared.choice.Choice.{Choice}
use Rattle.xrf_setup.specs.declared.choice.Choice.TheVariants as choice
use Rattle.xrf_setup.specs.declared.choice.Landing.{Landing}
use Rattle.xrf_setup.specs.declared.ranges.TheConstants.{CHOICES_MOST}
use Rattle.xrf_history.specs.declared.answer.Answer.{Answer}
use Rattle.xrf_history.specs.declared.answer.Answer.TheVariants as answer
use Rattle.xrf_history.specs.declared.want.Want.{Want}
use Rattle.xrf_history.specs.declared.want.Want.TheVariants as want
use Rattle.xrf_history.specs.Answers.{event}
use Rattle.xrf_history.specs.Events.{Event}
use Rattle.xrf_history.specs.Holding.{number}
use Rattle.xrf_history.specs.Reserving.{last_decision}
use Rattle.xrf_history.specs.Working.{item_answer}
use Rattle.xrf_trace.specs.declared.entry.Act.{Act}
use Rattle.xrf_trace.specs.declared.entry.Act.TheVariants as act
use Rattle.xrf_trace.specs.declared.entry.Entry.{Entry}
use Rattle.xrf_trace.specs.declared.entry.Land.{Land}
use Rattle.xrf_trace.specs.declared.entry.Land.TheVariants as land
use Rattle.xrf_trace.specs.declared.entry.Refused.{Refused}
use Rattle.xrf_trace.specs.Entries.{start_at}
use Rattle.xrf_trace.specs.Handing.{answer_of}
use Rattle.xrf_trace.specs.Jobs.{hist}
use Rattle.xrf_trace.specs.Runs.{outcome}
use Rattle.xrf_trace.specs.Scenario.{IsScen, Scen, settings}
use Rattle.xrf_trace.specs.Words.{now, who_at, items_taken}
use Rattle.xrf_world.specs.declared.middle.Middle.{Middle}
use Rattle.xrf_world.specs.declared.pair.Pair.{Pair}
use Rattle.xrf_world.specs.declared.place.Place.{Place}
use Rattle.xrf_world.specs.Counts.{CanCount}
use Rattle.xrf_world.specs.Places.{CanTake, KeptIs}
use Rattle.xrf_world.specs.Seats.{SeatIs, after_want}
use Rattle.xrf_world.specs.Standing.{MiddleIs, StandsAt, Stands}
use Rattle.xrf_world.specs.Wants.{act_of_want, is_write}

-- a read is within its data set
abbrev pub MayRead : Scen → Want → Type 0
MayRead s (want.MsgRead k) = k < s.settings.ring
MayRead s (want.LogRead b) = 64 * b + 64 ≤ s.settings.log
MayRead s (want.KpRead k) = k < 2
MayRead s (want.FileRead k) = (1 ≤ k) × (k ≤ s.settings.file)
MayRead s _ = Unit {0}

-- what an entry asks of the data sets, of what is counted, and of the journal
pub record CanFollow (s : Scen) (t : List Entry) (e : Entry) : Type 0 where
  pub lands : MayLand s t e.act e.land
  pub counts : CanCount s t e
  pub few : length t < CHOICES_MOST

-- and one of a site, which gives the item taken last this answer, of what is kept there
pub record CanRecord (s : Scen) (t : List Entry) (x : Site) (e : Entry) (given : Option ItemAnswer) : Type 0 where
  pub follow : CanFollow s t e
  pub items : CanTake s t x e given

-- the incarnation of an entry by what is wanted: that which the job holds, or that which its first CTLWRITE grants
abbrev pub inc_of_want : Want → ℕ → ℕ
inc_of_want (want.CtlWrite written) n = if n == 0 then written.last else n
inc_of_want _ n = n

-- the entry of an act that is wanted, made by a job that knows this after it
abbrev pub entry_of_want : Scen → List Entry → Site → List Event → Want → Land → List Event → Entry
entry_of_want s t x h w l after = record {
  tick = now t;
  who = who_at x;
  inc = inc_of_want w (number h);
  act = act_of_want (items_taken t x + 1) (last_decision after) w;
  land = l;
}

-- An act that a job wants is made, and the job handed an answer: it may be handed it, and the entry may be recorded. After
-- it the job has been handed the answer, or is gone.
pub record MayMake (s : Scen) (t : List Entry) (x : Site) (w : Want) (l : Land) (a : Answer) : Type 0 where
  pub scen : IsScen s
  pub job : List Event
  pub entry : Entry
  pub there : hist s t x ≡ Some job
  pub handed : MayBeHanded (settings s x) job a
  pub is_entry : entry_of_want s t x job w l (event (settings s x) job a ∷ job) ≡ entry
  pub after : hist s (entry ∷ t) x ≡ after_want w (event (settings s x) job a ∷ job)
  pub records : CanRecord s t x entry (item_answer (settings s x) (event (settings s x) job a ∷ job))

-- The job of a place was handed the answer to the act that it wants: its seat is that of what it knows after it, and all
-- else stands for the trace before the entry, which is of this incarnation. It gave the item taken last this answer.
pub record IsHanded (middle : Middle) (place : Place) (t : List Entry) (x : Site) (w : Want) (job : List Event) (a : Answer) (made_by : ℕ) (gave : Option ItemAnswer) : Type 0 where
  pub middle_is : MiddleIs middle t
  pub kept : KeptIs place.kept middle.scenario t x
  pub seat : SeatIs place.seat (settings middle.scenario x) (Some (event (settings middle.scenario x) job a ∷ job))
  pub inc : made_by ≡ inc_of_want w (number job)
  pub given : gave ≡ item_answer (settings middle.scenario x) (event (settings middle.scenario x) job a ∷ job)

-- Where a choice is accepted by which an act that is wanted is made, it is answered by the trace: what it reads is within its
-- data set, and its entry is that of the choice.
pub record IsMade (s : Scen) (t : List Entry) (x : Site) (w : Want) (l : Land) (c : Choice) : Type 0 where
  pub job : List Event
  pub there : hist s t x ≡ Some job
  pub reads : MayRead s w
  pub may : MayMake s t x w l (answer_of s t x job w)
  pub is : outcome s t c ≡ Ok may.entry

-- where it fails, it is answered that it failed
pub record IsFailed (s : Scen) (t : List Entry) (x : Site) (w : Want) (cut : Landing) (c : Choice) : Type 0 where
  pub may : MayMake s t x w (land.Fail cut) (answer.Failed (now t))
  pub is : outcome s t c ≡ Ok may.entry

-- a stop makes the act that is wanted where it is a write
abbrev pub cut_of_want : Want → Act
cut_of_want w = if is_write w then act_of_want 0 None w else act.NoAct

-- Where a STOP is accepted the job is gone after it, and the entry may be recorded.
pub record IsStopped (s : Scen) (t : List Entry) (x : Site) (w : Want) (cut : Landing) : Type 0 where
  pub job : List Event
  pub entry : Entry
  pub there : hist s t x ≡ Some job
  pub is_entry : record { tick = now t; who = who_at x; inc = inc_of_want w (number job); act = cut_of_want w; land = land.Stop cut } ≡ entry
  pub after : hist s (entry ∷ t) x ≡ None
  pub records : CanRecord s t x entry None
  pub is : outcome s t (choice.Stop x cut) ≡ Ok entry

-- Where a START is accepted no job was there, and after it one is that was started.
pub record IsStarted (s : Scen) (t : List Entry) (x : Site) (a : Act) (made : Event) (c : Choice) : Type 0 where
  pub there : hist s t x ≡ None
  pub after : hist s (start_at t x a ∷ t) x ≡ Some (made ∷ [])
  pub records : CanRecord s t x (start_at t x a) None
  pub is : outcome s t c ≡ Ok (start_at t x a)

-- Where a choice that reaches a job is accepted, the job is handed its answer.
pub record IsReached (s : Scen) (t : List Entry) (x : Site) (made : Act) (a : Answer) (c : Choice) : Type 0 where
  pub job : List Event
  pub entry : Entry
  pub there : hist s t x ≡ Some job
  pub handed : MayBeHanded (settings s x) job a
  pub is_entry : record { tick = now t; who = who_at x; inc = number job; act = made; land = land.Full } ≡ entry
  pub after : hist s (entry ∷ t) x ≡ Some (event (settings s x) job a ∷ job)
  pub records : CanRecord s t x entry None
  pub is : outcome s t c ≡ Ok entry

-- what a choice makes of a pair: the entry of its outcome is added, or it is refused and nothing changes
abbrev pub Makes : Pair → List Entry → Choice → Result (Unit {0}) Refused → Pair → Type 0
Makes old t c (Ok done) new =
    (e : Entry) × (outcome old.middle.scenario t c ≡ Ok e) × (new.middle.scenario ≡ old.middle.scenario) × Stands new (e ∷ t)
Makes old t c (Err reason) new = (outcome old.middle.scenario t c ≡ Err reason) × (new ≡ old)

-- and of one place of it
abbrev pub MakesAt : Middle → Place → List Entry → Site → Choice → Result (Unit {0}) Refused → Middle → Place → Type 0
MakesAt middle place t x c (Ok done) middle_after place_after =
    (e : Entry) × (outcome middle.scenario t c ≡ Ok e) × (e.who ≡ who_at x) × (middle_after.scenario ≡ middle.scenario) × StandsAt middle_after place_after (e ∷ t) x
MakesAt middle place t x c (Err reason) middle_after place_after =
    (outcome middle.scenario t c ≡ Err reason) × (middle_after ≡ middle) × (place_after ≡ place)

-- the site of a choice, none of a tick and of a confirmation
abbrev pub site_of : Choice → Option Site
site_of choice.Tick = None
site_of (choice.Confirm number) = None
site_of (choice.Step x) = Some x
site_of (choice.Lose x) = Some x
site_of (choice.Stop x cut) = Some x
site_of (choice.StartActive x) = Some x
site_of (choice.StartStandby x) = Some x
site_of (choice.Abend x) = Some x
site_of (choice.Reply x go) = Some x
site_of (choice.Cebt x command) = Some x
site_of (choice.Exit x said) = Some x
site_of (choice.Fail x cut) = Some x
