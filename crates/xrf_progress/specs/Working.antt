-- Work goes on: an owner takes its next item, and answers it, within a stated number of acts.
use Rattle.std.specs.Prelude.{◌≡◌, ℕ, ◌+◌, ◌≤◌, ◌⊎◌, ◌&&◌, ◌||◌, not, nat_lt, Bool, true, false, is_some, is_none, List, ◌∷◌, ◌++◌, length, Option, Some, None}
use Rattle.xrf_base.specs.declared.site.Site.{Site}
use Rattle.xrf_base.specs.declared.items.Item.{Item}
use Rattle.xrf_file.specs.declared.answers.Plan.{Plan}
use Rattle.xrf_file.specs.declared.answers.Plan.TheVariants as plans
use Rattle.xrf_history.specs.declared.settings.Settings.{Settings}
use Rattle.xrf_history.specs.Events.{Event, Given}
use Rattle.xrf_history.specs.Working.{item_answer, last_plan, rolled_left}
use Rattle.xrf_trace.specs.declared.entry.Entry.{Entry}
use Rattle.xrf_trace.specs.Scenario.{Scen, settings, work}
use Rattle.xrf_trace.specs.Jobs.{hist}
use Rattle.xrf_trace.specs.Runs.{IsRun}
use Rattle.xrf_ctl.specs.Control.{ControlRecord}
use Rattle.xrf_cavm.specs.Decisions.{is_of_epoch}
use Rattle.xrf_cavm.specs.Watch.{is_lost}
use Rattle.xrf_history.specs.Holding.{is_owner, is_restarted}
use Rattle.xrf_history.specs.Looking.{change}
use Rattle.xrf_history.specs.Next.{inside}
use Rattle.xrf_history.specs.Notices.{epoch, notice}
use Rattle.xrf_history.specs.Reserving.{sign_off_due, drop_due}
use Rattle.xrf_history.specs.Sending.{is_end_sent, may_write}
use Rattle.xrf_history.specs.Taking.{is_draining}
use Rattle.xrf_trace.specs.Devices.{control}
use Rattle.xrf_trace.specs.Words.{now, items_taken}
use Rattle.xrf_progress.specs.Serving.{Serves, acts_of, was_so}

-- the newest event of a job answers its item
abbrev pub answers : Settings → List Event → Bool
answers p h = is_some (item_answer p h)

-- How many acts an item takes after its ITEM, by what it makes the job do: a GET one, the read of the file; a PUT six, that
-- read, the four of the log, and the write of the file; a COMMIT four; and a ROLL four and one for each put of its unit.
abbrev pub acts_of_plan : Settings → List Event → Plan → ℕ
acts_of_plan p h (plans.Answer answer) = 0
acts_of_plan p h (plans.Get rrn) = 1
acts_of_plan p h (plans.Put unit rrn value place) = 6
acts_of_plan p h (plans.Commit unit place) = 4
acts_of_plan p h (plans.Roll unit place) = length (rolled_left p unit h) + 4

-- ITEMS ARE ANSWERED: an item that is taken, at a site that is served from there on, is answered at once or within so many acts.
abbrev pub ItemsAreAnswered : Type 0
ItemsAreAnswered =
    (s : Scen) (t part : List Entry) (x : Site) (h : List Event) (item : Item) → IsRun s (part ++ t) → hist s t x ≡ Some (Given item ∷ h)
    → Serves s t x part
    → acts_of_plan (settings s x) (Given item ∷ h) (last_plan (settings s x) (Given item ∷ h)) ≤ acts_of x part
    → (answers (settings s x) (Given item ∷ h) || was_so s (λ r. answers (settings s x)) t x part) ≡ true

-- The record leaves an owner of this epoch at its work: it has no taking, and its alternate is that of the epoch.
pub record IsSettled (c : ControlRecord) (epoch : Option ℕ) : Type 0 where
  pub no_taking : is_some c.taking ≡ false
  pub no_other : (is_some c.alt && not (is_of_epoch c epoch)) ≡ false
  pub no_less : (is_none c.alt && is_some epoch) ≡ false

-- the epoch of an owner has its messages: it has sent End, and where a message is due there is room in the ring for it
pub record HasRoom (p : Settings) (h : List Event) (n : ℕ) : Type 0 where
  pub of_epoch : epoch h ≡ Some n
  pub end_sent : is_end_sent h ≡ true
  pub room : may_write p h ≡ true

-- An owner at its work, between two sequences: it has restarted, nothing of it is due but messages, a keypoint and items, and
-- its work list is not used up. The record leaves it there. It has no alternate; or it has told it its terminals, does not
-- miss it, and has room in the ring.
pub record CanWork (s : Scen) (t : List Entry) (x : Site) (h : List Event) : Type 0 where
  pub there : hist s t x ≡ Some h
  pub owner : is_owner h ≡ true
  pub restarted : is_restarted h ≡ true
  pub drained : is_draining h ≡ false
  pub between : inside (settings s x) h ≡ None
  pub no_off : sign_off_due h ≡ None
  pub no_told : notice h ≡ None
  pub no_drop : drop_due h ≡ false
  pub more : nat_lt (items_taken t x) (length (work s x)) ≡ true
  pub settled : IsSettled (control t) (epoch h)
  pub missed : (is_some (epoch h) && is_lost (change h) (settings s x).pdi (now t)) ≡ false
  pub sends : (epoch h ≡ None) ⊎ ((n : ℕ) × HasRoom (settings s x) h n)

-- the newest event of a job is an item that it takes
abbrev pub takes_item : List Event → Bool
takes_item (Given item ∷ h) = true
takes_item _ = false

-- with an alternate a message may be due, of four acts; without one the ring does not matter
abbrev pub message_acts : Option ℕ → ℕ
message_acts None = 0
message_acts (Some n) = 4

-- ITEMS ARE TAKEN: one that can work, and is served from there on, takes its next item within ten acts, five of a round, four of
-- a keypoint and the ITEM, and those of a message.
abbrev pub ItemsAreTaken : Type 0
ItemsAreTaken =
    (s : Scen) (t part : List Entry) (x : Site) (h : List Event) → IsRun s (part ++ t) → CanWork s t x h → Serves s t x part
    → message_acts (epoch h) + 10 ≤ acts_of x part → was_so s (λ r g. takes_item g) t x part ≡ true
