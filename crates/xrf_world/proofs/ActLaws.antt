-- What an act that a job wants asks of a World, and what it leaves: from the laws.
use Rattle.std.proofs.Common.{◌≡◌, ◌≤◌, ◌<◌, ◌+◌, ◌-◌, ◌^◌, ℕ, Bool, true, false, ◌||◌, ◌==◌, ◌∙◌, IsTrue, sym, ap, subst, refl, arith, nat_lt, if◌then◌else◌, List, ◌∷◌, length, Option, Some, None, IfSome, Ok, Err}
use Rattle.std.proofs.lemmas.Grind.{common_steps}
use Rattle.xrf_base.specs.declared.items.Item.{Item}
use Rattle.xrf_base.specs.declared.site.Site.{Site}
use Rattle.xrf_base.specs.declared.site.Site.TheVariants as site
use Rattle.xrf_active.specs.Taking.{LeavesRoom, HasSmallKeys, MayBeHanded}
use Rattle.xrf_setup.specs.declared.ranges.TheConstants.{CHOICES_MOST}
use Rattle.xrf_setup.specs.declared.choice.Choice.{Choice}
use Rattle.xrf_setup.specs.declared.choice.Choice.TheVariants as choice
use Rattle.xrf_history.specs.declared.settings.Settings.{Settings}
use Rattle.xrf_history.specs.declared.want.Want.{Want}
use Rattle.xrf_history.specs.declared.want.Want.TheVariants as want
use Rattle.xrf_history.specs.Accepting.{IsInTime, accepts}
use Rattle.xrf_history.specs.Answers.{event, event_by, fits}
use Rattle.xrf_history.specs.Events.{Event}
use Rattle.xrf_history.specs.Holding.{is_granted, number}
use Rattle.xrf_history.specs.Looking.{change}
use Rattle.xrf_history.specs.Next.{next}
use Rattle.xrf_history.specs.Reserving.{last_decision}
use Rattle.xrf_history.specs.Restarting.{has_read_block}
use Rattle.xrf_history.specs.Working.{item_answer}
use Rattle.xrf_history.proofs.Holding.{number-none}
use Rattle.xrf_trace.specs.declared.entry.Act.{Act}
use Rattle.xrf_trace.specs.declared.entry.Act.TheVariants as act
use Rattle.xrf_trace.specs.declared.entry.Entry.{Entry}
use Rattle.xrf_trace.specs.declared.entry.Land.{Land}
use Rattle.xrf_trace.specs.declared.entry.Land.TheVariants as land
use Rattle.xrf_trace.specs.declared.entry.Refused.{Refused}
use Rattle.xrf_trace.specs.declared.entry.Refused.TheVariants.{NotEnabled}
use Rattle.xrf_trace.specs.Acts.{act_of, act_by, next_act, is_signal}
use Rattle.xrf_trace.specs.Devices.{message_slot, control}
use Rattle.xrf_trace.specs.Each.{AtSite, OfJob}
use Rattle.xrf_trace.specs.Entries.{entry, entry_at, act_or_none, inc_at, inc_of_act}
use Rattle.xrf_trace.specs.Handing.{answer_of, block_answer, item_handed}
use Rattle.xrf_trace.specs.Items.{answer_by}
use Rattle.xrf_trace.specs.Jobs.{hist, handed, after_act, after_own, block_event, item_event}
use Rattle.xrf_trace.specs.Refusals.{is_next, may_step, unless, refusal}
use Rattle.xrf_trace.specs.Runs.{IsRun, outcome, outcome_of}
use Rattle.xrf_trace.specs.Scenario.{Scen, IsScen, settings, work, item_at}
use Rattle.xrf_trace.specs.Words.{is_of, is_item, now, items_taken, reserve_is_free, who_at}
use Rattle.xrf_trace.proofs.HandingLaws.{acts_are_answered}
use Rattle.xrf_owner_law.specs.Known.{IsKnown}
use Rattle.xrf_owner_law.proofs.KnownLaw.{known}
use Rattle.xrf_log_law.proofs.LogLaw.{conditions-are-met, jobs-answer-alike}
use Rattle.xrf_log_law.specs.Conditions.{IsWithin, AnchorIsSmall}
use Rattle.xrf_message_law.specs.MayLand.{MayLand as SlotMayLand}
use Rattle.xrf_world.specs.Making.{MayMake, IsMade, MayRead, inc_of_want, entry_of_want}
use Rattle.xrf_world.specs.Standing.{Goes}
use Rattle.xrf_world.specs.Wants as wants
use Rattle.xrf_world.specs.Places.{answer_given}
use Rattle.xrf_world.specs.Seats.{after_want}
use Rattle.xrf_world.specs.Wants.{while_left, is_item_left, wanted, wanted_by, may_make, act_of_want}
use Rattle.xrf_world.proofs.FollowLaws.{of-item, of-act, slot-may, can-follow}
use Rattle.xrf_world.proofs.TimeLaws.{IsBy, time-of}
use Rattle.xrf_world.proofs.WantLaws.{step-same, signal-same}

-- the next act of a site, of a kind: its job, and the act
pub record NextAct (s : Scen) (t : List Entry) (x : Site) (kind : Act → Bool) : Type 0 where
  pub job : List Event
  pub made : Act
  pub there : hist s t x ≡ Some job
  pub wants : act_of s t x job (next (settings s x) job) ≡ Some made
  pub met : kind made ≡ true

pub next-there : (s : Scen) (t : List Entry) (x : Site) (kind : Act → Bool) → is_next kind (next_act s t x) ≡ true → NextAct s t x kind
next-there s t x kind met = by (hist s t x) refl met
  where
    at : (h : List Event) → hist s t x ≡ Some h → (o : Option Act) → act_of s t x h (next (settings s x) h) ≡ o → is_next kind o ≡ true
        → NextAct s t x kind
    at h there None none ok = absurd (cc)
    at h there (Some a) some ok = record { job = h; made = a; there = there; wants = some; met = ok }

    by : (job : Option (List Event)) → hist s t x ≡ job → is_next kind (act_by s t x job) ≡ true → NextAct s t x kind
    by None there ok = absurd (cc)
    by (Some h) there ok = at h there (act_of s t x h (next (settings s x) h)) refl ok

-- WHAT IS WANTED is what the job wants, where that is an act.
left-if : (s : Scen) (t : List Entry) (x : Site) (h : List Event) (w : Want) → IfSome (act_of s t x h w) (λ a. while_left w (is_item_left s t x) ≡ w)
left-if s t x h want.Nothing = tt
left-if s t x h (want.Exit told) = tt
left-if s t x h want.Item = by (is_item_left s t x)
  where
    by : (b : Bool) → IfSome (if b then Some (act.Item (items_taken t x + 1)) else None) (λ a. (if b then want.Item else want.Nothing) ≡ want.Item)
    by true = refl
    by false = tt
left-if s t x h _ = refl

pub wanted-is : (s : Scen) (t : List Entry) (x : Site) (h : List Event) (a : Act) → hist s t x ≡ Some h → act_of s t x h (next (settings s x) h) ≡ Some a
    → next (settings s x) h ≡ wanted s t x
wanted-is s t x h a there wants =
    sym (of-act s t x h a (λ one. while_left (next (settings s x) h) (is_item_left s t x) ≡ next (settings s x) h) (left-if s t x h (next (settings s x) h)) wants)
    ∙ ap (wanted_by s t x) (sym there)

-- THE ENTRY: its act, and its incarnation.
act-same : (s : Scen) (t : List Entry) (x : Site) (h : List Event) (w : Want)
    → IfSome (act_of s t x h w) (λ a. act_of_want (items_taken t x + 1) (last_decision (event_by (settings s x) h w (answer_of s t x h w) ∷ h)) w ≡ a)
act-same s t x h want.Nothing = tt
act-same s t x h (want.Exit told) = tt
act-same s t x h want.Item = by (nat_lt (items_taken t x) (length (work s x)))
  where
    by : (b : Bool) → IfSome (if b then Some (act.Item (items_taken t x + 1)) else None) (λ a. act.Item (items_taken t x + 1) ≡ a)
    by true = refl
    by false = tt
act-same s t x h _ = refl

pub inc-granted : (n last : ℕ) (granted : Bool) → (granted ≡ true → 1 ≤ n) → (granted ≡ false → n ≡ 0) → (if n == 0 then last else n) ≡ (if granted then n else last)
inc-granted n last true some none = let least : 1 ≤ n = some refl in grind (arith, common_steps)
inc-granted n last false some none = let zero_it : n ≡ 0 = none refl in grind (arith, common_steps)

pub inc-same : (s : Scen) (t : List Entry) (x : Site) (h : List Event) (w : Want) → (is_granted h ≡ true → 1 ≤ number h)
    → IfSome (act_of s t x h w) (λ a. inc_of_want w (number h) ≡ inc_of_act a h)
inc-same s t x h want.Nothing some = tt
inc-same s t x h (want.Exit told) some = tt
inc-same s t x h want.Item some = of-item s t x (λ a. number h ≡ inc_of_act a h) refl
inc-same s t x h (want.CtlWrite written) some = inc-granted (number h) written.last (is_granted h) some (number-none h)
inc-same s t x h _ some = refl

-- WHAT COMES AFTER: the job was handed its answer, or is gone.
block-after : (s : Scen) (t : List Entry) (p : Settings) (h : List Event) (b : ℕ) (has : Bool)
    → Some (block_event s t b has ∷ h) ≡ Some (event_by p h (want.LogRead b) (block_answer s t b has) ∷ h)
block-after s t p h b true = refl
block-after s t p h b false = refl

item-after : (p : Settings) (h : List Event) (at : ℕ) (item : Option Item) → Some (item_event item ∷ h) ≡ Some (event_by p h want.Item (item_handed at item) ∷ h)
item-after p h at None = refl
item-after p h at (Some item) = refl

after-same : (s : Scen) (t : List Entry) (x : Site) (h : List Event) (w : Want)
    → IfSome (act_of s t x h w) (λ a. after_act s t x (now t) a (Some h) ≡ after_want w (event_by (settings s x) h w (answer_of s t x h w) ∷ h))
after-same s t x h want.Nothing = tt
after-same s t x h (want.Exit told) = tt
after-same s t x h (want.LogRead b) = block-after s t (settings s x) h b (has_read_block h)
after-same s t x h want.Item =
    of-item s t x (λ a. after_act s t x (now t) a (Some h) ≡ after_want want.Item (event_by (settings s x) h want.Item (answer_of s t x h want.Item) ∷ h))
    (item-after (settings s x) h (now t) (item_at s x (items_taken t x + 1)))
after-same s t x h _ = refl

-- the job of an entry's site, after it
pub own-hist : (s : Scen) (t : List Entry) (x : Site) (n : ℕ) (a : Act) (l : Land)
    → hist s (record { tick = now t; who = who_at x; inc = n; act = a; land = l } ∷ t) x ≡ after_own s t x (now t) a l (hist s t x)
own-hist s t site.A n a l = refl
own-hist s t site.B n a l = refl

-- WHAT IS READ is within its data set.
reads-in : (s : Scen) (t : List Entry) (x : Site) (h : List Event) (w : Want) → SlotMayLand (message_slot t) s.settings.ring w
    → IfSome (act_of s t x h w) (λ a. IsWithin s a → MayRead s w)
reads-in s t x h want.Nothing may = tt
reads-in s t x h (want.Exit told) may = tt
reads-in s t x h want.Item may = of-item s t x (λ a. IsWithin s a → MayRead s want.Item) (λ within. tt)
reads-in s t x h (want.MsgRead k) may = λ within. may
reads-in s t x h (want.LogRead b) may = λ within. within
reads-in s t x h (want.KpRead k) may = λ within. within
reads-in s t x h (want.FileRead k) may = λ within. within
reads-in s t x h _ may = λ within. tt

-- THE ANSWER may be handed.
block-in_time : (s : Scen) (t : List Entry) (h : List Event) (b : ℕ) (has : Bool) → IsInTime h (block_answer s t b has)
block-in_time s t h b true = tt
block-in_time s t h b false = tt

item-in_time : (h : List Event) (at : ℕ) (item : Option Item) → IsInTime h (item_handed at item)
item-in_time h at None = tt
item-in_time h at (Some item) = tt

in-time : (s : Scen) (t : List Entry) (x : Site) (h : List Event) (w : Want) → change h ≤ now t → IsInTime h (answer_of s t x h w)
in-time s t x h want.Look2 before = before
in-time s t x h want.Decide before = before
in-time s t x h (want.LogRead b) before = block-in_time s t h b (has_read_block h)
in-time s t x h want.Item before = item-in_time h (now t) (item_at s x (items_taken t x + 1))
in-time s t x h _ before = tt

block-room : (s : Scen) (t : List Entry) (b : ℕ) (has : Bool) → LeavesRoom (block_answer s t b has)
block-room s t b true = tt
block-room s t b false = tt

item-room : (at : ℕ) (item : Option Item) → LeavesRoom (item_handed at item)
item-room at None = tt
item-room at (Some item) = tt

leaves-room : (s : Scen) (t : List Entry) (x : Site) (h : List Event) (w : Want) → (control t).last < 2 ^ 32 - 1 → LeavesRoom (answer_of s t x h w)
leaves-room s t x h want.CtlRead few = omega (arith, few)
leaves-room s t x h (want.LogRead b) few = block-room s t b (has_read_block h)
leaves-room s t x h want.Item few = item-room (now t) (item_at s x (items_taken t x + 1))
leaves-room s t x h _ few = tt

block-keys : (s : Scen) (t : List Entry) (b : ℕ) (has : Bool) → AnchorIsSmall t → length t < CHOICES_MOST → HasSmallKeys (block_answer s t b has)
block-keys s t b true small few = tt
block-keys s t b false small few = (omega (arith, small.0, few), omega (arith, small.1, few))

item-keys : (at : ℕ) (item : Option Item) → HasSmallKeys (item_handed at item)
item-keys at None = tt
item-keys at (Some item) = tt

small-keys : (s : Scen) (t : List Entry) (x : Site) (h : List Event) (w : Want) → AnchorIsSmall t → length t < CHOICES_MOST → HasSmallKeys (answer_of s t x h w)
small-keys s t x h (want.LogRead b) small few = block-keys s t b (has_read_block h) small few
small-keys s t x h want.Item small few = item-keys (now t) (item_at s x (items_taken t x + 1))
small-keys s t x h _ small few = tt

pub or-right : (a b : Bool) → b ≡ true → (a || b) ≡ true
or-right true b is = refl
or-right false b is = is

-- the act hands the event of its answer, which fits
answered : (s : Scen) (t : List Entry) (x : Site) (h : List Event) (a : Act) → act_of s t x h (next (settings s x) h) ≡ Some a
    → (handed s t x (now t) h a ≡ event (settings s x) h (answer_of s t x h (next (settings s x) h)))
    × IsTrue (fits (settings s x) h (next (settings s x) h) (answer_of s t x h (next (settings s x) h)))
answered s t x h a wants =
    of-act s t x h a
    (λ one. (handed s t x (now t) h one ≡ event (settings s x) h (answer_of s t x h (next (settings s x) h)))
    × IsTrue (fits (settings s x) h (next (settings s x) h) (answer_of s t x h (next (settings s x) h))))
    (acts_are_answered s t x h) wants

may-be-handed : (s : Scen) (t : List Entry) (x : Site) (h : List Event) (a : Act) → IsScen s → IsRun s t → length t < CHOICES_MOST → hist s t x ≡ Some h
    → act_of s t x h (next (settings s x) h) ≡ Some a → MayBeHanded (settings s x) h (answer_of s t x h (next (settings s x) h))
may-be-handed s t x h a scen is few there wants =
    let w : Want = next (settings s x) h in
    let time : IsBy (now t) (length t) h = time-of s t x h is there in
    record {
      fitting =
          or-right (accepts (settings s x) h (answer_of s t x h w)) (fits (settings s x) h w (answer_of s t x h w))
          (answered s t x h a wants).1;
      few = omega (arith, time.few, few);
      in_time = in-time s t x h w time.change_is;
      room = leaves-room s t x h w (known s t is (omega (arith, few))).few;
      small_keys = small-keys s t x h w (conditions-are-met s t scen is (omega (arith, few))).anchor few;
    }

-- THE ITEM at hand is answered as the trace has it.
at-of : (s : Scen) (t : List Entry) (x : Site) (h : List Event) (F : Site → List Event → Type 0) → AtSite s t (who_at x) F → hist s t x ≡ Some h → F x h
at-of s t site.A h F holds there = subst (λ (job : Option (List Event)). OfJob job (F site.A)) there holds
at-of s t site.B h F holds there = subst (λ (job : Option (List Event)). OfJob job (F site.B)) there holds

pub answers-alike : (s : Scen) (t : List Entry) (x : Site) (h : List Event) (i : ℕ) (a : Act) → IsScen s
    → IsRun s (record { tick = now t; who = who_at x; inc = i; act = a; land = land.Full } ∷ t) → length t < CHOICES_MOST → hist s t x ≡ Some h
    → answer_by s t x a ≡ item_answer (settings s x) (handed s t x (now t) h a ∷ h)
answers-alike s t x h i a scen is few there =
    at-of s t x h (λ y g. answer_by s t y a ≡ item_answer (settings s y) (handed s t y (now t) g a ∷ g))
    (jobs-answer-alike s (record { tick = now t; who = who_at x; inc = i; act = a; land = land.Full } ∷ t) scen is (omega (arith, few))).1 there

-- a signal answers no item
signal-silent : (p : Settings) (h : List Event) (w : Want) (s : Scen) (t : List Entry) (x : Site)
    → IfSome (act_of s t x h w) (λ a. is_signal a ≡ true → item_answer p (event_by p h w (answer_of s t x h w) ∷ h) ≡ None)
signal-silent p h want.Nothing s t x = tt
signal-silent p h (want.Exit told) s t x = tt
signal-silent p h want.Item s t x =
    of-item s t x (λ a. is_signal a ≡ true → item_answer p (event_by p h want.Item (answer_of s t x h want.Item) ∷ h) ≡ None) (λ is. absurd (cc))
signal-silent p h (want.Signal1 signal) s t x = λ is. refl
signal-silent p h (want.Signal2 signal) s t x = λ is. refl
signal-silent p h _ s t x = λ is. absurd (cc)

-- an item is taken only while one is left
pub item-left : (s : Scen) (t : List Entry) (x : Site) (h : List Event) (w : Want)
    → IfSome (act_of s t x h w) (λ a. is_item a ≡ true → items_taken t x < length (work s x))
item-left s t x h want.Nothing = tt
item-left s t x h (want.Exit told) = tt
item-left s t x h want.Item = by (nat_lt (items_taken t x) (length (work s x))) refl
  where
    by : (b : Bool) → nat_lt (items_taken t x) (length (work s x)) ≡ b
        → IfSome (if b then Some (act.Item (items_taken t x + 1)) else None) (λ a. is_item a ≡ true → items_taken t x < length (work s x))
    by true less = λ is. grind (arith, common_steps)
    by false less = tt
item-left s t x h _ = λ is. absurd (cc)

pub own-site : (x : Site) → is_of (who_at x) x ≡ true
own-site site.A = refl
own-site site.B = refl

-- how an act goes on: in full, or as a signal that is lost
pub data GoesOn (a : Act) (l : Land) : Type 0 where
  InFull : l ≡ land.Full → GoesOn a l
  IsLost : l ≡ land.Lost → is_signal a ≡ true → GoesOn a l

-- the entry of an act
abbrev pub made_entry : Scen → List Entry → Site → List Event → Act → Land → Entry
made_entry s t x h a l = record { tick = now t; who = who_at x; inc = inc_of_act a h; act = a; land = l }

gives : (s : Scen) (t : List Entry) (x : Site) (h : List Event) (a : Act) (l : Land) → IsScen s → IsRun s (made_entry s t x h a l ∷ t)
    → length t < CHOICES_MOST → hist s t x ≡ Some h → act_of s t x h (next (settings s x) h) ≡ Some a → GoesOn a l
    → item_answer (settings s x) (event (settings s x) h (answer_of s t x h (next (settings s x) h)) ∷ h) ≡ answer_given s t x (made_entry s t x h a l)
gives s t x h a l scen is few there wants (InFull full) =
    sym (ap (λ (one : Land). answer_given s t x (made_entry s t x h a one)) full
    ∙ answers-alike s t x h (inc_of_act a h) a scen (subst (λ (one : Land). IsRun s (made_entry s t x h a one ∷ t)) full is) few there
    ∙ ap (λ (e : Event). item_answer (settings s x) (e ∷ h)) (answered s t x h a wants).0)
gives s t x h a l scen is few there wants (IsLost lost signal) =
    of-act s t x h a (λ one. is_signal one ≡ true
    → item_answer (settings s x) (event (settings s x) h (answer_of s t x h (next (settings s x) h)) ∷ h) ≡ None)
    (signal-silent (settings s x) h (next (settings s x) h) s t x) wants signal
    ∙ sym (ap (λ (one : Land). answer_given s t x (made_entry s t x h a one)) lost)

-- the job after it
after-made : (s : Scen) (t : List Entry) (x : Site) (h : List Event) (a : Act) (l : Land) → hist s t x ≡ Some h → GoesOn a l
    → hist s (made_entry s t x h a l ∷ t) x ≡ after_act s t x (now t) a (Some h)
after-made s t x h a l there (InFull full) =
    own-hist s t x (inc_of_act a h) a l ∙ ap (λ (one : Land). after_own s t x (now t) a one (hist s t x)) full ∙ ap (after_act s t x (now t) a) there
after-made s t x h a l there (IsLost lost signal) =
    own-hist s t x (inc_of_act a h) a l ∙ ap (λ (one : Land). after_own s t x (now t) a one (hist s t x)) lost ∙ ap (after_act s t x (now t) a) there

-- the entry
is-entry : (s : Scen) (t : List Entry) (x : Site) (h : List Event) (a : Act) (l : Land) → IsScen s → IsRun s (made_entry s t x h a l ∷ t)
    → length t < CHOICES_MOST → hist s t x ≡ Some h → act_of s t x h (next (settings s x) h) ≡ Some a
    → entry_of_want s t x h (next (settings s x) h) l (event (settings s x) h (answer_of s t x h (next (settings s x) h)) ∷ h) ≡ made_entry s t x h a l
is-entry s t x h a l scen is few there wants =
    let k : IsKnown s t = known s t is.0 (omega (arith, few)) in
    let w : Want = next (settings s x) h in
    let acts : act_of_want (items_taken t x + 1) (last_decision (event (settings s x) h (answer_of s t x h w) ∷ h)) w ≡ a =
    of-act s t x h a (λ one. act_of_want (items_taken t x + 1) (last_decision (event (settings s x) h (answer_of s t x h w) ∷ h)) w ≡ one)
    (act-same s t x h w) wants in
    let incs : inc_of_want w (number h) ≡ inc_of_act a h =
    of-act s t x h a (λ one. inc_of_want w (number h) ≡ inc_of_act one h)
    (inc-same s t x h w (λ granted. (k.held x h there granted).some)) wants in
    ap (λ (i : ℕ). record {
      tick = now t;
      who = who_at x;
      inc = i;
      act = act_of_want (items_taken t x + 1)
          (last_decision (event (settings s x) h (answer_of s t x h w) ∷ h)) w;
      land = l;
    }) incs
    ∙ ap (λ (one : Act). record { tick = now t; who = who_at x; inc = inc_of_act a h; act = one; land = l }) acts

-- the same with the incarnation of the job that is there
pub entry-next : (s : Scen) (t : List Entry) (x : Site) (h : List Event) (a : Act) (l : Land) → hist s t x ≡ Some h
    → act_of s t x h (next (settings s x) h) ≡ Some a → entry_at s t x (act_or_none (next_act s t x)) l ≡ made_entry s t x h a l
entry-next s t x h a l there wants =
    let acts : next_act s t x ≡ Some a = ap (act_by s t x) there ∙ wants in
    ap (λ (o : Option Act). entry_at s t x (act_or_none o) l) acts
    ∙ ap (λ (job : Option (List Event)). record { tick = now t; who = who_at x; inc = inc_at a job; act = a; land = l }) there

-- what the entry of an accepted choice is, its outcome is
pub outcome-is : (s : Scen) (t : List Entry) (c : Choice) (r : Option Refused) (e : Entry) → refusal s t c ≡ r → r ≡ None → entry s t c ≡ e → outcome s t c ≡ Ok e
outcome-is s t c r e is none same = ap (outcome_of s t c) (is ∙ none) ∙ ap (λ (one : Entry). Ok one) same

-- **an act that a job wants may be made**
abbrev may-make : (s : Scen) (t : List Entry) (x : Site) (h : List Event) (a : Act) (l : Land) → IsScen s → IsRun s (made_entry s t x h a l ∷ t)
    → length t < CHOICES_MOST → hist s t x ≡ Some h → act_of s t x h (next (settings s x) h) ≡ Some a → GoesOn a l
    → MayMake s t x (next (settings s x) h) l (answer_of s t x h (next (settings s x) h))
may-make s t x h a l scen is few there wants goes = record {
  scen = scen;
  job = h;
  entry = made_entry s t x h a l;
  there = there;
  handed = may-be-handed s t x h a scen is.0 few there wants;
  is_entry = is-entry s t x h a l scen is few there wants;
  after = after-made s t x h a l there goes
      ∙ of-act s t x h a (λ one. after_act s t x (now t) one (Some h)
      ≡ after_want (next (settings s x) h) (event (settings s x) h (answer_of s t x h (next (settings s x) h)) ∷ h))
      (after-same s t x h (next (settings s x) h)) wants;
  records = record {
    follow = can-follow s t (made_entry s t x h a l) scen is few;
    items = record {
      own = own-site x;
      left = of-act s t x h a (λ one. is_item one ≡ true → items_taken t x < length (work s x)) (item-left s t x h (next (settings s x) h)) wants;
      gives = gives s t x h a l scen is few there wants goes;
    };
  };
}

is-made : (s : Scen) (t : List Entry) (x : Site) (h : List Event) (a : Act) (l : Land) (c : Choice) → Goes s t → hist s t x ≡ Some h
    → act_of s t x h (next (settings s x) h) ≡ Some a → GoesOn a l → outcome s t c ≡ Ok (made_entry s t x h a l) → IsMade s t x (wanted s t x) l c
is-made s t x h a l c g there wants goes out =
    let is : IsRun s (made_entry s t x h a l ∷ t) = (g.run, (c, out)) in
    subst (λ (w : Want). IsMade s t x w l c) (wanted-is s t x h a there wants) (record {
      job = h;
      there = there;
      reads = of-act s t x h a (λ one. IsWithin s one → MayRead s (next (settings s x) h))
          (reads-in s t x h (next (settings s x) h) (slot-may s t x h g.scen g.run (omega (arith, g.few)) there)) wants
          (conditions-are-met s (made_entry s t x h a l ∷ t) g.scen is (omega (arith, g.few))).within.1;
      may = may-make s t x h a l g.scen is g.few there wants goes;
      is = out;
    })

-- STEP
pub step-made : (s : Scen) (t : List Entry) (x : Site) → Goes s t → may_make (reserve_is_free t) (wanted s t x) ≡ true
    → IsMade s t x (wanted s t x) land.Full (choice.Step x)
step-made s t x g may =
    let met : is_next (may_step t) (next_act s t x) ≡ true = step-same s t x ∙ may in
    let n : NextAct s t x (may_step t) = next-there s t x (may_step t) met in
    is-made s t x n.job n.made land.Full (choice.Step x) g n.there n.wants (InFull refl)
    (outcome-is s t (choice.Step x) (unless true NotEnabled) (made_entry s t x n.job n.made land.Full) (ap (λ (b : Bool). unless b NotEnabled) met) refl
    (entry-next s t x n.job n.made land.Full n.there n.wants))

pub step-refused : (s : Scen) (t : List Entry) (x : Site) → may_make (reserve_is_free t) (wanted s t x) ≡ false
    → outcome s t (choice.Step x) ≡ Err NotEnabled
step-refused s t x may = ap (λ (b : Bool). outcome_of s t (choice.Step x) (unless b NotEnabled)) (step-same s t x ∙ may)

-- LOSE
pub lose-made : (s : Scen) (t : List Entry) (x : Site) → Goes s t → wants.is_signal (wanted s t x) ≡ true
    → IsMade s t x (wanted s t x) land.Lost (choice.Lose x)
lose-made s t x g signal =
    let met : is_next is_signal (next_act s t x) ≡ true = signal-same s t x ∙ signal in
    let n : NextAct s t x is_signal = next-there s t x is_signal met in
    is-made s t x n.job n.made land.Lost (choice.Lose x) g n.there n.wants (IsLost refl n.met)
    (outcome-is s t (choice.Lose x) (unless true NotEnabled) (made_entry s t x n.job n.made land.Lost) (ap (λ (b : Bool). unless b NotEnabled) met) refl
    (entry-next s t x n.job n.made land.Lost n.there n.wants))

pub lose-refused : (s : Scen) (t : List Entry) (x : Site) → wants.is_signal (wanted s t x) ≡ false → outcome s t (choice.Lose x) ≡ Err NotEnabled
lose-refused s t x signal = ap (λ (b : Bool). outcome_of s t (choice.Lose x) (unless b NotEnabled)) (signal-same s t x ∙ signal)
