-- A job and what the trace says of its site, act by act.
use Rattle.std.proofs.Common.{List, Some, false, ◌≡◌, true, Bool, refl, IfSome, ◌∷◌, None, Option, ap, length, nat_lt, ◌+◌, if◌then◌else◌, sym, ℕ, subst, ◌∙◌}
use Rattle.xrf_base.specs.declared.site.Site.{Site}
use Rattle.xrf_base.specs.declared.items.Item.{Item}
use Rattle.xrf_base.specs.declared.items.ItemAnswer.TheVariants.{Done}
use Rattle.xrf_logrec.specs.declared.records.LogRec.TheVariants.{Backout, Commit, Put}
use Rattle.xrf_logrec.specs.declared.records.LogRec.{LogRec}
use Rattle.xrf_file.specs.Ledger.{Ledger, plan_of, planned}
use Rattle.xrf_history.specs.Events.{Event, RestartDeclared}
use Rattle.xrf_history.specs.declared.want.Want.{Want}
use Rattle.xrf_history.specs.Holding.{is_restarted, is_granted, is_owner, number}
use Rattle.xrf_history.specs.Working.{ledger, last_plan as plan_of_job, after_record}
use Rattle.xrf_history.specs.Progress.{is_active, has_signed_off}
use Rattle.xrf_history.specs.Restarting.{has_read_block}
use Rattle.xrf_history.proofs.Holding.{owner-granted}
use Rattle.xrf_history.specs.Next.{record_of_plan, slot_read}
use Rattle.xrf_trace.specs.declared.entry.Entry.{Entry}
use Rattle.xrf_trace.specs.Scenario.{Scen, settings, item_at, work}
use Rattle.xrf_trace.specs.Jobs.{handed, block_event, item_event}
use Rattle.xrf_trace.specs.Items.{ledger_at, opened, last_plan, plan_at, nothing_open, Opened, opened_by_record, without, opened_by_item}
use Rattle.xrf_trace.specs.declared.entry.Act.{Act}
use Rattle.xrf_trace.specs.Words.{now, items_taken}
use Rattle.xrf_trace.specs.Acts.{act_of}
use Rattle.xrf_log_law.specs.Jobs.{Idle, is_idle}
use Rattle.xrf_log_law.specs.Serving.{Serves, site_view, given_last, site_after, ServesWork, opened_of, Serving}
use Rattle.xrf_log_law.specs.Soundness.{is_sound}
use Rattle.xrf_log_law.proofs.DueInSequence.{plan-hand}
use Rattle.xrf_log_law.proofs.JobActs.{of-item, by-write}
use Rattle.xrf_log_law.proofs.TraceLedgers.{joined, planned-keeps, record-inc}
use Rattle.xrf_log_law.proofs.ServingSteps.{item-there, serving-keyed, serving-planned, serving-recorded}
use Rattle.xrf_log_law.proofs.WorkBegins.{restarted-owner}
use Rattle.xrf_log_law.proofs.IdleJobs.{AfterIdle, act-idle}
use Rattle.xrf_log_law.proofs.BeforeActs.{Before}
use Rattle.xrf_log_law.proofs.SitesAfter.{UnlessGone}
use Rattle.xrf_log_law.proofs.Tests.{false-true, no-clash}
use Rattle.xrf_file.specs.declared.answers.Plan.TheVariants as plans
use Rattle.xrf_history.specs.declared.want.Want.TheVariants as want
use Rattle.xrf_trace.specs.declared.entry.Land.TheVariants as land
use Rattle.xrf_trace.specs.declared.entry.Act.TheVariants as act

-- a job that is about to do more than idle acts is sound
pub sound-for : (h : List Event) (w : Want) → (is_sound h ≡ false → Idle w) → is_idle w ≡ false → is_sound h ≡ true
sound-for h w idle acts = by (is_sound h) refl
  where
    by : (b : Bool) → is_sound h ≡ b → b ≡ true
    by true e = refl
    by false e = no-clash (is_idle w) (idle e) acts

-- the ledger of the trace
pub ledger-joined : (s : Scen) (t : List Entry) (x : Site) (h : List Event) (w : Want) → Before s t x h w → is_active h ≡ true → is_sound h ≡ true
    → is_restarted h ≡ true → ledger_at s t x ≡ ledger (settings s x) h
ledger-joined s t x h w b there sound working =
    let at = b.serves.2 there sound working in
    joined s t x h (opened s t x) b.job (b.stands.5 there sound working).0 at.1 at.0

-- at an ITEM
pub item-joined : (s : Scen) (t : List Entry) (x : Site) (h : List Event) → Before s t x h want.Item → ledger_at s t x ≡ ledger (settings s x) h
item-joined s t x h b = ledger-joined s t x h want.Item b (b.acts refl) b.due.1 b.due.0

-- the item and its plan
abbrev pub Hands : Scen → List Entry → Site → List Event → Act → Type 0
Hands s t x h a =
    IfSome (given_last (handed s t x (now t) h a ∷ h)) (λ item. ((site_after s t x a land.Full).item ≡ Some item)
    × ((site_after s t x a land.Full).plan ≡ plan_of_job (settings s x) (handed s t x (now t) h a ∷ h)))

-- after each act
hands-after : (s : Scen) (t : List Entry) (x : Site) (h : List Event) (w : Want) → Before s t x h w → IfSome (act_of s t x h w) (Hands s t x h)
hands-after s t x h want.Nothing b = tt
hands-after s t x h (want.Exit told) b = tt
hands-after s t x h (want.LogRead n) b = by (has_read_block h)
  where
    by : (has : Bool) → IfSome (given_last (block_event s t n has ∷ h))
        (λ item. (item_at s x (items_taken t x) ≡ Some item) × (last_plan s t x ≡ plan_of_job (settings s x) (block_event s t n has ∷ h)))
    by true = b.serves.0
    by false = b.serves.0
hands-after s t x h want.Item b = by (nat_lt (items_taken t x) (length (work s x))) refl
  where
    on : (o : Option Item) → (o ≡ None → ⊥) → IfSome (given_last (item_event o ∷ h)) (λ item. (o ≡ Some item)
        × (plan_at s t x o ≡ plan_of_job (settings s x) (item_event o ∷ h)))
    on None some = absurd (some refl)
    on (Some item) some = (refl, ap (λ (l : Ledger). plan_of l item) (item-joined s t x h b))

    by : (c : Bool) → nat_lt (items_taken t x) (length (work s x)) ≡ c → IfSome (if c then Some (act.Item (items_taken t x + 1)) else None) (Hands s t x h)
    by true less = on (item_at s x (items_taken t x + 1)) (item-there (work s x) (items_taken t x) less)
    by false e = tt
hands-after s t x h _ b = b.serves.0

-- it has no unit before it is restarted
abbrev pub Begins : Scen → List Entry → Site → List Event → Act → Type 0
Begins s t x h a =
    UnlessGone a (is_restarted (handed s t x (now t) h a ∷ h) ≡ false
    → ((site_after s t x a land.Full).opened ≡ nothing_open) × (plan_of_job (settings s x) (handed s t x (now t) h a ∷ h) ≡ plans.Answer Done))

-- a record opens no unit
record-none : (rec : LogRec) (o : Opened) → o ≡ nothing_open → opened_by_record rec o ≡ nothing_open
record-none (Put unit rrn before) o none = none
record-none (Commit unit) o none = ap (without unit) none
record-none (Backout unit) o none = ap (without unit) none

-- after each act
begins-after : (s : Scen) (t : List Entry) (x : Site) (h : List Event) (w : Want) → Before s t x h w → IfSome (act_of s t x h w) (Begins s t x h)
begins-after s t x h want.Nothing b = tt
begins-after s t x h (want.Exit told) b = tt
begins-after s t x h (want.LogRead n) b = by (has_read_block h)
  where
    by : (has : Bool) → is_restarted (block_event s t n has ∷ h) ≡ false
        → (opened s t x ≡ nothing_open) × (plan_of_job (settings s x) (block_event s t n has ∷ h) ≡ plans.Answer Done)
    by true = b.serves.1
    by false = b.serves.1
begins-after s t x h (want.LogOpen place rec) b = λ e. (record-none rec (opened s t x) (b.serves.1 e).0, (b.serves.1 e).1)
begins-after s t x h want.Restarted b = λ e. false-true (sym e)
begins-after s t x h want.Item b = of-item s t x (Begins s t x h) (by (item_at s x (items_taken t x + 1)))
  where
    by : (o : Option Item) → is_restarted (item_event o ∷ h) ≡ false
        → (opened_by_item s t x (opened s t x) o ≡ nothing_open) × (plan_of_job (settings s x) (item_event o ∷ h) ≡ plans.Answer Done)
    by None e = no-clash (is_restarted h) b.due.0 e
    by (Some item) e = no-clash (is_restarted h) b.due.0 e
begins-after s t x h (want.Ended reason) b = tt
begins-after s t x h _ b = b.serves.1

-- at work
abbrev pub WorksServe : Scen → List Entry → Site → List Event → Act → Type 0
WorksServe s t x h a =
    UnlessGone a (is_active (handed s t x (now t) h a ∷ h) ≡ true → is_sound (handed s t x (now t) h a ∷ h) ≡ true
    → is_restarted (handed s t x (now t) h a ∷ h) ≡ true
    → ServesWork (settings s x) (handed s t x (now t) h a ∷ h) (site_after s t x a land.Full))

-- a number that is held is not given anew
number-kept : (b : Bool) (n m k : ℕ) → b ≡ true → k ≡ n → k ≡ (if b then n else m)
number-kept true n m k is e = e
number-kept false n m k is e = false-true is

-- a record ends the unit of the trace as that of the job
record-opened : (rec : LogRec) (o : Opened) (l : Ledger) → o ≡ opened_of l → opened_by_record rec o ≡ opened_of (after_record rec l)
record-opened (Put unit rrn before) o l same = same
record-opened (Commit unit) o l same = ap (without unit) same
record-opened (Backout unit) o l same = ap (without unit) same

-- after each act
serve-after : (s : Scen) (t : List Entry) (x : Site) (h : List Event) (w : Want) → Before s t x h w → IfSome (act_of s t x h w) (WorksServe s t x h)
serve-after s t x h want.Nothing b = tt
serve-after s t x h (want.Exit told) b = tt
serve-after s t x h (want.CtlWrite written) b = λ there sound working.
    (let owner = restarted-owner s t x h (want.CtlWrite written) b working in
    let at = b.serves.2 (by-write (is_owner h) _ (has_signed_off h) _ there owner) sound working in
    (at.0, number-kept (is_granted h) (number h) written.last (ledger (settings s x) h).inc (owner-granted h owner) at.1, at.2))
serve-after s t x h (want.LogRead n) b = by (has_read_block h)
  where
    by : (has : Bool) → is_active (block_event s t n has ∷ h) ≡ true → is_sound (block_event s t n has ∷ h) ≡ true
        → is_restarted (block_event s t n has ∷ h) ≡ true
        → ServesWork (settings s x) (block_event s t n has ∷ h) (site_view s t x)
    by true there sound working = no-clash (is_restarted h) working b.due.0
    by false there sound working = no-clash (is_restarted h) working b.due.0
serve-after s t x h (want.LogOpen place rec) b = λ there sound working.
    (let at = b.serves.2 there sound working in
    let l : Ledger = ledger (settings s x) h in
    let hand : record_of_plan (plan_of_job (settings s x) h) (slot_read h) ≡ Some rec = sym (plan-hand (settings s x) h working) ∙ b.due.3 in (
      record-opened rec (opened s t x) l at.0,
      record-inc rec l
          ∙ at.1,
      serving-recorded (given_last h) l (plan_of_job (settings s x) h) (slot_read h) rec hand at.2,
    ))
serve-after s t x h (want.KpOpen n keypoint) b = λ there sound working.
    (let at = b.serves.2 there sound working in
    (at.0, at.1, serving-keyed (given_last h) (ledger (settings s x) h) keypoint.start (plan_of_job (settings s x) h) at.2))
serve-after s t x h want.Restarted b = λ there sound working.
    (let at = b.serves.1 b.due.0 in
    (at.0, refl, subst (Serving (given_last h) (ledger (settings s x) (RestartDeclared ∷ h))) (sym at.1) tt))
serve-after s t x h want.Item b = of-item s t x (WorksServe s t x h) (by (item_at s x (items_taken t x + 1)))
  where
    by : (o : Option Item) → is_active (item_event o ∷ h) ≡ true → is_sound (item_event o ∷ h) ≡ true → is_restarted (item_event o ∷ h) ≡ true
        → ServesWork (settings s x) (item_event o ∷ h) (record { item = o; plan = plan_at s t x o; opened = opened_by_item s t x (opened s t x) o })
    by None there sound working = b.serves.2 there sound working
    by (Some item) there sound working =
        let at = b.serves.2 there sound working in
        let l : Ledger = ledger (settings s x) h in (
          ap (λ (m : Ledger). opened_of (planned m item)) (item-joined s t x h b),
          planned-keeps (λ (m : Ledger). m.inc) l (λ begun units. refl) item
              ∙ at.1,
          serving-planned l item,
        )
serve-after s t x h (want.Ended reason) b = tt
serve-after s t x h _ b = b.serves.2

-- after a failure
abbrev pub StaysUnsound : Scen → List Entry → Site → List Event → Act → Type 0
StaysUnsound s t x h a = is_sound (handed s t x (now t) h a ∷ h) ≡ false → AfterIdle s t x h a

-- after each act
unsound-after : (s : Scen) (t : List Entry) (x : Site) (h : List Event) (w : Want) → (is_sound h ≡ false → Idle w)
    → IfSome (act_of s t x h w) (StaysUnsound s t x h)
unsound-after s t x h want.Nothing idle = tt
unsound-after s t x h (want.Exit told) idle = tt
unsound-after s t x h (want.LogRead n) idle = λ none. false-true (idle (by (has_read_block h) none))
  where
    by : (has : Bool) → is_sound (block_event s t n has ∷ h) ≡ false → is_sound h ≡ false
    by true none = none
    by false none = none
unsound-after s t x h want.Item idle = of-item s t x (StaysUnsound s t x h) (λ none. false-true (idle (given (item_at s x (items_taken t x + 1)) none)))
  where
    given : (o : Option Item) → is_sound (item_event o ∷ h) ≡ false → is_sound h ≡ false
    given None none = none
    given (Some item) none = none
unsound-after s t x h w idle = λ none. act-idle s t x h w (idle none)

-- all of it
abbrev pub Served : Scen → List Entry → Site → List Event → Act → Type 0
Served s t x h a = UnlessGone a (Serves (settings s x) (handed s t x (now t) h a ∷ h) (site_after s t x a land.Full))

-- the parts together
whole : (s : Scen) (t : List Entry) (x : Site) (h : List Event) (a : Act) → Hands s t x h a → Begins s t x h a → WorksServe s t x h a
    → StaysUnsound s t x h a → Served s t x h a
whole s t x h (act.Ended reason) p q r u = tt
whole s t x h _ p q r u = (p, q, r, u)

-- so after each act
pub served-after : (s : Scen) (t : List Entry) (x : Site) (h : List Event) (w : Want) → Before s t x h w → IfSome (act_of s t x h w) (Served s t x h)
served-after s t x h w b = by (act_of s t x h w) (hands-after s t x h w b) (begins-after s t x h w b) (serve-after s t x h w b) (unsound-after s t x h w b.idle)
  where
    by : (o : Option Act) → IfSome o (Hands s t x h) → IfSome o (Begins s t x h) → IfSome o (WorksServe s t x h) → IfSome o (StaysUnsound s t x h)
        → IfSome o (Served s t x h)
    by None p q r u = tt
    by (Some a) p q r u = whole s t x h a p q r u
