-- What is refused by the next act is refused by what is wanted.
use Rattle.std.proofs.Common.{◌≡◌, ◌∙◌, ℕ, Bool, true, false, ◌+◌, ap, refl, subst, sym, if◌then◌else◌, is_none, is_some, List, Option, Some, None}
use Rattle.xrf_base.specs.declared.site.Site.{Site}
use Rattle.xrf_setup.specs.declared.choice.Landing.{Landing}
use Rattle.xrf_setup.specs.declared.choice.Landing.TheVariants as landing
use Rattle.xrf_history.specs.declared.want.Want.{Want}
use Rattle.xrf_history.specs.declared.want.Want.TheVariants as want
use Rattle.xrf_history.specs.Answers.{may_fail as wanted_may_fail}
use Rattle.xrf_history.specs.Events.{Event}
use Rattle.xrf_history.specs.Next.{next}
use Rattle.xrf_trace.specs.declared.entry.Act.{Act}
use Rattle.xrf_trace.specs.declared.entry.Act.TheVariants as act
use Rattle.xrf_trace.specs.declared.entry.Entry.{Entry}
use Rattle.xrf_trace.specs.Acts.{act_of, act_by, next_act, is_signal, may_fail}
use Rattle.xrf_trace.specs.Jobs.{hist}
use Rattle.xrf_trace.specs.Refusals.{is_next, may_step, stop_refusal, fail_refusal}
use Rattle.xrf_trace.specs.Scenario.{Scen, settings}
use Rattle.xrf_trace.specs.Words.{items_taken, reserve_is_free}
use Rattle.xrf_world.specs.Seats.{want_of}
use Rattle.xrf_world.specs.Wants as wants
use Rattle.xrf_world.specs.Wants.{while_left, is_item_left, wanted, wanted_by, may_make}

-- what is said of a next act and of what is wanted, for each want, holds of the site
pub by-want : {X : Type 0} (s : Scen) (t : List Entry) (x : Site) (of_act : Option Act → X) (of_want : Want → X) → of_act None ≡ of_want want.Nothing
    → ((h : List Event) (w : Want) → of_act (act_of s t x h w) ≡ of_want (while_left w (is_item_left s t x)))
    → of_act (next_act s t x) ≡ of_want (wanted s t x)
by-want s t x of_act of_want none each = by (hist s t x)
  where
    by : (job : Option (List Event)) → of_act (act_by s t x job) ≡ of_want (wanted_by s t x job)
    by None = none
    by (Some h) = each h (next (settings s x) h)

-- an ITEM
pub by-item : {X : Type 0} (n : ℕ) (of_act : Option Act → X) (of_want : Want → X) → of_act None ≡ of_want want.Nothing
    → of_act (Some (act.Item n)) ≡ of_want want.Item → (b : Bool)
    → of_act (if b then Some (act.Item n) else None) ≡ of_want (if b then want.Item else want.Nothing)
by-item n of_act of_want none some true = some
by-item n of_act of_want none some false = none

-- a STEP
step-act : (s : Scen) (t : List Entry) (x : Site) (h : List Event) (w : Want)
    → is_next (may_step t) (act_of s t x h w) ≡ may_make (reserve_is_free t) (while_left w (is_item_left s t x))
step-act s t x h want.Item = by-item (items_taken t x + 1) (is_next (may_step t)) (may_make (reserve_is_free t)) refl refl (is_item_left s t x)
step-act s t x h _ = refl

pub step-same : (s : Scen) (t : List Entry) (x : Site) → is_next (may_step t) (next_act s t x) ≡ may_make (reserve_is_free t) (wanted s t x)
step-same s t x = by-want s t x (is_next (may_step t)) (may_make (reserve_is_free t)) refl (step-act s t x)

-- a LOSE
signal-act : (s : Scen) (t : List Entry) (x : Site) (h : List Event) (w : Want)
    → is_next is_signal (act_of s t x h w) ≡ wants.is_signal (while_left w (is_item_left s t x))
signal-act s t x h want.Item = by-item (items_taken t x + 1) (is_next is_signal) wants.is_signal refl refl (is_item_left s t x)
signal-act s t x h _ = refl

pub signal-same : (s : Scen) (t : List Entry) (x : Site) → is_next is_signal (next_act s t x) ≡ wants.is_signal (wanted s t x)
signal-same s t x = by-want s t x (is_next is_signal) wants.is_signal refl (signal-act s t x)

-- an act that fails
fails-act : (s : Scen) (t : List Entry) (x : Site) (h : List Event) (w : Want)
    → is_next may_fail (act_of s t x h w) ≡ wanted_may_fail (while_left w (is_item_left s t x))
fails-act s t x h want.Item = by-item (items_taken t x + 1) (is_next may_fail) wanted_may_fail refl refl (is_item_left s t x)
fails-act s t x h _ = refl

pub fails-same : (s : Scen) (t : List Entry) (x : Site) → is_next may_fail (next_act s t x) ≡ wanted_may_fail (wanted s t x)
fails-same s t x = by-want s t x (is_next may_fail) wanted_may_fail refl (fails-act s t x)

-- a STOP
stop-none : (cut : Landing) (has_job : Bool) → stop_refusal cut has_job None ≡ wants.stop_refusal cut has_job want.Nothing
stop-none landing.Nothing has_job = refl
stop-none landing.All has_job = refl
stop-none (landing.Torn bytes) has_job = refl

stop-item : (cut : Landing) (has_job : Bool) (n : ℕ) → stop_refusal cut has_job (Some (act.Item n)) ≡ wants.stop_refusal cut has_job want.Item
stop-item landing.Nothing has_job n = refl
stop-item landing.All has_job n = refl
stop-item (landing.Torn bytes) has_job n = refl

stop-act : (s : Scen) (t : List Entry) (x : Site) (cut : Landing) (has_job : Bool) (h : List Event) (w : Want)
    → stop_refusal cut has_job (act_of s t x h w) ≡ wants.stop_refusal cut has_job (while_left w (is_item_left s t x))
stop-act s t x cut has_job h want.Item =
    by-item (items_taken t x + 1) (stop_refusal cut has_job) (wants.stop_refusal cut has_job) (stop-none cut has_job)
    (stop-item cut has_job (items_taken t x + 1)) (is_item_left s t x)
stop-act s t x landing.Nothing has_job h _ = refl
stop-act s t x landing.All has_job h _ = refl
stop-act s t x (landing.Torn bytes) has_job h _ = refl

pub stop-same : (s : Scen) (t : List Entry) (x : Site) (cut : Landing) (has_job : Bool)
    → stop_refusal cut has_job (next_act s t x) ≡ wants.stop_refusal cut has_job (wanted s t x)
stop-same s t x cut has_job =
    by-want s t x (stop_refusal cut has_job) (wants.stop_refusal cut has_job) (stop-none cut has_job) (stop-act s t x cut has_job)

-- a FAIL
fail-none : (cut : Landing) → fail_refusal cut None ≡ wants.fail_refusal cut want.Nothing
fail-none landing.Nothing = refl
fail-none landing.All = refl
fail-none (landing.Torn bytes) = refl

fail-item : (cut : Landing) (n : ℕ) → fail_refusal cut (Some (act.Item n)) ≡ wants.fail_refusal cut want.Item
fail-item landing.Nothing n = refl
fail-item landing.All n = refl
fail-item (landing.Torn bytes) n = refl

fail-act : (s : Scen) (t : List Entry) (x : Site) (cut : Landing) (h : List Event) (w : Want)
    → fail_refusal cut (act_of s t x h w) ≡ wants.fail_refusal cut (while_left w (is_item_left s t x))
fail-act s t x cut h want.Item =
    by-item (items_taken t x + 1) (fail_refusal cut) (wants.fail_refusal cut) (fail-none cut) (fail-item cut (items_taken t x + 1)) (is_item_left s t x)
fail-act s t x landing.Nothing h _ = refl
fail-act s t x landing.All h _ = refl
fail-act s t x (landing.Torn bytes) h _ = refl

pub fail-same : (s : Scen) (t : List Entry) (x : Site) (cut : Landing) → fail_refusal cut (next_act s t x) ≡ wants.fail_refusal cut (wanted s t x)
fail-same s t x cut = by-want s t x (fail_refusal cut) (wants.fail_refusal cut) (fail-none cut) (fail-act s t x cut)

-- what its job wants, while an item is left, is what is wanted of a site
pub wanted-of : (s : Scen) (t : List Entry) (x : Site) (job : Option (List Event))
    → while_left (want_of (settings s x) job) (is_item_left s t x) ≡ wanted_by s t x job
wanted-of s t x None = refl
wanted-of s t x (Some h) = refl

-- WHAT A JOB WANTS is what is wanted of its site, but for an ITEM where none is left.
left-of : {X : Type 0} (f : Want → X) → f want.Nothing ≡ f want.Item → (w : Want) (is_left : Bool) → f (while_left w is_left) ≡ f w
left-of f alike want.Item true = refl
left-of f alike want.Item false = alike
left-of f alike _ is_left = refl

-- so what does not tell an ITEM from nothing is the same of both
pub of-wanted : {X : Type 0} (f : Want → X) → f want.Nothing ≡ f want.Item → (s : Scen) (t : List Entry) (x : Site) (w : Want)
    → w ≡ want_of (settings s x) (hist s t x) → f w ≡ f (wanted s t x)
of-wanted f alike s t x w is =
    ap f is ∙ sym (left-of f alike (want_of (settings s x) (hist s t x)) (is_item_left s t x)) ∙ ap f (wanted-of s t x (hist s t x))

left-holds : (P : Want → Type 0) → (P want.Nothing → P want.Item) → (w : Want) (is_left : Bool) → P (while_left w is_left) → P w
left-holds P alike want.Item true holds = holds
left-holds P alike want.Item false holds = alike holds
left-holds P alike _ is_left holds = holds

pub holds-of-wanted : (P : Want → Type 0) → (P want.Nothing → P want.Item) → (s : Scen) (t : List Entry) (x : Site) (w : Want)
    → w ≡ want_of (settings s x) (hist s t x) → P (wanted s t x) → P w
holds-of-wanted P alike s t x w is holds =
    subst P (sym is) (left-holds P alike (want_of (settings s x) (hist s t x)) (is_item_left s t x) (subst P (sym (wanted-of s t x (hist s t x))) holds))

-- and where something is wanted it is that which the job wants
left-met : (test : Want → Bool) → test want.Nothing ≡ false → (w : Want) (is_left : Bool) → test (while_left w is_left) ≡ true → while_left w is_left ≡ w
left-met test none want.Item true met = refl
left-met test none want.Item false met = absurd (cc)
left-met test none _ is_left met = refl

pub met-wanted : (test : Want → Bool) → test want.Nothing ≡ false → (s : Scen) (t : List Entry) (x : Site) (w : Want)
    → w ≡ want_of (settings s x) (hist s t x) → test (wanted s t x) ≡ true → wanted s t x ≡ w
met-wanted test none s t x w is met =
    let left : while_left (want_of (settings s x) (hist s t x)) (is_item_left s t x) ≡ wanted s t x = wanted-of s t x (hist s t x) in
    sym left
    ∙ left-met test none (want_of (settings s x) (hist s t x)) (is_item_left s t x) (ap test left ∙ met)
    ∙ sym is

-- whether it may be made
pub may-wanted : (s : Scen) (t : List Entry) (x : Site) (w : Want) (is_free is_left : Bool) → is_free ≡ reserve_is_free t → is_left ≡ is_item_left s t x
    → w ≡ want_of (settings s x) (hist s t x) → may_make is_free (while_left w is_left) ≡ may_make (reserve_is_free t) (wanted s t x)
may-wanted s t x w is_free is_left free left is =
    ap (λ (b : Bool). may_make b (while_left w is_left)) free
    ∙ ap (λ (b : Bool). may_make (reserve_is_free t) (while_left w b)) left
    ∙ ap (λ (one : Want). may_make (reserve_is_free t) (while_left one (is_item_left s t x))) is
    ∙ ap (may_make (reserve_is_free t)) (wanted-of s t x (hist s t x))

-- an ITEM is refused a STOP and a FAIL as nothing is
pub stop-alike : (cut : Landing) (has_job : Bool) → wants.stop_refusal cut has_job want.Nothing ≡ wants.stop_refusal cut has_job want.Item
stop-alike landing.Nothing has_job = refl
stop-alike landing.All has_job = refl
stop-alike (landing.Torn bytes) has_job = refl

pub fail-alike : (cut : Landing) → wants.fail_refusal cut want.Nothing ≡ wants.fail_refusal cut want.Item
fail-alike landing.Nothing = refl
fail-alike landing.All = refl
fail-alike (landing.Torn bytes) = refl

pub fails-nothing : (cut : Landing) → is_none (wants.fail_refusal cut want.Nothing) ≡ false
fails-nothing landing.Nothing = refl
fails-nothing landing.All = refl
fails-nothing (landing.Torn bytes) = refl

-- a site with no job wants nothing
pub none-wanted : (s : Scen) (t : List Entry) (x : Site) → is_some (hist s t x) ≡ false → wanted s t x ≡ want.Nothing
none-wanted s t x none = by (hist s t x) none
  where
    by : (job : Option (List Event)) → is_some job ≡ false → wanted_by s t x job ≡ want.Nothing
    by None none = refl
    by (Some h) none = absurd (cc)
