-- Where no record with a taking is written nobody sees one.
use Rattle.std.proofs.Common.{◌≡◌, ℕ, Bool, true, false, ◌&&◌, ◌||◌, is_some, List, [], ◌∷◌, Option, Some, None, refl}
use Rattle.std.specs.Option.{option_map}
use Rattle.xrf_base.specs.declared.items.Item.{Item}
use Rattle.xrf_base.specs.declared.site.Site.{Site}
use Rattle.xrf_base.specs.declared.site.Site.TheVariants as site
use Rattle.xrf_ctl.specs.Control.{ControlRecord}
use Rattle.xrf_history.specs.Events.{Event}
use Rattle.xrf_history.specs.Holding.{is_owner}
use Rattle.xrf_history.specs.Progress.{has_seen_taking}
use Rattle.xrf_history.specs.Restarting.{has_read_block}
use Rattle.xrf_trace.specs.declared.entry.Entry.{Entry}
use Rattle.xrf_trace.specs.declared.entry.Act.{Act}
use Rattle.xrf_trace.specs.declared.entry.Act.TheVariants as act
use Rattle.xrf_trace.specs.declared.entry.Land.{Land}
use Rattle.xrf_trace.specs.declared.entry.Land.TheVariants as land
use Rattle.xrf_trace.specs.declared.entry.Who.{Who}
use Rattle.xrf_trace.specs.declared.entry.Who.TheVariants as who
use Rattle.xrf_trace.specs.Scenario.{Scen, item_at}
use Rattle.xrf_trace.specs.Words.{is_of}
use Rattle.xrf_trace.specs.Landing.{lands}
use Rattle.xrf_trace.specs.Devices.{control, control_after, written_if}
use Rattle.xrf_trace.specs.Jobs.{hist, handed, block_event, item_event, after_act, after_own, after_other}
use Rattle.xrf_trace.specs.Throughs.{is_update}
use Rattle.xrf_trace.specs.SilentOnceSeen.{SilentOnceSeen}
use Rattle.xrf_trace.specs.Each.{Where, AtSite, OfJob}

abbrev BringsNone : Act → Type 0
BringsNone (act.CtlWrite written) = is_some written.taking ≡ false
BringsNone _ = Unit {0}

abbrev pub AllBringNone : List Entry → Type 0
AllBringNone [] = Unit {0}
AllBringNone (e ∷ t) = AllBringNone t × BringsNone e.act

none_written : (landed : Bool) (written before : ControlRecord) → is_some before.taking ≡ false → is_some written.taking ≡ false → is_some (written_if landed written before).taking ≡ false
none_written true written before old new = new
none_written false written before old new = old

none_after : (a : Act) (l : Land) (before : ControlRecord) → is_some before.taking ≡ false → BringsNone a → is_some (control_after a l before).taking ≡ false
none_after (act.CtlWrite written) l before old new = none_written (lands l) written before old new
none_after _ l before old new = old

none_there : (t : List Entry) → AllBringNone t → is_some (control t).taking ≡ false
none_there [] brought = refl
none_there (e ∷ t) brought = none_after e.act e.land (control t) (none_there t brought.0) brought.1

-- seeing a record without a taking changes nothing
unseen : (before owner there : Bool) → before ≡ false → there ≡ false → (before || (owner && there)) ≡ false
unseen true owner there old none = old
unseen false true there old none = none
unseen false false there old none = refl

of_block : (s : Scen) (t : List Entry) (b : ℕ) (later : Bool) (h : List Event) → has_seen_taking h ≡ false → has_seen_taking (block_event s t b later ∷ h) ≡ false
of_block s t b true h old = old
of_block s t b false h old = old

of_item : (item : Option Item) (h : List Event) → has_seen_taking h ≡ false → has_seen_taking (item_event item ∷ h) ≡ false
of_item (Some item) h old = old
of_item None h old = old

handed_none : (s : Scen) (t : List Entry) (x : Site) (at : ℕ) (h : List Event) (a : Act) → is_some (control t).taking ≡ false → has_seen_taking h ≡ false
    → has_seen_taking (handed s t x at h a ∷ h) ≡ false
handed_none s t x at h act.CtlRead none old = unseen (has_seen_taking h) (is_owner h) (is_some (control t).taking) old none
handed_none s t x at h act.Look1 none old = unseen (has_seen_taking h) (is_owner h) (is_some (control t).taking) old none
handed_none s t x at h (act.LogRead b) none old = of_block s t b (has_read_block h) h old
handed_none s t x at h (act.Item k) none old = of_item (item_at s x k) h old
handed_none s t x at h _ none old = old

-- of the job that is there, if one is
abbrev Unseeing : Option (List Event) → Type 0
Unseeing None = Unit {0}
Unseeing (Some h) = has_seen_taking h ≡ false

by_handed : (s : Scen) (t : List Entry) (x : Site) (at : ℕ) (a : Act) (job : Option (List Event)) → is_some (control t).taking ≡ false → Unseeing job
    → Unseeing (option_map (λ h. handed s t x at h a ∷ h) job)
by_handed s t x at a None none old = tt
by_handed s t x at a (Some h) none old = handed_none s t x at h a none old

by_act : (s : Scen) (t : List Entry) (x : Site) (at : ℕ) (a : Act) (job : Option (List Event)) → is_some (control t).taking ≡ false → Unseeing job
    → Unseeing (after_act s t x at a job)
by_act s t x at act.StartActive job none old = refl
by_act s t x at act.StartStandby job none old = refl
by_act s t x at (act.Ended reason) job none old = tt
by_act s t x at a job none old = by_handed s t x at a job none old

by_failed : (s : Scen) (t : List Entry) (x : Site) (at : ℕ) (a : Act) (l : Land) (job : Option (List Event)) → is_some (control t).taking ≡ false → Unseeing job
    → Unseeing (after_own s t x at a l job)
by_failed s t x at a (land.Stop landing) job none old = tt
by_failed s t x at a (land.Fail landing) None none old = tt
by_failed s t x at a (land.Fail landing) (Some h) none old = old
by_failed s t x at a land.Full job none old = by_act s t x at a job none old
by_failed s t x at a land.Lost job none old = by_act s t x at a job none old

by_other : (a : Act) (job : Option (List Event)) → Unseeing job → Unseeing (after_other a job)
by_other act.Tick None old = tt
by_other act.Tick (Some h) old = old
by_other _ job old = old

by_site : (s : Scen) (t : List Entry) (x : Site) (e : Entry) (own : Bool) → is_some (control t).taking ≡ false → Unseeing (hist s t x)
    → Unseeing (elim own [ true ↦ after_own s t x e.tick e.act e.land (hist s t x) | false ↦ after_other e.act (hist s t x) ])
by_site s t x e true none old = by_failed s t x e.tick e.act e.land (hist s t x) none old
by_site s t x e false none old = by_other e.act (hist s t x) old

sees_none : (s : Scen) (t : List Entry) (x : Site) → AllBringNone t → Unseeing (hist s t x)
sees_none s [] x brought = tt
sees_none s (e ∷ t) x brought = by_site s t x e (is_of e.who x) (none_there t brought.0) (sees_none s t x brought.0)

of_job : (job : Option (List Event)) → Unseeing job → OfJob job (λ h. has_seen_taking h ≡ false)
of_job None old = tt
of_job (Some h) old = old

at_site : (s : Scen) (t : List Entry) (w : Who) → AllBringNone t → AtSite s t w (λ x h. has_seen_taking h ≡ false)
at_site s t who.A brought = of_job (hist s t site.A) (sees_none s t site.A brought)
at_site s t who.B brought = of_job (hist s t site.B) (sees_none s t site.B brought)
at_site s t who.Env brought = tt

where_met : (test : Bool) (fact : Type 0) → fact → Where test fact
where_met true fact is = is
where_met false fact is = tt

pub silent_throughout : (s : Scen) (t : List Entry) → AllBringNone t → SilentOnceSeen s t
silent_throughout s [] brought = tt
silent_throughout s (e ∷ t) brought =
    (silent_throughout s t brought.0, where_met (is_update e.act) (AtSite s t e.who (λ x h. has_seen_taking h ≡ false)) (at_site s t e.who brought.0))
