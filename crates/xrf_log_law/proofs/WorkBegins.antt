-- A job that begins to work, and goes on.
use Rattle.std.proofs.Common.{List, None, Option, Some, ℕ, true, ◌≡◌, false, ap, map, sym, [], ◌∙◌, refl, ◌∷◌, Bool, IfSome, ◌+◌}
use Rattle.xrf_base.specs.declared.site.Site.{Site}
use Rattle.xrf_base.specs.declared.items.UnitId.{UnitId}
use Rattle.xrf_base.specs.declared.items.Item.{Item}
use Rattle.xrf_logrec.specs.declared.records.LogRec.{LogRec}
use Rattle.xrf_logrec.specs.declared.keypoints.Keypoint.{Keypoint}
use Rattle.xrf_log.specs.Flight.{has_ended, flight, open_puts}
use Rattle.xrf_file.specs.declared.answers.Plan.{Plan}
use Rattle.xrf_file.specs.declared.rows.OpenUnit.{OpenUnit}
use Rattle.xrf_file.specs.declared.rows.LoggedPut.{LoggedPut}
use Rattle.xrf_history.specs.Events.{Event, RestartDeclared}
use Rattle.xrf_history.specs.declared.settings.Settings.{Settings}
use Rattle.xrf_history.specs.declared.want.Want.{Want}
use Rattle.xrf_history.specs.Rows.{boundary}
use Rattle.xrf_history.specs.Next.{or_boundary, inside, next}
use Rattle.xrf_history.specs.Holding.{is_restarted, number, is_owner}
use Rattle.xrf_history.specs.Working.{last_plan, ledger}
use Rattle.xrf_history.specs.Progress.{is_active, has_signed_off}
use Rattle.xrf_history.specs.Restarting.{scan, has_read_block}
use Rattle.xrf_trace.specs.declared.entry.Entry.{Entry}
use Rattle.xrf_trace.specs.Scenario.{Scen, first_value, settings, item_at}
use Rattle.xrf_trace.specs.Log.{log}
use Rattle.xrf_trace.specs.declared.entry.Act.{Act}
use Rattle.xrf_trace.specs.Jobs.{handed, block_event, item_event}
use Rattle.xrf_trace.specs.Words.{now, items_taken}
use Rattle.xrf_trace.specs.Acts.{act_of}
use Rattle.xrf_log_law.specs.AtWork.{LastAt, LastIn, NamedAt, NamedIn, Working}
use Rattle.xrf_log_law.specs.State.{View, view, after}
use Rattle.xrf_log_law.proofs.WorkInSequence.{last-any, boundary-named}
use Rattle.xrf_log_law.specs.Soundness.{is_sound}
use Rattle.xrf_log_law.specs.BeforeImages.{has_put}
use Rattle.xrf_log_law.proofs.LedgerSteps.{no-rows, begun-ledger}
use Rattle.xrf_log_law.proofs.LedgerLaws.{open-rows}
use Rattle.xrf_log_law.specs.Due.{Restarts, restart_view}
use Rattle.xrf_log_law.proofs.JobActs.{by-write, not-ended, of-item}
use Rattle.xrf_log_law.proofs.WorkActs.{given-works, work-after}
use Rattle.xrf_log_law.proofs.BeforeActs.{Before}
use Rattle.xrf_log_law.proofs.Tests.{false-true, no-clash}
use Rattle.xrf_history.specs.declared.want.Want.TheVariants as want
use Rattle.xrf_trace.specs.declared.entry.Land.TheVariants as land

-- what holds of the next act of a job at work
or_boundary-last : (first : ℕ → Option (List ℕ)) (v : View) (plan : Plan) (p : Settings) (h : List Event) (o : Option Want) → LastIn first v plan o
    → LastAt first v plan (or_boundary p h o)
or_boundary-last first v plan p h None last = last-any first v plan (boundary p h) last
or_boundary-last first v plan p h (Some w) last = last

-- and the plan that is carried out
or_boundary-named : (units : List OpenUnit) (plan : Plan) (p : Settings) (h : List Event) (o : Option Want) → is_restarted h ≡ true
    → NamedIn units plan o → NamedAt units plan (or_boundary p h o)
or_boundary-named units plan p h None working named = boundary-named units plan p h working
or_boundary-named units plan p h (Some w) working named = named

-- the last values at the next act
pub next-last : (size : ℕ) (first : ℕ → Option (List ℕ)) (v : View) (p : Settings) (h : List Event) → Working size first v p h
    → LastAt first v (last_plan p h) (next p h)
next-last size first v p h working = or_boundary-last first v (last_plan p h) p h (inside p h) working.2

-- the plan that is carried out at the next act
pub next-named : (size : ℕ) (first : ℕ → Option (List ℕ)) (v : View) (p : Settings) (h : List Event) → is_restarted h ≡ true
    → Working size first v p h → NamedAt (ledger p h).units (last_plan p h) (next p h)
next-named size first v p h restarted working = or_boundary-named (ledger p h).units (last_plan p h) p h (inside p h) restarted working.3

-- RESTARTED
no-put : (log : List LogRec) (unit : UnitId) (r : ℕ) → flight log ≡ [] → has_put unit r (open_puts log) ≡ true → false ≡ true
no-put log unit r none put =
    let rows : open_puts log ≡ [] = sym (open-rows log) ∙ ap (map (λ (q : LoggedPut). record { unit = q.unit; undo = q.undo })) (no-rows log none) in
    sym (ap (has_put unit r) rows) ∙ put

-- RESTARTED begins the work
begun-works : (s : Scen) (t : List Entry) (x : Site) (h : List Event)
    → Restarts s.settings.log (first_value s) (view s t) (restart_view (settings s x) h) → (scan (settings s x) h).ended ≡ true → flight (log t) ≡ []
    → ((serial : ℕ) → has_ended (record { inc = number h; serial = serial }) (log t) ≡ false)
    → Working s.settings.log (first_value s) (view s t) (settings s x) (RestartDeclared ∷ h)
begun-works s t x h restarts ended none fresh = (
  begun-ledger s.settings.log (log t) (view s t).start (ledger (settings s x) (RestartDeclared ∷ h)) refl (restarts.undoing ended).next
      (ap (λ (k : Keypoint). k.start) restarts.keypoint) refl refl refl none fresh,
  restarts.keypoint,
  λ u r put e. false-true (no-put (log t) u r none put),
  tt,
)

-- after each act
abbrev pub WorksOn : Scen → List Entry → Site → View → List Event → Type 0
WorksOn s t x v now_h =
    is_active now_h ≡ true → is_sound now_h ≡ true → is_restarted now_h ≡ true → Working s.settings.log (first_value s) v (settings s x) now_h

-- after an act in full
abbrev pub AtWorkAfter : Scen → List Entry → Site → List Event → Act → Type 0
AtWorkAfter s t x h a = WorksOn s t x (after s.settings.log a land.Full (view s t)) (handed s t x (now t) h a ∷ h)

-- a restarted job is an owner
pub restarted-owner : (s : Scen) (t : List Entry) (x : Site) (h : List Event) (w : Want) → Before s t x h w → is_restarted h ≡ true → is_owner h ≡ true
restarted-owner s t x h w b restarted = by (has_read_block h) refl
  where
    by : (c : Bool) → has_read_block h ≡ c → is_owner h ≡ true
    by true e = b.stands.0 e
    by false e = no-clash (is_restarted h) restarted (b.stands.1 e).3

-- so the work stands after each act
pub work-stands : (s : Scen) (t : List Entry) (x : Site) (h : List Event) (w : Want) → Before s t x h w → IfSome (act_of s t x h w) (AtWorkAfter s t x h)
work-stands s t x h want.Nothing b = tt
work-stands s t x h (want.Exit told) b = tt
work-stands s t x h (want.CtlWrite written) b = λ there sound working.
    (let here = by-write (is_owner h) _ (has_signed_off h) _ there (restarted-owner s t x h (want.CtlWrite written) b working) in
    work-after s t x h (want.CtlWrite written) b working (b.stands.5 here sound working) (b.values here sound working) (b.named here sound working))
work-stands s t x h (want.LogRead n) b = by (has_read_block h)
  where
    by : (has : Bool) → WorksOn s t x (view s t) (block_event s t n has ∷ h)
    by true there sound working = no-clash (is_restarted h) working b.due.0
    by false there sound working = no-clash (is_restarted h) working b.due.0
work-stands s t x h want.Restarted b = λ there sound working.
    (let here = b.stands.2 there sound (read (has_read_block h) refl) b.due.0 in
    begun-works s t x h here b.due.1 b.due.2 (b.fresh there b.due.0))
  where
    read : (c : Bool) → has_read_block h ≡ c → has_read_block h ≡ true
    read true e = e
    read false e = not-ended s x h (b.stands.1 e) b.due.1
work-stands s t x h want.Item b = of-item s t x (AtWorkAfter s t x h) (by (item_at s x (items_taken t x + 1)))
  where
    by : (o : Option Item) → WorksOn s t x (view s t) (item_event o ∷ h)
    by None there sound working = b.stands.5 there sound working
    by (Some item) there sound working = given-works s t x h (Some item) (b.stands.5 there sound working) (b.values there sound working)
work-stands s t x h w b =
    λ there sound working. work-after s t x h w b working (b.stands.5 there sound working) (b.values there sound working)
    (b.named there sound working)
