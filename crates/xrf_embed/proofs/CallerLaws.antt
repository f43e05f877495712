-- What a caller knows of the entry that its last choice added.
use Rattle.std.proofs.Common.{◌≡◌, ◌≤◌, ◌-◌, ◌∙◌, ℕ, Bool, true, List, ◌∷◌, length, Option, Some, Result, Ok, Err, reverse, slice_get, get_or, ap, subst, refl, arith}
use Rattle.std.proofs.lemmas.List.{length-reverse, get_or-reverse}
use Rattle.std.proofs.lemmas.Option.{slice_get-get_or}
use Rattle.xrf_laws.proofs.EveryRun.{every-run}
use Rattle.xrf_setup.specs.declared.choice.Choice.{Choice}
use Rattle.xrf_setup.specs.declared.ranges.TheConstants.{CHOICES_MOST}
use Rattle.xrf_trace.specs.declared.entry.Entry.{Entry}
use Rattle.xrf_trace.specs.declared.entry.Refused.{Refused}
use Rattle.xrf_trace.specs.Devices.{control}
use Rattle.xrf_trace.specs.Each.{Where}
use Rattle.xrf_trace.specs.OneUpdater.{running_owner}
use Rattle.xrf_trace.specs.Runs.{IsRun, outcome}
use Rattle.xrf_trace.specs.Safe.{Safe}
use Rattle.xrf_trace.specs.Scenario.{IsScen}
use Rattle.xrf_trace.specs.Throughs.{is_update}
use Rattle.xrf_world.specs.Runs.{Run, Made, Applied}
use Rattle.xrf_embed.specs.Becoming.{Becomes, IsUpdateBy}

-- it stands last in the journal
pub newest : (t : List Entry) (e : Entry) → slice_get (reverse (e ∷ t)) (length (reverse (e ∷ t)) - 1) ≡ Some e
newest t e =
    let journal : List Entry = reverse (e ∷ t) in
    let place : ℕ = length journal - 1 in
    let many : length journal ≡ length (e ∷ t) = length-reverse (e ∷ t) in
    let first : length (e ∷ t) - 1 - place ≡ 0 = omega (arith, many) in
    slice_get-get_or journal place e (omega (arith, many)) ∙ ap (λ (x : Entry). Some x)
    (get_or-reverse (e ∷ t) place e (omega (arith, many)) ∙ ap (λ (n : ℕ). get_or (e ∷ t) n e) first)

-- a run is safe
pub is_safe : (r : Run) → IsScen r.scenario → IsRun r.scenario r.trace → length r.trace ≤ CHOICES_MOST → Safe r.scenario r.trace
is_safe r scen run few = (every-run r.scenario r.trace scen run few).0

-- where it is an update, its incarnation is that of the running owner
pub is_owners : (r : Run) (e : Entry) (t : List Entry) → Safe r.scenario r.trace → r.trace ≡ e ∷ t → is_update e.act ≡ true → (control t).owner ≡ running_owner e.who e.inc
is_owners r e t safe is update =
    let told : Safe r.scenario (e ∷ t) = subst (λ (u : List Entry). Safe r.scenario u) is safe in
    subst (λ (b : Bool). Where b ((control t).owner ≡ running_owner e.who e.inc)) update told.one_updater.updates.1

-- a choice that was made has added its entry
pub is_made : (old new : Run) (c : Choice) (by : Option ℕ) → Applied old c (Ok tt) new → ((e : Entry) (t : List Entry) → new.trace ≡ e ∷ t → IsUpdateBy t e by)
    → Becomes old c (Ok by) new
is_made old new c by applied told = from (outcome old.scenario old.trace c) refl applied
  where
    from : (made : Result Entry Refused) → outcome old.scenario old.trace c ≡ made → Made old made (Ok tt) new → Becomes old c (Ok by) new
    from (Ok e) is added = (e, is, added.1, told e old.trace (ap (λ (r : Run). r.trace) added.1))
    from (Err why) is added = absurd (let no = added.0 in cc)
