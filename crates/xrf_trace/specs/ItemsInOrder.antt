-- Items in order: items are taken in the order of the list, each once, and each only once the one that its job took before is
-- answered.
use Rattle.std.specs.Prelude.{◌≡◌, ◌+◌, Bool, true, false, ◌&&◌, not, is_some, is_none, List, [], ◌∷◌}
use Rattle.xrf_base.specs.declared.site.Site.{Site}
use Rattle.xrf_trace.specs.declared.entry.Entry.{Entry}
use Rattle.xrf_trace.specs.declared.entry.Act.{Act}
use Rattle.xrf_trace.specs.declared.entry.Act.TheVariants as act
use Rattle.xrf_trace.specs.declared.entry.Land.{Land}
use Rattle.xrf_trace.specs.Scenario.{Scen}
use Rattle.xrf_trace.specs.Landing.{is_stop, is_in_full}
use Rattle.xrf_trace.specs.Words.{is_of, items_taken}
use Rattle.xrf_trace.specs.Items.{answer_by}
use Rattle.xrf_trace.specs.Each.{Each, AtSite}

-- the item that the job of a site took last waits for its answer
abbrev pub waits_after : Scen → List Entry → Site → Act → Land → Bool → Bool
waits_after s t x act.StartActive land before = false
waits_after s t x act.StartStandby land before = false
waits_after s t x (act.Ended reason) land before = false
waits_after s t x (act.Item k) land before = not (is_stop land) && is_none (answer_by s t x (act.Item k))
waits_after s t x a land before = not (is_stop land) && before && not (is_in_full land && is_some (answer_by s t x a))

abbrev pub waits_for_answer : Scen → List Entry → Site → Bool
waits_for_answer s [] x = false
waits_for_answer s (e ∷ t) x =
    elim (is_of e.who x) [ true ↦ waits_after s t x e.act e.land (waits_for_answer s t x) | false ↦ waits_for_answer s t x ]

abbrev pub IsInOrder : Scen → List Entry → Site → Act → Type 0
IsInOrder s t x (act.Item k) = (k ≡ items_taken t x + 1) × (waits_for_answer s t x ≡ false)
IsInOrder s t x _ = Unit {0}

abbrev pub ItemsInOrder : Scen → List Entry → Type 0
ItemsInOrder s t = Each (λ t e. AtSite s t e.who (λ x h. IsInOrder s t x e.act)) t
