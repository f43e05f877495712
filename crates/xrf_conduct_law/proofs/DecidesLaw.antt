-- In every run each DECIDE of an owner is by its record, its epoch and its last change.
use Rattle.std.proofs.Common.{◌≡◌, ℕ, Bool, true, false, List, ◌∷◌, ◌∙◌, Option, Some, refl, ap, arith}
use Rattle.std.proofs.lemmas.Grind.{common_steps}
use Rattle.xrf_base.specs.declared.site.Site.{Site}
use Rattle.xrf_cavm.specs.declared.decisions.Decided.{Decided}
use Rattle.xrf_cavm.specs.declared.decisions.Decided.TheVariants as decided
use Rattle.xrf_cavm.specs.declared.known.Known.{Known}
use Rattle.xrf_cavm.specs.Decisions.{decide_active}
use Rattle.xrf_history.specs.declared.settings.Settings.{Settings}
use Rattle.xrf_history.specs.Events.{Event}
use Rattle.xrf_history.specs.Holding.{is_owner}
use Rattle.xrf_history.specs.Looking.{record_seen, change}
use Rattle.xrf_history.specs.Notices.{epoch}
use Rattle.xrf_history.specs.Deciding.{cause}
use Rattle.xrf_trace.specs.declared.entry.Entry.{Entry}
use Rattle.xrf_trace.specs.declared.entry.Act.{Act}
use Rattle.xrf_trace.specs.declared.entry.Act.TheVariants as act
use Rattle.xrf_trace.specs.Scenario.{Scen, settings}
use Rattle.xrf_trace.specs.Words.{who_at}
use Rattle.xrf_trace.specs.Jobs.{hist, known_of}
use Rattle.xrf_trace.specs.Runs.{IsRun}
use Rattle.xrf_trace.specs.Each.{AtSite}
use Rattle.xrf_trace.proofs.AtSites.{decision-of, where-so, at-site, each-of}
use Rattle.xrf_trace.specs.StartByCause.{DecidesSo}
use Rattle.xrf_trace.specs.OwnersDecide.{DecidesAsOwner, OwnersDecide}

-- what an owner decides
abbrev decided_by : Settings → List Event → ℕ → Decided
decided_by p h at = decided.Owner (decide_active (change h) (record_seen h) (epoch h) p.pdi at)

owner-by : (p : Settings) (h : List Event) (known : Known) (at : ℕ) → is_owner h ≡ true → cause p h known at ≡ decided_by p h at
owner-by p h known at owner = grind (arith, common_steps)

-- a DECIDE of an owner
decides-act : (s : Scen) (t : List Entry) (e : Entry) (x : Site) (h : List Event) (a : Act) → IsRun s (e ∷ t) → e.who ≡ who_at x → hist s t x ≡ Some h
    → e.act ≡ a → DecidesSo (is_owner h) (decided_by (settings s x) h e.tick) a
decides-act s t e x h (act.Decide d) is who here acts =
    where-so (is_owner h) (d ≡ decided_by (settings s x) h e.tick) (λ owner.
    decision-of s t e x h d is who here acts ∙ owner-by (settings s x) h (known_of t (record_seen h)) e.tick owner)
decides-act s t e x h _ is who here acts = tt

-- **owners decide so, in every run**
pub owners-decide : (s : Scen) (t : List Entry) → IsRun s t → OwnersDecide s t
owners-decide s t is =
    each-of s (DecidesAsOwner s)
    (λ t e is. at-site s t e.who (λ x h. DecidesSo (is_owner h) (decided_by (settings s x) h e.tick) e.act) (λ x h who here. decides-act s t e x h e.act is who here refl)) t is
