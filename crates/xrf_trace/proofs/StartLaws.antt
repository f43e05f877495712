-- Where decisions are by the record and its news, starts are as written.
use Rattle.std.proofs.Common.{◌≡◌, Bool, true, false, List, [], ◌∷◌, Option, Some, None, ap, ◌∙◌}
use Rattle.xrf_base.specs.declared.site.Site.{Site}
use Rattle.xrf_base.specs.declared.site.Site.TheVariants as site
use Rattle.xrf_cavm.specs.declared.decisions.Decided.{Decided}
use Rattle.xrf_cavm.specs.declared.decisions.Decided.TheVariants.{Alternate}
use Rattle.xrf_history.specs.Events.{Event}
use Rattle.xrf_history.specs.Holding.{is_tracking}
use Rattle.xrf_history.specs.Looking.{record_seen}
use Rattle.xrf_history.specs.Reserving.{start_in}
use Rattle.xrf_history.specs.Causes.{tracking_decision, start_cause}
use Rattle.xrf_history.proofs.TrackingDecisions.{starts-by}
use Rattle.xrf_trace.specs.declared.entry.Entry.{Entry}
use Rattle.xrf_trace.specs.declared.entry.Act.{Act}
use Rattle.xrf_trace.specs.declared.entry.Act.TheVariants as act
use Rattle.xrf_trace.specs.declared.entry.Who.{Who}
use Rattle.xrf_trace.specs.declared.entry.Who.TheVariants as who
use Rattle.xrf_trace.specs.Scenario.{Scen, settings}
use Rattle.xrf_trace.specs.Jobs.{hist}
use Rattle.xrf_trace.specs.Each.{Each, Where, OfJob, AtSite}
use Rattle.xrf_trace.specs.StartByCause.{DecidesSo, DecidesByCause}
use Rattle.xrf_trace.specs.StartsAsWritten.{StartsBy, StartsAsWritten}
use Rattle.xrf_trace.specs.Laws.{StartsAreWritten}

-- what follows of the job at a site
job-follows : (job : Option (List Event)) (P Q : List Event → Type 0) → ((h : List Event) → P h → Q h) → OfJob job P → OfJob job Q
job-follows None P Q follows holds = tt
job-follows (Some h) P Q follows holds = follows h holds

site-follows : (s : Scen) (t : List Entry) (w : Who) (P Q : Site → List Event → Type 0) → ((x : Site) (h : List Event) → P x h → Q x h) → AtSite s t w P
    → AtSite s t w Q
site-follows s t who.A P Q follows holds = job-follows (hist s t site.A) (P site.A) (Q site.A) (follows site.A) holds
site-follows s t who.B P Q follows holds = job-follows (hist s t site.B) (P site.B) (Q site.B) (follows site.B) holds
site-follows s t who.Env P Q follows holds = tt

-- what follows where a test is met
where-follows : (b : Bool) (P Q : Type 0) → (P → Q) → Where b P → Where b Q
where-follows true P Q follows holds = follows holds
where-follows false P Q follows holds = tt

-- a DECIDE of a tracking alternate
decide-starts : (s : Scen) (e : Entry) (x : Site) (h : List Event) (a : Act)
    → DecidesSo (is_tracking h) (Alternate (tracking_decision (settings s x) h e.tick (record_seen h))) a → StartsBy s e x h a
decide-starts s e x h (act.Decide made) decides =
    where-follows (is_tracking h) (made ≡ Alternate (tracking_decision (settings s x) h e.tick (record_seen h)))
    (start_in (Some made) ≡ start_cause (settings s x) h e.tick (record_seen h))
    (λ is. ap (λ (d : Decided). start_in (Some d)) is ∙ starts-by (settings s x) h e.tick (record_seen h)) decides
decide-starts s e x h _ decides = tt

all-start : (s : Scen) (t : List Entry) → Each (DecidesByCause s) t → StartsAsWritten s t
all-start s [] decides = tt
all-start s (e ∷ t) decides = (
  all-start s t decides.0,
  site-follows s t e.who (λ x h. DecidesSo (is_tracking h) (Alternate (tracking_decision (settings s x) h e.tick (record_seen h))) e.act)
      (λ x h. StartsBy s e x h e.act) (λ x h. decide-starts s e x h e.act) decides.1,
)

-- **starts are as written where they are by their cause**
pub starts-are-written : StartsAreWritten
starts-are-written s t by_cause = all-start s t by_cause.decides
