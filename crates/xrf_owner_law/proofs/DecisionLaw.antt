-- What an alternate decides, and that items are taken once their job is restarted, of every run.
use Rattle.std.proofs.Common.{List, Some, ap, true, ◌≡◌, ◌∷◌, ◌∙◌, refl, arith, ℕ, Bool, Option}
use Rattle.std.proofs.lemmas.Grind.{common_steps}
use Rattle.xrf_base.specs.declared.site.Site.{Site}
use Rattle.xrf_ctl.specs.Control.{ControlRecord}
use Rattle.xrf_ctl.specs.declared.parts.Owner.{Owner}
use Rattle.xrf_cavm.specs.declared.decisions.Decided.{Decided}
use Rattle.xrf_cavm.specs.declared.known.Known.{Known}
use Rattle.xrf_cavm.specs.Decisions.{decide_waiting}
use Rattle.xrf_cavm.specs.Record.{inc_of_owner}
use Rattle.xrf_cavm.specs.declared.decisions.Decided.TheVariants as decided
use Rattle.xrf_history.specs.Events.{Event}
use Rattle.xrf_history.proofs.TrackingDecisions.{decides-tracking, starts-by}
use Rattle.xrf_history.specs.Holding.{is_tracking, is_waiting}
use Rattle.xrf_history.specs.Next.{next}
use Rattle.xrf_history.specs.Looking.{record_seen}
use Rattle.xrf_history.specs.Causes.{tracking_decision, start_cause}
use Rattle.xrf_history.specs.Reserving.{start_in}
use Rattle.xrf_history.proofs.ItemsTaken.{item-restarted}
use Rattle.xrf_history.specs.declared.settings.Settings.{Settings}
use Rattle.xrf_history.specs.Deciding.{cause}
use Rattle.xrf_trace.specs.declared.entry.Entry.{Entry}
use Rattle.xrf_trace.specs.Runs.{IsRun}
use Rattle.xrf_trace.specs.Scenario.{Scen, settings}
use Rattle.xrf_trace.proofs.TraceActs.{decides-want, tells}
use Rattle.xrf_trace.proofs.AtSites.{decision-of, made-at, where-so, at-site, each-of}
use Rattle.xrf_trace.specs.Jobs.{hist, known_of}
use Rattle.xrf_trace.proofs.Paths.{history-at}
use Rattle.xrf_trace.specs.Acts.{is_act}
use Rattle.xrf_trace.specs.Words.{who_at, confirmed}
use Rattle.xrf_trace.specs.declared.entry.Act.{Act}
use Rattle.xrf_trace.specs.StartByCause.{DecidesSo, DecidesByCause}
use Rattle.xrf_trace.specs.StartsAsWritten.{StartsBy, StartsAsWritten}
use Rattle.xrf_trace.specs.Each.{AtSite}
use Rattle.xrf_trace.specs.ItemsSeeBook.{TakesRestarted}
use Rattle.xrf_trace.specs.ThroughByProof.{may_run, through_or_wait, DecidesThrough, WaitsForProof}
use Rattle.xrf_trace.specs.declared.entry.Act.TheVariants as act
use Rattle.xrf_owner_law.specs.Laws.{ItemsWait}

-- a DECIDE of a tracking alternate is as the words of news say
tracks-by : (s : Scen) (t : List Entry) (e : Entry) (x : Site) (h : List Event) (d : Decided) → IsRun s (e ∷ t) → e.who ≡ who_at x → hist s t x ≡ Some h
    → e.act ≡ act.Decide d → is_tracking h ≡ true → d ≡ decided.Alternate (tracking_decision (settings s x) h e.tick (record_seen h))
tracks-by s t e x h d is who here acts tracking =
    let p = settings s x in
    let found = made-at s t e x h is (ap is_act acts) who here in
    let comes = (decides-want s t x h (next p h) d (found.made ∙ ap (λ a. Some a) acts)).0 in
    decision-of s t e x h d is who here acts ∙ decides-tracking p h (known_of t (record_seen h)) e.tick (history-at s t x h is.0 here) comes tracking

-- a DECIDE of a tracking alternate
decides-act : (s : Scen) (t : List Entry) (e : Entry) (x : Site) (h : List Event) (a : Act) → IsRun s (e ∷ t) → e.who ≡ who_at x → hist s t x ≡ Some h
    → e.act ≡ a → DecidesSo (is_tracking h) (decided.Alternate (tracking_decision (settings s x) h e.tick (record_seen h))) a
decides-act s t e x h (act.Decide d) is who here acts =
    where-so (is_tracking h) (d ≡ decided.Alternate (tracking_decision (settings s x) h e.tick (record_seen h))) (tracks-by s t e x h d is who here acts)
decides-act s t e x h _ is who here acts = tt

-- each DECIDE of a tracking alternate is as the words of news say
pub decides-by-cause : (s : Scen) (t : List Entry) (e : Entry) → IsRun s (e ∷ t) → DecidesByCause s t e
decides-by-cause s t e is =
    at-site s t e.who (λ x h. DecidesSo (is_tracking h) (decided.Alternate (tracking_decision (settings s x) h e.tick (record_seen h))) e.act)
    (λ x h who here. decides-act s t e x h e.act is who here refl)

-- so it is a START exactly where the cause of one stands, and by it
starts-act : (s : Scen) (t : List Entry) (e : Entry) (x : Site) (h : List Event) (a : Act) → IsRun s (e ∷ t) → e.who ≡ who_at x → hist s t x ≡ Some h
    → e.act ≡ a → StartsBy s e x h a
starts-act s t e x h (act.Decide d) is who here acts =
    where-so (is_tracking h) (start_in (Some d) ≡ start_cause (settings s x) h e.tick (record_seen h)) (λ tracking.
    ap (λ (one : Decided). start_in (Some one)) (tracks-by s t e x h d is who here acts tracking) ∙ starts-by (settings s x) h e.tick (record_seen h))
starts-act s t e x h _ is who here acts = tt

-- **each START is by its cause, and where a cause stands it is a START, of every run**
pub starts-as-written : (s : Scen) (t : List Entry) → IsRun s t → StartsAsWritten s t
starts-as-written s t is =
    each-of s (λ t e. AtSite s t e.who (λ x h. StartsBy s e x h e.act))
    (λ t e is. at-site s t e.who (λ x h. StartsBy s e x h e.act) (λ x h who here. starts-act s t e x h e.act is who here refl)) t is

-- an item is taken only once its job is restarted
takes-act : (s : Scen) (t : List Entry) (e : Entry) (x : Site) (h : List Event) (a : Act) → IsRun s (e ∷ t) → e.who ≡ who_at x → hist s t x ≡ Some h
    → e.act ≡ a → TakesRestarted h a
takes-act s t e x h (act.Item k) is who here acts =
    let made = made-at s t e x h is (ap is_act acts) who here in
    item-restarted (settings s x) h (tells s t x h (next (settings s x) h) (act.Item k) (made.made ∙ ap (λ a. Some a) acts))
takes-act s t e x h _ is who here acts = tt

-- **an item is taken only once its job is restarted, of every run**
pub items-wait : (s : Scen) (t : List Entry) → IsRun s t → ItemsWait s t
items-wait s t is =
    each-of s (λ t e. AtSite s t e.who (λ x h. TakesRestarted h e.act))
    (λ t e is. at-site s t e.who (λ x h. TakesRestarted h e.act) (λ x h who here. takes-act s t e x h e.act is who here refl)) t is

-- a waiting alternate
waits-by : (p : Settings) (h : List Event) (known : Known) (at : ℕ) → is_waiting h ≡ true
    → cause p h known at ≡ decided.Waiting (decide_waiting (record_seen h) known)
waits-by p h known at waiting = grind (arith, common_steps)

-- a waiting alternate decides THROUGH where the owner that it looked at may not run
through-proof : (t : List Entry) (r : ControlRecord) → decided.Waiting (decide_waiting r (known_of t r)) ≡ through_or_wait (may_run t r)
through-proof t r = by r.owner (confirmed t (inc_of_owner r.owner)) refl
  where
    by : (o : Option Owner) (k : Bool) → r.owner ≡ o → decided.Waiting (decide_waiting r (known_of t r)) ≡ through_or_wait (may_run t r)
    by o k is = grind (arith, common_steps)

-- a DECIDE of a waiting alternate
waits-act : (s : Scen) (t : List Entry) (e : Entry) (x : Site) (h : List Event) (a : Act) → IsRun s (e ∷ t) → e.who ≡ who_at x → hist s t x ≡ Some h → e.act ≡ a
    → DecidesSo (is_waiting h) (through_or_wait (may_run t (record_seen h))) a
waits-act s t e x h (act.Decide d) is who here acts =
    where-so (is_waiting h) (d ≡ through_or_wait (may_run t (record_seen h))) (λ waiting.
    decision-of s t e x h d is who here acts ∙ waits-by (settings s x) h (known_of t (record_seen h)) e.tick waiting ∙ through-proof t (record_seen h))
waits-act s t e x h _ is who here acts = tt

-- each DECIDE of a waiting alternate is so
pub waits-for-proof : (s : Scen) (t : List Entry) (e : Entry) → IsRun s (e ∷ t) → WaitsForProof s t e
waits-for-proof s t e is = at-site s t e.who (λ x h. DecidesThrough t e h) (λ x h who here. waits-act s t e x h e.act is who here refl)
