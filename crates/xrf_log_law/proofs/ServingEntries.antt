-- A job and what the trace says of its site, over whole runs.
use Rattle.std.proofs.Common.{IfSome, List, None, Option, Some, false, refl, subst, sym, true, ◌∷◌, ◌≡◌, ℕ}
use Rattle.xrf_base.specs.declared.site.Site.{Site}
use Rattle.xrf_setup.specs.declared.choice.Landing.{Landing}
use Rattle.xrf_history.specs.Events.{Event, ActFailed}
use Rattle.xrf_history.specs.declared.want.Want.{Want}
use Rattle.xrf_history.specs.Next.{next}
use Rattle.xrf_trace.specs.declared.entry.Act.{Act}
use Rattle.xrf_trace.specs.declared.entry.Entry.{Entry}
use Rattle.xrf_trace.specs.declared.entry.Land.{Land}
use Rattle.xrf_trace.specs.Scenario.{Scen, other, settings}
use Rattle.xrf_trace.specs.Jobs.{after_other, handed, hist}
use Rattle.xrf_trace.specs.Words.{now}
use Rattle.xrf_trace.specs.Acts.{act_of, is_signal, may_fail}
use Rattle.xrf_trace.proofs.ByKind.{Kinds, MayLand, is_quiet, made}
use Rattle.xrf_trace.proofs.JobSteps.{is-own}
use Rattle.xrf_trace.specs.Entries.{entry, inc_at}
use Rattle.xrf_log_law.specs.Serving.{SitesServe, Serves, site_after, site_view}
use Rattle.xrf_log_law.proofs.BeforeActs.{Before}
use Rattle.xrf_log_law.proofs.JobActs.{of-item}
use Rattle.xrf_log_law.proofs.ServingActs.{Served, served-after}
use Rattle.xrf_log_law.proofs.SitesAfter.{UnlessGone, OwnAfter, fail-after, full-after, own-other, quiet-after, quiet-other, tick-after}
use Rattle.xrf_log_law.proofs.InvariantActs.{before-next, unsound}
use Rattle.xrf_log_law.specs.Invariant.{Invariant}
use Rattle.xrf_log_law.proofs.Tests.{and-left, false-true}
use Rattle.xrf_base.specs.declared.site.Site.TheVariants as site
use Rattle.xrf_setup.specs.declared.choice.Choice.TheVariants as choice
use Rattle.xrf_history.specs.declared.want.Want.TheVariants as want
use Rattle.xrf_trace.specs.declared.entry.Act.TheVariants as act
use Rattle.xrf_trace.specs.declared.entry.Land.TheVariants as land

-- of the job of a site, after an act there
abbrev OwnServes : Scen → List Entry → Site → Option (List Event) → Land → Act → Type 0
OwnServes s t x job l a = OwnAfter s t x a l job (λ g. Serves (settings s x) g (site_after s t x a l))

-- an act that fails
abbrev FailServes : Scen → List Entry → Site → List Event → Landing → Want → Act → Type 0
FailServes s t x h cut w a = may_fail a ≡ true → Serves (settings s x) (ActFailed w (now t) ∷ h) (site_after s t x a (land.Fail cut))

-- after a failure
fail-serves : (s : Scen) (t : List Entry) (x : Site) (h : List Event) (cut : Landing) (w : Want) → Serves (settings s x) h (site_view s t x)
    → IfSome (act_of s t x h w) (FailServes s t x h cut w)
fail-serves s t x h cut want.Nothing k = tt
fail-serves s t x h cut (want.Exit told) k = tt
fail-serves s t x h cut want.Item k = of-item s t x (FailServes s t x h cut want.Item) (λ fails. false-true fails)
fail-serves s t x h cut (want.MsgRead n) k = λ fails. (k.0, k.1, λ there sound working. k.2 there (and-left _ _ sound) working, λ none. tt)
fail-serves s t x h cut (want.MsgClose n) k = λ fails. (k.0, k.1, λ there sound working. k.2 there (and-left _ _ sound) working, λ none. tt)
fail-serves s t x h cut (want.MsgBody n message) k = λ fails. (k.0, k.1, λ there sound working. k.2 there (and-left _ _ sound) working, λ none. tt)
fail-serves s t x h cut (want.MsgOpen n message) k = λ fails. (k.0, k.1, λ there sound working. k.2 there (and-left _ _ sound) working, λ none. tt)
fail-serves s t x h cut _ k = λ fails. (k.0, k.1, λ there sound. unsound h false there refl sound, λ none. tt)

-- a signal that is lost
abbrev LostServes : Scen → List Entry → Site → List Event → Act → Type 0
LostServes s t x h a = is_signal a ≡ true → UnlessGone a (Serves (settings s x) (handed s t x (now t) h a ∷ h) (site_after s t x a land.Lost))

-- after a signal that is lost
lost-serves : (s : Scen) (t : List Entry) (x : Site) (h : List Event) (w : Want) → IfSome (act_of s t x h w) (Served s t x h)
    → IfSome (act_of s t x h w) (LostServes s t x h)
lost-serves s t x h (want.Signal1 signal) serves = λ e. serves
lost-serves s t x h (want.Signal2 signal) serves = λ e. serves
lost-serves s t x h want.Nothing serves = tt
lost-serves s t x h (want.Exit told) serves = tt
lost-serves s t x h want.Item serves = of-item s t x (LostServes s t x h) (λ e. false-true e)
lost-serves s t x h _ serves = λ e. false-true e

-- by how it lands
own-serves : (s : Scen) (t : List Entry) (x : Site) (h : List Event) (a : Act) (l : Land) → act_of s t x h (next (settings s x) h) ≡ Some a → MayLand l a
    → Before s t x h (next (settings s x) h) → OwnServes s t x (Some h) l a
own-serves s t x h a land.Full is may b =
    full-after s t x h a (λ g. Serves (settings s x) g (site_after s t x a land.Full)) (is-own s t x h (next (settings s x) h) a is)
    (subst (λ (o : Option Act). IfSome o (Served s t x h)) is (served-after s t x h (next (settings s x) h) b))
own-serves s t x h a land.Lost is may b =
    full-after s t x h a (λ g. Serves (settings s x) g (site_after s t x a land.Lost)) (is-own s t x h (next (settings s x) h) a is)
    (subst (λ (o : Option Act). IfSome o (LostServes s t x h)) is
    (lost-serves s t x h (next (settings s x) h) (served-after s t x h (next (settings s x) h) b)) may)
own-serves s t x h a (land.Stop cut) is may b = tt
own-serves s t x h a (land.Fail cut) is may b =
    fail-after s t x h a cut (λ g. Serves (settings s x) g (site_after s t x a (land.Fail cut))) is may
    (subst (λ (o : Option Act). IfSome o (FailServes s t x h cut (next (settings s x) h))) is (fail-serves s t x h cut (next (settings s x) h) b.serves) may)

-- both sites
abbrev SiteServes : Scen → List Entry → Site → Option (List Event) → Type 0
SiteServes s t x job = IfSome job (λ h. Serves (settings s x) h (site_view s t x))

-- at both sites
sites-serve : (s : Scen) (t : List Entry) (x : Site) (i : ℕ) (a : Act) (l : Land) → OwnServes s t x (hist s t x) l a
    → after_other a (hist s t (other x)) ≡ hist s t (other x) → SitesServe s t → SitesServe s (made t x i a l ∷ t)
sites-serve s t site.A i a l own same before site.A = own
sites-serve s t site.A i a l own same before site.B = subst (SiteServes s t site.B) (sym same) (before site.B)
sites-serve s t site.B i a l own same before site.B = own
sites-serve s t site.B i a l own same before site.A = subst (SiteServes s t site.A) (sym same) (before site.A)

-- what only reaches a job
quiet-serves : (s : Scen) (t : List Entry) (x : Site) (a : Act) (job : Option (List Event)) → is_quiet a ≡ true → SiteServes s t x job
    → IfSome job (λ h. Serves (settings s x) (handed s t x (now t) h a ∷ h) (site_after s t x a land.Full))
quiet-serves s t x a None quiet serves = tt
quiet-serves s t x act.Abend (Some h) quiet serves = serves
quiet-serves s t x (act.Reply go) (Some h) quiet serves = serves
quiet-serves s t x (act.Cebt command reply) (Some h) quiet serves = serves
quiet-serves s t x (act.Exit said) (Some h) quiet serves = serves
quiet-serves s t x act.NoAct (Some h) quiet serves = serves
quiet-serves s t x _ (Some h) quiet serves = absurd (cc)

-- each entry keeps it
pub serve-kinds : (s : Scen) (t : List Entry) → Invariant s t → Kinds s t (λ e. SitesServe s (e ∷ t))
serve-kinds s t k = record {
  tick = tick k.serves;
  confirm = λ n. confirm n k.serves;
  acts = λ x h a l job is fits may.
      sites-serve s t x (inc_at a (Some h)) a l
      (subst (λ (o : Option (List Event)). OwnServes s t x o l a) (sym job) (own-serves s t x h a l is may (before-next s t x h k job)))
      (own-other s t x h a (hist s t (other x)) is) k.serves;
  quiet = λ x i a quiet.
      sites-serve s t x i a land.Full
      (quiet-after s t x a (hist s t x) (λ g. Serves (settings s x) g (site_after s t x a land.Full)) quiet
      (quiet-serves s t x a (hist s t x) quiet (k.serves x)))
      (quiet-other a (hist s t (other x)) quiet) k.serves;
  stop = λ x i cut. sites-serve s t x i act.NoAct (land.Stop cut) tt refl k.serves;
  active = λ x. sites-serve s t x 0 act.StartActive land.Full (tt, λ e. (refl, refl), λ there. false-true there, λ e. false-true (sym e)) refl k.serves;
  standby = λ x. sites-serve s t x 0 act.StartStandby land.Full (tt, λ e. (refl, refl), λ there. false-true there, λ e. false-true (sym e)) refl k.serves;
}
  where
    tick : SitesServe s t → SitesServe s (entry s t choice.Tick ∷ t)
    tick all site.A = tick-after (hist s t site.A) (λ h. Serves (settings s site.A) h (site_view s t site.A)) (all site.A)
    tick all site.B = tick-after (hist s t site.B) (λ h. Serves (settings s site.B) h (site_view s t site.B)) (all site.B)

    confirm : (n : ℕ) → SitesServe s t → SitesServe s (entry s t (choice.Confirm n) ∷ t)
    confirm n all site.A = all site.A
    confirm n all site.B = all site.B
