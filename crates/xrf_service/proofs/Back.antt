-- Service is back: what the headline says of the restart that comes.
use Rattle.std.proofs.Common.{◌≡◌, ℕ, ◌+◌, ◌==◌, ◌&&◌, ◌||◌, Bool, true, false, is_some, List, [], ◌∷◌, ◌++◌, Option, Some, None, refl, ap, subst}
use Rattle.xrf_base.specs.declared.site.Site.{Site}
use Rattle.xrf_base.specs.declared.site.Site.TheVariants as site
use Rattle.xrf_history.specs.Events.{Event}
use Rattle.xrf_history.specs.Holding.{number}
use Rattle.xrf_trace.specs.declared.entry.Entry.{Entry}
use Rattle.xrf_trace.specs.declared.entry.Act.{Act}
use Rattle.xrf_trace.specs.declared.entry.Act.TheVariants as act
use Rattle.xrf_trace.specs.declared.entry.Who.{Who}
use Rattle.xrf_trace.specs.declared.entry.Who.TheVariants as who
use Rattle.xrf_trace.specs.Scenario.{Scen}
use Rattle.xrf_trace.specs.Words.{is_of}
use Rattle.xrf_trace.specs.Devices.{control}
use Rattle.xrf_trace.specs.Jobs.{hist}
use Rattle.xrf_trace.specs.Each.{Each, Where, OfJob, AtSite}
use Rattle.xrf_trace.specs.FileIsBook.{RestartsAtBook, is_restart}
use Rattle.xrf_trace.specs.TableIsTracked.{RestartsTracked, IsTracked}
use Rattle.xrf_trace.specs.TerminalsAreTold.{TakesOver}
use Rattle.xrf_trace.specs.JobsAct.{IsOfSite, IsBy, starts_job}
use Rattle.xrf_progress.specs.Serving.{is_restart_of, has_restart}
use Rattle.xrf_progress.specs.InPlace.{start_of}
use Rattle.xrf_progress.proofs.Coming.{takeovers-come, takeovers-end}
use Rattle.xrf_progress.proofs.Starts.{starts-are-at-once}
use Rattle.xrf_laws.proofs.EveryRun.{every-run}
use Rattle.xrf_service.specs.Service.{BringsBack, IsBack, RestartsBringBack, TakeoversBringBack, TakeoversBringBackBy, StartsBringBack}

-- a fact where its test is met
is-where : (b : Bool) (fact : Type 0) → b ≡ true → Where b fact → fact
is-where true fact is at = at
is-where false fact is at = absurd (cc)

-- a fact of the job that is there
of-job : (o : Option (List Event)) (fact : List Event → Type 0) (h : List Event) → o ≡ Some h → OfJob o fact → fact h
of-job o fact h there at = subst (λ o. OfJob o fact) there at

-- a fact of the site of an entry
of-site : (s : Scen) (t : List Entry) (w : Who) (x : Site) (fact : Site → List Event → Type 0) → is_of w x ≡ true → AtSite s t w fact → OfJob (hist s t x) (fact x)
of-site s t who.A site.A fact is at = at
of-site s t who.B site.B fact is at = at
of-site s t who.A site.B fact is at = absurd (cc)
of-site s t who.B site.A fact is at = absurd (cc)
of-site s t who.Env x fact is at = absurd (cc)

-- a restart is no START
starts-none : (a : Act) → is_restart a ≡ true → starts_job a ≡ false
starts-none act.Restarted is = refl
starts-none act.StartActive is = absurd (cc)
starts-none act.StartStandby is = absurd (cc)
starts-none _ is = refl

-- the job of an entry that is a restart is there
is-there : (o : Option (List Event)) (e : Entry) (a : Act) → is_restart a ≡ true → IsBy (starts_job a) o e → is_some o ≡ true
is-there o e a is by = (subst (λ starts. IsBy starts o e) (starts-none a is) by).0

of-restart : (s : Scen) (t : List Entry) (e : Entry) (w : Who) (x : Site) → is_of w x ≡ true → is_restart e.act ≡ true → IsOfSite s t e w → is_some (hist s t x) ≡ true
of-restart s t e who.A site.A is restarts at = is-there (hist s t site.A) e e.act restarts at
of-restart s t e who.B site.B is restarts at = is-there (hist s t site.B) e e.act restarts at
of-restart s t e who.A site.B is restarts at = absurd (cc)
of-restart s t e who.B site.A is restarts at = absurd (cc)
of-restart s t e who.Env x is restarts at = absurd (cc)

-- a restart brings service back
brings-back : (s : Scen) (t : List Entry) (e : Entry) (x : Site) (n : ℕ) → is_restart_of x n e ≡ true → RestartsAtBook s t e → RestartsTracked s t e
    → Where (is_restart e.act) (AtSite s t e.who (TakesOver s t e)) → IsOfSite s t e e.who → BringsBack s t e x n
brings-back s t e x n declares book tracked over job = by (is_of e.who x) (is_restart e.act) refl refl declares
  where
    there : (own : is_of e.who x ≡ true) (restarts : is_restart e.act ≡ true) (o : Option (List Event)) → hist s t x ≡ o → is_some o ≡ true → BringsBack s t e x n
    there own restarts (Some h) here some =
        let at-book = is-where (is_restart e.act) _ restarts book in
        let at-table = of-site s t e.who x (IsTracked s t e) own (is-where (is_restart e.act) _ restarts tracked) in
        let at-sender = of-site s t e.who x (TakesOver s t e) own (is-where (is_restart e.act) _ restarts over) in
        record {
          declares = declares;
          history = h;
          there = here;
          file = at-book.0;
          ended = at-book.1;
          terminals = of-job (hist s t x) (IsTracked s t e x) h here at-table;
          sender = of-job (hist s t x) (TakesOver s t e x) h here at-sender;
        }
    there own restarts None here some = absurd (cc)

    by : (own restarts : Bool) → is_of e.who x ≡ own → is_restart e.act ≡ restarts → (own && restarts && e.inc == n) ≡ true → BringsBack s t e x n
    by true true own restarts is = there own restarts (hist s t x) refl (of-restart s t e e.who x own restarts job)
    by true false own restarts is = absurd (cc)
    by false restart own restarts is = absurd (cc)

-- so it does where a part has it
part-brings : (s : Scen) (t part : List Entry) (x : Site) (n : ℕ) → Each (RestartsAtBook s) (part ++ t) → Each (RestartsTracked s) (part ++ t)
    → Each (λ t e. Where (is_restart e.act) (AtSite s t e.who (TakesOver s t e))) (part ++ t) → Each (λ t e. IsOfSite s t e e.who) (part ++ t)
    → has_restart x n part ≡ true → IsBack s t part x n
part-brings s t [] x n book tracked over jobs has = absurd (cc)
part-brings s t (e ∷ part) x n book tracked over jobs has = by (is_restart_of x n e) refl has (part-brings s t part x n book.0 tracked.0 over.0 jobs.0)
  where
    further : IsBack s t part x n → IsBack s t (e ∷ part) x n
    further back =
        record { later = e ∷ back.later; entry = back.entry; earlier = back.earlier; parted = ap (λ part. e ∷ part) back.parted; brings = back.brings }

    by : (here : Bool) → is_restart_of x n e ≡ here → (here || has_restart x n part) ≡ true → (has_restart x n part ≡ true → IsBack s t part x n)
        → IsBack s t (e ∷ part) x n
    by true here has rest =
        record { later = []; entry = e; earlier = part; parted = refl; brings = brings-back s (part ++ t) e x n here book.1 tracked.1 over.1 jobs.1 }
    by false here has rest = further (rest has)

-- of every run
pub restarts-bring-back : RestartsBringBack
restarts-bring-back s t part x n ends has =
    let all = every-run s (part ++ t) ends.0 ends.1 ends.2 in
    part-brings s t part x n all.0.file_is_book all.0.table_is_tracked all.1.terminals_are_told.takeovers all.1.jobs_act.jobs has

-- and each that progress says comes
pub takeovers-bring-back : TakeoversBringBack
takeovers-bring-back s t part x h ends can over served late =
    restarts-bring-back s t part x (number h) ends (takeovers-come s t part x h ends.1 can over served late)

pub takeovers-bring-back-by : TakeoversBringBackBy
takeovers-bring-back-by s t part x h ends can over served many =
    restarts-bring-back s t part x (number h) ends (takeovers-end s t part x h ends.0 ends.1 can over served many)

pub starts-bring-back : StartsBringBack
starts-bring-back s t part x ends may served late =
    restarts-bring-back s (start_of s t x ∷ t) part x ((control t).last + 1) ends (starts-are-at-once s t part x ends.1 may served late)
