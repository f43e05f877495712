-- The promises on items and units, at each entry of a run.
use Rattle.std.proofs.Common.{Bool, IfSome, List, None, Option, Some, false, refl, subst, sym, true, ◌&&◌, ◌≡◌, ◌∙◌, ℕ}
use Rattle.xrf_base.specs.declared.site.Site.{Site}
use Rattle.xrf_history.specs.Events.{Event}
use Rattle.xrf_history.specs.declared.want.Want.{Want}
use Rattle.xrf_history.specs.Next.{next}
use Rattle.xrf_history.specs.Holding.{is_restarted}
use Rattle.xrf_history.specs.Progress.{is_active}
use Rattle.xrf_trace.specs.Each.{AtSite, OfJob, Where}
use Rattle.xrf_trace.specs.Entries.{inc_at}
use Rattle.xrf_trace.specs.Items.{opened}
use Rattle.xrf_trace.specs.ItemsSeeBook.{ReadsBook}
use Rattle.xrf_trace.specs.UnitsAreItems.{IsAsked, IsOfNoEnded}
use Rattle.xrf_trace.specs.declared.entry.Entry.{Entry}
use Rattle.xrf_trace.specs.Scenario.{Scen, settings}
use Rattle.xrf_trace.specs.declared.entry.Act.{Act}
use Rattle.xrf_trace.specs.declared.entry.Land.{Land}
use Rattle.xrf_trace.specs.Landing.{is_in_full}
use Rattle.xrf_trace.specs.Jobs.{hist}
use Rattle.xrf_trace.specs.Acts.{act_of, is_act}
use Rattle.xrf_trace.proofs.AtSites.{of-job}
use Rattle.xrf_trace.proofs.ByKind.{Kinds, by_kind, is_quiet, made}
use Rattle.xrf_trace.proofs.Steps.{Step}
use Rattle.xrf_log_law.specs.Soundness.{is_sound}
use Rattle.xrf_log_law.specs.Jobs.{SiteStands, Stands}
use Rattle.xrf_log_law.specs.Agreement.{LedgerIs}
use Rattle.xrf_log_law.specs.Serving.{SitesServe, Serves, site_view}
use Rattle.xrf_log_law.specs.State.{view}
use Rattle.xrf_log_law.proofs.AskedLaw.{is-asked, of-no-ended}
use Rattle.xrf_log_law.proofs.BeforeActs.{Before}
use Rattle.xrf_log_law.proofs.TraceLedgers.{joined}
use Rattle.xrf_log_law.proofs.AnswersLaw.{Same, answers-same}
use Rattle.xrf_log_law.proofs.ReadsLaw.{reads-book}
use Rattle.xrf_log_law.proofs.InvariantActs.{before-next}
use Rattle.xrf_trace.specs.Laws.{AnswersAlike}
use Rattle.xrf_log_law.specs.Invariant.{Invariant}
use Rattle.xrf_log_law.proofs.Tests.{where-is}
use Rattle.xrf_base.specs.declared.site.Site.TheVariants as site
use Rattle.xrf_trace.specs.declared.entry.Act.TheVariants as act
use Rattle.xrf_trace.specs.declared.entry.Land.TheVariants as land

-- of an entry
pub record Facts (s : Scen) (t : List Entry) (e : Entry) : Type 0 where
  pub reads : AtSite s t e.who (λ x h. ReadsBook s t x e.act)
  pub asked : AtSite s t e.who (λ x h. IsAsked s t x h e.act)
  pub same : AnswersAlike s t e
  pub once : IsOfNoEnded t e.act e.land

-- of an act of a job
pub record ActFacts (s : Scen) (t : List Entry) (x : Site) (h : List Event) (a : Act) (l : Land) : Type 0 where
  pub reads : ReadsBook s t x a
  pub asked : IsAsked s t x h a
  pub same : Where (is_in_full l) (Same s t x h a)

-- a fact of a job where one is there and a test is met
where-job : (b : Bool) (job : Option (List Event)) (fact : List Event → Type 0) → ((h : List Event) → job ≡ Some h → Where b (fact h))
    → Where b (OfJob job fact)
where-job true job fact holds = of-job job fact holds
where-job false job fact holds = tt

-- what holds of the act and the job of an entry holds of the entry
entry-facts : (s : Scen) (t : List Entry) (x : Site) (i : ℕ) (a : Act) (l : Land) → IsOfNoEnded t a l
    → ((h : List Event) → hist s t x ≡ Some h → ActFacts s t x h a l) → Facts s t (made t x i a l)
entry-facts s t site.A i a l once facts = record {
  reads = of-job (hist s t site.A) (λ h. ReadsBook s t site.A a) (λ h e. (facts h e).reads);
  asked = of-job (hist s t site.A) (λ h. IsAsked s t site.A h a) (λ h e. (facts h e).asked);
  same = where-job (is_in_full l) (hist s t site.A) (λ h. Same s t site.A h a) (λ h e. (facts h e).same);
  once = once;
}
entry-facts s t site.B i a l once facts = record {
  reads = of-job (hist s t site.B) (λ h. ReadsBook s t site.B a) (λ h e. (facts h e).reads);
  asked = of-job (hist s t site.B) (λ h. IsAsked s t site.B h a) (λ h e. (facts h e).asked);
  same = where-job (is_in_full l) (hist s t site.B) (λ h. Same s t site.B h a) (λ h e. (facts h e).same);
  once = once;
}

-- an entry that is no act of a job
no-act : (s : Scen) (t : List Entry) (x : Site) (h : List Event) (a : Act) (l : Land) → is_act a ≡ false → ActFacts s t x h a l
no-act s t x h act.StartActive l none = record { reads = tt; asked = tt; same = where-is (is_in_full l) _ refl }
no-act s t x h act.StartStandby l none = record { reads = tt; asked = tt; same = where-is (is_in_full l) _ refl }
no-act s t x h act.Abend l none = record { reads = tt; asked = tt; same = where-is (is_in_full l) _ refl }
no-act s t x h (act.Reply go) l none = record { reads = tt; asked = tt; same = where-is (is_in_full l) _ refl }
no-act s t x h (act.Cebt command reply) l none = record { reads = tt; asked = tt; same = where-is (is_in_full l) _ refl }
no-act s t x h (act.Exit said) l none = record { reads = tt; asked = tt; same = where-is (is_in_full l) _ refl }
no-act s t x h act.NoAct l none = record { reads = tt; asked = tt; same = where-is (is_in_full l) _ refl }
no-act s t x h act.Tick l none = record { reads = tt; asked = tt; same = where-is (is_in_full l) _ refl }
no-act s t x h (act.Confirm n) l none = record { reads = tt; asked = tt; same = where-is (is_in_full l) _ refl }
no-act s t x h _ l none = absurd (cc)

-- it logs and writes nothing
none-once : (t : List Entry) (a : Act) (l : Land) → is_act a ≡ false → IsOfNoEnded t a l
none-once t (act.LogOpen p rec) l none = absurd (cc)
none-once t (act.FileWrite unit rrn value) l none = absurd (cc)
none-once t _ l none = tt

-- a choice that reaches a job is no act of it
quiet-none : (a : Act) → is_quiet a ≡ true → is_act a ≡ false
quiet-none act.Abend quiet = refl
quiet-none (act.Reply go) quiet = refl
quiet-none (act.Cebt command reply) quiet = refl
quiet-none (act.Exit said) quiet = refl
quiet-none act.NoAct quiet = refl
quiet-none _ quiet = absurd (cc)

-- an act of a job
act-facts : (s : Scen) (t : List Entry) (x : Site) (h : List Event) (l : Land) (w : Want) → Before s t x h w
    → IfSome (act_of s t x h w) (λ a. ActFacts s t x h a l)
act-facts s t x h l w b = over (act_of s t x h w) (reads-book s t x h w b) (is-asked s t x h w b) (answers-same s t x h w b)
  where
    over : (o : Option Act) → IfSome o (ReadsBook s t x) → IfSome o (IsAsked s t x h) → IfSome o (Same s t x h) → IfSome o (λ a. ActFacts s t x h a l)
    over None p q r = tt
    over (Some a) p q r = record { reads = p; asked = q; same = where-is (is_in_full l) _ r }

-- of each kind of entry
fact-kinds : (s : Scen) (t : List Entry) → Invariant s t → Kinds s t (λ e. Facts s t e)
fact-kinds s t k = record {
  tick = record { reads = tt; asked = tt; same = tt; once = tt };
  confirm = λ n. record { reads = tt; asked = tt; same = tt; once = tt };
  acts = λ x h a l job is fits may.
      (let b = before-next s t x h k job in
      let facts : ActFacts s t x h a l = subst (λ (o : Option Act). IfSome o (λ c. ActFacts s t x h c l)) is (act-facts s t x h l (next (settings s x) h) b) in
      let once : IsOfNoEnded t a l = subst (λ (o : Option Act). IfSome o (λ c. IsOfNoEnded t c l)) is (of-no-ended s t x h (next (settings s x) h) l b) in
      entry-facts s t x (inc_at a (Some h)) a l once (λ g e. subst (λ (o : Option (List Event)). OfJob o (λ f. ActFacts s t x f a l)) (sym job ∙ e) facts));
  quiet =
      λ x i a quiet. entry-facts s t x i a land.Full (none-once t a land.Full (quiet-none a quiet))
      (λ h job. no-act s t x h a land.Full (quiet-none a quiet));
  stop = λ x i cut. entry-facts s t x i act.NoAct (land.Stop cut) tt (λ h job. no-act s t x h act.NoAct (land.Stop cut) refl);
  active = λ x. entry-facts s t x 0 act.StartActive land.Full tt (λ h job. no-act s t x h act.StartActive land.Full refl);
  standby = λ x. entry-facts s t x 0 act.StartStandby land.Full tt (λ h job. no-act s t x h act.StartStandby land.Full refl);
}

-- of each entry
pub facts : (s : Scen) (t : List Entry) (e : Entry) → Invariant s t → Step s t e → Facts s t e
facts s t e k step = by_kind s t e (λ e. Facts s t e) step (fact-kinds s t k)

-- the ledger of a job at work
three-true : (a b c : Bool) (P : Type 0) → (a ≡ true → b ≡ true → c ≡ true → P) → Where (a && b && c) P
three-true true true true P all = all refl refl refl
three-true true true false P all = tt
three-true true false c P all = tt
three-true false b c P all = tt

-- the ledger of the trace is the job's
pub ledgers-are : (s : Scen) (t : List Entry) (x : Site) → Stands s t → SitesServe s t → OfJob (hist s t x) (LedgerIs s t x)
ledgers-are s t x stands all = of-job (hist s t x) (LedgerIs s t x) (λ h job. three-true (is_active h) (is_sound h) (is_restarted h) _ (λ there sound working.
    (let here : SiteStands s t x (view s t) h = subst (λ (o : Option (List Event)). IfSome o (SiteStands s t x (view s t))) job (stands.jobs x) in
    let serves : Serves (settings s x) h (site_view s t x) = subst
    (λ (o : Option (List Event)). IfSome o (λ g. Serves (settings s x) g (site_view s t x))) job (all x) in
    let at = serves.2 there sound working in
    joined s t x h (opened s t x) job (here.5 there sound working).0 at.1 at.0)))
