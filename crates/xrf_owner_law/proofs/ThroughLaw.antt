-- Through by proof, of every run.
use Rattle.std.proofs.Common.{arith, ◌≡◌, false, refl, true, ℕ, List, Some, subst, ◌&&◌, ◌∷◌, is_some, Bool, ap, ◌∙◌, sym, inl, inr, ◌⊎◌}
use Rattle.std.proofs.lemmas.Grind.{common_steps}
use Rattle.std.proofs.lemmas.Bool.{and_parts}
use Rattle.xrf_base.specs.declared.site.Site.{Site}
use Rattle.xrf_ctl.specs.Control.{ControlRecord, TakingFits}
use Rattle.xrf_ctl.specs.declared.parts.Level.{Level}
use Rattle.xrf_ctl.specs.declared.parts.OwnerState.TheVariants.{Running}
use Rattle.xrf_cavm.specs.declared.known.Known.{Known}
use Rattle.xrf_cavm.specs.Grants.{grant_active}
use Rattle.xrf_cavm.specs.Record.{is_alt}
use Rattle.xrf_history.specs.Reserving.{end_of_grant, granted, Purpose, SignOnActive, end_by_purpose, record_by_purpose, known_read, purpose, record_read, is_through_decision, last_decision, GoThrough}
use Rattle.xrf_history.specs.declared.settings.Settings.{Settings}
use Rattle.xrf_history.specs.Notices.{is_drop}
use Rattle.xrf_history.specs.Events.{Event}
use Rattle.xrf_history.specs.Progress.{has_read, made_since_read}
use Rattle.xrf_history.specs.Next.{next}
use Rattle.xrf_history.specs.Holding.{number, is_granted, is_waiting, starts_active, is_owner}
use Rattle.xrf_history.proofs.Stages.{to_end, to_write}
use Rattle.xrf_history.proofs.Purposes.{IsCalled, Suits, active-of, signs-on}
use Rattle.xrf_history.proofs.Phases.{Phase, before_write}
use Rattle.xrf_history.proofs.Writes.{Wrote}
use Rattle.xrf_history.proofs.Decisions.{is_go, purposed}
use Rattle.xrf_trace.specs.ThroughByProof.{sign_on_sequence, is_sign_on, SignsOn, SignOnWhere, may_come, NamesItself, ThroughOnlyWhere, ThroughByProof, ThroughOverNone, ThroughWhere, WaitsForProof}
use Rattle.xrf_trace.specs.declared.entry.Act.{Act}
use Rattle.xrf_trace.specs.declared.entry.Entry.{Entry}
use Rattle.xrf_trace.specs.Each.{InPlace}
use Rattle.xrf_trace.specs.Runs.{IsRun}
use Rattle.xrf_trace.specs.Scenario.{Scen, settings}
use Rattle.xrf_trace.specs.Acts.{act_of, is_act}
use Rattle.xrf_trace.specs.Jobs.{hist}
use Rattle.xrf_trace.proofs.Paths.{history-at}
use Rattle.xrf_trace.proofs.AtSites.{made-at, where-so, at-site, where-at, each-of}
use Rattle.xrf_trace.specs.Words.{who_at}
use Rattle.xrf_trace.specs.Throughs.{has_taking, changes_owner, is_through}
use Rattle.xrf_trace.specs.Devices.{control}
use Rattle.xrf_trace.specs.Landing.{lands}
use Rattle.xrf_trace.specs.declared.entry.Act.TheVariants as act
use Rattle.xrf_owner_law.proofs.DueActs.{acts_of, acts-due, due-in-place}
use Rattle.xrf_owner_law.proofs.WritesOfRuns.{WritesAt, inc-at, keeps-owner, writes-made, through-over-none}
use Rattle.xrf_owner_law.specs.Waiting.{is_gone}
use Rattle.xrf_owner_law.proofs.RuleLaw.{kept}
use Rattle.xrf_owner_law.proofs.WritesKeep.{own-active, own-through}
use Rattle.xrf_owner_law.proofs.WaitingLaw.{waiting-now}
use Rattle.xrf_owner_law.proofs.ThroughActs.{through-where}
use Rattle.xrf_owner_law.proofs.DecisionLaw.{waits-for-proof}

-- a sign-on as active
sign-on-acts : (x : Site) (level : Level) (c : ControlRecord) (known : Known)
    → acts_of (granted (grant_active c x known level)) (end_of_grant (grant_active c x known level)) ≡ sign_on_sequence x level c known
sign-on-acts x level c known = grind (arith, common_steps)

-- they are those of the purpose
sign-on-in : (p : Settings) (q : Purpose) (n : ℕ) (c : ControlRecord) (known : Known) → is_sign_on q ≡ true
    → (acts_of (record_by_purpose p q n 0 c known) (end_by_purpose p q n c known) ≡ sign_on_sequence p.site p.level c known) × (is_drop q ≡ false)
sign-on-in p SignOnActive n c known is = (sign-on-acts p.site p.level c known, refl)
sign-on-in p _ n c known is = absurd (cc)

-- an act of a sign-on stands in its place
sign-on-act : (s : Scen) (t : List Entry) (e : Entry) (x : Site) (h : List Event) → IsRun s (e ∷ t) → e.who ≡ who_at x → hist s t x ≡ Some h
    → SignsOn s x h e.act
sign-on-act s t e x h is who here =
    let p = settings s x in
    where-so (is_sign_on (purpose h) && has_read h && is_act e.act)
    (InPlace (sign_on_sequence x p.level (record_read h) (known_read h)) (made_since_read h) e.act) (λ holds.
    let parts = and_parts (is_sign_on (purpose h) && has_read h) (is_act e.act) holds in
    let more = and_parts (is_sign_on (purpose h)) (has_read h) parts.0 in
    let made = made-at s t e x h is parts.1 who here in
    let in_it = sign-on-in p (purpose h) (number h) (record_read h) (known_read h) more.0 in
    subst (λ (acts : List Act). InPlace acts (made_since_read h) e.act) in_it.0
    (due-in-place (acts_of (to_write p h) (to_end p h)) (made_since_read h) (act_of s t x h (next p h)) e.act made.made
    (acts-due s t x h (history-at s t x h is.0 here) in_it.1 more.1)))

-- so does each act of a run
pub sign-on-where : (s : Scen) (t : List Entry) (e : Entry) → IsRun s (e ∷ t) → SignOnWhere s t e
sign-on-where s t e is = at-site s t e.who (λ x h. SignsOn s x h e.act) (λ x h who here. sign-on-act s t e x h is who here)

-- it may come
alt-is : (c : ControlRecord) (x : Site) (n : ℕ) → c.alt ≡ Some (record { inc = n; site = x }) → is_alt c n ≡ true
alt-is c x n alt = grind (arith, common_steps)

-- the taking of a record with this alternate is its own
taking-is : (c : ControlRecord) (x : Site) (n : ℕ) → c.alt ≡ Some (record { inc = n; site = x }) → is_some c.taking ≡ true
    → TakingFits c.last c.alt c.taking → has_taking c.taking n ≡ true
taking-is c x n alt taken fits = grind (arith, common_steps)

-- four tests that are met
all-four : (a b c d : Bool) → a ≡ true → b ≡ true → c ≡ true → d ≡ true → (a && b && c && d) ≡ true
all-four a b c d is_a is_b is_c is_d = grind (arith, common_steps)

-- a waiting alternate that decided THROUGH may come
comes-through : (c : ControlRecord) (h : List Event) (x : Site) → is_granted h ≡ true → is_waiting h ≡ true → is_through_decision (last_decision h) ≡ true
    → c.alt ≡ Some (record { inc = number h; site = x }) → is_some c.taking ≡ true → TakingFits c.last c.alt c.taking → may_come c h ≡ true
comes-through c h x granted waiting through alt taken fits =
    ap
    (λ (g : Bool). elim g
    [ false ↦ starts_active h | true ↦ is_waiting h && is_through_decision (last_decision h) && is_alt c (number h) && has_taking c.taking (number h) ]) granted
    ∙ all-four (is_waiting h) (is_through_decision (last_decision h)) (is_alt c (number h)) (has_taking c.taking (number h)) waiting through
    (alt-is c x (number h) alt)
    (taking-is c x (number h) alt taken fits)

-- a job that was started as active, and holds no number, may come
comes-active : (c : ControlRecord) (h : List Event) → is_granted h ≡ false → starts_active h ≡ true → may_come c h ≡ true
comes-active c h fresh active =
    ap
    (λ (g : Bool). elim g [
      | false ↦ starts_active h
      | true ↦ is_waiting h && is_through_decision (last_decision h) && is_alt c (number h) && has_taking c.taking
          (number h)
    ]) fresh ∙ active

-- an owner that is named with the number of the entry
named : (w : ControlRecord) (x : Site) (n m : ℕ) → w.owner ≡ Some (record { inc = n; site = x; state = Running }) → m ≡ n
    → w.owner ≡ Some (record { inc = m; site = x; state = Running })
named w x n m owner same = subst (λ (k : ℕ). w.owner ≡ Some (record { inc = k; site = x; state = Running })) (sym same) owner

-- who becomes owner may come, and names itself
comes-act : (s : Scen) (t : List Entry) (e : Entry) (x : Site) (h : List Event) (a : Act) → IsRun s (e ∷ t) → e.who ≡ who_at x → hist s t x ≡ Some h → e.act ≡ a
    → changes_owner (control t) a ≡ true → (may_come (control t) h ≡ true) × NamesItself e x a
comes-act s t e x h (act.CtlWrite w) is who here acts changes =
    by (keeps-owner p (purpose h) (number h) (control t) w (known_read h) at.written.did changes)
  where
    p : Settings
    p = settings s x

    at : WritesAt s t e x h w
    at = writes-made s t e x h w is.0 (made-at s t e x h is (ap is_act acts) who here) acts

    by : ((purpose h ≡ GoThrough) ⊎ (purpose h ≡ SignOnActive)) → (may_come (control t) h ≡ true) × NamesItself e x (act.CtlWrite w)
    by (inl go) =
        let suits = subst (λ (q : Purpose). Suits q (is_granted h) (is_owner h)) go at.written.suits in
        let did = subst (λ (q : Purpose). Wrote p q (number h) (control t) (known_read h) w) go at.written.did in
        let waiting = (purposed p h at.path (ap before_write at.phase)).1 (ap is_go go) in
        let now = waiting-now s t x h is.0 here waiting (ap (λ (f : Phase). is_gone f (purpose h)) at.phase) in (
          comes-through (control t) h x suits.0 waiting (subst (IsCalled h) go at.called) now.alt now.taking (kept s t is.0).rule.taking,
          named w x (number h) e.inc (own-through p (number h) (control t) w (known_read h) did (at.job.stands.beside suits.0 suits.1)).1
              (inc-at s t e x h w true at acts suits.0),
        )
    by (inr active) =
        let fresh = subst (λ (q : Purpose). Suits q (is_granted h) (is_owner h)) active at.written.suits in
        let did = subst (λ (q : Purpose). Wrote p q (number h) (control t) (known_read h) w) active at.written.did in (
          comes-active (control t) h fresh (active-of (starts_active h) (sym (signs-on p h at.path (ap before_write at.phase) fresh) ∙ active)),
          named w x w.last e.inc (own-active p (number h) (control t) w (known_read h) did).1 (inc-at s t e x h w false at acts fresh),
        )
comes-act s t e x h _ is who here acts changes = absurd (cc)

-- so does each through of a run
pub through-only-where : (s : Scen) (t : List Entry) (e : Entry) → IsRun s (e ∷ t) → ThroughOnlyWhere s t e
through-only-where s t e is =
    where-at s t e (is_through t e) (λ x h. (may_come (control t) h ≡ true) × NamesItself e x e.act) (λ through x h who here.
    comes-act s t e x h e.act is who here refl (and_parts (lands e.land) (changes_owner (control t) e.act) through).1)

-- **through by proof, of every run**
pub through-by-proof : (s : Scen) (t : List Entry) → IsRun s t → ThroughByProof s t
through-by-proof s t is = record {
  waits = each-of s (WaitsForProof s) (waits-for-proof s) t is;
  goes = each-of s (ThroughWhere s) (through-where s) t is;
  only = each-of s (ThroughOnlyWhere s) (through-only-where s) t is;
  signs_on = each-of s (SignOnWhere s) (sign-on-where s) t is;
  over_none = each-of s ThroughOverNone (through-over-none s) t is;
}
