-- What each move keeps of the record and both jobs.
use Rattle.std.proofs.Common.{None, Option, Some, sym, Bool, IfSome, subst, ℕ, true, ◌≡◌, ◌∙◌, false, refl, ap, arith, is_some, ◌≢◌, ◌+◌, ◌==◌, ◌||◌, ◌≤◌}
use Rattle.std.proofs.lemmas.Grind.{common_steps}
use Rattle.xrf_base.specs.declared.site.Site.{Site}
use Rattle.xrf_ctl.specs.Control.{ControlRecord, empty}
use Rattle.xrf_cavm.specs.declared.known.Known.{Known}
use Rattle.xrf_history.proofs.Phases.{has_reserve, Held, may_reserve, HasRead, released, may_release, before_write, Fresh}
use Rattle.xrf_history.specs.Reserving.{Purpose, record_by_purpose, SignOnActive}
use Rattle.xrf_history.specs.declared.want.Want.{Want}
use Rattle.xrf_history.proofs.Purposes.{is_sign_off, Suits}
use Rattle.xrf_history.proofs.Writes.{of_alternate, number_after, Wrote, wrote, last-kept, rule-kept}
use Rattle.xrf_history.specs.declared.settings.Settings.{Settings}
use Rattle.xrf_trace.specs.Scenario.{other}
use Rattle.xrf_trace.proofs.Sites.{other-other}
use Rattle.xrf_owner_law.specs.Owner.{Apart, Both, Job, Knows, IsHeld, Sound, reserves_of}
use Rattle.xrf_owner_law.specs.Views.{View}
use Rattle.xrf_owner_law.proofs.JobSteps.{reserve-step, read-step, release-step, grants-next, other-step, written_view, write-step, confirm-step}

-- two numbers apart, seen from the other site
apart-turned : (a b : Option View) → Apart a b → Apart b a
apart-turned None None apart = tt
apart-turned None (Some u) apart = tt
apart-turned (Some v) None apart = tt
apart-turned (Some v) (Some u) apart = λ u_is v_is same. apart v_is u_is (sym same)

-- the invariant seen from the other site
pub turned : (c : ControlRecord) (k : ℕ → Bool) (x : Site) (own beside : Option View) (r q : Bool) → Both c k x own beside r q
    → Both c k (other x) beside own q r
turned c k x own beside r q both = record {
  rule = both.rule;
  given = both.given;
  job = both.job_beside;
  job_beside = subst (λ (y : Site). IfSome own (Job c k y)) (sym (other-other x)) both.job;
  reserve = both.reserve_beside;
  reserve_beside = both.reserve;
  alone = λ is here. both.alone here is;
  apart = apart-turned own beside both.apart;
}

-- a step of the job at the site that leaves the record and its number
own-steps : (c : ControlRecord) (k : ℕ → Bool) (x : Site) (v v' : View) (beside : Option View) (r r' q : Bool) → Job c k x v'
    → v'.granted ≡ v.granted → v'.number ≡ v.number
    → r' ≡ has_reserve v'.phase → (r' ≡ true → q ≡ true → ⊥) → Both c k x (Some v) beside r q → Both c k x (Some v') beside r' q
own-steps c k x v v' beside r r' q job granted number reserve alone both = record {
  rule = both.rule;
  given = both.given;
  job = job;
  job_beside = both.job_beside;
  reserve = reserve;
  reserve_beside = both.reserve_beside;
  alone = alone;
  apart = still beside both.apart;
}
  where
    still : (o : Option View) → Apart (Some v) o → Apart (Some v') o
    still None apart = tt
    still (Some u) apart = λ is u_is same. apart (sym granted ∙ is) u_is (sym number ∙ same)

-- a RESERVE keeps the invariant
pub reserve-keeps : (c : ControlRecord) (k : ℕ → Bool) (x : Site) (v : View) (p : Purpose) (beside : Option View) (r q : Bool)
    → may_reserve v.phase ≡ true → q ≡ false → Both c k x (Some v) beside r q
    → Both c k x (Some (record v { phase = Held; purpose = p })) beside true q
reserve-keeps c k x v p beside r q outside free both =
    own-steps c k x v (record v { phase = Held; purpose = p }) beside r true q (reserve-step c k x v p outside both.job) refl refl refl
    (λ is held. absurd (cc)) both

-- a CTLREAD keeps it
pub read-keeps : (c : ControlRecord) (k : ℕ → Bool) (x : Site) (v : View) (known : Known) (beside : Option View) (r q : Bool)
    → v.phase ≡ Held → Knows k known c → Both c k x (Some v) beside r q
    → Both c k x (Some (record v { phase = HasRead; read = c; known = known })) beside r q
read-keeps c k x v known beside r q phase knows both =
    own-steps c k x v (record v { phase = HasRead; read = c; known = known }) beside r r q (read-step c k x v known phase knows both.job) refl refl
    (both.reserve ∙ ap has_reserve phase) both.alone both

-- after a RELEASE the reserve is not held
after-released : (o : Option Want) → false ≡ has_reserve (released o)
after-released o = grind (arith, common_steps)

-- a RELEASE keeps it
pub release-keeps : (c : ControlRecord) (k : ℕ → Bool) (x : Site) (v : View) (o : Option Want) (beside : Option View) (r q : Bool)
    → may_release v.phase ≡ true → (is_sign_off v.purpose ≡ true → is_some o ≡ true) → Both c k x (Some v) beside r q
    → Both c k x (Some (record v { phase = released o })) beside false q
release-keeps c k x v o beside r q may off both =
    own-steps c k x v (record v { phase = released o }) beside r false q (release-step c k x v o may off both.job) refl refl
    (after-released o) (λ is held. absurd (cc)) both

-- a write of the control record
pub suits-alternate : (p : Purpose) (granted owner : Bool) → Suits p granted owner → of_alternate p ≡ true → (granted ≡ true) × (owner ≡ false)
suits-alternate p granted owner suits is = grind (arith, common_steps)

-- a test that can't be met
pub not-free : (b : Bool) → (b ≡ true → ⊥) → b ≡ false
not-free true is = absurd (is refl)
not-free false is = refl

-- the other job's number is not the writer's
pub numbers-apart : (c : ControlRecord) (k : ℕ → Bool) (v u : View) (b : Bool) → v.granted ≡ b → (v.granted ≡ false → v.number ≡ 0) → IsHeld c k u.number
    → (v.granted ≡ true → v.number ≢ u.number) → u.number ≢ v.number
numbers-apart c k v u true is none held apart = λ same. apart is (sym same)
numbers-apart c k v u false is none held apart = λ same. absurd (omega (arith, none is, held.some))

-- nor after its write
apart-after : (c w : ControlRecord) (k : ℕ → Bool) (granted : Bool) (number : ℕ) (u : View) → (granted ≡ false → w.last ≡ c.last + 1) → IsHeld c k u.number
    → (granted ≡ true → number ≢ u.number) → number_after granted number w ≢ u.number
apart-after c w k true number u next held apart = apart refl
apart-after c w k false number u next held apart = λ same. absurd (omega (arith, next refl, held.given))

-- what is known of a write
pub record Written (p : Settings) (c w : ControlRecord) (k : ℕ → Bool) (v : View) (epoch : ℕ) : Type 0 where
  pub made : record_by_purpose p v.purpose v.number epoch c v.known ≡ Some w
  pub did : Wrote p v.purpose v.number c v.known w
  pub knows : Knows k v.known c
  pub suits : Suits v.purpose v.granted v.owner
  pub next : v.granted ≡ false → w.last ≡ c.last + 1

-- of a job that has read, and writes
pub written : (p : Settings) (c w : ControlRecord) (k : ℕ → Bool) (v : View) (epoch : ℕ) → v.phase ≡ HasRead
    → record_by_purpose p v.purpose v.number epoch v.read v.known ≡ Some w → Sound v → Job c k p.site v → Written p c w k v epoch
written p c w k v epoch phase makes sound job =
    let made : record_by_purpose p v.purpose v.number epoch c v.known ≡ Some w =
    subst (λ (held : ControlRecord). record_by_purpose p v.purpose v.number epoch held v.known ≡ Some w) (job.read phase).0 makes in
    let did = wrote p v.purpose v.number epoch c w v.known made in
    let suits = sound.suits (ap before_write phase) in
    record {
      made = made;
      did = did;
      knows = (job.read phase).1;
      suits = suits;
      next = grants-next p v.purpose v.granted v.owner v.number c w v.known did suits job.stands.is_granted;
    }

-- a write keeps what holds of the other job
other-writes : (p : Settings) (c w : ControlRecord) (k : ℕ → Bool) (v : View) (epoch : ℕ) (beside : Option View) → Written p c w k v epoch → Sound v
    → Job c k p.site v
    → Apart (Some v) beside → (reserves_of beside ≡ true → ⊥) → IfSome beside (Job c k (other p.site)) → IfSome beside (Job w k (other p.site))
other-writes p c w k v epoch None writes sound job apart alone job_beside = tt
other-writes p c w k v epoch (Some u) writes sound job apart alone job_beside =
    other-step p c w k (other p.site) u v.purpose v.number epoch v.known writes.made writes.did writes.knows (sym (other-other p.site))
    (λ is. let alternate = suits-alternate v.purpose v.granted v.owner writes.suits is in job.stands.beside alternate.0 alternate.1)
    (λ granted. numbers-apart c k v u v.granted refl sound.none (job_beside.held granted) (λ is. apart is granted))
    (not-free (has_reserve u.phase) alone) job_beside

-- and leaves the numbers apart
still-apart : (c w : ControlRecord) (k : ℕ → Bool) (x : Site) (v : View) (beside : Option View) → (v.granted ≡ false → w.last ≡ c.last + 1)
    → Apart (Some v) beside
    → IfSome beside (Job c k x) → Apart (Some (written_view v w)) beside
still-apart c w k x v None next apart job = tt
still-apart c w k x v (Some u) next apart job = λ is granted. apart-after c w k v.granted v.number u next (job.held granted) (λ own. apart own granted)

-- **a CTLWRITE keeps it**
pub write-keeps : (p : Settings) (c w : ControlRecord) (k : ℕ → Bool) (v : View) (epoch : ℕ) (beside : Option View) (r q : Bool)
    → v.phase ≡ HasRead → record_by_purpose p v.purpose v.number epoch v.read v.known ≡ Some w → Sound v → Both c k p.site (Some v) beside r q
    → Both w k p.site (Some (written_view v w)) beside r q
write-keeps p c w k v epoch beside r q phase makes sound both =
    let writes = written p c w k v epoch phase makes sound both.job in
    let rises = last-kept p v.purpose v.number epoch c w v.known writes.made in
    let holding : r ≡ true = both.reserve ∙ ap has_reserve phase in
    record {
      rule = rule-kept p v.purpose v.number c w v.known writes.did both.rule;
      given = λ n is. omega (arith, both.given n is, rises);
      job = write-step p c w k v writes.did writes.suits rises both.rule both.given phase both.job;
      job_beside = other-writes p c w k v epoch beside writes sound both.job both.apart (λ is. both.alone holding (both.reserve_beside ∙ is)) both.job_beside;
      reserve = holding;
      reserve_beside = both.reserve_beside;
      alone = both.alone;
      apart = still-apart c w k (other p.site) v beside writes.next both.apart both.job_beside;
    }

-- the job stops, ends or starts
pub gone-keeps : (c : ControlRecord) (k : ℕ → Bool) (x : Site) (own beside : Option View) (r q : Bool) → Both c k x own beside r q
    → Both c k x None beside false q
gone-keeps c k x own beside r q both = record {
  rule = both.rule;
  given = both.given;
  job = tt;
  job_beside = both.job_beside;
  reserve = refl;
  reserve_beside = both.reserve_beside;
  alone = λ is held. absurd (cc);
  apart = tt;
}

-- what is read of a job that has just started
abbrev pub fresh_view : View
fresh_view = record {
  granted = false;
  number = 0;
  owner = false;
  phase = Fresh;
  purpose = SignOnActive;
  read = empty;
  known = record { owner = false; alt = false };
}

-- who holds no number is apart from the other
fresh-apart : (o : Option View) → Apart (Some fresh_view) o
fresh-apart None = tt
fresh-apart (Some u) = λ is granted. absurd (cc)

-- a START keeps it
pub started-keeps : (c : ControlRecord) (k : ℕ → Bool) (x : Site) (beside : Option View) (r q : Bool) → Both c k x None beside r q
    → Both c k x (Some fresh_view) beside r q
started-keeps c k x beside r q both = record {
  rule = both.rule;
  given = both.given;
  job = record {
    read = λ is. absurd (cc);
    held = λ is. absurd (cc);
    stands = record { is_granted = λ is. absurd (cc); runs = λ is over. absurd (cc); beside = λ is owner. absurd (cc) };
  };
  job_beside = both.job_beside;
  reserve = both.reserve;
  reserve_beside = both.reserve_beside;
  alone = both.alone;
  apart = fresh-apart beside;
}

-- a confirmation
abbrev pub IsNot : ℕ → View → Type 0
IsNot n v = v.granted ≡ true → (v.number == n) ≡ false

-- a confirmation keeps what holds of a job
confirm-job : (c : ControlRecord) (k : ℕ → Bool) (x : Site) (n : ℕ) (o : Option View) → IfSome o (IsNot n) → IfSome o (Job c k x)
    → IfSome o (Job c (λ m. n == m || k m) x)
confirm-job c k x n None unlike job = tt
confirm-job c k x n (Some v) unlike job = confirm-step c k x v n unlike job

-- a number that is confirmed was given
confirm-given : (n m last : ℕ) (b : Bool) → n ≤ last → (b ≡ true → m ≤ last) → (n == m || b) ≡ true → m ≤ last
confirm-given n m last b within given is = grind (arith, common_steps)

-- a confirmation keeps it
pub confirm-keeps : (c : ControlRecord) (k : ℕ → Bool) (x : Site) (n : ℕ) (own beside : Option View) (r q : Bool)
    → n ≤ c.last → IfSome own (IsNot n) → IfSome beside (IsNot n) → Both c k x own beside r q → Both c (λ m. n == m || k m) x own beside r q
confirm-keeps c k x n own beside r q within unlike unlike_beside both = record {
  rule = both.rule;
  given = λ m is. confirm-given n m c.last (k m) within (both.given m) is;
  job = confirm-job c k x n own unlike both.job;
  job_beside = confirm-job c k (other x) n beside unlike_beside both.job_beside;
  reserve = both.reserve;
  reserve_beside = both.reserve_beside;
  alone = both.alone;
  apart = both.apart;
}
