-- What the steps of a job and of the other one keep of a job.
use Rattle.std.proofs.Common.{Bool, false, true, List, refl, ◌≡◌, ◌∷◌, arith, ℕ, ap, None, Option, Some, is_some, ◌||◌, ◌≤◌, ◌+◌, ◌≢◌, ◌==◌, ◌∙◌}
use Rattle.std.proofs.lemmas.Grind.{common_steps}
use Rattle.xrf_base.specs.declared.site.Site.{Site}
use Rattle.xrf_ctl.specs.Control.{ControlRecord}
use Rattle.xrf_cavm.specs.declared.known.Known.{Known}
use Rattle.xrf_cavm.specs.Record.{is_owner as names_owner, inc_of_alt, inc_of_owner}
use Rattle.xrf_history.specs.Events.{ControlRead, ControlWritten, Event, Released, Reserved, StartedActive, StartedStandby}
use Rattle.xrf_history.specs.declared.settings.Settings.{Settings}
use Rattle.xrf_history.proofs.Phases.{Phase, may_reserve, Held, HasRead, may_release, released, has_reserve, HasWritten}
use Rattle.xrf_history.specs.Reserving.{Purpose, record_by_purpose}
use Rattle.xrf_history.specs.Holding.{is_granted}
use Rattle.xrf_history.specs.declared.want.Want.{Want}
use Rattle.xrf_history.proofs.Purposes.{is_sign_off, Suits}
use Rattle.xrf_history.proofs.Writes.{number_after, Wrote, IsRuled, last-kept, of_alternate}
use Rattle.xrf_trace.specs.Scenario.{other}
use Rattle.xrf_owner_law.specs.Views.{view, is_over, View}
use Rattle.xrf_owner_law.specs.Owner.{Job, Knows, IsHeld, Stands, Beside}
use Rattle.xrf_owner_law.proofs.WritesKeep.{stands-kept, beside-kept, owner-kept}

-- all events but those under the reserve leave the view
abbrev pub is_quiet : Event → Bool
is_quiet StartedActive = false
is_quiet StartedStandby = false
is_quiet Reserved = false
is_quiet (ControlRead held known) = false
is_quiet (ControlWritten written) = false
is_quiet Released = false
is_quiet _ = true

-- an event but those under the reserve leaves the view
pub quiet-view : (p : Settings) (e : Event) (h : List Event) → is_quiet e ≡ true → view p (e ∷ h) ≡ view p h
quiet-view p StartedActive h quiet = absurd (cc)
quiet-view p StartedStandby h quiet = absurd (cc)
quiet-view p Reserved h quiet = absurd (cc)
quiet-view p (ControlRead held known) h quiet = absurd (cc)
quiet-view p (ControlWritten written) h quiet = absurd (cc)
quiet-view p Released h quiet = absurd (cc)
quiet-view p _ h quiet = refl

-- who may reserve is not over
pub over-reserved : (q : Purpose) (f : Phase) → may_reserve f ≡ true → is_over f q ≡ false
over-reserved q f may = grind (arith, common_steps)

-- a RESERVE keeps what a job is to the record
pub reserve-step : (c : ControlRecord) (k : ℕ → Bool) (x : Site) (v : View) (q : Purpose) → may_reserve v.phase ≡ true → Job c k x v
    → Job c k x (record v { phase = Held; purpose = q })
reserve-step c k x v q outside job = record {
  read = λ is. absurd (cc);
  held = job.held;
  stands = record {
    is_granted = job.stands.is_granted;
    runs = λ is over. job.stands.runs is (over-reserved v.purpose v.phase outside);
    beside = job.stands.beside;
  };
}

-- a CTLREAD
pub read-step : (c : ControlRecord) (k : ℕ → Bool) (x : Site) (v : View) (known : Known) → v.phase ≡ Held → Knows k known c → Job c k x v
    → Job c k x (record v { phase = HasRead; read = c; known = known })
read-step c k x v known phase knows job = record {
  read = λ is. (refl, knows);
  held = job.held;
  stands = record {
    is_granted = job.stands.is_granted;
    runs = λ is over. job.stands.runs is (ap (λ (f : Phase). is_over f v.purpose) phase);
    beside = job.stands.beside;
  };
}

-- who is not over after its RELEASE was not before it
pub over-released : (q : Purpose) (f : Phase) (o : Option Want) → may_release f ≡ true → (is_sign_off q ≡ true → is_some o ≡ true)
    → is_over (released o) q ≡ false
    → is_over f q ≡ false
over-released q f None may off over = by (is_sign_off q) refl
  where
    by : (b : Bool) → is_sign_off q ≡ b → is_over f q ≡ false
    by true is = absurd (cc (off is))
    by false is = grind (arith, common_steps)
over-released q f (Some w) may off over = absurd (cc)

-- after a RELEASE the reserve is not held
not-reserved : (f : Phase) (o : Option Want) → has_reserve f ≡ true → released o ≡ f → ⊥
not-reserved f o holds is = grind (arith, common_steps)

-- a RELEASE
pub release-step : (c : ControlRecord) (k : ℕ → Bool) (x : Site) (v : View) (o : Option Want) → may_release v.phase ≡ true
    → (is_sign_off v.purpose ≡ true → is_some o ≡ true) → Job c k x v → Job c k x (record v { phase = released o })
release-step c k x v o may off job = record {
  read = λ is. absurd (not-reserved HasRead o refl is);
  held = job.held;
  stands = record {
    is_granted = job.stands.is_granted;
    runs = λ is over. job.stands.runs is (over-released v.purpose v.phase o may off over);
    beside = job.stands.beside;
  };
}

-- a write of the control record: of the writer
abbrev pub written_view : View → ControlRecord → View
written_view v w =
    record v {
      granted = true;
      number = number_after v.granted v.number w;
      owner = v.owner || names_owner w (number_after v.granted v.number w);
      phase = HasWritten;
    }

-- a number that is held stays so
held-kept : (c w : ControlRecord) (k : ℕ → Bool) (n : ℕ) → c.last ≤ w.last → IsHeld c k n → IsHeld w k n
held-kept c w k n rises held = record { some = held.some; given = omega (arith, held.given); open_yet = held.open_yet }

-- a new number is held
held-new : (c w : ControlRecord) (k : ℕ → Bool) (b : Bool) → k w.last ≡ b → ((n : ℕ) → k n ≡ true → n ≤ c.last) → w.last ≡ c.last + 1 → IsHeld w k w.last
held-new c w k true is given next = absurd (omega (arith, given w.last is))
held-new c w k false is given next = record { some = omega arith; given = omega arith; open_yet = is }

-- the number of the writer is held
held-after : (c w : ControlRecord) (k : ℕ → Bool) (granted : Bool) (n : ℕ) → c.last ≤ w.last → ((m : ℕ) → k m ≡ true → m ≤ c.last)
    → (granted ≡ false → w.last ≡ c.last + 1) → (granted ≡ true → IsHeld c k n) → IsHeld w k (number_after granted n w)
held-after c w k true n rises given next held = held-kept c w k n rises (held refl)
held-after c w k false n rises given next held = held-new c w k (k w.last) refl given (next refl)

-- a write by a job that holds no number is a grant, which gives the next number
pub grants-next : (p : Settings) (q : Purpose) (granted owner : Bool) (me : ℕ) (c w : ControlRecord) (known : Known) → Wrote p q me c known w
    → Suits q granted owner
    → (owner ≡ true → granted ≡ true) → granted ≡ false → w.last ≡ c.last + 1
grants-next p q granted owner me c w known did suits is_granted fresh = grind (arith, common_steps)

-- a CTLWRITE of its own
pub write-step : (p : Settings) (c w : ControlRecord) (k : ℕ → Bool) (v : View) → Wrote p v.purpose v.number c v.known w
    → Suits v.purpose v.granted v.owner → c.last ≤ w.last
    → IsRuled c → ((n : ℕ) → k n ≡ true → n ≤ c.last) → v.phase ≡ HasRead → Job c k p.site v → Job w k p.site (written_view v w)
write-step p c w k v did suits rises rule given phase job =
    let before : Stands c p.site v.granted v.owner false v.number = record {
      is_granted = job.stands.is_granted;
      runs = λ is over. job.stands.runs is (ap (λ (f : Phase). is_over f v.purpose) phase);
      beside = job.stands.beside;
    } in
    record {
      read = λ is. absurd (cc);
      held =
          λ is. held-after c w k v.granted v.number rises given
          (grants-next p v.purpose v.granted v.owner v.number c w v.known did suits before.is_granted) job.held;
      stands = stands-kept p v.purpose v.granted v.owner v.number c w v.known did rule suits before;
    }

-- of the other job
pub other-step : (p : Settings) (c w : ControlRecord) (k : ℕ → Bool) (y : Site) (u : View) (q : Purpose) (me epoch : ℕ) (known : Known)
    → record_by_purpose p q me epoch c known ≡ Some w → Wrote p q me c known w → Knows k known c → p.site ≡ other y
    → (of_alternate q ≡ true → Beside c p.site me) → (u.granted ≡ true → u.number ≢ me)
    → has_reserve u.phase ≡ false → Job c k y u → Job w k y u
other-step p c w k y u q me epoch known is did knows there mine apart free job = record {
  read = λ reads. absurd (cc (ap has_reserve reads));
  held = λ granted. held-kept c w k u.number (last-kept p q me epoch c w known is) (job.held granted);
  stands = record {
    is_granted = job.stands.is_granted;
    runs = λ owner over.
        owner-kept p q me epoch c w known k y u.number is knows (job.stands.runs owner over) (job.held (job.stands.is_granted owner)).open_yet
        (apart (job.stands.is_granted owner));
    beside = λ granted owner. beside-kept p q me c w known y u.number did there mine (job.held granted).given (job.stands.beside granted owner);
  };
}

-- a confirmation
confirm-knows : (c : ControlRecord) (k : ℕ → Bool) (known : Known) (n : ℕ) → Knows k known c → Knows (λ m. n == m || k m) known c
confirm-knows c k known n knows = record {
  owner = λ is. ap (λ (b : Bool). (n == inc_of_owner c.owner) || b) (knows.owner is) ∙ or-true (n == inc_of_owner c.owner);
  alt = λ is. ap (λ (b : Bool). (n == inc_of_alt c.alt) || b) (knows.alt is) ∙ or-true (n == inc_of_alt c.alt);
}
  where
    or-true : (b : Bool) → (b || true) ≡ true
    or-true true = refl
    or-true false = refl

-- a confirmation of another number leaves it held
confirm-held : (c : ControlRecord) (k : ℕ → Bool) (n m : ℕ) → (m == n) ≡ false → IsHeld c k m → IsHeld c (λ i. n == i || k i) m
confirm-held c k n m other held = record { some = held.some; given = held.given; open_yet = grind (arith, common_steps) }

-- a confirmation of another number
pub confirm-step : (c : ControlRecord) (k : ℕ → Bool) (x : Site) (v : View) (n : ℕ) → (v.granted ≡ true → (v.number == n) ≡ false) → Job c k x v
    → Job c (λ m. n == m || k m) x v
confirm-step c k x v n unlike job = record {
  read = λ is. ((job.read is).0, confirm-knows c k v.known n (job.read is).1);
  held = λ granted. confirm-held c k n v.number (unlike granted) (job.held granted);
  stands = job.stands;
}
