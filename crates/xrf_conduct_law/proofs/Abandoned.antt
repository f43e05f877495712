-- A start that is abandoned: the job that abandoned it is under the reserve, or ends.
use Rattle.std.proofs.Common.{◌≡◌, ℕ, Bool, true, false, ◌||◌, List, ◌∷◌, Option, Some, refl, sym, ap, ◌∙◌, subst, arith, if◌then◌else◌}
use Rattle.std.proofs.lemmas.Grind.{common_steps}
use Rattle.xrf_ctl.specs.Control.{ControlRecord}
use Rattle.xrf_cavm.specs.declared.known.Known.{Known}
use Rattle.xrf_history.specs.declared.settings.Settings.{Settings}
use Rattle.xrf_history.specs.declared.want.EndWhy.{EndWhy}
use Rattle.xrf_history.specs.declared.want.EndWhy.TheVariants as end
use Rattle.xrf_history.specs.declared.want.Want.{Want}
use Rattle.xrf_history.specs.declared.want.Want.TheVariants as want
use Rattle.xrf_history.specs.Events.{Event, StartedActive, StartedStandby, Ticked, Abended, Replied, Commanded, Exited, Reserved, ControlRead, ControlWritten, Released, DecisionMade, FirstBlockRead, BlockRead, EndedAs, ActFailed}
use Rattle.xrf_history.specs.Holding.{number, is_granted, is_owner}
use Rattle.xrf_history.specs.Reserving.{Purpose, purpose, record_read, known_read, abandons, has_abandoned, end_by_purpose}
use Rattle.xrf_history.specs.Next.{next, end_for, end_next}
use Rattle.xrf_history.proofs.Histories.{IsHistory, Comes, induct}
use Rattle.xrf_history.proofs.Phases.{Phase, Fresh, Outside, Held, HasRead, HasWritten, Over, phase, released, before_write, may_reserve, may_release, is_work}
use Rattle.xrf_history.proofs.PhaseLaws.{reserve-phase, work-phase, read-phase, write-phase, releases-phase, fails-work}
use Rattle.xrf_history.proofs.Purposes.{Suits, suited}

-- where a job stands that has abandoned its start: behind the CTLREAD that abandoned it, or before its ENDED
abbrev Abandons : Purpose → ℕ → ControlRecord → Phase → Type 0
Abandons q n c HasRead = abandons q n c ≡ true
Abandons q n c HasWritten = abandons q n c ≡ true
Abandons q n c Over = Unit {0}
Abandons q n c _ = ⊥

-- so does a job that has abandoned one
abbrev Stands : Settings → List Event → Type 0
Stands p h = has_abandoned h ≡ true → Abandons (purpose h) (number h) (record_read h) (phase p h)

-- before it reads a job has abandoned nothing
held-none : (q : Purpose) (n : ℕ) (c : ControlRecord) (f : Phase) → f ≡ Held → Abandons q n c f → ⊥
held-none q n c Held at stands = stands
held-none q n c _ at stands = absurd (cc)

-- nor has one that may reserve
reserve-none : (q : Purpose) (n : ℕ) (c : ControlRecord) (f : Phase) → may_reserve f ≡ true → Abandons q n c f → ⊥
reserve-none q n c Fresh may stands = stands
reserve-none q n c Outside may stands = stands
reserve-none q n c _ may stands = absurd (cc)

-- nor has one outside the reserve
outside-none : (q : Purpose) (n : ℕ) (c : ControlRecord) (f : Phase) → f ≡ Outside → Abandons q n c f → ⊥
outside-none q n c Outside at stands = stands
outside-none q n c _ at stands = absurd (cc)

-- the first of two tests that is met, where the second is not
first-met : (a b : Bool) → (b ≡ true → ⊥) → (a || b) ≡ true → a ≡ true
first-met true b none met = refl
first-met false b none met = absurd (none met)

-- a CTLWRITE leaves what was abandoned, since a job that starts holds its number already
write-leaves : (q : Purpose) (granted owner : Bool) (n last : ℕ) (c : ControlRecord) → Suits q granted owner → abandons q n c ≡ true
    → abandons q (if granted then n else last) c ≡ true
write-leaves q granted owner n last c suits is = grind (arith, common_steps)

-- who has read stands where it abandoned
read-stands : (q : Purpose) (n : ℕ) (c : ControlRecord) (f : Phase) → f ≡ HasRead → Abandons q n c f → abandons q n c ≡ true
read-stands q n c HasRead at stands = stands
read-stands q n c _ at stands = absurd (cc)

-- so does who may release
release-stands : (q : Purpose) (n : ℕ) (c : ControlRecord) (f : Phase) → may_release f ≡ true → Abandons q n c f → abandons q n c ≡ true
release-stands q n c HasRead may stands = stands
release-stands q n c HasWritten may stands = stands
release-stands q n c _ may stands = absurd (cc)

-- who abandons its start ends
abandons-ends : (p : Settings) (q : Purpose) (n : ℕ) (c : ControlRecord) (known : Known) → abandons q n c ≡ true
    → end_by_purpose p q n c known ≡ Some end.Abandoned
abandons-ends p q n c known is = grind (arith, common_steps)

-- after its RELEASE it is over
release-over : (q : Purpose) (n : ℕ) (c : ControlRecord) (ends : Option EndWhy) → ends ≡ Some end.Abandoned → Abandons q n c (released (end_next ends))
release-over q n c ends is = subst (λ (o : Option EndWhy). Abandons q n c (released (end_next o))) (sym is) tt

-- work is done outside the reserve, where nothing is abandoned
work-none : (p : Settings) (h : List Event) (w : Want) → IsHistory p h → next p h ≡ w → is_work w ≡ true → Stands p h → has_abandoned h ≡ true → ⊥
work-none p h w is comes work stands has =
    outside-none (purpose h) (number h) (record_read h) (phase p h) (work-phase p h is (ap is_work comes ∙ work)) (stands has)

-- each event keeps it
stands-step : (p : Settings) (h : List Event) (e : Event) → IsHistory p h → Comes p h e → Stands p h → Stands p (e ∷ h)
stands-step p h StartedActive is comes stands = absurd comes
stands-step p h StartedStandby is comes stands = absurd comes
stands-step p h Ticked is comes stands = stands
stands-step p h Abended is comes stands = stands
stands-step p h (Replied go n) is comes stands = stands
stands-step p h (Commanded command n) is comes stands = stands
stands-step p h (Exited answer n) is comes stands = stands
stands-step p h Reserved is comes stands =
    λ has. absurd (reserve-none (purpose h) (number h) (record_read h) (phase p h) (reserve-phase p h is comes) (stands has))
stands-step p h (ControlRead held known) is comes stands =
    λ has. first-met (abandons (purpose h) (number h) held) (has_abandoned h)
    (λ before. held-none (purpose h) (number h) (record_read h) (phase p h) (read-phase p h is comes) (stands before)) has
stands-step p h (ControlWritten w) is comes stands = λ has.
    let at = (write-phase p h w is comes).0 in
    write-leaves (purpose h) (is_granted h) (is_owner h) (number h) w.last (record_read h) (suited p h is (ap before_write at))
    (read-stands (purpose h) (number h) (record_read h) (phase p h) at (stands has))
stands-step p h Released is comes stands = λ has.
    release-over (purpose h) (number h) (record_read h) (end_for p h)
    (abandons-ends p (purpose h) (number h) (record_read h) (known_read h)
    (release-stands (purpose h) (number h) (record_read h) (phase p h) (releases-phase p h is comes) (stands has)))
stands-step p h (DecisionMade known n decision) is comes stands = λ has. absurd (cc)
stands-step p h (FirstBlockRead block keys) is comes stands = λ has. absurd (work-none p h (want.LogRead comes.0) is comes.1 refl stands has)
stands-step p h (BlockRead block) is comes stands = λ has. absurd (work-none p h (want.LogRead comes.0) is comes.1 refl stands has)
stands-step p h (ActFailed tried n) is comes stands = λ has. absurd (work-none p h tried is comes.0 (fails-work tried comes.1) stands has)
stands-step p h (EndedAs reason) is comes stands = absurd comes
stands-step p h e is comes stands = λ has. absurd (work-none p h (next p h) is refl (ap is_work comes) stands has)

-- **who is outside the reserve has abandoned no start**
pub outside-stays : (p : Settings) (h : List Event) → IsHistory p h → phase p h ≡ Outside → has_abandoned h ≡ false
outside-stays p h is at = by (has_abandoned h) refl
  where
    by : (b : Bool) → has_abandoned h ≡ b → b ≡ false
    by false has = refl
    by true has =
        absurd (outside-none (purpose h) (number h) (record_read h) (phase p h) at
        (induct Stands (λ p. λ has. absurd (cc)) (λ p. λ has. absurd (cc)) stands-step p h is has))
