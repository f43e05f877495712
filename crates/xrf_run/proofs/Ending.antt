-- The turns after the threads come to an end, which is that of a threaded run.
use Rattle.std.proofs.Common.{◌≡◌, ℕ, ◌+◌, ◌<◌, ◌≤◌, ◌&&◌, ◌||◌, not, nat_le, nat_lt, is_some, is_none, Bool, true, false, length, Option, Some, None, refl, arith, subst, sym, ◌∙◌}
use Rattle.std.proofs.lemmas.Bool.Decides.{nat_tests}
use Rattle.xrf_base.specs.declared.site.Site.{Site}
use Rattle.xrf_base.specs.declared.site.Site.TheVariants.{A, B}
use Rattle.xrf_exit.specs.declared.ExitAnswer.{ExitAnswer}
use Rattle.xrf_exit.specs.declared.Notice.{Notice}
use Rattle.xrf_setup.specs.declared.choice.Choice.{Choice}
use Rattle.xrf_setup.specs.declared.choice.Choice.TheVariants.{Tick, Step}
use Rattle.xrf_setup.specs.declared.ranges.TheConstants.{CHOICES_MOST}
use Rattle.xrf_trace.specs.Scenario.{Scen}
use Rattle.xrf_trace.specs.Words.{now}
use Rattle.xrf_world.specs.Report.{is_enabled, notice_at}
use Rattle.xrf_run.specs.declared.steps.Phase.{Phase}
use Rattle.xrf_run.specs.declared.steps.Phase.TheVariants.{Alone}
use Rattle.xrf_run.specs.declared.turn.Turn.{Turn}
use Rattle.xrf_run.specs.declared.turn.Turn.TheVariants.{Applied, Dropped, Nothing}
use Rattle.xrf_run.specs.Offering.{due}
use Rattle.xrf_run.specs.Pacing.{steps_of, steps_made}
use Rattle.xrf_run.specs.Threaded.{Progress, is_full, has_ended}
use Rattle.xrf_run.specs.Turns.{Adds, IsSiteTurn, IsEnvironmentTurn, has_site_turn, has_environment_turn, IsChosenAround, did, left}
use Rattle.xrf_run.proofs.Turns.{due_within}

-- a turn is had only where the journal has room
has_room : (full b : Bool) → (not full && b) ≡ true → full ≡ false
has_room true b is = absurd (cc)
has_room false b is = refl

room : (p : Progress) (b : Bool) → (not (is_full p.trace) && b) ≡ true → length p.trace < CHOICES_MOST
room p b is = let some = has_room (is_full p.trace) b is in grind (arith, nat_tests)

-- a choice more leaves less
adds-left : (s : Scen) (p q : Progress) (c : Choice) (k : ℕ) → length p.trace < CHOICES_MOST → p.offered ≤ k → Adds s p c k q → left s q < left s p
adds-left s p q c k some on (e, accepted, is) = subst (λ (x : Progress). left s x < left s p) (sym is) (omega (arith, some, on))

pub site-left : (phase : Phase) (s : Scen) (gives : Notice → ExitAnswer → Type 0) (p q : Progress) (x : Site) (turn : Turn) → IsSiteTurn phase s gives p x turn q → (left s q ≤ left s p) × (did turn ≡ true → left s q < left s p)
site-left phase s gives p q x Applied (has, c, chosen, is) = let less = adds-left s p q c p.offered (room p _ has) (omega arith) is in (omega (arith, less), λ h. less)
site-left phase s gives p q x Dropped never = absurd never
site-left phase s gives p q x Nothing (none, is) = (subst (λ (y : Progress). left s y ≤ left s p) (sym is) (omega arith), λ h. absurd (cc))

around-left : (s : Scen) (p q : Progress) (o : Option Choice) → length p.trace < CHOICES_MOST → IsChosenAround s p o q → left s q < left s p
around-left s p q (Some c) some is = adds-left s p q c (p.offered + 1) some (omega arith) is
around-left s p q None some is = adds-left s p q Tick p.offered some (omega arith) is

pub environment-left : (s : Scen) (p q : Progress) (turn : Turn) → IsEnvironmentTurn s p turn q → (left s q ≤ left s p) × (did turn ≡ true → left s q < left s p)
environment-left s p q Applied (has, is) = let less = around-left s p q (due s p.trace p.offered) (room p _ has) is in (omega (arith, less), λ h. less)
environment-left s p q Dropped (has, (c, comes, not_enabled), is) =
    let within = due_within s p.trace p.offered c comes in
    let less : left s q < left s p = subst (λ (x : Progress). left s x < left s p) (sym is) (omega (arith, within)) in (omega (arith, less), λ h. less)
environment-left s p q Nothing (none, is) = (subst (λ (x : Progress). left s x ≤ left s p) (sym is) (omega arith), λ h. absurd (cc))

-- a round in which one turn did something leaves less
pub round_left : (s : Scen) (gives : Notice → ExitAnswer → Type 0) (p q r v : Progress) (e a b : Turn) → IsEnvironmentTurn s p e q → IsSiteTurn Alone s gives q A a r → IsSiteTurn Alone s gives r B b v → (did e || (did a || did b)) ≡ true → left s v < left s p
round_left s gives p q r v e a b first second third some =
    by (did e) (did a) (did b) (environment-left s p q e first) (site-left Alone s gives q r A a second) (site-left Alone s gives r v B b third) some
  where
    by : (x y z : Bool) → (left s q ≤ left s p) × (x ≡ true → left s q < left s p) → (left s r ≤ left s q) × (y ≡ true → left s r < left s q) → (left s v ≤ left s r) × (z ≡ true → left s v < left s r) → (x || (y || z)) ≡ true → left s v < left s p
    by true y z f g h is = let less = f.1 refl in omega (arith, less, g.0, h.0)
    by false true z f g h is = let less = g.1 refl in omega (arith, less, f.0, h.0)
    by false false true f g h is = let less = h.1 refl in omega (arith, less, f.0, g.0)
    by false false false f g h is = absurd (cc)

-- With no turn left there is an end. Of the tests, full: the journal has no room; d: a line is due; lt: the last tick is to
-- come; na and nb: a notice is pending; pa and pb: a site is in its pace; oa and ob: its step is enabled.
no_turn : (full d lt na nb pa pb oa ob : Bool) → (not full && (d || (lt && not na && not nb && (not pa || not oa) && (not pb || not ob)))) ≡ false
    → (not full && (na || ((pa || (true && not lt)) && oa))) ≡ false → (not full && (nb || ((pb || (true && not lt)) && ob))) ≡ false → (full || (not lt && (not oa && not na) && (not ob && not nb) && not d)) ≡ true
no_turn true d lt na nb pa pb oa ob h k l = refl
no_turn false true lt na nb pa pb oa ob h k l = absurd (cc)
no_turn false false lt true nb pa pb oa ob h k l = absurd (cc)
no_turn false false lt false true pa pb oa ob h k l = absurd (cc)
no_turn false false false false false true pb true ob h k l = absurd (cc)
no_turn false false false false false false pb true ob h k l = absurd (cc)
no_turn false false false false false pa true false true h k l = absurd (cc)
no_turn false false false false false pa false false true h k l = absurd (cc)
no_turn false false false false false pa pb false false h k l = refl
no_turn false false true false false true pb true ob h k l = absurd (cc)
no_turn false false true false false false true oa true h k l = absurd (cc)
no_turn false false true false false true true false true h k l = absurd (cc)
no_turn false false true false false true true false false h k l = absurd (cc)
no_turn false false true false false true false false ob h k l = absurd (cc)
no_turn false false true false false false true oa false h k l = absurd (cc)
no_turn false false true false false false false oa ob h k l = absurd (cc)

no_turn-read : (full d lt na nb pa pb oa ob nd le nna nnb npa npb : Bool) → nd ≡ not d → le ≡ not lt → nna ≡ not na → nnb ≡ not nb → npa ≡ not pa → npb ≡ not pb
    → (not full && (d || (lt && nna && nnb && (npa || not oa) && (npb || not ob)))) ≡ false → (not full && (na || ((pa || (true && le)) && oa))) ≡ false → (not full && (nb || ((pb || (true && le)) && ob))) ≡ false
    → (full || (le && (not oa && nna) && (not ob && nnb) && nd)) ≡ true
no_turn-read full d lt na nb pa pb oa ob nd le nna nnb npa npb d_is lt_is na_is nb_is pa_is pb_is h k l =
    rw (d_is, lt_is, na_is, nb_is) (
    no_turn full d lt na nb pa pb oa ob
    (subst (λ x. (not full && (d || (lt && x && not nb && (not pa || not oa) && (not pb || not ob)))) ≡ false) na_is
    (subst (λ x. (not full && (d || (lt && nna && x && (not pa || not oa) && (not pb || not ob)))) ≡ false) nb_is
    (subst (λ x. (not full && (d || (lt && nna && nnb && (x || not oa) && (not pb || not ob)))) ≡ false) pa_is
    (subst (λ x. (not full && (d || (lt && nna && nnb && (npa || not oa) && (x || not ob)))) ≡ false) pb_is h))))
    (subst (λ x. (not full && (na || ((pa || (true && x)) && oa))) ≡ false) lt_is k)
    (subst (λ x. (not full && (nb || ((pb || (true && x)) && ob))) ≡ false) lt_is l))

le-lt : (a b : ℕ) → nat_le b a ≡ not (nat_lt a b)
le-lt a b = by (nat_lt a b) refl (nat_le b a) refl
  where
    by : (x : Bool) → nat_lt a b ≡ x → (y : Bool) → nat_le b a ≡ y → y ≡ not x
    by true lt true le = grind (arith, nat_tests)
    by true lt false le = refl
    by false lt true le = refl
    by false lt false le = grind (arith, nat_tests)

none-some : {X : Type 0} → (o : Option X) → is_none o ≡ not (is_some o)
none-some None = refl
none-some (Some x) = refl

ended : (s : Scen) (p : Progress) → has_environment_turn s p ≡ false → has_site_turn Alone s p A ≡ false → has_site_turn Alone s p B ≡ false → has_ended s p.trace p.offered ≡ true
ended s p h k l =
    let made = steps_made p.choices in
    no_turn-read (is_full p.trace) (is_some (due s p.trace p.offered)) (nat_lt (now p.trace) s.settings.ticks) (is_some (notice_at s p.trace A)) (is_some (notice_at s p.trace B)) (nat_lt (steps_of made A) s.settings.pace) (nat_lt (steps_of made B) s.settings.pace)
    (is_enabled s p.trace (Step A)) (is_enabled s p.trace (Step B)) _ _ _ _ _ _
    (none-some (due s p.trace p.offered)) (le-lt (now p.trace) s.settings.ticks) (none-some (notice_at s p.trace A)) (none-some (notice_at s p.trace B)) (le-lt (steps_of made A) s.settings.pace) (le-lt (steps_of made B) s.settings.pace)
    h k l

pub round_ends : (s : Scen) (gives : Notice → ExitAnswer → Type 0) (p q r v : Progress) (e a b : Turn) → IsEnvironmentTurn s p e q → IsSiteTurn Alone s gives q A a r → IsSiteTurn Alone s gives r B b v → (did e || (did a || did b)) ≡ false → has_ended s v.trace v.offered ≡ true
round_ends s gives p q r v Nothing Nothing Nothing (h, is_q) (k, is_r) (l, is_v) none =
    subst (λ (x : Progress). has_ended s x.trace x.offered ≡ true) (sym is_v)
    (ended s r (subst (λ x. has_environment_turn s x ≡ false) (sym is_q ∙ sym is_r) h) (subst (λ x. has_site_turn Alone s x A ≡ false) (sym is_r) k) l)
round_ends s gives p q r v Applied a b first second third none = absurd (cc)
round_ends s gives p q r v Dropped a b first second third none = absurd (cc)
round_ends s gives p q r v Nothing Applied b first second third none = absurd (cc)
round_ends s gives p q r v Nothing Dropped b first second third none = absurd (cc)
round_ends s gives p q r v Nothing Nothing Applied first second third none = absurd (cc)
round_ends s gives p q r v Nothing Nothing Dropped first second third none = absurd (cc)
