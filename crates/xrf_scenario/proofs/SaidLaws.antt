-- What the lines of a text keep of what is said, and the scenario that is said.
use Rattle.std.proofs.Common.{◌≡◌, ◌≤◌, ◌<◌, ◌+◌, ◌-◌, ◌⊎◌, inl, inr, ℕ, zero, suc, Bool, true, false, IfSome, if◌then◌else◌, Option, Some, None, is_none, List, [], ◌∷◌, ◌++◌, length, drop, replicate, get_or, slice_set, Result, Ok, Err, nat_le, nat_lt, refl, sym, ◌∙◌, ap, subst, arith, length-set, length-append}
use Rattle.std.specs.List.{AllByRecursion, list_all}
use Rattle.std.proofs.lemmas.Bool.{leb-true, ltb-true, ltb-false}
use Rattle.xrf_base.specs.Values.{IsValue}
use Rattle.xrf_base.specs.declared.site.Site.TheVariants.{A, B}
use Rattle.xrf_clt.specs.Lines.{words_kept}
use Rattle.xrf_text.specs.Text.{words}
use Rattle.xrf_setup.specs.Items.{IsItemOf}
use Rattle.xrf_grammar.specs.LineText.{IsSetting, IsChoosing, is_timed}
use Rattle.xrf_setup.specs.Choices.{is_planned, HasLine}
use Rattle.xrf_grammar.specs.Places.{behind}
use Rattle.xrf_grammar.specs.Reading.{line_of}
use Rattle.xrf_grammar.specs.Table.{settings_of, choices_table}
use Rattle.xrf_setup.specs.declared.choice.Choice.{Choice}
use Rattle.xrf_setup.specs.declared.choice.Choice.TheVariants as choice
use Rattle.xrf_setup.specs.declared.format.Format.{Format}
use Rattle.xrf_setup.specs.declared.format.Format.TheVariants.{One}
use Rattle.xrf_grammar.specs.Quantities.{place_of}
use Rattle.xrf_grammar.specs.declared.quantity.Quantity.{Quantity as Setting}
use Rattle.xrf_grammar.specs.declared.quantity.Quantity.TheVariants.{Adi}
use Rattle.xrf_grammar.specs.declared.line.Line.{Line}
use Rattle.xrf_grammar.specs.declared.line.Line.TheVariants.{Applid, Takeovr, Quantity, Images, Level, Xrfsoff, Record, Clt, Work, Plan, Choices, Once, Times, End}
use Rattle.xrf_grammar.specs.declared.reason.Reason.{Reason}
use Rattle.xrf_grammar.specs.declared.reason.Reason.TheVariants.{PlanOrder, RrnRange}
use Rattle.xrf_grammar.proofs.QuantityLaws.{same-place}
use Rattle.xrf_grammar.proofs.ApartLaws.{line-again, settings-apart, choices-apart}
use Rattle.xrf_grammar.proofs.FoundLaws.{setting_found, choosing_found}
use Rattle.xrf_scenario.specs.Lines.{is_skipped, bytes_fault}
use Rattle.xrf_scenario.specs.Reading.{begun, SaysIn, SaysThen}
use Rattle.xrf_scenario.specs.Machine.{step}
use Rattle.xrf_scenario.specs.Said.{IsLineSaid, is_past, IsGiven, IsFresh, IsSaid}
use Rattle.xrf_setup.specs.Scenario.{IsScen, AreRecords, ArePlanned}
use Rattle.xrf_setup.specs.Commands.{IsKept}
use Rattle.xrf_scenario.specs.Settled.{by_number, scenario_of}
use Rattle.xrf_scenario.specs.SoFar.{SoFar, quantity_given, with_quantity, nothing_given, nothing_said, is_whole, file_said}
use Rattle.xrf_scenario.specs.Taking.{once, with_room, free_record, last_tick, numbered, are_within, has_choice_room, take_setting, take}
use Rattle.xrf_scenario.specs.declared.given.Given.{Given}
use Rattle.xrf_scenario.specs.declared.section.Section.{Section}
use Rattle.xrf_scenario.specs.declared.section.Section.TheVariants.{Start, Settings, Making, Whole}
use Rattle.xrf_scenario.specs.declared.numbered.Numbered.{Numbered}
use Rattle.xrf_scenario.proofs.KeptLaws.{clt-fault, clt-kept}
use Rattle.xrf_scenario.proofs.ReadingLaws.{step-says}
use Rattle.xrf_scenario.proofs.SettingsKept.{settings-said}

-- what is known of a line before the choices
line-said : (format : Format) (ws : List (List ℕ)) (l : Line) → IsSetting format l → IsLineSaid format ws l
line-said format ws (Applid site name) is = is
line-said format ws (Takeovr mode) is = is
line-said format ws (Quantity quantity n) is = is
line-said format ws (Images on) is = is
line-said format ws (Level site n) is = is
line-said format ws (Xrfsoff force) is = is
line-said format ws (Record n value) is = is
line-said format ws (Work site i) is = is
line-said format ws (Plan tick c) is = is
line-said format ws Choices is = is
line-said format ws Clt is = absurd is
line-said format ws (Once c) is = is
line-said format ws (Times c count) is = is
line-said format ws End is = is

pub setting-said : (format : Format) (line : List ℕ) (l : Line) → bytes_fault line ≡ None → line_of (settings_of format) (words line) ≡ Ok l → IsLineSaid format (words line) l
setting-said format line l plain h = by (setting_found format (words line) l h)
  where
    by : ((l ≡ Clt) ⊎ IsSetting format l) → IsLineSaid format (words line) l
    by (inl same) =
        let clt : line_of (settings_of format) (words line) ≡ Ok Clt = h ∙ ap (λ (k : Line). Ok k) same in
        subst (IsLineSaid format (words line)) (sym same) (clt-fault format (words line) clt, clt-kept format line plain clt)
    by (inr is) = line-said format (words line) l is

empty-places : (n : ℕ) → AllByRecursion (λ (place : Option (List ℕ)). IfSome place IsValue) (replicate n None)
empty-places zero = tt
empty-places (suc n) = (tt, empty-places n)

-- no quantity is given
none-given : (format : Format) (quantity : Setting) → IfSome (quantity_given nothing_given quantity) (λ n. IsSetting format (Quantity quantity n))
none-given format Adi = tt
none-given format _ = tt

nothing-is-given : (format : Format) → IsGiven format nothing_given
nothing-is-given format = record { applid_a = tt; applid_b = tt; quantities = none-given format; level_a = tt; level_b = tt; force = tt }

pub nothing-said : IsSaid nothing_said
nothing-said = record {
  fresh = (refl, refl, refl);
  given = nothing-is-given One;
  places = refl;
  values = empty-places 256;
  clt = tt;
  clt_few = omega arith;
  work_a = tt;
  work_a_few = omega arith;
  work_b = tt;
  work_b_few = omega arith;
  plan = tt;
  plan_few = omega arith;
  choices = tt;
  choices_few = omega arith;
  within = λ e. absurd (cc);
}

-- what is said once a setting is given, or where there is room, or where a record number is free
pub once-is : {X : Type 0} (o : Option X) (so next : SoFar) (g : Given) → once o so g ≡ Ok next → record so { given = g } ≡ next
once-is None so next g h = cc
once-is (Some x) so next g h = absurd (cc)

pub room-is : (b : Bool) (so next : SoFar) → with_room b so ≡ Ok next → (b ≡ true) × (so ≡ next)
room-is true so next h = let same : so ≡ next = cc in (refl, same)
room-is false so next h = absurd (cc)

pub free-is : (b : Bool) (so next : SoFar) → free_record b so ≡ Ok next → so ≡ next
free-is true so next h = cc
free-is false so next h = absurd (cc)

-- in the scenario's section nothing is past CHOICES
not-past : {X : Type 0} (section : Section) → section ≡ Settings → is_past section ≡ true → X
not-past section here past = let clash : is_past Settings ≡ true = subst (λ (p : Section). is_past p ≡ true) here past in absurd (cc)

not-fresh : (so next : SoFar) → so.section ≡ Settings → IsFresh so.section next
not-fresh so next here = subst (λ (p : Section). IsFresh p next) (sym here) tt

given-said : (so : SoFar) (g : Given) → so.section ≡ Settings → IsSaid so → IsGiven so.format g → IsSaid (record so { given = g })
given-said so g here said is = record {
  fresh = not-fresh so (record so { given = g }) here;
  given = is;
  places = said.places;
  values = said.values;
  clt = said.clt;
  clt_few = said.clt_few;
  work_a = said.work_a;
  work_a_few = said.work_a_few;
  work_b = said.work_b;
  work_b_few = said.work_b_few;
  plan = said.plan;
  plan_few = said.plan_few;
  choices = said.choices;
  choices_few = said.choices_few;
  within = not-past so.section here;
}

-- a place that is set holds what it is set to, and each other what it held
held-kept : (P : ℕ → Type 0) (xs : List (Option ℕ)) (at k : ℕ) (x : Option ℕ) → IfSome (get_or xs k None) P → (at ≡ k → IfSome x P) → IfSome (get_or (slice_set xs at x) k None) P
held-kept P [] at k x was is = tt
held-kept P (y ∷ ys) zero zero x was is = is refl
held-kept P (y ∷ ys) zero (suc k) x was is = was
held-kept P (y ∷ ys) (suc at) zero x was is = was
held-kept P (y ∷ ys) (suc at) (suc k) x was is = held-kept P ys at k x was (λ e. is (ap suc e))

-- each quantity is kept within its range
quantities-kept : (format : Format) (given : Given) (quantity : Setting) (n : ℕ) → ((other : Setting) → IfSome (quantity_given given other) (λ m. IsSetting format (Quantity other m))) → IsSetting format (Quantity quantity n)
    → (other : Setting) → IfSome (quantity_given (with_quantity given quantity n) other) (λ m. IsSetting format (Quantity other m))
quantities-kept format given quantity n were is other =
    held-kept (λ m. IsSetting format (Quantity other m)) given.quantities (place_of quantity) (place_of other) (Some n) (were other)
    (λ e. subst (λ (q : Setting). IsSetting format (Quantity q n)) (same-place quantity other e) is)

-- each setting is kept within its range
setting-taken : (so next : SoFar) (l : Line) → so.section ≡ Settings → IsSaid so → IsSetting so.format l → take_setting so so.given l ≡ Ok next → IsSaid next
setting-taken so next (Applid A name) here said is h = subst IsSaid (once-is so.given.applid_a so next (record so.given { applid_a = Some name }) h) (given-said so (record so.given { applid_a = Some name }) here said (record { applid_a = is; applid_b = said.given.applid_b; quantities = said.given.quantities; level_a = said.given.level_a; level_b = said.given.level_b; force = said.given.force }))
setting-taken so next (Applid B name) here said is h = subst IsSaid (once-is so.given.applid_b so next (record so.given { applid_b = Some name }) h) (given-said so (record so.given { applid_b = Some name }) here said (record { applid_a = said.given.applid_a; applid_b = is; quantities = said.given.quantities; level_a = said.given.level_a; level_b = said.given.level_b; force = said.given.force }))
setting-taken so next (Quantity quantity n) here said is h =
    let given : Given = with_quantity so.given quantity n in
    subst IsSaid (once-is (quantity_given so.given quantity) so next given h) (given-said so given here said (record { applid_a = said.given.applid_a; applid_b = said.given.applid_b; quantities = quantities-kept so.format so.given quantity n said.given.quantities is; level_a = said.given.level_a; level_b = said.given.level_b; force = said.given.force }))
setting-taken so next (Level A n) here said is h = subst IsSaid (once-is so.given.level_a so next (record so.given { level_a = Some n }) h) (given-said so (record so.given { level_a = Some n }) here said (record { applid_a = said.given.applid_a; applid_b = said.given.applid_b; quantities = said.given.quantities; level_a = is; level_b = said.given.level_b; force = said.given.force }))
setting-taken so next (Level B n) here said is h = subst IsSaid (once-is so.given.level_b so next (record so.given { level_b = Some n }) h) (given-said so (record so.given { level_b = Some n }) here said (record { applid_a = said.given.applid_a; applid_b = said.given.applid_b; quantities = said.given.quantities; level_a = said.given.level_a; level_b = is; force = said.given.force }))
setting-taken so next (Xrfsoff force) here said is h = subst IsSaid (once-is so.given.force so next (record so.given { force = Some force }) h) (given-said so (record so.given { force = Some force }) here said (record { applid_a = said.given.applid_a; applid_b = said.given.applid_b; quantities = said.given.quantities; level_a = said.given.level_a; level_b = said.given.level_b; force = is }))
setting-taken so next (Takeovr mode) here said is h = subst IsSaid (once-is so.given.takeovr so next (record so.given { takeovr = Some mode }) h) (given-said so (record so.given { takeovr = Some mode }) here said (record { applid_a = said.given.applid_a; applid_b = said.given.applid_b; quantities = said.given.quantities; level_a = said.given.level_a; level_b = said.given.level_b; force = said.given.force }))
setting-taken so next (Images on) here said is h = subst IsSaid (once-is so.given.images so next (record so.given { images = Some on }) h) (given-said so (record so.given { images = Some on }) here said (record { applid_a = said.given.applid_a; applid_b = said.given.applid_b; quantities = said.given.quantities; level_a = said.given.level_a; level_b = said.given.level_b; force = said.given.force }))
setting-taken so next l here said is h = let same : so ≡ next = cc in subst IsSaid same said

-- one more of a kind, and a place set
pub all-more : {X : Type 0} (P : X → Type 0) (xs : List X) (x : X) → AllByRecursion P xs → P x → AllByRecursion P (xs ++ x ∷ [])
all-more P [] x all is = (is, tt)
all-more P (y ∷ ys) x all is = (all.0, all-more P ys x all.1 is)

pub all-times : {X : Type 0} (P : X → Type 0) (xs : List X) (x : X) (n : ℕ) → AllByRecursion P xs → P x → AllByRecursion P (xs ++ replicate n x)
all-times P [] x zero all is = tt
all-times P [] x (suc n) all is = (is, all-times P [] x n tt is)
all-times P (y ∷ ys) x n all is = (all.0, all-times P ys x n all.1 is)

all-set : {X : Type 0} (P : X → Type 0) (xs : List X) (k : ℕ) (x : X) → AllByRecursion P xs → P x → AllByRecursion P (slice_set xs k x)
all-set P [] k x all is = tt
all-set P (y ∷ ys) zero x all is = (is, all.1)
all-set P (y ∷ ys) (suc k) x all is = (all.0, all-set P ys k x all.1 is)

times-longer : {X : Type 0} (xs : List X) (x : X) (n : ℕ) → length (xs ++ replicate n x) ≡ length xs + n
times-longer [] x zero = refl
times-longer [] x (suc n) = let rest : length (replicate n x) ≡ 0 + n = times-longer [] x n in omega (arith, rest)
times-longer (y ∷ ys) x n = let rest = times-longer ys x n in omega (arith, rest)

-- a planned choice behind others, whose tick is not below the last
planned-more : (least : ℕ) (ps : List (ℕ × Choice)) (tick : ℕ) (c : Choice) → ArePlanned least ps → (ps ≡ [] → least ≤ tick) → last_tick ps ≤ tick → tick ≤ 200 → is_planned c ≡ true → HasLine c
    → ArePlanned least (ps ++ (tick, c) ∷ [])
planned-more least [] tick c are low last few takes has = ((low refl, few), takes, has, tt)
planned-more least (p ∷ []) tick c are low last few takes has = (are.0, are.1, are.2, ((last, few), takes, has, tt))
planned-more least (p ∷ next ∷ more) tick c are low last few takes has =
    (are.0, are.1, are.2, planned-more p.0 (next ∷ more) tick c are.3 (λ (e : next ∷ more ≡ []). absurd (cc)) last few takes has)

-- what a line of the scenario adds is kept within its bounds
pub clt-taken : (number : ℕ) (so next : SoFar) (ws : List (List ℕ)) → so.section ≡ Settings → IsSaid so → IsKept (words_kept (behind ws)) → take number so ws Clt ≡ Ok next → IsSaid next
clt-taken number so next ws here said is h =
    let more : SoFar = record so { clt = so.clt ++ words_kept (behind ws) ∷ [] } in
    let room = room-is (nat_lt (length so.clt) 100) more next h in
    let few : length so.clt < 100 = ltb-true (length so.clt) 100 room.0 in
    let longer : length (so.clt ++ words_kept (behind ws) ∷ []) ≡ length so.clt + 1 = length-append so.clt ((words_kept (behind ws)) ∷ []) in
    subst IsSaid room.1 (record { fresh = not-fresh so more here; given = said.given; places = said.places; values = said.values; clt = all-more IsKept so.clt (words_kept (behind ws)) said.clt is; clt_few = omega (arith, longer, few); work_a = said.work_a; work_a_few = said.work_a_few; work_b = said.work_b; work_b_few = said.work_b_few; plan = said.plan; plan_few = said.plan_few; choices = said.choices; choices_few = said.choices_few; within = not-past so.section here })

pub line-taken : (number : ℕ) (so next : SoFar) (ws : List (List ℕ)) (l : Line) → so.section ≡ Settings → IsSaid so → IsSetting so.format l → take number so ws l ≡ Ok next → IsSaid next
line-taken number so next ws (Record n value) here said is h =
    let more : SoFar = record so { records = slice_set so.records (n - 1) (Some value) } in
    subst IsSaid (free-is (is_none (get_or so.records (n - 1) None)) more next h) (record { fresh = not-fresh so more here; given = said.given; places = length-set so.records (n - 1) (Some value) ∙ said.places; values = all-set (λ (place : Option (List ℕ)). IfSome place IsValue) so.records (n - 1) (Some value) said.values is.1; clt = said.clt; clt_few = said.clt_few; work_a = said.work_a; work_a_few = said.work_a_few; work_b = said.work_b; work_b_few = said.work_b_few; plan = said.plan; plan_few = said.plan_few; choices = said.choices; choices_few = said.choices_few; within = not-past so.section here })
line-taken number so next ws (Work A i) here said is h =
    let more : SoFar = record so { work_a = so.work_a ++ i ∷ [] } in
    let room = room-is (nat_lt (length so.work_a) 2000) more next h in
    let few : length so.work_a < 2000 = ltb-true (length so.work_a) 2000 room.0 in
    let longer : length (so.work_a ++ i ∷ []) ≡ length so.work_a + 1 = length-append so.work_a (i ∷ []) in
    subst IsSaid room.1 (record { fresh = not-fresh so more here; given = said.given; places = said.places; values = said.values; clt = said.clt; clt_few = said.clt_few; work_a = all-more (IsItemOf so.format) so.work_a i said.work_a is; work_a_few = omega (arith, longer, few); work_b = said.work_b; work_b_few = said.work_b_few; plan = said.plan; plan_few = said.plan_few; choices = said.choices; choices_few = said.choices_few; within = not-past so.section here })
line-taken number so next ws (Work B i) here said is h =
    let more : SoFar = record so { work_b = so.work_b ++ i ∷ [] } in
    let room = room-is (nat_lt (length so.work_b) 2000) more next h in
    let few : length so.work_b < 2000 = ltb-true (length so.work_b) 2000 room.0 in
    let longer : length (so.work_b ++ i ∷ []) ≡ length so.work_b + 1 = length-append so.work_b (i ∷ []) in
    subst IsSaid room.1 (record { fresh = not-fresh so more here; given = said.given; places = said.places; values = said.values; clt = said.clt; clt_few = said.clt_few; work_a = said.work_a; work_a_few = said.work_a_few; work_b = all-more (IsItemOf so.format) so.work_b i said.work_b is; work_b_few = omega (arith, longer, few); plan = said.plan; plan_few = said.plan_few; choices = said.choices; choices_few = said.choices_few; within = not-past so.section here })
line-taken number so next ws (Plan tick c) here said is h = by (nat_lt tick (last_tick so.plan)) refl h
  where
    more : SoFar
    more = record so { plan = so.plan ++ (tick, c) ∷ [] }

    by : (b : Bool) → nat_lt tick (last_tick so.plan) ≡ b → ◌≡◌ {A = Result SoFar Reason} (if b then Err PlanOrder else with_room (nat_lt (length so.plan) 500) more) (Ok next) → IsSaid next
    by true e k = absurd (cc)
    by false e k =
        let room = room-is (nat_lt (length so.plan) 500) more next k in
        let few : length so.plan < 500 = ltb-true (length so.plan) 500 room.0 in
        let low : last_tick so.plan ≤ tick = omega (arith, ltb-false tick (last_tick so.plan) e) in
        let longer : length (so.plan ++ (tick, c) ∷ []) ≡ length so.plan + 1 = length-append so.plan ((tick, c) ∷ []) in
        subst IsSaid room.1 (record { fresh = not-fresh so more here; given = said.given; places = said.places; values = said.values; clt = said.clt; clt_few = said.clt_few; work_a = said.work_a; work_a_few = said.work_a_few; work_b = said.work_b; work_b_few = said.work_b_few; plan = planned-more 0 so.plan tick c said.plan (λ e0. omega arith) low is.0.1 is.1 is.2; plan_few = omega (arith, longer, few); choices = said.choices; choices_few = said.choices_few; within = not-past so.section here })
line-taken number so next ws Choices here said is h = by (are_within so) refl h
  where
    by : (b : Bool) → are_within so ≡ b → ◌≡◌ {A = Result SoFar Reason} (if b then Ok (record so { section = Making }) else Err RrnRange) (Ok next) → IsSaid next
    by true e k =
        let same : record so { section = Making } ≡ next = cc in
        subst IsSaid same (record { fresh = tt; given = said.given; places = said.places; values = said.values; clt = said.clt; clt_few = said.clt_few; work_a = said.work_a; work_a_few = said.work_a_few; work_b = said.work_b; work_b_few = said.work_b_few; plan = said.plan; plan_few = said.plan_few; choices = said.choices; choices_few = said.choices_few; within = λ past. e })
    by false e k = absurd (cc)
line-taken number so next ws Clt here said is h = absurd is
line-taken number so next ws (Once c) here said is h = absurd is
line-taken number so next ws (Times c count) here said is h = absurd is
line-taken number so next ws End here said is h = absurd is
line-taken number so next ws (Applid A name) here said is h = setting-taken so next (Applid A name) here said is h
line-taken number so next ws (Applid B name) here said is h = setting-taken so next (Applid B name) here said is h
line-taken number so next ws (Takeovr mode) here said is h = setting-taken so next (Takeovr mode) here said is h
line-taken number so next ws (Quantity quantity n) here said is h = setting-taken so next (Quantity quantity n) here said is h
line-taken number so next ws (Images on) here said is h = setting-taken so next (Images on) here said is h
line-taken number so next ws (Level A n) here said is h = setting-taken so next (Level A n) here said is h
line-taken number so next ws (Level B n) here said is h = setting-taken so next (Level B n) here said is h
line-taken number so next ws (Xrfsoff force) here said is h = setting-taken so next (Xrfsoff force) here said is h

-- a choice that has a count has a line
timed-line : (c : Choice) → is_timed c ≡ true → HasLine c
timed-line choice.Tick is = tt
timed-line (choice.Step site) is = tt
timed-line c is = absurd (cc)

-- what a line of the choices adds
not-start : (so next : SoFar) → so.section ≡ Making → IsFresh so.section next
not-start so next here = subst (λ (p : Section). IsFresh p next) (sym here) tt

within-past : (so : SoFar) → so.section ≡ Making → IsSaid so → are_within so ≡ true
within-past so here said = said.within (ap is_past here)

pub choices-taken : (number : ℕ) (so next : SoFar) (c : Choice) (count : ℕ) → so.section ≡ Making → IsSaid so → HasLine c
    → with_room (has_choice_room so count) (record so { choices = so.choices ++ replicate count (numbered number c) }) ≡ Ok next → IsSaid next
choices-taken number so next c count here said is h =
    let more : SoFar = record so { choices = so.choices ++ replicate count (numbered number c) } in
    let room = room-is (nat_le (length so.choices + count) 8192) more next h in
    let few : length so.choices + count ≤ 8192 = leb-true (length so.choices + count) 8192 room.0 in
    let longer : length (so.choices ++ replicate count (numbered number c)) ≡ length so.choices + count = times-longer so.choices (numbered number c) count in
    subst IsSaid room.1 (record { fresh = not-start so more here; given = said.given; places = said.places; values = said.values; clt = said.clt; clt_few = said.clt_few; work_a = said.work_a; work_a_few = said.work_a_few; work_b = said.work_b; work_b_few = said.work_b_few; plan = said.plan; plan_few = said.plan_few; choices = all-times (λ (k : Numbered). HasLine k.choice) so.choices (numbered number c) count said.choices is; choices_few = omega (arith, longer, few); within = λ past. within-past so here said })

choice-taken : (number : ℕ) (so next : SoFar) (ws : List (List ℕ)) (l : Line) → so.section ≡ Making → IsSaid so → IsChoosing l → take number so ws l ≡ Ok next → IsSaid next
choice-taken number so next ws (Once c) here said is h = choices-taken number so next c 1 here said is h
choice-taken number so next ws (Times c count) here said is h = choices-taken number so next c count here said (timed-line c is.0) h
choice-taken number so next ws End here said is h =
    let same : record so { section = Whole } ≡ next = cc in
    subst IsSaid same (record { fresh = tt; given = said.given; places = said.places; values = said.values; clt = said.clt; clt_few = said.clt_few; work_a = said.work_a; work_a_few = said.work_a_few; work_b = said.work_b; work_b_few = said.work_b_few; plan = said.plan; plan_few = said.plan_few; choices = said.choices; choices_few = said.choices_few; within = λ past. within-past so here said })
choice-taken number so next ws l here said is h = absurd is

-- the header of a text of which nothing is said
header-taken : (so : SoFar) (format : Format) → so.section ≡ Start → IsSaid so → IsSaid (begun so format)
header-taken so format here said =
    let fresh : IsFresh Start so = subst (λ (p : Section). IsFresh p so) here said.fresh in
    record {
      fresh = tt;
      given = subst (IsGiven format) (sym fresh.0) (nothing-is-given format);
      places = said.places;
      values = said.values;
      clt = said.clt;
      clt_few = said.clt_few;
      work_a = subst (AllByRecursion (IsItemOf format)) (sym fresh.1) tt;
      work_a_few = said.work_a_few;
      work_b = subst (AllByRecursion (IsItemOf format)) (sym fresh.2) tt;
      work_b_few = said.work_b_few;
      plan = said.plan;
      plan_few = said.plan_few;
      choices = said.choices;
      choices_few = said.choices_few;
      within = λ past. absurd (cc);
    }

-- each step keeps what is said within its bounds
pub step-said : (number : ℕ) (so next : SoFar) (line : List ℕ) → IsSaid so → step number so line ≡ Ok next → IsSaid next
step-said number so next line said h = by (is_skipped line) (is_whole so.section) (step-says number so next line h)
  where
    in-section : (section : Section) → so.section ≡ section → bytes_fault line ≡ None → SaysIn section number so (words line) next → IsSaid next
    in-section Start here plain says = subst IsSaid (sym says.1.1) (header-taken so says.0 here said)
    in-section Settings here plain says = found (setting_found so.format (words line) says.0 read)
      where
        read : line_of (settings_of so.format) (words line) ≡ Ok says.0
        read = line-again (settings_of so.format) (words line) says.0 (settings-apart so.format) says.1.0

        found : ((says.0 ≡ Clt) ⊎ IsSetting so.format says.0) → IsSaid next
        found (inl same) =
            let clt : line_of (settings_of so.format) (words line) ≡ Ok Clt = read ∙ ap (λ (k : Line). Ok k) same in
            clt-taken number so next (words line) here said (clt-kept so.format line plain clt) (ap (take number so (words line)) (sym same) ∙ says.1.1)
        found (inr is) = line-taken number so next (words line) says.0 here said is says.1.1
    in-section Making here plain says =
        choice-taken number so next (words line) says.0 here said (choosing_found (words line) says.0 (line-again choices_table (words line) says.0 choices-apart says.1.0)) says.1.1
    in-section Whole here plain says = absurd says

    by : (skipped ended : Bool) → SaysThen skipped ended number so line next → IsSaid next
    by true ended same = subst IsSaid (sym same) said
    by false true says = subst IsSaid (sym says.1) said
    by false false says = in-section so.section refl says.0 says.1

-- records from a number on are records from a smaller one on
from-less : (less least most : ℕ) (rs : List (ℕ × List ℕ)) → less ≤ least → AreRecords least most rs → AreRecords less most rs
from-less less least most [] low are = tt
from-less less least most (r ∷ rs) low are = let at : least ≤ r.0 = are.0.0 in ((omega (arith, low, at), are.0.1), are.1, are.2)

none-said : (number most : ℕ) (places : List (Option (List ℕ))) → list_all is_none places ≡ true → AreRecords number most (by_number number places)
none-said number most [] all = tt
none-said number most (None ∷ places) all = from-less number (number + 1) most (by_number (number + 1) places) (omega arith) (none-said (number + 1) most places all)
none-said number most (Some value ∷ places) all = absurd (cc)

-- the records of places are in order, and none has a number above the last whose place may be filled
records-said : (room number most : ℕ) (places : List (Option (List ℕ))) → number + room ≡ most + 1 → AllByRecursion (λ (place : Option (List ℕ)). IfSome place IsValue) places
    → list_all is_none (drop room places) ≡ true → AreRecords number most (by_number number places)
records-said zero number most places sum values all = none-said number most places all
records-said (suc room) number most [] sum values all = tt
records-said (suc room) number most (None ∷ places) sum values all =
    from-less number (number + 1) most (by_number (number + 1) places) (omega arith) (records-said room (number + 1) most places (omega (arith, sum)) values.1 all)
records-said (suc room) number most (Some value ∷ places) sum values all =
    ((omega arith, omega (arith, sum)), values.0, records-said room (number + 1) most places (omega (arith, sum)) values.1 all)

-- behind END CHOICES has come
pub past-whole : (section : Section) → is_whole section ≡ true → is_past section ≡ true
past-whole Whole e = refl
past-whole Start e = absurd (cc)
past-whole Settings e = absurd (cc)
past-whole Making e = absurd (cc)

-- what is said behind CHOICES is a scenario
pub scen-said : (so : SoFar) → IsSaid so → is_past so.section ≡ true → IsScen (scenario_of so)
scen-said so said past = record {
  settings = settings-said so.format so.given said.given;
  records = records-said (file_said so) 1 (file_said so) so.records (omega arith) said.values (said.within past);
  clt = said.clt;
  clt_few = said.clt_few;
  work_a = said.work_a;
  work_a_few = said.work_a_few;
  work_b = said.work_b;
  work_b_few = said.work_b_few;
  plan = said.plan;
  plan_few = said.plan_few;
}
