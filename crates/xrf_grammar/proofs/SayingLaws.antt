-- Words that are of a form say something.
use Rattle.std.proofs.Common.{◌≡◌, ℕ, Bool, true, false, if◌then◌else◌, nat_le, ◌&&◌, List, [], ◌∷◌, Option, Some, None, refl, ◌∙◌, ap, subst}
use Rattle.std.specs.Option.{is_some, option_map, option_and_then}
use Rattle.std.specs.Cmp.Derive.{both_true}
use Rattle.std.proofs.lemmas.Bool.{le-leb}
use Rattle.xrf_base.specs.Names.{IsName, name_of}
use Rattle.xrf_base.specs.Values.{IsValue, value_of}
use Rattle.xrf_base.specs.declared.site.Takeovr.TheVariants.{Auto, Manual, Command}
use Rattle.xrf_cebt.specs.declared.commands.Cebt.TheVariants.{PerformTakeover, PerformShutdown, InquireTakeover, InquireSurveillance, SetTakeover, SetSurveillance}
use Rattle.xrf_exit.specs.declared.ExitAnswer.TheVariants as answer
use Rattle.xrf_grammar.specs.declared.reason.Reason.{Reason}
use Rattle.xrf_grammar.specs.declared.reason.Reason.TheVariants.{BadOption}
use Rattle.xrf_grammar.specs.declared.keyword.Keyword.{Keyword as Word}
use Rattle.xrf_grammar.specs.declared.keyword.Keyword.TheVariants as key
use Rattle.xrf_grammar.specs.declared.form.Part.{Part}
use Rattle.xrf_grammar.specs.declared.form.Part.TheVariants.{Keyword, Site, Number, Hex}
use Rattle.xrf_grammar.specs.declared.form.ItemForm.{ItemForm}
use Rattle.xrf_grammar.specs.declared.form.ItemForm.TheVariants as work
use Rattle.xrf_grammar.specs.declared.form.ChoiceForm.{ChoiceForm}
use Rattle.xrf_grammar.specs.declared.form.ChoiceForm.TheVariants as by
use Rattle.xrf_grammar.specs.declared.form.Form.{Form}
use Rattle.xrf_grammar.specs.declared.form.Form.TheVariants as form
use Rattle.xrf_setup.specs.declared.choice.Choice.{Choice}
use Rattle.xrf_grammar.specs.declared.quantity.Quantity.{Quantity}
use Rattle.xrf_grammar.specs.Fitting.{takes_all}
use Rattle.xrf_grammar.specs.Grammar.{IsNumber, IsOfPart, Unless, AreOfForm}
use Rattle.xrf_grammar.specs.Hex.{is_hex, torn_of_hex}
use Rattle.xrf_grammar.specs.Numbers.{number_of}
use Rattle.xrf_grammar.specs.Operands.{site_of, class_of}
use Rattle.xrf_grammar.specs.Places.{first, behind, second, third, fourth, fifth, sixth}
use Rattle.xrf_grammar.specs.Quantities.{range_of}
use Rattle.xrf_grammar.specs.Saying.{torn_said, choice_said, counted, once_said, item_said, work_said, plan_said, said}
use Rattle.xrf_grammar.specs.Table.{parts_of, choice_parts, planned_parts, work_parts, behind_plan}
use Rattle.xrf_grammar.proofs.QuantityLaws.{is-quantity, quantity-read}

-- what is said of the first word, the parts behind the first, and whether the first takes all
abbrev pub IsOfFirst : List Part → List ℕ → Type 0
IsOfFirst [] word = ⊥
IsOfFirst (part ∷ parts) word = IsOfPart part word

abbrev pub tail_of : List Part → List Part
tail_of [] = []
tail_of (part ∷ parts) = parts

abbrev pub is_free : List Part → Bool
is_free [] = true
is_free (part ∷ parts) = takes_all part parts

-- the first word is of the first part, and those behind it are of the others
pub step : (parts : List Part) (ws : List (List ℕ)) → is_free parts ≡ false → AreOfForm parts ws → IsOfFirst parts (first ws) × AreOfForm (tail_of parts) (behind ws)
step [] ws e of = absurd (cc)
step (part ∷ parts) [] e of = absurd of
step (part ∷ parts) (word ∷ ws) e of = subst (λ (t : Bool). Unless t (IsOfPart part word × AreOfForm parts ws)) e of

then_some : {A B : Type 0} (f : A → Option B) (o : Option A) → is_some o ≡ true → ((x : A) → is_some (f x) ≡ true) → is_some (option_and_then f o) ≡ true
then_some f None h k = absurd (cc)
then_some f (Some x) h k = k x

map_some : {A B : Type 0} (f : A → B) (o : Option A) → is_some o ≡ true → is_some (option_map f o) ≡ true
map_some f None h = absurd (cc)
map_some f (Some x) h = refl

number-some : (least most : ℕ) (also : ℕ → Bool) (word : List ℕ) → IsNumber least most also word → is_some (number_of word) ≡ true
number-some least most also word is = ap is_some is.spelled

class-some : (word : List ℕ) → IsNumber 1 3 (λ n. true) word → is_some (class_of word) ≡ true
class-some word is =
    ap (λ (o : Option ℕ). is_some (option_and_then (λ n. if nat_le 1 n && nat_le n 3 then Some n else None) o)) is.spelled
    ∙ ap (λ (t : Bool). is_some (if t then Some is.value else None)) (both_true (le-leb 1 is.value is.low) (le-leb is.value 3 is.high))

name-some : (word : List ℕ) → IsName word → is_some (name_of word) ≡ true
name-some word is = ap (λ (t : Bool). is_some (if t then Some word else None)) is

value-some : (word : List ℕ) → IsValue word → is_some (value_of word) ≡ true
value-some word is = ap (λ (t : Bool). is_some (if t then Some word else None)) is

torn-some : (word : List ℕ) → is_hex word ≡ true → is_some (torn_of_hex word) ≡ true
torn-some word is = rw is refl

-- a choice whose second part is a site
with_site : (parts : List Part) (ws : List (List ℕ)) → AreOfForm (Site ∷ parts) (behind ws) → is_some (site_of (second ws)) ≡ true
with_site parts ws of = (step (Site ∷ parts) (behind ws) refl of).0

torn-last : (keyword : Word) (reason : Reason) (ws : List (List ℕ)) → AreOfForm (Site ∷ Keyword keyword reason ∷ Hex ∷ []) (behind ws) → is_some (torn_said ws) ≡ true
torn-last keyword reason ws of =
    let a = step (Site ∷ Keyword keyword reason ∷ Hex ∷ []) (behind ws) refl of in
    let b = step (Keyword keyword reason ∷ Hex ∷ []) (behind (behind ws)) refl a.1 in
    map_some _ (torn_of_hex (fourth ws)) (torn-some (fourth ws) (step (Hex ∷ []) (behind (behind (behind ws))) refl b.1).0)

choice-some : (f : ChoiceForm) (ws : List (List ℕ)) → AreOfForm (tail_of (choice_parts f)) (behind ws) → is_some (choice_said f ws) ≡ true
choice-some by.Tick ws of = refl
choice-some by.TickTimes ws of = refl
choice-some by.Step ws of = then_some _ (site_of (second ws)) (with_site (tail_of (tail_of (choice_parts by.Step))) ws of) (λ s. refl)
choice-some by.StepTimes ws of = then_some _ (site_of (second ws)) (with_site (tail_of (tail_of (choice_parts by.StepTimes))) ws of) (λ s. refl)
choice-some by.Lose ws of = then_some _ (site_of (second ws)) (with_site (tail_of (tail_of (choice_parts by.Lose))) ws of) (λ s. refl)
choice-some by.StopNothing ws of = then_some _ (site_of (second ws)) (with_site (tail_of (tail_of (choice_parts by.StopNothing))) ws of) (λ s. refl)
choice-some by.StopAll ws of = then_some _ (site_of (second ws)) (with_site (tail_of (tail_of (choice_parts by.StopAll))) ws of) (λ s. refl)
choice-some by.StopTorn ws of = then_some _ (site_of (second ws)) (with_site (tail_of (tail_of (choice_parts by.StopTorn))) ws of) (λ s. map_some _ (torn_said ws) (torn-last key.Torn BadOption ws of))
choice-some by.FailNothing ws of = then_some _ (site_of (second ws)) (with_site (tail_of (tail_of (choice_parts by.FailNothing))) ws of) (λ s. refl)
choice-some by.FailAll ws of = then_some _ (site_of (second ws)) (with_site (tail_of (tail_of (choice_parts by.FailAll))) ws of) (λ s. refl)
choice-some by.FailTorn ws of = then_some _ (site_of (second ws)) (with_site (tail_of (tail_of (choice_parts by.FailTorn))) ws of) (λ s. map_some _ (torn_said ws) (torn-last key.Torn BadOption ws of))
choice-some by.StartActive ws of = then_some _ (site_of (second ws)) (with_site (tail_of (tail_of (choice_parts by.StartActive))) ws of) (λ s. refl)
choice-some by.StartStandby ws of = then_some _ (site_of (second ws)) (with_site (tail_of (tail_of (choice_parts by.StartStandby))) ws of) (λ s. refl)
choice-some by.Abend ws of = then_some _ (site_of (second ws)) (with_site (tail_of (tail_of (choice_parts by.Abend))) ws of) (λ s. refl)
choice-some by.Confirm ws of = map_some _ (number_of (second ws)) (number-some 0 65535 _ (second ws) (step (Number 0 65535 ∷ []) (behind ws) refl of).0)
choice-some (by.Reply true) ws of = then_some _ (site_of (second ws)) (with_site (tail_of (tail_of (choice_parts (by.Reply true)))) ws of) (λ s. refl)
choice-some (by.Reply false) ws of = then_some _ (site_of (second ws)) (with_site (tail_of (tail_of (choice_parts (by.Reply false)))) ws of) (λ s. refl)
choice-some (by.Cebt PerformTakeover) ws of = then_some _ (site_of (second ws)) (with_site (tail_of (tail_of (choice_parts (by.Cebt PerformTakeover)))) ws of) (λ s. refl)
choice-some (by.Cebt PerformShutdown) ws of = then_some _ (site_of (second ws)) (with_site (tail_of (tail_of (choice_parts (by.Cebt PerformShutdown)))) ws of) (λ s. refl)
choice-some (by.Cebt InquireTakeover) ws of = then_some _ (site_of (second ws)) (with_site (tail_of (tail_of (choice_parts (by.Cebt InquireTakeover)))) ws of) (λ s. refl)
choice-some (by.Cebt InquireSurveillance) ws of = then_some _ (site_of (second ws)) (with_site (tail_of (tail_of (choice_parts (by.Cebt InquireSurveillance)))) ws of) (λ s. refl)
choice-some (by.Cebt (SetTakeover Auto)) ws of = then_some _ (site_of (second ws)) (with_site (tail_of (tail_of (choice_parts (by.Cebt (SetTakeover Auto))))) ws of) (λ s. refl)
choice-some (by.Cebt (SetTakeover Manual)) ws of = then_some _ (site_of (second ws)) (with_site (tail_of (tail_of (choice_parts (by.Cebt (SetTakeover Manual))))) ws of) (λ s. refl)
choice-some (by.Cebt (SetTakeover Command)) ws of = then_some _ (site_of (second ws)) (with_site (tail_of (tail_of (choice_parts (by.Cebt (SetTakeover Command))))) ws of) (λ s. refl)
choice-some (by.Cebt (SetSurveillance true)) ws of = then_some _ (site_of (second ws)) (with_site (tail_of (tail_of (choice_parts (by.Cebt (SetSurveillance true))))) ws of) (λ s. refl)
choice-some (by.Cebt (SetSurveillance false)) ws of = then_some _ (site_of (second ws)) (with_site (tail_of (tail_of (choice_parts (by.Cebt (SetSurveillance false))))) ws of) (λ s. refl)
choice-some (by.Exit answer.Abend) ws of = then_some _ (site_of (second ws)) (with_site (tail_of (tail_of (choice_parts (by.Exit answer.Abend)))) ws of) (λ s. refl)
choice-some (by.Exit answer.Keep) ws of = then_some _ (site_of (second ws)) (with_site (tail_of (tail_of (choice_parts (by.Exit answer.Keep)))) ws of) (λ s. refl)
choice-some (by.Exit answer.Drop) ws of = then_some _ (site_of (second ws)) (with_site (tail_of (tail_of (choice_parts (by.Exit answer.Drop)))) ws of) (λ s. refl)

counted-some : (f : ChoiceForm) (ws : List (List ℕ)) (c : Choice) → AreOfForm (tail_of (choice_parts f)) (behind ws) → is_some (counted f ws c) ≡ true
counted-some by.TickTimes ws c of = map_some _ (number_of (second ws)) (number-some 1 9999 _ (second ws) (step (Number 1 9999 ∷ []) (behind ws) refl of).0)
counted-some by.StepTimes ws c of =
    let a = step (Site ∷ Number 1 9999 ∷ []) (behind ws) refl of in
    map_some _ (number_of (third ws)) (number-some 1 9999 _ (third ws) (step (Number 1 9999 ∷ []) (behind (behind ws)) refl a.1).0)
counted-some by.Tick ws c of = refl
counted-some by.Step ws c of = refl
counted-some by.Lose ws c of = refl
counted-some by.StopNothing ws c of = refl
counted-some by.StopAll ws c of = refl
counted-some by.StopTorn ws c of = refl
counted-some by.FailNothing ws c of = refl
counted-some by.FailAll ws c of = refl
counted-some by.FailTorn ws c of = refl
counted-some by.StartActive ws c of = refl
counted-some by.StartStandby ws c of = refl
counted-some by.Abend ws c of = refl
counted-some by.Confirm ws c of = refl
counted-some (by.Reply go) ws c of = refl
counted-some (by.Cebt command) ws c of = refl
counted-some (by.Exit answer) ws c of = refl

-- behind the keyword with which a choice begins
choice-tail : (f : ChoiceForm) (ws : List (List ℕ)) → AreOfForm (choice_parts f) ws → AreOfForm (tail_of (choice_parts f)) (behind ws)
choice-tail by.Tick ws of = (step (choice_parts by.Tick) ws refl of).1
choice-tail by.TickTimes ws of = (step (choice_parts by.TickTimes) ws refl of).1
choice-tail by.Step ws of = (step (choice_parts by.Step) ws refl of).1
choice-tail by.StepTimes ws of = (step (choice_parts by.StepTimes) ws refl of).1
choice-tail by.Lose ws of = (step (choice_parts by.Lose) ws refl of).1
choice-tail by.StopNothing ws of = (step (choice_parts by.StopNothing) ws refl of).1
choice-tail by.StopAll ws of = (step (choice_parts by.StopAll) ws refl of).1
choice-tail by.StopTorn ws of = (step (choice_parts by.StopTorn) ws refl of).1
choice-tail by.FailNothing ws of = (step (choice_parts by.FailNothing) ws refl of).1
choice-tail by.FailAll ws of = (step (choice_parts by.FailAll) ws refl of).1
choice-tail by.FailTorn ws of = (step (choice_parts by.FailTorn) ws refl of).1
choice-tail by.StartActive ws of = (step (choice_parts by.StartActive) ws refl of).1
choice-tail by.StartStandby ws of = (step (choice_parts by.StartStandby) ws refl of).1
choice-tail by.Abend ws of = (step (choice_parts by.Abend) ws refl of).1
choice-tail by.Confirm ws of = (step (choice_parts by.Confirm) ws refl of).1
choice-tail (by.Reply true) ws of = (step (choice_parts (by.Reply true)) ws refl of).1
choice-tail (by.Reply false) ws of = (step (choice_parts (by.Reply false)) ws refl of).1
choice-tail (by.Cebt PerformTakeover) ws of = (step (choice_parts (by.Cebt PerformTakeover)) ws refl of).1
choice-tail (by.Cebt PerformShutdown) ws of = (step (choice_parts (by.Cebt PerformShutdown)) ws refl of).1
choice-tail (by.Cebt InquireTakeover) ws of = (step (choice_parts (by.Cebt InquireTakeover)) ws refl of).1
choice-tail (by.Cebt InquireSurveillance) ws of = (step (choice_parts (by.Cebt InquireSurveillance)) ws refl of).1
choice-tail (by.Cebt (SetTakeover Auto)) ws of = (step (choice_parts (by.Cebt (SetTakeover Auto))) ws refl of).1
choice-tail (by.Cebt (SetTakeover Manual)) ws of = (step (choice_parts (by.Cebt (SetTakeover Manual))) ws refl of).1
choice-tail (by.Cebt (SetTakeover Command)) ws of = (step (choice_parts (by.Cebt (SetTakeover Command))) ws refl of).1
choice-tail (by.Cebt (SetSurveillance true)) ws of = (step (choice_parts (by.Cebt (SetSurveillance true))) ws refl of).1
choice-tail (by.Cebt (SetSurveillance false)) ws of = (step (choice_parts (by.Cebt (SetSurveillance false))) ws refl of).1
choice-tail (by.Exit answer.Abend) ws of = (step (choice_parts (by.Exit answer.Abend)) ws refl of).1
choice-tail (by.Exit answer.Keep) ws of = (step (choice_parts (by.Exit answer.Keep)) ws refl of).1
choice-tail (by.Exit answer.Drop) ws of = (step (choice_parts (by.Exit answer.Drop)) ws refl of).1

-- the same behind PLAN and a tick
planned-tail : (f : ChoiceForm) (ws : List (List ℕ)) → AreOfForm (behind_plan (choice_parts f)) ws → AreOfForm (tail_of (choice_parts f)) (behind ws)
planned-tail by.Tick ws of = (step (behind_plan (choice_parts by.Tick)) ws refl of).1
planned-tail by.TickTimes ws of = (step (behind_plan (choice_parts by.TickTimes)) ws refl of).1
planned-tail by.Step ws of = (step (behind_plan (choice_parts by.Step)) ws refl of).1
planned-tail by.StepTimes ws of = (step (behind_plan (choice_parts by.StepTimes)) ws refl of).1
planned-tail by.Lose ws of = (step (behind_plan (choice_parts by.Lose)) ws refl of).1
planned-tail by.StopNothing ws of = (step (behind_plan (choice_parts by.StopNothing)) ws refl of).1
planned-tail by.StopAll ws of = (step (behind_plan (choice_parts by.StopAll)) ws refl of).1
planned-tail by.StopTorn ws of = (step (behind_plan (choice_parts by.StopTorn)) ws refl of).1
planned-tail by.FailNothing ws of = (step (behind_plan (choice_parts by.FailNothing)) ws refl of).1
planned-tail by.FailAll ws of = (step (behind_plan (choice_parts by.FailAll)) ws refl of).1
planned-tail by.FailTorn ws of = (step (behind_plan (choice_parts by.FailTorn)) ws refl of).1
planned-tail by.StartActive ws of = (step (behind_plan (choice_parts by.StartActive)) ws refl of).1
planned-tail by.StartStandby ws of = (step (behind_plan (choice_parts by.StartStandby)) ws refl of).1
planned-tail by.Abend ws of = (step (behind_plan (choice_parts by.Abend)) ws refl of).1
planned-tail by.Confirm ws of = (step (behind_plan (choice_parts by.Confirm)) ws refl of).1
planned-tail (by.Reply true) ws of = (step (behind_plan (choice_parts (by.Reply true))) ws refl of).1
planned-tail (by.Reply false) ws of = (step (behind_plan (choice_parts (by.Reply false))) ws refl of).1
planned-tail (by.Cebt PerformTakeover) ws of = (step (behind_plan (choice_parts (by.Cebt PerformTakeover))) ws refl of).1
planned-tail (by.Cebt PerformShutdown) ws of = (step (behind_plan (choice_parts (by.Cebt PerformShutdown))) ws refl of).1
planned-tail (by.Cebt InquireTakeover) ws of = (step (behind_plan (choice_parts (by.Cebt InquireTakeover))) ws refl of).1
planned-tail (by.Cebt InquireSurveillance) ws of = (step (behind_plan (choice_parts (by.Cebt InquireSurveillance))) ws refl of).1
planned-tail (by.Cebt (SetTakeover Auto)) ws of = (step (behind_plan (choice_parts (by.Cebt (SetTakeover Auto)))) ws refl of).1
planned-tail (by.Cebt (SetTakeover Manual)) ws of = (step (behind_plan (choice_parts (by.Cebt (SetTakeover Manual)))) ws refl of).1
planned-tail (by.Cebt (SetTakeover Command)) ws of = (step (behind_plan (choice_parts (by.Cebt (SetTakeover Command)))) ws refl of).1
planned-tail (by.Cebt (SetSurveillance true)) ws of = (step (behind_plan (choice_parts (by.Cebt (SetSurveillance true)))) ws refl of).1
planned-tail (by.Cebt (SetSurveillance false)) ws of = (step (behind_plan (choice_parts (by.Cebt (SetSurveillance false)))) ws refl of).1
planned-tail (by.Exit answer.Abend) ws of = (step (behind_plan (choice_parts (by.Exit answer.Abend))) ws refl of).1
planned-tail (by.Exit answer.Keep) ws of = (step (behind_plan (choice_parts (by.Exit answer.Keep))) ws refl of).1
planned-tail (by.Exit answer.Drop) ws of = (step (behind_plan (choice_parts (by.Exit answer.Drop))) ws refl of).1

once-some : (f : ChoiceForm) (ws : List (List ℕ)) → AreOfForm (choice_parts f) ws → is_some (once_said f ws) ≡ true
once-some f ws of =
    let tail = choice-tail f ws of in
    then_some (counted f ws) (choice_said f ws) (choice-some f ws tail) (λ c. counted-some f ws c tail)

plan-some : (f : ChoiceForm) (ws : List (List ℕ)) → AreOfForm (planned_parts f) ws → is_some (plan_said f ws) ≡ true
plan-some f ws of =
    let a = step (planned_parts f) ws refl of in
    let b = step (tail_of (planned_parts f)) (behind ws) refl a.1 in
    then_some _ (number_of (second ws)) (number-some 0 200 _ (second ws) b.0)
    (λ tick. map_some _ (choice_said f (behind (behind ws))) (choice-some f (behind (behind ws)) (planned-tail f (behind (behind ws)) b.1)))

-- the operands of a line of work, from the fourth word on
work-some : (f : ItemForm) (ws : List (List ℕ)) → AreOfForm (work_parts f) ws → is_some (work_said f ws) ≡ true
work-some work.Begin ws of =
    let a = step (work_parts work.Begin) ws refl of in
    let b = step (tail_of (work_parts work.Begin)) (behind ws) refl a.1 in
    let c = step (tail_of (tail_of (work_parts work.Begin))) (behind (behind ws)) refl b.1 in
    let d = step (tail_of (tail_of (tail_of (work_parts work.Begin)))) (behind (behind (behind ws))) refl c.1 in
    then_some _ (site_of (second ws)) b.0 (λ s. map_some _ (item_said work.Begin ws) (map_some _ (name_of (fourth ws)) (name-some (fourth ws) d.0)))
work-some work.Commit ws of =
    let a = step (work_parts work.Commit) ws refl of in
    let b = step (tail_of (work_parts work.Commit)) (behind ws) refl a.1 in
    let c = step (tail_of (tail_of (work_parts work.Commit))) (behind (behind ws)) refl b.1 in
    let d = step (tail_of (tail_of (tail_of (work_parts work.Commit)))) (behind (behind (behind ws))) refl c.1 in
    then_some _ (site_of (second ws)) b.0 (λ s. map_some _ (item_said work.Commit ws) (map_some _ (name_of (fourth ws)) (name-some (fourth ws) d.0)))
work-some work.Roll ws of =
    let a = step (work_parts work.Roll) ws refl of in
    let b = step (tail_of (work_parts work.Roll)) (behind ws) refl a.1 in
    let c = step (tail_of (tail_of (work_parts work.Roll))) (behind (behind ws)) refl b.1 in
    let d = step (tail_of (tail_of (tail_of (work_parts work.Roll)))) (behind (behind (behind ws))) refl c.1 in
    then_some _ (site_of (second ws)) b.0 (λ s. map_some _ (item_said work.Roll ws) (map_some _ (name_of (fourth ws)) (name-some (fourth ws) d.0)))
work-some work.Logoff ws of =
    let a = step (work_parts work.Logoff) ws refl of in
    let b = step (tail_of (work_parts work.Logoff)) (behind ws) refl a.1 in
    let c = step (tail_of (tail_of (work_parts work.Logoff))) (behind (behind ws)) refl b.1 in
    let d = step (tail_of (tail_of (tail_of (work_parts work.Logoff)))) (behind (behind (behind ws))) refl c.1 in
    then_some _ (site_of (second ws)) b.0 (λ s. map_some _ (item_said work.Logoff ws) (map_some _ (name_of (fourth ws)) (name-some (fourth ws) d.0)))
work-some work.Signoff ws of =
    let a = step (work_parts work.Signoff) ws refl of in
    let b = step (tail_of (work_parts work.Signoff)) (behind ws) refl a.1 in
    let c = step (tail_of (tail_of (work_parts work.Signoff))) (behind (behind ws)) refl b.1 in
    let d = step (tail_of (tail_of (tail_of (work_parts work.Signoff)))) (behind (behind (behind ws))) refl c.1 in
    then_some _ (site_of (second ws)) b.0 (λ s. map_some _ (item_said work.Signoff ws) (map_some _ (name_of (fourth ws)) (name-some (fourth ws) d.0)))
work-some work.Get ws of =
    let a = step (work_parts work.Get) ws refl of in
    let b = step (tail_of (work_parts work.Get)) (behind ws) refl a.1 in
    let c = step (tail_of (tail_of (work_parts work.Get))) (behind (behind ws)) refl b.1 in
    let d = step (tail_of (tail_of (tail_of (work_parts work.Get)))) (behind (behind (behind ws))) refl c.1 in
    let e = step (tail_of (tail_of (tail_of (tail_of (work_parts work.Get))))) (behind (behind (behind (behind ws)))) refl d.1 in
    then_some _ (site_of (second ws)) b.0 (λ s. map_some _ (item_said work.Get ws) (then_some _ (name_of (fourth ws)) (name-some (fourth ws) d.0) (λ u. map_some _ (number_of (fifth ws)) (number-some 0 65535 _ (fifth ws) e.0))))
work-some work.Put ws of =
    let a = step (work_parts work.Put) ws refl of in
    let b = step (tail_of (work_parts work.Put)) (behind ws) refl a.1 in
    let c = step (tail_of (tail_of (work_parts work.Put))) (behind (behind ws)) refl b.1 in
    let d = step (tail_of (tail_of (tail_of (work_parts work.Put)))) (behind (behind (behind ws))) refl c.1 in
    let e = step (tail_of (tail_of (tail_of (tail_of (work_parts work.Put))))) (behind (behind (behind (behind ws)))) refl d.1 in
    let f = step (tail_of (tail_of (tail_of (tail_of (tail_of (work_parts work.Put)))))) (behind (behind (behind (behind (behind ws))))) refl e.1 in
    then_some _ (site_of (second ws)) b.0 (λ s. map_some _ (item_said work.Put ws) (then_some _ (name_of (fourth ws)) (name-some (fourth ws) d.0) (λ u. then_some _ (number_of (fifth ws)) (number-some 0 65535 _ (fifth ws) e.0) (λ n. map_some _ (value_of (sixth ws)) (value-some (sixth ws) f.0)))))
work-some work.Logon ws of =
    let a = step (work_parts work.Logon) ws refl of in
    let b = step (tail_of (work_parts work.Logon)) (behind ws) refl a.1 in
    let c = step (tail_of (tail_of (work_parts work.Logon))) (behind (behind ws)) refl b.1 in
    let d = step (tail_of (tail_of (tail_of (work_parts work.Logon)))) (behind (behind (behind ws))) refl c.1 in
    let e = step (tail_of (tail_of (tail_of (tail_of (work_parts work.Logon))))) (behind (behind (behind (behind ws)))) refl d.1 in
    then_some _ (site_of (second ws)) b.0 (λ s. map_some _ (item_said work.Logon ws) (then_some _ (name_of (fourth ws)) (name-some (fourth ws) d.0) (λ u. map_some _ (class_of (fifth ws)) (class-some (fifth ws) e.0))))
work-some work.Signon ws of =
    let a = step (work_parts work.Signon) ws refl of in
    let b = step (tail_of (work_parts work.Signon)) (behind ws) refl a.1 in
    let c = step (tail_of (tail_of (work_parts work.Signon))) (behind (behind ws)) refl b.1 in
    let d = step (tail_of (tail_of (tail_of (work_parts work.Signon)))) (behind (behind (behind ws))) refl c.1 in
    let e = step (tail_of (tail_of (tail_of (tail_of (work_parts work.Signon))))) (behind (behind (behind (behind ws)))) refl d.1 in
    then_some _ (site_of (second ws)) b.0 (λ s. map_some _ (item_said work.Signon ws) (then_some _ (name_of (fourth ws)) (name-some (fourth ws) d.0) (λ u. map_some _ (name_of (fifth ws)) (name-some (fifth ws) e.0))))
work-some work.Shutdown ws of =
    let a = step (work_parts work.Shutdown) ws refl of in
    let b = step (tail_of (work_parts work.Shutdown)) (behind ws) refl a.1 in
    then_some _ (site_of (second ws)) b.0 (λ s. refl)
work-some work.ShutdownTakeover ws of =
    let a = step (work_parts work.ShutdownTakeover) ws refl of in
    let b = step (tail_of (work_parts work.ShutdownTakeover)) (behind ws) refl a.1 in
    then_some _ (site_of (second ws)) b.0 (λ s. refl)

-- the second word of a setting that is one number is of the part of its number
pub number-part : (quantity : Quantity) (ws : List (List ℕ)) → AreOfForm (parts_of (form.Quantity quantity)) ws → IsOfPart (range_of quantity) (second ws)
number-part quantity ws of = (step (range_of quantity ∷ []) (behind ws) (is-quantity quantity).one_word (step (parts_of (form.Quantity quantity)) ws refl of).1).0

-- words of a form say something
pub said-some : (f : Form) (ws : List (List ℕ)) → AreOfForm (parts_of f) ws → is_some (said f ws) ≡ true
said-some form.Applid ws of =
    let a = step (parts_of form.Applid) ws refl of in
    let b = step (tail_of (parts_of form.Applid)) (behind ws) refl a.1 in
    let c = step (tail_of (tail_of (parts_of form.Applid))) (behind (behind ws)) refl b.1 in
    then_some _ (site_of (second ws)) b.0 (λ s. map_some _ (name_of (third ws)) (name-some (third ws) c.0))
said-some form.Level ws of =
    let a = step (parts_of form.Level) ws refl of in
    let b = step (tail_of (parts_of form.Level)) (behind ws) refl a.1 in
    let c = step (tail_of (tail_of (parts_of form.Level))) (behind (behind ws)) refl b.1 in
    then_some _ (site_of (second ws)) b.0 (λ s. map_some _ (number_of (third ws)) (number-some 1 2 _ (third ws) c.0))
said-some form.Record ws of =
    let a = step (parts_of form.Record) ws refl of in
    let b = step (tail_of (parts_of form.Record)) (behind ws) refl a.1 in
    let c = step (tail_of (tail_of (parts_of form.Record))) (behind (behind ws)) refl b.1 in
    then_some _ (number_of (second ws)) (number-some 1 256 _ (second ws) b.0) (λ n. map_some _ (value_of (third ws)) (value-some (third ws) c.0))
said-some (form.Takeovr mode) ws of = refl
said-some (form.Images on) ws of = refl
said-some (form.Xrfsoff force) ws of = refl
said-some form.CltCancel ws of = refl
said-some form.CltCommand ws of = refl
said-some form.CltWto ws of = refl
said-some form.Choices ws of = refl
said-some form.End ws of = refl
said-some (form.Work f) ws of = work-some f ws of
said-some (form.Plan f) ws of = plan-some f ws of
said-some (form.Choice f) ws of = once-some f ws of
said-some (form.Quantity quantity) ws of = map_some _ (number_of (second ws)) (quantity-read quantity (second ws) (number-part quantity ws of))
