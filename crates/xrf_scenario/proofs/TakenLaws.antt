-- What is said stays within its bounds where a line is taken.
use Rattle.std.proofs.Common.{◌≡◌, ◌≤◌, ◌+◌, ℕ, Bool, List, ◌++◌, length, replicate, Result, Ok, Err, sym, ◌∙◌, ap, refl, subst}
use Rattle.std.proofs.lemmas.Bool.{le-leb}
use Rattle.xrf_base.specs.declared.items.Item.{Item}
use Rattle.xrf_base.specs.declared.site.Site.{Site}
use Rattle.xrf_grammar.specs.declared.line.Line.{Line}
use Rattle.xrf_grammar.specs.declared.line.Line.TheVariants.{Record, Clt, Work, Plan, Choices, Once, Times, End}
use Rattle.xrf_grammar.specs.declared.reason.Reason.{Reason}
use Rattle.xrf_setup.specs.Choices.{HasLine}
use Rattle.xrf_setup.specs.declared.choice.Choice.{Choice}
use Rattle.xrf_setup.specs.declared.format.Format.{Format}
use Rattle.xrf_scenario.specs.Outcomes.{Takes}
use Rattle.xrf_scenario.specs.Said.{IsLineSaid, IsSaid}
use Rattle.xrf_scenario.specs.SoFar.{SoFar}
use Rattle.xrf_scenario.specs.Taking.{take, take_setting, with_room, has_choice_room, numbered}
use Rattle.xrf_scenario.specs.declared.section.Section.TheVariants.{Settings, Making}
use Rattle.xrf_scenario.specs.declared.numbered.Numbered.{Numbered}
use Rattle.xrf_scenario.specs.declared.stop.Stop.{Stop}
use Rattle.xrf_scenario.specs.declared.stop.Stop.TheVariants.{Fault, NoMemory}
use Rattle.xrf_scenario.proofs.SaidLaws.{choices-taken, clt-taken, line-taken}

-- what is made is within its bounds, and so is what stays
stays : {T : Type 0} (result : Result T Stop) (so new : SoFar) (made : Result SoFar Reason) → Takes result so new made → IsSaid so → ((next : SoFar) → made ≡ Ok next → IsSaid next) → IsSaid new
stays (Ok done) so new made takes said within = within new takes
stays (Err (Fault reason)) so new made takes said within = subst IsSaid (sym takes.1) said
stays (Err NoMemory) so new made takes said within = subst IsSaid (sym takes) said

-- a line before the choices
pub setting-stays : {T : Type 0} (result : Result T Stop) (was so new : SoFar) (ws : List (List ℕ)) (line l : Line) → so ≡ was → line ≡ l → was.section ≡ Settings → IsLineSaid was.format ws line → IsSaid so
    → Takes result so new (take 0 so ws l) → IsSaid new
setting-stays result was so new ws line l same is section known said takes =
    let here : so.section ≡ Settings = ap (λ (s : SoFar). s.section) same ∙ section in
    let spelled : IsLineSaid so.format ws l = subst (IsLineSaid so.format ws) is (subst (λ (s : SoFar). IsLineSaid s.format ws line) (sym same) known) in
    stays result so new (take 0 so ws l) takes said (λ next h. by here l spelled next h)
  where
    by : so.section ≡ Settings → (l : Line) → IsLineSaid so.format ws l → (next : SoFar) → take 0 so ws l ≡ Ok next → IsSaid next
    by here Clt known next h = clt-taken 0 so next ws here said known.1 h
    by here l known next h = line-taken 0 so next ws l here said known h

-- what is known of a line before the choices that is none of the lists: it is a setting
pub as-setting : (number : ℕ) (so : SoFar) (format : Format) (ws : List (List ℕ)) (l : Line) → IsLineSaid format ws l → ((n : ℕ) (value : List ℕ) → l ≡ Record n value → ⊥) → (l ≡ Clt → ⊥)
    → ((site : Site) (i : Item) → l ≡ Work site i → ⊥) → ((tick : ℕ) (c : Choice) → l ≡ Plan tick c → ⊥) → (l ≡ Choices → ⊥) → take number so ws l ≡ take_setting so so.given l
as-setting number so format ws (Record n value) known rec clt work plan choices = absurd (rec n value refl)
as-setting number so format ws Clt known rec clt work plan choices = absurd (clt refl)
as-setting number so format ws (Work site i) known rec clt work plan choices = absurd (work site i refl)
as-setting number so format ws (Plan tick c) known rec clt work plan choices = absurd (plan tick c refl)
as-setting number so format ws Choices known rec clt work plan choices = absurd (choices refl)
as-setting number so format ws (Once c) known rec clt work plan choices = absurd known
as-setting number so format ws (Times c count) known rec clt work plan choices = absurd known
as-setting number so format ws End known rec clt work plan choices = absurd known
as-setting number so format ws l known rec clt work plan choices = refl

-- a choice of a line, so many times, where there is room
pub choices-stay : (was so : SoFar) (choices : List Numbered) (number : ℕ) (c : Choice) (count : ℕ) → so ≡ was → was.section ≡ Making → HasLine c → IsSaid so
    → choices ≡ so.choices ++ replicate count (numbered number c) → length so.choices + count ≤ 8192 → IsSaid (record so { choices = choices })
choices-stay was so choices number c count same section is said more room =
    let here : so.section ≡ Making = ap (λ (s : SoFar). s.section) same ∙ section in
    let next : SoFar = record so { choices = so.choices ++ replicate count (numbered number c) } in
    let fits : with_room (has_choice_room so count) next ≡ Ok next = ap (λ (b : Bool). with_room b next) (le-leb (length so.choices + count) 8192 room) in
    subst (λ (cs : List Numbered). IsSaid (record so { choices = cs })) (sym more) (choices-taken number so next c count here said is fits)
