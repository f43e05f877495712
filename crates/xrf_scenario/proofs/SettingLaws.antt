-- What is written of the settings says all of them.
use Rattle.std.proofs.Common.{◌≡◌, ◌==◌, ◌&&◌, ℕ, Bool, true, Option, Some, None, Ok, List, [], ◌∷◌, ◌++◌, ◌+◌, length, get_or, slice_set, map, append_assoc, length-append, refl, sym, ap, subst, ◌∙◌}
use Rattle.std.specs.List.{AllByRecursion}
use Rattle.std.proofs.lemmas.Bool.{and_parts, eqb-true}
use Rattle.std.proofs.lemmas.List.{get_or_at, set_at}
use Rattle.xrf_base.specs.declared.site.Site.TheVariants.{A, B}
use Rattle.xrf_ctl.specs.declared.parts.Level.{Level as Program}
use Rattle.xrf_ctl.specs.declared.parts.Level.TheVariants as level
use Rattle.xrf_text.specs.Text.{words}
use Rattle.xrf_setup.specs.declared.format.Format.{Format}
use Rattle.xrf_setup.specs.declared.format.Format.TheVariants.{One, Two}
use Rattle.xrf_grammar.specs.Quantities.{quantities, place_of, quantity_of}
use Rattle.xrf_grammar.specs.declared.quantity.Quantity.{Quantity as Setting}
use Rattle.xrf_grammar.specs.declared.line.Line.{Line}
use Rattle.xrf_grammar.specs.declared.line.Line.TheVariants.{Applid, Takeovr, Quantity, Images, Level, Xrfsoff}
use Rattle.xrf_grammar.specs.LineText.{IsSetting, line_text}
use Rattle.xrf_scenario.specs.Reading.{SaysAll}
use Rattle.xrf_scenario.specs.SettingLines.{level_number, level_lines, quantity_lines, setting_lines}
use Rattle.xrf_setup.specs.Settings.{AreLevels}
use Rattle.xrf_scenario.specs.Settled.{level_named, settled}
use Rattle.xrf_scenario.specs.SoFar.{SoFar, nothing_given}
use Rattle.xrf_scenario.specs.Taking.{take}
use Rattle.xrf_scenario.specs.declared.given.Given.{Given}
use Rattle.xrf_scenario.specs.declared.section.Section.TheVariants as section
use Rattle.xrf_setup.specs.declared.settings.Settings.{Settings}
use Rattle.xrf_scenario.proofs.SettingsKept.{level-again}
use Rattle.xrf_scenario.proofs.StepLaws.{setting-written}

-- what is given of some quantities, and where nothing is
abbrev values_of : Settings → List Setting → List (Option ℕ)
values_of t qs = map (λ (q : Setting). Some (quantity_of t q)) qs

abbrev nothing_of : List Setting → List (Option ℕ)
nothing_of qs = map (λ (q : Setting). None) qs

-- what is given where all settings but the levels are
abbrev without_levels : Settings → Given
without_levels t = record {
  applid_a = Some t.applid_a;
  applid_b = Some t.applid_b;
  takeovr = Some t.takeovr;
  quantities = values_of t quantities;
  images = Some t.images;
  level_a = None;
  level_b = None;
  force = None;
}

-- what is given under XRF 2 alone
abbrev pub under_two : {X : Type 0} → Format → X → Option X
under_two One x = None
under_two Two x = Some x

-- what is given where all settings are
abbrev pub given_of : Format → Settings → Given
given_of format t = record (without_levels t) { level_a = under_two format (level_number t.level_a); level_b = under_two format (level_number t.level_b); force = under_two format t.force }

-- what is said, with other settings
abbrev pub with_given : SoFar → Given → SoFar
with_given so given = record so { given = given }

-- What is written of some lines, whatever their number, gives some settings behind others.
abbrev Give : SoFar → Given → List Line → Given → Type 0
Give so before lines last = (count : ℕ) → SaysAll count (with_given so before) (map line_text lines) (with_given so last)

-- what is written of a setting gives it, and the lines behind it the others
gives : (so : SoFar) (line : Line) (lines : List Line) (before after last : Given) → so.section ≡ section.Settings → IsSetting so.format line
    → ((number : ℕ) → take number (with_given so before) (words (line_text line)) line ≡ Ok (with_given so after))
    → Give so after lines last → Give so before (line ∷ lines) last
gives so line lines before after last section is takes others =
    λ (count : ℕ). (
      with_given so after,
      (setting-written (count + 1) (with_given so before) line (with_given so after) section is (takes (count + 1)), others (count + 1)),
    )

-- what is written of the levels gives them
levels-give : (so : SoFar) (format : Format) (t : Settings) → so.section ≡ section.Settings → AllByRecursion (IsSetting so.format) (level_lines format t)
    → Give so (without_levels t) (level_lines format t) (given_of format t)
levels-give so One t section are = λ count. refl
levels-give so Two t section are =
    let g0 : Given = without_levels t in
    let g1 : Given = record g0 { level_a = Some (level_number t.level_a) } in
    let g2 : Given = record g1 { level_b = Some (level_number t.level_b) } in
    let g3 : Given = record g2 { force = Some t.force } in
    let s3 : Give so g3 [] g3 = λ count. refl in
    let s2 : Give so g2 (Xrfsoff t.force ∷ []) g3 = gives so (Xrfsoff t.force) [] g2 g3 g3 section are.1.1.0 (λ number. refl) s3 in
    let s1 : Give so g1 (Level B (level_number t.level_b) ∷ Xrfsoff t.force ∷ []) g3 =
    gives so (Level B (level_number t.level_b)) (Xrfsoff t.force ∷ []) g1 g2 g3 section are.1.0 (λ number. refl) s2 in
    gives so (Level A (level_number t.level_a)) (Level B (level_number t.level_b) ∷ Xrfsoff t.force ∷ []) g0 g1 g3 section are.0 (λ number. refl) s1

-- each of some quantities stands at its place, the first of them at this one
abbrev stand_from : ℕ → List Setting → Bool
stand_from place [] = true
stand_from place (q ∷ qs) = (place_of q == place) && stand_from (place + 1) qs

-- a line that gives a quantity
abbrev line_of : Settings → Setting → Line
line_of t q = Quantity q (quantity_of t q)

-- what is written of quantities gives them, behind those that are given
quantities-give : (so : SoFar) (t : Settings) (given last : Given) (done : List (Option ℕ)) (qs : List Setting) (lines : List Line) → so.section ≡ section.Settings → stand_from (length done) qs ≡ true
    → AllByRecursion (IsSetting so.format) (map (line_of t) qs) → Give so (record given { quantities = done ++ values_of t qs }) lines last
    → Give so (record given { quantities = done ++ nothing_of qs }) (map (line_of t) qs ++ lines) last
quantities-give so t given last done [] lines section stand are others = others
quantities-give so t given last done (q ∷ qs) lines section stand are others =
    gives so (line_of t q) (map (line_of t) qs ++ lines) (of (done ++ None ∷ nothing_of qs)) (of (done ++ value ∷ nothing_of qs)) last section are.0 (λ number. rw (free, filled) refl)
    (subst (λ (held : List (Option ℕ)). Give so (of held) (map (line_of t) qs ++ lines) last) (append_assoc done (value ∷ []) (nothing_of qs))
    (quantities-give so t given last (done ++ value ∷ []) qs lines section (rw (length-append done (value ∷ [])) later) are.1
    (subst (λ (held : List (Option ℕ)). Give so (of held) lines last) (sym (append_assoc done (value ∷ []) (values_of t qs))) others)))
  where
    of : List (Option ℕ) → Given
    of held = record given { quantities = held }

    value : Option ℕ
    value = Some (quantity_of t q)

    place : place_of q ≡ length done
    place = eqb-true (place_of q) (length done) (and_parts (place_of q == length done) (stand_from (length done + 1) qs) stand).0

    later : stand_from (length done + 1) qs ≡ true
    later = (and_parts (place_of q == length done) (stand_from (length done + 1) qs) stand).1

    free : get_or (done ++ None ∷ nothing_of qs) (place_of q) None ≡ None
    free = get_or_at done None (nothing_of qs) None (place_of q) (sym place)

    filled : slice_set (done ++ None ∷ nothing_of qs) (place_of q) value ≡ done ++ value ∷ nothing_of qs
    filled = set_at done None (nothing_of qs) value (place_of q) (sym place)

-- what holds of all lines of two lists holds of those of each
both-lists : (P : Line → Type 0) (front back : List Line) → AllByRecursion P (front ++ back) → AllByRecursion P front × AllByRecursion P back
both-lists P [] back are = (tt, are)
both-lists P (l ∷ front) back are = let both = both-lists P front back are.1 in ((are.0, both.0), both.1)

-- What is written of the settings says all of them.
pub settings-say : (count : ℕ) (so : SoFar) (t : Settings) → so.section ≡ section.Settings → AllByRecursion (IsSetting so.format) (setting_lines t)
    → SaysAll count (with_given so nothing_given) (map line_text (setting_lines t)) (with_given so (given_of t.format t))
settings-say count so t section are =
    let g1 : Given = record nothing_given { applid_a = Some t.applid_a } in
    let g2 : Given = record g1 { applid_b = Some t.applid_b } in
    let g3 : Given = record g2 { takeovr = Some t.takeovr } in
    let g4 : Given = record g3 { quantities = values_of t quantities } in
    let g5 : Given = record g4 { images = Some t.images } in
    let last : Given = given_of t.format t in
    let l5 : List Line = level_lines t.format t in
    let l4 : List Line = Images t.images ∷ l5 in
    let l3 : List Line = quantity_lines t ++ l4 in
    let l2 : List Line = Takeovr t.takeovr ∷ l3 in
    let l1 : List Line = Applid B t.applid_b ∷ l2 in
    let a1 = are.1 in
    let a2 = a1.1 in
    let a3 = both-lists (IsSetting so.format) (quantity_lines t) l4 a2.1 in
    let s5 : Give so g5 l5 last = levels-give so t.format t section a3.1.1 in
    let s4 : Give so g4 l4 last = gives so (Images t.images) l5 g4 g5 last section a3.1.0 (λ number. refl) s5 in
    let s3 : Give so g3 l3 last = quantities-give so t g3 last [] quantities l4 section refl a3.0 s4 in
    let s2 : Give so g2 l2 last = gives so (Takeovr t.takeovr) l3 g2 g3 last section a2.0 (λ number. refl) s3 in
    let s1 : Give so g1 l1 last = gives so (Applid B t.applid_b) l2 g1 g2 last section a1.0 (λ number. refl) s2 in
    gives so (Applid A t.applid_a) l1 nothing_given g1 last section are.0 (λ number. refl) s1 count

-- The settings that are all given are these.
pub settled-again : (t : Settings) → AreLevels t.format t → t ≡ settled t.format (given_of t.format t)
settled-again t = by t.format refl
  where
    with : Format → Program → Program → Bool → Settings
    with format level_a level_b force = record t { format = format; level_a = level_a; level_b = level_b; force = force }

    by : (format : Format) → t.format ≡ format → AreLevels format t → t ≡ settled format (given_of format t)
    by One e levels =
        ap (λ (f : Format). with f t.level_a t.level_b t.force) e ∙ ap (λ (l : Program). with One l t.level_b t.force) levels.0
        ∙ ap (λ (l : Program). with One level.One l t.force) levels.1 ∙ ap (with One level.One level.One) levels.2
    by Two e levels =
        ap (λ (f : Format). with f t.level_a t.level_b t.force) e ∙ ap (λ (l : Program). with Two l t.level_b t.force) (level-again t.level_a)
        ∙ ap (λ (l : Program). with Two (level_named (level_number t.level_a)) l t.force) (level-again t.level_b)
