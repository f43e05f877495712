-- How the canonical text is written part by part.
use Rattle.std.proofs.Common.{◌≡◌, ◌+◌, ℕ, zero, suc, List, [], ◌∷◌, ◌++◌, Some, slice_get, take, map, codes, sym, ◌∙◌, ap, append_assoc, arith}
use Rattle.std.proofs.lemmas.List.{append-nil}
use Rattle.xrf_base.specs.declared.items.Item.{Item}
use Rattle.xrf_base.specs.declared.site.Site.TheVariants.{A, B}
use Rattle.xrf_clt.specs.Kept.{Kept}
use Rattle.xrf_grammar.specs.LineText.{header_text, line_text}
use Rattle.xrf_grammar.specs.declared.line.Line.TheVariants.{Applid, Takeovr, Images, Work}
use Rattle.xrf_scenario.specs.Canonical.{fed, text_of, record_lines, clt_lines, plan_lines, scenario_lines}
use Rattle.xrf_setup.specs.Scenario.{Scen}
use Rattle.xrf_scenario.specs.SettingLines.{setting_lines, quantity_lines, level_lines}
use Rattle.xrf_setup.specs.Commands.{kept_text}
use Rattle.xrf_setup.specs.declared.settings.Settings.{Settings}
use Rattle.xrf_scenario.proofs.TextLaws.{text-both}

-- what is kept of one more line of the command list
abbrev command_text : Kept → List ℕ
command_text k = fed (codes "CLT " ++ kept_text k)

taken-next : (clt : List Kept) (place : ℕ) (k : Kept) → slice_get clt place ≡ Some k → text_of (clt_lines (take (suc place) clt)) ≡ text_of (clt_lines (take place clt)) ++ command_text k
taken-next [] place k at = absurd (cc)
taken-next (x ∷ xs) zero k at = let same : x ≡ k = cc in append-nil (command_text x) ∙ ap command_text same
taken-next (x ∷ xs) (suc place) k at =
    ap (λ (text : List ℕ). command_text x ++ text) (taken-next xs place k at) ∙ sym (append_assoc (command_text x) (text_of (clt_lines (take place xs))) (command_text k))

-- one more line of the command list is written behind those before it
pub clt-next : (out before after : List ℕ) (clt : List Kept) (place : ℕ) (k : Kept) → before ≡ out ++ text_of (clt_lines (take place clt)) → slice_get clt place ≡ Some k
    → after ≡ before ++ command_text k → after ≡ out ++ text_of (clt_lines (take (place + 1) clt))
clt-next out before after clt place k so_far at next =
    let place_next : place + 1 ≡ suc place = omega arith in
    rw place_next
    (next ∙ ap (λ (text : List ℕ). text ++ command_text k) so_far ∙ append_assoc out (text_of (clt_lines (take place clt))) (command_text k)
    ∙ ap (λ (text : List ℕ). out ++ text) (sym (taken-next clt place k at)))

-- the header, and the first lines behind it
header-written : (o head line after : List ℕ) (header : List ℕ) (ls : List (List ℕ)) → head ≡ o ++ header → line ≡ head ++ 10 ∷ [] → after ≡ line ++ text_of ls → after ≡ o ++ text_of (header ∷ ls)
header-written o head line after header ls first feed more =
    more ∙ ap (λ (text : List ℕ). text ++ text_of ls) (feed ∙ ap (λ (text : List ℕ). text ++ 10 ∷ []) first ∙ append_assoc o header (10 ∷ [])) ∙ append_assoc o (fed header) (text_of ls)

-- more lines behind those that are written
more-written : (o before after : List ℕ) (ls ms : List (List ℕ)) → before ≡ o ++ text_of ls → after ≡ before ++ text_of ms → after ≡ o ++ text_of (ls ++ ms)
more-written o before after ls ms so_far more =
    more ∙ ap (λ (text : List ℕ). text ++ text_of ms) so_far ∙ append_assoc o (text_of ls) (text_of ms) ∙ ap (λ (text : List ℕ). o ++ text) (sym (text-both ls ms))

-- the parts of the settings, written one behind the other
pub settings-written : (t : Settings) (o front numbers images last : List ℕ) → front ≡ o ++ text_of (map line_text (Applid A t.applid_a ∷ Applid B t.applid_b ∷ Takeovr t.takeovr ∷ []))
    → numbers ≡ front ++ text_of (map line_text (quantity_lines t)) → images ≡ numbers ++ text_of (map line_text (Images t.images ∷ [])) → last ≡ images ++ text_of (map line_text (level_lines t.format t))
    → last ≡ o ++ text_of (map line_text (setting_lines t))
settings-written t o front numbers images last e1 e2 e3 e4 =
    let l1 : List (List ℕ) = map line_text (Applid A t.applid_a ∷ Applid B t.applid_b ∷ Takeovr t.takeovr ∷ []) in
    let l2 : List (List ℕ) = map line_text (quantity_lines t) in
    let l3 : List (List ℕ) = map line_text (Images t.images ∷ []) in
    let s2 = more-written o front numbers l1 l2 e1 e2 in
    let s3 = more-written o numbers images (l1 ++ l2) l3 s2 e3 in
    more-written o images last ((l1 ++ l2) ++ l3) (map line_text (level_lines t.format t)) s3 e4

-- the parts of a scenario, written one behind the other
pub scenario-written : (s : Scen) (o head line settings records clt work_a work_b plan : List ℕ) → head ≡ o ++ header_text s.settings.format → line ≡ head ++ 10 ∷ []
    → settings ≡ line ++ text_of (map line_text (setting_lines s.settings)) → records ≡ settings ++ text_of (record_lines s.records) → clt ≡ records ++ text_of (clt_lines s.clt)
    → work_a ≡ clt ++ text_of (map (λ (i : Item). line_text (Work A i)) s.work_a) → work_b ≡ work_a ++ text_of (map (λ (i : Item). line_text (Work B i)) s.work_b)
    → plan ≡ work_b ++ text_of (plan_lines s.plan) → plan ≡ o ++ text_of (scenario_lines s)
scenario-written s o head line settings records clt work_a work_b plan first feed e1 e2 e3 e4 e5 e6 =
    let s1 = header-written o head line settings (header_text s.settings.format) (map line_text (setting_lines s.settings)) first feed e1 in
    let s2 = more-written o settings records (header_text s.settings.format ∷ map line_text (setting_lines s.settings)) (record_lines s.records) s1 e2 in
    let s3 = more-written o records clt (header_text s.settings.format ∷ map line_text (setting_lines s.settings) ++ record_lines s.records) (clt_lines s.clt) s2 e3 in
    let s4 = more-written o clt work_a (header_text s.settings.format ∷ map line_text (setting_lines s.settings) ++ record_lines s.records ++ clt_lines s.clt) (map (λ (i : Item). line_text (Work A i)) s.work_a) s3 e4 in
    let s5 = more-written o work_a work_b (header_text s.settings.format ∷ map line_text (setting_lines s.settings) ++ record_lines s.records ++ clt_lines s.clt ++ map (λ (i : Item). line_text (Work A i)) s.work_a) (map (λ (i : Item). line_text (Work B i)) s.work_b) s4 e5 in
    more-written o work_b plan (header_text s.settings.format ∷ map line_text (setting_lines s.settings) ++ record_lines s.records ++ clt_lines s.clt ++ map (λ (i : Item). line_text (Work A i)) s.work_a ++ map (λ (i : Item). line_text (Work B i)) s.work_b) (plan_lines s.plan) s5 e6
