-- How many bytes the lines of a scenario have at most.
use Rattle.std.proofs.Common.{◌≡◌, ◌≤◌, ◌+◌, ◌-◌, ◌*◌, ℕ, suc, true, nat_le, List, [], ◌∷◌, ◌++◌, length, map, codes, refl, ap, ◌∙◌, arith}
use Rattle.std.specs.List.{AllByRecursion, list_all}
use Rattle.std.proofs.Math.Nat.{mul-suc}
use Rattle.std.proofs.lemmas.Grind.{flat_map-append}
use Rattle.std.proofs.lemmas.List.{length-append, length-map}
use Rattle.xrf_base.specs.Names.{IsName}
use Rattle.xrf_base.specs.declared.items.Item.{Item}
use Rattle.xrf_base.specs.declared.items.Item.TheVariants as item
use Rattle.xrf_base.specs.declared.site.Site.{Site}
use Rattle.xrf_base.specs.declared.site.Site.TheVariants.{A, B}
use Rattle.xrf_grammar.specs.LineText.{header_text, line_text}
use Rattle.xrf_grammar.specs.Plain.{IsPlain}
use Rattle.xrf_grammar.specs.Spelling.{item_text, work_text}
use Rattle.xrf_grammar.specs.declared.line.Line.TheVariants.{Record, Work, Plan}
use Rattle.xrf_scenario.proofs.PlainLaws.{file-most, scenario-plain}
use Rattle.xrf_scenario.specs.Canonical.{fed, text_of, record_lines, clt_lines, plan_lines, scenario_lines}
use Rattle.xrf_scenario.specs.SettingLines.{setting_lines, level_lines}
use Rattle.xrf_setup.specs.Commands.{kept_line}
use Rattle.xrf_setup.specs.Items.{HasItem, IsItemOf}
use Rattle.xrf_setup.specs.Scenario.{Scen, IsScen, AreRecords}
use Rattle.xrf_setup.specs.declared.choice.Choice.{Choice}
use Rattle.xrf_setup.specs.declared.format.Format.{Format}
use Rattle.xrf_setup.specs.declared.format.Format.TheVariants.{One, Two}
use Rattle.xrf_setup.specs.declared.settings.Settings.{Settings}
use Rattle.xrf_report.proofs.ActParts.{site-part}
use Rattle.xrf_report.proofs.Parts.{IsPart, word, within, joined, short-number, name, value}

-- lines of so many bytes at most
abbrev AreShort : ℕ → List (List ℕ) → Type 0
AreShort most lines = AllByRecursion (λ (line : List ℕ). length line ≤ most) lines

-- the text of lines of at most so many bytes
text-short : (most : ℕ) (lines : List (List ℕ)) → AreShort most lines → length (text_of lines) ≤ (most + 1) * length lines
text-short most [] short = omega arith
text-short most (line ∷ lines) short =
    let first : length line ≤ most = short.0 in
    let more = text-short most lines short.1 in
    let whole : length (fed line ++ text_of lines) ≡ length (fed line) + length (text_of lines) = length-append (fed line) (text_of lines) in
    let feed : length (fed line) ≡ length line + 1 = length-append line (10 ∷ []) in
    let product : (most + 1) * suc (length lines) ≡ (most + 1) * length lines + (most + 1) = mul-suc (most + 1) (length lines) in
    omega arith

text-both : (xs ys : List (List ℕ)) → length (text_of (xs ++ ys)) ≡ length (text_of xs) + length (text_of ys)
text-both xs ys = ap length (flat_map-append fed xs ys) ∙ length-append (text_of xs) (text_of ys)

-- what holds of all of two lists holds of all of each
first-of : {X : Type 0} (P : X → Type 0) (xs ys : List X) → AllByRecursion P (xs ++ ys) → AllByRecursion P xs
first-of P [] ys all = tt
first-of P (x ∷ xs) ys all = (all.0, first-of P xs ys all.1)

rest-of : {X : Type 0} (P : X → Type 0) (xs ys : List X) → AllByRecursion P (xs ++ ys) → AllByRecursion P ys
rest-of P [] ys all = all
rest-of P (x ∷ xs) ys all = rest-of P xs ys all.1

-- plain lines have at most 300 bytes
plain-short : (lines : List (List ℕ)) → AllByRecursion IsPlain lines → AreShort 300 lines
plain-short [] plain = tt
plain-short (line ∷ lines) plain = (plain.0.short, plain-short lines plain.1)

plain-size : (lines : List (List ℕ)) → AllByRecursion IsPlain lines → length (text_of lines) ≤ 301 * length lines
plain-size lines plain = text-short 300 lines (plain-short lines plain)

-- a word with its blank, and a name or two
named : (text : List ℕ) (n : List ℕ) → nat_le (length text) 8 ≡ true → list_all (nat_le 32) text ≡ true → IsName n → IsPart 16 (text ++ n)
named text n few passed is = joined (within 8 few (word text passed)) (name n is)

-- What is written of an item is a part of at most 43 bytes.
item-part : (i : Item) → HasItem i → IsPart 43 (item_text i)
item-part (item.Begin unit) has = within 43 refl (named (codes "BEGIN ") unit refl refl has)
item-part (item.Put unit k v) has =
    let low : k ≤ 65535 = has.1 in
    within 43 refl
    (joined (joined (joined (joined (joined (word (codes "PUT ") refl) (name unit has.0)) (word (codes " ") refl)) (short-number k (omega arith))) (word (codes " ") refl))
    (value v has.2))
item-part (item.Get unit k) has =
    let low : k ≤ 65535 = has.1 in
    within 43 refl (joined (joined (joined (word (codes "GET ") refl) (name unit has.0)) (word (codes " ") refl)) (short-number k (omega arith)))
item-part (item.Commit unit) has = within 43 refl (named (codes "COMMIT ") unit refl refl has)
item-part (item.Roll unit) has = within 43 refl (named (codes "ROLL ") unit refl refl has)
item-part (item.Logon term class) has =
    let low : class ≤ 3 = has.1.1 in
    within 43 refl (joined (joined (joined (word (codes "LOGON ") refl) (name term has.0)) (word (codes " ") refl)) (short-number class (omega arith)))
item-part (item.Logoff term) has = within 43 refl (named (codes "LOGOFF ") term refl refl has)
item-part item.Shutdown has = within 43 refl (word (codes "CEMT SHUTDOWN") refl)
item-part item.ShutdownTakeover has = within 43 refl (word (codes "CEMT SHUTDOWN TAKEOVER") refl)
item-part (item.Signon term user) has =
    within 43 refl (joined (joined (named (codes "SIGNON ") term refl refl has.0) (word (codes " ") refl)) (name user has.1))
item-part (item.Signoff term) has = within 43 refl (named (codes "SIGNOFF ") term refl refl has)

item-has : (format : Format) (i : Item) → IsItemOf format i → HasItem i
item-has One i is = is.0
item-has Two i is = is

work-part : (x : Site) (i : Item) → HasItem i → IsPart 50 (work_text x i)
work-part x i has =
    within 50 refl (joined (joined (joined (word (codes "WORK") refl) (word (codes " ") refl)) (site-part x)) (joined (word (codes " ") refl) (item-part i has)))

work-short : (format : Format) (x : Site) (items : List Item) → AllByRecursion (IsItemOf format) items → AreShort 50 (map (λ (i : Item). line_text (Work x i)) items)
work-short format x [] all = tt
work-short format x (i ∷ items) all = ((work-part x i (item-has format i all.0)).short, work-short format x items all.1)

-- the work of a site has at most 51 bytes for each item
work-size : (format : Format) (x : Site) (items : List Item) → AllByRecursion (IsItemOf format) items
    → length (text_of (map (λ (i : Item). line_text (Work x i)) items)) ≤ 51 * length items
work-size format x items all =
    let size = text-short 50 (map (λ (i : Item). line_text (Work x i)) items) (work-short format x items all) in
    let count : length (map (λ (i : Item). line_text (Work x i)) items) ≡ length items = length-map items (λ (i : Item). line_text (Work x i)) in
    omega arith

-- there are at most so many records as numbers
records-few : (least most : ℕ) (records : List (ℕ × List ℕ)) → AreRecords least most records → length records ≤ most + 1 - least
records-few least most [] are = omega arith
records-few least most (r ∷ rs) are =
    let low : least ≤ r.0 = are.0.0 in
    let high : r.0 ≤ most = are.0.1 in
    let ih = records-few (r.0 + 1) most rs are.2 in
    omega arith

levels-few : (format : Format) (t : Settings) → length (level_lines format t) ≤ 3
levels-few One t = omega arith
levels-few Two t = omega arith

-- The lines of a scenario have at most 500,000 bytes, with room for more settings.
pub scenario-size : (s : Scen) → IsScen s → length (text_of (scenario_lines s)) ≤ 500000
scenario-size s is =
    let settings : List (List ℕ) = map line_text (setting_lines s.settings) in
    let records : List (List ℕ) = record_lines s.records in
    let clt : List (List ℕ) = clt_lines s.clt in
    let work_a : List (List ℕ) = map (λ (i : Item). line_text (Work A i)) s.work_a in
    let work_b : List (List ℕ) = map (λ (i : Item). line_text (Work B i)) s.work_b in
    let plan : List (List ℕ) = plan_lines s.plan in
    let plain : AllByRecursion IsPlain (header_text s.settings.format ∷ settings ++ records ++ clt ++ work_a ++ work_b ++ plan) = scenario-plain s is in
    let to_b = first-of IsPlain (settings ++ records ++ clt ++ work_a ++ work_b) plan plain.1 in
    let to_a = first-of IsPlain (settings ++ records ++ clt ++ work_a) work_b to_b in
    let to_clt = first-of IsPlain (settings ++ records ++ clt) work_a to_a in
    let last = plain-size plan (rest-of IsPlain (settings ++ records ++ clt ++ work_a ++ work_b) plan plain.1) in
    let first = plain-size (header_text s.settings.format ∷ settings ++ records ++ clt) (plain.0, to_clt) in
    let of_a = work-size s.settings.format A s.work_a is.work_a in
    let of_b = work-size s.settings.format B s.work_b is.work_b in
    let head : List (List ℕ) = header_text s.settings.format ∷ settings ++ records ++ clt in
    let one : length (text_of (head ++ work_a ++ work_b ++ plan)) ≡ length (text_of (head ++ work_a ++ work_b)) + length (text_of plan) = text-both (head ++ work_a ++ work_b) plan in
    let two : length (text_of (head ++ work_a ++ work_b)) ≡ length (text_of (head ++ work_a)) + length (text_of work_b) = text-both (head ++ work_a) work_b in
    let three : length (text_of (head ++ work_a)) ≡ length (text_of head) + length (text_of work_a) = text-both head work_a in
    let file = file-most s is in
    let records-count : length records ≡ length s.records = length-map s.records (λ (r : ℕ × List ℕ). line_text (Record r.0 r.1)) in
    let few-records = records-few 1 s.settings.file s.records is.records in
    let levels = levels-few s.settings.format s.settings in
    let settings-count : length settings ≡ length (setting_lines s.settings) = length-map (setting_lines s.settings) line_text in
    let clt-count : length clt ≡ length s.clt = length-map s.clt kept_line in
    let plan-count : length plan ≡ length s.plan = length-map s.plan (λ (p : ℕ × Choice). line_text (Plan p.0 p.1)) in
    let clt-few : length s.clt ≤ 100 = is.clt_few in
    let a-few : length s.work_a ≤ 2000 = is.work_a_few in
    let b-few : length s.work_b ≤ 2000 = is.work_b_few in
    let plan-few : length s.plan ≤ 500 = is.plan_few in
    let up-to-records : length (settings ++ records) ≡ length settings + length records = length-append settings records in
    let up-to-clt : length (settings ++ records ++ clt) ≡ length (settings ++ records) + length clt = length-append (settings ++ records) clt in
    omega arith
