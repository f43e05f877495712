-- The lines of acts, and how many bytes an act's line and the line of its choice have together.
use Rattle.std.proofs.Common.{◌≡◌, ◌≤◌, ◌<◌, ◌+◌, ◌*◌, ℕ, suc, Bool, true, false, is_some, nat_le, List, [], ◌∷◌, ◌++◌, length, map, reverse, if◌then◌else◌, codes, Option, Some, None, Result, Ok, Err, refl, sym, ap, ◌∙◌, arith}
use Rattle.std.specs.Fmt.{decimal}
use Rattle.std.specs.List.{AllByRecursion, list_all}
use Rattle.std.specs.Option.{option_and_then}
use Rattle.std.proofs.Math.Nat.{mul-suc}
use Rattle.std.proofs.lemmas.List.{length-append, append-nil, append_assoc, reverse-append}
use Rattle.xrf_base.specs.declared.site.Site.{Site}
use Rattle.xrf_grammar.specs.Spelling.{site_text, landed_text, choice_text}
use Rattle.xrf_scenario.specs.Canonical.{fed, text_of, IsReport}
use Rattle.xrf_setup.specs.Choices.{HasLine}
use Rattle.xrf_setup.specs.Scenario.{Scen, IsScen}
use Rattle.xrf_setup.specs.declared.choice.Choice.{Choice}
use Rattle.xrf_setup.specs.declared.choice.Choice.TheVariants as choice
use Rattle.xrf_setup.specs.declared.choice.Landing.{Landing}
use Rattle.xrf_setup.specs.declared.choice.Landing.TheVariants.{Nothing, All, Torn}
use Rattle.xrf_trace.specs.Acts.{next_act, torn_size, is_write}
use Rattle.xrf_trace.specs.Entries.{entry, act_cut, act_or_none}
use Rattle.xrf_trace.specs.Refusals.{torn_refusal, refusal}
use Rattle.xrf_trace.specs.Runs.{outcome, run_from, Refusal}
use Rattle.xrf_trace.specs.declared.entry.Refused.{Refused}
use Rattle.xrf_trace.specs.declared.entry.Act.{Act}
use Rattle.xrf_trace.specs.declared.entry.Act.TheVariants.{NoAct}
use Rattle.xrf_trace.specs.declared.entry.Entry.{Entry}
use Rattle.xrf_trace.proofs.Steps.{outcome-entry}
use Rattle.xrf_report.specs.Entries.{is_without_act, entry_text, act_line, acts_text}
use Rattle.xrf_report.specs.Words.{blank}
use Rattle.xrf_report.specs.Fits.{EntryFits}
use Rattle.xrf_report.proofs.Parts.{IsPart, word, within, wider, joined, behind-blank, short-number, hex}
use Rattle.xrf_report.proofs.ActParts.{site-part, exit-part, command-part}
use Rattle.xrf_report.proofs.MadeParts.{MadeFits, made_most, entry-part}
use Rattle.xrf_report.proofs.Lines.{no-line, both-lines, one-line, line-short}

-- how many bytes a choice has at most: torn bytes make it long
abbrev cut_choice_most : Landing → ℕ
cut_choice_most Nothing = 40
cut_choice_most All = 40
cut_choice_most (Torn bytes) = 140

abbrev choice_most : Choice → ℕ
choice_most (choice.Stop x cut) = cut_choice_most cut
choice_most (choice.Fail x cut) = cut_choice_most cut
choice_most _ = 40

-- a word, a site and what stands behind it
site-with : {more : ℕ} {behind : List ℕ} (text : List ℕ) (x : Site) → nat_le (length text) 5 ≡ true → list_all (nat_le 32) text ≡ true → IsPart more behind
    → IsPart (7 + more) (site_text text x behind)
site-with text x few passed part = joined (joined (joined (within 5 few (word text passed)) (word (codes " ") refl)) (site-part x)) part

landed-with : (text : List ℕ) (x : Site) (cut : Landing) → nat_le (length text) 5 ≡ true → list_all (nat_le 32) text ≡ true → HasLine (choice.Stop x cut)
    → IsPart (cut_choice_most cut) (landed_text text x cut)
landed-with text x Nothing few passed has = within 40 refl (site-with text x few passed (word (codes " NONE") refl))
landed-with text x All few passed has = within 40 refl (site-with text x few passed (word (codes " ALL") refl))
landed-with text x (Torn bytes) few passed has = within 140 refl (site-with text x few passed (joined (word (codes " TORN ") refl) (hex 63 bytes has.most)))

-- What is written of a choice that a line can spell is a part.
choice-part : (c : Choice) → HasLine c → IsPart (choice_most c) (choice_text c)
choice-part choice.Tick has = within 40 refl (word (codes "TICK") refl)
choice-part (choice.Step x) has = within 40 refl (site-with (codes "STEP") x refl refl (word [] refl))
choice-part (choice.Lose x) has = within 40 refl (site-with (codes "LOSE") x refl refl (word [] refl))
choice-part (choice.Stop x cut) has = landed-with (codes "STOP") x cut refl refl has
choice-part (choice.Fail x Nothing) has = landed-with (codes "FAIL") x Nothing refl refl tt
choice-part (choice.Fail x All) has = landed-with (codes "FAIL") x All refl refl tt
choice-part (choice.Fail x (Torn bytes)) has = landed-with (codes "FAIL") x (Torn bytes) refl refl has
choice-part (choice.StartActive x) has = within 40 refl (site-with (codes "START") x refl refl (word (codes " ACTIVE") refl))
choice-part (choice.StartStandby x) has = within 40 refl (site-with (codes "START") x refl refl (word (codes " STANDBY") refl))
choice-part (choice.Abend x) has = within 40 refl (site-with (codes "ABEND") x refl refl (word [] refl))
choice-part (choice.Confirm n) has = let low : n ≤ 65535 = has in within 40 refl (joined (word (codes "CONFIRM ") refl) (short-number n (omega arith)))
choice-part (choice.Reply x true) has = within 40 refl (site-with (codes "REPLY") x refl refl (word (codes " GO") refl))
choice-part (choice.Reply x false) has = within 40 refl (site-with (codes "REPLY") x refl refl (word (codes " IGNORE") refl))
choice-part (choice.Cebt x command) has = within 40 refl (site-with (codes "CEBT") x refl refl (joined (word (codes " ") refl) (command-part command)))
choice-part (choice.Exit x said) has = within 40 refl (site-with (codes "EXIT") x refl refl (joined (word (codes " ") refl) (exit-part said)))

-- torn bytes are accepted of a write that may be torn alone
torn-write : (bytes : List ℕ) (size : Option ℕ) → torn_refusal bytes size ≡ None → is_some size ≡ true
torn-write bytes None ok = absurd (cc)
torn-write bytes (Some n) ok = refl

stop-lands : (bytes : List ℕ) (a : Option Act) → torn_refusal bytes (option_and_then torn_size a) ≡ None → is_without_act (act_cut a) ≡ false
    → is_some (torn_size (act_cut a)) ≡ true
stop-lands bytes None ok acts = absurd (cc)
stop-lands bytes (Some a) ok acts = by (is_write a) acts
  where
    by : (write : Bool) → is_without_act (if write then a else NoAct) ≡ false → is_some (torn_size (if write then a else NoAct)) ≡ true
    by true acts = torn-write bytes (torn_size a) ok
    by false acts = absurd (cc)

fail-lands : (bytes : List ℕ) (a : Option Act) → torn_refusal bytes (option_and_then torn_size a) ≡ None → is_some (torn_size (act_or_none a)) ≡ true
fail-lands bytes None ok = absurd (cc)
fail-lands bytes (Some a) ok = torn-write bytes (torn_size a) ok

-- how an accepted choice and its entry are printed: 38 bytes beside what both may have are those around them
record Fits (c : Choice) (e : Entry) : Type 0 where
  made : MadeFits e.act e.land
  both : choice_most c + made_most e.land ≤ 360

accepted : (s : Scen) (t : List Entry) (c : Choice) → HasLine c → refusal s t c ≡ None → Fits c (entry s t c)
accepted s t choice.Tick has ok = record { made = tt; both = omega arith }
accepted s t (choice.Step x) has ok = record { made = tt; both = omega arith }
accepted s t (choice.Lose x) has ok = record { made = tt; both = omega arith }
accepted s t (choice.Stop x Nothing) has ok = record { made = λ acts. tt; both = omega arith }
accepted s t (choice.Stop x All) has ok = record { made = λ acts. tt; both = omega arith }
accepted s t (choice.Stop x (Torn bytes)) has ok = record { made = λ acts. (stop-lands bytes (next_act s t x) ok acts, has.most); both = omega arith }
accepted s t (choice.StartActive x) has ok = record { made = tt; both = omega arith }
accepted s t (choice.StartStandby x) has ok = record { made = tt; both = omega arith }
accepted s t (choice.Abend x) has ok = record { made = tt; both = omega arith }
accepted s t (choice.Confirm n) has ok = record { made = tt; both = omega arith }
accepted s t (choice.Reply x go) has ok = record { made = tt; both = omega arith }
accepted s t (choice.Cebt x command) has ok = record { made = tt; both = omega arith }
accepted s t (choice.Exit x said) has ok = record { made = tt; both = omega arith }
accepted s t (choice.Fail x Nothing) has ok = record { made = tt; both = omega arith }
accepted s t (choice.Fail x All) has ok = record { made = tt; both = omega arith }
accepted s t (choice.Fail x (Torn bytes)) has ok = record { made = (fail-lands bytes (next_act s t x) ok, has.most); both = omega arith }

-- choices with their entries, the oldest first
abbrev pub Makes : Scen → List Choice → List Entry → Type 0
Makes s [] [] = Unit {0}
Makes s (c ∷ cs) (e ∷ es) = ((t : List Entry) × (outcome s t c ≡ Ok e)) × Makes s cs es
Makes s _ _ = ⊥

same-ok : (t last : List Entry) → ◌≡◌ {A = Result (List Entry) Refusal} (Ok t) (Ok last) → t ≡ last
same-ok t last is = cc

reverse-cons : (e : Entry) (t : List Entry) → reverse (e ∷ t) ≡ reverse t ++ e ∷ []
reverse-cons e t = reverse-append (e ∷ []) t

-- so many choices come to a trace, by entries that they make behind one
abbrev pub MadeBehind : Scen → List Entry → List Choice → List Entry → Type 0
MadeBehind s t cs last = (es : List Entry) × (Makes s cs es × (reverse last ≡ reverse t ++ es))

abbrev goes_on : Scen → List Entry → ℕ → List Choice → Result Entry Refused → Result (List Entry) Refusal
goes_on s t place cs o = elim o [ Ok e ↦ run_from s (e ∷ t) (place + 1) cs | Err reason ↦ Err (record { place = place; reason = reason }) ]

one-more : (s : Scen) (t : List Entry) (place : ℕ) (c : Choice) (cs : List Choice) (last : List Entry) (o : Result Entry Refused) → outcome s t c ≡ o
    → ((e : Entry) → run_from s (e ∷ t) (place + 1) cs ≡ Ok last → MadeBehind s (e ∷ t) cs last)
    → goes_on s t place cs o ≡ Ok last → MadeBehind s t (c ∷ cs) last
one-more s t place c cs last (Ok e) made rest ran =
    let more = rest e ran in
    (e ∷ more.0, (((t, made), more.1.0), more.1.1 ∙ ap (λ (r : List Entry). r ++ more.0) (reverse-cons e t) ∙ append_assoc (reverse t) (e ∷ []) more.0))
one-more s t place c cs last (Err reason) made rest ran = absurd (cc)

-- a run makes each entry by its choice
pub runs-make : (s : Scen) (t : List Entry) (place : ℕ) (cs : List Choice) (last : List Entry) → run_from s t place cs ≡ Ok last → MadeBehind s t cs last
runs-make s t place [] last ran = ([], (tt, ap reverse (sym (same-ok t last ran)) ∙ sym (append-nil (reverse t))))
runs-make s t place (c ∷ cs) last ran = one-more s t place c cs last (outcome s t c) refl (λ e. runs-make s (e ∷ t) (place + 1) cs last) ran

-- the line of an act
line-part : (s : Scen) (n : ℕ) (e : Entry) → n < 100000 → IsScen s → EntryFits e → MadeFits e.act e.land → IsPart (34 + made_most e.land) (codes "ACT " ++ decimal n ++ blank (entry_text s e))
line-part s n e few is fits made =
    let first : IsPart 9 (codes "ACT " ++ decimal n) = joined (word (codes "ACT ") refl) (short-number n few) in
    wider (omega arith) (joined first (behind-blank (entry-part s e is fits made)))

-- The lines of the acts of some choices are lines of a report. With those of the choices they have at most 398 bytes each.
pub record AreTold (s : Scen) (n : ℕ) (cs : List Choice) (es : List Entry) : Type 0 where
  pub report : IsReport (acts_text s n es)
  pub short : length (text_of (map choice_text cs)) + length (acts_text s n es) ≤ 398 * length es

pub acts-told : (s : Scen) (n : ℕ) (cs : List Choice) (es : List Entry) → IsScen s → n + length es ≤ 100000 → AllByRecursion HasLine cs → AllByRecursion EntryFits es → Makes s cs es
    → AreTold s n cs es
acts-told s n [] [] is few has fits made = record { report = no-line; short = omega arith }
acts-told s n (c ∷ cs) (e ∷ es) is few has fits made =
    let both = outcome-entry (Fits c) s made.0.0 c e made.0.1 (accepted s made.0.0 c has.0) in
    let more = acts-told s (n + 1) cs es is (omega arith) has.1 fits.1 made.1 in
    let own = line-part s n e (omega arith) is fits.0 both.made in
    let choice-short : length (choice_text c) ≤ choice_most c = (choice-part c has.0).short in
    let own-short : length (act_line s n e) ≤ 34 + made_most e.land + 3 = line-short own in
    let sum : choice_most c + made_most e.land ≤ 360 = both.both in
    let feed : length (fed (choice_text c)) ≡ length (choice_text c) + 1 = length-append (choice_text c) (10 ∷ []) in
    let choices : length (fed (choice_text c) ++ text_of (map choice_text cs)) ≡ length (fed (choice_text c)) + length (text_of (map choice_text cs)) = length-append (fed (choice_text c)) (text_of (map choice_text cs)) in
    let acts : length (act_line s n e ++ acts_text s (n + 1) es) ≡ length (act_line s n e) + length (acts_text s (n + 1) es) = length-append (act_line s n e) (acts_text s (n + 1) es) in
    let rest : length (text_of (map choice_text cs)) + length (acts_text s (n + 1) es) ≤ 398 * length es = more.short in
    let product : 398 * suc (length es) ≡ 398 * length es + 398 = mul-suc 398 (length es) in
    record { report = both-lines (one-line own) more.report; short = omega arith }
acts-told s n [] (e ∷ es) is few has fits made = absurd made
acts-told s n (c ∷ cs) [] is few has fits made = absurd made
