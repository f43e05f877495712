-- Reading goes by what each line says, and a text is read or refused in one way.
use Rattle.std.proofs.Common.{◌≡◌, ◌+◌, inl, inr, max, ℕ, Bool, true, false, IsTrue, if◌then◌else◌, Option, Some, None, List, [], ◌∷◌, ◌++◌, length, Result, Ok, Err, refl, sym, ◌∙◌, ap, subst, append-nil, append_assoc, length-append, arith}
use Rattle.xrf_text.specs.Text.{words}
use Rattle.xrf_grammar.proofs.ApartLaws.{line-again, settings-apart, choices-apart}
use Rattle.xrf_grammar.proofs.FormLaws.{line-found}
use Rattle.xrf_grammar.proofs.LineAgain.{header_again}
use Rattle.xrf_grammar.specs.Reading.{header_of, line_of}
use Rattle.xrf_grammar.specs.Table.{settings_of, choices_table}
use Rattle.xrf_setup.specs.declared.format.Format.{Format}
use Rattle.xrf_grammar.specs.declared.line.Line.{Line}
use Rattle.xrf_grammar.specs.declared.reason.Reason.{Reason}
use Rattle.xrf_grammar.specs.declared.reason.Reason.TheVariants.{AfterEnd, NoEnd}
use Rattle.xrf_scenario.proofs.ReasonLaws.{header-found, refused-first, first-refused}
use Rattle.xrf_scenario.specs.Lines.{text_lines, is_skipped, is_report, bytes_fault}
use Rattle.xrf_scenario.specs.Machine.{Fault, read_on, read_whole, take_line, take_header, take_words, step}
use Rattle.xrf_scenario.specs.Reading.{begun, SaysIn, SaysThen, Says, SaysAll, Reads, HasBadLine, EndsEarly, HasBad, OneReading, NeverBoth, OneFault}
use Rattle.xrf_setup.specs.Scenario.{Scen}
use Rattle.xrf_scenario.specs.Settled.{scenario_of}
use Rattle.xrf_scenario.specs.SoFar.{SoFar, nothing_said, is_whole}
use Rattle.xrf_scenario.specs.Taking.{take}
use Rattle.xrf_scenario.specs.declared.section.Section.{Section}
use Rattle.xrf_scenario.specs.declared.section.Section.TheVariants.{Start, Settings, Making, Whole}
use Rattle.xrf_scenario.specs.declared.numbered.Numbered.{Numbered}

-- a line of some forms that is taken is spelled
line-taken : (number : ℕ) (so next : SoFar) (ws : List (List ℕ)) (read : Result Line Reason) → take_line number so ws read ≡ Ok next
    → (line : Line) × ((read ≡ Ok line) × (take number so ws line ≡ Ok next))
line-taken number so next ws (Ok line) h = (line, (refl, h))
line-taken number so next ws (Err reason) h = absurd (cc)

header-taken : (so next : SoFar) (read : Result Format Reason) → take_header so read ≡ Ok next → (format : Format) × ((read ≡ Ok format) × (next ≡ begun so format))
header-taken so next (Ok format) h = let same : next ≡ begun so format = cc in (format, (refl, same))
header-taken so next (Err reason) h = absurd (cc)

-- what is taken in a section says something there
taken-says : (section : Section) (number : ℕ) (so next : SoFar) (ws : List (List ℕ)) → take_words section number so ws ≡ Ok next → SaysIn section number so ws next
taken-says Start number so next ws h =
    let k = header-taken so next (header_of ws) h in
    (k.0, (header-found ws k.0 k.1.0, k.1.1))
taken-says Settings number so next ws h =
    let k = line-taken number so next ws (line_of (settings_of so.format) ws) h in
    (k.0, (line-found (settings_of so.format) ws k.0 k.1.0, k.1.1))
taken-says Making number so next ws h =
    let k = line-taken number so next ws (line_of choices_table ws) h in
    (k.0, (line-found choices_table ws k.0 k.1.0, k.1.1))
taken-says Whole number so next ws h = absurd (cc)

-- and what says something is taken
says-taken : (section : Section) (number : ℕ) (so next : SoFar) (ws : List (List ℕ)) → SaysIn section number so ws next → take_words section number so ws ≡ Ok next
says-taken Start number so next ws h = ap (λ (w : List (List ℕ)). take_header so (header_of w)) h.1.0 ∙ ap (take_header so) (header_again h.0) ∙ ap (λ (n : SoFar). Ok n) (sym h.1.1)
says-taken Settings number so next ws h = ap (take_line number so ws) (line-again (settings_of so.format) ws h.0 (settings-apart so.format) h.1.0) ∙ h.1.1
says-taken Making number so next ws h = ap (take_line number so ws) (line-again choices_table ws h.0 choices-apart h.1.0) ∙ h.1.1
says-taken Whole number so next ws h = absurd h

-- a step that is taken says something
pub step-says : (number : ℕ) (so next : SoFar) (line : List ℕ) → step number so line ≡ Ok next → Says number so line next
step-says number so next line h = by (is_skipped line) (is_whole so.section) h
  where
    report : (r : Bool) → ◌≡◌ {A = Result SoFar Reason} (if r then Ok so else Err AfterEnd) (Ok next) → IsTrue r × (next ≡ so)
    report true e = let same : next ≡ so = cc in (refl, same)
    report false e = absurd (cc)

    bytes : (o : Option Reason) → ◌≡◌ {A = Result SoFar Reason} (elim o [ Some reason ↦ Err reason | None ↦ take_words so.section number so (words line) ]) (Ok next)
        → (o ≡ None) × SaysIn so.section number so (words line) next
    bytes (Some reason) e = absurd (cc)
    bytes None e = (refl, taken-says so.section number so next (words line) e)

    by : (skipped ended : Bool) → ◌≡◌ {A = Result SoFar Reason} (if skipped then Ok so else if ended then (if is_report line then Ok so else Err AfterEnd)
        else elim (bytes_fault line) [ Some reason ↦ Err reason | None ↦ take_words so.section number so (words line) ]) (Ok next)
        → SaysThen skipped ended number so line next
    by true ended e = let same : next ≡ so = cc in same
    by false true e = report (is_report line) e
    by false false e = bytes (bytes_fault line) e

-- and what says something is a step
pub says-step : (number : ℕ) (so next : SoFar) (line : List ℕ) → Says number so line next → step number so line ≡ Ok next
says-step number so next line h = by (is_skipped line) (is_whole so.section) h
  where
    report : (r : Bool) → IsTrue r → next ≡ so → ◌≡◌ {A = Result SoFar Reason} (if r then Ok so else Err AfterEnd) (Ok next)
    report true t e = ap (λ (n : SoFar). Ok n) (sym e)
    report false t e = absurd (cc)

    bytes : (o : Option Reason) → o ≡ None → SaysIn so.section number so (words line) next
        → ◌≡◌ {A = Result SoFar Reason} (elim o [ Some reason ↦ Err reason | None ↦ take_words so.section number so (words line) ]) (Ok next)
    bytes (Some reason) e k = absurd (cc)
    bytes None e k = says-taken so.section number so next (words line) k

    by : (skipped ended : Bool) → SaysThen skipped ended number so line next
        → ◌≡◌ {A = Result SoFar Reason} (if skipped then Ok so else if ended then (if is_report line then Ok so else Err AfterEnd)
        else elim (bytes_fault line) [ Some reason ↦ Err reason | None ↦ take_words so.section number so (words line) ]) (Ok next)
    by true ended e = ap (λ (n : SoFar). Ok n) (sym e)
    by false true e = report (is_report line) e.0 e.1
    by false false e = bytes (bytes_fault line) e.0 e.1

-- nothing before a count
bare : (n : ℕ) → 0 + n ≡ n
bare n = omega arith

-- one more line in a count
count-more : (count : ℕ) (line : List ℕ) (lines : List (List ℕ)) → count + 1 + length lines ≡ count + length (line ∷ lines)
count-more count line lines = omega arith

-- reading goes on behind lines that say something
pub on-behind : (count : ℕ) (so last : SoFar) (lines rest : List (List ℕ)) → SaysAll count so lines last
    → read_on so count (lines ++ rest) ≡ read_on last (count + length lines) rest
on-behind count so last [] rest h =
    let none : count + 0 ≡ count = omega arith in
    subst (λ (s : SoFar). read_on so count rest ≡ read_on s (count + 0) rest) (sym h) (ap (λ (n : ℕ). read_on so n rest) (sym none))
on-behind count so last (line ∷ lines) rest h =
    let next = h.0 in
    let took : step (count + 1) so line ≡ Ok next = says-step (count + 1) so next line h.1.0 in
    let here : read_on so count (line ∷ lines ++ rest) ≡ read_on next (count + 1) (lines ++ rest) = rw (took, read_on) refl in
    here ∙ on-behind (count + 1) next last lines rest h.1.1 ∙ ap (λ (n : ℕ). read_on last n rest) (count-more count line lines)

-- lines that are read to the end say something
record Ended (count : ℕ) (so : SoFar) (lines : List (List ℕ)) (last : SoFar) : Type 0 where
  said : SaysAll count so lines last
  whole : is_whole last.section ≡ true

ended : (count : ℕ) (so last : SoFar) (lines : List (List ℕ)) → read_on so count lines ≡ Ok last → Ended count so lines last
ended count so last [] h = by (is_whole so.section) refl h
  where
    by : (b : Bool) → is_whole so.section ≡ b → ◌≡◌ {A = Result SoFar Fault} (if b then Ok so else Err (record { line = max 1 count; reason = NoEnd })) (Ok last) → Ended count so [] last
    by true e k = let same : so ≡ last = cc in record { said = sym same; whole = subst (λ (s : SoFar). is_whole s.section ≡ true) same e }
    by false e k = absurd (cc)
ended count so last (line ∷ lines) h = by (step (count + 1) so line) refl h (λ next k. ended (count + 1) next last lines k)
  where
    by : (o : Result SoFar Reason) → step (count + 1) so line ≡ o
        → ◌≡◌ {A = Result SoFar Fault} (elim o [ Err reason ↦ Err (record { line = count + 1; reason = reason }) | Ok next ↦ read_on next (count + 1) lines ]) (Ok last)
        → ((next : SoFar) → read_on next (count + 1) lines ≡ Ok last → Ended (count + 1) next lines last) → Ended count so (line ∷ lines) last
    by (Err reason) e k ih = absurd (cc)
    by (Ok next) e k ih =
        let more = ih next k in
        record { said = (next, (step-says (count + 1) so next line e, more.said)); whole = more.whole }

-- what is read is spelled
pub whole-reads : (text : List ℕ) (so : SoFar) → read_whole text ≡ Ok so → Reads text (scenario_of so) so.choices
whole-reads text so h =
    let end = ended 0 nothing_said so (text_lines text) h in
    record { last = so; said = end.said; whole = end.whole; scenario = refl; made = refl }

-- what is spelled is read
pub spelled-read : (text : List ℕ) (s : Scen) (choices : List Numbered) (r : Reads text s choices) → read_whole text ≡ Ok r.last
spelled-read text s choices r = all (text_lines text) r.said
  where
    close : (count : ℕ) (last : SoFar) → is_whole last.section ≡ true → read_on last count [] ≡ Ok last
    close count last e = rw e refl

    all : (lines : List (List ℕ)) → SaysAll 0 nothing_said lines r.last → read_on nothing_said 0 lines ≡ Ok r.last
    all lines said = ap (read_on nothing_said 0) (sym (append-nil lines)) ∙ on-behind 0 nothing_said r.last lines [] said ∙ close (0 + length lines) r.last r.whole

-- lines that say something, and one more
pub said-more : (count : ℕ) (so mid next : SoFar) (lines : List (List ℕ)) (line : List ℕ) → SaysAll count so lines mid → Says (count + length lines + 1) mid line next
    → SaysAll count so (lines ++ line ∷ []) next
said-more count so mid next [] line said says =
    let none : count + 0 ≡ count = omega arith in
    let here : Says (count + 1) mid line next = subst (λ (n : ℕ). Says (n + 1) mid line next) none says in
    (next, (subst (λ (s : SoFar). Says (count + 1) s line next) said here, refl))
said-more count so mid next (first ∷ lines) line said says =
    let place : count + length (first ∷ lines) ≡ count + 1 + length lines = omega arith in
    (said.0, (said.1.0, said-more (count + 1) said.0 mid next lines line said.1.1 (subst (λ (n : ℕ). Says (n + 1) mid line next) place says)))

faulty : (text : List ℕ) (fault : Fault) (before lines : List (List ℕ)) (so : SoFar) → SaysAll 0 nothing_said before so → text_lines text ≡ before ++ lines
    → read_on so (length before) lines ≡ Err fault → HasBad text fault.line fault.reason
faulty text fault before [] so said spelled h = by (is_whole so.section) refl h
  where
    lines : text_lines text ≡ before
    lines = spelled ∙ append-nil before

    early : is_whole so.section ≡ false → EndsEarly text (max 1 (length before)) NoEnd
    early e = record {
      last = so;
      said = subst (λ (ls : List (List ℕ)). SaysAll 0 nothing_said ls so) (sym lines) said;
      early = e;
      place = ap (λ (ls : List (List ℕ)). max 1 (length ls)) (sym lines);
      no_end = refl;
    }

    by : (b : Bool) → is_whole so.section ≡ b → ◌≡◌ {A = Result SoFar Fault} (if b then Ok so else Err (record { line = max 1 (length before); reason = NoEnd })) (Err fault)
        → HasBad text fault.line fault.reason
    by true e k = absurd (cc)
    by false e k =
        let found : record { line = max 1 (length before); reason = NoEnd } ≡ fault = cc in
        subst (λ (f : Fault). HasBad text f.line f.reason) found (inr (early e))
faulty text fault before (line ∷ lines) so said spelled h =
    by (step (length before + 1) so line) refl h (λ next e k. faulty text fault (before ++ line ∷ []) lines next
    (said-more 0 nothing_said so next before line said (subst (λ (n : ℕ). Says (n + 1) so line next) (sym (bare (length before))) (step-says (length before + 1) so next line e))) (spelled ∙ sym (append_assoc before (line ∷ []) lines))
    (ap (λ (n : ℕ). read_on next n lines) (length-append before (line ∷ [])) ∙ k))
  where
    bad : (reason : Reason) → step (length before + 1) so line ≡ Err reason → HasBadLine text (length before + 1) reason
    bad reason e = record { before = before; bad = line; rest = lines; so = so; spelled = spelled; said = said; shown = (refused-first (length before + 1) so line reason e).0; is_first = (refused-first (length before + 1) so line reason e).1; place = refl }

    by : (o : Result SoFar Reason) → step (length before + 1) so line ≡ o
        → ◌≡◌ {A = Result SoFar Fault} (elim o [ Err reason ↦ Err (record { line = length before + 1; reason = reason }) | Ok next ↦ read_on next (length before + 1) lines ]) (Err fault)
        → ((next : SoFar) → step (length before + 1) so line ≡ Ok next → read_on next (length before + 1) lines ≡ Err fault → HasBad text fault.line fault.reason)
        → HasBad text fault.line fault.reason
    by (Err reason) e k ih =
        let found : record { line = length before + 1; reason = reason } ≡ fault = cc in
        subst (λ (f : Fault). HasBad text f.line f.reason) found (inl (bad reason e))
    by (Ok next) e k ih = ih next e k

-- a fault is that of the first bad line
pub whole-bad : (text : List ℕ) (fault : Fault) → read_whole text ≡ Err fault → HasBad text fault.line fault.reason
whole-bad text fault h = faulty text fault [] (text_lines text) nothing_said refl refl h

abbrev fault_of : ℕ → Reason → Fault
fault_of number reason = record { line = number; reason = reason }

-- and what has a bad line gives its fault
pub bad-fault : (text : List ℕ) (number : ℕ) (reason : Reason) → HasBad text number reason → read_whole text ≡ Err (fault_of number reason)
bad-fault text number reason (inl bad) =
    ap (read_on nothing_said 0) bad.spelled ∙ on-behind 0 nothing_said bad.so bad.before (bad.bad ∷ bad.rest) bad.said ∙ ap (λ (n : ℕ). read_on bad.so n (bad.bad ∷ bad.rest)) (bare (length bad.before)) ∙ off (length bad.before) refl
  where
    off : (count : ℕ) → count ≡ length bad.before → read_on bad.so count (bad.bad ∷ bad.rest) ≡ Err (fault_of number reason)
    off count e =
        let at : step (count + 1) bad.so bad.bad ≡ Err reason = subst (λ (n : ℕ). step (n + 1) bad.so bad.bad ≡ Err reason) (sym e) (first-refused (length bad.before + 1) bad.so bad.bad reason bad.shown bad.is_first) in
        let place : count + 1 ≡ number = ap (λ (n : ℕ). n + 1) e ∙ sym bad.place in
        let here : read_on bad.so count (bad.bad ∷ bad.rest) ≡ Err (fault_of (count + 1) reason) = rw (at, read_on) refl in
        here ∙ ap (λ (n : ℕ). Err (fault_of n reason)) place
bad-fault text number reason (inr early) = all (text_lines text) refl early.said
  where
    close : (count : ℕ) → read_on early.last count [] ≡ Err (fault_of (max 1 count) NoEnd)
    close count = rw early.early refl

    all : (lines : List (List ℕ)) → lines ≡ text_lines text → SaysAll 0 nothing_said lines early.last → read_on nothing_said 0 lines ≡ Err (fault_of number reason)
    all lines same said =
        let place : max 1 (length lines) ≡ number = ap (λ (ls : List (List ℕ)). max 1 (length ls)) same ∙ sym early.place in
        ap (read_on nothing_said 0) (sym (append-nil lines)) ∙ on-behind 0 nothing_said early.last lines [] said ∙ ap (λ (n : ℕ). read_on early.last n []) (bare (length lines)) ∙ close (length lines)
        ∙ ap (λ (n : ℕ). Err (fault_of n NoEnd)) place ∙ ap (λ (r : Reason). Err (fault_of number r)) (sym early.no_end)

-- one fault is at one line for one reason
same-fault : (number number' : ℕ) (reason reason' : Reason) → ◌≡◌ {A = Result SoFar Fault} (Err (fault_of number reason)) (Err (fault_of number' reason')) → (number ≡ number') × (reason ≡ reason')
same-fault number number' reason reason' h = let same : fault_of number reason ≡ fault_of number' reason' = cc in (ap (λ (f : Fault). f.line) same, ap (λ (f : Fault). f.reason) same)

pub one_reading : OneReading
one_reading text s s' choices choices' reads reads' =
    let both : Ok reads.last ≡ Ok reads'.last = sym (spelled-read text s choices reads) ∙ spelled-read text s' choices' reads' in
    let same : reads.last ≡ reads'.last = cc in
    (reads.scenario ∙ ap scenario_of same ∙ sym reads'.scenario, reads.made ∙ ap (λ (so : SoFar). so.choices) same ∙ sym reads'.made)

pub never_both : NeverBoth
never_both text s choices number reason reads bad =
    let clash : Ok reads.last ≡ Err (fault_of number reason) = sym (spelled-read text s choices reads) ∙ bad-fault text number reason bad in
    cc

pub one_fault : OneFault
one_fault text number number' reason reason' bad bad' =
    same-fault number number' reason reason' (sym (bad-fault text number reason bad) ∙ bad-fault text number' reason' bad')
