-- Lines that may stand behind END, so many bytes at most.
use Rattle.std.proofs.Common.{◌≡◌, ◌≤◌, ◌+◌, ℕ, List, [], ◌∷◌, ◌++◌, length, codes, refl, sym, ap, ◌∙◌, arith}
use Rattle.std.proofs.lemmas.Grind.{flat_map-append}
use Rattle.std.proofs.lemmas.List.{length-append, append-nil}
use Rattle.xrf_scenario.specs.Canonical.{fed, text_of, IsReportLine, IsReport}
use Rattle.xrf_report.specs.Words.{line}
use Rattle.xrf_report.proofs.Parts.{IsPart, all-both}

pub record IsTold (most : ℕ) (text : List ℕ) : Type 0 where
  pub report : IsReport text
  pub short : length text ≤ most

-- no line is lines of a report
pub no-line : IsReport []
no-line = record { lines = []; each = tt; fed = refl }

-- lines behind lines are lines
pub both-lines : {text next : List ℕ} → IsReport text → IsReport next → IsReport (text ++ next)
both-lines {text} {next} first second = record {
  lines = first.lines ++ second.lines;
  each = all-both IsReportLine first.lines second.lines first.each second.each;
  fed = ap (λ (t : List ℕ). t ++ next) first.fed ∙ ap (λ (t : List ℕ). text_of first.lines ++ t) second.fed ∙ sym (flat_map-append fed first.lines second.lines);
}

-- a part is told in a line
pub one-line : {most : ℕ} {text : List ℕ} → IsPart most text → IsReport (line text)
one-line {most} {text} part = record {
  lines = (codes "* " ++ text) ∷ [];
  each = (record { rest = 32 ∷ text; marked = refl; bytes = (omega arith, part.printed) }, tt);
  fed = sym (append-nil (line text));
}

-- and has three bytes more there
pub line-short : {most : ℕ} {text : List ℕ} → IsPart most text → length (line text) ≤ most + 3
line-short {most} {text} part =
    let short : length text ≤ most = part.short in
    let sum : length (line text) ≡ length (codes "* " ++ text) + 1 = length-append (codes "* " ++ text) (10 ∷ []) in
    omega arith

pub nothing : {most : ℕ} → IsTold most []
nothing {most} = record { report = no-line; short = omega arith }

-- what is told is told where more bytes are allowed
pub told-wider : {most more : ℕ} {text : List ℕ} → most ≤ more → IsTold most text → IsTold more text
told-wider {most} {more} {text} wide told = let short : length text ≤ most = told.short in record { report = told.report; short = omega arith }

pub both : {most more : ℕ} {text next : List ℕ} → IsTold most text → IsTold more next → IsTold (most + more) (text ++ next)
both {most} {more} {text} {next} told other =
    let short : length text ≤ most = told.short in
    let few : length next ≤ more = other.short in
    let sum : length (text ++ next) ≡ length text + length next = length-append text next in
    record { report = both-lines told.report other.report; short = omega arith }

pub one : {most : ℕ} {text : List ℕ} → IsPart most text → IsTold (most + 3) (line text)
one part = record { report = one-line part; short = line-short part }
