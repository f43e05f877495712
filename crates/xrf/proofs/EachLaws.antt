-- Each input has a document or a refusal.
use Rattle.std.proofs.Common.{◌≡◌, ◌≤◌, ◌<◌, ◌⊎◌, inl, inr, ◌+◌, ℕ, zero, suc, List, [], ◌∷◌, length, slice_get, Some, Result, Ok, Err, refl, sym, subst}
use Rattle.std.proofs.lemmas.Bool.{cases_lt}
use Rattle.xrf_grammar.specs.declared.reason.Reason.TheVariants.{TooLarge}
use Rattle.xrf_setup.specs.declared.choice.Choice.{Choice}
use Rattle.xrf_setup.specs.declared.ranges.TheConstants.{INPUT_MOST}
use Rattle.xrf_setup.specs.Scenario.{Scen, IsScen}
use Rattle.xrf_scenario.specs.Canonical.{AreChoices}
use Rattle.xrf_scenario.specs.Lines.{text_lines}
use Rattle.xrf_scenario.specs.Machine.{Fault, read_whole}
use Rattle.xrf_scenario.specs.Reading.{Reads, SaysAll}
use Rattle.xrf_scenario.specs.Said.{IsSaid}
use Rattle.xrf_scenario.specs.Settled.{scenario_of}
use Rattle.xrf_scenario.specs.SoFar.{SoFar, nothing_said}
use Rattle.xrf_scenario.specs.declared.numbered.Numbered.{Numbered}
use Rattle.xrf_scenario.proofs.HeldLaws.{choices-held}
use Rattle.xrf_scenario.proofs.ReadingLaws.{whole-bad, whole-reads, says-step}
use Rattle.xrf_scenario.proofs.SaidLaws.{nothing-said, past-whole, scen-said, step-said}
use Rattle.xrf_trace.specs.declared.entry.Entry.{Entry}
use Rattle.xrf_trace.specs.Runs.{Refusal as Stopped, run}
use Rattle.xrf_trace.proofs.RunLaws.{refusals_are_first}
use Rattle.xrf_laws.proofs.EveryRun.{of_choices}
use Rattle.xrf_report.specs.Document.{doc}
use Rattle.xrf.proofs.MadeLaws.{few-entries}
use Rattle.xrf.specs.Answer.{HasAnswer, HasOne}
use Rattle.xrf.specs.Made.{IsDocument}
use Rattle.xrf.specs.Refusals.{IsRefusal, Stops, plain}
use Rattle.xrf.specs.declared.refusal.Reason.TheVariants.{Grammar, Choosing}

-- lines that say something keep what is said within its bounds
all-said : (count : ℕ) (so last : SoFar) (lines : List (List ℕ)) → IsSaid so → SaysAll count so lines last → IsSaid last
all-said count so last [] said h = subst IsSaid (sym h) said
all-said count so last (line ∷ lines) said h =
    all-said (count + 1) h.0 last lines (step-said (count + 1) so h.0 line said (says-step (count + 1) so h.0 line h.1.0)) h.1.1

-- so what a text spells is a scenario, and choices that have lines
spelled-whole : (bytes : List ℕ) (s : Scen) (choices : List Numbered) → Reads bytes s choices → IsScen s × AreChoices (plain choices)
spelled-whole bytes s choices r =
    let said : IsSaid r.last = all-said 0 nothing_said r.last (text_lines bytes) nothing-said r.said in
    (subst IsScen (sym r.scenario) (scen-said r.last said (past-whole r.last.section r.whole)), choices-held r.last choices r.made said)

-- a choice that is there has a line
numbered-there : (numbered : List Numbered) (k : ℕ) (c : Choice) → slice_get (plain numbered) k ≡ Some c → (n : Numbered) × (slice_get numbered k ≡ Some n)
numbered-there [] k c there = absurd (cc)
numbered-there (n ∷ ns) zero c there = (n, refl)
numbered-there (n ∷ ns) (suc k) c there = numbered-there ns k c there

of-run : (bytes : List ℕ) (s : Scen) (choices : List Numbered) (o : Result (List Entry) Stopped) → length bytes ≤ INPUT_MOST → Reads bytes s choices
    → run s (plain choices) ≡ o → HasOne bytes
of-run bytes s choices (Ok t) size reads ran =
    let whole = spelled-whole bytes s choices reads in
    let keeps = of_choices s (plain choices) t whole.0 ran (few-entries s (plain choices) t ran whole.1.few) in
    let is : IsDocument bytes (doc s (plain choices)) =
    record { scenario = s; choices = choices; size = size; reads = reads; trace = t; is_run = ran; safe = keeps.0; keeps = keeps.1; document = refl } in
    inl (doc s (plain choices), is)
of-run bytes s choices (Err stop) size reads ran =
    let first = refusals_are_first s (plain choices) stop ran in
    let there = numbered-there choices stop.place first.refused first.there in
    let stops : Stops bytes there.0.line stop.reason =
    record { scenario = s; choices = choices; reads = reads; place = stop.place; stopped = ran; stopping = there.0; at = there.1; line = refl } in
    let is : IsRefusal bytes there.0.line (Choosing stop.reason) = (size, stops) in
    inr (there.0.line, (Choosing stop.reason, is))

of-text : (bytes : List ℕ) (o : Result SoFar Fault) → length bytes ≤ INPUT_MOST → read_whole bytes ≡ o → HasOne bytes
of-text bytes (Ok so) size read = of-run bytes (scenario_of so) so.choices (run (scenario_of so) (plain so.choices)) size (whole-reads bytes so read) refl
of-text bytes (Err fault) size read =
    let is : IsRefusal bytes fault.line (Grammar fault.reason) = inr (size, whole-bad bytes fault read) in
    inr (fault.line, (Grammar fault.reason, is))

by-size : (bytes : List ℕ) → (INPUT_MOST < length bytes) ⊎ (length bytes ≤ INPUT_MOST) → HasOne bytes
by-size bytes (inl large) = let is : IsRefusal bytes 0 (Grammar TooLarge) = inl (large, refl, refl) in inr (0, (Grammar TooLarge, is))
by-size bytes (inr small) = of-text bytes (read_whole bytes) small refl

pub has_answer : HasAnswer
has_answer bytes = by-size bytes (cases_lt INPUT_MOST (length bytes))
