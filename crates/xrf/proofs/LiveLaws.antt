-- What is answered to `run`, from what is made and what is written.
use Rattle.std.proofs.Common.{◌≡◌, ◌⊎◌, inl, inr, ◌<◌, ◌≤◌, ℕ, List, [], ◌∷◌, length, reverse, Option, Some, None, IfSome, Ok, refl, sym, subst, arith}
use Rattle.xrf_edge.specs.Ends.{End, ReadToEnd, AppendsPrefix, came}
use Rattle.xrf_edge.specs.Faults.{HasRisen}
use Rattle.xrf_exit.specs.declared.ExitAnswer.{ExitAnswer}
use Rattle.xrf_grammar.specs.declared.reason.Reason.TheVariants.{TooLarge}
use Rattle.xrf_scenario.proofs.ReadingLaws.{one_reading, never_both}
use Rattle.xrf_scenario.specs.Reading.{Reads}
use Rattle.xrf_setup.specs.Scenario.{Scen}
use Rattle.xrf_setup.specs.declared.choice.Choice.{Choice}
use Rattle.xrf_setup.specs.declared.ranges.TheConstants.{INPUT_MOST}
use Rattle.xrf_trace.specs.declared.entry.Entry.{Entry}
use Rattle.xrf_trace.specs.Promises.{Promises}
use Rattle.xrf_trace.specs.Runs.{run}
use Rattle.xrf_trace.specs.Safe.{Safe}
use Rattle.xrf_report.specs.Document.{doc, ReadsAgain}
use Rattle.xrf_run.specs.Threaded.{IsThreadedRun}
use Rattle.xrf.specs.Answer.{Refusing, WritesMade}
use Rattle.xrf.specs.Live.{IsThreadedDocument, IsThreadedRefusal, IsThreadedMade, IsThreadedText, WritesThreaded, RefusesThreaded, Lived, LivesThrough}
use Rattle.xrf.specs.Made.{IsDocument}
use Rattle.xrf.specs.Refusals.{refusal_line}
use Rattle.xrf.specs.declared.made.Made.{Made}
use Rattle.xrf.specs.declared.made.Made.TheVariants.{Document, Refusal, NoMemory as Nothing}
use Rattle.xrf.specs.declared.refusal.Reason.{Reason}
use Rattle.xrf.specs.declared.refusal.Reason.TheVariants.{Grammar, Choosing}
use Rattle.xrf.specs.declared.status.Status.{Status}
use Rattle.xrf.specs.declared.status.Status.TheVariants.{Done, Refused, Usage, ReadFault, WriteFault, NoMemory}
use Rattle.xrf.proofs.AnswerLaws.{if-some, all-read, firsts, came-more}
use Rattle.xrf.proofs.MadeLaws.{document-of-itself}
use Rattle.xrf.proofs.OneLaws.{there}

-- the document of a threaded run
pub threaded-made : (may : ExitAnswer → Type 0) (s : Scen) (choices : List Choice) (t : List Entry) (text : List ℕ) → run s choices ≡ Ok t → IsThreadedRun s may t (reverse choices) → Safe s t × Promises s t
    → text ≡ doc s choices → ReadsAgain s choices text → length text < 4194304
    → (bytes : List ℕ) → length bytes ≤ INPUT_MOST → Reads bytes s [] → IsThreadedDocument may bytes text × IsDocument text text
threaded-made may s choices t text ran threaded keeps same again short bytes size reads = (
  record { scenario = s; size = size; reads = reads; choices = choices; trace = t; is_run = ran; threaded = threaded; safe = keeps.0; keeps = keeps.1; document = same },
  document-of-itself s choices t text ran keeps same again short,
)

-- a sink that fails in the text of an input
lived-fails : (may : ExitAnswer → Type 0) (source source' sink sink' : End) (status : Status) (text : List ℕ) → IfSome source.bytes (λ bytes. IsThreadedText may bytes text)
    → status ≡ WriteFault → HasRisen sink.faults sink'.faults → AppendsPrefix sink.bytes sink'.bytes text → Lived may source source' sink sink' status
lived-fails may source source' sink sink' status text is failed risen grown =
    subst (Lived may source source' sink sink') (sym failed) (record { cause = risen; text = text; is = is; grown = grown })

lived-no_memory : (may : ExitAnswer → Type 0) (source source' sink sink' : End) (status : Status) → status ≡ NoMemory → sink' ≡ sink → Lived may source source' sink sink' status
lived-no_memory may source source' sink sink' status none same = subst (Lived may source source' sink sink') (sym none) same

-- a refusal that is written, or not for want of memory or a fault, is the answer
pub lived-refused : (may : ExitAnswer → Type 0) (source source' sink sink' : End) (number : ℕ) (reason : Reason) (status : Status) → IfSome source.bytes (λ bytes. IsThreadedRefusal bytes number reason)
    → Refusing sink sink' number reason status → Lived may source source' sink sink' status
lived-refused may source source' sink sink' number reason status is (inl none) = lived-no_memory may source source' sink sink' status none.0 none.1
lived-refused may source source' sink sink' number reason status is (inr (inl written)) =
    subst (Lived may source source' sink sink') (sym written.0)
    (if-some (λ bytes. IsThreadedRefusal bytes number reason) (λ bytes. RefusesThreaded bytes sink sink') source.bytes
    (λ bytes is. record { number = number; reason = reason; is = is; grown = written.1 }) is)
lived-refused may source source' sink sink' number reason status is (inr (inr failed)) =
    lived-fails may source source' sink sink' status (refusal_line number reason)
    (if-some (λ bytes. IsThreadedRefusal bytes number reason) (λ bytes. IsThreadedText may bytes (refusal_line number reason)) source.bytes (λ bytes is. inr (number, reason, is, refl)) is)
    failed.0 failed.1 failed.2

-- what is made of the whole input and written is the answer
pub lived : (may : ExitAnswer → Type 0) (source source' sink sink' : End) (text : List ℕ) (made : Made) (status : Status) → ReadToEnd source.bytes source'.bytes text → IsThreadedMade may text made
    → WritesMade sink sink' made status → Lived may source source' sink sink' status
lived may source source' sink sink' text Nothing status read is written = lived-no_memory may source source' sink sink' status written.0 written.1
lived may source source' sink sink' text (Refusal number reason) status read is written =
    lived-refused may source source' sink sink' number reason status
    (firsts source source' (λ bytes. IsThreadedRefusal bytes number reason) (all-read source source' text (λ bytes. IsThreadedRefusal bytes number reason) read is)) written
lived may source source' sink sink' text (Document out) status read is (inl written) =
    subst (Lived may source source' sink sink') (sym written.0)
    (if-some (λ bytes. IsThreadedDocument may bytes out.items × (source'.bytes ≡ Some [])) (λ bytes. WritesThreaded may bytes source' sink sink') source.bytes
    (λ bytes r. record { text = out.items; is = r.0; again = is.1; read = r.1; grown = written.1 }) (all-read source source' text (λ bytes. IsThreadedDocument may bytes out.items) read is.0))
lived may source source' sink sink' text (Document out) status read is (inr failed) =
    lived-fails may source source' sink sink' status out.items
    (if-some (λ bytes. IsThreadedDocument may bytes out.items × (source'.bytes ≡ Some [])) (λ bytes. IsThreadedText may bytes out.items) source.bytes (λ bytes r. inl r.0)
    (all-read source source' text (λ bytes. IsThreadedDocument may bytes out.items) read is.0))
    failed.0 failed.1 failed.2

-- where more came than is allowed, the input is too large
pub lived-too_large : (source source' : End) → IfSome source.bytes (λ bytes. 4194304 < came source.bytes source'.bytes) → IfSome source.bytes (λ bytes. IsThreadedRefusal bytes 0 (Grammar TooLarge))
lived-too_large source source' h = by source.bytes source'.bytes h
  where
    by : (o o' : Option (List ℕ)) → IfSome o (λ bytes. 4194304 < came o o') → IfSome o (λ bytes. IsThreadedRefusal bytes 0 (Grammar TooLarge))
    by None o' h = tt
    by (Some bytes) o' h = inl (came-more 4194304 bytes o' h, refl, refl)

-- a scenario without a choice is not refused
not_refused : (bytes : List ℕ) (s : Scen) (number : ℕ) (reason : Reason) → length bytes ≤ INPUT_MOST → Reads bytes s [] → IsThreadedRefusal bytes number reason → ⊥
not_refused bytes s number (Choosing reason) size reads never = never
not_refused bytes s number (Grammar reason) size reads (inl large) = omega (arith, size, large.0)
not_refused bytes s number (Grammar reason) size reads (inr (small, inl bad)) = never_both bytes s [] number reason reads bad
not_refused bytes s number (Grammar reason) size reads (inr (small, inr (given, has))) =
    let same = one_reading bytes s has.scenario [] (has.first ∷ has.others) reads has.reads in cc

-- the answer to `run` of a scenario without a choice, and of a text that has a refusal, without a fault
lived_done : (may : ExitAnswer → Type 0) (source source' sink sink' : End) (status : Status) (bytes : List ℕ) (s : Scen) → source.bytes ≡ Some bytes → length bytes ≤ INPUT_MOST → Reads bytes s []
    → ¬ HasRisen source.faults source'.faults → ¬ HasRisen sink.faults sink'.faults → Lived may source source' sink sink' status → (status ≡ Done) ⊎ (status ≡ NoMemory)
lived_done may source source' sink sink' Done bytes s is size reads quiet quiet' answer = inl refl
lived_done may source source' sink sink' Refused bytes s is size reads quiet quiet' answer =
    let refuses = there _ source.bytes bytes is answer in absurd (not_refused bytes s refuses.number refuses.reason size reads refuses.is)
lived_done may source source' sink sink' Usage bytes s is size reads quiet quiet' answer = absurd answer
lived_done may source source' sink sink' ReadFault bytes s is size reads quiet quiet' answer = absurd (quiet answer.0)
lived_done may source source' sink sink' WriteFault bytes s is size reads quiet quiet' answer = absurd (quiet' answer.cause)
lived_done may source source' sink sink' NoMemory bytes s is size reads quiet quiet' answer = inr refl

refusal_told : (may : ExitAnswer → Type 0) (source source' sink sink' : End) (status : Status) (bytes : List ℕ) (number : ℕ) (reason : Reason) → source.bytes ≡ Some bytes → IsThreadedRefusal bytes number reason
    → ¬ HasRisen source.faults source'.faults → ¬ HasRisen sink.faults sink'.faults → Lived may source source' sink sink' status → (status ≡ Refused) ⊎ (status ≡ NoMemory)
refusal_told may source source' sink sink' Done bytes number reason is refused quiet quiet' answer =
    let writes = there _ source.bytes bytes is answer in absurd (not_refused bytes writes.is.scenario number reason writes.is.size writes.is.reads refused)
refusal_told may source source' sink sink' Refused bytes number reason is refused quiet quiet' answer = inl refl
refusal_told may source source' sink sink' Usage bytes number reason is refused quiet quiet' answer = absurd answer
refusal_told may source source' sink sink' ReadFault bytes number reason is refused quiet quiet' answer = absurd (quiet answer.0)
refusal_told may source source' sink sink' WriteFault bytes number reason is refused quiet quiet' answer = absurd (quiet' answer.cause)
refusal_told may source source' sink sink' NoMemory bytes number reason is refused quiet quiet' answer = inr refl

pub lives_through : (may : ExitAnswer → Type 0) (source source' sink sink' : End) (status : Status) → Lived may source source' sink sink' status → LivesThrough source source' sink sink' status
lives_through may source source' sink sink' status answer = record {
  scenario = λ bytes s is size reads quiet quiet'. lived_done may source source' sink sink' status bytes s is size reads quiet quiet' answer;
  refusal = λ bytes number reason is refused quiet quiet'. refusal_told may source source' sink sink' status bytes number reason is refused quiet quiet' answer;
}
