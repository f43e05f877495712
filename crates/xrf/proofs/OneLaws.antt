-- At most one document, at most one refusal, and never both.
use Rattle.std.proofs.Common.{String, ◌≡◌, ◌⊎◌, inl, inr, ℕ, Bool, true, false, List, slice_get, Option, Some, None, IfSome, MatchBool, Result, Ok, Err, refl, sym, ◌∙◌, ap, subst, arith}
use Rattle.std.specs.Global.{Global}
use Rattle.xrf_edge.specs.Ends.{End}
use Rattle.xrf_edge.specs.Faults.{HasRisen}
use Rattle.xrf_setup.specs.Scenario.{Scen}
use Rattle.xrf_scenario.specs.declared.numbered.Numbered.{Numbered}
use Rattle.xrf_scenario.proofs.ReadingLaws.{one_reading, never_both, one_fault}
use Rattle.xrf_trace.specs.declared.entry.Entry.{Entry}
use Rattle.xrf_trace.specs.Runs.{run, Refusal}
use Rattle.xrf_report.specs.Document.{doc}
use Rattle.xrf.specs.Refusals.{plain, Stops}
use Rattle.xrf_trace.specs.declared.entry.Refused.{Refused as Why}
use Rattle.xrf_trace.specs.declared.entry.Refused.TheVariants.{NotEnabled}
use Rattle.xrf.specs.Made.{IsDocument}
use Rattle.xrf.specs.Words.{is_replay, usage_line}
use Rattle.xrf.specs.DriveWords.{drive_asked}
use Rattle.xrf.specs.Driven.{Driven}
use Rattle.xrf.specs.Refusals.{IsRefusal}
use Rattle.xrf.specs.declared.drive_words.Asked.{Asked}
use Rattle.xrf.specs.declared.refusal.Reason.{Reason}
use Rattle.xrf.specs.Answer.{WritesText, Replayed, Unread, Answered, Complete, IsOr, OneText, OneRefusal, NeverRefused}
use Rattle.xrf.specs.declared.refusal.Reason.TheVariants.{Grammar, Choosing}
use Rattle.xrf.specs.declared.status.Status.{Status}
use Rattle.xrf.specs.declared.status.Status.TheVariants.{Done, Refused, Usage, ReadFault, WriteFault, NoMemory}

-- two readings of a text run alike
same_run : (s s' : Scen) (cs cs' : List Numbered) → s ≡ s' → cs ≡ cs' → run s (plain cs) ≡ run s' (plain cs')
same_run s s' cs cs' is are = ap (λ (t : Scen). run t (plain cs)) is ∙ ap (λ (l : List Numbered). run s' (plain l)) are

pub one_text : OneText
one_text bytes text text' d d' =
    let same = one_reading bytes d.scenario d'.scenario d.choices d'.choices d.reads d'.reads in
    d.document ∙ ap (λ (t : Scen). doc t (plain d.choices)) same.0 ∙ ap (λ (l : List Numbered). doc d'.scenario (plain l)) same.1 ∙ sym d'.document

pub never_refused : NeverRefused
never_refused bytes text number (Grammar reason) d (inl large) = omega (arith, d.size, large.0)
never_refused bytes text number (Grammar reason) d (inr r) = never_both bytes d.scenario d.choices number reason d.reads r.1
never_refused bytes text number (Choosing reason) d r =
    let same = one_reading bytes d.scenario r.1.scenario d.choices r.1.choices d.reads r.1.reads in
    let clash = sym d.is_run ∙ same_run d.scenario r.1.scenario d.choices r.1.choices same.0 same.1 ∙ r.1.stopped in
    cc

-- where a run stopped, and why
abbrev place_in : Result (List Entry) Refusal → ℕ
place_in (Ok trace) = 0
place_in (Err stopped) = stopped.place

abbrev reason_in : Result (List Entry) Refusal → Why
reason_in (Ok trace) = NotEnabled
reason_in (Err stopped) = stopped.reason

-- a run stops at one choice
one_stop : (bytes : List ℕ) (number number' : ℕ) (reason reason' : Why) → Stops bytes number reason → Stops bytes number' reason' → (number ≡ number') × (reason ≡ reason')
one_stop bytes number number' reason reason' a b =
    let same = one_reading bytes a.scenario b.scenario a.choices b.choices a.reads b.reads in
    let ends = sym a.stopped ∙ same_run a.scenario b.scenario a.choices b.choices same.0 same.1 ∙ b.stopped in
    let places : a.place ≡ b.place = ap place_in ends in
    let reasons : reason ≡ reason' = ap reason_in ends in
    let found : slice_get a.choices a.place ≡ slice_get b.choices b.place = ap (λ (l : List Numbered). slice_get l a.place) same.1 ∙ ap (λ (n : ℕ). slice_get b.choices n) places in
    let some = sym a.at ∙ found ∙ b.at in
    let stopping : a.stopping ≡ b.stopping = cc in
    (a.line ∙ ap (λ (c : Numbered). c.line) stopping ∙ sym b.line, reasons)

pub one_refusal : OneRefusal
one_refusal bytes number number' (Grammar reason) (Grammar reason') (inl a) (inl b) = (a.1 ∙ sym b.1, ap Grammar (a.2 ∙ sym b.2))
one_refusal bytes number number' (Grammar reason) (Grammar reason') (inl a) (inr b) = absurd (omega (arith, a.0, b.0))
one_refusal bytes number number' (Grammar reason) (Grammar reason') (inr a) (inl b) = absurd (omega (arith, a.0, b.0))
one_refusal bytes number number' (Grammar reason) (Grammar reason') (inr a) (inr b) =
    let same = one_fault bytes number number' reason reason' a.1 b.1 in (same.0, ap Grammar same.1)
one_refusal bytes number number' (Grammar reason) (Choosing reason') (inl a) b = absurd (omega (arith, a.0, b.0))
one_refusal bytes number number' (Grammar reason) (Choosing reason') (inr a) b = absurd (never_both bytes b.1.scenario b.1.choices number reason b.1.reads a.1)
one_refusal bytes number number' (Choosing reason) (Grammar reason') a (inl b) = absurd (omega (arith, a.0, b.0))
one_refusal bytes number number' (Choosing reason) (Grammar reason') a (inr b) = absurd (never_both bytes a.1.scenario a.1.choices number' reason' a.1.reads b.1)
one_refusal bytes number number' (Choosing reason) (Choosing reason') a b =
    let same = one_stop bytes number number' reason reason' a.1 b.1 in (same.0, ap Choosing same.1)

-- where a value is there, what holds of it if it is there holds
pub there : {A : Type 0} (P : A → Type 0) (o : Option A) (x : A) → o ≡ Some x → IfSome o P → P x
there {A = A} P o x is h = let at : IfSome (Some x) P = subst (λ (p : Option A). IfSome p P) is h in at

-- the answer to `replay` of an input that has a document, without a fault
replay_complete : (source source' sink sink' : End) (status : Status) (bytes text : List ℕ) → source.bytes ≡ Some bytes → IsDocument bytes text
    → ¬ HasRisen source.faults source'.faults → ¬ HasRisen sink.faults sink'.faults → Replayed source source' sink sink' status → (status ≡ Done) ⊎ (status ≡ NoMemory)
replay_complete source source' sink sink' Done bytes text is d quiet quiet' answer = inl refl
replay_complete source source' sink sink' Refused bytes text is d quiet quiet' answer =
    let refuses = there _ source.bytes bytes is answer in absurd (never_refused bytes text refuses.number refuses.reason d refuses.is)
replay_complete source source' sink sink' Usage bytes text is d quiet quiet' answer = absurd answer
replay_complete source source' sink sink' ReadFault bytes text is d quiet quiet' answer = absurd (quiet answer.0)
replay_complete source source' sink sink' WriteFault bytes text is d quiet quiet' answer = absurd (quiet' answer.cause)
replay_complete source source' sink sink' NoMemory bytes text is d quiet quiet' answer = inr refl

-- and of one that has a refusal
replay_refused : (source source' sink sink' : End) (status : Status) (bytes : List ℕ) (number : ℕ) (reason : Reason) → source.bytes ≡ Some bytes → IsRefusal bytes number reason
    → ¬ HasRisen source.faults source'.faults → ¬ HasRisen sink.faults sink'.faults → Replayed source source' sink sink' status → IsOr Refused status
replay_refused source source' sink sink' Done bytes number reason is r quiet quiet' answer =
    let writes = there _ source.bytes bytes is answer in absurd (never_refused bytes writes.text number reason writes.is r)
replay_refused source source' sink sink' Refused bytes number reason is r quiet quiet' answer = inl refl
replay_refused source source' sink sink' Usage bytes number reason is r quiet quiet' answer = absurd answer
replay_refused source source' sink sink' ReadFault bytes number reason is r quiet quiet' answer = absurd (quiet answer.0)
replay_refused source source' sink sink' WriteFault bytes number reason is r quiet quiet' answer = absurd (quiet' answer.cause)
replay_refused source source' sink sink' NoMemory bytes number reason is r quiet quiet' answer = inr refl

-- the answer to `drive` without a fault
driven_whole : (asked : Asked) (sink sink' : End) (status : Status) → ¬ HasRisen sink.faults sink'.faults → Driven asked sink sink' status → IsOr Done status
driven_whole asked sink sink' Done quiet answer = inl refl
driven_whole asked sink sink' Refused quiet answer = absurd answer
driven_whole asked sink sink' Usage quiet answer = absurd answer
driven_whole asked sink sink' ReadFault quiet answer = absurd answer
driven_whole asked sink sink' WriteFault quiet answer = absurd (quiet answer.cause)
driven_whole asked sink sink' NoMemory quiet answer = inr refl

-- what is written without a fault
written_whole : (sink sink' : End) (text : List ℕ) (wanted status : Status) → ¬ HasRisen sink.faults sink'.faults → WritesText sink sink' text wanted status → status ≡ wanted
written_whole sink sink' text wanted status quiet (inl written) = written.0
written_whole sink sink' text wanted status quiet (inr failed) = absurd (quiet failed.1)

-- what words other than `replay` are answered, by what they ask
unread_at : (source source' sink sink' : End) (status : Status) (found asked : Option Asked) → found ≡ asked → Unread found source source' sink sink' status
    → Unread asked source source' sink sink' status
unread_at source source' sink sink' status found asked is answer = subst (λ (o : Option Asked). Unread o source source' sink sink' status) is answer

pub complete : (words : List (String Global)) (source source' sink sink' : End) (status : Status) → Answered words source source' sink sink' status → Complete words source source' sink sink' status
complete words source source' sink sink' status answered =
    let replayed : is_replay words ≡ true → Replayed source source' sink sink' status =
    λ asked. subst (λ (b : Bool). MatchBool b (Replayed source source' sink sink' status) (Unread (drive_asked words) source source' sink sink' status)) asked answered in
    let unread : is_replay words ≡ false → Unread (drive_asked words) source source' sink sink' status =
    λ asked. subst (λ (b : Bool). MatchBool b (Replayed source source' sink sink' status) (Unread (drive_asked words) source source' sink sink' status)) asked answered in
    record {
      document = λ bytes text asked is d quiet quiet'. replay_complete source source' sink sink' status bytes text is d quiet quiet' (replayed asked);
      refusal = λ bytes number reason asked is r quiet quiet'. replay_refused source source' sink sink' status bytes number reason is r quiet quiet' (replayed asked);
      drive = λ asked other is quiet. driven_whole asked sink sink' status quiet (unread_at source source' sink sink' status (drive_asked words) (Some asked) is (unread other)).1;
      usage = λ other none quiet. written_whole sink sink' usage_line Usage status quiet (unread_at source source' sink sink' status (drive_asked words) None none (unread other)).1;
    }
