-- What is answered, from what is made and what is written.
use Rattle.std.proofs.Common.{◌≡◌, inl, inr, ◌<◌, ℕ, List, [], length, Option, Some, None, IfSome, refl, sym, subst, arith}
use Rattle.xrf_edge.specs.Ends.{End, ReadToEnd, AppendsPrefix, came}
use Rattle.xrf_edge.specs.Faults.{HasRisen}
use Rattle.xrf.specs.Refusals.{IsRefusal, refusal_line}
use Rattle.xrf.specs.Made.{IsDocument, IsMade}
use Rattle.xrf.specs.Answer.{WritesText, Refusing, WritesMade, Replayed, Writes, Refuses, IsText}
use Rattle.xrf.specs.declared.refusal.Reason.{Reason}
use Rattle.xrf.specs.declared.refusal.Reason.TheVariants.{Grammar}
use Rattle.xrf_grammar.specs.declared.reason.Reason.TheVariants.{TooLarge}
use Rattle.xrf.specs.declared.made.Made.{Made}
use Rattle.xrf.specs.declared.made.Made.TheVariants.{Document, Refusal, NoMemory as Nothing}
use Rattle.xrf.specs.declared.status.Status.{Status}
use Rattle.xrf.specs.declared.status.Status.TheVariants.{WriteFault, NoMemory}

-- what follows of a value that may be there
pub if-some : {A : Type 0} (P Q : A → Type 0) (o : Option A) → ((x : A) → P x → Q x) → IfSome o P → IfSome o Q
if-some P Q None f h = tt
if-some P Q (Some x) f h = f x h

-- the same text is written
pub same-text : (sink sink' : End) (text other : List ℕ) (status result : Status) → text ≡ other → WritesText sink sink' text status result → WritesText sink sink' other status result
same-text sink sink' text other status result same said = subst (λ (t : List ℕ). WritesText sink sink' t status result) same said

-- a sink that fails in the text of an input
fails : (source source' sink sink' : End) (status : Status) (text : List ℕ) → IfSome source.bytes (λ bytes. IsText bytes text)
    → status ≡ WriteFault → HasRisen sink.faults sink'.faults → AppendsPrefix sink.bytes sink'.bytes text → Replayed source source' sink sink' status
fails source source' sink sink' status text is failed risen grown =
    subst (Replayed source source' sink sink') (sym failed) (record { cause = risen; text = text; is = is; grown = grown })

no_memory : (source source' sink sink' : End) (status : Status) → status ≡ NoMemory → sink' ≡ sink → Replayed source source' sink sink' status
no_memory source source' sink sink' status none same = subst (Replayed source source' sink sink') (sym none) same

-- a refusal that is written, or not for want of memory or a fault, is the answer
pub refused : (source source' sink sink' : End) (number : ℕ) (reason : Reason) (status : Status) → IfSome source.bytes (λ bytes. IsRefusal bytes number reason)
    → Refusing sink sink' number reason status → Replayed source source' sink sink' status
refused source source' sink sink' number reason status is (inl none) = no_memory source source' sink sink' status none.0 none.1
refused source source' sink sink' number reason status is (inr (inl written)) =
    subst (Replayed source source' sink sink') (sym written.0)
    (if-some (λ bytes. IsRefusal bytes number reason) (λ bytes. Refuses bytes sink sink') source.bytes
    (λ bytes is. record { number = number; reason = reason; is = is; grown = written.1 }) is)
refused source source' sink sink' number reason status is (inr (inr failed)) =
    fails source source' sink sink' status (refusal_line number reason)
    (if-some (λ bytes. IsRefusal bytes number reason) (λ bytes. IsText bytes (refusal_line number reason)) source.bytes (λ bytes is. inr (number, reason, is, refl)) is)
    failed.0 failed.1 failed.2

-- what holds of a text that is all that was left holds of what was left
pub all-read : (source source' : End) (text : List ℕ) (P : List ℕ → Type 0) → ReadToEnd source.bytes source'.bytes text → P text
    → IfSome source.bytes (λ bytes. P bytes × (source'.bytes ≡ Some []))
all-read source source' text P read is = if-some (λ bytes. (text ≡ bytes) × (source'.bytes ≡ Some [])) (λ bytes. P bytes × (source'.bytes ≡ Some [])) source.bytes (λ bytes r. (subst P r.0 is, r.1)) read

pub firsts : (source source' : End) (P : List ℕ → Type 0) → IfSome source.bytes (λ bytes. P bytes × (source'.bytes ≡ Some [])) → IfSome source.bytes P
firsts source source' P h = if-some (λ bytes. P bytes × (source'.bytes ≡ Some [])) P source.bytes (λ bytes r. r.0) h

-- what is made of the whole input and written is the answer
pub replayed : (source source' sink sink' : End) (text : List ℕ) (made : Made) (status : Status) → ReadToEnd source.bytes source'.bytes text → IsMade text made
    → WritesMade sink sink' made status → Replayed source source' sink sink' status
replayed source source' sink sink' text Nothing status read is written = no_memory source source' sink sink' status written.0 written.1
replayed source source' sink sink' text (Refusal number reason) status read is written =
    refused source source' sink sink' number reason status (firsts source source' (λ bytes. IsRefusal bytes number reason) (all-read source source' text (λ bytes. IsRefusal bytes number reason) read is)) written
replayed source source' sink sink' text (Document out) status read is (inl written) =
    subst (Replayed source source' sink sink') (sym written.0)
    (if-some (λ bytes. IsDocument bytes out.items × (source'.bytes ≡ Some [])) (λ bytes. Writes bytes source' sink sink') source.bytes
    (λ bytes r. record { text = out.items; is = r.0; again = is.1; read = r.1; grown = written.1 }) (all-read source source' text (λ bytes. IsDocument bytes out.items) read is.0))
replayed source source' sink sink' text (Document out) status read is (inr failed) =
    fails source source' sink sink' status out.items
    (if-some (λ bytes. IsDocument bytes out.items × (source'.bytes ≡ Some [])) (λ bytes. IsText bytes out.items) source.bytes (λ bytes r. inl r.0) (all-read source source' text (λ bytes. IsDocument bytes out.items) read is.0))
    failed.0 failed.1 failed.2

-- where more came than is allowed, the input is larger
pub came-more : (most : ℕ) (bytes : List ℕ) (new : Option (List ℕ)) → most < came (Some bytes) new → most < length bytes
came-more most bytes None h = absurd (omega arith)
came-more most bytes (Some left) h = omega arith

pub too_large : (source source' : End) → IfSome source.bytes (λ bytes. 4194304 < came source.bytes source'.bytes) → IfSome source.bytes (λ bytes. IsRefusal bytes 0 (Grammar TooLarge))
too_large source source' h = by source.bytes source'.bytes h
  where
    by : (o o' : Option (List ℕ)) → IfSome o (λ bytes. 4194304 < came o o') → IfSome o (λ bytes. IsRefusal bytes 0 (Grammar TooLarge))
    by None o' h = tt
    by (Some bytes) o' h = inl (came-more 4194304 bytes o' h, refl, refl)
