-- The sectors of both sites, of which one is written.
use Rattle.std.proofs.Common.{◌≡◌, ℕ, Bool, true, false, ◌&&◌, ◌+◌, ◌≤◌, ◌↔◌, arith, length, slice_index, replicate, ◌∙◌, List, Option, Some, None, refl, sym, ap, subst}
use Rattle.xrf_base.specs.declared.site.Site.{Site}
use Rattle.xrf_base.specs.declared.site.Site.TheVariants as site
use Rattle.xrf_ctl.specs.Signal.{SignalRecord, SpellsSignal}
use Rattle.xrf_gated.specs.Landing.{part, landed}
use Rattle.xrf_devices.specs.Places.{sector1_place, sector2_place}
use Rattle.xrf_devices.proofs.Parts.{part-behind}
use Rattle.xrf_trace.specs.Devices.{signal_if}
use Rattle.xrf_trace.specs.Words.{is_of}
use Rattle.xrf_trace.specs.declared.entry.Who.{Who}
use Rattle.xrf_trace.specs.declared.entry.Who.TheVariants as who
use Rattle.xrf_devices.specs.Standing.{SectorIs, SectorsAre}

-- one that stays has its signal
stays : (place : Site → ℕ) (old new : List ℕ) (before : Site → Option SignalRecord) (x : Site) → part new (place x) 64 ≡ part old (place x) 64
    → SectorsAre place old before → SectorIs (part new (place x) 64) (before x)
stays place old new before x same are = subst (λ bytes. SectorIs bytes (before x)) (sym same) (are x)

-- one that is written has the signal
written : (bytes : List ℕ) (signal : SignalRecord) (before : Option SignalRecord) (lands : Bool) → lands ≡ true → SpellsSignal bytes signal
    → SectorIs bytes (signal_if lands signal before)
written bytes signal before lands is spelled = subst (λ b. SectorIs bytes (signal_if b signal before)) (sym is) spelled

pub sectors-a : (place : Site → ℕ) (old new : List ℕ) (signal : SignalRecord) (before : Site → Option SignalRecord) (lands : Bool) → lands ≡ true
    → SpellsSignal (part new (place site.A) 64) signal → part new (place site.B) 64 ≡ part old (place site.B) 64 → SectorsAre place old before
    → SectorsAre place new (λ x. signal_if (is_of who.A x && lands) signal (before x))
sectors-a place old new signal before lands is spelled same are site.A = written (part new (place site.A) 64) signal (before site.A) lands is spelled
sectors-a place old new signal before lands is spelled same are site.B = stays place old new before site.B same are

pub sectors-b : (place : Site → ℕ) (old new : List ℕ) (signal : SignalRecord) (before : Site → Option SignalRecord) (lands : Bool) → lands ≡ true
    → SpellsSignal (part new (place site.B) 64) signal → part new (place site.A) 64 ≡ part old (place site.A) 64 → SectorsAre place old before
    → SectorsAre place new (λ x. signal_if (is_of who.B x && lands) signal (before x))
sectors-b place old new signal before lands is spelled same are site.A = stays place old new before site.A same are
sectors-b place old new signal before lands is spelled same are site.B = written (part new (place site.B) 64) signal (before site.B) lands is spelled

-- where nothing landed both stay
pub sectors-stay : (place : Site → ℕ) (bytes : List ℕ) (signal : SignalRecord) (before : Site → Option SignalRecord) (w : Who) (lands : Bool) → lands ≡ false
    → SectorsAre place bytes before → SectorsAre place bytes (λ x. signal_if (is_of w x && lands) signal (before x))
sectors-stay place bytes signal before w lands is are x =
    subst (λ b. SectorIs (part bytes (place x) 64) (signal_if (is_of w x && b) signal (before x))) (sym is) (by (is_of w x))
  where
    by : (b : Bool) → SectorIs (part bytes (place x) 64) (signal_if (b && false) signal (before x))
    by true = are x
    by false = are x

-- neither is written by no site
pub sectors-env : (place : Site → ℕ) (bytes : List ℕ) (signal : SignalRecord) (before : Site → Option SignalRecord) (lands : Bool)
    → SectorsAre place bytes before → SectorsAre place bytes (λ x. signal_if (is_of who.Env x && lands) signal (before x))
sectors-env place bytes signal before lands are site.A = are site.A
sectors-env place bytes signal before lands are site.B = are site.B

-- what is read of a sector is its signal
pub sector-read : (bytes : List ℕ) (found signal : Option SignalRecord) → ((s : SignalRecord) → (found ≡ Some s) ↔ SpellsSignal bytes s)
    → SectorIs bytes signal → found ≡ signal
sector-read bytes found (Some s) reads is = (reads s).1 is
sector-read bytes None None reads is = refl
sector-read bytes (Some s) None reads is =
    let first : 88 ≡ 0 = ap (λ (b : List ℕ). slice_index b 0) (sym ((reads s).0 refl).1 ∙ is) in
    absurd (omega (arith, first))

-- in zeros there is none
pub zero-sectors1 : (ctl : List ℕ) → ctl ≡ replicate 384 0 → SectorsAre sector1_place ctl (λ x. None)
zero-sectors1 ctl is site.A = ap (λ (b : List ℕ). part b 256 64) is
zero-sectors1 ctl is site.B = ap (λ (b : List ℕ). part b 320 64) is

pub zero-sectors2 : (signals : List ℕ) → signals ≡ replicate 128 0 → SectorsAre sector2_place signals (λ x. None)
zero-sectors2 signals is site.A = ap (λ (b : List ℕ). part b 0 64) is
zero-sectors2 signals is site.B = ap (λ (b : List ℕ). part b 64 64) is

-- a write of the control record keeps both
pub sectors-kept : (old new from : List ℕ) (signal : Site → Option SignalRecord) → length old ≡ 384 → length from ≡ 256 → new ≡ landed old 0 from
    → SectorsAre sector1_place old signal → SectorsAre sector1_place new signal
sectors-kept old new from signal size long is are x =
    subst (λ bytes. SectorIs bytes (signal x)) (sym (ap (λ b. part b (sector1_place x) 64) is
    ∙ part-behind old from 0 (sector1_place x) 64 (omega arith) (behind x))) (are x)
  where
    behind : (x : Site) → 0 + length from ≤ sector1_place x
    behind site.A = omega arith
    behind site.B = omega arith
