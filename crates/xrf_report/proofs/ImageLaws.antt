-- The bytes of data sets that stand for a trace.
use Rattle.std.proofs.Common.{◌≡◌, ◌≤◌, ◌<◌, ◌+◌, ◌*◌, ℕ, suc, codes, refl, List, ◌++◌, length, take, drop, Option, Some, None, Result, Ok, Err, OnOk, sym, ap, subst, ◌∙◌, arith}
use Rattle.std.proofs.lemmas.List.{take-append-drop, drop-drop, take_all, length-drop, append_assoc}
use Rattle.xrf_base.specs.declared.site.Site.TheVariants.{A, B}
use Rattle.xrf_ctl.specs.Signal.{SignalRecord}
use Rattle.xrf_ctl.specs.Layout.{control_bytes}
use Rattle.xrf_devices.specs.Standing.{SectorIs, FileIs, StandsFor}
use Rattle.xrf_devices.specs.Places.{record_place}
use Rattle.xrf_devices.specs.declared.data_sets.DataSets.{DataSets}
use Rattle.xrf_gated.specs.Landing.{part}
use Rattle.xrf_gated.specs.Slots.{bytes_of}
use Rattle.xrf_gated.specs.declared.gated.Slot.{Slot}
use Rattle.xrf_trace.specs.Devices as trace
use Rattle.xrf_trace.specs.Scenario.{Scen}
use Rattle.xrf_trace.specs.declared.entry.Entry.{Entry}
use Rattle.xrf_base.specs.Values.{slot_reading}
use Rattle.xrf_report.specs.Files.{slot_line, file_text}
use Rattle.xrf_report.specs.Fits.{HeldFits, RecordsFit, SlotsFit, PiecesFit}
use Rattle.xrf_report.specs.Images.{sector_bytes, ctl_bytes, msg_signals, image_line, pieces_text, slot_lines, slots_text, records_text}

-- a list is two parts of it, one behind the other
two-parts : (bytes : List ℕ) (place n rest : ℕ) → length bytes ≡ place + n + rest → part bytes place n ++ part bytes (place + n) rest ≡ drop place bytes
two-parts bytes place n rest size =
    let left : length (drop place bytes) ≡ n + rest = omega (arith, length-drop place bytes) in
    let last : part bytes (place + n) rest ≡ drop n (drop place bytes) =
    take_all rest (drop (place + n) bytes) (omega (arith, length-drop (place + n) bytes)) ∙ sym (drop-drop n place bytes) in
    ap (λ (b : List ℕ). part bytes place n ++ b) last ∙ take-append-drop n (drop place bytes)

sector-is : (bytes : List ℕ) (signal : Option SignalRecord) → SectorIs bytes signal → bytes ≡ sector_bytes signal
sector-is bytes None is = is
sector-is bytes (Some signal) is = is.1

-- DFHXRCTL is the control record and the signals behind it
pub ctl-is : (d : DataSets) (s : Scen) (t : List Entry) → StandsFor d s t → d.ctl ≡ ctl_bytes t
ctl-is d s t is =
    let size : length d.ctl ≡ 384 = is.ctl_size in
    let signals : part d.ctl 256 64 ++ part d.ctl 320 64 ≡ drop 256 d.ctl = two-parts d.ctl 256 64 64 size in
    sym (take-append-drop 256 d.ctl) ∙ ap (λ (b : List ℕ). take 256 d.ctl ++ b) (sym signals) ∙ sym (append_assoc (take 256 d.ctl) (part d.ctl 256 64) (part d.ctl 320 64))
    ∙ ap (λ (b : List ℕ). b ++ part d.ctl 256 64 ++ part d.ctl 320 64) is.control.1
    ∙ ap (λ (b : List ℕ). control_bytes (trace.control t) ++ b ++ part d.ctl 320 64) (sector-is (part d.ctl 256 64) (trace.sector1 t A) (is.sector1 A))
    ∙ ap (λ (b : List ℕ). control_bytes (trace.control t) ++ sector_bytes (trace.sector1 t A) ++ b) (sector-is (part d.ctl 320 64) (trace.sector1 t B) (is.sector1 B))

-- DFHXRMSG begins with signals
pub signals-are : (d : DataSets) (s : Scen) (t : List Entry) → StandsFor d s t → d.signals ≡ msg_signals t
signals-are d s t is =
    let size : length d.signals ≡ 128 = is.signals_size in
    sym (two-parts d.signals 0 64 64 size) ∙ ap (λ (b : List ℕ). b ++ part d.signals 64 64) (sector-is (part d.signals 0 64) (trace.sector2 t A) (is.sector2 A))
    ∙ ap (λ (b : List ℕ). sector_bytes (trace.sector2 t A) ++ b) (sector-is (part d.signals 64 64) (trace.sector2 t B) (is.sector2 B))

-- a record of the file stands in its piece
pub record_at : (records : ℕ) (file : List ℕ) (image : ℕ → List ℕ) (k : ℕ) → FileIs records file image → k < records → part file (32 * k) 32 ≡ image (k + 1)
record_at records file image k is within =
    let place : record_place (k + 1) ≡ 32 * k = ap (λ (n : ℕ). 32 * n) (omega arith) in
    subst (λ (n : ℕ). part file n 32 ≡ image (k + 1)) place (is (k + 1) (omega arith) (omega arith))

-- one more piece, slot or record
next-is : (k : ℕ) → suc k ≡ k + 1
next-is k = omega arith

pub pieces_more : (name bytes : List ℕ) (k : ℕ) → pieces_text name bytes (k + 1) ≡ pieces_text name bytes k ++ image_line name (32 * k) (part bytes (32 * k) 32)
pieces_more name bytes k =
    subst (λ (n : ℕ). pieces_text name bytes n ≡ pieces_text name bytes k ++ image_line name (32 * k) (part bytes (32 * k) 32)) (next-is k) refl

pub slots_more : (name : List ℕ) (at : ℕ) (slot : ℕ → Slot) (k : ℕ) → slots_text name at slot (k + 1) ≡ slots_text name at slot k ++ slot_lines name (at + 64 * k) (bytes_of (slot k))
slots_more name at slot k =
    subst (λ (n : ℕ). slots_text name at slot n ≡ slots_text name at slot k ++ slot_lines name (at + 64 * k) (bytes_of (slot k))) (next-is k) refl

pub records_more : (image : ℕ → List ℕ) (k : ℕ) → records_text image (k + 1) ≡ records_text image k ++ image_line (codes "FILE") (32 * k) (image (k + 1))
records_more image k =
    subst (λ (n : ℕ). records_text image n ≡ records_text image k ++ image_line (codes "FILE") (32 * k) (image n)) (next-is k) refl

-- a text that grew by a line, which is the next of those that are written
pub grown : (start line next : List ℕ) {before new last : List ℕ} → new ≡ before ++ line → before ≡ start ++ next → last ≡ next ++ line → new ≡ start ++ last
grown start line next {before} {new} {last} grew was more =
    grew ∙ ap (λ (t : List ℕ). t ++ line) was ∙ append_assoc start next line ∙ ap (λ (t : List ℕ). start ++ t) (sym more)

-- and one that grew by some lines
pub grown-by : (start text line : List ℕ) {before new : List ℕ} → new ≡ before ++ line → before ≡ start ++ text → new ≡ start ++ (text ++ line)
grown-by start text line {before} {new} grew was = grew ∙ ap (λ (t : List ℕ). t ++ line) was ∙ append_assoc start text line

-- what follows from what holds of an Ok
pub on-ok : {T E : Type 0} (r : Result T E) {P Q : Type 0} → (P → Q) → OnOk r P → OnOk r Q
on-ok (Ok done) {P} {Q} so holds = so holds
on-ok (Err why) {P} {Q} so holds = tt

pub file_more : (image : ℕ → List ℕ) (k : ℕ) → file_text image (k + 1) ≡ file_text image k ++ slot_line (k + 1) (slot_reading (image (k + 1)))
file_more image k =
    subst (λ (n : ℕ). file_text image n ≡ file_text image k ++ slot_line n (slot_reading (image n))) (next-is k) refl

pub fits_more : (image : ℕ → List ℕ) (k : ℕ) → RecordsFit image k → HeldFits (slot_reading (image (k + 1))) → RecordsFit image (k + 1)
fits_more image k before next = subst (λ (n : ℕ). HeldFits (slot_reading (image n)) → RecordsFit image n) (next-is k) (λ own. (before, own)) next

pub slots_fit : (slot : ℕ → Slot) (k : ℕ) → SlotsFit slot k → length (bytes_of (slot k)) ≡ 64 → SlotsFit slot (k + 1)
slots_fit slot k before next = subst (λ (n : ℕ). SlotsFit slot n) (next-is k) (before, next)

pub pieces_fit : (image : ℕ → List ℕ) (k : ℕ) → PiecesFit image k → length (image (k + 1)) ≡ 32 → PiecesFit image (k + 1)
pieces_fit image k before next = subst (λ (n : ℕ). length (image n) ≡ 32 → PiecesFit image n) (next-is k) (λ own. (before, own)) next
