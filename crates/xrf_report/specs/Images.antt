-- The lines of the images of data sets: each 32 bytes that are not all zero, at their offset.
use Rattle.std.specs.Prelude.{ℕ, zero, suc, ◌+◌, ◌*◌, ◌/◌, ◌==◌, Bool, List, [], ◌++◌, length, codes, Option, Some, None, take, drop, if◌then◌else◌}
use Rattle.std.specs.Fmt.{decimal}
use Rattle.std.specs.List.{list_all}
use Rattle.xrf_base.specs.declared.site.Site.TheVariants.{A, B}
use Rattle.xrf_ctl.specs.Layout.{control_bytes}
use Rattle.xrf_ctl.specs.Places.{zeros}
use Rattle.xrf_ctl.specs.Signal.{SignalRecord, signal_bytes}
use Rattle.xrf_gated.specs.Landing.{part}
use Rattle.xrf_gated.specs.Slots.{bytes_of}
use Rattle.xrf_gated.specs.declared.gated.Slot.{Slot}
use Rattle.xrf_grammar.specs.Spelling.{hex_text}
use Rattle.xrf_setup.specs.Scenario.{Scen}
use Rattle.xrf_trace.specs.Devices.{control, sector1, sector2, message_slot, log_slot, key_slot, image}
use Rattle.xrf_trace.specs.declared.entry.Entry.{Entry}
use Rattle.xrf_report.specs.Words.{blank, line}

abbrev pub is_zero : List ℕ → Bool
is_zero bytes = list_all (λ b. b == 0) bytes

-- 32 bytes of a data set, by its name, at an offset
abbrev pub image_line : List ℕ → ℕ → List ℕ → List ℕ
image_line name at bytes = if is_zero bytes then [] else line (codes "IMAGE " ++ name ++ blank (decimal at) ++ blank (hex_text bytes))

-- the first so many pieces of 32 bytes
abbrev pub pieces_text : List ℕ → List ℕ → ℕ → List ℕ
pieces_text name bytes zero = []
pieces_text name bytes (suc count) = pieces_text name bytes count ++ image_line name (32 * count) (part bytes (32 * count) 32)

-- all pieces of a data set
abbrev pub all_pieces : List ℕ → List ℕ → List ℕ
all_pieces name bytes = pieces_text name bytes (length bytes / 32)

-- the two pieces of a slot, and the first so many slots, from an offset on
abbrev pub slot_lines : List ℕ → (at : ℕ) → List ℕ → List ℕ
slot_lines name at bytes = image_line name at (take 32 bytes) ++ image_line name (at + 32) (drop 32 bytes)

abbrev pub slots_text : List ℕ → (at : ℕ) → (ℕ → Slot) → ℕ → List ℕ
slots_text name at slot zero = []
slots_text name at slot (suc count) = slots_text name at slot count ++ slot_lines name (at + 64 * count) (bytes_of (slot count))

-- the first so many slots of the file, which are numbered from 1
abbrev pub records_text : (ℕ → List ℕ) → ℕ → List ℕ
records_text slot zero = []
records_text slot (suc count) = records_text slot count ++ image_line (codes "FILE") (32 * count) (slot (suc count))

-- the bytes of a signal sector, which are zero where no signal was given
abbrev pub sector_bytes : Option SignalRecord → List ℕ
sector_bytes None = zeros 64
sector_bytes (Some signal) = signal_bytes signal

-- DFHXRCTL: the control record, and the signal sectors of A and B
abbrev pub ctl_bytes : List Entry → List ℕ
ctl_bytes t = control_bytes (control t) ++ sector_bytes (sector1 t A) ++ sector_bytes (sector1 t B)

-- DFHXRMSG begins with signal sectors too; behind these 128 bytes it has RING slots.
abbrev pub msg_signals : List Entry → List ℕ
msg_signals t = sector_bytes (sector2 t A) ++ sector_bytes (sector2 t B)

-- The log has LOG slots, the file FILE records, and KEY two slots.
abbrev pub images_text : Scen → List Entry → List ℕ
images_text s t =
    all_pieces (codes "CTL") (ctl_bytes t)
    ++ all_pieces (codes "MSG") (msg_signals t)
    ++ slots_text (codes "MSG") 128 (message_slot t) s.settings.ring
    ++ slots_text (codes "LOG") 0 (log_slot s t) s.settings.log
    ++ records_text (image s t) s.settings.file
    ++ slots_text (codes "KEY") 0 (key_slot t) 2
