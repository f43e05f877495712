-- A report is lines that may stand behind END, and so many bytes.
use Rattle.std.proofs.Common.{◌≡◌, ◌≤◌, ◌<◌, ◌+◌, ◌*◌, ◌/◌, ◌%◌, ℕ, zero, suc, Bool, true, false, nat_le, List, [], ◌∷◌, ◌++◌, codes, length, Option, Some, None, refl, arith}
use Rattle.std.specs.Fmt.{decimal}
use Rattle.std.specs.List.{list_all}
use Rattle.std.proofs.Math.Nat.{mul-suc}
use Rattle.xrf_base.specs.declared.site.Site.{Site}
use Rattle.xrf_base.specs.declared.site.Site.TheVariants.{A, B}
use Rattle.xrf_world.specs.Report.{item_state, job_state, table_at, log_counts}
use Rattle.xrf_world.specs.declared.state.ItemState.{ItemState}
use Rattle.xrf_world.specs.declared.state.ItemState.TheVariants.{Answered, Pending, Lost}
use Rattle.xrf_world.specs.declared.state.JobState.{JobState}
use Rattle.xrf_world.specs.declared.state.JobState.TheVariants.{Absent, Starting, Restarting, Active, Tracking, Waiting, Ending}
use Rattle.xrf_setup.specs.Scenario.{Scen, IsScen, work}
use Rattle.xrf_setup.specs.declared.format.Format.{Format}
use Rattle.xrf_terms.specs.declared.rows.Row.{Row}
use Rattle.xrf_trace.specs.Devices.{control, image, message_slot, log_slot, key_slot}
use Rattle.xrf_trace.specs.Words.{now, items_taken}
use Rattle.xrf_trace.specs.declared.entry.Entry.{Entry}
use Rattle.xrf_report.specs.Files.{file_text}
use Rattle.xrf_report.specs.Fits.{Is32, ImagesFit}
use Rattle.xrf_report.specs.Images.{pieces_text, all_pieces, ctl_bytes, msg_signals, images_text}
use Rattle.xrf_report.specs.Items.{state_text, item_line, items_text}
use Rattle.xrf_report.specs.Jobs.{job_text, job_line}
use Rattle.xrf_report.specs.Report.{taken_text, table_text, table_of_site, standing_text, images_if}
use Rattle.xrf_report.specs.ReportFits.{StateFits, ItemsFit, TakenFit, JobFits, TableFits, StandingFits, ImagesFitIf, ReportFits}
use Rattle.xrf_report.specs.Standing.{done_line}
use Rattle.xrf_report.proofs.ActParts.{site-part}
use Rattle.xrf_report.proofs.ImagesTold.{pieces-told, slots-told, records-told}
use Rattle.xrf_report.proofs.Lines.{IsTold, nothing, told-wider, both, one}
use Rattle.xrf_report.proofs.Parts.{IsPart, word, within, joined, behind-blank, number, short-number}
use Rattle.xrf_report.proofs.StandingLaws.{answer-part, tick-told, control-told, log-told, done-told, rows-told, file-told}

state-part : (state : ItemState) → StateFits state → IsPart 30 (state_text state)
state-part (Answered given) fits = answer-part given fits
state-part Pending fits = within 30 refl (word (codes "OPEN") refl)
state-part Lost fits = within 30 refl (word (codes "LOST") refl)

item-told : (x : Site) (n : ℕ) (state : ItemState) → n < 100000 → StateFits state → IsTold 46 (item_line x n state)
item-told x n state few fits =
    one (joined (joined (joined (word (codes "ITEM ") refl) (site-part x)) (behind-blank (short-number n few))) (behind-blank (state-part state fits)))

items-told : (s : Scen) (t : List Entry) (x : Site) (count : ℕ) → count ≤ 2000 → ItemsFit s t x count → IsTold (46 * count) (items_text s t x count)
items-told s t x zero few fits = nothing
items-told s t x (suc count) few fits =
    let product : 46 * suc count ≡ 46 * count + 46 = mul-suc 46 count in
    told-wider (omega arith)
    (both (items-told s t x count (omega arith) fits.0) (item-told x (suc count) (item_state s t x (suc count)) (omega arith) fits.1))

work-few : (s : Scen) (x : Site) → IsScen s → length (work s x) ≤ 2000
work-few s A is = is.work_a_few
work-few s B is = is.work_b_few

-- the items of a site
taken-told : (s : Scen) (t : List Entry) (x : Site) → IsScen s → TakenFit s t x → IsTold 92000 (taken_text s t x)
taken-told s t x is fits =
    let most = work-few s x is in
    let few : items_taken t x ≤ 2000 = omega (arith, fits.few) in
    told-wider (omega arith) (items-told s t x (items_taken t x) few fits.items)

job-of : (text : List ℕ) (inc : ℕ) → nat_le (length text) 11 ≡ true → list_all (nat_le 32) text ≡ true → Is32 inc → IsPart 21 (decimal inc ++ text)
job-of text inc few passed fits = joined (number inc fits) (within 11 few (word text passed))

job-part : (state : JobState) → JobFits state → IsPart 21 (job_text state)
job-part Absent fits = within 21 refl (word (codes "NONE") refl)
job-part Starting fits = within 21 refl (word (codes "0 STARTING") refl)
job-part (Restarting inc) fits = job-of (codes " RESTARTING") inc refl refl fits
job-part (Active inc) fits = job-of (codes " ACTIVE") inc refl refl fits
job-part (Tracking inc) fits = job-of (codes " TRACKING") inc refl refl fits
job-part (Waiting inc) fits = job-of (codes " WAITING") inc refl refl fits
job-part (Ending inc) fits = job-of (codes " ENDING") inc refl refl fits

job-told : (x : Site) (state : JobState) → JobFits state → IsTold 30 (job_line x state)
job-told x state fits = one (joined (joined (word (codes "JOB ") refl) (site-part x)) (behind-blank (job-part state fits)))

table-told : (xrf : Format) (x : Site) (table : Option (List Row)) → TableFits table → IsTold 3008 (table_text xrf x table)
table-told xrf x None fits = nothing
table-told xrf x (Some rows) fits = let few : length rows ≤ 64 = fits.1 in told-wider (omega arith) (rows-told xrf x rows fits.0)

-- what stands in the end
standing-told : (s : Scen) (t : List Entry) → StandingFits s t → IsTold 6261 (standing_text s t)
standing-told s t fits =
    both
    (both
    (both
    (both (both (both (tick-told (now t) fits.tick) (control-told s.settings.format (control t) fits.control)) (job-told A (job_state s t A) fits.job_a))
    (job-told B (job_state s t B) fits.job_b))
    (table-told s.settings.format A (table_at s t A) fits.table_a))
    (table-told s.settings.format B (table_at s t B) fits.table_b))
    (log-told (log_counts t).records (log_counts t).committed (log_counts t).flight fits.log.0 fits.log.1 fits.log.2)

-- all pieces of so many bytes
extent-told : (name bytes : List ℕ) (count : ℕ) → IsPart 4 name → length bytes ≡ 32 * count → count ≤ 12 → IsTold 1008 (all_pieces name bytes)
extent-told name bytes count named size few =
    let pieces : length bytes / 32 ≤ 12 = omega arith in
    told-wider (omega arith) (pieces-told name bytes (length bytes / 32) named (omega arith))

-- the images of the data sets
images-told : (s : Scen) (t : List Entry) → IsScen s → ImagesFit s t → IsTold 206640 (images_text s t)
images-told s t is fits =
    let ring : s.settings.ring ≤ 64 = is.settings.ring.1 in
    let log : s.settings.log ≤ 1024 = is.settings.log.1 in
    let file : s.settings.file ≤ 256 = is.settings.file.1 in
    told-wider (omega arith)
    (both
    (both
    (both
    (both
    (both (extent-told (codes "CTL") (ctl_bytes t) 12 (within 4 refl (word (codes "CTL") refl)) fits.ctl (omega arith))
    (extent-told (codes "MSG") (msg_signals t) 4 (within 4 refl (word (codes "MSG") refl)) fits.signals (omega arith)))
    (slots-told (codes "MSG") 128 (message_slot t) s.settings.ring (within 4 refl (word (codes "MSG") refl)) (omega arith) (omega arith) fits.messages))
    (slots-told (codes "LOG") 0 (log_slot s t) s.settings.log (within 4 refl (word (codes "LOG") refl)) (omega arith) (omega arith) fits.log))
    (records-told (image s t) s.settings.file (omega arith) fits.file))
    (slots-told (codes "KEY") 0 (key_slot t) 2 (within 4 refl (word (codes "KEY") refl)) (omega arith) (omega arith) fits.key))

images-if-told : (on : Bool) (s : Scen) (t : List Entry) → IsScen s → ImagesFitIf on s t → IsTold 206640 (images_if on s t)
images-if-told true s t is fits = images-told s t is fits
images-if-told false s t is fits = nothing

-- what a report tells behind the acts
abbrev pub behind_acts : Scen → List Entry → List ℕ
behind_acts s t =
    taken_text s t A ++ taken_text s t B ++ standing_text s t ++ file_text (image s t) s.settings.file ++ images_if s.settings.images s t ++ done_line

-- It has at most 406,636 bytes.
pub behind-acts-told : (s : Scen) (t : List Entry) → IsScen s → ReportFits s t → IsTold 406636 (behind_acts s t)
behind-acts-told s t is fits =
    let file : s.settings.file ≤ 256 = is.settings.file.1 in
    told-wider (omega arith)
    (both
    (both
    (both (both (both (taken-told s t A is fits.taken_a) (taken-told s t B is fits.taken_b)) (standing-told s t fits.standing))
    (file-told (image s t) s.settings.file (omega arith) fits.records))
    (images-if-told s.settings.images s t is fits.images))
    done-told)
