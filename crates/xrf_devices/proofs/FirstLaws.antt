-- The data sets before the first choice, and what a keypoint's write finds.
use Rattle.std.proofs.Common.{◌≡◌, ℕ, ◌*◌, ◌<◌, is_some, List, [], length, replicate, None, refl, sym, ap, subst, ◌∙◌, arith}
use Rattle.std.proofs.lemmas.List.{length-replicate, get_or-replicate}
use Rattle.xrf_base.specs.Values.{slot_of as file_slot}
use Rattle.xrf_ctl.specs.Control.{empty}
use Rattle.xrf_gated.specs.declared.gated.Slot.{Slot}
use Rattle.xrf_gated.specs.Slots.{slot_of, zero_slot}
use Rattle.xrf_logrec.specs.Keypoints.{key_reading}
use Rattle.xrf_trace.specs.declared.entry.Act.{Act}
use Rattle.xrf_trace.specs.declared.entry.Act.TheVariants as act
use Rattle.xrf_trace.specs.Scenario.{Scen, value_in}
use Rattle.xrf_devices.specs.Places.{sector1_place}
use Rattle.xrf_devices.specs.Standing.{ControlIs, SectorsAre, SlotsAre, FileIs, StandsFor}
use Rattle.xrf_devices.specs.Writing.{KeyMayLand, IsOpened, IsWhole}
use Rattle.xrf_devices.proofs.SectorLaws.{zero-sectors2}

-- slots that are all zero
pub zero-slots : (slots : List Slot) (count : ℕ) → slots ≡ replicate count zero_slot → SlotsAre slots (λ i. zero_slot)
zero-slots slots count is i inside =
    let long : length slots ≡ count = ap length is ∙ length-replicate count zero_slot in
    ap (λ s. slot_of s i) is ∙ get_or-replicate count i zero_slot zero_slot (omega (arith, long))

pub zero-length : (slots : List Slot) (count other : ℕ) → slots ≡ replicate count zero_slot → count ≡ other → length slots ≡ other
zero-length slots count other is same = ap length is ∙ length-replicate count zero_slot ∙ same

-- they stand for no entries
pub stands-first : (s : Scen) (ctl signals file : List ℕ) (messages log key : List Slot) (ring logs records : ℕ)
    → length ctl ≡ 384 → ControlIs ctl empty → SectorsAre sector1_place ctl (λ x. None) → signals ≡ replicate 128 0
    → messages ≡ replicate ring zero_slot → ring ≡ s.settings.ring → log ≡ replicate logs zero_slot → logs ≡ s.settings.log → key ≡ replicate 2 zero_slot
    → records ≡ s.settings.file → FileIs records file (λ k. file_slot (value_in s.records k)) → length file ≡ 32 * records
    → StandsFor (record { ctl = ctl; signals = signals; messages = messages; log = log; file = file; key = key }) s []
stands-first s ctl signals file messages log key ring logs records size control sectors zero rings is_ring many is_log two is_file images long = record {
  ctl_size = size;
  signals_size = ap length zero;
  messages_size = zero-length messages ring s.settings.ring rings is_ring;
  log_size = zero-length log logs s.settings.log many is_log;
  file_size = long ∙ ap (λ n. 32 * n) is_file;
  key_size = zero-length key 2 2 two refl;
  control = control;
  sector1 = sectors;
  sector2 = zero-sectors2 signals zero;
  messages = zero-slots messages ring rings;
  log = zero-slots log logs many;
  key = zero-slots key 2 two;
  file = subst (λ n. FileIs n file (λ k. file_slot (value_in s.records k))) is_file images;
}

-- what a keypoint's write finds in the trace it finds in the slots
pub key-finds : (slots : List Slot) (slot : ℕ → Slot) (a : Act) → length slots ≡ 2 → SlotsAre slots slot → KeyMayLand 2 slot a
    → KeyMayLand 2 (slot_of slots) a
key-finds slots slot (act.KpClose k) two are may =
    (may.0, subst IsOpened (sym (are k (subst (λ n. k < n) (sym two) may.0))) may.1)
key-finds slots slot (act.KpBody k keypoint) two are may =
    (may.0, subst (λ (s : Slot). ¬ IsOpened s) (sym (are k (subst (λ n. k < n) (sym two) may.0))) may.1, may.2)
key-finds slots slot (act.KpOpen k keypoint) two are may =
    (may.0, subst (λ (s : Slot). IsWhole (λ body. is_some (key_reading body)) s) (sym (are k (subst (λ n. k < n) (sym two) may.0))) may.1)
key-finds slots slot _ two are may = tt
