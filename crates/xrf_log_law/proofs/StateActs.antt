-- The state after an act of a job.
use Rattle.std.proofs.Common.{Bool, false, true, List, IfSome, None, Some, length, nat_lt, ◌+◌, if◌then◌else◌, refl, ◌≡◌, ◌<◌}
use Rattle.xrf_base.specs.declared.site.Site.{Site}
use Rattle.xrf_history.specs.declared.want.Want.{Want}
use Rattle.xrf_history.specs.Events.{Event}
use Rattle.xrf_trace.specs.declared.entry.Act.{Act}
use Rattle.xrf_trace.specs.declared.entry.Entry.{Entry}
use Rattle.xrf_trace.specs.declared.entry.Land.{Land}
use Rattle.xrf_trace.specs.Scenario.{Scen, first_value, work}
use Rattle.xrf_trace.specs.Words.{items_taken}
use Rattle.xrf_trace.specs.Acts.{next_item, act_of}
use Rattle.xrf_log_law.specs.State.{State, after, view}
use Rattle.xrf_log_law.specs.Due.{Due, JobView}
use Rattle.xrf_log_law.specs.Jobs.{IsSized}
use Rattle.xrf_log_law.proofs.StateWrites.{body-state, close-state, key_body-state, key_close-state, key_open-state, open-state, undo-state, write-state}
use Rattle.xrf_history.specs.declared.want.Want.TheVariants as want
use Rattle.xrf_trace.specs.declared.entry.Act.TheVariants as act

-- the acts that write the log, the keypoints or the file
abbrev pub writes_data : Want → Bool
writes_data (want.LogClose place) = true
writes_data (want.LogBody place rec) = true
writes_data (want.LogOpen place rec) = true
writes_data (want.KpClose k) = true
writes_data (want.KpBody k keypoint) = true
writes_data (want.KpOpen k keypoint) = true
writes_data (want.FileWrite unit rrn value) = true
writes_data (want.Undo rrn own) = true
writes_data _ = false

-- the state after what landed of an act
abbrev pub Lands : Scen → List Entry → Land → Act → Type 0
Lands s t l a = State s.settings.log (first_value s) (after s.settings.log a l (view s t))

-- an ITEM leaves it
item-state : (s : Scen) (t : List Entry) (x : Site) (l : Land) → State s.settings.log (first_value s) (view s t) → IfSome (next_item s t x) (Lands s t l)
item-state s t x l state = by (nat_lt (items_taken t x) (length (work s x)))
  where
    by : (b : Bool) → IfSome (if b then Some (act.Item (items_taken t x + 1)) else None) (Lands s t l)
    by true = state
    by false = tt

-- each act keeps it, whatever of it lands
pub act-state : (s : Scen) (t : List Entry) (x : Site) (h : List Event) (j : JobView) (w : Want) (l : Land) → 0 < s.settings.log
    → State s.settings.log (first_value s) (view s t)
    → (writes_data w ≡ true → Due s.settings.log (first_value s) (view s t) j w) → IfSome (act_of s t x h w) (IsSized l)
    → IfSome (act_of s t x h w) (Lands s t l)
act-state s t x h j (want.LogClose n) l some state due sized = let d = due refl in close-state s.settings.log (first_value s) (view s t) n l some d.0 d.2 state
act-state s t x h j (want.LogBody n rec) l some state due sized =
    let d = due refl in body-state s.settings.log (first_value s) (view s t) n rec l d.0 d.2 sized state
act-state s t x h j (want.LogOpen n rec) l some state due sized =
    let d = due refl in open-state s.settings.log (first_value s) (view s t) n rec l d.0 d.2 d.4 d.1 state
act-state s t x h j (want.KpClose k) l some state due sized = let d = due refl in key_close-state s.settings.log (first_value s) (view s t) k l d.0 d.2 state
act-state s t x h j (want.KpBody k keypoint) l some state due sized =
    let d = due refl in key_body-state s.settings.log (first_value s) (view s t) k keypoint l d.0 d.2 sized state
act-state s t x h j (want.KpOpen k keypoint) l some state due sized =
    let d = due refl in key_open-state s.settings.log (first_value s) (view s t) k keypoint l d.0 d.2 d.3 d.1 state
act-state s t x h j (want.FileWrite unit k value) l some state due sized =
    let d = due refl in write-state s.settings.log (first_value s) (view s t) unit k value l d.0 d.1 state
act-state s t x h j (want.Undo k own) l some state due sized = let d = due refl in undo-state s.settings.log (first_value s) (view s t) k own l d.0 state
act-state s t x h j want.Nothing l some state due sized = tt
act-state s t x h j (want.Exit told) l some state due sized = tt
act-state s t x h j want.Item l some state due sized = item-state s t x l state
act-state s t x h j _ l some state due sized = state
