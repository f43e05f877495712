-- The numbers of a trace are no more than its entries.
use Rattle.std.proofs.Common.{Bool, List, arith, false, length, true, ◌+◌, ◌≤◌, ◌∷◌, if◌then◌else◌, [], IfSome, Option, ℕ, refl}
use Rattle.xrf_base.specs.declared.site.Site.{Site}
use Rattle.xrf_logrec.specs.declared.records.LogRec.{LogRec}
use Rattle.xrf_history.specs.Events.{Event}
use Rattle.xrf_history.specs.declared.want.Want.{Want}
use Rattle.xrf_trace.specs.declared.entry.Act.{Act}
use Rattle.xrf_trace.specs.declared.entry.Land.{Land}
use Rattle.xrf_trace.specs.Log.{log_after, log}
use Rattle.xrf_trace.specs.Landing.{opens}
use Rattle.xrf_trace.specs.declared.entry.Entry.{Entry}
use Rattle.xrf_trace.specs.Scenario.{Scen}
use Rattle.xrf_trace.specs.Acts.{act_of}
use Rattle.xrf_log_law.specs.Due.{Due, JobView}
use Rattle.xrf_log_law.specs.State.{key_after, key_number, view}
use Rattle.xrf_log_law.proofs.JobActs.{of-item}
use Rattle.xrf_log_law.specs.Jobs.{InRange}
use Rattle.xrf_log_law.proofs.DueInSequence.{IsInRange}
use Rattle.xrf_history.specs.declared.want.Want.TheVariants as want
use Rattle.xrf_trace.specs.declared.entry.Act.TheVariants as act

-- an entry adds one record at most
log_after-count : (a : Act) (l : Land) (before : List LogRec) → length (log_after a l before) ≤ length before + 1
log_after-count (act.LogOpen p rec) l before = by (opens l)
  where
    by : (b : Bool) → length (if b then rec ∷ before else before) ≤ length before + 1
    by true = omega arith
    by false = omega arith
log_after-count _ l before = omega arith

-- a log has no more records than the trace has entries
pub log-count : (t : List Entry) → length (log t) ≤ length t
log-count [] = omega arith
log-count (e ∷ t) = omega (arith, log_after-count e.act e.land (log t), log-count t)

-- a keypoint that is opened is the next one
pub key-count : (s : Scen) (t : List Entry) (x : Site) (h : List Event) (size : ℕ) (first : ℕ → Option (List ℕ)) (j : JobView) (w : Want) (l : Land)
    → Due size first (view s t) j w
    → IfSome (act_of s t x h w) (λ a. key_after a l (key_number t) ≤ key_number t + 1)
key-count s t x h size first j (want.KpOpen k keypoint) l due = by (opens l)
  where
    by : (b : Bool) → (if b then keypoint.number else key_number t) ≤ key_number t + 1
    by true = omega (arith, due.1.next)
    by false = omega arith
key-count s t x h size first j want.Nothing l due = tt
key-count s t x h size first j (want.Exit told) l due = tt
key-count s t x h size first j want.Item l due = of-item s t x (λ a. key_after a l (key_number t) ≤ key_number t + 1) (omega arith)
key-count s t x h size first j _ l due = omega arith

-- so what is written of places and numbers fits its bytes
pub in_range : (s : Scen) (t : List Entry) (x : Site) (h : List Event) (size : ℕ) (first : ℕ → Option (List ℕ)) (j : JobView) (w : Want)
    → Due size first (view s t) j w
    → length t ≤ 65535 → key_number t ≤ length t → IfSome (act_of s t x h w) InRange → IsInRange w
in_range s t x h size first j (want.LogBody place rec) due few keys ranged =
    record { place_most = omega (arith, due.0.next, log-count t); in_range = ranged; spelled = refl }
in_range s t x h size first j (want.KpBody k keypoint) due few keys ranged =
    record {
      in_range =
          record {
            number_least = omega (arith, due.1.next);
            number_most = omega (arith, due.1.next);
            start_most = omega
                (arith, due.1.within, log-count t);
          };
      spelled = refl;
    }
in_range s t x h size first j _ due few keys ranged = tt
