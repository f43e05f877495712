-- Units are items, by tests: that the log and the file have of a unit what its items asked and were answered.
use Rattle.std.proofs.Common.{◌≡◌, ℕ, Bool, true, false, ◌&&◌, ◌||◌, not, List, ◌∷◌, Option, Some, None, sym}
use Rattle.xrf_base.specs.declared.site.Site.{Site}
use Rattle.xrf_base.specs.declared.items.Item.{Item}
use Rattle.xrf_base.specs.declared.items.Item.TheVariants as items
use Rattle.xrf_base.specs.declared.items.UnitId.{UnitId}
use Rattle.xrf_logrec.specs.declared.records.LogRec.{LogRec}
use Rattle.xrf_logrec.specs.LogRecords.{unit_of}
use Rattle.xrf_log.specs.Flight.{has_ended}
use Rattle.xrf_history.specs.Events.{Event}
use Rattle.xrf_history.specs.Holding.{is_restarted}
use Rattle.xrf_trace.specs.declared.entry.Entry.{Entry}
use Rattle.xrf_trace.specs.declared.entry.Act.{Act}
use Rattle.xrf_trace.specs.declared.entry.Act.TheVariants as act
use Rattle.xrf_trace.specs.declared.entry.Land.{Land}
use Rattle.xrf_trace.specs.Scenario.{Scen}
use Rattle.xrf_trace.specs.Landing.{is_in_full, opens}
use Rattle.xrf_trace.specs.Log.{log, is_committed}
use Rattle.xrf_trace.specs.Items.{answer_by}
use Rattle.xrf_trace.specs.AtHand.{item_at_hand, OfItem, open_unit, asked_record, asked_write}
use Rattle.xrf_trace.specs.Each.{Each, AtSite}
use Rattle.xrf_trace.specs.UnitsAreItems.{UnitsAreItems, IsOfNoEnded, IsAsked, LogsAsked, AnswersMean, EndsAs, StaysCommitted, IsNeverCommitted, has_put, is_backout, answers_done}
use Rattle.xrf_long_runs.proofs.Tests.{clash, not_met, where_by, each_meets, each_by, each_site_meets, each_site_by, item_meets, item_by}
use Rattle.xrf_long_runs.proofs.Same.{same_option, options, same_record, records, same_write, writes}

-- the answers of the ends of units
abbrev stays_committed : List LogRec → Option UnitId → Bool
stays_committed later None = false
stays_committed later (Some unit) = not (has_put later unit) || is_committed later unit

committed_stays : (later : List LogRec) (unit : Option UnitId) → stays_committed later unit ≡ true → StaysCommitted later unit
committed_stays later None met = clash (sym met)
committed_stays later (Some unit) met = where_by (has_put later unit) (is_committed later unit) (is_committed later unit ≡ true) (λ is. is) met

abbrev is_never_committed : List LogRec → Option UnitId → Bool
is_never_committed later None = false
is_never_committed later (Some unit) = not (is_committed later unit)

never_committed : (later : List LogRec) (unit : Option UnitId) → is_never_committed later unit ≡ true → IsNeverCommitted later unit
never_committed later None met = clash (sym met)
never_committed later (Some unit) met = not_met (is_committed later unit) met

abbrev ends_as : List LogRec → (List ℕ → Option UnitId) → Item → Bool
ends_as later unit_now (items.Commit name) = stays_committed later (unit_now name)
ends_as later unit_now (items.Roll name) = is_never_committed later (unit_now name)
ends_as later unit_now _ = true

ended_as : (later : List LogRec) (unit_now : List ℕ → Option UnitId) (item : Item) → ends_as later unit_now item ≡ true → EndsAs later unit_now item
ended_as later unit_now (items.Commit name) met = committed_stays later (unit_now name) met
ended_as later unit_now (items.Roll name) met = never_committed later (unit_now name) met
ended_as later unit_now _ met = tt

abbrev is_answered : Scen → List Entry → Entry → Site → Bool
is_answered s t e x = is_in_full e.land && answers_done (answer_by s t x e.act)

abbrev answers_mean : Scen → List LogRec → List Entry → Entry → Site → Bool
answers_mean s later t e x = not (is_answered s t e x) || item_meets (item_at_hand s (e ∷ t) x) (ends_as later (open_unit s t x))

answer_means : (s : Scen) (later : List LogRec) (t : List Entry) (e : Entry) (x : Site) → answers_mean s later t e x ≡ true
    → AnswersMean s later t e x
answer_means s later t e x =
    where_by (is_answered s t e x) (item_meets (item_at_hand s (e ∷ t) x) (ends_as later (open_unit s t x)))
    (OfItem (item_at_hand s (e ∷ t) x) (EndsAs later (open_unit s t x)))
    (item_by (item_at_hand s (e ∷ t) x) (ends_as later (open_unit s t x)) (EndsAs later (open_unit s t x)) (ended_as later (open_unit s t x)))

abbrev pub all_answered : Scen → List Entry → Bool
all_answered s t = each_site_meets s (λ before e x h. answers_mean s (log t) before e x) t

-- nothing of a unit that has ended
abbrev is_of_open : List Entry → Act → Land → Bool
is_of_open t (act.LogOpen p rec) land = not (opens land) || not (has_ended (unit_of rec) (log t))
is_of_open t (act.FileWrite unit k value) land = not (has_ended unit (log t))
is_of_open t _ land = true

of_open : (t : List Entry) (a : Act) (land : Land) → is_of_open t a land ≡ true → IsOfNoEnded t a land
of_open t (act.LogOpen p rec) land met =
    where_by (opens land) (not (has_ended (unit_of rec) (log t))) (has_ended (unit_of rec) (log t) ≡ false)
    (not_met (has_ended (unit_of rec) (log t))) met
of_open t (act.FileWrite unit k value) land met = not_met (has_ended unit (log t)) met
of_open t _ land met = tt

abbrev pub all_of_open : List Entry → Bool
all_of_open t = each_meets (λ t e. is_of_open t e.act e.land) t

-- what is logged and what is written is asked
abbrev logs_asked : Scen → List Entry → Site → LogRec → Bool → Bool
logs_asked s t x rec true = item_meets (item_at_hand s t x) (λ item. same_option same_record (asked_record s t x item) (Some rec))
logs_asked s t x rec false = is_backout rec

log_asked : (s : Scen) (t : List Entry) (x : Site) (rec : LogRec) (restarted : Bool) → logs_asked s t x rec restarted ≡ true
    → LogsAsked s t x rec restarted
log_asked s t x rec true =
    item_by (item_at_hand s t x) (λ item. same_option same_record (asked_record s t x item) (Some rec)) (λ item. asked_record s t x item ≡ Some rec)
    (λ item. options same_record records (asked_record s t x item) (Some rec))
log_asked s t x rec false = λ met. met

abbrev is_asked : Scen → List Entry → Site → List Event → Act → Bool
is_asked s t x h (act.LogOpen p rec) = logs_asked s t x rec (is_restarted h)
is_asked s t x h (act.FileWrite unit k value) =
    item_meets (item_at_hand s t x) (λ item. same_option same_write (asked_write s t x item) (Some (act.FileWrite unit k value)))
is_asked s t x h _ = true

asked_of : (s : Scen) (t : List Entry) (x : Site) (h : List Event) (a : Act) → is_asked s t x h a ≡ true → IsAsked s t x h a
asked_of s t x h (act.LogOpen p rec) met = log_asked s t x rec (is_restarted h) met
asked_of s t x h (act.FileWrite unit k value) met =
    item_by (item_at_hand s t x) (λ item. same_option same_write (asked_write s t x item) (Some (act.FileWrite unit k value)))
    (λ item. asked_write s t x item ≡ Some (act.FileWrite unit k value))
    (λ item. options same_write writes (asked_write s t x item) (Some (act.FileWrite unit k value))) met
asked_of s t x h _ met = tt

abbrev pub all_asked : Scen → List Entry → Bool
all_asked s t = each_site_meets s (λ t e x h. is_asked s t x h e.act) t

answers : (s : Scen) (t : List Entry) → all_answered s t ≡ true → Each (λ before e. AtSite s before e.who (λ x h. AnswersMean s (log t) before e x)) t
answers s t =
    each_site_by s (λ before e x h. answers_mean s (log t) before e x) (λ before e x h. AnswersMean s (log t) before e x)
    (λ before e x h. answer_means s (log t) before e x) t

pub units_are_items : (s : Scen) (t : List Entry) → all_answered s t ≡ true → all_of_open t ≡ true → all_asked s t ≡ true → UnitsAreItems s t
units_are_items s t answered once asked = record {
  answers = answers s t answered;
  once = each_by (λ t e. is_of_open t e.act e.land) (λ t e. IsOfNoEnded t e.act e.land) (λ t e. of_open t e.act e.land) t once;
  asked = each_site_by s (λ t e x h. is_asked s t x h e.act) (λ t e x h. IsAsked s t x h e.act) (λ t e x h. asked_of s t x h e.act) t asked;
}
