-- Units are items: what the log, the file and every later book have of a unit is what its items asked and were
-- answered.
use Rattle.std.specs.Prelude.{◌≡◌, ℕ, Bool, true, false, ◌&&◌, List, ◌∷◌, Option, Some, None}
use Rattle.std.specs.List.{list_any}
use Rattle.xrf_base.specs.declared.site.Site.{Site}
use Rattle.xrf_base.specs.declared.items.Item.{Item}
use Rattle.xrf_base.specs.declared.items.Item.TheVariants as items
use Rattle.xrf_base.specs.declared.items.UnitId.{UnitId}
use Rattle.xrf_base.specs.declared.items.ItemAnswer.{ItemAnswer}
use Rattle.xrf_base.specs.declared.items.ItemAnswer.TheVariants.{Done}
use Rattle.xrf_logrec.specs.declared.records.LogRec.{LogRec}
use Rattle.xrf_logrec.specs.declared.records.LogRec.TheVariants.{Put, Commit, Backout}
use Rattle.xrf_logrec.specs.LogRecords.{unit_of, same_unit}
use Rattle.xrf_log.specs.Flight.{has_ended}
use Rattle.xrf_history.specs.Events.{Event}
use Rattle.xrf_history.specs.Holding.{is_restarted}
use Rattle.xrf_trace.specs.declared.entry.Entry.{Entry}
use Rattle.xrf_trace.specs.declared.entry.Act.{Act}
use Rattle.xrf_trace.specs.declared.entry.Act.TheVariants as act
use Rattle.xrf_trace.specs.declared.entry.Land.{Land}
use Rattle.xrf_trace.specs.Scenario.{Scen}
use Rattle.xrf_trace.specs.Landing.{is_in_full, opens}
use Rattle.xrf_trace.specs.Log.{log, is_committed}
use Rattle.xrf_trace.specs.Items.{answer_by}
use Rattle.xrf_trace.specs.AtHand.{item_at_hand, OfItem, open_unit, asked_record, asked_write}
use Rattle.xrf_trace.specs.Each.{Each, Where, AtSite}

-- the unit has put a record
abbrev pub is_put_of : UnitId → LogRec → Bool
is_put_of unit (Put u rrn before) = same_unit unit u
is_put_of unit (Commit u) = false
is_put_of unit (Backout u) = false

abbrev pub has_put : List LogRec → UnitId → Bool
has_put log unit = list_any (is_put_of unit) log

-- The unit of a COMMIT that is answered Done is committed in every later log, if it has put a record, so its puts
-- are in every later book. The unit of a ROLL that is answered Done is committed in none. Both units were open.
abbrev pub StaysCommitted : (later : List LogRec) → Option UnitId → Type 0
StaysCommitted later None = ⊥
StaysCommitted later (Some unit) = Where (has_put later unit) (is_committed later unit ≡ true)

abbrev pub IsNeverCommitted : (later : List LogRec) → Option UnitId → Type 0
IsNeverCommitted later None = ⊥
IsNeverCommitted later (Some unit) = is_committed later unit ≡ false

abbrev pub EndsAs : (later : List LogRec) → (List ℕ → Option UnitId) → Item → Type 0
EndsAs later unit_now (items.Commit name) = StaysCommitted later (unit_now name)
EndsAs later unit_now (items.Roll name) = IsNeverCommitted later (unit_now name)
EndsAs later unit_now _ = Unit {0}

abbrev pub answers_done : Option ItemAnswer → Bool
answers_done (Some Done) = true
answers_done _ = false

abbrev pub AnswersMean : Scen → (later : List LogRec) → List Entry → Entry → Site → Type 0
AnswersMean s later t e x =
    Where (is_in_full e.land && answers_done (answer_by s t x e.act)) (OfItem (item_at_hand s (e ∷ t) x) (EndsAs later (open_unit s t x)))

-- nothing is logged, and nothing is put into the file, of a unit that has ended
abbrev pub IsOfNoEnded : List Entry → Act → Land → Type 0
IsOfNoEnded t (act.LogOpen p rec) land = Where (opens land) (has_ended (unit_of rec) (log t) ≡ false)
IsOfNoEnded t (act.FileWrite unit k value) land = has_ended unit (log t) ≡ false
IsOfNoEnded t _ land = Unit {0}

-- what is logged, and what is put into the file, is what the item at hand asks; in a restart a Backout is logged
abbrev pub is_backout : LogRec → Bool
is_backout (Put unit rrn before) = false
is_backout (Commit unit) = false
is_backout (Backout unit) = true

abbrev pub LogsAsked : Scen → List Entry → Site → LogRec → (is_restarted : Bool) → Type 0
LogsAsked s t x rec true = OfItem (item_at_hand s t x) (λ item. asked_record s t x item ≡ Some rec)
LogsAsked s t x rec false = is_backout rec ≡ true

abbrev pub IsAsked : Scen → List Entry → Site → List Event → Act → Type 0
IsAsked s t x h (act.LogOpen p rec) = LogsAsked s t x rec (is_restarted h)
IsAsked s t x h (act.FileWrite unit k value) = OfItem (item_at_hand s t x) (λ item. asked_write s t x item ≡ Some (act.FileWrite unit k value))
IsAsked s t x h _ = Unit {0}

pub record UnitsAreItems (s : Scen) (t : List Entry) : Type 0 where
  pub answers : Each (λ before e. AtSite s before e.who (λ x h. AnswersMean s (log t) before e x)) t
  pub once : Each (λ t e. IsOfNoEnded t e.act e.land) t
  pub asked : Each (λ t e. AtSite s t e.who (λ x h. IsAsked s t x h e.act)) t
