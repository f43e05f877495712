-- How what is kept of a site stands for a trace: its seat, the reserve, and the items that it took.
use Rattle.std.specs.Prelude.{◌≡◌, ◌≤◌, ◌<◌, ◌+◌, ◌&&◌, ℕ, Bool, true, false, if◌then◌else◌, List, [], ◌∷◌, length, Option, None, slice_index_or, vec_capacity}
use Rattle.xrf_base.specs.declared.items.ItemAnswer.{ItemAnswer}
use Rattle.xrf_base.specs.declared.site.Site.{Site}
use Rattle.xrf_trace.specs.declared.entry.Act.{Act}
use Rattle.xrf_trace.specs.declared.entry.Act.TheVariants as act
use Rattle.xrf_trace.specs.declared.entry.Entry.{Entry}
use Rattle.xrf_trace.specs.Items.{answer, answer_by}
use Rattle.xrf_trace.specs.Jobs.{hist}
use Rattle.xrf_trace.specs.Landing.{is_in_full}
use Rattle.xrf_trace.specs.Scenario.{Scen, settings, work}
use Rattle.xrf_trace.specs.Words.{is_of, is_item, items_taken, holds_reserve}
use Rattle.xrf_world.specs.declared.items.Items.{Items}
use Rattle.xrf_world.specs.declared.place.Kept.{Kept}
use Rattle.xrf_world.specs.declared.place.Place.{Place}
use Rattle.xrf_world.specs.Seats.{SeatIs}

-- a list keeps at each place, from 0, what a function gives the number that is one more
abbrev pub KeptByNumber : {A : Type 0} → List (Option A) → (ℕ → Option A) → Type 0
KeptByNumber xs f = (k : ℕ) → k < length xs → slice_index_or xs k None ≡ f (k + 1)

-- how many items a site had taken at its last START
abbrev pub is_start : Act → Bool
is_start act.StartActive = true
is_start act.StartStandby = true
is_start _ = false

abbrev pub taken_before_start : List Entry → Site → ℕ
taken_before_start [] x = 0
taken_before_start (e ∷ t) x = if is_of e.who x && is_start e.act then items_taken t x else taken_before_start t x

-- the items of a site
pub record ItemsAre (items : Items) (s : Scen) (t : List Entry) (x : Site) : Type 0 where
  pub taken : length items.answers.items ≡ items_taken t x
  pub answers : KeptByNumber items.answers.items (answer s t x)
  pub before_start : items.before_start ≡ taken_before_start t x
  pub few : items_taken t x ≤ length (work s x)
  pub room : length (work s x) ≤ vec_capacity items.answers

-- what an entry of the site asks of them: it takes an item only while one is left, and it gives the item taken last this
-- answer
abbrev pub answer_given : Scen → List Entry → Site → Entry → Option ItemAnswer
answer_given s t x e = if is_in_full e.land then answer_by s t x e.act else None

pub record CanTake (s : Scen) (t : List Entry) (x : Site) (e : Entry) (given : Option ItemAnswer) : Type 0 where
  pub own : is_of e.who x ≡ true
  pub left : is_item e.act ≡ true → items_taken t x < length (work s x)
  pub gives : given ≡ answer_given s t x e

-- what is kept of a site beside its seat
pub record KeptIs (kept : Kept) (s : Scen) (t : List Entry) (x : Site) : Type 0 where
  pub reserves : kept.reserves ≡ holds_reserve t x
  pub items : ItemsAre kept.items s t x

-- what is kept of a site
pub record PlaceIs (place : Place) (s : Scen) (t : List Entry) (x : Site) : Type 0 where
  pub seat : SeatIs place.seat (settings s x) (hist s t x)
  pub kept : KeptIs place.kept s t x
