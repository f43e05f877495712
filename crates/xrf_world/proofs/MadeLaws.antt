-- What is made of a place, from what its entry is.
use Rattle.std.proofs.Common.{Box, Global, ◌≡◌, ◌≤◌, ◌∙◌, ℕ, List, ◌∷◌, length, Option, Some, Ok, sym, ap, subst}
use Rattle.xrf_active.specs.Taking.{MayBeHanded}
use Rattle.xrf_base.specs.declared.items.ItemAnswer.{ItemAnswer}
use Rattle.xrf_base.specs.declared.site.Site.{Site}
use Rattle.xrf_base.specs.declared.site.Site.TheVariants as site
use Rattle.xrf_setup.specs.declared.choice.Choice.{Choice}
use Rattle.xrf_setup.specs.declared.ranges.TheConstants.{ITEMS_MOST}
use Rattle.xrf_history.specs.declared.answer.Answer.{Answer}
use Rattle.xrf_history.specs.declared.settings.Settings.{Settings}
use Rattle.xrf_history.specs.declared.want.Want.{Want}
use Rattle.xrf_history.specs.Answers.{event}
use Rattle.xrf_history.specs.Events.{Event}
use Rattle.xrf_history.specs.Holding.{number}
use Rattle.xrf_history.specs.Working.{item_answer}
use Rattle.xrf_trace.specs.declared.entry.Act.{Act}
use Rattle.xrf_trace.specs.declared.entry.Entry.{Entry}
use Rattle.xrf_trace.specs.declared.entry.Land.{Land}
use Rattle.xrf_trace.specs.declared.entry.Who.{Who}
use Rattle.xrf_trace.specs.Jobs.{hist}
use Rattle.xrf_trace.specs.Runs.{outcome}
use Rattle.xrf_trace.specs.Scenario.{IsScen, Scen, settings, work}
use Rattle.xrf_world.specs.declared.middle.Middle.{Middle}
use Rattle.xrf_world.specs.declared.place.Kept.{Kept}
use Rattle.xrf_world.specs.declared.place.Place.{Place}
use Rattle.xrf_world.specs.declared.seat.Seat.{Seat}
use Rattle.xrf_world.specs.Making.{CanFollow, CanRecord, IsHanded, MakesAt, MayMake, inc_of_want}
use Rattle.xrf_world.specs.Places.{CanTake, KeptIs, PlaceIs}
use Rattle.xrf_world.specs.Seats.{SeatIs}
use Rattle.xrf_world.specs.Standing.{MiddleIs, StandsAt}

-- there is only so much work
pub work-few : (s : Scen) (x : Site) → IsScen s → length (work s x) ≤ ITEMS_MOST
work-few s site.A scen = scen.work_a_few
work-few s site.B scen = scen.work_b_few

-- an entry by its parts
abbrev pub entry_of : ℕ → Who → ℕ → Act → Land → Entry
entry_of m w i a l = record { tick = m; who = w; inc = i; act = a; land = l }

pub entry-same : (m n : ℕ) (v w : Who) (i j : ℕ) (a b : Act) (l : Land) → m ≡ n → v ≡ w → i ≡ j → a ≡ b → entry_of m v i a l ≡ entry_of n w j b l
entry-same m n v w i j a b l tick who inc act =
    ap (λ (k : ℕ). entry_of k v i a l) tick
    ∙ ap (λ (one : Who). entry_of n one i a l) who
    ∙ ap (λ (k : ℕ). entry_of n w k a l) inc
    ∙ ap (λ (one : Act). entry_of n w j one l) act

-- An entry that was followed stands, with the seat as its job is after it.
pub followed : (old new : Middle) (seat : Seat) (kept : Kept) (t : List Entry) (x : Site) (made e : Entry) (given : Option ItemAnswer) (job : Option (List Event))
    → made ≡ e → new.scenario ≡ old.scenario → CanRecord old.scenario t x e given → hist old.scenario (e ∷ t) x ≡ job
    → SeatIs seat (settings old.scenario x) job → (CanFollow old.scenario t made → MiddleIs new (made ∷ t))
    → (CanTake old.scenario t x made given → KeptIs kept old.scenario (made ∷ t) x)
    → StandsAt new (record { seat = seat; kept = kept }) (e ∷ t) x
followed old new seat kept t x made e given job same scenario records after seated follows keeps = record {
  middle = subst (λ (one : Entry). MiddleIs new (one ∷ t)) same (follows (subst (λ (one : Entry). CanFollow old.scenario t one) (sym same) records.follow));
  place = subst (λ (s : Scen). PlaceIs (record { seat = seat; kept = kept }) s (e ∷ t) x) (sym scenario) (record {
    seat = subst (λ (j : Option (List Event)). SeatIs seat (settings old.scenario x) j) (sym after) seated;
    kept = subst (λ (one : Entry). KeptIs kept old.scenario (one ∷ t) x) same
        (keeps (subst (λ (one : Entry). CanTake old.scenario t x one given) (sym same) records.items));
  });
}

-- the seat of a job that may be handed an answer
pub seat-of-job : (old : Middle) (place : Place) (t : List Entry) (x : Site) (w : Want) (l : Land) (a : Answer) → StandsAt old place t x → (m : MayMake old.scenario t x w l a)
    → SeatIs place.seat (settings old.scenario x) (Some m.job)
seat-of-job old place t x w l a stands m =
    subst (λ (job : Option (List Event)). SeatIs place.seat (settings old.scenario x) job) m.there stands.place.seat

-- A job that is handed an answer leaves all else as it stood, and so does a block that was copied for it.
pub is-handed : (old : Middle) (block : Box (List ℕ) Global) (place : Place) (seat : Seat) (t : List Entry) (x : Site) (w : Want) (l : Land) (a : Answer)
    (inc : ℕ) (given : Option ItemAnswer) → StandsAt old place t x → (m : MayMake old.scenario t x w l a)
    → ((p : Settings) (h : List Event) → SeatIs place.seat p (Some h) → inc ≡ inc_of_want w (number h))
    → ((p : Settings) (h : List Event) → SeatIs place.seat p (Some h) → MayBeHanded p h a → SeatIs seat p (Some (event p h a ∷ h)))
    → ((p : Settings) (h : List Event) → SeatIs place.seat p (Some h) → MayBeHanded p h a → given ≡ item_answer p (event p h a ∷ h))
    → IsHanded (record old { block = block }) (record place { seat = seat }) t x w m.job a inc given
is-handed old block place seat t x w l a inc given stands m is_inc handed gives =
    let there = seat-of-job old place t x w l a stands m in
    let middle = stands.middle in
    let p = settings old.scenario x in
    record {
      middle_is = record { data_sets = middle.data_sets; counts = middle.counts; journal = middle.journal; room = middle.room };
      kept = stands.place.kept;
      seat = handed p m.job there m.handed;
      inc = is_inc p m.job there;
      given = gives p m.job there m.handed;
    }

-- A choice by which an act that is wanted is made makes it of the place.
abbrev pub MakesEntry : Middle → Place → List Entry → Site → Middle → Place → Want → Land → Answer → Type 0
MakesEntry old place t x new after w l a =
    (m : MayMake old.scenario t x w l a) → StandsAt old place t x → StandsAt new after (m.entry ∷ t) x

pub act-made : (old : Middle) (place : Place) (t : List Entry) (x : Site) (c : Choice) (new : Middle) (after : Place) (w : Want) (l : Land) (a : Answer)
    → MakesEntry old place t x new after w l a → new.scenario ≡ old.scenario → StandsAt old place t x → (m : MayMake old.scenario t x w l a)
    → outcome old.scenario t c ≡ Ok m.entry → MakesAt old place t x c (Ok tt) new after
act-made old place t x c new after w l a makes scenario stands m out =
    (m.entry, out, sym (ap (λ (e : Entry). e.who) m.is_entry), scenario, makes m stands)
