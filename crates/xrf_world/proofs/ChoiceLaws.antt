-- What a tick and a confirmation ask of a pair, and what they leave of it.
use Rattle.std.proofs.Common.{◌≡◌, ◌≢◌, ◌≤◌, ◌<◌, ◌+◌, ◌&&◌, not, nat_le, is_none, ℕ, Bool, true, false, ◌∙◌, sym, ap, subst, refl, arith, inl, inr, eq-or-lt_of_le, ◌⊎◌, zero, suc, add-one, Option, Some, None, List, ◌∷◌, Ok, Err}
use Rattle.std.proofs.lemmas.Grind.{common_steps}
use Rattle.xrf_base.specs.declared.site.Site.{Site}
use Rattle.xrf_base.specs.declared.site.Site.TheVariants as site
use Rattle.xrf_setup.specs.declared.choice.Choice.TheVariants as choice
use Rattle.xrf_trace.specs.declared.entry.Act.TheVariants as act
use Rattle.xrf_trace.specs.declared.entry.Entry.{Entry}
use Rattle.xrf_trace.specs.declared.entry.Land.TheVariants as land
use Rattle.xrf_trace.specs.declared.entry.Refused.TheVariants.{Dishonest}
use Rattle.xrf_trace.specs.declared.entry.Who.TheVariants as who
use Rattle.xrf_trace.specs.Jobs.{hist}
use Rattle.xrf_trace.specs.Refusals.{may_confirm, unless}
use Rattle.xrf_trace.specs.Runs.{outcome, outcome_of}
use Rattle.xrf_trace.specs.Scenario.{Scen, settings}
use Rattle.xrf_trace.specs.Words.{now}
use Rattle.xrf_world.specs.declared.middle.Middle.{Middle}
use Rattle.xrf_world.specs.declared.pair.Pair.{Pair}
use Rattle.xrf_world.specs.declared.place.Kept.{Kept}
use Rattle.xrf_world.specs.declared.place.Place.{Place}
use Rattle.xrf_world.specs.declared.seat.Seat.{Seat}
use Rattle.xrf_world.specs.Making.{CanFollow, Makes}
use Rattle.xrf_world.specs.Places.{KeptIs, PlaceIs}
use Rattle.xrf_world.specs.Report.{least_to, or_if}
use Rattle.xrf_world.specs.Seats.{SeatIs, ticked}
use Rattle.xrf_world.specs.Standing.{Goes, MiddleIs, Stands}
use Rattle.xrf_world.proofs.BesideLaws.{beside-kept}
use Rattle.xrf_world.proofs.FollowLaws.{can-follow}

-- WHICH NUMBERS may be confirmed: those that were given and that no job holds
pub past-last : (n last : ℕ) (b : Bool) → last < n → (nat_le 1 n && nat_le n last && b) ≡ false
past-last n last b past = grind (arith, common_steps)

pub up-to-last : (n last : ℕ) (b : Bool) → n ≢ 0 → n ≤ last → (nat_le 1 n && nat_le n last && b) ≡ b
up-to-last n last b some within = grind (arith, common_steps)

-- and of those given the ones that no job holds and that are not confirmed yet
yet-free : (is_live is_confirmed : Bool) → (is_none (unless (not is_live) Dishonest) && not is_confirmed) ≡ (not is_confirmed && not is_live)
yet-free true true = refl
yet-free true false = refl
yet-free false true = refl
yet-free false false = refl

pub yet-confirmable : (n last : ℕ) (is_live is_confirmed : Bool) → 1 ≤ n → n ≤ last
    → (not is_confirmed && not is_live) ≡ (is_none (unless (nat_le 1 n && nat_le n last && not is_live) Dishonest) && not is_confirmed)
yet-confirmable n last is_live is_confirmed some within =
    sym (ap (λ (b : Bool). is_none (unless b Dishonest) && not is_confirmed) (up-to-last n last (not is_live) (omega (arith, some)) within)
    ∙ yet-free is_live is_confirmed)

-- THE LEAST number of which a test holds: none up to one, and not the next, is none up to that
pub none-more : (test : ℕ → Bool) (n : ℕ) → least_to test n ≡ None → test (n + 1) ≡ false → least_to test (n + 1) ≡ None
none-more test n none fails =
    let here : test (suc n) ≡ false = subst (λ (k : ℕ). test k ≡ false) (add-one n) fails in
    ap (least_to test) (add-one n) ∙ ap (λ (o : Option ℕ). or_if o (test (suc n)) (suc n)) none ∙ ap (λ (b : Bool). or_if None b (suc n)) here

-- and the next, where it holds of that, is the least up to any number from there on
pub least-is : (test : ℕ → Bool) (n last : ℕ) → least_to test n ≡ None → test (n + 1) ≡ true → n < last → least_to test last ≡ Some (n + 1)
least-is test n zero none holds within = absurd (omega (arith, within))
least-is test n (suc last) none holds within = by (λ (less : n < last). least-is test n last none holds less) (eq-or-lt_of_le within)
  where
    by : (n < last → least_to test last ≡ Some (n + 1)) → (suc n ≡ suc last) ⊎ (suc n < suc last) → least_to test (suc last) ≡ Some (n + 1)
    by before (inl same) =
        let at : last ≡ n = omega (arith, same) in
        let here : test (suc n) ≡ true = subst (λ (k : ℕ). test k ≡ true) (add-one n) holds in
        ap (λ (k : ℕ). least_to test (suc k)) at
        ∙ ap (λ (o : Option ℕ). or_if o (test (suc n)) (suc n)) none ∙ ap (λ (b : Bool). or_if None b (suc n)) here ∙ ap Some (sym (add-one n))
    by before (inr less) = ap (λ (o : Option ℕ). or_if o (test (suc last)) (suc last)) (before (omega (arith, less)))

-- A TICK: its entry, and what it leaves of each place
abbrev pub tick_entry : (at : ℕ) → Entry
tick_entry at = record { tick = at; who = who.Env; inc = 0; act = act.Tick; land = land.Full }

pub tick-follows : (s : Scen) (t : List Entry) (at : ℕ) → Goes s t → at ≡ now t + 1 → CanFollow s t (tick_entry at)
tick-follows s t at g same =
    subst (λ (n : ℕ). CanFollow s t (tick_entry n)) (sym same) (can-follow s t (tick_entry (now t + 1)) g.scen (g.run, (choice.Tick, refl)) g.few)

ticked-place : (seat : Seat) (kept : Kept) (s : Scen) (t : List Entry) (at : ℕ) (x : Site) → SeatIs seat (settings s x) (ticked (hist s t x)) → KeptIs kept s t x
    → PlaceIs (record { seat = seat; kept = kept }) s (tick_entry at ∷ t) x
ticked-place seat kept s t at site.A is stays = record { seat = is; kept = beside-kept kept s t (tick_entry at) site.A refl stays }
ticked-place seat kept s t at site.B is stays = record { seat = is; kept = beside-kept kept s t (tick_entry at) site.B refl stays }

tick-is : (s : Scen) (t : List Entry) (at : ℕ) → at ≡ now t + 1 → outcome s t choice.Tick ≡ Ok (tick_entry at)
tick-is s t at same = subst (λ (n : ℕ). outcome s t choice.Tick ≡ Ok (tick_entry n)) (sym same) refl

pub tick-made : (old : Pair) (t : List Entry) (at : ℕ) (middle : Middle) (seat_a seat_b : Seat) → Stands old t → at ≡ now t + 1
    → middle.scenario ≡ old.middle.scenario → MiddleIs middle (tick_entry at ∷ t)
    → SeatIs seat_a (settings old.middle.scenario site.A) (ticked (hist old.middle.scenario t site.A))
    → SeatIs seat_b (settings old.middle.scenario site.B) (ticked (hist old.middle.scenario t site.B))
    → Makes old t choice.Tick (Ok tt) (record { middle = middle; a = record { seat = seat_a; kept = old.a.kept }; b = record { seat = seat_b; kept = old.b.kept } })
tick-made old t at middle seat_a seat_b stands same scen stays a b = (
  tick_entry at,
  tick-is old.middle.scenario t at same,
  scen,
  record {
    middle = stays;
    a = subst (λ (s : Scen). PlaceIs (record { seat = seat_a; kept = old.a.kept }) s (tick_entry at ∷ t) site.A) (sym scen)
        (ticked-place seat_a old.a.kept old.middle.scenario t at site.A a stands.a.kept);
    b = subst (λ (s : Scen). PlaceIs (record { seat = seat_b; kept = old.b.kept }) s (tick_entry at ∷ t) site.B) (sym scen)
        (ticked-place seat_b old.b.kept old.middle.scenario t at site.B b stands.b.kept);
  },
)

-- A CONFIRMATION: its entry, which leaves each place as it was
abbrev pub confirm_entry : (at number : ℕ) → Entry
confirm_entry at number = record { tick = at; who = who.Env; inc = 0; act = act.Confirm number; land = land.Full }

pub confirm-is : (s : Scen) (t : List Entry) (at n : ℕ) → at ≡ now t → may_confirm s t n ≡ true → outcome s t (choice.Confirm n) ≡ Ok (confirm_entry at n)
confirm-is s t at n same may =
    subst (λ (m : ℕ). outcome s t (choice.Confirm n) ≡ Ok (confirm_entry m n)) (sym same)
    (ap (λ (b : Bool). outcome_of s t (choice.Confirm n) (unless b Dishonest)) may)

pub confirm-refused : (s : Scen) (t : List Entry) (n : ℕ) → may_confirm s t n ≡ false → outcome s t (choice.Confirm n) ≡ Err Dishonest
confirm-refused s t n may = ap (λ (b : Bool). outcome_of s t (choice.Confirm n) (unless b Dishonest)) may

pub confirm-follows : (s : Scen) (t : List Entry) (at n : ℕ) → Goes s t → at ≡ now t → may_confirm s t n ≡ true → CanFollow s t (confirm_entry at n)
confirm-follows s t at n g same may =
    can-follow s t (confirm_entry at n) g.scen (g.run, (choice.Confirm n, confirm-is s t at n same may)) g.few

confirmed-place : (place : Place) (s : Scen) (t : List Entry) (at n : ℕ) (x : Site) → PlaceIs place s t x → PlaceIs place s (confirm_entry at n ∷ t) x
confirmed-place place s t at n site.A is = record { seat = is.seat; kept = beside-kept place.kept s t (confirm_entry at n) site.A refl is.kept }
confirmed-place place s t at n site.B is = record { seat = is.seat; kept = beside-kept place.kept s t (confirm_entry at n) site.B refl is.kept }

pub confirm-made : (old : Pair) (t : List Entry) (at n : ℕ) (middle : Middle) → Stands old t → at ≡ now t → may_confirm old.middle.scenario t n ≡ true
    → middle.scenario ≡ old.middle.scenario → MiddleIs middle (confirm_entry at n ∷ t)
    → Makes old t (choice.Confirm n) (Ok tt) (record { middle = middle; a = old.a; b = old.b })
confirm-made old t at n middle stands same may scen stays = (
  confirm_entry at n,
  confirm-is old.middle.scenario t at n same may,
  scen,
  record {
    middle = stays;
    a = subst (λ (s : Scen). PlaceIs old.a s (confirm_entry at n ∷ t) site.A) (sym scen) (confirmed-place old.a old.middle.scenario t at n site.A stands.a);
    b = subst (λ (s : Scen). PlaceIs old.b s (confirm_entry at n ∷ t) site.B) (sym scen) (confirmed-place old.b old.middle.scenario t at n site.B stands.b);
  },
)
