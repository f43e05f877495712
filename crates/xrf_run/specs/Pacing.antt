-- How many steps a site makes in a tick, and when a tick may come.
use Rattle.std.specs.Prelude.{◌≡◌, ℕ, ◌+◌, Bool, true, false, ◌&&◌, ◌||◌, not, nat_le, nat_lt, is_none, List, [], ◌∷◌}
use Rattle.xrf_base.specs.declared.site.Site.{Site}
use Rattle.xrf_base.specs.declared.site.Site.TheVariants.{A, B}
use Rattle.xrf_setup.specs.declared.choice.Choice.{Choice}
use Rattle.xrf_setup.specs.declared.choice.Choice.TheVariants.{Tick, Step}
use Rattle.xrf_trace.specs.declared.entry.Entry.{Entry}
use Rattle.xrf_trace.specs.Scenario.{Scen}
use Rattle.xrf_trace.specs.Words.{now}
use Rattle.xrf_world.specs.Report.{is_enabled, notice_at}
use Rattle.xrf_run.specs.declared.steps.Steps.{Steps}
use Rattle.xrf_run.specs.declared.steps.Phase.{Phase}
use Rattle.xrf_run.specs.declared.steps.Phase.TheVariants.{Threads, Alone}
use Rattle.xrf_run.specs.Offering.{IsRunOf}

-- of the numbers of both sites, that of one
abbrev pub steps_of : Steps → Site → ℕ
steps_of made A = made.a
steps_of made B = made.b

abbrev pub one_more : Steps → Site → Steps
one_more made A = record { a = made.a + 1; b = made.b }
one_more made B = record { a = made.a; b = made.b + 1 }

abbrev pub steps_after : Steps → Choice → Steps
steps_after made (Step x) = one_more made x
steps_after made Tick = record { a = 0; b = 0 }
steps_after made c = made

-- the STEPs of each site since the last TICK
abbrev pub steps_made : List Choice → Steps
steps_made [] = record { a = 0; b = 0 }
steps_made (c ∷ cs) = steps_after (steps_made cs) c

-- A site may make a step while it has made fewer than PACE in this tick. After the threads the steps of the last tick
-- are not counted.
abbrev pub is_alone : Phase → Bool
is_alone Threads = false
is_alone Alone = true

abbrev pub is_in_pace : Phase → Scen → List Entry → ℕ → Bool
is_in_pace phase s t count = nat_lt count s.settings.pace || (is_alone phase && nat_le s.settings.ticks (now t))

-- a site has made its steps of this tick, or has none to make
abbrev pub is_through : Scen → List Entry → Steps → Site → Bool
is_through s t made x = nat_le s.settings.pace (steps_of made x) || not (is_enabled s t (Step x))

-- A tick may come before the last one, where no notice is pending and both sites have made their steps.
abbrev pub may_tick : Scen → List Entry → Steps → Bool
may_tick s t made =
    nat_lt (now t) s.settings.ticks && is_none (notice_at s t A) && is_none (notice_at s t B) && is_through s t made A && is_through s t made B

-- each step and each tick of some choices, the newest first, came where it may
abbrev pub IsPaced : Scen → List Choice → Type 0
IsPaced s [] = Unit {0}
IsPaced s (Step x ∷ cs) = IsPaced s cs × ((t : List Entry) × IsRunOf s cs t × (is_in_pace Alone s t (steps_of (steps_made cs) x) ≡ true))
IsPaced s (Tick ∷ cs) = IsPaced s cs × ((t : List Entry) × IsRunOf s cs t × (may_tick s t (steps_made cs) ≡ true))
IsPaced s (c ∷ cs) = IsPaced s cs
