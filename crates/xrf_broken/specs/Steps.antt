-- Steps from which broken traces are made beside the beginnings of the worked runs.
use Rattle.std.specs.Prelude.{ℕ, ◌+◌, List, ◌∷◌, None}
use Rattle.xrf_base.specs.declared.site.Site.TheVariants as site
use Rattle.xrf_ctl.specs.declared.parts.OwnerState.TheVariants as state
use Rattle.xrf_ctl.specs.Control.{of_parts}
use Rattle.xrf_ctl.specs.Signal.{of_numbers}
use Rattle.xrf_trace.specs.declared.entry.Act.{Act}
use Rattle.xrf_trace.specs.declared.entry.Act.TheVariants as act
use Rattle.xrf_trace.specs.declared.entry.Entry.{Entry}
use Rattle.xrf_trace.specs.declared.entry.Land.TheVariants as land
use Rattle.xrf_trace.specs.declared.entry.Who.TheVariants as who
use Rattle.xrf_examples.specs.Making.{entry_of, owner_of, alt_of}

-- an act of the incarnation 1 of site A, and of the incarnation 2 of site B, that is made in full
abbrev pub by_a : (tick : ℕ) → Act → Entry
by_a tick a = entry_of tick who.A 1 a land.Full

abbrev pub by_b : (tick : ℕ) → Act → Entry
by_b tick a = entry_of tick who.B 2 a land.Full

-- site B has started as standby, or as active, and read the record under the reserve
abbrev pub started : Act → List Entry → List Entry
started a before =
    entry_of 0 who.B 0 act.CtlRead land.Full ∷
    entry_of 0 who.B 0 act.Reserve land.Full ∷
    entry_of 0 who.B 0 a land.Full ∷
    before

-- and has signed on as alternate of the Running owner of site A
abbrev pub signed_on : List Entry → List Entry
signed_on before =
    by_b 0 act.Release ∷
    by_b 0 (act.CtlWrite (of_parts 1 2 (owner_of 1 site.A state.Running) (alt_of 2 site.B) None)) ∷
    started act.StartStandby before

-- the n-th tick has come
abbrev pub ticked : (n : ℕ) → List Entry → List Entry
ticked n before = entry_of n who.Env 0 act.Tick land.Full ∷ before

-- a round at a tick, up to its looks
abbrev pub round_of_a : (tick : ℕ) → List Entry → List Entry
round_of_a tick before =
    by_a tick act.Look2 ∷
    by_a tick act.Look1 ∷
    by_a tick (act.Signal2 (of_numbers 1 (tick + 1) 0)) ∷
    by_a tick (act.Signal1 (of_numbers 1 (tick + 1) 0)) ∷
    before

abbrev pub round_of_b : (tick : ℕ) → List Entry → List Entry
round_of_b tick before =
    by_b tick act.Look2 ∷
    by_b tick act.Look1 ∷
    by_b tick (act.Signal2 (of_numbers 2 (tick + 1) 0)) ∷
    by_b tick (act.Signal1 (of_numbers 2 (tick + 1) 0)) ∷
    before

-- the alternate of site B has written itself as owner
abbrev pub through_of_b : (tick : ℕ) → List Entry → List Entry
through_of_b tick before =
    by_b tick (act.CtlWrite (of_parts 1 2 (owner_of 2 site.B state.Running) None None)) ∷
    by_b tick act.CtlRead ∷
    by_b tick act.Reserve ∷
    before
