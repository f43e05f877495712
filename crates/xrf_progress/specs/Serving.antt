-- A part of a run that serves a site: between two TICKs the site makes its acts until its next act is none.
use Rattle.std.specs.Prelude.{◌≡◌, ℕ, ◌+◌, ◌==◌, Bool, true, false, ◌&&◌, ◌||◌, not, is_none, if◌then◌else◌, List, [], ◌∷◌, ◌++◌}
use Rattle.xrf_base.specs.declared.site.Site.{Site}
use Rattle.xrf_trace.specs.declared.entry.Entry.{Entry}
use Rattle.xrf_trace.specs.declared.entry.Act.{Act}
use Rattle.xrf_trace.specs.declared.entry.Act.TheVariants as act
use Rattle.std.specs.Option.{option_map_or}
use Rattle.xrf_history.specs.Events.{Event}
use Rattle.xrf_history.specs.Deciding.{is_asked}
use Rattle.xrf_trace.specs.Jobs.{hist}
use Rattle.xrf_trace.specs.Scenario.{Scen, settings}
use Rattle.xrf_trace.specs.Landing.{lands, is_in_full}
use Rattle.xrf_trace.specs.Words.{is_of}
use Rattle.xrf_trace.specs.Acts.{next_act, is_act, is_signal, is_control_write}
use Rattle.xrf_trace.specs.FileIsBook.{is_restart}
use Rattle.xrf_trace.specs.Throughs.{has_taking}

-- TICK
abbrev pub is_tick : Act → Bool
is_tick act.Tick = true
is_tick _ = false

-- an entry lands a control record or a signal
abbrev pub speaks : Entry → Bool
speaks e = lands e.land && (is_control_write e.act || is_signal e.act)

-- An entry serves a site. One of the site is an act of its job, made in full: no START, no stop, no failed act, no lost
-- signal, and no choice that reaches the job. A TICK comes where the site has no next act. And of the other site, and
-- of none, no entry lands a control record or a signal.
abbrev pub serves : Scen → List Entry → Site → Entry → Bool
serves s t x e =
    if is_of e.who x then is_act e.act && is_in_full e.land else
    (if is_tick e.act then is_none (next_act s t x) else not (speaks e))

-- Each entry of a part serves the site. The part comes after a trace; its newest entry stands first.
abbrev pub Serves : Scen → List Entry → Site → List Entry → Type 0
Serves s t x [] = Unit {0}
Serves s t x (e ∷ part) = Serves s t x part × (serves s (part ++ t) x e ≡ true)

-- an entry declares the restart of this incarnation at a site
abbrev pub is_restart_of : Site → (n : ℕ) → Entry → Bool
is_restart_of x n e = is_of e.who x && is_restart e.act && e.inc == n

-- a part has such an entry: the incarnation has restarted in it
abbrev pub has_restart : Site → (n : ℕ) → List Entry → Bool
has_restart x n [] = false
has_restart x n (e ∷ part) = is_restart_of x n e || has_restart x n part

-- an act writes the taking of this incarnation
abbrev pub writes_taking_of : Act → (n : ℕ) → Bool
writes_taking_of (act.CtlWrite written) n = has_taking written.taking n
writes_taking_of _ n = false

-- an entry of a site lands such a write
abbrev pub is_taking_write_of : Site → (n : ℕ) → Entry → Bool
is_taking_write_of x n e = is_of e.who x && lands e.land && writes_taking_of e.act n

-- a part has such an entry: the taking is written in it
abbrev pub has_taking_write : Site → (n : ℕ) → List Entry → Bool
has_taking_write x n [] = false
has_taking_write x n (e ∷ part) = is_taking_write_of x n e || has_taking_write x n part

-- the acts of a site in a part
abbrev pub acts_of : Site → List Entry → ℕ
acts_of x [] = 0
acts_of x (e ∷ part) = if is_of e.who x then acts_of x part + 1 else acts_of x part

-- a test is met by a trace and the history of the job at a site
abbrev pub is_so : Scen → (List Entry → List Event → Bool) → List Entry → Site → Bool
is_so s test t x = option_map_or (test t) (hist s t x) false

-- it was met after an entry of a part, the part coming after a trace
abbrev pub was_so : Scen → (List Entry → List Event → Bool) → (t : List Entry) → Site → (part : List Entry) → Bool
was_so s test t x [] = false
was_so s test t x (e ∷ part) = is_so s test (e ∷ part ++ t) x || was_so s test t x part

-- the operator is asked by the job at a site
abbrev pub is_asked_at : Scen → List Entry → Site → Bool
is_asked_at s t x = is_so s (λ r. is_asked (settings s x)) t x

-- the operator was asked by it after an entry of a part
abbrev pub was_asked : Scen → List Entry → Site → (part : List Entry) → Bool
was_asked s t x part = was_so s (λ r. is_asked (settings s x)) t x part
