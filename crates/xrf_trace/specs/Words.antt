-- First words of a trace. A trace is the list of a run's entries, one for each accepted choice, the newest
-- first.
use Rattle.std.specs.Prelude.{ℕ, ◌+◌, ◌==◌, Bool, true, false, ◌&&◌, ◌||◌, not, if◌then◌else◌, List, [], ◌∷◌}
use Rattle.xrf_base.specs.declared.site.Site.{Site}
use Rattle.xrf_base.specs.declared.site.Site.TheVariants as site
use Rattle.xrf_trace.specs.declared.entry.Entry.{Entry}
use Rattle.xrf_trace.specs.declared.entry.Act.{Act}
use Rattle.xrf_trace.specs.declared.entry.Act.TheVariants as act
use Rattle.xrf_trace.specs.declared.entry.Who.{Who}
use Rattle.xrf_trace.specs.declared.entry.Who.TheVariants as who
use Rattle.xrf_trace.specs.Landing.{is_stop}

-- the site of an entry
abbrev pub is_of : Who → Site → Bool
is_of who.A site.A = true
is_of who.B site.B = true
is_of _ _ = false

abbrev pub who_at : Site → Who
who_at site.A = who.A
who_at site.B = who.B

-- the present tick: the number of TICKs
abbrev pub tick_after : Act → ℕ → ℕ
tick_after act.Tick before = before + 1
tick_after _ before = before

abbrev pub now : List Entry → ℕ
now [] = 0
now (e ∷ t) = tick_after e.act (now t)

-- the trace has CONFIRM n
abbrev pub confirms : Act → ℕ → Bool
confirms (act.Confirm n) x = n == x
confirms _ x = false

abbrev pub confirmed : List Entry → ℕ → Bool
confirmed [] x = false
confirmed (e ∷ t) x = confirms e.act x || confirmed t x

-- the items that a site has taken
abbrev pub is_item : Act → Bool
is_item (act.Item number) = true
is_item _ = false

abbrev pub items_taken : List Entry → Site → ℕ
items_taken [] x = 0
items_taken (e ∷ t) x = if is_of e.who x && is_item e.act then items_taken t x + 1 else items_taken t x

-- the reserve is held by the site whose last RESERVE has no RELEASE, stop or ENDED after it
abbrev pub holds_after : Act → Bool → Bool
holds_after act.Reserve before = true
holds_after act.Release before = false
holds_after (act.Ended reason) before = false
holds_after _ before = before

abbrev pub holds_reserve : List Entry → Site → Bool
holds_reserve [] x = false
holds_reserve (e ∷ t) x = if is_of e.who x then not (is_stop e.land) && holds_after e.act (holds_reserve t x) else holds_reserve t x

abbrev pub reserve_is_free : List Entry → Bool
reserve_is_free t = not (holds_reserve t site.A) && not (holds_reserve t site.B)
