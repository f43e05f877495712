-- The rows of a job's table have names, now and before.
use Rattle.std.proofs.Common.{List, [], ◌∷◌, Bool, false, true, ℕ, if◌then◌else◌, IfSome, Option, subst, ◌+◌, ◌≡◌}
use Rattle.xrf_base.specs.declared.items.Item.{Item}
use Rattle.xrf_base.specs.declared.site.Site.{Site}
use Rattle.xrf_msg.specs.Numbers.{given}
use Rattle.xrf_history.specs.Events.{Event, Given, MessageRead, RestartDeclared, StartedActive, StartedStandby}
use Rattle.xrf_history.specs.declared.settings.Settings.{Settings}
use Rattle.xrf_history.specs.Terminals.{table, after_message}
use Rattle.xrf_history.specs.Taking.{expected}
use Rattle.xrf_history.specs.Holding.{is_restarted, number}
use Rattle.xrf_history.proofs.Histories.{Comes, is_started}
use Rattle.xrf_trace.specs.declared.entry.Entry.{Entry}
use Rattle.xrf_trace.proofs.Moves.{IsHanded}
use Rattle.xrf_trace.specs.Scenario.{Scen, settings}
use Rattle.xrf_trace.specs.Words.{items_taken}
use Rattle.xrf_trace.proofs.Short.{IsShort}
use Rattle.xrf_trace.proofs.JobSteps.{OfJobs}
use Rattle.xrf_message_law.specs.Names.{AreNamed, ItemNamed, ItemsNamed}
use Rattle.xrf_message_law.proofs.RowNames.{after-named, answer-named, settled-named}
use Rattle.xrf_message_law.proofs.Histories.{over_histories}

-- the items of a history have names
abbrev pub Named : Settings → List Event → Type 0
Named p [] = Unit {0}
Named p (Given item ∷ h) = Named p h × AreNamed (table p h) × ItemNamed item
Named p (_ ∷ h) = Named p h

-- and the rows of its table now
pub record IsNamed (p : Settings) (h : List Event) : Type 0 where
  pub named : Named p h
  pub rows : AreNamed (table p h)

-- an event that leaves table and items
abbrev IsUnnamed : Event → Type 0
IsUnnamed (MessageRead k slot) = ⊥
IsUnnamed RestartDeclared = ⊥
IsUnnamed (Given item) = ⊥
IsUnnamed _ = Unit {0}

-- such an event
named-on : (p : Settings) (h : List Event) (e : Event) → IsUnnamed e → IsNamed p h → IsNamed p (e ∷ h)
named-on p h (MessageRead k slot) is b = absurd is
named-on p h RestartDeclared is b = absurd is
named-on p h (Given item) is b = absurd is
named-on p h _ is b = record { named = b.named; rows = b.rows }

-- a MSGREAD
named-read : (p : Settings) (h : List Event) (k : ℕ) (slot : List ℕ) → IsNamed p h → IsNamed p (MessageRead k slot ∷ h)
named-read p h k slot b = record { named = b.named; rows = by (is_restarted h) }
  where
    by : (r : Bool) → AreNamed (if r then table p h else after_message (given slot (number h) (expected h)) (table p h))
    by true = b.rows
    by false = after-named slot (number h) (expected h) (table p h) b.rows

-- an event that comes: an item is one of the scenario
named-step : (s : Scen) → ItemsNamed s → (t : List Entry) (x : Site) (h : List Event) (e : Event) → Comes (settings s x) h e → IsHanded s t x h e
    → IsNamed (settings s x) h → IsNamed (settings s x) (e ∷ h)
named-step s names t x h (MessageRead k slot) comes given b = named-read (settings s x) h k slot b
named-step s names t x h RestartDeclared comes given b =
    record { named = b.named; rows = settled-named s.settings.force (table (settings s x) h) b.rows }
named-step s names t x h (Given item) comes given b =
    let named : ItemNamed item = subst (λ (o : Option Item). IfSome o ItemNamed) given (names x (items_taken t x + 1)) in
    record { named = (b.named, b.rows, named); rows = answer-named item (table (settings s x) h) named b.rows }
named-step s names t x h e comes given b = named-on (settings s x) h e tt b

-- a START
start-named : (p : Settings) (e : Event) → is_started e ≡ true → IsNamed p (e ∷ [])
start-named p StartedActive is = record { named = tt; rows = tt }
start-named p StartedStandby is = record { named = tt; rows = tt }
start-named p _ is = absurd (cc)

-- in every run
pub are_named : (s : Scen) → ItemsNamed s → (t : List Entry) → IsShort s t → OfJobs s t (λ x h. IsNamed (settings s x) h)
are_named s names t is = over_histories s (λ x h. IsNamed (settings s x) h) (record {
  starts = λ x e start. start-named (settings s x) e start;
  comes = λ t is x h e there comes given b. named-step s names t x h e comes given b;
}) t is
