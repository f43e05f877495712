-- **The law of the messages.**
use Rattle.std.proofs.Common.{List, arith, length, ◌≤◌, IfSome, None, Option, Some, [], ◌∷◌}
use Rattle.xrf_base.specs.declared.items.Item.{Item}
use Rattle.xrf_base.specs.declared.items.Item.TheVariants as items
use Rattle.xrf_base.specs.declared.site.Site.TheVariants as site
use Rattle.xrf_setup.specs.declared.ranges.TheConstants.{CHOICES_MOST}
use Rattle.xrf_trace.specs.declared.entry.Entry.{Entry}
use Rattle.xrf_trace.specs.Runs.{IsRun}
use Rattle.xrf_trace.proofs.Short.{IsShort}
use Rattle.xrf_trace.specs.Scenario.{Scen, IsScen, item_at}
use Rattle.xrf_trace.proofs.ScenarioLaws.{IsItem, in_ranges}
use Rattle.xrf_trace.specs.TableIsTracked.{TableIsTracked}
use Rattle.xrf_trace.specs.Each.{After, EverySite}
use Rattle.xrf_trace.specs.TerminalsAreTold.{TellsAll, TellsFirst, TerminalsAreTold}
use Rattle.xrf_owner_law.specs.Laws.{OfRuns}
use Rattle.xrf_message_law.specs.Names.{ItemNamed, ItemsNamed}
use Rattle.xrf_message_law.proofs.TrackedTable.{tables_are_tracked}
use Rattle.xrf_message_law.proofs.Terminals.{are_told, first_are_told}
use Rattle.xrf_message_law.proofs.Takeovers.{takeovers-keep}
use Rattle.xrf_message_law.specs.LastOpened.{OpenHoldLast}
use Rattle.xrf_message_law.proofs.LastOpened.{hold-last}
use Rattle.xrf_message_law.specs.MayLand.{SlotsMayLand}
use Rattle.xrf_message_law.proofs.MayLand.{slots_may_land}
use Rattle.xrf_message_law.specs.Laws.{ListsMayLand}
use Rattle.xrf_message_law.proofs.KeptSlots.{lists_may_land}

-- a run of at most 8,192 entries is short
short : (s : Scen) (t : List Entry) → IsRun s t → length t ≤ CHOICES_MOST → IsShort s t
short s t is few = record { run = is; few = omega (arith, few) }

-- the items of a scenario in its ranges have names
item-named : (i : Item) → IsItem i → ItemNamed i
item-named (items.Logon term class) is = is
item-named (items.Signon term user) is = is.1
item-named _ is = tt

-- so they have in what a job takes
items-named : (s : Scen) → IsScen s → ItemsNamed s
items-named s scen x k = by (item_at s x k) ((in_ranges s scen).work x k)
  where
    by : (o : Option Item) → IfSome o IsItem → IfSome o ItemNamed
    by None is = tt
    by (Some i) is = item-named i is

-- and its ring has a slot
ring-least : (s : Scen) → IsScen s → 1 ≤ s.settings.ring
ring-least s scen = omega (arith, (in_ranges s scen).limits.ring_least)

-- the table after each RESTARTED is the one that the messages track
pub tables : OfRuns TableIsTracked
tables s t scen is few = tables_are_tracked s (items-named s scen) t (short s t is few)

-- after each entry
after-each : (s : Scen) (K : List Entry → Type 0) → ((t : List Entry) → IsShort s t → K t) → (t : List Entry) → IsShort s t → After K t
after-each s K all [] is = tt
after-each s K all (e ∷ t) is =
    let before : IsShort s t = record { run = is.run.0; few = omega (arith, is.few) } in
    (after-each s K all t before, all (e ∷ t) is)

-- what an owner sends tells its terminals, also after a takeover
pub terminals : OfRuns TerminalsAreTold
terminals s t scen is few =
    let names : ItemsNamed s = items-named s scen in
    let all : IsShort s t = short s t is few in
    record {
      all = after-each s (λ one. EverySite s one (TellsAll s one))
          (λ one short_one. (are_told s names one short_one site.A, are_told s names one short_one site.B)) t all;
      first = after-each s (λ one. EverySite s one (TellsFirst s one))
          (λ one short_one. (first_are_told s names one short_one site.A, first_are_told s names one short_one site.B)) t all;
      takeovers = takeovers-keep s names t all (tables_are_tracked s names t all);
    }

-- an open slot holds the message that was last opened there
pub slots : OfRuns (λ s t. OpenHoldLast t)
slots s t scen is few = hold-last s (items-named s scen) t (short s t is few)

-- the conditions of the landings
pub lands : OfRuns SlotsMayLand
lands s t scen is few = slots_may_land s (items-named s scen) (ring-least s scen) t (short s t is few)

-- also in slots that are kept as a list
pub lists : OfRuns ListsMayLand
lists s t scen is few = lists_may_land s (items-named s scen) (ring-least s scen) t (short s t is few)
