-- Items see the book, by tests: that they are taken once their job is restarted, and what a GET reads.
use Rattle.std.proofs.Common.{◌≡◌, ℕ, Bool, true, false, List, Option, Some, None, sym}
use Rattle.xrf_base.specs.Values.{slot_of}
use Rattle.xrf_base.specs.declared.site.Site.{Site}
use Rattle.xrf_base.specs.declared.items.Item.{Item}
use Rattle.xrf_base.specs.declared.items.Item.TheVariants as items
use Rattle.xrf_base.specs.declared.items.UnitId.{UnitId}
use Rattle.xrf_history.specs.Events.{Event}
use Rattle.xrf_history.specs.Holding.{is_restarted}
use Rattle.xrf_trace.specs.declared.entry.Entry.{Entry}
use Rattle.xrf_trace.specs.declared.entry.Act.{Act}
use Rattle.xrf_trace.specs.declared.entry.Act.TheVariants as act
use Rattle.xrf_trace.specs.Scenario.{Scen}
use Rattle.xrf_trace.specs.Devices.{image}
use Rattle.xrf_trace.specs.Book.{book, puts, value_after}
use Rattle.xrf_trace.specs.AtHand.{item_at_hand, open_unit}
use Rattle.xrf_trace.specs.Each.{Each, AtSite}
use Rattle.xrf_trace.specs.ItemsSeeBook.{ItemsSeeBook, TakesRestarted, ReadsBook, ReadsFor, IsSeenBy}
use Rattle.xrf_long_runs.proofs.Tests.{clash, each_site_meets, each_site_by, item_meets, item_by}
use Rattle.xrf_long_runs.proofs.Same.{same_bytes, texts}

-- an item is taken by a job that is restarted
abbrev takes_restarted : List Event → Act → Bool
takes_restarted h (act.Item number) = is_restarted h
takes_restarted h _ = true

taken_restarted : (h : List Event) (a : Act) → takes_restarted h a ≡ true → TakesRestarted h a
taken_restarted h (act.Item number) met = met
taken_restarted h _ met = tt

abbrev pub all_restarted : Scen → List Entry → Bool
all_restarted s t = each_site_meets s (λ t e x h. takes_restarted h e.act) t

-- a GET reads the book with what its unit put
abbrev is_seen_by : Scen → List Entry → ℕ → Option UnitId → Bool
is_seen_by s t k None = false
is_seen_by s t k (Some unit) = same_bytes (image s t k) (slot_of (value_after k (puts t unit) (book s t k)))

seen_by : (s : Scen) (t : List Entry) (k : ℕ) (unit : Option UnitId) → is_seen_by s t k unit ≡ true → IsSeenBy s t k unit
seen_by s t k None met = clash (sym met)
seen_by s t k (Some unit) met = texts (image s t k) (slot_of (value_after k (puts t unit) (book s t k))) met

abbrev reads_for : Scen → List Entry → Site → Item → Bool
reads_for s t x (items.Get name k) = is_seen_by s t k (open_unit s t x name)
reads_for s t x _ = true

read_for : (s : Scen) (t : List Entry) (x : Site) (item : Item) → reads_for s t x item ≡ true → ReadsFor s t x item
read_for s t x (items.Get name k) met = seen_by s t k (open_unit s t x name) met
read_for s t x _ met = tt

abbrev reads_book : Scen → List Entry → Site → Act → Bool
reads_book s t x (act.FileRead k) = item_meets (item_at_hand s t x) (reads_for s t x)
reads_book s t x _ = true

book_read : (s : Scen) (t : List Entry) (x : Site) (a : Act) → reads_book s t x a ≡ true → ReadsBook s t x a
book_read s t x (act.FileRead k) met = item_by (item_at_hand s t x) (reads_for s t x) (ReadsFor s t x) (read_for s t x) met
book_read s t x _ met = tt

abbrev pub all_read : Scen → List Entry → Bool
all_read s t = each_site_meets s (λ t e x h. reads_book s t x e.act) t

restarted_by : (s : Scen) (t : List Entry) → all_restarted s t ≡ true → Each (λ t e. AtSite s t e.who (λ x h. TakesRestarted h e.act)) t
restarted_by s =
    each_site_by s (λ t e x h. takes_restarted h e.act) (λ t e x h. TakesRestarted h e.act) (λ t e x h. taken_restarted h e.act)

pub items_see_book : (s : Scen) (t : List Entry) → all_restarted s t ≡ true → all_read s t ≡ true → ItemsSeeBook s t
items_see_book s t restarted read = record {
  restarted = restarted_by s t restarted;
  reads = each_site_by s (λ t e x h. reads_book s t x e.act) (λ t e x h. ReadsBook s t x e.act) (λ t e x h. book_read s t x e.act) t read;
}
