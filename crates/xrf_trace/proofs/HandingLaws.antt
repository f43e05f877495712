-- What an act hands a job is an answer that fits it.
use Rattle.std.proofs.Common.{◌≡◌, ℕ, zero, suc, ◌+◌, ◌-◌, ◌<◌, nat_lt, Bool, true, false, IsTrue, List, [], ◌∷◌, length, slice_get, Option, Some, None, IfSome, refl, arith, subst, if◌then◌else◌}
use Rattle.std.proofs.lemmas.Grind.{common_steps}
use Rattle.xrf_base.specs.declared.items.Item.{Item}
use Rattle.xrf_base.specs.declared.site.Site.{Site}
use Rattle.xrf_history.specs.declared.settings.Settings.{Settings}
use Rattle.xrf_history.specs.declared.want.Want.{Want}
use Rattle.xrf_history.specs.declared.want.Want.TheVariants as want
use Rattle.xrf_history.specs.Events.{Event}
use Rattle.xrf_history.specs.Restarting.{has_read_block}
use Rattle.xrf_history.specs.Next.{next}
use Rattle.xrf_history.specs.Answers.{fits, event_by}
use Rattle.xrf_trace.specs.declared.entry.Entry.{Entry}
use Rattle.xrf_trace.specs.declared.entry.Act.{Act}
use Rattle.xrf_trace.specs.declared.entry.Act.TheVariants as act
use Rattle.xrf_trace.specs.Scenario.{Scen, settings, work, item_at}
use Rattle.xrf_trace.specs.Words.{now, items_taken}
use Rattle.xrf_trace.specs.Jobs.{handed, block_event, item_event}
use Rattle.xrf_trace.specs.Acts.{act_of, next_item}
use Rattle.xrf_trace.specs.Handing.{answer_of, block_answer, item_handed}

-- it is handed the event of the answer, which fits
abbrev IsAnswered : Scen → List Entry → Site → List Event → Want → Act → Type 0
IsAnswered s t x h w a =
    (handed s t x (now t) h a ≡ event_by (settings s x) h w (answer_of s t x h w)) × IsTrue (fits (settings s x) h w (answer_of s t x h w))

block-answered : (s : Scen) (t : List Entry) (p : Settings) (h : List Event) (b : ℕ) (has : Bool) → has_read_block h ≡ has
    → (block_event s t b has ≡ event_by p h (want.LogRead b) (block_answer s t b has)) × IsTrue (fits p h (want.LogRead b) (block_answer s t b has))
block-answered s t p h b true is = (refl, grind (arith, common_steps))
block-answered s t p h b false is = (refl, grind (arith, common_steps))

found : (items : List Item) (k : ℕ) → k < length items → slice_get items k ≡ None → ⊥
found [] k within none = absurd (omega arith)
found (item ∷ items) zero within none = absurd (cc)
found (item ∷ items) (suc k) within none = found items k (omega arith) none

-- the item that is taken next is there, while the work list has more items than were taken
next_there : (items : List Item) (k : ℕ) → nat_lt k (length items) ≡ true → slice_get items (k + 1 - 1) ≡ None → ⊥
next_there items k less none =
    let same : k + 1 - 1 ≡ k = omega arith in
    found items k (grind (arith, common_steps)) (subst (λ (n : ℕ). slice_get items n ≡ None) same none)

item-answered : (s : Scen) (t : List Entry) (x : Site) (h : List Event) (item : Option Item) → (item ≡ None → ⊥)
    → (item_event item ≡ event_by (settings s x) h want.Item (item_handed (now t) item)) × IsTrue (fits (settings s x) h want.Item (item_handed (now t) item))
item-answered s t x h (Some item) there = (refl, refl)
item-answered s t x h None there = absurd (there refl)

next_item-answered : (s : Scen) (t : List Entry) (x : Site) (h : List Event) → IfSome (next_item s t x) (IsAnswered s t x h want.Item)
next_item-answered s t x h = by (nat_lt (items_taken t x) (length (work s x))) refl
  where
    by : (b : Bool) → nat_lt (items_taken t x) (length (work s x)) ≡ b
        → IfSome (if b then Some (act.Item (items_taken t x + 1)) else None) (IsAnswered s t x h want.Item)
    by true less = item-answered s t x h (item_at s x (items_taken t x + 1)) (next_there (work s x) (items_taken t x) less)
    by false _ = tt

act_of-answered : (s : Scen) (t : List Entry) (x : Site) (h : List Event) (w : Want) → IfSome (act_of s t x h w) (IsAnswered s t x h w)
act_of-answered s t x h want.Nothing = tt
act_of-answered s t x h (want.Exit told) = tt
act_of-answered s t x h (want.LogRead b) = block-answered s t (settings s x) h b (has_read_block h) refl
act_of-answered s t x h want.Item = next_item-answered s t x h
act_of-answered s t x h _ = (refl, refl)

pub acts_are_answered : (s : Scen) (t : List Entry) (x : Site) (h : List Event)
    → IfSome (act_of s t x h (next (settings s x) h)) (IsAnswered s t x h (next (settings s x) h))
acts_are_answered s t x h = act_of-answered s t x h (next (settings s x) h)
