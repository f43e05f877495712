-- An item is taken only once its job is restarted.
use Rattle.std.proofs.Common.{◌≡◌, true, List, Option, Some, None, IfSome}
use Rattle.xrf_history.specs.declared.settings.Settings.{Settings}
use Rattle.xrf_history.specs.declared.want.Want.{Want}
use Rattle.xrf_history.specs.declared.want.Want.TheVariants as want
use Rattle.xrf_history.specs.Events.{Event}
use Rattle.xrf_history.specs.Holding.{is_restarted}
use Rattle.xrf_history.specs.Next.{inside, next, or_boundary}
use Rattle.xrf_history.proofs.Boundary.{IsPlain, calm-plain, idle-plain, Cases, boundary-by}
use Rattle.xrf_history.proofs.Inside.{IsInner, inside-inner}

-- where the act is an ITEM the job is restarted
abbrev Restarts : List Event → Want → Type 0
Restarts h w = w ≡ want.Item → is_restarted h ≡ true

-- a plain act is no ITEM
plain-restarts : (h : List Event) (w : Want) → IsPlain w → Restarts h w
plain-restarts h want.Item plain = absurd plain
plain-restarts h _ plain = λ is. absurd (cc)

-- an act inside a sequence is no ITEM
inner-restarts : (h : List Event) (w : Want) → IsInner w → Restarts h w
inner-restarts h want.Item inner = absurd inner
inner-restarts h _ inner = λ is. absurd (cc)

-- at a boundary the ITEM is of a restarted job
item-cases : (p : Settings) (h : List Event) → Cases p h (Restarts h)
item-cases p h = record {
  idle = λ w idle. plain-restarts h w (idle-plain w idle);
  calm = λ w calm works. plain-restarts h w (calm-plain w calm);
  signals = λ granted works is. absurd (cc);
  reads = λ alternate due is. absurd (cc);
  drains = λ works draining is. absurd (cc);
  restarts = λ works drained fresh is. absurd (cc);
  sends = λ works drained restarted message due may is. absurd (cc);
  works = λ works drained restarted none is. restarted;
}

-- where an ITEM comes next the job is restarted
pub item-restarted : (p : Settings) (h : List Event) → next p h ≡ want.Item → is_restarted h ≡ true
item-restarted p h = by (inside p h) (inside-inner p h)
  where
    by : (o : Option Want) → IfSome o IsInner → Restarts h (or_boundary p h o)
    by None inner = boundary-by (Restarts h) p h (item-cases p h)
    by (Some w) inner = inner-restarts h w inner
