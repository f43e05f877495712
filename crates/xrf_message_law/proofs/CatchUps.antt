-- An owner catches up an alternate of the record that it saw, which was sent nothing.
use Rattle.std.proofs.lemmas.Bool.{and_parts}
use Rattle.std.proofs.Common.{eqb-true, is_some, sym, true, ◌≡◌, ℕ, ◌==◌, ◌∙◌, Option, Some, false, subst, None, is_none, refl, ◌&&◌, eq-eqb, Bool, not, if◌then◌else◌, List, ap, arith, ◌<◌, ◌≤◌, [], ◌+◌}
use Rattle.xrf_ctl.specs.Control.{ControlRecord}
use Rattle.xrf_ctl.specs.declared.parts.Alt.{Alt}
use Rattle.xrf_cavm.specs.Record.{inc_of_alt, is_alt}
use Rattle.xrf_cavm.specs.declared.decisions.Acting.{Acting}
use Rattle.xrf_cavm.specs.Decisions.{is_of_epoch, decide_active, decide, decide_waiting}
use Rattle.xrf_cavm.specs.Watch.{is_lost}
use Rattle.xrf_cavm.specs.declared.decisions.Decided.TheVariants.{Owner, Alternate, Waiting}
use Rattle.xrf_cavm.specs.declared.known.Known.{Known}
use Rattle.xrf_cavm.specs.declared.decisions.Acting.TheVariants as acting
use Rattle.xrf_msg.specs.declared.messages.Message.{Message}
use Rattle.xrf_history.specs.Looking.{change, record_seen}
use Rattle.xrf_history.specs.Notices.{epoch_in, epoch}
use Rattle.xrf_history.specs.Events.{Event}
use Rattle.xrf_history.specs.declared.settings.Settings.{Settings}
use Rattle.xrf_history.specs.Deciding.{cause, mode_of}
use Rattle.xrf_history.specs.Holding.{is_owner, is_waiting, number}
use Rattle.xrf_trace.specs.Words.{now}
use Rattle.xrf_trace.specs.Scenario.{other}
use Rattle.xrf_message_law.specs.Epochs.{Knows, Saw, Unsent}

-- a record names one alternate
one-alt : (r : ControlRecord) (n m : ℕ) → is_alt r n ≡ true → is_alt r m ≡ true → n ≡ m
one-alt r n m a b =
    sym (eqb-true (inc_of_alt r.alt) n (and_parts (is_some r.alt) (inc_of_alt r.alt == n) a).1) ∙ eqb-true (inc_of_alt r.alt) m
    (and_parts (is_some r.alt) (inc_of_alt r.alt == m) b).1

-- what a decision of an owner tells of what it saw
abbrev pub Catches : ControlRecord → Option ℕ → Acting → Type 0
Catches seen of (acting.CatchUp n) = (is_alt seen n ≡ true) × (of ≡ Some n → ⊥)
Catches seen of acting.Forget = (n : ℕ) → is_alt seen n ≡ false
Catches seen of _ = Unit {0}

-- the alternate that is caught up is not the epoch
of-epoch : (seen : ControlRecord) (n : ℕ) (of : Option ℕ) → is_alt seen n ≡ true → is_of_epoch seen of ≡ false → of ≡ Some n → ⊥
of-epoch seen n of named none same = let is : is_of_epoch seen (Some n) ≡ false = subst (λ (o : Option ℕ). is_of_epoch seen o ≡ false) same none in absurd (cc)

-- a record without an alternate names none
none-alt : (o : Option Alt) (n : ℕ) → is_none o ≡ true → (is_some o && inc_of_alt o == n) ≡ false
none-alt None n gone = refl
none-alt (Some a) n gone = absurd (cc)

-- a record with one names it
alt-self : (o : Option Alt) → is_some o ≡ true → (is_some o && inc_of_alt o == inc_of_alt o) ≡ true
alt-self None there = absurd (cc)
alt-self (Some a) there = eq-eqb a.inc a.inc refl

-- a decision of an owner by what it saw: a catch-up is of the alternate of the record, which is not its epoch
pub catches : (change : ℕ) (seen : ControlRecord) (of : Option ℕ) (pdi now : ℕ) → Catches seen of (decide_active change seen of pdi now)
catches change seen of pdi now = taking (is_some seen.taking)
  where
    lost : (b : Bool) → Catches seen of (if b then acting.Lost else acting.Nothing)
    lost true = tt
    lost false = tt

    forget : (b c : Bool) → is_none seen.alt ≡ b
        → Catches seen of (if b && c then acting.Forget else (if is_of_epoch seen of && is_lost change pdi now then acting.Lost else acting.Nothing))
    forget true true gone = λ n. none-alt seen.alt n gone
    forget true false gone = lost (is_of_epoch seen of && is_lost change pdi now)
    forget false c gone = lost (is_of_epoch seen of && is_lost change pdi now)

    catch : (b c : Bool) → is_some seen.alt ≡ b → is_of_epoch seen of ≡ c
        → Catches seen of (if b && not c then acting.CatchUp (inc_of_alt seen.alt) else (if is_none seen.alt && is_some of then acting.Forget else
        (if is_of_epoch seen of && is_lost change pdi now then acting.Lost else acting.Nothing)))
    catch true false there no_epoch = (alt-self seen.alt there, of-epoch seen (inc_of_alt seen.alt) of (alt-self seen.alt there) no_epoch)
    catch true true there no_epoch = forget (is_none seen.alt) (is_some of) refl
    catch false c there no_epoch = forget (is_none seen.alt) (is_some of) refl

    taking : (b : Bool)
        → Catches seen of (if b then acting.Seen else (if is_some seen.alt && not (is_of_epoch seen of) then acting.CatchUp (inc_of_alt seen.alt) else
        (if is_none seen.alt && is_some of then acting.Forget else (if is_of_epoch seen of && is_lost change pdi now then acting.Lost else acting.Nothing))))
    taking true = tt
    taking false = catch (is_some seen.alt) (is_of_epoch seen of) refl refl

-- the epoch after a decision of an owner
abbrev pub epoch_by : Acting → Option ℕ → Option ℕ
epoch_by (acting.CatchUp n) of = Some n
epoch_by acting.Forget of = None
epoch_by _ of = of

-- so an owner knows of its new epoch what it knew of the old one
pub knows-decided : (r : ControlRecord) (f : ℕ → List Message) (of : Option ℕ) (seen : ControlRecord) (d : Acting) → Catches seen of d → Knows r f of
    → Saw r f of seen → Knows r f (epoch_by d of)
knows-decided r f of seen (acting.CatchUp n) caught knows saw = record {
  given = λ m is. let same : n ≡ m = cc in omega (arith, saw.few n caught.0, saw.older, same);
  unsent = λ a named other. other-alt a named other (is_alt seen a) refl;
}
  where
    other-alt : (a : ℕ) → is_alt r a ≡ true → (Some n ≡ Some a → ⊥) → (b : Bool) → is_alt seen a ≡ b → f a ≡ []
    other-alt a named other true also = absurd (other (ap (λ (i : ℕ). Some i) (one-alt seen n a caught.0 also)))
    other-alt a named other false gone =
        knows.unsent a named
        (λ is. let most : a ≤ seen.last = saw.given a is in let least : seen.last < a = saw.later a named gone in omega (arith, most, least))
knows-decided r f of seen acting.Forget caught knows saw = record {
  given = λ m is. absurd (cc);
  unsent = λ a named other.
      knows.unsent a named
      (λ is. let most : a ≤ seen.last = saw.given a is in let least : seen.last < a = saw.later a named (caught a) in omega (arith, most, least));
}
knows-decided r f of seen _ caught knows saw = knows

-- and a catch-up is of one that was sent nothing
pub fresh-epoch : (r : ControlRecord) (f : ℕ → List Message) (of : Option ℕ) (seen : ControlRecord) (change pdi now n : ℕ) → Saw r f of seen
    → decide_active change seen of pdi now ≡ acting.CatchUp n → f n ≡ []
fresh-epoch r f of seen change pdi now n saw is =
    let caught : Catches seen of (acting.CatchUp n) = subst (Catches seen of) is (catches change seen of pdi now) in
    saw.unsent n caught.0 caught.1

-- a LOOK1 sees the record
pub saw-now : (r : ControlRecord) (f : ℕ → List Message) (of : Option ℕ) → ((n : ℕ) → is_alt r n ≡ true → n ≤ r.last) → Knows r f of → Saw r f of r
saw-now r f of few knows = record {
  few = few;
  older = omega arith;
  later = λ n named gone. absurd (cc);
  unsent = knows.unsent;
  given = knows.given;
}

-- a write of the record: it keeps the alternate, or names none, or the next number
pub record Rewrites (r written : ControlRecord) : Type 0 where
  pub rises : r.last ≤ written.last
  pub next : (n : ℕ) → is_alt written n ≡ true → is_alt r n ≡ false → n ≡ r.last + 1

-- what is known of the record is known of the one that is written
pub knows-rewritten : (r written : ControlRecord) (f : ℕ → List Message) (of : Option ℕ) → Rewrites r written → Unsent r f → Knows r f of → Knows written f of
knows-rewritten r written f of rewrites unsent knows = record {
  given = λ n is. omega (arith, knows.given n is, rewrites.rises);
  unsent = λ n named other. by n named other (is_alt r n) refl;
}
  where
    by : (n : ℕ) → is_alt written n ≡ true → (of ≡ Some n → ⊥) → (b : Bool) → is_alt r n ≡ b → f n ≡ []
    by n named other true also = knows.unsent n also other
    by n named other false gone = unsent n (let is : n ≡ r.last + 1 = rewrites.next n named gone in omega (arith, is))

-- and what was seen
pub saw-rewritten : (r written : ControlRecord) (f : ℕ → List Message) (of : Option ℕ) (seen : ControlRecord) → Rewrites r written → Saw r f of seen
    → Saw written f of seen
saw-rewritten r written f of seen rewrites saw = record {
  few = saw.few;
  older = omega (arith, saw.older, rewrites.rises);
  later = λ n named gone. by n named gone (is_alt r n) refl;
  unsent = saw.unsent;
  given = saw.given;
}
  where
    by : (n : ℕ) → is_alt written n ≡ true → is_alt seen n ≡ false → (b : Bool) → is_alt r n ≡ b → seen.last < n
    by n named gone true also = saw.later n also gone
    by n named gone false new = let is : n ≡ r.last + 1 = rewrites.next n named new in omega (arith, is, saw.older)

-- the epoch after a decision of an owner, by its act
pub epoch_in-by : (a : Acting) (o : Option ℕ) → epoch_in (Owner a) o ≡ epoch_by a o
epoch_in-by (acting.CatchUp n) o = refl
epoch_in-by acting.Forget o = refl
epoch_in-by _ o = refl

-- the decision of an owner
pub decides-owner : (p : Settings) (h : List Event) (known : Known) (at : ℕ) → is_owner h ≡ true
    → cause p h known at ≡ Owner (decide_active (change h) (record_seen h) (epoch h) p.pdi at)
decides-owner p h known at owner = by (is_owner h) owner
  where
    by : (b : Bool) → b ≡ true
        → (elim b [
          | true ↦ Owner (decide_active (change h) (record_seen h) (epoch h) p.pdi at)
          | false ↦ elim
              (is_waiting h) [
                | true ↦ Waiting (decide_waiting (record_seen h) known)
                | false ↦ Alternate (decide (change h) (record_seen h) (number h)
                    (mode_of p h) at)
              ]
        ]) ≡ Owner (decide_active (change h) (record_seen h) (epoch h) p.pdi at)
    by true is = refl
    by false is = absurd (cc)
