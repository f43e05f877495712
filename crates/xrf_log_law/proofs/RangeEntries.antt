-- What is written is in its ranges, and a number that is new is in no record: over whole runs.
use Rattle.std.proofs.Common.{false, true, ◌≡◌, Bool, List, refl, subst, sym, ℕ, ◌==◌, ◌∙◌, ap, ◌||◌, ◌∷◌, if◌then◌else◌, IfSome, Some, None, Option, arith, ◌+◌}
use Rattle.xrf_base.specs.declared.items.UnitId.{UnitId}
use Rattle.xrf_base.specs.declared.site.Site.{Site}
use Rattle.xrf_base.specs.declared.items.Item.{Item}
use Rattle.xrf_logrec.specs.declared.records.LogRec.{LogRec}
use Rattle.xrf_logrec.specs.LogRecords.{unit_of}
use Rattle.xrf_history.specs.Events.{Event}
use Rattle.xrf_history.specs.declared.want.Want.{Want}
use Rattle.xrf_history.specs.Restarting.{has_read_block}
use Rattle.xrf_history.specs.Holding.{is_granted, is_restarted, number, is_owner}
use Rattle.xrf_history.specs.Progress.{is_active}
use Rattle.xrf_history.specs.Next.{next}
use Rattle.xrf_history.proofs.Holding.{owner-granted}
use Rattle.xrf_trace.specs.Log.{log, log_after}
use Rattle.xrf_trace.specs.declared.entry.Act.{Act}
use Rattle.xrf_trace.specs.declared.entry.Entry.{Entry}
use Rattle.xrf_trace.specs.declared.entry.Land.{Land}
use Rattle.xrf_trace.specs.Scenario.{Scen, item_at, settings, other}
use Rattle.xrf_trace.specs.Jobs.{after_act, block_event, item_event, hist, handed}
use Rattle.xrf_trace.specs.Words.{now, items_taken, who_at}
use Rattle.xrf_trace.specs.Acts.{act_of}
use Rattle.xrf_trace.specs.Landing.{opens}
use Rattle.xrf_trace.proofs.ByKind.{made, is_quiet, Kinds, MayLand}
use Rattle.xrf_log_law.proofs.RecordRanges.{IsOf}
use Rattle.xrf_log_law.specs.Ranges.{uses, IsFresh, InRanges, AreUnits, AreOfFile}
use Rattle.xrf_log_law.proofs.RangeActs.{open-hand, units-after, Below, below-after, Valued, values-after, file-after}
use Rattle.xrf_log_law.proofs.JobActs.{of-item}
use Rattle.xrf_trace.specs.Each.{AtSite, OfJob}
use Rattle.xrf_log_law.proofs.BeforeActs.{Before}
use Rattle.xrf_log_law.proofs.SitesAfter.{OwnAfter, sites-after, fail-after, tick-after, own-other, quiet-after}
use Rattle.xrf_log_law.proofs.InvariantActs.{before-next}
use Rattle.xrf_trace.specs.Entries.{entry, inc_at}
use Rattle.std.specs.Prelude.{[]}
use Rattle.xrf_log_law.specs.Invariant.{Invariant}
use Rattle.xrf_log_law.proofs.Tests.{and-left, eq-of-true, false-if, false-true, no-clash}
use Rattle.xrf_base.specs.declared.site.Site.TheVariants as site
use Rattle.xrf_history.specs.declared.want.Want.TheVariants as want
use Rattle.xrf_trace.specs.declared.entry.Land.TheVariants as land
use Rattle.xrf_trace.specs.declared.entry.Act.TheVariants as act
use Rattle.xrf_setup.specs.declared.choice.Choice.TheVariants as choice

-- a record of another incarnation
of-other : (log : List LogRec) (n g : ℕ) (restarted : Bool) (unit : UnitId) → IsOf n log unit restarted → (restarted ≡ true → n ≡ g → ⊥)
    → uses g log ≡ false → (unit.inc == g) ≡ false
of-other log n g true unit of differ unused = false-if (unit.inc == g) (λ e. differ refl (sym of ∙ eq-of-true unit.inc g e))
of-other log n g false unit of differ unused =
    false-if (unit.inc == g) (λ e. no-clash (uses g log) (subst (λ (i : ℕ). uses i log ≡ true) (eq-of-true unit.inc g e) of) unused)

-- so a number that no record is of stays so
joins-fresh : (log : List LogRec) (n g : ℕ) (restarted : Bool) (rec : LogRec) (b : Bool) → IsOf n log (unit_of rec) restarted
    → (restarted ≡ true → n ≡ g → ⊥) → uses g log ≡ false → uses g (if b then rec ∷ log else log) ≡ false
joins-fresh log n g restarted rec true of differ unused =
    ap (λ (c : Bool). c || uses g log) (of-other log n g restarted (unit_of rec) of differ unused) ∙ unused
joins-fresh log n g restarted rec false of differ unused = unused

-- the job itself
abbrev Later : Scen → List Entry → Site → List Event → Land → Act → Type 0
Later s t x h l a = IfSome (after_act s t x (now t) a (Some h)) (IsFresh (log_after a l (log t)))

-- after each act in full
fresh-act : (s : Scen) (t : List Entry) (x : Site) (h : List Event) (l : Land) (w : Want) → Before s t x h w → IsFresh (log t) h
    → IfSome (act_of s t x h w) (Later s t x h l)
fresh-act s t x h l (want.LogOpen place rec) n fresh = λ granted going.
    joins-fresh (log t) (number h) (number h) (is_restarted h) rec (opens l) (open-hand s t x h place rec n).of
    (λ e f. no-clash (is_restarted h) e going) (fresh granted going)
fresh-act s t x h l (want.CtlWrite written) n fresh = λ granted going. by (is_granted h) refl going
  where
    by : (b : Bool) → is_granted h ≡ b → is_restarted h ≡ false → uses (if b then number h else written.last) (log t) ≡ false
    by true is going = fresh is going
    by false is going =
        false-if (uses written.last (log t))
        (λ used. (let below = n.ranges.below written.last used in let above = (n.writes written refl).last_of_grant is in absurd
        (omega (arith, below, above))))
fresh-act s t x h l (want.LogRead k) n fresh = by (has_read_block h)
  where
    by : (b : Bool) → IsFresh (log t) (block_event s t k b ∷ h)
    by true = fresh
    by false = fresh
fresh-act s t x h l want.Item n fresh = of-item s t x (Later s t x h l) (by (item_at s x (items_taken t x + 1)))
  where
    by : (o : Option Item) → IsFresh (log t) (item_event o ∷ h)
    by None = fresh
    by (Some item) = fresh
fresh-act s t x h l want.Nothing n fresh = tt
fresh-act s t x h l (want.Exit told) n fresh = tt
fresh-act s t x h l (want.Ended reason) n fresh = tt
fresh-act s t x h l want.Restarted n fresh = λ granted going. false-true (sym going)
fresh-act s t x h l _ n fresh = fresh

-- any job, where a record joins the log
fresh-log : (s : Scen) (t : List Entry) (x : Site) (h g : List Event) (l : Land) (w : Want) → Before s t x h w → IsFresh (log t) g
    → (is_granted g ≡ true → is_restarted g ≡ false → is_active h ≡ true → is_restarted h ≡ true → number h ≡ number g → ⊥)
    → IfSome (act_of s t x h w) (λ a. IsFresh (log_after a l (log t)) g)
fresh-log s t x h g l (want.LogOpen place rec) n fresh differ = λ granted going.
    joins-fresh (log t) (number h) (number g) (is_restarted h) rec (opens l) (open-hand s t x h place rec n).of (differ granted going (n.acts refl))
    (fresh granted going)
fresh-log s t x h g l want.Nothing n fresh differ = tt
fresh-log s t x h g l (want.Exit told) n fresh differ = tt
fresh-log s t x h g l want.Item n fresh differ = of-item s t x (λ a. IsFresh (log_after a l (log t)) g) fresh
fresh-log s t x h g l _ n fresh differ = fresh

-- the job of the act
own-fresh : (s : Scen) (t : List Entry) (x : Site) (h : List Event) (a : Act) (l : Land) → act_of s t x h (next (settings s x) h) ≡ Some a → MayLand l a
    → Before s t x h (next (settings s x) h) → IsFresh (log t) h → OwnAfter s t x a l (Some h) (IsFresh (log_after a l (log t)))
own-fresh s t x h a land.Full is may b fresh = subst (λ (o : Option Act). IfSome o (Later s t x h land.Full)) is (fresh-act s t x h land.Full _ b fresh)
own-fresh s t x h a land.Lost is may b fresh = subst (λ (o : Option Act). IfSome o (Later s t x h land.Lost)) is (fresh-act s t x h land.Lost _ b fresh)
own-fresh s t x h a (land.Stop cut) is may b fresh = tt
own-fresh s t x h a (land.Fail cut) is may b fresh =
    fail-after s t x h a cut (IsFresh (log_after a (land.Fail cut) (log t))) is may
    (subst (λ (o : Option Act). IfSome o (λ c. IsFresh (log_after c (land.Fail cut) (log t)) h)) is
    (fresh-log s t x h h (land.Fail cut) _ b fresh (λ granted going there restarted same. no-clash (is_restarted h) restarted going)))

-- the job of the other site
other-fresh : (s : Scen) (t : List Entry) (x : Site) (h : List Event) (a : Act) (l : Land) (job : Option (List Event))
    → act_of s t x h (next (settings s x) h) ≡ Some a → Before s t x h (next (settings s x) h) → IfSome job (IsFresh (log t))
    → ((g : List Event) → job ≡ Some g → is_granted h ≡ true → is_granted g ≡ true → number h ≡ number g → ⊥) → IfSome job (IsFresh (log_after a l (log t)))
other-fresh s t x h a l None is b fresh apart = tt
other-fresh s t x h a l (Some g) is b fresh apart =
    subst (λ (o : Option Act). IfSome o (λ c. IsFresh (log_after c l (log t)) g)) is
    (fresh-log s t x h g l _ b fresh (λ granted going there restarted. apart g refl (owner-granted h (and-left (is_owner h) _ there)) granted))

-- a fact of the site of an entry is one of the job that is there
pub at-own : (s : Scen) (t : List Entry) (x : Site) (h : List Event) (P : Site → List Event → Type 0) → hist s t x ≡ Some h → AtSite s t (who_at x) P → P x h
at-own s t site.A h P job at = subst (λ (o : Option (List Event)). OfJob o (P site.A)) job at
at-own s t site.B h P job at = subst (λ (o : Option (List Event)). OfJob o (P site.B)) job at

-- what only reaches a job
quiet-fresh : (s : Scen) (t : List Entry) (x : Site) (a : Act) (job : Option (List Event)) → is_quiet a ≡ true → IfSome job (IsFresh (log t))
    → IfSome job (λ h. IsFresh (log t) (handed s t x (now t) h a ∷ h))
quiet-fresh s t x a None quiet fresh = tt
quiet-fresh s t x act.Abend (Some h) quiet fresh = fresh
quiet-fresh s t x (act.Reply go) (Some h) quiet fresh = fresh
quiet-fresh s t x (act.Cebt command reply) (Some h) quiet fresh = fresh
quiet-fresh s t x (act.Exit said) (Some h) quiet fresh = fresh
quiet-fresh s t x act.NoAct (Some h) quiet fresh = fresh
quiet-fresh s t x _ (Some h) quiet fresh = absurd (cc)

-- the ranges after a choice that reaches a job
abbrev QuietRanges : Scen → List Entry → Site → ℕ → Act → Type 0
QuietRanges s t x i a = OwnAfter s t x a land.Full (hist s t x) (IsFresh (log t)) → InRanges s t → InRanges s (made t x i a land.Full ∷ t)

-- it keeps them
quiet-ranges : (s : Scen) (t : List Entry) (x : Site) (i : ℕ) (a : Act) → is_quiet a ≡ true → QuietRanges s t x i a
quiet-ranges s t x i act.Abend quiet own r =
    record {
      units = r.units;
      file = r.file;
      below = r.below;
      values = r.values;
      fresh = sites-after s t x i act.Abend land.Full
          (λ y. IsFresh (log t)) own refl (r.fresh (other x));
    }
quiet-ranges s t x i (act.Reply go) quiet own r =
    record {
      units = r.units;
      file = r.file;
      below = r.below;
      values = r.values;
      fresh = sites-after s t x i (act.Reply go) land.Full
          (λ y. IsFresh (log t)) own refl (r.fresh (other x));
    }
quiet-ranges s t x i (act.Cebt command reply) quiet own r =
    record {
      units = r.units;
      file = r.file;
      below = r.below;
      values = r.values;
      fresh = sites-after s t x i (act.Cebt command reply) land.Full
          (λ y. IsFresh (log t)) own refl (r.fresh (other x));
    }
quiet-ranges s t x i (act.Exit said) quiet own r =
    record {
      units = r.units;
      file = r.file;
      below = r.below;
      values = r.values;
      fresh = sites-after s t x i (act.Exit said) land.Full
          (λ y. IsFresh (log t)) own refl (r.fresh (other x));
    }
quiet-ranges s t x i act.NoAct quiet own r =
    record {
      units = r.units;
      file = r.file;
      below = r.below;
      values = r.values;
      fresh = sites-after s t x i act.NoAct land.Full
          (λ y. IsFresh (log t)) own refl (r.fresh (other x));
    }
quiet-ranges s t x i _ quiet own r = absurd (cc)

-- each entry keeps the ranges
pub range-kinds : (s : Scen) (t : List Entry) → Invariant s t → Kinds s t (λ e. InRanges s (e ∷ t))
range-kinds s t k = record {
  tick = record { units = k.ranges.units; file = k.ranges.file; below = k.ranges.below; values = k.ranges.values; fresh = tick k.ranges };
  confirm = λ n. record { units = k.ranges.units; file = k.ranges.file; below = k.ranges.below; values = k.ranges.values; fresh = confirm n k.ranges };
  acts = λ x h a l job is fits may.
      (let b = before-next s t x h k job in
      let fresh_now : IsFresh (log t) h = subst (λ (o : Option (List Event)). IfSome o (IsFresh (log t))) job (k.ranges.fresh x) in
      let theirs : IfSome (hist s t (other x)) (IsFresh (log_after a l (log t))) =
      other-fresh s t x h a l (hist s t (other x)) is b (k.ranges.fresh (other x))
      (λ g there granted granted_there same. k.known.apart x h g job there granted granted_there same) in
      record {
        units = subst (λ (o : Option Act). IfSome o (λ c. AreUnits (log_after c l (log t)))) is (units-after s t x h l _ b);
        file = subst (λ (o : Option Act). IfSome o (λ c. AreOfFile s.settings.file (log_after c l (log t)))) is (file-after s t x h l _ b);
        below = subst (λ (o : Option Act). IfSome o (Below s t l)) is (below-after s t x h l _ b);
        values = subst (λ (o : Option Act). IfSome o (Valued s t l)) is (values-after s t x h l _ b);
        fresh = sites-after s t x (inc_at a (Some h)) a l (λ y. IsFresh (log_after a l (log t)))
            (subst (λ (o : Option (List Event)). OwnAfter s t x a l o (IsFresh (log_after a l (log t)))) (sym job) (own-fresh s t x h a l is may b fresh_now))
            (own-other s t x h a (hist s t (other x)) is) theirs;
      });
  quiet = λ x i a quiet.
      quiet-ranges s t x i a quiet (quiet-after s t x a (hist s t x) (IsFresh (log t)) quiet
      (quiet-fresh s t x a (hist s t x) quiet (k.ranges.fresh x))) k.ranges;
  stop = λ x i cut. record {
    units = k.ranges.units;
    file = k.ranges.file;
    below = k.ranges.below;
    values = k.ranges.values;
    fresh = sites-after s t x i act.NoAct (land.Stop cut) (λ y. IsFresh (log t)) tt refl (k.ranges.fresh (other x));
  };
  active = λ x. record {
    units = k.ranges.units;
    file = k.ranges.file;
    below = k.ranges.below;
    values = k.ranges.values;
    fresh = sites-after s t x 0 act.StartActive land.Full (λ y. IsFresh (log t)) (λ granted. false-true granted) refl (k.ranges.fresh (other x));
  };
  standby = λ x. record {
    units = k.ranges.units;
    file = k.ranges.file;
    below = k.ranges.below;
    values = k.ranges.values;
    fresh = sites-after s t x 0 act.StartStandby land.Full (λ y. IsFresh (log t)) (λ granted. false-true granted) refl (k.ranges.fresh (other x));
  };
}
  where
    tick : InRanges s t → (y : Site) → IfSome (hist s (entry s t choice.Tick ∷ t) y) (IsFresh (log t))
    tick ranges site.A = tick-after (hist s t site.A) (IsFresh (log t)) (ranges.fresh site.A)
    tick ranges site.B = tick-after (hist s t site.B) (IsFresh (log t)) (ranges.fresh site.B)

    confirm : (n : ℕ) → InRanges s t → (y : Site) → IfSome (hist s (entry s t (choice.Confirm n) ∷ t) y) (IsFresh (log t))
    confirm n ranges site.A = ranges.fresh site.A
    confirm n ranges site.B = ranges.fresh site.B

-- of no unit, no number and no put at first
pub first-ranges : (s : Scen) → InRanges s []
first-ranges s = record { units = tt; file = tt; below = λ n used. false-true used; fresh = λ x. tt; values = λ unit r before fits. fits }
