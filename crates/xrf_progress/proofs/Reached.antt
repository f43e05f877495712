-- Served alone, the restart is reached.
use Rattle.std.proofs.Common.{◌≡◌, ℕ, zero, suc, ◌+◌, ◌≤◌, ◌&&◌, ◌⊎◌, inl, inr, not, nat_lt, Bool, true, false, List, ◌∷◌, ◌++◌, Option, Some, None, is_none, Ok, Result, refl, ap, ◌∙◌, sym, subst, arith, if◌then◌else◌}
use Rattle.xrf_base.specs.declared.site.Site.{Site}
use Rattle.xrf_base.specs.declared.site.Site.TheVariants as site
use Rattle.xrf_history.specs.Events.{Event}
use Rattle.xrf_history.specs.Holding.{number}
use Rattle.xrf_history.specs.Next.{next}
use Rattle.xrf_setup.specs.declared.choice.Choice.TheVariants as choice
use Rattle.xrf_trace.specs.declared.entry.Entry.{Entry}
use Rattle.xrf_trace.specs.declared.entry.Act.{Act}
use Rattle.xrf_trace.specs.declared.entry.Act.TheVariants as act
use Rattle.xrf_trace.specs.declared.entry.Land.TheVariants as land
use Rattle.xrf_trace.specs.declared.entry.Refused.{Refused}
use Rattle.xrf_trace.specs.Scenario.{Scen, settings, other}
use Rattle.xrf_trace.specs.Words.{is_of, who_at, now, tick_after, holds_reserve}
use Rattle.xrf_trace.specs.Jobs.{hist, after_other, after_own}
use Rattle.xrf_trace.specs.Acts.{next_act, is_act}
use Rattle.xrf_trace.specs.Entries.{entry, entry_at, act_or_none}
use Rattle.xrf_trace.specs.Refusals.{refusal}
use Rattle.xrf_trace.specs.Runs.{IsRun, outcome_of}
use Rattle.xrf_trace.proofs.JobSteps.{is-own}
use Rattle.xrf_progress.specs.Serving.{Serves, serves, speaks, is_tick, acts_of, has_restart}
use Rattle.xrf_progress.specs.Blocking.{WaitsForReserve}
use Rattle.xrf_progress.specs.Takeovers.{through_acts, takeover_acts}
use Rattle.xrf_progress.specs.Alone.{choice_for, served, AreAccepted, TakeoversAreReached, ThroughsAreReached, through_choices, takeover_choices}
use Rattle.xrf_progress.proofs.Blocks.{steps-never-block, holder-of, job-of}
use Rattle.xrf_progress.proofs.Coming.{takeovers-come, takeovers-end, throughs-come, throughs-end}

-- an entry of a site is of it
pub of-own : (x : Site) → is_of (who_at x) x ≡ true
of-own site.A = refl
of-own site.B = refl

-- and not of the other
of-other : (x : Site) → is_of (who_at x) (other x) ≡ false
of-other site.A = refl
of-other site.B = refl

-- where the other site has no job nobody else holds the reserve
none-holds : (s : Scen) (t : List Entry) (x : Site) → IsRun s t → hist s t x ≡ None → holds_reserve t x ≡ false
none-holds s t x is none = by (holds_reserve t x) refl
  where
    by : (b : Bool) → holds_reserve t x ≡ b → b ≡ false
    by false free = refl
    by true holds = let job = holder-of s t x is holds in absurd (cc (sym none ∙ job.1))

-- so its step is accepted
step-accepted : (s : Scen) (t : List Entry) (x : Site) (a : Act) → IsRun s t → hist s t (other x) ≡ None → next_act s t x ≡ Some a
    → refusal s t (choice.Step x) ≡ None
step-accepted s t x a is none next_is = by (steps-never-block s t x a is next_is)
  where
    by : (refusal s t (choice.Step x) ≡ None) ⊎ WaitsForReserve s t x a → refusal s t (choice.Step x) ≡ None
    by (inl ok) = ok
    by (inr waits) = absurd (cc (sym (none-holds s t (other x) is none) ∙ waits.1))

-- an act of a job is no TICK
pub act-ticks : (a : Act) (n : ℕ) → is_act a ≡ true → tick_after a n ≡ n
act-ticks act.Tick n acts = absurd (cc)
act-ticks _ n acts = refl

-- where no job is none comes by an entry of the other site
none-after : (a : Act) → after_other a None ≡ None
none-after act.Tick = refl
none-after _ = refl

-- an entry that is another
ok-same : (a b : Entry) → a ≡ b → ◌≡◌ {A = Result Entry Refused} (Ok a) (Ok b)
ok-same a b is = ap (λ (e : Entry). Ok e) is

-- what such a choice makes: an entry of a run that serves the site, and is counted
record Made (s : Scen) (t : List Entry) (x : Site) (e : Entry) : Type 0 where
  pub run : IsRun s (e ∷ t)
  pub serves : serves s t x e ≡ true
  pub none : hist s (e ∷ t) (other x) ≡ None
  pub counted : (part : List Entry) → acts_of x (e ∷ part) + tick_after e.act (now part) ≡ acts_of x part + now part + 1

-- it is made
made : (s : Scen) (t : List Entry) (x : Site) → IsRun s t → hist s t (other x) ≡ None → Made s t x (entry s t (choice_for x (next_act s t x)))
made s t x is none = by (next_act s t x) refl
  where
    by : (o : Option Act) → next_act s t x ≡ o → Made s t x (entry s t (choice_for x o))
    by None none_next = record {
      run = (is, (choice.Tick, refl));
      serves = ap (λ (o : Option Act). is_none o) none_next;
      none = ap (λ (job : Option (List Event)). after_other act.Tick job) none;
      counted = λ part. omega arith;
    }
    by (Some a) next_is =
        let job = job-of s t x a next_is in
        let acts = is-own s t x job.0 (next (settings s x) job.0) a job.2 in
        let same : entry s t (choice.Step x) ≡ entry_at s t x a land.Full = ap (λ (o : Option Act). entry_at s t x (act_or_none o) land.Full) next_is in
        subst (Made s t x) (sym same) (record {
          run = (is, (choice.Step x, ap (λ (r : Option Refused). outcome_of s t (choice.Step x) r) (step-accepted s t x a is none next_is) ∙ ok-same (entry s t (choice.Step x)) (entry_at s t x a land.Full) same));
          serves = serving (is_of (who_at x) x) (of-own x) (is_act a) acts (if is_tick a then is_none (next_act s t x) else not (speaks (entry_at s t x a land.Full)));
          none = away (is_of (who_at x) (other x)) (of-other x);
          counted = λ part. count (is_of (who_at x) x) (of-own x) part (act-ticks a (now part) acts);
        })
      where
        serving : (b : Bool) → b ≡ true → (c : Bool) → c ≡ true → (d : Bool) → (if b then c && true else d) ≡ true
        serving true is_b true is_c d = refl
        serving true is_b false is_c d = absurd (cc)
        serving false is_b c is_c d = absurd (cc)

        away : (b : Bool) → b ≡ false
            → ◌≡◌ {A = Option (List Event)} (elim b [ true ↦ after_own s t (other x) (now t) a land.Full (hist s t (other x)) | false ↦ after_other a (hist s t (other x)) ]) None
        away true is_b = absurd (cc)
        away false is_b = ap (after_other a) none ∙ none-after a

        count : (b : Bool) → b ≡ true → (part : List Entry) → tick_after a (now part) ≡ now part
            → (if b then acts_of x part + 1 else acts_of x part) + tick_after a (now part) ≡ acts_of x part + now part + 1
        count true is_b part same_tick = omega (arith, same_tick)
        count false is_b part same_tick = absurd (cc)

-- the part that so many choices make
record Reaches (s : Scen) (t : List Entry) (x : Site) (k : ℕ) : Type 0 where
  pub run : IsRun s (served s t x k ++ t)
  pub serves : Serves s t x (served s t x k)
  pub none : hist s (served s t x k ++ t) (other x) ≡ None
  pub counted : acts_of x (served s t x k) + now (served s t x k) ≡ k

-- so many are made
reaches : (s : Scen) (t : List Entry) (x : Site) (k : ℕ) → IsRun s t → hist s t (other x) ≡ None → Reaches s t x k
reaches s t x zero is none = record { run = is; serves = tt; none = none; counted = refl }
reaches s t x (suc k) is none = more (reaches s t x k is none)
  where
    more : Reaches s t x k → Reaches s t x (suc k)
    more before =
        let m = made s (served s t x k ++ t) x before.run before.none in
        let count = m.counted (served s t x k) in
        record { run = m.run; serves = (before.serves, m.serves); none = m.none; counted = omega (arith, count, before.counted) }

-- of so many choices more are acts, or more are TICKs
either : (a n k m l : ℕ) → a + n ≡ k → m + l ≤ k + 1 → (m ≤ a) ⊎ (l ≤ n)
either a n k m l sum many = by (nat_lt a m) refl
  where
    by : (b : Bool) → nat_lt a m ≡ b → (m ≤ a) ⊎ (l ≤ n)
    by true less = inr (grind (arith, less, sum, many))
    by false more = inl (grind (arith, more))

-- **each of these choices is accepted**
pub are-accepted : AreAccepted
are-accepted s t x k is none = (reaches s t x k is none).run

-- **a takeover is reached**
pub takeovers-are-reached : TakeoversAreReached
takeovers-are-reached s t x h ranges is none can over =
    by (either (acts_of x part) (now part) (takeover_choices s t x) (takeover_acts s t x) ((settings s x).adi + 3) r.counted (omega arith))
  where
    part : List Entry
    part = served s t x (takeover_choices s t x)

    r : Reaches s t x (takeover_choices s t x)
    r = reaches s t x (takeover_choices s t x) is none

    by : (takeover_acts s t x ≤ acts_of x part) ⊎ ((settings s x).adi + 3 ≤ now part) → has_restart x (number h) part ≡ true
    by (inl acts) = takeovers-end s t part x h ranges r.run can over r.serves acts
    by (inr late) = takeovers-come s t part x h r.run can over r.serves late

-- **and so is a through**
pub throughs-are-reached : ThroughsAreReached
throughs-are-reached s t x h ranges is none can =
    by (either (acts_of x part) (now part) (through_choices s t x) (through_acts s t x) 2 r.counted (omega arith))
  where
    part : List Entry
    part = served s t x (through_choices s t x)

    r : Reaches s t x (through_choices s t x)
    r = reaches s t x (through_choices s t x) is none

    by : (through_acts s t x ≤ acts_of x part) ⊎ (2 ≤ now part) → has_restart x (number h) part ≡ true
    by (inl acts) = throughs-end s t part x h ranges r.run can r.serves acts
    by (inr late) = throughs-come s t part x h r.run can r.serves late
