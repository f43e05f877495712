-- What a STOP asks of a World, and what it leaves: from the laws.
use Rattle.std.proofs.Common.{◌≡◌, ◌≤◌, ◌+◌, ℕ, Bool, true, false, ◌∙◌, sym, ap, refl, arith, is_some, List, Option, Some, None, Ok, Err}
use Rattle.xrf_base.specs.declared.site.Site.{Site}
use Rattle.xrf_setup.specs.declared.choice.Choice.TheVariants as choice
use Rattle.xrf_setup.specs.declared.choice.Landing.{Landing}
use Rattle.xrf_setup.specs.declared.choice.Landing.TheVariants as landing
use Rattle.xrf_history.specs.declared.want.Want.{Want}
use Rattle.xrf_history.specs.declared.want.Want.TheVariants as want
use Rattle.xrf_history.specs.Events.{Event}
use Rattle.xrf_history.specs.Holding.{is_granted, number}
use Rattle.xrf_trace.specs.declared.entry.Act.{Act}
use Rattle.xrf_trace.specs.declared.entry.Entry.{Entry}
use Rattle.xrf_trace.specs.declared.entry.Land.TheVariants as land
use Rattle.xrf_trace.specs.declared.entry.Refused.{Refused}
use Rattle.xrf_trace.specs.declared.entry.Refused.TheVariants.{NotEnabled}
use Rattle.xrf_trace.specs.Acts.{act_of, next_act}
use Rattle.xrf_trace.specs.Entries.{act_cut, entry_at, inc_at, inc_of_act}
use Rattle.xrf_trace.specs.Jobs.{hist}
use Rattle.xrf_trace.specs.Runs.{outcome, outcome_of}
use Rattle.xrf_trace.specs.Scenario.{Scen, settings}
use Rattle.xrf_trace.specs.Words.{is_item, now, items_taken, who_at}
use Rattle.xrf_owner_law.specs.Known.{IsKnown}
use Rattle.xrf_owner_law.proofs.KnownLaw.{known}
use Rattle.xrf_world.specs.Making.{IsStopped, cut_of_want, inc_of_want}
use Rattle.xrf_world.specs.Seats.{want_of}
use Rattle.xrf_world.specs.Standing.{Goes}
use Rattle.xrf_world.specs.Wants as wants
use Rattle.xrf_world.specs.Wants.{while_left, is_item_left, wanted, wanted_by, act_of_want}
use Rattle.xrf_world.proofs.ActLaws.{inc-granted, own-hist, own-site, outcome-is}
use Rattle.xrf_world.proofs.FailLaws.{torn-some, unless-met}
use Rattle.xrf_world.proofs.FollowLaws.{can-follow}
use Rattle.xrf_world.proofs.WantLaws.{by-item, by-want, holds-of-wanted, stop-same}
use Rattle.xrf_history.proofs.Holding.{number-none}

-- the act that is cut off
cut-act : (s : Scen) (t : List Entry) (x : Site) (h : List Event) (w : Want) → act_cut (act_of s t x h w) ≡ cut_of_want (while_left w (is_item_left s t x))
cut-act s t x h want.Item = by-item (items_taken t x + 1) act_cut cut_of_want refl refl (is_item_left s t x)
cut-act s t x h _ = refl

cut-same : (s : Scen) (t : List Entry) (x : Site) → act_cut (next_act s t x) ≡ cut_of_want (wanted s t x)
cut-same s t x = by-want s t x act_cut cut_of_want refl (cut-act s t x)

-- its incarnation
inc-cut : (w : Want) (h : List Event) → (is_granted h ≡ true → 1 ≤ number h) → inc_of_want w (number h) ≡ inc_of_act (cut_of_want w) h
inc-cut (want.CtlWrite written) h some = inc-granted (number h) written.last (is_granted h) some (number-none h)
inc-cut _ h some = refl

-- it is no ITEM
cut-item : (w : Want) → is_item (cut_of_want w) ≡ false
cut-item (want.CtlWrite written) = refl
cut-item _ = refl

-- a job is there
job-if-wanted : (s : Scen) (t : List Entry) (x : Site) (test : Want → Bool) → test want.Nothing ≡ false → test (wanted s t x) ≡ true → is_some (hist s t x) ≡ true
job-if-wanted s t x test none met = by (hist s t x) met
  where
    by : (job : Option (List Event)) → test (wanted_by s t x job) ≡ true → is_some job ≡ true
    by None ok = absurd (cc)
    by (Some h) ok = refl

job-there : (s : Scen) (t : List Entry) (x : Site) (cut : Landing) → wants.stop_refusal cut (is_some (hist s t x)) (wanted s t x) ≡ None
    → is_some (hist s t x) ≡ true
job-there s t x landing.Nothing ok = unless-met (is_some (hist s t x)) NotEnabled ok
job-there s t x landing.All ok = job-if-wanted s t x wants.is_write refl (unless-met (wants.is_write (wanted s t x)) NotEnabled ok)
job-there s t x (landing.Torn bytes) ok =
    job-if-wanted s t x (λ w. is_some (wants.torn_size w)) refl (torn-some bytes (wants.torn_size (wanted s t x)) ok)

-- the entry
entry-stop : (s : Scen) (t : List Entry) (x : Site) (cut : Landing) (h : List Event) → hist s t x ≡ Some h → (is_granted h ≡ true → 1 ≤ number h)
    → entry_at s t x (act_cut (next_act s t x)) (land.Stop cut)
    ≡ record { tick = now t; who = who_at x; inc = inc_of_want (wanted s t x) (number h); act = cut_of_want (wanted s t x); land = land.Stop cut }
entry-stop s t x cut h there some =
    ap (λ (a : Act). entry_at s t x a (land.Stop cut)) (cut-same s t x)
    ∙ ap (λ (job : Option (List Event)). record { tick = now t; who = who_at x; inc = inc_at (cut_of_want (wanted s t x)) job; act = cut_of_want (wanted s t x); land = land.Stop cut }) there
    ∙ ap (λ (i : ℕ). record { tick = now t; who = who_at x; inc = i; act = cut_of_want (wanted s t x); land = land.Stop cut }) (sym (inc-cut (wanted s t x) h some))

-- **STOP**
of-item : (s : Scen) (t : List Entry) (x : Site) (cut : Landing) → IsStopped s t x want.Nothing cut → IsStopped s t x want.Item cut
of-item s t x cut is = record {
  job = is.job;
  entry = is.entry;
  there = is.there;
  is_entry = is.is_entry;
  after = is.after;
  records = is.records;
  is = is.is;
}

stop-wanted : (s : Scen) (t : List Entry) (x : Site) (cut : Landing) → Goes s t → wants.stop_refusal cut (is_some (hist s t x)) (wanted s t x) ≡ None
    → IsStopped s t x (wanted s t x) cut
stop-wanted s t x cut g ok = by (hist s t x) refl (job-there s t x cut ok)
  where
    by : (job : Option (List Event)) → hist s t x ≡ job → is_some job ≡ true → IsStopped s t x (wanted s t x) cut
    by None there some = absurd (cc)
    by (Some h) there some =
        let k : IsKnown s t = known s t g.run (omega (arith, g.few)) in
        let e : Entry = record { tick = now t; who = who_at x; inc = inc_of_want (wanted s t x) (number h); act = cut_of_want (wanted s t x); land = land.Stop cut } in
        let out : outcome s t (choice.Stop x cut) ≡ Ok e =
        outcome-is s t (choice.Stop x cut) None e (stop-same s t x cut (is_some (hist s t x)) ∙ ok) refl
        (entry-stop s t x cut h there (λ granted. (k.held x h there granted).some)) in
        record {
          job = h;
          entry = e;
          there = there;
          is_entry = refl;
          after = own-hist s t x (inc_of_want (wanted s t x) (number h)) (cut_of_want (wanted s t x)) (land.Stop cut);
          records = record {
            follow = can-follow s t e g.scen (g.run, (choice.Stop x cut, out)) g.few;
            items = record { own = own-site x; left = λ is. absurd (let none : is_item (cut_of_want (wanted s t x)) ≡ false = cut-item (wanted s t x) in cc); gives = refl };
          };
          is = out;
        }

pub stop-made : (s : Scen) (t : List Entry) (x : Site) (cut : Landing) (w : Want) → Goes s t → w ≡ want_of (settings s x) (hist s t x)
    → wants.stop_refusal cut (is_some (hist s t x)) (wanted s t x) ≡ None → IsStopped s t x w cut
stop-made s t x cut w g is ok = holds-of-wanted (λ (one : Want). IsStopped s t x one cut) (of-item s t x cut) s t x w is (stop-wanted s t x cut g ok)

pub stop-refused : (s : Scen) (t : List Entry) (x : Site) (cut : Landing) (why : Refused)
    → wants.stop_refusal cut (is_some (hist s t x)) (wanted s t x) ≡ Some why → outcome s t (choice.Stop x cut) ≡ Err why
stop-refused s t x cut why refused = ap (outcome_of s t (choice.Stop x cut)) (stop-same s t x cut (is_some (hist s t x)) ∙ refused)
