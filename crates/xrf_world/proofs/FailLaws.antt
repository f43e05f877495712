-- What a FAIL asks of a World, and what it leaves: from the laws.
use Rattle.std.proofs.Common.{◌≡◌, ◌<◌, ◌+◌, ℕ, Bool, true, false, ◌∙◌, sym, ap, subst, refl, arith, is_some, List, ◌∷◌, length, Option, Some, None, IfSome, Ok, Err}
use Rattle.std.proofs.lemmas.Grind.{common_steps}
use Rattle.xrf_base.specs.declared.site.Site.{Site}
use Rattle.xrf_setup.specs.declared.choice.Choice.TheVariants as choice
use Rattle.xrf_setup.specs.declared.choice.Landing.{Landing}
use Rattle.xrf_setup.specs.declared.choice.Landing.TheVariants as landing
use Rattle.xrf_cavm.specs.declared.decisions.Decided.{Decided}
use Rattle.xrf_history.specs.declared.answer.Answer.TheVariants as answer
use Rattle.xrf_history.specs.declared.settings.Settings.{Settings}
use Rattle.xrf_history.specs.declared.want.Want.{Want}
use Rattle.xrf_history.specs.declared.want.Want.TheVariants as want
use Rattle.xrf_history.specs.Accepting.{accepts}
use Rattle.xrf_history.specs.Answers.{event, fits, may_fail as wanted_may_fail}
use Rattle.xrf_history.specs.Events.{ActFailed, Event}
use Rattle.xrf_history.specs.Holding.{number}
use Rattle.xrf_history.specs.Next.{next}
use Rattle.xrf_history.specs.Reserving.{last_decision}
use Rattle.xrf_trace.specs.declared.entry.Act.{Act}
use Rattle.xrf_trace.specs.declared.entry.Entry.{Entry}
use Rattle.xrf_trace.specs.declared.entry.Land.TheVariants as land
use Rattle.xrf_trace.specs.declared.entry.Refused.{Refused}
use Rattle.xrf_trace.specs.declared.entry.Refused.TheVariants.{NotEnabled}
use Rattle.xrf_trace.specs.Acts.{act_of, next_act, may_fail}
use Rattle.xrf_trace.specs.Entries.{inc_of_act}
use Rattle.xrf_trace.specs.Jobs.{hist, after_own}
use Rattle.xrf_trace.specs.Refusals.{is_next, unless, torn_refusal}
use Rattle.xrf_trace.specs.Runs.{IsRun, outcome, outcome_of}
use Rattle.xrf_trace.specs.Scenario.{Scen, settings, work}
use Rattle.xrf_trace.specs.Words.{is_item, now, items_taken, who_at}
use Rattle.xrf_trace.proofs.JobSteps.{want-tried}
use Rattle.xrf_owner_law.specs.Known.{IsKnown}
use Rattle.xrf_owner_law.proofs.KnownLaw.{known}
use Rattle.xrf_world.specs.Making.{MayMake, IsFailed, inc_of_want}
use Rattle.xrf_world.specs.Standing.{Goes}
use Rattle.xrf_world.specs.Wants as wants
use Rattle.xrf_world.specs.Seats.{after_want}
use Rattle.xrf_world.specs.Wants.{wanted, act_of_want}
use Rattle.xrf_world.proofs.ActLaws.{NextAct, next-there, wanted-is, inc-same, own-hist, or-right, item-left, own-site, made_entry, entry-next, outcome-is}
use Rattle.xrf_world.proofs.FollowLaws.{of-item, of-act, can-follow}
use Rattle.xrf_world.proofs.TimeLaws.{IsBy, time-of}
use Rattle.xrf_world.proofs.WantLaws.{fail-same, fails-same}

-- An act that fails is one that is neither a DECIDE nor an ITEM, and after which the job goes on.
torn-fails : (w : Want) → is_some (wants.torn_size w) ≡ true → wanted_may_fail w ≡ true
torn-fails (want.MsgClose k) torn = refl
torn-fails (want.MsgBody k message) torn = refl
torn-fails (want.MsgOpen k message) torn = refl
torn-fails (want.LogClose p) torn = refl
torn-fails (want.LogBody p rec) torn = refl
torn-fails (want.LogOpen p rec) torn = refl
torn-fails (want.KpClose k) torn = refl
torn-fails (want.KpBody k keypoint) torn = refl
torn-fails (want.KpOpen k keypoint) torn = refl
torn-fails (want.FileWrite unit k value) torn = refl
torn-fails (want.Undo k before) torn = refl
torn-fails _ torn = absurd (cc)

pub unless-met : (b : Bool) (why : Refused) → unless b why ≡ None → b ≡ true
unless-met true why ok = refl
unless-met false why ok = absurd (cc)

pub torn-some : (bytes : List ℕ) (size : Option ℕ) → torn_refusal bytes size ≡ None → is_some size ≡ true
torn-some bytes None ok = absurd (cc)
torn-some bytes (Some n) ok = refl

fail-met : (cut : Landing) (w : Want) → wants.fail_refusal cut w ≡ None → wanted_may_fail w ≡ true
fail-met landing.Nothing w ok = unless-met (wanted_may_fail w) NotEnabled ok
fail-met landing.All w ok = torn-fails w (unless-met (is_some (wants.torn_size w)) NotEnabled ok)
fail-met (landing.Torn bytes) w ok = torn-fails w (torn-some bytes (wants.torn_size w) ok)

act-fails : (s : Scen) (t : List Entry) (x : Site) (h : List Event) (w : Want) (n : ℕ) (d : Option Decided)
    → IfSome (act_of s t x h w) (λ a. wanted_may_fail w ≡ true → act_of_want n d w ≡ a)
act-fails s t x h want.Nothing n d = tt
act-fails s t x h (want.Exit told) n d = tt
act-fails s t x h want.Item n d = of-item s t x (λ a. wanted_may_fail want.Item ≡ true → act_of_want n d want.Item ≡ a) (λ may. absurd (cc))
act-fails s t x h want.Decide n d = λ may. absurd (cc)
act-fails s t x h _ n d = λ may. refl

goes-on : (w : Want) (h : List Event) → wanted_may_fail w ≡ true → after_want w h ≡ Some h
goes-on (want.Ended reason) h may = absurd (cc)
goes-on _ h may = refl

fits-failed : (p : Settings) (h : List Event) (at : ℕ) (w : Want) → wanted_may_fail w ≡ true → fits p h w (answer.Failed at) ≡ true
fits-failed p h at w may = grind (arith, common_steps)

abbrev may-fail : (s : Scen) (t : List Entry) (x : Site) (h : List Event) (a : Act) (cut : Landing) → Goes s t → IsRun s (made_entry s t x h a (land.Fail cut) ∷ t)
    → hist s t x ≡ Some h → act_of s t x h (next (settings s x) h) ≡ Some a → may_fail a ≡ true → wanted_may_fail (next (settings s x) h) ≡ true
    → MayMake s t x (next (settings s x) h) (land.Fail cut) (answer.Failed (now t))
may-fail s t x h a cut g is there wants fails may =
    let w : Want = next (settings s x) h in
    let time : IsBy (now t) (length t) h = time-of s t x h g.run there in
    let k : IsKnown s t = known s t g.run (omega (arith, g.few)) in
    record {
      scen = g.scen;
      job = h;
      entry = made_entry s t x h a (land.Fail cut);
      there = there;
      handed = record {
        fitting = or-right (accepts (settings s x) h (answer.Failed (now t))) (fits (settings s x) h w (answer.Failed (now t))) (fits-failed (settings s x) h (now t) w may);
        few = omega (arith, time.few, g.few);
        in_time = tt;
        room = tt;
        small_keys = tt;
      };
      is_entry =
          ap (λ (i : ℕ). record {
            tick = now t;
            who = who_at x;
            inc = i;
            act = act_of_want (items_taken t x + 1)
                (last_decision (event (settings s x) h (answer.Failed (now t)) ∷ h)) w;
            land = land.Fail cut;
          })
          (of-act s t x h a (λ one. inc_of_want w (number h) ≡ inc_of_act one h) (inc-same s t x h w (λ granted. (k.held x h there granted).some)) wants)
          ∙ ap (λ (one : Act). record { tick = now t; who = who_at x; inc = inc_of_act a h; act = one; land = land.Fail cut })
          (of-act s t x h a (λ one. wanted_may_fail w ≡ true → act_of_want (items_taken t x + 1)
          (last_decision (event (settings s x) h (answer.Failed (now t)) ∷ h)) w ≡ one)
          (act-fails s t x h w (items_taken t x + 1) (last_decision (event (settings s x) h (answer.Failed (now t)) ∷ h))) wants may);
      after = own-hist s t x (inc_of_act a h) a (land.Fail cut)
          ∙ ap (after_own s t x (now t) a (land.Fail cut)) there
          ∙ ap (λ (one : Want). Some (ActFailed one (now t) ∷ h)) (want-tried s t x h w a wants fails)
          ∙ sym (goes-on w (ActFailed w (now t) ∷ h) may);
      records = record {
        follow = can-follow s t (made_entry s t x h a (land.Fail cut)) g.scen is g.few;
        items = record {
          own = own-site x;
          left = of-act s t x h a (λ one. is_item one ≡ true → items_taken t x < length (work s x)) (item-left s t x h w) wants;
          gives = refl;
        };
      };
    }

pub fail-made : (s : Scen) (t : List Entry) (x : Site) (cut : Landing) → Goes s t → wants.fail_refusal cut (wanted s t x) ≡ None
    → IsFailed s t x (wanted s t x) cut (choice.Fail x cut)
fail-made s t x cut g ok =
    let met : is_next may_fail (next_act s t x) ≡ true = fails-same s t x ∙ fail-met cut (wanted s t x) ok in
    let n : NextAct s t x may_fail = next-there s t x may_fail met in
    let out : outcome s t (choice.Fail x cut) ≡ Ok (made_entry s t x n.job n.made (land.Fail cut)) =
    outcome-is s t (choice.Fail x cut) None (made_entry s t x n.job n.made (land.Fail cut)) (fail-same s t x cut ∙ ok) refl
    (entry-next s t x n.job n.made (land.Fail cut) n.there n.wants) in
    let is : next (settings s x) n.job ≡ wanted s t x = wanted-is s t x n.job n.made n.there n.wants in
    subst (λ (w : Want). IsFailed s t x w cut (choice.Fail x cut)) is (record {
      may = may-fail s t x n.job n.made cut g (g.run, (choice.Fail x cut, out)) n.there n.wants n.met
          (subst (λ (w : Want). wanted_may_fail w ≡ true) (sym is) (fail-met cut (wanted s t x) ok));
      is = out;
    })

pub fail-refused : (s : Scen) (t : List Entry) (x : Site) (cut : Landing) (why : Refused) → wants.fail_refusal cut (wanted s t x) ≡ Some why
    → outcome s t (choice.Fail x cut) ≡ Err why
fail-refused s t x cut why refused = ap (outcome_of s t (choice.Fail x cut)) (fail-same s t x cut ∙ refused)
