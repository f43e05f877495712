-- Silent once seen, of every run.
use Rattle.std.proofs.Common.{arith, true, ◌≡◌, Bool, List, Some, ap, false, refl, sym, ◌∷◌, ◌∙◌}
use Rattle.std.proofs.lemmas.Grind.{common_steps}
use Rattle.xrf_base.specs.declared.site.Site.{Site}
use Rattle.xrf_history.specs.declared.want.Want.{Want}
use Rattle.xrf_history.proofs.Silence.{is_busy, silent-next}
use Rattle.xrf_history.proofs.OwnersWork.{is_owner_act}
use Rattle.xrf_history.specs.Events.{Event}
use Rattle.xrf_history.specs.Progress.{has_seen_taking}
use Rattle.xrf_history.specs.Next.{next}
use Rattle.xrf_trace.specs.declared.entry.Entry.{Entry}
use Rattle.xrf_trace.specs.Runs.{IsRun}
use Rattle.xrf_trace.specs.Scenario.{Scen, settings}
use Rattle.xrf_trace.specs.Jobs.{hist}
use Rattle.xrf_trace.proofs.Paths.{history-at}
use Rattle.xrf_trace.specs.Throughs.{is_update}
use Rattle.xrf_trace.proofs.AtSites.{made-at, where-at, each-of}
use Rattle.xrf_trace.specs.Words.{who_at}
use Rattle.xrf_trace.specs.SilentOnceSeen.{IsSilent, SilentOnceSeen}
use Rattle.xrf_owner_law.proofs.OneUpdaterLaw.{update-act, update-want, updates}

-- an act of an owner alone is one that a silent owner makes no more
owners-busy : (w : Want) → is_owner_act w ≡ true → is_busy w ≡ true
owners-busy w is = grind (arith, common_steps)

-- an update is by a job that has seen no taking
silent-act : (s : Scen) (t : List Entry) (e : Entry) (x : Site) (h : List Event) (b : Bool) → IsRun s (e ∷ t) → is_update e.act ≡ true
    → e.who ≡ who_at x → hist s t x ≡ Some h
    → has_seen_taking h ≡ b → b ≡ false
silent-act s t e x h false is updating who here seen = refl
silent-act s t e x h true is updating who here seen =
    let p = settings s x in
    let made = made-at s t e x h is (update-act e.act updating) who here in
    let wanted = update-want s t x h (next p h) (ap updates made.made ∙ updating) in
    absurd (cc (sym (silent-next p h (history-at s t x h is.0 here) seen) ∙ owners-busy (next p h) wanted.0))

-- so is each update of a run
is-silent : (s : Scen) (t : List Entry) (e : Entry) → IsRun s (e ∷ t) → IsSilent s t e
is-silent s t e is =
    where-at s t e (is_update e.act) (λ x h. has_seen_taking h ≡ false)
    (λ updating x h who here. silent-act s t e x h (has_seen_taking h) is updating who here refl)

-- **silent once seen, of every run**
pub silent-once-seen : (s : Scen) (t : List Entry) → IsRun s t → SilentOnceSeen s t
silent-once-seen s t is = each-of s (IsSilent s) (is-silent s) t is
