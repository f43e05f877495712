-- A named alternate stays on.
use Rattle.std.proofs.Common.{◌≡◌, ℕ, true, false, List, Option, Some, None, ap, ◌∙◌, sym, arith}
use Rattle.std.proofs.lemmas.Grind.{common_steps}
use Rattle.xrf_ctl.specs.declared.parts.OwnerState.TheVariants.{OffNormal}
use Rattle.xrf_ctl.specs.Control.{ControlRecord}
use Rattle.xrf_cavm.specs.Record.{is_alt, owner_is}
use Rattle.xrf_cavm.specs.Decisions.{decide}
use Rattle.xrf_cavm.specs.declared.decisions.Mode.{Mode}
use Rattle.xrf_cavm.specs.declared.decisions.Decided.TheVariants.{Alternate}
use Rattle.xrf_history.specs.declared.settings.Settings.{Settings}
use Rattle.xrf_history.specs.declared.want.Want.{Want}
use Rattle.xrf_history.specs.declared.want.Want.TheVariants as want
use Rattle.xrf_history.specs.Events.{Event}
use Rattle.xrf_history.specs.Holding.{number}
use Rattle.xrf_history.specs.Looking.{change, record_seen}
use Rattle.xrf_history.specs.Deciding.{mode_of}
use Rattle.xrf_history.specs.Reserving.{end_in}
use Rattle.xrf_history.specs.Next.{inside, next, or_boundary}
use Rattle.xrf_history.proofs.Rounds.{is_rounds, no-rounds}
use Rattle.xrf_history.proofs.Silence.{is_looking_of}
use Rattle.xrf_trace.specs.Scenario.{settings}
use Rattle.xrf_trace.specs.Words.{now}
use Rattle.xrf_trace.specs.Jobs.{known_of}
use Rattle.xrf_trace.specs.Acts.{act_by}
use Rattle.xrf_trace.proofs.TraceActs.{decides-want}
use Rattle.xrf_progress.specs.Staying.{AlternatesStay}
use Rattle.xrf_progress.proofs.Resting.{tracks-granted, tracks-no_owner, tracks-not_started}
use Rattle.xrf_progress.proofs.Decisions.{cause-tracks}
use Rattle.xrf_progress.proofs.Seen.{seen-named, seen-normal}

-- DECIDE stands inside its sequence
decide-inside : (p : Settings) (h : List Event) → next p h ≡ want.Decide → is_looking_of (inside p h) ≡ true
decide-inside p h is = by (inside p h) is
  where
    by : (o : Option Want) → or_boundary p h o ≡ want.Decide → is_looking_of o ≡ true
    by None same = absurd (cc (sym (ap is_rounds same) ∙ no-rounds p h))
    by (Some w) same = ap (λ (v : Want). is_looking_of (Some v)) same

-- by such a record it does not leave
decide-stays : (changed me now : ℕ) (r : ControlRecord) (mode : Mode) → mode.shutdown ≡ false → is_alt r me ≡ true → owner_is r OffNormal ≡ false
    → end_in (Alternate (decide changed r me mode now)) ≡ None
decide-stays changed me now r mode stays named not_normal = grind (arith, common_steps)

-- **a named alternate stays on**
pub alternates-stay : AlternatesStay
alternates-stay s t x h d is here tracks stays named not_normal decides =
    let p = settings s x in
    let granted = tracks-granted h tracks in
    let no_owner = tracks-no_owner h tracks in
    let made = decides-want s t x h (next p h) d (sym (ap (act_by s t x) here) ∙ decides) in
    let looks = decide-inside p h made.0 in
    ap end_in (made.1 ∙ cause-tracks p h (known_of t (record_seen h)) (now t) no_owner (tracks-not_started h tracks))
    ∙ decide-stays (change h) (number h) (now t) (record_seen h) (mode_of p h) stays (seen-named s t x h is here no_owner granted looks named)
    (seen-normal s t x h is here no_owner granted looks named not_normal)
