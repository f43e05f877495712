-- A round, and other work but a line of the command list, is not begun where anything is due.
use Rattle.std.proofs.Common.{◌≡◌, ◌+◌, Bool, true, false, ◌||◌, is_some, List, Option, Some, None, refl, ap, ◌∙◌, arith, if◌then◌else◌}
use Rattle.std.proofs.lemmas.Grind.{common_steps}
use Rattle.xrf_exit.specs.declared.Notice.{Notice}
use Rattle.xrf_ctl.specs.declared.parts.OwnerState.{OwnerState}
use Rattle.xrf_ctl.specs.declared.parts.Cause.{Cause}
use Rattle.xrf_history.specs.declared.settings.Settings.{Settings}
use Rattle.xrf_history.specs.declared.want.EndWhy.{EndWhy}
use Rattle.xrf_history.specs.declared.want.EndWhy.TheVariants as end
use Rattle.xrf_history.specs.declared.want.Want.{Want}
use Rattle.xrf_history.specs.declared.want.Want.TheVariants as want
use Rattle.xrf_history.specs.Events.{Event}
use Rattle.xrf_history.specs.Holding.{is_owner}
use Rattle.xrf_history.specs.Notices.{notice}
use Rattle.xrf_history.specs.Reserving.{sign_off_due, drop_due, leaves, start_due, through_due}
use Rattle.xrf_history.specs.Rows.{owner_row, owner_works, alternate_next, alternate_row, alternate_starts, alternate_tracks, lines_left, lines_issued}
use Rattle.xrf_history.specs.Next.{next}
use Rattle.xrf_conduct_law.proofs.Begun.{is_begun, begins-at}

-- a round, and other work but a line of the command list
abbrev pub starts_work : Want → Bool
starts_work (want.Clt k) = false
starts_work w = is_begun w

-- it is begun at a boundary
starts-begun : (w : Want) → starts_work w ≡ true → is_begun w ≡ true
starts-begun (want.Clt k) starts = refl
starts-begun w starts = starts

-- an owner at work begins nothing where a drop is due
works-begins : (p : Settings) (h : List Event) (b : Bool) → drop_due h ≡ b → starts_work (owner_works p h) ≡ true → b ≡ false
works-begins p h false drop begun = refl
works-begins p h true drop begun = grind (arith, common_steps)

-- an owner begins nothing where a sign-off, a drop or a notice is due
owner-begins : (p : Settings) (h : List Event) (state : Option OwnerState) (told : Option Notice) → starts_work (owner_row p h state told) ≡ true
    → (is_some state || drop_due h || is_some told) ≡ false
owner-begins p h (Some state) told begun = absurd (cc)
owner-begins p h None (Some told) begun = absurd (cc)
owner-begins p h None None begun = by (drop_due h) (works-begins p h (drop_due h) refl begun)
  where
    by : (b : Bool) → b ≡ false → (b || false) ≡ false
    by false none = refl
    by true none = absurd (cc)

-- an alternate that neither leaves nor starts begins nothing where a through is due
tracks-begins : (p : Settings) (h : List Event) (b : Bool) → through_due h ≡ b → starts_work (alternate_tracks p h) ≡ true → b ≡ false
tracks-begins p h false through begun = refl
tracks-begins p h true through begun = grind (arith, common_steps)

-- nor where a start is due
starts-begins : (p : Settings) (h : List Event) (start : Option Cause) → starts_work (alternate_starts p h start) ≡ true
    → (is_some start || through_due h) ≡ false
starts-begins p h (Some cause) begun = absurd (cc)
starts-begins p h None begun = tracks-begins p h (through_due h) refl begun

-- nor where a leave is due
row-begins : (p : Settings) (h : List Event) (reason : Option EndWhy) → starts_work (alternate_row p h reason) ≡ true
    → (is_some reason || is_some (start_due h) || through_due h) ≡ false
row-begins p h None begun = starts-begins p h (start_due h) begun
row-begins p h (Some end.Dropped) begun = absurd (cc)
row-begins p h (Some _) begun = absurd (cc)

-- an alternate begins nothing where a leave, a start or a through is due
alternate-begins : (p : Settings) (h : List Event) → starts_work (alternate_next p h) ≡ true
    → (is_some (leaves h) || is_some (start_due h) || through_due h) ≡ false
alternate-begins p h begun = by (lines_left p h) begun
  where
    by : (b : Bool) → starts_work (if b then want.Clt (lines_issued h + 1) else alternate_row p h (leaves h)) ≡ true
        → (is_some (leaves h) || is_some (start_due h) || through_due h) ≡ false
    by true begun = absurd (cc)
    by false begun = row-begins p h (leaves h) begun

-- what is due of an owner, and of an alternate that has abandoned nothing
abbrev pub owner_due : List Event → Bool
owner_due h = is_some (sign_off_due h) || drop_due h || is_some (notice h)

-- the same of an alternate
abbrev pub alternate_due : List Event → Bool
alternate_due h = is_some (leaves h) || is_some (start_due h) || through_due h

-- **a round, or other work, is next where nothing is due**
pub nothing-due : (p : Settings) (h : List Event) (w : Want) → next p h ≡ w → starts_work w ≡ true
    → elim (is_owner h) [ true ↦ owner_due h | false ↦ alternate_due h ] ≡ false
nothing-due p h w is starts = by (is_owner h) (ap starts_work (begins-at p h w is (starts-begun w starts)) ∙ starts)
  where
    by : (b : Bool) → starts_work (if b then owner_row p h (sign_off_due h) (notice h) else alternate_next p h) ≡ true
        → elim b [ true ↦ owner_due h | false ↦ alternate_due h ] ≡ false
    by true begun = owner-begins p h (sign_off_due h) (notice h) begun
    by false begun = alternate-begins p h begun
