-- The updates of entries that write no control record are those of the owner before them.
use Rattle.std.proofs.Common.{◌≡◌, Bool, true, false, List, [], ◌∷◌, ◌++◌, Option, refl, ◌∙◌, ap}
use Rattle.xrf_ctl.specs.declared.parts.Owner.{Owner}
use Rattle.xrf_ctl.specs.Control.{ControlRecord}
use Rattle.xrf_trace.specs.declared.entry.Entry.{Entry}
use Rattle.xrf_trace.specs.declared.entry.Act.{Act}
use Rattle.xrf_trace.specs.declared.entry.Act.TheVariants as act
use Rattle.xrf_trace.specs.declared.entry.Land.{Land}
use Rattle.xrf_trace.specs.Devices.{control, control_after}
use Rattle.xrf_trace.specs.Throughs.{is_update}
use Rattle.xrf_trace.specs.OneUpdater.{UpdatesAsOwner, running_owner}
use Rattle.xrf_trace.specs.Each.{Each, Where}

abbrev WritesNone : Act → Type 0
WritesNone (act.CtlWrite written) = ⊥
WritesNone _ = Unit {0}

-- the entries write no control record, and update as a given owner
abbrev pub AllBy : Option Owner → List Entry → Type 0
AllBy owner [] = Unit {0}
AllBy owner (e ∷ newer) = AllBy owner newer × WritesNone e.act × Where (is_update e.act) (owner ≡ running_owner e.who e.inc)

kept : (a : Act) (land : Land) (before : ControlRecord) → WritesNone a → control_after a land before ≡ before
kept (act.CtlWrite written) land before none = absurd none
kept _ land before none = refl

-- so the record stays
stays : (owner : Option Owner) (newer older : List Entry) → AllBy owner newer → control (newer ++ older) ≡ control older
stays owner [] older all = refl
stays owner (e ∷ newer) older all = kept e.act e.land (control (newer ++ older)) all.1 ∙ stays owner newer older all.0

update_by : (test : Bool) (found owner made : Option Owner) → found ≡ owner → Where test (owner ≡ made) → Where test (found ≡ made)
update_by true found owner made same is = same ∙ is
update_by false found owner made same is = is

owner_stays : (owner : Option Owner) (newer older : List Entry) → (control older).owner ≡ owner → AllBy owner newer → (control (newer ++ older)).owner ≡ owner
owner_stays owner newer older is all = ap (λ (r : ControlRecord). r.owner) (stays owner newer older all) ∙ is

pub updates_over : (owner : Option Owner) (newer older : List Entry) → (control older).owner ≡ owner → Each UpdatesAsOwner older → AllBy owner newer → Each UpdatesAsOwner (newer ++ older)
updates_over owner [] older is each all = each
updates_over owner (e ∷ newer) older is each all = (
  updates_over owner newer older is each all.0,
  update_by (is_update e.act) (control (newer ++ older)).owner owner (running_owner e.who e.inc) (owner_stays owner newer older is all.0) all.2,
)
