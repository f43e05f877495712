-- What reading the parts of bytes says of the record that they spell.
use Rattle.std.proofs.Common.{◌≡◌, ◌↔◌, ℕ, List, length, Result, Ok, Err, ap, subst}
use Rattle.xrf_base.specs.Numbers.{AreBytes}
use Rattle.xrf_ctl.specs.Reading.{HasParts}
use Rattle.xrf_ctl.specs.declared.fault.Field.{Field}
use Rattle.xrf_ctl.specs.declared.fault.CtlFault.{CtlFault}
use Rattle.xrf_ctl.specs.Control.{ControlRecord, IsControl}
use Rattle.xrf_ctl.specs.Layout.{Spells}
use Rattle.xrf_ctl.specs.Faults.{IsFault}
use Rattle.xrf_ctl.proofs.Spelling.{parted, spells}
use Rattle.xrf_ctl.proofs.Faults.{no_fault, one_fault}

abbrev pub Read : Type 0
Read = Result ControlRecord CtlFault

abbrev pub found : ControlRecord → Read
found r = Ok r

abbrev pub broken : Field → Read
broken f = Err (record { field = f })

ok_is : (v r : ControlRecord) → found v ≡ found r → v ≡ r
ok_is v r e = cc

abbrev pub parts : ControlRecord → Result ControlRecord Field
parts r = Ok r

pub parts_are : (v r : ControlRecord) → parts v ≡ parts r → v ≡ r
parts_are v r e = cc

abbrev broken_by : CtlFault → Read
broken_by x = Err x

fault_is : (x y : CtlFault) → broken_by x ≡ broken_by y → x ≡ y
fault_is x y e = cc

-- the record of the parts is the one that is spelled
pub read_ok : (b : List ℕ) (v : ControlRecord) → length b ≡ 256 → AreBytes b → IsControl v → HasParts b v
    → ((r : ControlRecord) → HasParts b r → v ≡ r) → (r : ControlRecord) → (found v ≡ found r) ↔ Spells b r
read_ok b v len fits control has only r =
    (λ e. subst (Spells b) (ok_is v r e) (spells b v len fits control has), λ s. let one : v ≡ r = only r (parted b r s) in cc)

-- bytes with a fault spell none
pub not_ok : (b : List ℕ) (f : Field) → IsFault b f → (r : ControlRecord) → (broken f ≡ found r) ↔ Spells b r
not_ok b f fault r = (λ e. absurd (cc e), λ s. absurd (no_fault b r f (parted b r s) fault))

-- the fault that was met is the one that there is
pub is_fault : (b : List ℕ) (f : Field) → IsFault b f → (g : Field) → (broken f ≡ broken g) ↔ IsFault b g
is_fault b f fault g = (λ e. subst (IsFault b) (ap (λ (x : CtlFault). x.field) (fault_is (record { field = f }) (record { field = g }) e)) fault, λ other. let one : f ≡ g = one_fault b f g fault other in cc)

-- and bytes of a record have none
pub no_broken : (b : List ℕ) (v : ControlRecord) → HasParts b v → (f : Field) → (found v ≡ broken f) ↔ IsFault b f
no_broken b v has f = (λ e. absurd (cc e), λ fault. absurd (no_fault b v f has fault))
