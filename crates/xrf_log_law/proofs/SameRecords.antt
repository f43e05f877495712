-- Records of the log that are the same.
use Rattle.std.proofs.Common.{List, Option, Some, ◌≡◌, ℕ}
use Rattle.xrf_base.specs.declared.items.UnitId.{UnitId}
use Rattle.xrf_logrec.specs.declared.records.LogRec.{LogRec}
use Rattle.xrf_logrec.specs.declared.records.LogRec.TheVariants.{Backout, Commit, Put}

-- records that are there and the same
pub same-record : (a b : LogRec) → Some a ≡ Some b → a ≡ b
same-record a b same = cc

-- Puts that are the same have one unit and one record number
pub same-put : (u unit : UnitId) (k rrn : ℕ) (slot before : List ℕ) → ◌≡◌ {A = Option LogRec} (Some (Put u k slot)) (Some (Put unit rrn before))
    → (u ≡ unit) × (k ≡ rrn)
same-put u unit k rrn slot before same = (cc, cc)

-- and so one unit
pub same-put-unit : (u unit : UnitId) (r rrn : ℕ) (b before : List ℕ) → ◌≡◌ {A = Option LogRec} (Some (Put u r b)) (Some (Put unit rrn before)) → u ≡ unit
same-put-unit u unit r rrn b before same = cc

-- Commits that are the same are of one unit
pub same-commit : (u unit : UnitId) → ◌≡◌ {A = Option LogRec} (Some (Commit u)) (Some (Commit unit)) → u ≡ unit
same-commit u unit same = cc

-- and so are Backouts
pub same-backout : (u unit : UnitId) → ◌≡◌ {A = Option LogRec} (Some (Backout u)) (Some (Backout unit)) → u ≡ unit
same-backout u unit same = cc
