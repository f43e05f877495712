-- What a job is by now.
use Rattle.std.specs.Prelude.{Bool, true, false}
use Rattle.xrf_standby.specs.declared.role.Role.{Role}
use Rattle.xrf_standby.specs.declared.role.Role.TheVariants as role

-- it is being changed
abbrev pub is_moving : Role → Bool
is_moving role.Moving = true
is_moving _ = false
