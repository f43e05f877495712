-- The first row of what the alternate is told has no user, and that of the active's table has one.
use Rattle.std.proofs.Common.{rules, ◌≡◌, Bool, true, false, is_some, List, [], ◌∷◌, ap}
use Rattle.xrf_terms.specs.declared.rows.Row.{Row}
use Rattle.xrf_trace.specs.TerminalsAreTold.{TerminalsAreTold}
use Rattle.xrf_examples.specs.UsersAtATakeoverStayWithNoforce as users
use Rattle.xrf_broken.specs.Terminals as broken
use Rattle.xrf_broken.proofs.terminals.a_user_is_not_sent.Goals as goal

abbrev has_user : List Row → Bool
has_user [] = false
has_user (row ∷ rows) = is_some row.user

differs : TerminalsAreTold users.scenario broken.a_user_is_not_sent → false ≡ true
differs told = ap has_user told.all.1.0

apart : false ≡ true → ⊥
apart same = search rules

pub returns : goal.returns
returns c told = apart (differs told)
