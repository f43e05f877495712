-- Terminals are told, by tests of the jobs after each entry, and at each RESTARTED.
use Rattle.std.proofs.Common.{◌≡◌, ℕ, ◌-◌, nat_lt, true, Bool, ◌&&◌, ◌||◌, not, List, ◌∷◌, take, IfSome, Option, Some, None}
use Rattle.std.proofs.lemmas.Bool.{and_parts}
use Rattle.xrf_base.specs.declared.site.Site.{Site}
use Rattle.xrf_terms.specs.declared.rows.Row.{Row}
use Rattle.xrf_terms.specs.Tracking.{settled}
use Rattle.xrf_history.specs.Events.{Event, RestartDeclared}
use Rattle.xrf_history.specs.Holding.{is_owner, is_restarted}
use Rattle.xrf_history.specs.Notices.{epoch}
use Rattle.xrf_history.specs.Terminals.{table}
use Rattle.xrf_history.specs.Sending.{sent, is_end_sent, is_cut, is_caught_up}
use Rattle.xrf_trace.specs.declared.entry.Entry.{Entry}
use Rattle.xrf_trace.specs.Scenario.{Scen, settings}
use Rattle.xrf_trace.specs.Tracking.{tracked}
use Rattle.xrf_trace.specs.FileIsBook.{is_restart}
use Rattle.xrf_trace.specs.Each.{Where, AtSite}
use Rattle.xrf_trace.specs.TerminalsAreTold.{TerminalsAreTold, told_of_job, with_due, Tells, TellsAll, TellsSome, TellsFirst, Sender, sender, is_all_sent, KeepsTable, LacksDue, TakesOver}
use Rattle.xrf_long_runs.proofs.Tests.{where_by, each_meets, each_by, site_meets, site_by, jobs_meet_after, jobs_after_by}
use Rattle.xrf_long_runs.proofs.Same.{same_list, lists, same_row, rows}

-- two tables are the same
abbrev same_table : List Row → List Row → Bool
same_table a b = same_list same_row a b

tables : (a b : List Row) → same_table a b ≡ true → a ≡ b
tables a b met = lists same_row rows a b met

-- once End is sent
abbrev tells : Scen → List Entry → Site → List Event → Option ℕ → Bool
tells s t x h None = true
tells s t x h (Some n) = same_table (with_due s x h (tracked t n)) (told_of_job s x h)

told : (s : Scen) (t : List Entry) (x : Site) (h : List Event) (n : Option ℕ) → tells s t x h n ≡ true → Tells s t x h n
told s t x h None met = tt
told s t x h (Some n) met = tables (with_due s x h (tracked t n)) (told_of_job s x h) met

abbrev tells_all : Scen → List Entry → Site → List Event → Bool
tells_all s t x h = not (is_caught_up h) || tells s t x h (epoch h)

told_all : (s : Scen) (t : List Entry) (x : Site) (h : List Event) → tells_all s t x h ≡ true → TellsAll s t x h
told_all s t x h = where_by (is_caught_up h) (tells s t x h (epoch h)) (Tells s t x h (epoch h)) (told s t x h (epoch h))

abbrev pub all_told : Scen → List Entry → Bool
all_told s t = jobs_meet_after s (tells_all s) t

-- before End, once Begin is sent
abbrev tells_some : Scen → List Entry → Site → List Event → Option ℕ → Bool
tells_some s t x h None = true
tells_some s t x h (Some n) = same_table (tracked t n) (take (sent h - 1) (told_of_job s x h))

told_some : (s : Scen) (t : List Entry) (x : Site) (h : List Event) (n : Option ℕ) → tells_some s t x h n ≡ true → TellsSome s t x h n
told_some s t x h None met = tt
told_some s t x h (Some n) met = tables (tracked t n) (take (sent h - 1) (told_of_job s x h)) met

abbrev is_telling : List Event → Bool
is_telling h = is_owner h && is_restarted h && not (is_end_sent h) && nat_lt 0 (sent h) && not (is_cut h)

abbrev tells_first : Scen → List Entry → Site → List Event → Bool
tells_first s t x h = not (is_telling h) || tells_some s t x h (epoch h)

told_first : (s : Scen) (t : List Entry) (x : Site) (h : List Event) → tells_first s t x h ≡ true → TellsFirst s t x h
told_first s t x h = where_by (is_telling h) (tells_some s t x h (epoch h)) (TellsSome s t x h (epoch h)) (told_some s t x h (epoch h))

abbrev pub first_told : Scen → List Entry → Bool
first_told s t = jobs_meet_after s (tells_first s) t

-- at a RESTARTED, of its sender
abbrev keeps_table : Scen → Site → List Event → Sender → Bool
keeps_table s x h from =
    not (is_all_sent s from)
    || same_table (table (settings s x) (RestartDeclared ∷ h)) (settled s.settings.force (told_of_job s from.site from.history))

table_kept : (s : Scen) (x : Site) (h : List Event) (from : Sender) → keeps_table s x h from ≡ true → KeepsTable s x h from
table_kept s x h from =
    where_by (is_all_sent s from) (same_table (table (settings s x) (RestartDeclared ∷ h)) (settled s.settings.force (told_of_job s from.site from.history)))
    (table (settings s x) (RestartDeclared ∷ h) ≡ settled s.settings.force (told_of_job s from.site from.history))
    (tables (table (settings s x) (RestartDeclared ∷ h)) (settled s.settings.force (told_of_job s from.site from.history)))

abbrev lacks_due : Scen → List Row → Sender → Bool
lacks_due s before from =
    not (is_caught_up from.history) || same_table (with_due s from.site from.history before) (told_of_job s from.site from.history)

due_lacking : (s : Scen) (before : List Row) (from : Sender) → lacks_due s before from ≡ true → LacksDue s before from
due_lacking s before from =
    where_by (is_caught_up from.history) (same_table (with_due s from.site from.history before) (told_of_job s from.site from.history))
    (with_due s from.site from.history before ≡ told_of_job s from.site from.history)
    (tables (with_due s from.site from.history before) (told_of_job s from.site from.history))

abbrev takes_from : Scen → Site → List Event → List Row → Option Sender → Bool
takes_from s x h before None = true
takes_from s x h before (Some from) = keeps_table s x h from && lacks_due s before from

abbrev takes_over : Scen → List Entry → Entry → Site → List Event → Bool
takes_over s t e x h = takes_from s x h (tracked (e ∷ t) e.inc) (sender s t e.inc)

taken_over : (s : Scen) (t : List Entry) (e : Entry) (x : Site) (h : List Event) → takes_over s t e x h ≡ true → TakesOver s t e x h
taken_over s t e x h met = by (sender s t e.inc) met
  where
    by : (from : Option Sender) → takes_from s x h (tracked (e ∷ t) e.inc) from ≡ true
        → IfSome from (λ from. KeepsTable s x h from × LacksDue s (tracked (e ∷ t) e.inc) from)
    by None met = tt
    by (Some from) met =
        let both = and_parts (keeps_table s x h from) (lacks_due s (tracked (e ∷ t) e.inc) from) met in
        (table_kept s x h from both.0, due_lacking s (tracked (e ∷ t) e.inc) from both.1)

abbrev restarts_told : Scen → List Entry → Entry → Bool
restarts_told s t e = not (is_restart e.act) || site_meets s t e.who (takes_over s t e)

restart_told : (s : Scen) (t : List Entry) (e : Entry) → restarts_told s t e ≡ true → Where (is_restart e.act) (AtSite s t e.who (TakesOver s t e))
restart_told s t e =
    where_by (is_restart e.act) (site_meets s t e.who (takes_over s t e)) (AtSite s t e.who (TakesOver s t e))
    (site_by s t e.who (takes_over s t e) (TakesOver s t e) (taken_over s t e))

abbrev pub takeovers_told : Scen → List Entry → Bool
takeovers_told s t = each_meets (restarts_told s) t

pub terminals_are_told : (s : Scen) (t : List Entry) → all_told s t ≡ true → first_told s t ≡ true → takeovers_told s t ≡ true → TerminalsAreTold s t
terminals_are_told s t all first takeovers = record {
  all = jobs_after_by s (tells_all s) (TellsAll s) (told_all s) t all;
  first = jobs_after_by s (tells_first s) (TellsFirst s) (told_first s) t first;
  takeovers = each_by (restarts_told s) (λ t e. Where (is_restart e.act) (AtSite s t e.who (TakesOver s t e))) (restart_told s) t takeovers;
}
