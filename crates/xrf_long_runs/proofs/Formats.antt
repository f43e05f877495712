-- Where both sites are of level 1 no through is of level 2, so the format by level is 1 throughout.
use Rattle.std.proofs.Common.{◌≡◌, ℕ, Bool, true, false, ◌&&◌, ◌||◌, if◌then◌else◌, List, [], ◌∷◌, refl, sym, subst}
use Rattle.xrf_base.specs.declared.site.Site.TheVariants as site
use Rattle.xrf_ctl.specs.Control.{ControlRecord}
use Rattle.xrf_trace.specs.declared.entry.Entry.{Entry}
use Rattle.xrf_trace.specs.declared.entry.Act.{Act}
use Rattle.xrf_trace.specs.declared.entry.Act.TheVariants as act
use Rattle.xrf_trace.specs.declared.entry.Land.{Land}
use Rattle.xrf_trace.specs.declared.entry.Who.{Who}
use Rattle.xrf_trace.specs.declared.entry.Who.TheVariants as who
use Rattle.xrf_trace.specs.Scenario.{Scen, settings}
use Rattle.xrf_trace.specs.Landing.{lands}
use Rattle.xrf_trace.specs.Devices.{control, control_after, written_if}
use Rattle.xrf_trace.specs.Throughs.{is_through}
use Rattle.xrf_trace.specs.FormatByLevel.{FormatIs, has_two, is_two, level_of}
use Rattle.xrf_trace.specs.Each.{Each}

none_joined : (p q r : Bool) → p ≡ false → r ≡ false → (p || (q && r)) ≡ false
none_joined true q r none here = none
none_joined false true r none here = here
none_joined false false r none here = refl

no_level_two : (s : Scen) → is_two (settings s site.A).level ≡ false → is_two (settings s site.B).level ≡ false → (w : Who) → is_two (level_of s w) ≡ false
no_level_two s a b who.A = a
no_level_two s a b who.B = b
no_level_two s a b who.Env = refl

-- no through of a trace is of level 2
pub has_none : (s : Scen) → is_two (settings s site.A).level ≡ false → is_two (settings s site.B).level ≡ false → (t : List Entry) → has_two s t ≡ false
has_none s a b [] = refl
has_none s a b (e ∷ t) = none_joined (has_two s t) (is_through t e) (is_two (level_of s e.who)) (has_none s a b t) (no_level_two s a b e.who)

-- each record that a trace writes has format 1
abbrev WritesOne : Act → Type 0
WritesOne (act.CtlWrite written) = written.format ≡ 1
WritesOne _ = Unit {0}

abbrev pub AllWriteOne : List Entry → Type 0
AllWriteOne [] = Unit {0}
AllWriteOne (e ∷ t) = AllWriteOne t × WritesOne e.act

one_written : (landed : Bool) (written before : ControlRecord) → before.format ≡ 1 → written.format ≡ 1 → (written_if landed written before).format ≡ 1
one_written true written before old new = new
one_written false written before old new = old

one_after : (a : Act) (land : Land) (before : ControlRecord) → before.format ≡ 1 → WritesOne a → (control_after a land before).format ≡ 1
one_after (act.CtlWrite written) land before old new = one_written (lands land) written before old new
one_after _ land before old new = old

-- so the record has it
one_throughout : (t : List Entry) → AllWriteOne t → (control t).format ≡ 1
one_throughout [] written = refl
one_throughout (e ∷ t) written = one_after e.act e.land (control t) (one_throughout t written.0) written.1

by_none : (n : ℕ) (b : Bool) → b ≡ false → n ≡ 1 → n ≡ (if b then 2 else 1)
by_none n b none one = subst (λ (x : Bool). n ≡ (if x then 2 else 1)) (sym none) one

-- and that is the format by level
pub formats_of_one : (s : Scen) → is_two (settings s site.A).level ≡ false → is_two (settings s site.B).level ≡ false → (t : List Entry) → AllWriteOne t → Each (FormatIs s) t
formats_of_one s a b [] written = tt
formats_of_one s a b (e ∷ t) written =
    (formats_of_one s a b t written.0, by_none (control (e ∷ t)).format (has_two s (e ∷ t)) (has_none s a b (e ∷ t)) (one_throughout (e ∷ t) written))
