-- Tests by which two values are the same: where such a test is met, they are.
use Rattle.std.proofs.Common.{◌≡◌, ℕ, ◌==◌, nat_eq, Bool, true, false, ◌&&◌, List, [], ◌∷◌, Option, Some, None, refl, sym, ap, ◌∙◌}
use Rattle.std.proofs.lemmas.Bool.{and_parts, eqb-true}
use Rattle.std.specs.Cmp.Lexicographic.{pointwise, same_text}
use Rattle.xrf_base.specs.declared.site.Site.{Site}
use Rattle.xrf_base.specs.declared.site.Site.TheVariants as site
use Rattle.xrf_base.specs.declared.items.UnitId.{UnitId}
use Rattle.xrf_ctl.specs.declared.parts.Owner.{Owner}
use Rattle.xrf_ctl.specs.declared.parts.OwnerState.{OwnerState}
use Rattle.xrf_ctl.specs.declared.parts.OwnerState.TheVariants.{Running, OffNormal, OffAbend, OffTakeover}
use Rattle.xrf_ctl.specs.declared.parts.Alt.{Alt}
use Rattle.xrf_ctl.specs.declared.parts.Taking.{Taking}
use Rattle.xrf_ctl.specs.declared.parts.Cause.{Cause}
use Rattle.xrf_ctl.specs.declared.parts.Cause.TheVariants as cause
use Rattle.xrf_ctl.specs.Control.{ControlRecord, of_parts}
use Rattle.xrf_logrec.specs.declared.records.LogRec.{LogRec}
use Rattle.xrf_logrec.specs.declared.records.LogRec.TheVariants.{Put, Commit, Backout}
use Rattle.xrf_logrec.specs.LogRecords.{same_unit}
use Rattle.xrf_logrec.proofs.LogLaws.{same_unit-true}
use Rattle.xrf_terms.specs.declared.rows.How.{How}
use Rattle.xrf_terms.specs.declared.rows.How.TheVariants as how
use Rattle.xrf_terms.specs.declared.rows.Row.{Row}
use Rattle.xrf_trace.specs.declared.entry.Act.{Act}
use Rattle.xrf_trace.specs.declared.entry.Act.TheVariants as act
use Rattle.xrf_long_runs.proofs.Tests.{clash}

-- a test by which two values are the same
abbrev pub IsSameness : {X : Type 0} → (X → X → Bool) → Type 0
IsSameness {X} same = (a b : X) → same a b ≡ true → a ≡ b

-- of an option, and of a list
abbrev pub same_option : {X : Type 0} → (X → X → Bool) → Option X → Option X → Bool
same_option same None None = true
same_option same (Some a) (Some b) = same a b
same_option same _ _ = false

pub options : {X : Type 0} (same : X → X → Bool) → IsSameness same → IsSameness (same_option same)
options same is None None met = refl
options same is None (Some b) met = clash (sym met)
options same is (Some a) None met = clash (sym met)
options same is (Some a) (Some b) met = ap (λ x. Some x) (is a b met)

abbrev pub same_list : {X : Type 0} → (X → X → Bool) → List X → List X → Bool
same_list same [] [] = true
same_list same (a ∷ older) (b ∷ old) = same a b && same_list same older old
same_list same _ _ = false

both_same : {X : Type 0} (a b : X) (older old : List X) → a ≡ b → older ≡ old → a ∷ older ≡ b ∷ old
both_same a b older old first rest = ap (λ x. x ∷ older) first ∙ ap (λ xs. b ∷ xs) rest

pub lists : {X : Type 0} (same : X → X → Bool) → IsSameness same → IsSameness (same_list same)
lists same is [] [] met = refl
lists same is [] (b ∷ old) met = clash (sym met)
lists same is (a ∷ older) [] met = clash (sym met)
lists same is (a ∷ older) (b ∷ old) met =
    let both = and_parts (same a b) (same_list same older old) met in
    both_same a b older old (is a b both.0) (lists same is older old both.1)

-- what is made of the same parts is the same
of_two : {X Y Z : Type 0} (f : X → Y → Z) (a b : X) (c d : Y) → a ≡ b → c ≡ d → f a c ≡ f b d
of_two {X} f a b c d first second = ap (λ (x : X). f x c) first ∙ ap (f b) second

of_three : {X Y Z W : Type 0} (f : X → Y → Z → W) (a b : X) (c d : Y) (g h : Z) → a ≡ b → c ≡ d → g ≡ h → f a c g ≡ f b d h
of_three {X} f a b c d g h first second third = ap (λ (x : X). f x c g) first ∙ of_two (f b) c d g h second third

-- texts
abbrev pub same_bytes : List ℕ → List ℕ → Bool
same_bytes a b = pointwise nat_eq a b

pub texts : IsSameness same_bytes
texts a b met = same_text a b (sym met)

-- sites, states and causes
abbrev pub same_site : Site → Site → Bool
same_site site.A site.A = true
same_site site.B site.B = true
same_site _ _ = false

pub sites : IsSameness same_site
sites site.A site.A met = refl
sites site.A site.B met = clash (sym met)
sites site.B site.A met = clash (sym met)
sites site.B site.B met = refl

abbrev pub same_state : OwnerState → OwnerState → Bool
same_state Running Running = true
same_state OffNormal OffNormal = true
same_state OffAbend OffAbend = true
same_state OffTakeover OffTakeover = true
same_state _ _ = false

pub states : IsSameness same_state
states Running Running met = refl
states Running _ met = clash (sym met)
states OffNormal OffNormal met = refl
states OffNormal _ met = clash (sym met)
states OffAbend OffAbend met = refl
states OffAbend _ met = clash (sym met)
states OffTakeover OffTakeover met = refl
states OffTakeover _ met = clash (sym met)

abbrev pub same_cause : Cause → Cause → Bool
same_cause cause.Lost cause.Lost = true
same_cause cause.Abend cause.Abend = true
same_cause cause.Shutdown cause.Shutdown = true
same_cause cause.Command cause.Command = true
same_cause _ _ = false

pub causes : IsSameness same_cause
causes cause.Lost cause.Lost met = refl
causes cause.Lost _ met = clash (sym met)
causes cause.Abend cause.Abend met = refl
causes cause.Abend _ met = clash (sym met)
causes cause.Shutdown cause.Shutdown met = refl
causes cause.Shutdown _ met = clash (sym met)
causes cause.Command cause.Command met = refl
causes cause.Command _ met = clash (sym met)

-- the parts of a control record, and the record
abbrev pub same_owner : Owner → Owner → Bool
same_owner a b = a.inc == b.inc && (same_site a.site b.site && same_state a.state b.state)

pub owners : IsSameness same_owner
owners a b met =
    let first = and_parts (a.inc == b.inc) (same_site a.site b.site && same_state a.state b.state) met in
    let rest = and_parts (same_site a.site b.site) (same_state a.state b.state) first.1 in
    of_three (λ (n : ℕ) (x : Site) (s : OwnerState). owner n x s) a.inc b.inc a.site b.site a.state b.state
    (eqb-true a.inc b.inc first.0) (sites a.site b.site rest.0) (states a.state b.state rest.1)
  where
    owner : ℕ → Site → OwnerState → Owner
    owner n x s = record { inc = n; site = x; state = s }

abbrev pub same_alt : Alt → Alt → Bool
same_alt a b = a.inc == b.inc && same_site a.site b.site

pub alts : IsSameness same_alt
alts a b met =
    let both = and_parts (a.inc == b.inc) (same_site a.site b.site) met in
    of_two (λ (n : ℕ) (x : Site). alt n x) a.inc b.inc a.site b.site (eqb-true a.inc b.inc both.0) (sites a.site b.site both.1)
  where
    alt : ℕ → Site → Alt
    alt n x = record { inc = n; site = x }

abbrev pub same_taking : Taking → Taking → Bool
same_taking a b = a.inc == b.inc && same_cause a.cause b.cause

pub takings : IsSameness same_taking
takings a b met =
    let both = and_parts (a.inc == b.inc) (same_cause a.cause b.cause) met in
    of_two (λ (n : ℕ) (x : Cause). taking n x) a.inc b.inc a.cause b.cause (eqb-true a.inc b.inc both.0) (causes a.cause b.cause both.1)
  where
    taking : ℕ → Cause → Taking
    taking n x = record { inc = n; cause = x }

abbrev same_numbers : ControlRecord → ControlRecord → Bool
same_numbers a b = a.format == b.format && a.last == b.last

abbrev same_beside : ControlRecord → ControlRecord → Bool
same_beside a b = same_option same_alt a.alt b.alt && same_option same_taking a.taking b.taking

abbrev pub same_control : ControlRecord → ControlRecord → Bool
same_control a b = same_numbers a b && (same_option same_owner a.owner b.owner && same_beside a b)

pub controls : IsSameness same_control
controls a b met =
    let halves = and_parts (same_numbers a b) (same_option same_owner a.owner b.owner && same_beside a b) met in
    let numbers = and_parts (a.format == b.format) (a.last == b.last) halves.0 in
    let parts = and_parts (same_option same_owner a.owner b.owner) (same_beside a b) halves.1 in
    let beside = and_parts (same_option same_alt a.alt b.alt) (same_option same_taking a.taking b.taking) parts.1 in
    of_two (λ (n l : ℕ). of_parts n l a.owner a.alt a.taking) a.format b.format a.last b.last
    (eqb-true a.format b.format numbers.0) (eqb-true a.last b.last numbers.1)
    ∙ of_three (λ (o : Option Owner) (p : Option Alt) (t : Option Taking). of_parts b.format b.last o p t)
    a.owner b.owner a.alt b.alt a.taking b.taking
    (options same_owner owners a.owner b.owner parts.0)
    (options same_alt alts a.alt b.alt beside.0)
    (options same_taking takings a.taking b.taking beside.1)

-- records of the log
abbrev pub same_record : LogRec → LogRec → Bool
same_record (Put unit rrn before) (Put u k slot) = same_unit unit u && (rrn == k && same_bytes before slot)
same_record (Commit unit) (Commit u) = same_unit unit u
same_record (Backout unit) (Backout u) = same_unit unit u
same_record _ _ = false

pub records : IsSameness same_record
records (Put unit rrn before) (Put u k slot) met =
    let first = and_parts (same_unit unit u) (rrn == k && same_bytes before slot) met in
    let rest = and_parts (rrn == k) (same_bytes before slot) first.1 in
    of_three (λ (v : UnitId) (n : ℕ) (b : List ℕ). Put v n b) unit u rrn k before slot (same_unit-true unit u first.0) (eqb-true rrn k rest.0)
    (texts before slot rest.1)
records (Put unit rrn before) _ met = clash (sym met)
records (Commit unit) (Commit u) met = ap (λ (v : UnitId). Commit v) (same_unit-true unit u met)
records (Commit unit) _ met = clash (sym met)
records (Backout unit) (Backout u) met = ap (λ (v : UnitId). Backout v) (same_unit-true unit u met)
records (Backout unit) _ met = clash (sym met)

-- writes of the file; of other acts the test is never met
abbrev pub same_write : Act → Act → Bool
same_write (act.FileWrite unit rrn value) (act.FileWrite u k bytes) = same_unit unit u && (rrn == k && same_bytes value bytes)
same_write _ _ = false

pub writes : IsSameness same_write
writes (act.FileWrite unit rrn value) (act.FileWrite u k bytes) met =
    let first = and_parts (same_unit unit u) (rrn == k && same_bytes value bytes) met in
    let rest = and_parts (rrn == k) (same_bytes value bytes) first.1 in
    of_three (λ (v : UnitId) (n : ℕ) (b : List ℕ). act.FileWrite v n b) unit u rrn k value bytes
    (same_unit-true unit u first.0) (eqb-true rrn k rest.0) (texts value bytes rest.1)
writes _ _ met = clash (sym met)

-- rows of the terminal table
abbrev pub same_how : How → How → Bool
same_how how.On how.On = true
same_how how.Tracked how.Tracked = true
same_how how.Switched how.Switched = true
same_how how.Acquired how.Acquired = true
same_how _ _ = false

pub hows : IsSameness same_how
hows how.On how.On met = refl
hows how.On _ met = clash (sym met)
hows how.Tracked how.Tracked met = refl
hows how.Tracked _ met = clash (sym met)
hows how.Switched how.Switched met = refl
hows how.Switched _ met = clash (sym met)
hows how.Acquired how.Acquired met = refl
hows how.Acquired _ met = clash (sym met)

abbrev pub same_row : Row → Row → Bool
same_row a b = (same_bytes a.term b.term && a.class == b.class) && (same_how a.how b.how && same_option same_bytes a.user b.user)

pub rows : IsSameness same_row
rows a b met =
    let halves = and_parts (same_bytes a.term b.term && a.class == b.class) (same_how a.how b.how && same_option same_bytes a.user b.user) met in
    let first = and_parts (same_bytes a.term b.term) (a.class == b.class) halves.0 in
    let last = and_parts (same_how a.how b.how) (same_option same_bytes a.user b.user) halves.1 in
    of_two (λ (t : List ℕ) (n : ℕ). row t n a.how a.user) a.term b.term a.class b.class
    (texts a.term b.term first.0) (eqb-true a.class b.class first.1)
    ∙ of_two (λ (h : How) (u : Option (List ℕ)). row b.term b.class h u) a.how b.how a.user b.user (hows a.how b.how last.0)
    (options same_bytes texts a.user b.user last.1)
  where
    row : List ℕ → ℕ → How → Option (List ℕ) → Row
    row t n h u = record { term = t; class = n; how = h; user = u }
