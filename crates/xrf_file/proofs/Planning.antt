-- What a plan says of the ledger.
use Rattle.std.proofs.Common.{◌≡◌, ℕ, ◌+◌, ◌-◌, ◌<◌, Bool, true, false, cond, List, Option, Some, None, refl, ◌∙◌, ap, arith}
use Rattle.std.proofs.lemmas.Bool.{ltb-false}
use Rattle.xrf_base.specs.declared.items.UnitId.{UnitId}
use Rattle.xrf_base.specs.declared.items.Item.{Item}
use Rattle.xrf_base.specs.declared.items.Item.TheVariants.{Begin, Put, Get, Commit, Roll, Logon, Logoff, Shutdown, ShutdownTakeover, Signon, Signoff}
use Rattle.xrf_base.specs.declared.items.ItemAnswer.TheVariants.{Done, BadRrn, Locked, LogFull}
use Rattle.xrf_file.specs.declared.answers.Plan.{Plan}
use Rattle.xrf_file.specs.declared.answers.Plan.TheVariants as plans
use Rattle.xrf_file.specs.Rows.{unit_named, is_hot, is_locked, hot_with}
use Rattle.xrf_file.specs.Ledger.{Ledger, plan_of, put_plan, get_plan, commit_plan, roll_plan, is_bad_rrn, is_log_full, after_end, closed, IsPending}

-- the three tests of a put that is planned fail
all-fail : (a b c : Bool) (x y z w : Plan) (unit : UnitId) (rrn : ℕ) (value : List ℕ) (place : ℕ)
    → (x ≡ plans.Put unit rrn value place → ⊥) → (y ≡ plans.Put unit rrn value place → ⊥) → (z ≡ plans.Put unit rrn value place → ⊥)
    → cond a x (cond b y (cond c z w)) ≡ plans.Put unit rrn value place → c ≡ false
all-fail true b c x y z w unit rrn value place nx ny nz e = absurd (nx e)
all-fail false true c x y z w unit rrn value place nx ny nz e = absurd (ny e)
all-fail false false true x y z w unit rrn value place nx ny nz e = absurd (nz e)
all-fail false false false x y z w unit rrn value place nx ny nz e = refl

put-room : (l : Ledger) (found : Option UnitId) (r : ℕ) (v : List ℕ) (unit : UnitId) (rrn : ℕ) (value : List ℕ) (place : ℕ) → put_plan l found r v ≡ plans.Put unit rrn value place → l.next - l.start < l.slots
put-room l None r v unit rrn value place e = absurd (cc)
put-room l (Some u) r v unit rrn value place e =
    let full : is_log_full l u ≡ false = all-fail (is_bad_rrn l r) (is_locked u r l.puts) (is_log_full l u) (plans.Answer BadRrn) (plans.Answer Locked) (plans.Answer LogFull) (plans.Put u r v l.next) unit rrn value place (λ k. absurd (cc)) (λ k. absurd (cc)) (λ k. absurd (cc)) e in
    let room = ltb-false l.slots (l.next - l.start + hot_with u l.units l.puts + 1) full in
    omega (arith, room)

-- no other item is planned as a put
none-put : (a b : Bool) (x y z : Plan) (unit : UnitId) (rrn : ℕ) (value : List ℕ) (place : ℕ)
    → (x ≡ plans.Put unit rrn value place → ⊥) → (y ≡ plans.Put unit rrn value place → ⊥) → (z ≡ plans.Put unit rrn value place → ⊥)
    → cond a x (cond b y z) ≡ plans.Put unit rrn value place → ⊥
none-put true b x y z unit rrn value place nx ny nz e = nx e
none-put false true x y z unit rrn value place nx ny nz e = ny e
none-put false false x y z unit rrn value place nx ny nz e = nz e

get-no_put : (l : Ledger) (found : Option UnitId) (r : ℕ) (unit : UnitId) (rrn : ℕ) (value : List ℕ) (place : ℕ) → get_plan l found r ≡ plans.Put unit rrn value place → ⊥
get-no_put l None r unit rrn value place e = cc
get-no_put l (Some u) r unit rrn value place e = none-put (is_bad_rrn l r) (is_locked u r l.puts) (plans.Answer BadRrn) (plans.Answer Locked) (plans.Get r) unit rrn value place (λ k. cc) (λ k. cc) (λ k. cc) e

commit-no_put : (l : Ledger) (found : Option UnitId) (unit : UnitId) (rrn : ℕ) (value : List ℕ) (place : ℕ) → commit_plan l found ≡ plans.Put unit rrn value place → ⊥
commit-no_put l None unit rrn value place e = cc
commit-no_put l (Some u) unit rrn value place e = none-put (is_hot u l.puts) true (plans.Commit u l.next) (plans.Answer Done) (plans.Answer Done) unit rrn value place (λ k. cc) (λ k. cc) (λ k. cc) e

roll-no_put : (l : Ledger) (found : Option UnitId) (unit : UnitId) (rrn : ℕ) (value : List ℕ) (place : ℕ) → roll_plan l found ≡ plans.Put unit rrn value place → ⊥
roll-no_put l None unit rrn value place e = cc
roll-no_put l (Some u) unit rrn value place e = none-put (is_hot u l.puts) true (plans.Roll u l.next) (plans.Answer Done) (plans.Answer Done) unit rrn value place (λ k. cc) (λ k. cc) (λ k. cc) e

-- where a put is planned the log has room for its record
pub plan-room : (l : Ledger) (item : Item) (unit : UnitId) (rrn : ℕ) (value : List ℕ) (place : ℕ) → plan_of l item ≡ plans.Put unit rrn value place → l.next - l.start < l.slots
plan-room l (Begin name) unit rrn value place e = absurd (cc)
plan-room l (Put name r v) unit rrn value place e = put-room l (unit_named name l.units) r v unit rrn value place e
plan-room l (Get name r) unit rrn value place e = absurd (get-no_put l (unit_named name l.units) r unit rrn value place e)
plan-room l (Commit name) unit rrn value place e = absurd (commit-no_put l (unit_named name l.units) unit rrn value place e)
plan-room l (Roll name) unit rrn value place e = absurd (roll-no_put l (unit_named name l.units) unit rrn value place e)
plan-room l (Logon name class) unit rrn value place e = absurd (cc)
plan-room l (Logoff name) unit rrn value place e = absurd (cc)
plan-room l Shutdown unit rrn value place e = absurd (cc)
plan-room l ShutdownTakeover unit rrn value place e = absurd (cc)
plan-room l (Signon name user) unit rrn value place e = absurd (cc)
plan-room l (Signoff name) unit rrn value place e = absurd (cc)

-- a put that is planned waits
pub put-pending : (l : Ledger) (name : List ℕ) (r : ℕ) (v : List ℕ) (found : Option UnitId) → unit_named name l.units ≡ found → IsPending l (put_plan l found r v)
put-pending l name r v None e = tt
put-pending l name r v (Some u) e = by (is_bad_rrn l r) (is_locked u r l.puts) (is_log_full l u) refl refl refl
  where
    by : (a b c : Bool) → is_bad_rrn l r ≡ a → is_locked u r l.puts ≡ b → is_log_full l u ≡ c
        → IsPending l (cond a (plans.Answer BadRrn) (cond b (plans.Answer Locked) (cond c (plans.Answer LogFull) (plans.Put u r v l.next))))
    by true b c x y z = tt
    by false true c x y z = tt
    by false false true x y z = tt
    by false false false x y z = (refl, (Put name r v, ap (λ f. put_plan l f r v) e ∙ rw (x, y, z) refl))

pub commit-pending : (l : Ledger) (name : List ℕ) (found : Option UnitId) → unit_named name l.units ≡ found → IsPending (after_end l found) (commit_plan l found)
commit-pending l name None e = tt
commit-pending l name (Some u) e = by (is_hot u l.puts) refl
  where
    by : (a : Bool) → is_hot u l.puts ≡ a → IsPending (cond a l (closed l u)) (cond a (plans.Commit u l.next) (plans.Answer Done))
    by true x = (refl, (Commit name, ap (commit_plan l) e ∙ rw x refl))
    by false x = tt

pub roll-pending : (l : Ledger) (name : List ℕ) (found : Option UnitId) → unit_named name l.units ≡ found → IsPending (after_end l found) (roll_plan l found)
roll-pending l name None e = tt
roll-pending l name (Some u) e = by (is_hot u l.puts) refl
  where
    by : (a : Bool) → is_hot u l.puts ≡ a → IsPending (cond a l (closed l u)) (cond a (plans.Roll u l.next) (plans.Answer Done))
    by true x = (refl, (Roll name, ap (roll_plan l) e ∙ rw x refl))
    by false x = tt
