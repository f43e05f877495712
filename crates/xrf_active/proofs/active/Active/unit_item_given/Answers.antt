use Rattle.std.proofs.Common.{◌≡◌, ◌∙◌, sym, ap, subst, refl, ◌∷◌, List, Option}
use Rattle.xrf_ctl.specs.declared.parts.OwnerState.{OwnerState}
use Rattle.xrf_file.specs.Ledger.{Ledger, IsPending, planned, plan_of}
use Rattle.xrf_file.specs.declared.answers.Plan.{Plan}
use Rattle.xrf_history.specs.Events.{Event, Given}
use Rattle.xrf_history.specs.Reserving.{or_else, sign_off_due}
use Rattle.xrf_history.specs.Terminals.{table}
use Rattle.xrf_history.specs.Working.{ledger, last_plan}
use Rattle.xrf_history.specs.Next.{after_item}
use Rattle.xrf_active.proofs.Plans.{or_else-none, unit-state, unit-rows, kept-planned, sends-unit}
use Rattle.xrf_active.proofs.active.Active.unit_item_given.Goals as goal

pub returns-clause-stands : goal.returns-clause-stands
returns-clause-stands c = λ h s restarted granted.
    let p = c.args.self.now.settings in
    let item = c.args.item.now in
    let after : List Event = Given item ∷ h in
    let old = c.args.self.now.rooms.units in
    let plan = c.plan-plan.result in
    let plan_is : plan ≡ last_plan p after = c.plan-plan.ensures.plan ∙ ap (λ (l : Ledger). plan_of l item) (s.units restarted) in
    let units_are : c.plan-plan.new.self ≡ ledger p after = c.plan-plan.ensures.after ∙ ap (λ (l : Ledger). planned l item) (s.units restarted) in
    let kept = kept-planned old item in
    let kept_word = kept-planned (ledger p h) item in
    let waits : IsPending (ledger p after) plan = subst (λ (l : Ledger). IsPending l plan) units_are c.plan-plan.ensures.pending in
    record {
      shared = record {
        inc = s.shared.inc;
        granted = s.shared.granted;
        rounds = s.shared.rounds;
        signalled = s.shared.signalled;
        seen = s.shared.seen;
        signal = s.shared.signal;
        watch = s.shared.watch;
        decided = s.shared.decided;
        signs_on = s.shared.signs_on;
        purpose = s.shared.purpose;
        read = s.shared.read;
        known = s.shared.known;
        room = s.shared.room;
        expected = s.shared.expected;
        stage = c.item_stage-self.ensures.stage after refl units_are ∙ ap (λ (x : Plan). after_item p after x) plan_is;
        within = c.item_stage-self.ensures.within after restarted (s.has_scanned restarted) plan_is waits granted;
      };
      rooms = record { sizes = s.rooms.sizes; units = ap (λ (l : Ledger). l.slots) c.plan-plan.ensures.after ∙ kept.slots ∙ s.rooms.units; records = ap (λ (l : Ledger). l.records) c.plan-plan.ensures.after ∙ kept.records ∙ s.rooms.records; scan = s.rooms.scan };
      owns = s.owns;
      starts = s.starts;
      signs_on = s.signs_on;
      stays = s.stays;
      decides = s.decides;
      reads = s.reads;
      signs_off = s.signs_off ∙ sym (ap (λ (x : Option OwnerState). or_else (sign_off_due h) x) (unit-state item c.requires.item) ∙ or_else-none (sign_off_due h));
      tells = s.tells;
      drops = s.drops;
      drains = s.drains;
      sends = sends-unit p c.args.self.now.sending item h c.requires.item s.sends;
      terminals = s.terminals ∙ sym (unit-rows item (table p h) c.requires.item);
      takes = s.takes;
      scanned = s.scanned;
      restarted = s.restarted;
      undoes = s.undoes;
      opens = s.opens;
      keypoint = s.keypoint;
      small = s.small;
      none_backed_out = s.none_backed_out;
      none_opened = s.none_opened;
      anchored = s.anchored;
      backs_out = s.backs_out;
      has_scanned = s.has_scanned;
      has_drained = s.has_drained;
      units = λ e. units_are;
      keys = λ e. kept_word.start ∙ s.keys e;
      plans = plan_is;
      rolls = refl;
    }
