use Rattle.std.proofs.Common.{◌≡◌, ◌∙◌, ℕ, List, Option, Some, true, subst, sym}
use Rattle.xrf_setup.specs.declared.choice.Choice.TheVariants as choice
use Rattle.xrf_history.specs.declared.answer.Answer.TheVariants as answer
use Rattle.xrf_history.specs.Accepting.{may_command}
use Rattle.xrf_history.specs.Events.{Event}
use Rattle.xrf_trace.specs.declared.entry.Act.TheVariants as act
use Rattle.xrf_trace.specs.Entries.{reply_of}
use Rattle.xrf_trace.specs.Jobs.{hist}
use Rattle.xrf_trace.specs.Refusals.{of_job}
use Rattle.xrf_trace.specs.Scenario.{settings}
use Rattle.xrf_world.specs.Making.{IsReached}
use Rattle.xrf_world.specs.Seats.{SeatIs}
use Rattle.xrf_world.proofs.ReachLaws.{command-made}
use Rattle.xrf_world.proofs.reaching.command.Goals as goal

pub reach-requires : goal.reach-requires
reach-requires c =
    let s = c.args.middle.now.scenario in
    let x = c.args.site in
    let command = c.args.command in
    let told = c.reply-reply.result in
    let t = c.requires.0 in
    let stands = c.requires.1 in
    let may : of_job may_command (hist s t x) ≡ true =
    sym (c.may_command.ensures (settings s x) (hist s t x) stands.place.seat) ∙ c.if-not-may_command.false in
    let replies : (h : List Event) → hist s t x ≡ Some h → may_command h ≡ true → told ≡ reply_of s x command h =
    λ h there is. c.reply-reply.ensures (settings s x) h
    (subst (λ (job : Option (List Event)). SeatIs c.args.place.now.seat (settings s x) job) there stands.place.seat) is in (
      t,
      choice.Cebt x command,
      stands,
      subst (λ (n : ℕ). IsReached s t x (act.Cebt command told) (answer.Cebt command n) (choice.Cebt x command))
          (sym stands.middle.counts.tick) (command-made s t x command told c.requires.2 may replies),
    )

pub returns : goal.returns
returns c = λ t stands g.
    let s = c.args.middle.now.scenario in
    let x = c.args.site in
    let command = c.args.command in
    let told = c.reply-reply.result in
    let may : of_job may_command (hist s t x) ≡ true =
    sym (c.may_command.ensures (settings s x) (hist s t x) stands.place.seat) ∙ c.if-not-may_command.false in
    let replies : (h : List Event) → hist s t x ≡ Some h → may_command h ≡ true → told ≡ reply_of s x command h =
    λ h there is. c.reply-reply.ensures (settings s x) h
    (subst (λ (job : Option (List Event)). SeatIs c.args.place.now.seat (settings s x) job) there stands.place.seat) is in
    c.reach.ensures t (choice.Cebt x command) stands (subst (λ (n : ℕ). IsReached s t x (act.Cebt command told) (answer.Cebt command n) (choice.Cebt x command))
    (sym stands.middle.counts.tick) (command-made s t x command told g may replies))
