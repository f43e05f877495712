-- The items stand after it, since each step does what the law asks of it.
use Rattle.std.proofs.Common.{◌≡◌, ◌==◌, ℕ, if◌then◌else◌, List, length, Option, ap, sym, subst, ◌∙◌}
use Rattle.std.proofs.lemmas.List.{with_items_is}
use Rattle.std.specs.Vec.{with_items}
use Rattle.xrf_base.specs.declared.items.ItemAnswer.{ItemAnswer as Given}
use Rattle.xrf_history.specs.Reserving.{or_else}
use Rattle.xrf_world.specs.Places.{KeptByNumber, is_start}
use Rattle.xrf_world.proofs.ItemLaws.{followed}
use Rattle.xrf_world.proofs.items.Items.follow.Goals as goal

pub returns : goal.returns
returns c = λ s t x are can.
    let kept : (with_items c.add_item.new.answers c.keep_answer.new.answers).items ≡ c.keep_answer.new.answers =
    with_items_is c.add_item.new.answers c.keep_answer.new.answers (c.keep_answer.ensures.length ∙ c.deref_mut.ensures.len) in
    followed s t x c.args.entry.now c.args.given c.args.self.now
    (record { answers = with_items c.add_item.new.answers c.keep_answer.new.answers; before_start = c.before_start_after-self.result })
    c.deref_mut.result.now are can
    (c.deref_mut.ensures.value ∙ c.add_item.ensures.answers)
    (c.before_start_after-self.ensures
    ∙ ap (λ (n : ℕ). if is_start c.args.entry.now.act then n else c.args.self.now.before_start) (c.len.ensures ∙ c.args.self.now.answers.ok.0))
    (λ f before. subst (λ (ys : List (Option Given)). KeptByNumber ys (λ k. if length c.deref_mut.result.now == k then or_else c.args.given (f k) else f k))
    (sym kept) (c.keep_answer.ensures.answers f before))
    (ap length kept ∙ c.keep_answer.ensures.length)
    c.add_item.ensures.capacity
