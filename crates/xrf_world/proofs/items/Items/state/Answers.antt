-- What is kept at the place is the answer of its item.
use Rattle.std.proofs.Common.{◌≡◌, ◌&&◌, ◌+◌, Bool, ℕ, List, Option, None, is_some, nat_lt, slice_index_or, ap, ◌∙◌}
use Rattle.xrf_base.specs.declared.items.ItemAnswer.{ItemAnswer as Given}
use Rattle.xrf_trace.specs.Items.{answer}
use Rattle.xrf_trace.specs.Jobs.{hist}
use Rattle.xrf_world.specs.Places.{taken_before_start}
use Rattle.xrf_world.specs.Report.{state_of_item}
use Rattle.xrf_world.proofs.ItemLaws.{kept-answer}
use Rattle.xrf_world.proofs.items.Items.state.Goals as goal

pub returns : goal.returns
returns c = λ s t x are there.
    let awaited : c.is_awaited-is_awaited.result ≡ (is_some (hist s t x) && nat_lt (taken_before_start t x) (c.args.k + 1)) =
    c.is_awaited-is_awaited.ensures ∙ ap (λ (b : Bool). b && nat_lt c.args.self.now.before_start (c.args.k + 1)) there
    ∙ ap (λ (n : ℕ). is_some (hist s t x) && nat_lt n (c.args.k + 1)) are.before_start in
    let given : c.answer_at.result ≡ answer s t x (c.args.k + 1) =
    c.answer_at.ensures ∙ ap (λ (xs : List (Option Given)). slice_index_or xs c.args.k None) c.deref.ensures.value
    ∙ kept-answer s t x c.args.self.now are c.args.k in
    c.state_of_item.ensures ∙ ap (λ (b : Bool). state_of_item b c.answer_at.result) awaited
    ∙ ap (λ (o : Option Given). state_of_item (is_some (hist s t x) && nat_lt (taken_before_start t x) (c.args.k + 1)) o) given
