use Rattle.std.proofs.Common.{◌∙◌, sym, ap}
use Rattle.xrf_history.specs.declared.answer.Answer.TheVariants as answer
use Rattle.xrf_trace.specs.Devices.{log_block}
use Rattle.xrf_trace.specs.Handing.{block_answer}
use Rattle.xrf_world.proofs.reading.block_answer.Goals as goal

pub returns-else-has_read : goal.returns-else-has_read
returns-else-has_read c = λ s t stands.
    ap (λ bytes. answer.Anchored bytes c.key_slots.result) (c.new-block.ensures ∙ c.log_block.ensures s t stands)
    ∙ ap (answer.Anchored (log_block s t c.args.block)) (c.key_slots.ensures s t stands)
    ∙ sym (ap (block_answer s t c.args.block) c.if-has_read.false)
