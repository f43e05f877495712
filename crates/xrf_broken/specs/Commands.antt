-- Broken traces: what the operator and the status exit say, and a reply, where it may not come.
use Rattle.std.specs.Prelude.{true, List, ◌∷◌}
use Rattle.xrf_base.specs.declared.site.Takeovr.TheVariants as takeovr
use Rattle.xrf_cebt.specs.declared.commands.Cebt.TheVariants as cebt
use Rattle.xrf_cebt.specs.declared.replies.CebtReply.TheVariants as reply
use Rattle.xrf_exit.specs.declared.ExitAnswer.TheVariants as exit
use Rattle.xrf_trace.specs.declared.entry.Act.TheVariants as act
use Rattle.xrf_trace.specs.declared.entry.Entry.{Entry}
use Rattle.xrf_examples.specs.Beginnings.{restarted, tracking}
use Rattle.xrf_broken.specs.Steps.{by_a, by_b}

-- TAKEOVR is MANUAL
abbrev pub a_cebt_tells_a_wrong_mode : List Entry
a_cebt_tells_a_wrong_mode = by_b 0 (act.Cebt cebt.InquireTakeover (reply.TakeoverMode takeovr.Auto)) ∷ tracking

abbrev pub a_go_answers_no_question : List Entry
a_go_answers_no_question = by_b 0 (act.Reply true) ∷ tracking

abbrev pub an_exit_answers_no_notice : List Entry
an_exit_answers_no_notice = by_a 0 (act.Exit exit.Abend) ∷ restarted
