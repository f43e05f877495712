-- Broken traces: terminals and users that are not sent as they are.
use Rattle.std.specs.Prelude.{true, List, ◌∷◌, ◌++◌, drop, take, codes}
use Rattle.xrf_msg.specs.declared.messages.Message.TheVariants as message
use Rattle.xrf_trace.specs.declared.entry.Act.TheVariants as act
use Rattle.xrf_trace.specs.declared.entry.Entry.{Entry}
use Rattle.xrf_examples.specs.Beginnings.{restarted, caught_up}
use Rattle.xrf_examples.specs.Takeovers.{users_through}
use Rattle.xrf_broken.specs.Steps.{by_a, signed_on}

-- a user has signed on at a terminal, and the active takes the next item without sending that
abbrev pub a_user_is_not_sent : List Entry
a_user_is_not_sent = by_a 1 (act.Item 3) ∷ drop 41 users_through

-- the restarted active has a terminal, and at the next tick catches its alternate up
abbrev catching_up : List Entry
catching_up = take 9 (drop 3 caught_up) ++ signed_on (by_a 0 (act.Item 1) ∷ restarted)

abbrev pub a_catch_up_without_rows : List Entry
a_catch_up_without_rows =
    by_a 1 (act.MsgOpen 1 (message.End 2 1)) ∷
    by_a 1 (act.MsgBody 1 (message.End 2 1)) ∷
    by_a 1 (act.MsgRead 1) ∷
    catching_up

abbrev pub a_catch_up_tells_another_terminal : List Entry
a_catch_up_tells_another_terminal =
    by_a 1 (act.MsgOpen 1 (message.Term 2 1 (codes "T9") 1 true)) ∷
    by_a 1 (act.MsgBody 1 (message.Term 2 1 (codes "T9") 1 true)) ∷
    by_a 1 (act.MsgRead 1) ∷
    catching_up
