-- What a job is answered for its next act, by the trace so far.
use Rattle.std.specs.Prelude.{ℕ, ◌+◌, ◌%◌, Bool, true, false, List, Option, Some, None}
use Rattle.xrf_base.specs.declared.items.Item.{Item}
use Rattle.xrf_base.specs.declared.site.Site.{Site}
use Rattle.xrf_gated.specs.Slots.{bytes_of}
use Rattle.xrf_history.specs.declared.want.Want.{Want}
use Rattle.xrf_history.specs.declared.want.Want.TheVariants as want
use Rattle.xrf_history.specs.declared.answer.Answer.{Answer}
use Rattle.xrf_history.specs.declared.answer.Answer.TheVariants as answer
use Rattle.xrf_history.specs.Events.{Event}
use Rattle.xrf_history.specs.Looking.{record_seen}
use Rattle.xrf_history.specs.Restarting.{has_read_block}
use Rattle.xrf_trace.specs.declared.entry.Entry.{Entry}
use Rattle.xrf_trace.specs.Scenario.{Scen, item_at, other}
use Rattle.xrf_trace.specs.Words.{now, items_taken}
use Rattle.xrf_trace.specs.Devices.{control, sector1, sector2, message_slot, log_slot, key_slot, image, log_block, key_slots}
use Rattle.xrf_trace.specs.Jobs.{known_of}

-- the first LOGREAD is answered with both keypoint slots too
abbrev pub block_answer : Scen → List Entry → ℕ → Bool → Answer
block_answer s t b true = answer.LogBlock (log_block s t b)
block_answer s t b false = answer.Anchored (log_block s t b) (key_slots t)

-- the item, while one is left
abbrev pub item_handed : (at : ℕ) → Option Item → Answer
item_handed at (Some item) = answer.Item item
item_handed at None = answer.Tick at

-- the answer of an act, where it is made in full
abbrev pub answer_of : Scen → List Entry → Site → List Event → Want → Answer
answer_of s t x h want.CtlRead = answer.Ctl (control t) (known_of t (control t))
answer_of s t x h want.Look1 = answer.Look1 (control t) (sector1 t (other x))
answer_of s t x h want.Look2 = answer.Look2 (sector2 t (other x)) (now t)
answer_of s t x h want.Decide = answer.Decide (known_of t (record_seen h)) (now t)
answer_of s t x h (want.MsgRead k) = answer.MsgSlot (bytes_of (message_slot t k))
answer_of s t x h (want.LogRead b) = block_answer s t b (has_read_block h)
answer_of s t x h (want.LogLook p) = answer.Gate (log_slot s t (p % s.settings.log)).gate
answer_of s t x h (want.KpRead k) = answer.Gate (key_slot t k).gate
answer_of s t x h (want.FileRead k) = answer.FileSlot (image s t k)
answer_of s t x h want.Item = item_handed (now t) (item_at s x (items_taken t x + 1))
answer_of s t x h _ = answer.Done (now t)
