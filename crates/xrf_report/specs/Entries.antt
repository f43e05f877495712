-- The texts of entries: an act with what of it landed, and its line.
use Rattle.std.specs.Prelude.{ℕ, ◌+◌, Bool, true, false, if◌then◌else◌, List, [], ◌∷◌, ◌++◌, codes}
use Rattle.std.specs.Fmt.{decimal}
use Rattle.xrf_grammar.specs.Spelling.{hex_text}
use Rattle.xrf_setup.specs.Scenario.{Scen}
use Rattle.xrf_setup.specs.declared.choice.Landing.{Landing}
use Rattle.xrf_setup.specs.declared.choice.Landing.TheVariants.{Nothing, All, Torn}
use Rattle.xrf_trace.specs.declared.entry.Act.{Act}
use Rattle.xrf_trace.specs.declared.entry.Act.TheVariants.{NoAct}
use Rattle.xrf_trace.specs.declared.entry.Entry.{Entry}
use Rattle.xrf_trace.specs.declared.entry.Land.{Land}
use Rattle.xrf_trace.specs.declared.entry.Land.TheVariants.{Full, Lost, Stop, Fail}
use Rattle.xrf_trace.specs.declared.entry.Who.{Who}
use Rattle.xrf_trace.specs.declared.entry.Who.TheVariants.{A, B, Env}
use Rattle.xrf_report.specs.Words.{blank, line}
use Rattle.xrf_report.specs.Acts.{act_text}

-- the site of an entry; a tick and a confirmation have none
abbrev pub who_word : Who → List ℕ
who_word A = codes "A"
who_word B = codes "B"
who_word Env = codes "-"

-- what landed of a write that was cut off
abbrev pub landing_text : Landing → List ℕ
landing_text Nothing = codes "NONE"
landing_text All = codes "ALL"
landing_text (Torn bytes) = codes "TORN " ++ hex_text bytes

-- an act that was cut off
abbrev pub cut_text : Scen → Who → Act → Landing → List ℕ
cut_text s x a cut = act_text s x a ++ blank (landing_text cut)

-- a stop where the next act is no write has no act
abbrev pub is_without_act : Act → Bool
is_without_act NoAct = true
is_without_act _ = false

abbrev pub stop_text : Scen → Who → Act → Landing → List ℕ
stop_text s x a cut = if is_without_act a then codes "STOP" else codes "STOP " ++ cut_text s x a cut

-- an act with what of it landed
abbrev pub made_text : Scen → Who → Act → Land → List ℕ
made_text s x a Full = act_text s x a
made_text s x a Lost = act_text s x a ++ codes " LOST"
made_text s x a (Stop cut) = stop_text s x a cut
made_text s x a (Fail cut) = codes "FAIL " ++ cut_text s x a cut

-- the tick, whose entry it is, the incarnation, and what was made
abbrev pub entry_text : Scen → Entry → List ℕ
entry_text s e = decimal e.tick ++ blank (who_word e.who) ++ blank (decimal e.inc) ++ blank (made_text s e.who e.act e.land)

-- the entry of a number
abbrev pub act_line : Scen → ℕ → Entry → List ℕ
act_line s number e = line (codes "ACT " ++ decimal number ++ blank (entry_text s e))

-- the entries, the oldest first, from a number on
abbrev pub acts_text : Scen → ℕ → List Entry → List ℕ
acts_text s number [] = []
acts_text s number (e ∷ es) = act_line s number e ++ acts_text s (number + 1) es
