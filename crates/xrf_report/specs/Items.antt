-- The lines of the items that were taken.
use Rattle.std.specs.Prelude.{ℕ, zero, suc, List, [], ◌++◌, codes}
use Rattle.std.specs.Fmt.{decimal}
use Rattle.xrf_base.specs.declared.site.Site.{Site}
use Rattle.xrf_grammar.specs.Spelling.{site_word}
use Rattle.xrf_world.specs.Report.{item_state}
use Rattle.xrf_world.specs.declared.state.ItemState.{ItemState}
use Rattle.xrf_world.specs.declared.state.ItemState.TheVariants.{Answered, Pending, Lost}
use Rattle.xrf_setup.specs.Scenario.{Scen}
use Rattle.xrf_trace.specs.declared.entry.Entry.{Entry}
use Rattle.xrf_report.specs.Answers.{answer_text}
use Rattle.xrf_report.specs.Words.{blank, line}

-- an item that is not answered yet is open
abbrev pub state_text : ItemState → List ℕ
state_text (Answered given) = answer_text given
state_text Pending = codes "OPEN"
state_text Lost = codes "LOST"

-- the item of a number from 1 of a site
abbrev pub item_line : Site → ℕ → ItemState → List ℕ
item_line x number state = line (codes "ITEM " ++ site_word x ++ blank (decimal number) ++ blank (state_text state))

-- the first so many items of a site
abbrev pub items_text : Scen → List Entry → Site → ℕ → List ℕ
items_text s t x zero = []
items_text s t x (suc count) = items_text s t x count ++ item_line x (suc count) (item_state s t x (suc count))
