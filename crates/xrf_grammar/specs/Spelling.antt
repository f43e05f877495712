-- How a choice and a work item are written.
use Rattle.std.specs.Prelude.{ℕ, Bool, true, false, ◌+◌, ◌/◌, ◌%◌, nat_lt, List, [], ◌∷◌, ◌++◌, flat_map, codes, if◌then◌else◌}
use Rattle.std.specs.Fmt.{decimal}
use Rattle.xrf_base.specs.declared.site.Site.{Site}
use Rattle.xrf_base.specs.declared.site.Site.TheVariants.{A, B}
use Rattle.xrf_base.specs.declared.items.Item.{Item}
use Rattle.xrf_base.specs.declared.items.Item.TheVariants as item
use Rattle.xrf_cebt.specs.Command.{command_text}
use Rattle.xrf_exit.specs.declared.ExitAnswer.{ExitAnswer}
use Rattle.xrf_exit.specs.declared.ExitAnswer.TheVariants.{Abend, Keep, Drop}
use Rattle.xrf_grammar.specs.declared.writing.Piece.{Piece}
use Rattle.xrf_grammar.specs.declared.writing.Piece.TheVariants.{Text, Number, Hex}
use Rattle.xrf_setup.specs.declared.choice.Landing.{Landing}
use Rattle.xrf_setup.specs.declared.choice.Landing.TheVariants.{Nothing, All, Torn}
use Rattle.xrf_setup.specs.declared.choice.Choice.{Choice}
use Rattle.xrf_setup.specs.declared.choice.Choice.TheVariants as choice

-- 0 to 9 and a to f
abbrev pub hex_digit : ℕ → ℕ
hex_digit n = if nat_lt n 10 then 48 + n else 87 + n

abbrev pub hex_text : List ℕ → List ℕ
hex_text bytes = flat_map (λ b. hex_digit (b / 16) ∷ hex_digit (b % 16) ∷ []) bytes

abbrev pub piece_text : Piece → List ℕ
piece_text (Text bytes) = bytes.now
piece_text (Number number) = decimal number
piece_text (Hex bytes) = hex_text bytes.now

-- the text of pieces, one after the other
abbrev pub pieces_text : List Piece → List ℕ
pieces_text pieces = flat_map piece_text pieces

abbrev pub site_word : Site → List ℕ
site_word A = codes "A"
site_word B = codes "B"

abbrev pub answer_word : ExitAnswer → List ℕ
answer_word Abend = codes "ABEND"
answer_word Keep = codes "KEEP"
answer_word Drop = codes "DROP"

-- a word, a blank, a site and what stands behind it
abbrev pub site_text : List ℕ → Site → List ℕ → List ℕ
site_text word site more = word ++ codes " " ++ site_word site ++ more

abbrev pub landed_text : List ℕ → Site → Landing → List ℕ
landed_text word site Nothing = site_text word site (codes " NONE")
landed_text word site All = site_text word site (codes " ALL")
landed_text word site (Torn torn) = site_text word site (codes " TORN " ++ hex_text torn)

abbrev pub go_text : Site → Bool → List ℕ
go_text site true = site_text (codes "REPLY") site (codes " GO")
go_text site false = site_text (codes "REPLY") site (codes " IGNORE")

abbrev pub choice_text : Choice → List ℕ
choice_text choice.Tick = codes "TICK"
choice_text (choice.Step site) = site_text (codes "STEP") site []
choice_text (choice.Lose site) = site_text (codes "LOSE") site []
choice_text (choice.Stop site landing) = landed_text (codes "STOP") site landing
choice_text (choice.Fail site landing) = landed_text (codes "FAIL") site landing
choice_text (choice.StartActive site) = site_text (codes "START") site (codes " ACTIVE")
choice_text (choice.StartStandby site) = site_text (codes "START") site (codes " STANDBY")
choice_text (choice.Abend site) = site_text (codes "ABEND") site []
choice_text (choice.Confirm number) = codes "CONFIRM " ++ decimal number
choice_text (choice.Reply site go) = go_text site go
choice_text (choice.Cebt site command) = site_text (codes "CEBT") site (codes " " ++ command_text command)
choice_text (choice.Exit site answer) = site_text (codes "EXIT") site (codes " " ++ answer_word answer)

abbrev pub item_text : Item → List ℕ
item_text (item.Begin unit) = codes "BEGIN " ++ unit
item_text (item.Put unit number value) = codes "PUT " ++ unit ++ codes " " ++ decimal number ++ codes " " ++ value
item_text (item.Get unit number) = codes "GET " ++ unit ++ codes " " ++ decimal number
item_text (item.Commit unit) = codes "COMMIT " ++ unit
item_text (item.Roll unit) = codes "ROLL " ++ unit
item_text (item.Logon terminal class) = codes "LOGON " ++ terminal ++ codes " " ++ decimal class
item_text (item.Logoff terminal) = codes "LOGOFF " ++ terminal
item_text item.Shutdown = codes "CEMT SHUTDOWN"
item_text item.ShutdownTakeover = codes "CEMT SHUTDOWN TAKEOVER"
item_text (item.Signon terminal user) = codes "SIGNON " ++ terminal ++ codes " " ++ user
item_text (item.Signoff terminal) = codes "SIGNOFF " ++ terminal

-- a line of work
abbrev pub work_text : Site → Item → List ℕ
work_text site i = site_text (codes "WORK") site (codes " " ++ item_text i)
