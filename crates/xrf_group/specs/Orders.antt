-- Orders: which acts of the coordinator place one, and how many are left.
use Rattle.std.specs.Prelude.{ℕ, ◌+◌, ◌-◌, ◌==◌, Bool, false, ◌&&◌, if◌then◌else◌, List, [], ◌∷◌, ◌++◌, codes, slice_index_or}
use Rattle.std.specs.Str.{bytes_eq}
use Rattle.xrf_base.specs.declared.site.Site.{Site}
use Rattle.xrf_base.specs.declared.site.Site.TheVariants as site
use Rattle.xrf_clt.specs.Table.{texts_for}
use Rattle.xrf_setup.specs.Settings.{applid_of}
use Rattle.xrf_setup.specs.declared.choice.Choice.{Choice}
use Rattle.xrf_trace.specs.declared.entry.Act.{Act}
use Rattle.xrf_trace.specs.declared.entry.Act.TheVariants as act
use Rattle.xrf_trace.specs.declared.entry.Entry.{Entry}
use Rattle.xrf_trace.specs.declared.entry.Who.{Who}
use Rattle.xrf_trace.specs.declared.entry.Who.TheVariants as who
use Rattle.xrf_trace.specs.Scenario.{Scen}

-- A move of a group: a script line that was accepted. The choice that it made of its pair, whether that was by an ORDER, and
-- the entry that the choice added. What happened in a group is the list of its moves, the newest first.
pub record Moved : Type 0 where
  pub pair : ℕ
  pub ordered : Bool
  pub choice : Choice
  pub entry : Entry

-- the trace of a pair is the list of its own entries
abbrev pub own : ℕ → List Moved → List Entry
own k [] = []
own k (m ∷ g) = if m.pair == k then m.entry ∷ own k g else own k g

-- and its own choices, the newest first
abbrev pub chosen : ℕ → List Moved → List Choice
chosen k [] = []
chosen k (m ∷ g) = if m.pair == k then m.choice ∷ chosen k g else chosen k g

-- the line of the command list by which an order for a pair is placed; the number is one digit, since there are at most four pairs
abbrev pub order_text : ℕ → List ℕ
order_text k = codes "COMMAND TAKEOVER " ++ (48 + k) ∷ []

-- the line of a number from 1 among those of the applid of a site
abbrev pub clt_line : Scen → Site → ℕ → List ℕ
clt_line s x number = slice_index_or (texts_for (applid_of s.settings x) s.clt) (number - 1) []

abbrev pub line_by : Scen → Who → ℕ → List ℕ
line_by s who.A number = clt_line s site.A number
line_by s who.B number = clt_line s site.B number
line_by s who.Env number = []

-- an act of the coordinator places an order for a pair
abbrev pub places_by : Scen → Who → Act → ℕ → Bool
places_by s x (act.Clt number) k = bytes_eq (line_by s x number) (order_text k)
places_by s x _ k = false

abbrev pub places : Scen → ℕ → Entry → Bool
places s k e = places_by s e.who e.act k

-- the orders for a pair that the coordinator's trace has placed, that were given, and that are left
abbrev pub placed : Scen → ℕ → List Entry → ℕ
placed s k [] = 0
placed s k (e ∷ t) = if places s k e then placed s k t + 1 else placed s k t

abbrev pub given : ℕ → List Moved → ℕ
given k [] = 0
given k (m ∷ g) = if m.pair == k && m.ordered then given k g + 1 else given k g

abbrev pub orders : Scen → List Moved → ℕ → ℕ
orders coordinator g k = placed coordinator k (own 1 g) - given k g
