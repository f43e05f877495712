-- Rows, items and messages whose names are names.
use Rattle.std.specs.Prelude.{List, [], ◌∷◌, IfSome, ℕ}
use Rattle.xrf_base.specs.Names.{IsName}
use Rattle.xrf_base.specs.declared.items.Item.{Item}
use Rattle.xrf_base.specs.declared.site.Site.{Site}
use Rattle.xrf_base.specs.declared.items.Item.TheVariants as items
use Rattle.xrf_msg.specs.Messages.{IsUser}
use Rattle.xrf_terms.specs.declared.rows.Row.{Row}
use Rattle.xrf_trace.specs.Scenario.{Scen, item_at}

-- a row whose terminal and user are names
pub record RowNamed (row : Row) : Type 0 where
  pub term : IsName row.term
  pub user : IsUser row.user

-- each of some rows
abbrev pub AreNamed : List Row → Type 0
AreNamed [] = Unit {0}
AreNamed (row ∷ rows) = RowNamed row × AreNamed rows

-- the terminals that come on, and the users that sign on, have names
abbrev pub ItemNamed : Item → Type 0
ItemNamed (items.Logon term class) = IsName term
ItemNamed (items.Signon term user) = IsName user
ItemNamed _ = Unit {0}

-- the items of a scenario
abbrev pub ItemsNamed : Scen → Type 0
ItemsNamed s = (x : Site) (k : ℕ) → IfSome (item_at s x k) ItemNamed
