-- The lines of terminal tables.
use Rattle.std.specs.Prelude.{ℕ, List, [], ◌∷◌, ◌++◌, codes, Option}
use Rattle.std.specs.Fmt.{decimal}
use Rattle.xrf_base.specs.declared.site.Site.{Site}
use Rattle.xrf_grammar.specs.Spelling.{site_word}
use Rattle.xrf_setup.specs.declared.format.Format.{Format}
use Rattle.xrf_setup.specs.declared.format.Format.TheVariants.{One, Two}
use Rattle.xrf_terms.specs.declared.rows.How.{How}
use Rattle.xrf_terms.specs.declared.rows.How.TheVariants.{On, Tracked, Switched, Acquired}
use Rattle.xrf_terms.specs.declared.rows.Row.{Row}
use Rattle.xrf_report.specs.Messages.{user_text}
use Rattle.xrf_report.specs.Words.{blank, line}

abbrev pub how_word : How → List ℕ
how_word On = codes "ON"
how_word Tracked = codes "TRACKED"
how_word Switched = codes "SWITCHED"
how_word Acquired = codes "ACQUIRED"

-- Documents of XRF 2 alone tell the user of a row.
abbrev pub row_user_text : Format → Option (List ℕ) → List ℕ
row_user_text One user = []
row_user_text Two user = blank (user_text user)

-- the row of a terminal in the table of a site: name, class, and how it came there
abbrev pub row_text : Format → Row → List ℕ
row_text xrf row = row.term ++ blank (decimal row.class) ++ blank (how_word row.how) ++ row_user_text xrf row.user

abbrev pub row_line : Format → Site → Row → List ℕ
row_line xrf x row = line (codes "TERM " ++ site_word x ++ blank (row_text xrf row))

-- the rows of a table, in their order
abbrev pub rows_text : Format → Site → List Row → List ℕ
rows_text xrf x [] = []
rows_text xrf x (row ∷ rows) = row_line xrf x row ++ rows_text xrf x rows
