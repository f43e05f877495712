-- What some words spell by forms of a table is what they say by the table.
use Rattle.std.proofs.Common.{◌≡◌, inl, inr, ℕ, Bool, true, false, List, ◌∷◌, Option, Some, None, Ok, IfSome, refl, sym, ap, ◌∙◌, subst}
use Rattle.xrf_grammar.specs.declared.form.Form.{Form}
use Rattle.xrf_setup.specs.declared.format.Format.{Format}
use Rattle.xrf_grammar.specs.declared.form.Part.{Part}
use Rattle.xrf_grammar.specs.declared.line.Line.{Line}
use Rattle.xrf_grammar.specs.Fitting.{takes_all}
use Rattle.xrf_grammar.specs.Grammar.{Unless, IsOfPart, AreOfForm, IsAmong, AreAmong, Spells}
use Rattle.xrf_grammar.specs.Reading.{line_of}
use Rattle.xrf_grammar.specs.Saying.{said}
use Rattle.xrf_grammar.specs.Table.{parts_of, settings_of, choices_table}
use Rattle.xrf_grammar.proofs.ApartLaws.{line-again, settings-apart, choices-apart}

-- a word of a part, and words of the parts behind it
pub of_both : (part : Part) (parts : List Part) (word : List ℕ) (ws : List (List ℕ)) → IsOfPart part word → AreOfForm parts ws → AreOfForm (part ∷ parts) (word ∷ ws)
of_both part parts word ws here later = by (takes_all part parts)
  where
    by : (b : Bool) → Unless b (IsOfPart part word × AreOfForm parts ws)
    by true = tt
    by false = (here, later)

-- a part that takes all words that are left
pub of_rest : (part : Part) (parts : List Part) (word : List ℕ) (ws : List (List ℕ)) → takes_all part parts ≡ true → AreOfForm (part ∷ parts) (word ∷ ws)
of_rest part parts word ws all = subst (λ (b : Bool). Unless b (IsOfPart part word × AreOfForm parts ws)) (sym all) tt

-- the words are of the first form
pub found_here : (form : Form) (more : List Form) (ws : List (List ℕ)) → AreOfForm (parts_of form) ws → IsAmong form (form ∷ more) × AreOfForm (parts_of form) ws
found_here form more ws fit = (inl refl, fit)

-- they are of a later form
pub found_later : (form : Form) (more : List Form) (ws : List (List ℕ)) (r : Option Form) → IfSome r (λ f. IsAmong f more × AreOfForm (parts_of f) ws)
    → IfSome r (λ f. IsAmong f (form ∷ more) × AreOfForm (parts_of f) ws)
found_later form more ws None s = tt
found_later form more ws (Some f) s = (inr s.0, s.1)

-- what the words of a form say is spelled by it
pub spelled_by : (form : Form) (forms : List Form) (ws : List (List ℕ)) (r : Option Line) → IsAmong form forms → AreOfForm (parts_of form) ws → r ≡ said form ws
    → IfSome r (λ says. Spells forms ws says)
spelled_by form forms ws None among fit e = tt
spelled_by form forms ws (Some says) among fit e = record { form = form; among = among; fit = fit; line = sym e }

by-table : (forms all : List Form) (ws : List (List ℕ)) (says : Line) → AreAmong forms all → Spells forms ws says → Spells all ws says
by-table forms all ws says among s = record { form = s.form; among = among s.form s.among; fit = s.fit; line = s.line }

-- what some forms of a table spell is spelled by the table
pub by_table : (forms all : List Form) (ws : List (List ℕ)) (r : Option Line) → AreAmong forms all → IfSome r (λ says. Spells forms ws says) → IfSome r (λ says. Spells all ws says)
by_table forms all ws None among s = tt
by_table forms all ws (Some says) among s = by-table forms all ws says among s

-- a line before the choices, of which these are the words
pub setting_read : (format : Format) (ws held : List (List ℕ)) (r : Option Line) → held ≡ ws → IfSome r (λ says. Spells (settings_of format) held says)
    → IfSome r (λ says. Ok says ≡ line_of (settings_of format) ws)
setting_read format ws held None same s = tt
setting_read format ws held (Some says) same s =
    sym (line-again (settings_of format) ws says (settings-apart format) (subst (λ (l : List (List ℕ)). Spells (settings_of format) l says) same s))

-- a line before the choices that begins with a key
pub setting_behind : (format : Format) (ws more : List (List ℕ)) (word key : List ℕ) (r : Option Line) → ws ≡ word ∷ more → word ≡ key → IfSome r (λ says. Spells (settings_of format) (key ∷ more) says)
    → IfSome r (λ says. Ok says ≡ line_of (settings_of format) ws)
setting_behind format ws more word key r first is s =
    setting_read format ws (key ∷ more) r (sym (first ∙ ap (λ (w : List ℕ). w ∷ more) is)) s

-- a line behind CHOICES, of which these are the words
pub choice_read : (forms : List Form) (ws held : List (List ℕ)) (r : Option Line) → AreAmong forms choices_table → held ≡ ws → IfSome r (λ says. Spells forms held says)
    → IfSome r (λ says. Ok says ≡ line_of choices_table ws)
choice_read forms ws held None among same s = tt
choice_read forms ws held (Some says) among same s =
    let of : Spells forms ws says = subst (λ (l : List (List ℕ)). Spells forms l says) same s in
    sym (line-again choices_table ws says choices-apart (by-table forms choices_table ws says among of))
