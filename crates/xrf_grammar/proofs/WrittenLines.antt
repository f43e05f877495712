-- The words of what is written of a line, and the form of which they are.
use Rattle.std.proofs.Common.{◌≡◌, ◌+◌, ◌⊎◌, inl, inr, if◌then◌else◌, ◌≤◌, ℕ, Bool, true, false, List, [], ◌∷◌, ◌++◌, append_assoc, append-nil, Some, codes, refl, sym, ◌∙◌, ap, subst, arith}
use Rattle.std.specs.Fmt.{decimal}
use Rattle.std.specs.List.{join_with_byte}
use Rattle.std.proofs.lemmas.Bool.{le-leb}
use Rattle.xrf_base.specs.Names.{IsName, name_of}
use Rattle.xrf_base.specs.Values.{IsValue, value_of}
use Rattle.xrf_base.specs.declared.items.Item.{Item}
use Rattle.xrf_base.specs.declared.items.Item.TheVariants as item
use Rattle.xrf_base.specs.declared.site.Site.{Site}
use Rattle.xrf_base.specs.declared.site.Takeovr.TheVariants.{Auto, Manual, Command}
use Rattle.xrf_setup.specs.declared.choice.Choice.{Choice}
use Rattle.xrf_setup.specs.declared.choice.Choice.TheVariants as choice
use Rattle.xrf_grammar.specs.declared.form.ChoiceForm.TheVariants as by
use Rattle.xrf_grammar.specs.declared.form.Form.{Form}
use Rattle.xrf_grammar.specs.declared.form.Form.TheVariants as table
use Rattle.xrf_setup.specs.declared.format.Format.{Format}
use Rattle.xrf_setup.specs.declared.format.Format.TheVariants.{One, Two}
use Rattle.xrf_grammar.specs.declared.form.ItemForm.{ItemForm}
use Rattle.xrf_grammar.specs.declared.form.ItemForm.TheVariants as work
use Rattle.xrf_grammar.specs.declared.form.Part.{Part}
use Rattle.xrf_grammar.specs.declared.form.Part.TheVariants.{Keyword as Key, Refused}
use Rattle.xrf_grammar.specs.declared.quantity.Quantity.{Quantity as Measured}
use Rattle.xrf_grammar.specs.declared.line.Line.{Line}
use Rattle.xrf_grammar.specs.declared.line.Line.TheVariants.{Applid, Takeovr, Quantity, Images, Level, Xrfsoff, Record, Clt, Work, Plan, Choices, Once, Times, End}
use Rattle.xrf_grammar.specs.declared.reason.Reason.TheVariants.{BadPlan}
use Rattle.xrf_grammar.specs.Grammar.{AreOfForm, IsAmong, IsOfPart, Unless}
use Rattle.xrf_setup.specs.Ranges.{IsIn}
use Rattle.xrf_grammar.specs.LineText.{IsSetting, IsChoosing, is_timed, line_text}
use Rattle.xrf_setup.specs.Items.{IsItemOf, has_users, HasItem, IsClass}
use Rattle.xrf_setup.specs.Choices.{is_planned, HasLine}
use Rattle.xrf_grammar.specs.Operands.{class_of}
use Rattle.xrf_grammar.specs.Quantities.{quantity_text, place_of, range_of}
use Rattle.xrf_grammar.specs.Saying.{item_said, said}
use Rattle.xrf_grammar.specs.Spelling.{site_word, choice_text, item_text}
use Rattle.xrf_grammar.specs.Table.{behind_plan, choice_parts, choices_table, is_of_two, parts_of, settings_of, settings_of_two, work_parts}
use Rattle.xrf_grammar.proofs.Listed.{after_quantities, at_place, listed, in_both, in_two, choice-listed, plan-listed, choice-short, plan-short}
use Rattle.xrf_grammar.proofs.NumberLaws.{number-of-decimal}
use Rattle.xrf_grammar.proofs.PlainLaws.{is_short}
use Rattle.xrf_grammar.proofs.QuantityLaws.{is-quantity, quantity-most, quantity-word}
use Rattle.xrf_grammar.proofs.WrittenChoices.{choice-written, is_taken, number-is, site-again, site-is}

-- the words of what is written of a line, and the form of which they are
pub record Written (forms : List Form) (line : Line) : Type 0 where
  pub form : Form
  pub ws : List (List ℕ)
  pub joined : line_text line ≡ join_with_byte 32 ws
  pub among : IsAmong form forms
  pub fit : AreOfForm (parts_of form) ws
  pub says : said form ws ≡ Some line
  pub short : is_short (parts_of form) ≡ true

-- names are read as they are
name-again : (name : List ℕ) → IsName name → name_of name ≡ Some name
name-again name is = rw is refl

-- values are read as they are
value-again : (value : List ℕ) → IsValue value → value_of value ≡ Some value
value-again value is = rw is refl

-- the classes 1 to 3 are read as they are
class-again : (class : ℕ) → IsClass class → class_of (decimal class) ≡ Some class
class-again class is =
    let most : class ≤ 3 = is.1 in
    rw (number-of-decimal class (omega (arith, most))) (rw (le-leb 1 class is.0) (rw (le-leb class 3 is.1) refl))

-- a number in a range is at most 65535
in-range : (least most n : ℕ) → IsIn least most n → most ≤ 65535 → n ≤ 65535
in-range least most n h fits = let high : n ≤ most = h.1 in omega (arith, high, fits)

-- two texts with a blank between them
two-parts : (one two : List ℕ) → (one ++ codes " ") ++ two ≡ one ++ (32 ∷ two)
two-parts one two = append_assoc one (codes " ") two

-- three texts with blanks between them
three-parts : (one two three : List ℕ) → (((one ++ codes " ") ++ two) ++ codes " ") ++ three ≡ one ++ (32 ∷ (two ++ (32 ∷ three)))
three-parts one two three = append_assoc ((one ++ codes " ") ++ two) (codes " ") three ∙ append_assoc (one ++ codes " ") two (32 ∷ three) ∙ append_assoc one (codes " ") (two ++ (32 ∷ three))

-- the words of what is written of a work item, behind WORK and a site
record ItemWords (site : Site) (i : Item) : Type 0 where
  form : ItemForm
  place : ℕ
  stands : at_place place settings_of_two ≡ Some (table.Work form)
  word : List ℕ
  more : List (List ℕ)
  joined : item_text i ≡ join_with_byte 32 (word ∷ more)
  fit : AreOfForm (work_parts form) (codes "WORK" ∷ site_word site ∷ word ∷ more)
  says : item_said form (codes "WORK" ∷ site_word site ∷ word ∷ more) ≡ Some i
  users : is_of_two (table.Work form) ≡ has_users i
  short : is_short (work_parts form) ≡ true

-- each item that a line can spell is written by words of a form
item-written : (site : Site) (i : Item) → HasItem i → ItemWords site i
item-written site (item.Begin unit) h = record {
  form = work.Begin;
  place = after_quantities 9;
  stands = refl;
  word = codes "BEGIN";
  more = unit ∷ [];
  joined = refl;
  fit = (refl, (site-is site, (refl, (h, tt))));
  says = rw (name-again unit h) refl;
  users = refl;
  short = refl;
}
item-written site (item.Put unit number value) h = record {
  form = work.Put;
  place = after_quantities 10;
  stands = refl;
  word = codes "PUT";
  more = unit ∷ decimal number ∷ value ∷ [];
  joined = ap (λ (t : List ℕ). codes "PUT " ++ t) (three-parts unit (decimal number) value);
  fit = (refl, (site-is site, (refl, (h.0, (number-is 0 65535 number (omega arith, h.1) (omega arith), (h.2, tt))))));
  says = rw (name-again unit h.0) (rw (number-of-decimal number h.1) (rw (value-again value h.2) refl));
  users = refl;
  short = refl;
}
item-written site (item.Get unit number) h = record {
  form = work.Get;
  place = after_quantities 11;
  stands = refl;
  word = codes "GET";
  more = unit ∷ decimal number ∷ [];
  joined = ap (λ (t : List ℕ). codes "GET " ++ t) (two-parts unit (decimal number));
  fit = (refl, (site-is site, (refl, (h.0, (number-is 0 65535 number (omega arith, h.1) (omega arith), tt)))));
  says = rw (name-again unit h.0) (rw (number-of-decimal number h.1) refl);
  users = refl;
  short = refl;
}
item-written site (item.Commit unit) h = record {
  form = work.Commit;
  place = after_quantities 12;
  stands = refl;
  word = codes "COMMIT";
  more = unit ∷ [];
  joined = refl;
  fit = (refl, (site-is site, (refl, (h, tt))));
  says = rw (name-again unit h) refl;
  users = refl;
  short = refl;
}
item-written site (item.Roll unit) h = record {
  form = work.Roll;
  place = after_quantities 13;
  stands = refl;
  word = codes "ROLL";
  more = unit ∷ [];
  joined = refl;
  fit = (refl, (site-is site, (refl, (h, tt))));
  says = rw (name-again unit h) refl;
  users = refl;
  short = refl;
}
item-written site (item.Logon terminal class) h = record {
  form = work.Logon;
  place = after_quantities 14;
  stands = refl;
  word = codes "LOGON";
  more = terminal ∷ decimal class ∷ [];
  joined = ap (λ (t : List ℕ). codes "LOGON " ++ t) (two-parts terminal (decimal class));
  fit = (refl, (site-is site, (refl, (h.0, (number-is 1 3 class h.1 (omega arith), tt)))));
  says = rw (name-again terminal h.0) (rw (class-again class h.1) refl);
  users = refl;
  short = refl;
}
item-written site (item.Logoff terminal) h = record {
  form = work.Logoff;
  place = after_quantities 15;
  stands = refl;
  word = codes "LOGOFF";
  more = terminal ∷ [];
  joined = refl;
  fit = (refl, (site-is site, (refl, (h, tt))));
  says = rw (name-again terminal h) refl;
  users = refl;
  short = refl;
}
item-written site (item.Signon terminal user) h = record {
  form = work.Signon;
  place = after_quantities 16;
  stands = refl;
  word = codes "SIGNON";
  more = terminal ∷ user ∷ [];
  joined = ap (λ (t : List ℕ). codes "SIGNON " ++ t) (two-parts terminal user);
  fit = (refl, (site-is site, (refl, (h.0, (h.1, tt)))));
  says = rw (name-again terminal h.0) (rw (name-again user h.1) refl);
  users = refl;
  short = refl;
}
item-written site (item.Signoff terminal) h = record {
  form = work.Signoff;
  place = after_quantities 17;
  stands = refl;
  word = codes "SIGNOFF";
  more = terminal ∷ [];
  joined = refl;
  fit = (refl, (site-is site, (refl, (h, tt))));
  says = rw (name-again terminal h) refl;
  users = refl;
  short = refl;
}
item-written site item.Shutdown h = record {
  form = work.Shutdown;
  place = after_quantities 18;
  stands = refl;
  word = codes "CEMT";
  more = codes "SHUTDOWN" ∷ [];
  joined = refl;
  fit = (refl, (site-is site, (refl, (refl, tt))));
  says = refl;
  users = refl;
  short = refl;
}
item-written site item.ShutdownTakeover h = record {
  form = work.ShutdownTakeover;
  place = after_quantities 19;
  stands = refl;
  word = codes "CEMT";
  more = codes "SHUTDOWN" ∷ codes "TAKEOVER" ∷ [];
  joined = refl;
  fit = (refl, (site-is site, (refl, (refl, (refl, tt)))));
  says = refl;
  users = refl;
  short = refl;
}

-- the form of an item that a format has is among its settings
work-among : (format : Format) (site : Site) (i : Item) (w : ItemWords site i) → (format ≡ Two) ⊎ (has_users i ≡ false) → IsAmong (table.Work w.form) (settings_of format)
work-among format site i w (inl two) = in_two format w.place (table.Work w.form) w.stands two
work-among format site i w (inr none) = in_both format w.place (table.Work w.form) w.stands (w.users ∙ none)

-- what a format lets an item be
item-has : (format : Format) (i : Item) → IsItemOf format i → HasItem i × ((format ≡ Two) ⊎ (has_users i ≡ false))
item-has One i h = (h.0, inr h.1)
item-has Two i h = (h, inl refl)

-- a line of work that a format has is written by words of a form
work-written : (format : Format) (site : Site) (i : Item) → IsItemOf format i → Written (settings_of format) (Work site i)
work-written format site i h =
    let has = item-has format i h in
    let w = item-written site i has.0 in
    record {
      form = table.Work w.form;
      ws = codes "WORK" ∷ site_word site ∷ w.word ∷ w.more;
      joined = ap (λ (t : List ℕ). codes "WORK " ++ (site_word site ++ 32 ∷ t)) w.joined;
      among = work-among format site i w has.1;
      fit = w.fit;
      says = rw (site-again site) (rw w.says refl);
      short = w.short;
    }

-- words of a form that begins with a keyword that PLAN takes are also of it behind PLAN
taken-fit : (parts : List Part) (ws : List (List ℕ)) → is_taken parts ≡ true → AreOfForm parts ws → AreOfForm (behind_plan parts) ws
taken-fit (Key keyword reason ∷ parts) [] taken of = absurd of
taken-fit (Key keyword reason ∷ parts) (word ∷ ws) taken of =
    subst (λ (t : Bool). AreOfForm ((if t then Key keyword BadPlan else Refused keyword BadPlan) ∷ parts) (word ∷ ws)) (sym taken) of
taken-fit _ ws taken of = absurd (cc)

-- a planned choice is written by words of a form
plan-written : (format : Format) (tick : ℕ) (c : Choice) → IsIn 0 200 tick → is_planned c ≡ true → HasLine c → Written (settings_of format) (Plan tick c)
plan-written format tick c range planned h =
    let w = choice-written c h in
    let fits = in-range 0 200 tick range (omega arith) in
    record {
      form = table.Plan w.form;
      ws = codes "PLAN" ∷ decimal tick ∷ w.word ∷ w.more;
      joined = ap (λ (t : List ℕ). codes "PLAN " ++ t) (two-parts (decimal tick) (choice_text c) ∙ ap (λ (t : List ℕ). decimal tick ++ 32 ∷ t) w.joined);
      among = plan-listed format w.form;
      fit = (refl, (number-is 0 200 tick range (omega arith), taken-fit (choice_parts w.form) (w.word ∷ w.more) (w.planned ∙ planned) w.fit));
      says = rw (number-of-decimal tick fits) (rw w.says refl);
      short = plan-short w.form;
    }

-- a word of the part of a number is of all parts that are left
number-fit : (quantity : Measured) (word : List ℕ) → IsOfPart (range_of quantity) word → AreOfForm (range_of quantity ∷ []) (word ∷ [])
number-fit quantity word is = subst (λ (t : Bool). Unless t (IsOfPart (range_of quantity) word × Unit {0})) (sym (is-quantity quantity).one_word) (is, tt)

-- each line before the choices that a format has is written by words of a form
pub setting-written : (format : Format) (line : Line) → IsSetting format line → Written (settings_of format) line
setting-written format (Applid site name) h = record {
  form = table.Applid;
  ws = codes "APPLID" ∷ site_word site ∷ name ∷ [];
  joined = refl;
  among = in_both format 0 table.Applid refl refl;
  fit = (refl, (site-is site, (h, tt)));
  says = rw (site-again site) (rw (name-again name h) refl);
  short = refl;
}
setting-written format (Takeovr Auto) h = record {
  form = table.Takeovr Auto;
  ws = codes "TAKEOVR" ∷ codes "AUTO" ∷ [];
  joined = refl;
  among = in_both format 1 (table.Takeovr Auto) refl refl;
  fit = (refl, (refl, tt));
  says = refl;
  short = refl;
}
setting-written format (Takeovr Manual) h = record {
  form = table.Takeovr Manual;
  ws = codes "TAKEOVR" ∷ codes "MANUAL" ∷ [];
  joined = refl;
  among = in_both format 2 (table.Takeovr Manual) refl refl;
  fit = (refl, (refl, tt));
  says = refl;
  short = refl;
}
setting-written format (Takeovr Command) h = record {
  form = table.Takeovr Command;
  ws = codes "TAKEOVR" ∷ codes "COMMAND" ∷ [];
  joined = refl;
  among = in_both format 3 (table.Takeovr Command) refl refl;
  fit = (refl, (refl, tt));
  says = refl;
  short = refl;
}
setting-written format (Quantity quantity n) h = record {
  form = table.Quantity quantity;
  ws = quantity_text quantity ∷ decimal n ∷ [];
  joined = two-parts (quantity_text quantity) (decimal n);
  among = in_both format (4 + place_of quantity) (table.Quantity quantity) (is-quantity quantity).listed refl;
  fit = (refl, number-fit quantity (decimal n) (quantity-word quantity n h));
  says = rw (number-of-decimal n (quantity-most quantity n h)) refl;
  short = (is-quantity quantity).short;
}
setting-written format (Images true) h = record {
  form = table.Images true;
  ws = codes "IMAGES" ∷ codes "ON" ∷ [];
  joined = refl;
  among = in_both format (after_quantities 0) (table.Images true) refl refl;
  fit = (refl, (refl, tt));
  says = refl;
  short = refl;
}
setting-written format (Images false) h = record {
  form = table.Images false;
  ws = codes "IMAGES" ∷ codes "OFF" ∷ [];
  joined = refl;
  among = in_both format (after_quantities 1) (table.Images false) refl refl;
  fit = (refl, (refl, tt));
  says = refl;
  short = refl;
}
setting-written format (Level site n) h = record {
  form = table.Level;
  ws = codes "LEVEL" ∷ site_word site ∷ decimal n ∷ [];
  joined = refl;
  among = in_two format (after_quantities 2) table.Level refl h.0;
  fit = (refl, (site-is site, (number-is 1 2 n h.1 (omega arith), tt)));
  says = rw (site-again site) (rw (number-of-decimal n (in-range 1 2 n h.1 (omega arith))) refl);
  short = refl;
}
setting-written format (Xrfsoff true) h = record {
  form = table.Xrfsoff true;
  ws = codes "XRFSOFF" ∷ codes "FORCE" ∷ [];
  joined = refl;
  among = in_two format (after_quantities 3) (table.Xrfsoff true) refl h;
  fit = (refl, (refl, tt));
  says = refl;
  short = refl;
}
setting-written format (Xrfsoff false) h = record {
  form = table.Xrfsoff false;
  ws = codes "XRFSOFF" ∷ codes "NOFORCE" ∷ [];
  joined = refl;
  among = in_two format (after_quantities 4) (table.Xrfsoff false) refl h;
  fit = (refl, (refl, tt));
  says = refl;
  short = refl;
}
setting-written format (Record n value) h = record {
  form = table.Record;
  ws = codes "RECORD" ∷ decimal n ∷ value ∷ [];
  joined = ap (λ (t : List ℕ). codes "RECORD " ++ t) (two-parts (decimal n) value);
  among = in_both format (after_quantities 5) table.Record refl refl;
  fit = (refl, (number-is 1 256 n h.0 (omega arith), (h.1, tt)));
  says = rw (number-of-decimal n (in-range 1 256 n h.0 (omega arith))) (rw (value-again value h.1) refl);
  short = refl;
}
setting-written format (Work site i) h = work-written format site i h
setting-written format (Plan tick c) h = plan-written format tick c h.0 h.1 h.2
setting-written format Choices h = record {
  form = table.Choices;
  ws = codes "CHOICES" ∷ [];
  joined = refl;
  among = in_both format (after_quantities 49) table.Choices refl refl;
  fit = (refl, tt);
  says = refl;
  short = refl;
}
setting-written format Clt h = absurd h
setting-written format (Once c) h = absurd h
setting-written format (Times c count) h = absurd h
setting-written format End h = absurd h

-- a choice with its count is written by words of a form
times-written : (c : Choice) (count : ℕ) → is_timed c ≡ true → IsIn 1 9999 count → Written choices_table (Times c count)
times-written choice.Tick count timed h = record {
  form = table.Choice by.TickTimes;
  ws = codes "TICK" ∷ decimal count ∷ [];
  joined = refl;
  among = choice-listed by.TickTimes;
  fit = (refl, (number-is 1 9999 count h (omega arith), tt));
  says = rw (number-of-decimal count (in-range 1 9999 count h (omega arith))) refl;
  short = refl;
}
times-written (choice.Step site) count timed h = record {
  form = table.Choice by.StepTimes;
  ws = codes "STEP" ∷ site_word site ∷ decimal count ∷ [];
  joined = ap (λ (t : List ℕ). codes "STEP " ++ t) (two-parts (site_word site ++ []) (decimal count) ∙ ap (λ (t : List ℕ). t ++ 32 ∷ decimal count) (append-nil (site_word site)));
  among = choice-listed by.StepTimes;
  fit = (refl, (site-is site, (number-is 1 9999 count h (omega arith), tt)));
  says = rw (site-again site) (rw (number-of-decimal count (in-range 1 9999 count h (omega arith))) refl);
  short = refl;
}
times-written _ count timed h = absurd (cc)

-- so is a choice without one
once-written : (c : Choice) → HasLine c → Written choices_table (Once c)
once-written c h =
    let w = choice-written c h in
    record {
      form = table.Choice w.form;
      ws = w.word ∷ w.more;
      joined = w.joined;
      among = choice-listed w.form;
      fit = w.fit;
      says = rw w.says (w.once (w.word ∷ w.more));
      short = choice-short w.form;
    }

-- each line of the choices is written by words of a form
pub choosing-written : (line : Line) → IsChoosing line → Written choices_table line
choosing-written (Once c) h = once-written c h
choosing-written (Times c count) h = times-written c count h.0 h.1
choosing-written End h = record {
  form = table.End;
  ws = codes "END" ∷ [];
  joined = refl;
  among = listed 29 choices_table table.End refl;
  fit = (refl, tt);
  says = refl;
  short = refl;
}
choosing-written _ h = absurd h
