-- The words of what is written of a choice, and the form of which they are.
use Rattle.std.proofs.Common.{◌≡◌, ◌≤◌, ℕ, Bool, true, false, IsTrue, List, [], ◌∷◌, ◌++◌, append-nil, Some, codes, refl, ap, arith}
use Rattle.std.specs.Fmt.{decimal}
use Rattle.std.specs.List.{join_with_byte}
use Rattle.std.specs.Option.{is_some}
use Rattle.xrf_base.specs.declared.site.Site.{Site}
use Rattle.xrf_base.specs.declared.site.Site.TheVariants.{A, B}
use Rattle.xrf_base.specs.declared.site.Takeovr.TheVariants.{Auto, Manual, Command}
use Rattle.xrf_cebt.specs.declared.commands.Cebt.TheVariants.{PerformTakeover, PerformShutdown, InquireTakeover, InquireSurveillance, SetTakeover, SetSurveillance}
use Rattle.xrf_exit.specs.declared.ExitAnswer.TheVariants as answer
use Rattle.xrf_grammar.specs.declared.form.Part.{Part}
use Rattle.xrf_grammar.specs.declared.form.Part.TheVariants.{Keyword as Key}
use Rattle.xrf_grammar.specs.declared.form.ChoiceForm.{ChoiceForm}
use Rattle.xrf_grammar.specs.declared.form.ChoiceForm.TheVariants as by
use Rattle.xrf_setup.specs.declared.choice.Landing.TheVariants.{Nothing, All, Torn}
use Rattle.xrf_setup.specs.declared.choice.Choice.{Choice}
use Rattle.xrf_setup.specs.declared.choice.Choice.TheVariants as choice
use Rattle.xrf_grammar.specs.declared.line.Line.TheVariants.{Once}
use Rattle.xrf_grammar.specs.Grammar.{IsNumber, AreOfForm}
use Rattle.xrf_setup.specs.Ranges.{IsIn}
use Rattle.xrf_setup.specs.Choices.{is_planned, HasLine}
use Rattle.xrf_grammar.specs.Operands.{site_of}
use Rattle.xrf_grammar.specs.Saying.{choice_said, counted}
use Rattle.xrf_grammar.specs.Spelling.{site_word, choice_text, hex_text}
use Rattle.xrf_grammar.specs.Table.{choice_parts, is_planned as is_planned_word}
use Rattle.xrf_grammar.proofs.NumberLaws.{number-of-decimal}
use Rattle.xrf_grammar.proofs.TornLaws.{is-hex, torn-again}

-- the word of a site is read as this site
pub site-again : (site : Site) → site_of (site_word site) ≡ Some site
site-again A = refl
site-again B = refl

-- and it is one of the two words
pub site-is : (site : Site) → IsTrue (is_some (site_of (site_word site)))
site-is A = refl
site-is B = refl

-- a number in a range is of the part that takes the range
pub number-is : (least most n : ℕ) → IsIn least most n → most ≤ 65535 → IsNumber least most (λ k. true) (decimal n)
number-is least most n h fits =
    let high : n ≤ most = h.1 in
    record { value = n; spelled = number-of-decimal n (omega (arith, high, fits)); low = h.0; high = high; also_kept = refl }

-- whether a form begins with a keyword that PLAN takes
abbrev pub is_taken : List Part → Bool
is_taken (Key keyword reason ∷ parts) = is_planned_word keyword
is_taken _ = false

-- the words of what is written of a choice, and the form of which they are
pub record Written (c : Choice) : Type 0 where
  pub form : ChoiceForm
  pub word : List ℕ
  pub more : List (List ℕ)
  pub joined : choice_text c ≡ join_with_byte 32 (word ∷ more)
  pub fit : AreOfForm (choice_parts form) (word ∷ more)
  pub says : choice_said form (word ∷ more) ≡ Some c
  pub once : (ws : List (List ℕ)) → counted form ws c ≡ Some (Once c)
  pub planned : is_taken (choice_parts form) ≡ is_planned c

-- nothing stands behind a site
alone : (word : List ℕ) (site : Site) → word ++ (site_word site ++ []) ≡ word ++ site_word site
alone word site = ap (λ (t : List ℕ). word ++ t) (append-nil (site_word site))

-- each choice that a line can spell is written by words of a form
pub choice-written : (c : Choice) → HasLine c → Written c
choice-written choice.Tick h = record {
  form = by.Tick;
  word = codes "TICK";
  more = [];
  joined = refl;
  fit = (refl, tt);
  says = refl;
  once = λ ws. refl;
  planned = refl;
}
choice-written (choice.Step site) h = record {
  form = by.Step;
  word = codes "STEP";
  more = site_word site ∷ [];
  joined = alone (codes "STEP ") site;
  fit = (refl, (site-is site, tt));
  says = rw (site-again site) refl;
  once = λ ws. refl;
  planned = refl;
}
choice-written (choice.Lose site) h = record {
  form = by.Lose;
  word = codes "LOSE";
  more = site_word site ∷ [];
  joined = alone (codes "LOSE ") site;
  fit = (refl, (site-is site, tt));
  says = rw (site-again site) refl;
  once = λ ws. refl;
  planned = refl;
}
choice-written (choice.Abend site) h = record {
  form = by.Abend;
  word = codes "ABEND";
  more = site_word site ∷ [];
  joined = alone (codes "ABEND ") site;
  fit = (refl, (site-is site, tt));
  says = rw (site-again site) refl;
  once = λ ws. refl;
  planned = refl;
}
choice-written (choice.Stop site Nothing) h = record {
  form = by.StopNothing;
  word = codes "STOP";
  more = site_word site ∷ codes "NONE" ∷ [];
  joined = refl;
  fit = (refl, (site-is site, (refl, tt)));
  says = rw (site-again site) refl;
  once = λ ws. refl;
  planned = refl;
}
choice-written (choice.Stop site All) h = record {
  form = by.StopAll;
  word = codes "STOP";
  more = site_word site ∷ codes "ALL" ∷ [];
  joined = refl;
  fit = (refl, (site-is site, (refl, tt)));
  says = rw (site-again site) refl;
  once = λ ws. refl;
  planned = refl;
}
choice-written (choice.Stop site (Torn torn)) h = record {
  form = by.StopTorn;
  word = codes "STOP";
  more = site_word site ∷ codes "TORN" ∷ hex_text torn ∷ [];
  joined = refl;
  fit = (refl, (site-is site, (refl, (is-hex torn h, tt))));
  says = rw (site-again site) (rw (torn-again torn h) refl);
  once = λ ws. refl;
  planned = refl;
}
choice-written (choice.Fail site Nothing) h = record {
  form = by.FailNothing;
  word = codes "FAIL";
  more = site_word site ∷ codes "NONE" ∷ [];
  joined = refl;
  fit = (refl, (site-is site, (refl, tt)));
  says = rw (site-again site) refl;
  once = λ ws. refl;
  planned = refl;
}
choice-written (choice.Fail site All) h = record {
  form = by.FailAll;
  word = codes "FAIL";
  more = site_word site ∷ codes "ALL" ∷ [];
  joined = refl;
  fit = (refl, (site-is site, (refl, tt)));
  says = rw (site-again site) refl;
  once = λ ws. refl;
  planned = refl;
}
choice-written (choice.Fail site (Torn torn)) h = record {
  form = by.FailTorn;
  word = codes "FAIL";
  more = site_word site ∷ codes "TORN" ∷ hex_text torn ∷ [];
  joined = refl;
  fit = (refl, (site-is site, (refl, (is-hex torn h, tt))));
  says = rw (site-again site) (rw (torn-again torn h) refl);
  once = λ ws. refl;
  planned = refl;
}
choice-written (choice.StartActive site) h = record {
  form = by.StartActive;
  word = codes "START";
  more = site_word site ∷ codes "ACTIVE" ∷ [];
  joined = refl;
  fit = (refl, (site-is site, (refl, tt)));
  says = rw (site-again site) refl;
  once = λ ws. refl;
  planned = refl;
}
choice-written (choice.StartStandby site) h = record {
  form = by.StartStandby;
  word = codes "START";
  more = site_word site ∷ codes "STANDBY" ∷ [];
  joined = refl;
  fit = (refl, (site-is site, (refl, tt)));
  says = rw (site-again site) refl;
  once = λ ws. refl;
  planned = refl;
}
choice-written (choice.Confirm number) h = record {
  form = by.Confirm;
  word = codes "CONFIRM";
  more = decimal number ∷ [];
  joined = refl;
  fit = (refl, (number-is 0 65535 number (omega arith, h) (omega arith), tt));
  says = rw (number-of-decimal number h) refl;
  once = λ ws. refl;
  planned = refl;
}
choice-written (choice.Reply site true) h = record {
  form = by.Reply true;
  word = codes "REPLY";
  more = site_word site ∷ codes "GO" ∷ [];
  joined = refl;
  fit = (refl, (site-is site, (refl, tt)));
  says = rw (site-again site) refl;
  once = λ ws. refl;
  planned = refl;
}
choice-written (choice.Reply site false) h = record {
  form = by.Reply false;
  word = codes "REPLY";
  more = site_word site ∷ codes "IGNORE" ∷ [];
  joined = refl;
  fit = (refl, (site-is site, (refl, tt)));
  says = rw (site-again site) refl;
  once = λ ws. refl;
  planned = refl;
}
choice-written (choice.Cebt site PerformTakeover) h = record {
  form = by.Cebt PerformTakeover;
  word = codes "CEBT";
  more = site_word site ∷ codes "PERFORM" ∷ codes "TAKEOVER" ∷ [];
  joined = refl;
  fit = (refl, (site-is site, (refl, (refl, tt))));
  says = rw (site-again site) refl;
  once = λ ws. refl;
  planned = refl;
}
choice-written (choice.Cebt site PerformShutdown) h = record {
  form = by.Cebt PerformShutdown;
  word = codes "CEBT";
  more = site_word site ∷ codes "PERFORM" ∷ codes "SHUTDOWN" ∷ [];
  joined = refl;
  fit = (refl, (site-is site, (refl, (refl, tt))));
  says = rw (site-again site) refl;
  once = λ ws. refl;
  planned = refl;
}
choice-written (choice.Cebt site InquireTakeover) h = record {
  form = by.Cebt InquireTakeover;
  word = codes "CEBT";
  more = site_word site ∷ codes "INQUIRE" ∷ codes "TAKEOVER" ∷ [];
  joined = refl;
  fit = (refl, (site-is site, (refl, (refl, tt))));
  says = rw (site-again site) refl;
  once = λ ws. refl;
  planned = refl;
}
choice-written (choice.Cebt site InquireSurveillance) h = record {
  form = by.Cebt InquireSurveillance;
  word = codes "CEBT";
  more = site_word site ∷ codes "INQUIRE" ∷ codes "SURVEILLANCE" ∷ [];
  joined = refl;
  fit = (refl, (site-is site, (refl, (refl, tt))));
  says = rw (site-again site) refl;
  once = λ ws. refl;
  planned = refl;
}
choice-written (choice.Cebt site (SetTakeover Auto)) h = record {
  form = by.Cebt (SetTakeover Auto);
  word = codes "CEBT";
  more = site_word site ∷ codes "SET" ∷ codes "TAKEOVER" ∷ codes "AUTO" ∷ [];
  joined = refl;
  fit = (refl, (site-is site, (refl, (refl, (refl, tt)))));
  says = rw (site-again site) refl;
  once = λ ws. refl;
  planned = refl;
}
choice-written (choice.Cebt site (SetTakeover Manual)) h = record {
  form = by.Cebt (SetTakeover Manual);
  word = codes "CEBT";
  more = site_word site ∷ codes "SET" ∷ codes "TAKEOVER" ∷ codes "MANUAL" ∷ [];
  joined = refl;
  fit = (refl, (site-is site, (refl, (refl, (refl, tt)))));
  says = rw (site-again site) refl;
  once = λ ws. refl;
  planned = refl;
}
choice-written (choice.Cebt site (SetTakeover Command)) h = record {
  form = by.Cebt (SetTakeover Command);
  word = codes "CEBT";
  more = site_word site ∷ codes "SET" ∷ codes "TAKEOVER" ∷ codes "COMMAND" ∷ [];
  joined = refl;
  fit = (refl, (site-is site, (refl, (refl, (refl, tt)))));
  says = rw (site-again site) refl;
  once = λ ws. refl;
  planned = refl;
}
choice-written (choice.Cebt site (SetSurveillance true)) h = record {
  form = by.Cebt (SetSurveillance true);
  word = codes "CEBT";
  more = site_word site ∷ codes "SET" ∷ codes "SURVEILLANCE" ∷ codes "ON" ∷ [];
  joined = refl;
  fit = (refl, (site-is site, (refl, (refl, (refl, tt)))));
  says = rw (site-again site) refl;
  once = λ ws. refl;
  planned = refl;
}
choice-written (choice.Cebt site (SetSurveillance false)) h = record {
  form = by.Cebt (SetSurveillance false);
  word = codes "CEBT";
  more = site_word site ∷ codes "SET" ∷ codes "SURVEILLANCE" ∷ codes "OFF" ∷ [];
  joined = refl;
  fit = (refl, (site-is site, (refl, (refl, (refl, tt)))));
  says = rw (site-again site) refl;
  once = λ ws. refl;
  planned = refl;
}
choice-written (choice.Exit site answer.Abend) h = record {
  form = by.Exit answer.Abend;
  word = codes "EXIT";
  more = site_word site ∷ codes "ABEND" ∷ [];
  joined = refl;
  fit = (refl, (site-is site, (refl, tt)));
  says = rw (site-again site) refl;
  once = λ ws. refl;
  planned = refl;
}
choice-written (choice.Exit site answer.Keep) h = record {
  form = by.Exit answer.Keep;
  word = codes "EXIT";
  more = site_word site ∷ codes "KEEP" ∷ [];
  joined = refl;
  fit = (refl, (site-is site, (refl, tt)));
  says = rw (site-again site) refl;
  once = λ ws. refl;
  planned = refl;
}
choice-written (choice.Exit site answer.Drop) h = record {
  form = by.Exit answer.Drop;
  word = codes "EXIT";
  more = site_word site ∷ codes "DROP" ∷ [];
  joined = refl;
  fit = (refl, (site-is site, (refl, tt)));
  says = rw (site-again site) refl;
  once = λ ws. refl;
  planned = refl;
}
