-- What first records and lines of work spell, read word by word.
use Rattle.std.proofs.Common.{◌≡◌, ◌≤◌, ◌&&◌, ℕ, Bool, true, false, not, if◌then◌else◌, nat_le, List, [], ◌∷◌, Option, Some, None, IsTrue, codes, refl, sym, ap, subst, ◌∙◌, arith}
use Rattle.std.specs.Option.{is_some, option_and_then}
use Rattle.std.specs.Str.{bytes_eq}
use Rattle.std.proofs.lemmas.Slice.Eq.{bytes_eq-Decides}
use Rattle.std.proofs.lemmas.Option.{cond_some}
use Rattle.std.proofs.lemmas.Bool.{leb-true, and_parts}
use Rattle.xrf_base.specs.Names.{is_name, name_of}
use Rattle.xrf_base.specs.Values.{is_value, value_of}
use Rattle.xrf_base.specs.declared.items.Item.{Item}
use Rattle.xrf_base.specs.declared.items.Item.TheVariants as item
use Rattle.xrf_base.specs.declared.site.Site.{Site as Place}
use Rattle.xrf_setup.specs.declared.format.Format.{Format}
use Rattle.xrf_text.specs.Text.{are_some}
use Rattle.xrf_setup.specs.declared.ranges.TheConstants.{FILE_LEAST, FILE_MOST}
use Rattle.xrf_grammar.specs.declared.form.Form.TheVariants as form
use Rattle.xrf_grammar.specs.declared.form.ItemForm.TheVariants as work
use Rattle.xrf_grammar.specs.declared.line.Line.TheVariants.{Record, Clt, Work}
use Rattle.xrf_grammar.specs.Grammar.{IsNumber, Spells, SpellsItem}
use Rattle.xrf_grammar.specs.Numbers.{number_of}
use Rattle.xrf_grammar.specs.Operands.{site_of, class_of}
use Rattle.xrf_grammar.specs.Table.{settings_of}
use Rattle.xrf_grammar.proofs.Listed.{after_quantities, in_both}
use Rattle.xrf_grammar.proofs.NumberLaws.{number-is}

-- a word that is equal to a keyword
pub same_key : (word key lent : List ℕ) (same : Bool) → same ≡ bytes_eq word lent → same ≡ true → lent ≡ key → word ≡ key
same_key word key lent same e holds is = (bytes_eq-Decides word lent).0 (sym e ∙ holds) ∙ is

-- a word that is not other than a keyword
pub key_is : (word key lent : List ℕ) (other : Bool) → other ≡ not (bytes_eq word lent) → other ≡ false → lent ≡ key → word ≡ key
key_is word key lent other e same is = same_key word key lent (bytes_eq word lent) refl (by (bytes_eq word lent) (sym e ∙ same)) is
  where
    by : (b : Bool) → not b ≡ false → b ≡ true
    by true k = refl
    by false k = absurd (cc)

named : (word name : List ℕ) → name_of word ≡ Some name → is_name word ≡ true
named word name h = (cond_some (is_name word) word name h).0

valued : (word value : List ℕ) → value_of word ≡ Some value → is_value word ≡ true
valued word value h = (cond_some (is_value word) word value h).0

-- a number that is read is in the widest range
numbered : (word : List ℕ) (n : ℕ) → number_of word ≡ Some n → IsNumber 0 65535 (λ n. true) word
numbered word n h = record { value = n; spelled = h; low = omega arith; high = (number-is word n h).0; also_kept = refl }

-- a class is a number from 1 to 3
classed : (word : List ℕ) (n : ℕ) → class_of word ≡ Some n → IsNumber 1 3 (λ n. true) word
classed word n h = by (number_of word) refl h
  where
    by : (o : Option ℕ) → number_of word ≡ o → option_and_then (λ n. if nat_le 1 n && nat_le n 3 then Some n else None) o ≡ Some n → IsNumber 1 3 (λ n. true) word
    by None e k = absurd (cc)
    by (Some m) e k =
        let both = (cond_some (nat_le 1 m && nat_le m 3) m n k).0 in
        record { value = m; spelled = e; low = leb-true 1 m (and_parts _ _ both).0; high = leb-true m 3 (and_parts _ _ both).1; also_kept = refl }

sited : (word : List ℕ) (site : Place) → site_of word ≡ Some site → IsTrue (is_some (site_of word))
sited word site h = rw h refl

-- a first record
pub record_spelled : (format : Format) (key number value : List ℕ) (n : ℕ) (v : List ℕ) → key ≡ codes "RECORD" → number_of number ≡ Some n → FILE_LEAST ≤ n → n ≤ FILE_MOST → value_of value ≡ Some v
    → Spells (settings_of format) (key ∷ number ∷ value ∷ []) (Record n v)
record_spelled format key number value n v spelled at low high is = record {
  form = form.Record;
  among = in_both format (after_quantities 5) form.Record refl refl;
  fit = (spelled, (record { value = n; spelled = at; low = low; high = high; also_kept = refl }, (valued value v is, tt)));
  line = rw (at, is) refl;
}

-- the words behind RECORD of a first record
no-words : (ws : List (List ℕ)) → are_some ws ≡ false → ws ≡ []
no-words [] none = refl
no-words (word ∷ ws) none = absurd (cc)

pub record_read : (format : Format) (ws others more : List (List ℕ)) (number value : List ℕ) (n : ℕ) (v : List ℕ) → ws ≡ number ∷ others → others ≡ value ∷ more → are_some more ≡ false
    → number_of number ≡ Some n → FILE_LEAST ≤ n → n ≤ FILE_MOST → value_of value ≡ Some v → Spells (settings_of format) (codes "RECORD" ∷ ws) (Record n v)
record_read format ws others more number value n v first second none at low high is =
    let both : ws ≡ number ∷ value ∷ [] = first ∙ ap (λ (l : List (List ℕ)). number ∷ l) (second ∙ ap (λ (l : List (List ℕ)). value ∷ l) (no-words more none)) in
    subst (λ (l : List (List ℕ)). Spells (settings_of format) (codes "RECORD" ∷ l) (Record n v)) (sym both) (record_spelled format (codes "RECORD") number value n v refl at low high is)

-- an item of a unit or a terminal alone
pub begin_spelled : (format : Format) (key name unit : List ℕ) → key ≡ codes "BEGIN" → name_of name ≡ Some unit → SpellsItem format (key ∷ name ∷ []) (item.Begin unit)
begin_spelled format key name unit spelled is word site at =
    record { form = form.Work work.Begin; among = in_both format (after_quantities 9) (form.Work work.Begin) refl refl; fit = (refl, (sited word site at, (spelled, (named name unit is, tt)))); line = rw (at, is) refl }

pub commit_spelled : (format : Format) (key name unit : List ℕ) → key ≡ codes "COMMIT" → name_of name ≡ Some unit → SpellsItem format (key ∷ name ∷ []) (item.Commit unit)
commit_spelled format key name unit spelled is word site at =
    record { form = form.Work work.Commit; among = in_both format (after_quantities 12) (form.Work work.Commit) refl refl; fit = (refl, (sited word site at, (spelled, (named name unit is, tt)))); line = rw (at, is) refl }

pub roll_spelled : (format : Format) (key name unit : List ℕ) → key ≡ codes "ROLL" → name_of name ≡ Some unit → SpellsItem format (key ∷ name ∷ []) (item.Roll unit)
roll_spelled format key name unit spelled is word site at =
    record { form = form.Work work.Roll; among = in_both format (after_quantities 13) (form.Work work.Roll) refl refl; fit = (refl, (sited word site at, (spelled, (named name unit is, tt)))); line = rw (at, is) refl }

pub logoff_spelled : (format : Format) (key name terminal : List ℕ) → key ≡ codes "LOGOFF" → name_of name ≡ Some terminal → SpellsItem format (key ∷ name ∷ []) (item.Logoff terminal)
logoff_spelled format key name terminal spelled is word site at =
    record { form = form.Work work.Logoff; among = in_both format (after_quantities 15) (form.Work work.Logoff) refl refl; fit = (refl, (sited word site at, (spelled, (named name terminal is, tt)))); line = rw (at, is) refl }

-- an item of a name and a number
pub get_spelled : (format : Format) (key name number unit : List ℕ) (n : ℕ) → key ≡ codes "GET" → name_of name ≡ Some unit → number_of number ≡ Some n → SpellsItem format (key ∷ name ∷ number ∷ []) (item.Get unit n)
get_spelled format key name number unit n spelled is num word site at = record {
  form = form.Work work.Get;
  among = in_both format (after_quantities 11) (form.Work work.Get) refl refl;
  fit = (refl, (sited word site at, (spelled, (named name unit is, (numbered number n num, tt)))));
  line = rw (at, is, num) refl;
}

pub logon_spelled : (format : Format) (key name class terminal : List ℕ) (n : ℕ) → key ≡ codes "LOGON" → name_of name ≡ Some terminal → class_of class ≡ Some n → SpellsItem format (key ∷ name ∷ class ∷ []) (item.Logon terminal n)
logon_spelled format key name class terminal n spelled is num word site at = record {
  form = form.Work work.Logon;
  among = in_both format (after_quantities 14) (form.Work work.Logon) refl refl;
  fit = (refl, (sited word site at, (spelled, (named name terminal is, (classed class n num, tt)))));
  line = rw (at, is, num) refl;
}

-- an item of a name, a number and a value
pub put_spelled : (format : Format) (key name number value unit : List ℕ) (n : ℕ) (v : List ℕ) → key ≡ codes "PUT" → name_of name ≡ Some unit → number_of number ≡ Some n → value_of value ≡ Some v
    → SpellsItem format (key ∷ name ∷ number ∷ value ∷ []) (item.Put unit n v)
put_spelled format key name number value unit n v spelled is num val word site at = record {
  form = form.Work work.Put;
  among = in_both format (after_quantities 10) (form.Work work.Put) refl refl;
  fit = (refl, (sited word site at, (spelled, (named name unit is, (numbered number n num, (valued value v val, tt))))));
  line = rw (at, is, num, val) refl;
}

-- an item behind WORK and a site
pub work_spelled : (format : Format) (key word : List ℕ) (site : Place) (ws : List (List ℕ)) (says : Item) → key ≡ codes "WORK" → site_of word ≡ Some site → SpellsItem format ws says
    → Spells (settings_of format) (key ∷ word ∷ ws) (Work site says)
work_spelled format key word site ws says spelled at item = subst (λ (first : List ℕ). Spells (settings_of format) (first ∷ word ∷ ws) (Work site says)) (sym spelled) (item word site at)

-- the words behind CLT of a message
pub message_read : (format : Format) (ws others behind more : List (List ℕ)) (region kind word : List ℕ) → ws ≡ region ∷ others → others ≡ kind ∷ behind → behind ≡ word ∷ more
    → is_name region ≡ true → kind ≡ codes "WTO" → Spells (settings_of format) (codes "CLT" ∷ ws) Clt
message_read format ws others behind more region kind word first second third named is =
    let all : ws ≡ region ∷ kind ∷ word ∷ more = first ∙ ap (λ (l : List (List ℕ)). region ∷ l) (second ∙ ap (λ (l : List (List ℕ)). kind ∷ l) third) in
    subst (λ (l : List (List ℕ)). Spells (settings_of format) (codes "CLT" ∷ l) Clt) (sym all)
    (record { form = form.CltWto; among = in_both format (after_quantities 8) form.CltWto refl refl; fit = (refl, (named, (is, tt))); line = refl })

-- the words behind WORK of a put
pub put_read : (format : Format) (ws w1 w2 w3 w4 more : List (List ℕ)) (word key name number value : List ℕ) (site : Place) (unit : List ℕ) (n : ℕ) (v : List ℕ)
    → ws ≡ word ∷ w1 → w1 ≡ key ∷ w2 → w2 ≡ name ∷ w3 → w3 ≡ number ∷ w4 → w4 ≡ value ∷ more → are_some more ≡ false
    → key ≡ codes "PUT" → site_of word ≡ Some site → name_of name ≡ Some unit → number_of number ≡ Some n → value_of value ≡ Some v
    → Spells (settings_of format) (codes "WORK" ∷ ws) (Work site (item.Put unit n v))
put_read format ws w1 w2 w3 w4 more word key name number value site unit n v e1 e2 e3 e4 e5 none is at named num val =
    let all : ws ≡ word ∷ key ∷ name ∷ number ∷ value ∷ [] =
    e1 ∙ ap (λ (l : List (List ℕ)). word ∷ l) (e2 ∙ ap (λ (l : List (List ℕ)). key ∷ l) (e3 ∙ ap (λ (l : List (List ℕ)). name ∷ l) (e4 ∙ ap (λ (l : List (List ℕ)). number ∷ l) (e5 ∙ ap (λ (l : List (List ℕ)). value ∷ l) (no-words more none))))) in
    subst (λ (l : List (List ℕ)). Spells (settings_of format) (codes "WORK" ∷ l) (Work site (item.Put unit n v))) (sym all) (put_spelled format key name number value unit n v is named num val word site at)
