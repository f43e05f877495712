-- What is read of a line can be spelled: its names, numbers, values and bytes are within their ranges.
use Rattle.std.proofs.Common.{◌≡◌, ◌⊎◌, inl, inr, ◌≤◌, ◌<◌, ◌+◌, ◌%◌, ◌==◌, ◌&&◌, ◌||◌, not, if◌then◌else◌, ℕ, Bool, true, false, Option, Some, None, List, [], ◌∷◌, Ok, length, nat_le, refl, subst, arith}
use Rattle.std.specs.Option.{option_map, option_and_then}
use Rattle.std.specs.Int.{is_in_range}
use Rattle.std.specs.List.{AllByRecursion, list_all}
use Rattle.std.proofs.lemmas.Bool.{leb-true, eqb-true, and_parts}
use Rattle.std.proofs.lemmas.Option.{cond_some}
use Rattle.xrf_base.specs.Names.{IsName, is_name, name_of}
use Rattle.xrf_base.specs.Values.{IsValue, is_value, value_of}
use Rattle.xrf_base.specs.declared.site.Site.{Site}
use Rattle.xrf_base.specs.declared.items.Item.{Item}
use Rattle.xrf_base.specs.declared.items.Item.TheVariants as item
use Rattle.xrf_exit.specs.declared.ExitAnswer.TheVariants as answer
use Rattle.xrf_grammar.specs.declared.form.Form.{Form}
use Rattle.xrf_grammar.specs.declared.form.Form.TheVariants as form
use Rattle.xrf_setup.specs.declared.format.Format.{Format}
use Rattle.xrf_setup.specs.declared.format.Format.TheVariants.{One, Two}
use Rattle.xrf_grammar.specs.declared.form.ItemForm.{ItemForm}
use Rattle.xrf_grammar.specs.declared.form.ItemForm.TheVariants as work
use Rattle.xrf_grammar.specs.declared.form.ChoiceForm.{ChoiceForm}
use Rattle.xrf_grammar.specs.declared.form.ChoiceForm.TheVariants as by
use Rattle.xrf_setup.specs.declared.choice.Landing.{Landing}
use Rattle.xrf_setup.specs.declared.choice.Landing.TheVariants.{Nothing, All, Torn}
use Rattle.xrf_setup.specs.declared.choice.Choice.{Choice}
use Rattle.xrf_setup.specs.declared.choice.Choice.TheVariants as choice
use Rattle.xrf_grammar.specs.declared.line.Line.{Line}
use Rattle.xrf_grammar.specs.declared.line.Line.TheVariants as line
use Rattle.xrf_grammar.specs.Grammar.{AreOfForm, IsAmong, Spells}
use Rattle.xrf_grammar.specs.Hex.{is_hex, is_hex_digit, digit_value, bytes_of_hex, torn_of_hex}
use Rattle.xrf_setup.specs.Items.{IsItemOf, has_users, HasItem, IsClass}
use Rattle.xrf_grammar.specs.LineText.{IsSetting, IsChoosing, is_timed}
use Rattle.xrf_setup.specs.Choices.{is_planned, HasLine, IsTorn}
use Rattle.xrf_grammar.specs.Numbers.{number_of}
use Rattle.xrf_grammar.specs.Operands.{site_of, class_of}
use Rattle.xrf_grammar.specs.Places.{behind, second, third, fourth, fifth, sixth}
use Rattle.xrf_grammar.specs.Reading.{line_of}
use Rattle.xrf_grammar.specs.Saying.{site_said, choice_said, counted, once_said, item_said, work_said, plan_said, said}
use Rattle.xrf_grammar.specs.Table.{parts_of, planned_parts, choice_parts, is_of_two, settings_of, choices_table}
use Rattle.xrf_grammar.proofs.Filling.{most-bytes, least-bytes}
use Rattle.xrf_grammar.proofs.FormLaws.{line-found}
use Rattle.xrf_grammar.proofs.NumberLaws.{number-is}
use Rattle.xrf_grammar.proofs.QuantityLaws.{number-in, quantity-found}
use Rattle.xrf_grammar.proofs.SayingLaws.{number-part, step, tail_of}
use Rattle.xrf_grammar.proofs.TornLaws.{below-at}

-- what comes out of an option was in it
from_map : {A X : Type 0} (f : A → X) (o : Option A) (x : X) (P : X → Type 0) → option_map f o ≡ Some x → ((a : A) → o ≡ Some a → P (f a)) → P x
from_map f None x P h each = absurd (cc)
from_map f (Some a) x P h each = let same : f a ≡ x = cc in subst P same (each a refl)

from_then : {A X : Type 0} (f : A → Option X) (o : Option A) (x : X) (P : X → Type 0) → option_and_then f o ≡ Some x → ((a : A) → o ≡ Some a → f a ≡ Some x → P x) → P x
from_then f None x P h each = absurd (cc)
from_then f (Some a) x P h each = each a refl h

from_some : {X : Type 0} (y x : X) (P : X → Type 0) → Some y ≡ Some x → P y → P x
from_some y x P h is = let same : y ≡ x = cc in subst P same is

-- names, values, classes and numbers that are read
name-is : (word name : List ℕ) → name_of word ≡ Some name → IsName name
name-is word name h = let k = cond_some (is_name word) word name h in subst IsName k.1 k.0

value-is : (word value : List ℕ) → value_of word ≡ Some value → IsValue value
value-is word value h = let k = cond_some (is_value word) word value h in subst IsValue k.1 k.0

class-is : (word : List ℕ) (class : ℕ) → class_of word ≡ Some class → IsClass class
class-is word class h = from_then _ (number_of word) class IsClass h (λ n e k. in-range n k)
  where
    in-range : (n : ℕ) → (if nat_le 1 n && nat_le n 3 then Some n else None) ≡ Some class → IsClass class
    in-range n k =
        let c = cond_some (nat_le 1 n && nat_le n 3) n class k in
        subst IsClass c.1 (leb-true 1 n (and_parts (nat_le 1 n) (nat_le n 3) c.0).0, leb-true n 3 (and_parts (nat_le 1 n) (nat_le n 3) c.0).1)

number-most : (word : List ℕ) (n : ℕ) → number_of word ≡ Some n → n ≤ 65535
number-most word n h = (number-is word n h).0

-- a digit stands for less than 16, and two of them for a byte
abbrev passes : ℕ → Bool
passes b = not (is_hex_digit b) || nat_le (digit_value b) 15

range-most : (low high c most : ℕ) → high ≤ most → is_in_range low high c ≡ true → c ≤ most
range-most low high c most within h = let small : c ≤ high = leb-true c high (and_parts (nat_le low c) (nat_le c high) h).1 in omega (arith, within, small)

one-of : (a b : Bool) (P : Type 0) → (a || b) ≡ true → (a ≡ true → P) → (b ≡ true → P) → P
one-of true b P h one other = one refl
one-of false b P h one other = other h

digit-code : (c : ℕ) → is_hex_digit c ≡ true → c ≤ 127
digit-code c h =
    one-of (is_in_range 48 57 c || is_in_range 65 70 c) (is_in_range 97 102 c) (c ≤ 127) h
    (λ k. one-of (is_in_range 48 57 c) (is_in_range 65 70 c) (c ≤ 127) k (range-most 48 57 c 127 (omega arith)) (range-most 65 70 c 127 (omega arith)))
    (range-most 97 102 c 127 (omega arith))

digit-small : (b : ℕ) → is_hex_digit b ≡ true → digit_value b ≤ 15
digit-small b h =
    let code : b ≤ 127 = digit-code b h in
    let told : passes b ≡ true = below-at passes 128 b refl (omega (arith, code)) in
    leb-true (digit_value b) 15 (subst (λ (t : Bool). (not t || nat_le (digit_value b) 15) ≡ true) h told)

bytes-small : (text : List ℕ) → list_all is_hex_digit text ≡ true → AllByRecursion (λ b. b < 256) (bytes_of_hex text)
bytes-small [] h = tt
bytes-small (high ∷ []) h = tt
bytes-small (high ∷ low ∷ more) h =
    let rest = (and_parts (is_hex_digit high) (list_all is_hex_digit (low ∷ more)) h).1 in
    let one : digit_value high ≤ 15 = digit-small high (and_parts (is_hex_digit high) (list_all is_hex_digit (low ∷ more)) h).0 in
    let other : digit_value low ≤ 15 = digit-small low (and_parts (is_hex_digit low) (list_all is_hex_digit more) rest).0 in
    (omega (arith, one, other), bytes-small more (and_parts (is_hex_digit low) (list_all is_hex_digit more) rest).1)

torn-is : (word bytes : List ℕ) → torn_of_hex word ≡ Some bytes → IsTorn bytes
torn-is word bytes h =
    let k = cond_some (is_hex word) (bytes_of_hex word) bytes h in
    let sized : (nat_le 1 (length word) && nat_le (length word) 126 && (length word % 2 == 0)) ≡ true = (and_parts (nat_le 1 (length word) && nat_le (length word) 126 && (length word % 2 == 0)) (list_all is_hex_digit word) k.0).0 in
    let between : (nat_le 1 (length word) && nat_le (length word) 126) ≡ true = (and_parts (nat_le 1 (length word) && nat_le (length word) 126) (length word % 2 == 0) sized).0 in
    let even : length word % 2 ≡ 0 = eqb-true (length word % 2) 0 (and_parts (nat_le 1 (length word) && nat_le (length word) 126) (length word % 2 == 0) sized).1 in
    let some : 1 ≤ length word = leb-true 1 (length word) (and_parts (nat_le 1 (length word)) (nat_le (length word) 126) between).0 in
    let few : length word ≤ 126 = leb-true (length word) 126 (and_parts (nat_le 1 (length word)) (nat_le (length word) 126) between).1 in
    let most : length (bytes_of_hex word) + length (bytes_of_hex word) ≤ length word = most-bytes word in
    let least : 1 ≤ length (bytes_of_hex word) = least-bytes word (omega (arith, even, some)) in
    subst IsTorn k.1 record {
      least = least;
      most = omega (arith, most, few);
      each = bytes-small word (and_parts (nat_le 1 (length word) && nat_le (length word) 126 && (length word % 2 == 0)) (list_all is_hex_digit word) k.0).1;
    }

-- a choice that is read has a line
landed : (torn : Option Landing) (make : Landing → Choice) (c : Choice) → option_map make torn ≡ Some c
    → ((landing : Landing) → torn ≡ Some landing → HasLine (make landing)) → HasLine c
landed torn make c h each = from_map make torn c HasLine h each

torn-landing : (word : List ℕ) (landing : Landing) (P : Landing → Type 0) → option_map Torn (torn_of_hex word) ≡ Some landing → ((bytes : List ℕ) → IsTorn bytes → P (Torn bytes)) → P landing
torn-landing word landing P h each = from_map Torn (torn_of_hex word) landing P h (λ bytes e. each bytes (torn-is word bytes e))

site-has-line : (f : ChoiceForm) (s : Site) (ws : List (List ℕ)) (c : Choice) → site_said f s ws ≡ Some c → HasLine c
site-has-line by.Step s ws c h = from_some (choice.Step s) c HasLine h tt
site-has-line by.StepTimes s ws c h = from_some (choice.Step s) c HasLine h tt
site-has-line by.Lose s ws c h = from_some (choice.Lose s) c HasLine h tt
site-has-line by.StopNothing s ws c h = from_some (choice.Stop s Nothing) c HasLine h tt
site-has-line by.StopAll s ws c h = from_some (choice.Stop s All) c HasLine h tt
site-has-line by.StopTorn s ws c h = landed _ (choice.Stop s) c h (λ landing e. torn-landing (fourth ws) landing (λ l. HasLine (choice.Stop s l)) e (λ bytes is. is))
site-has-line by.FailNothing s ws c h = from_some (choice.Fail s Nothing) c HasLine h tt
site-has-line by.FailAll s ws c h = from_some (choice.Fail s All) c HasLine h tt
site-has-line by.FailTorn s ws c h = landed _ (choice.Fail s) c h (λ landing e. torn-landing (fourth ws) landing (λ l. HasLine (choice.Fail s l)) e (λ bytes is. is))
site-has-line by.StartActive s ws c h = from_some (choice.StartActive s) c HasLine h tt
site-has-line by.StartStandby s ws c h = from_some (choice.StartStandby s) c HasLine h tt
site-has-line by.Abend s ws c h = from_some (choice.Abend s) c HasLine h tt
site-has-line (by.Reply go) s ws c h = from_some (choice.Reply s go) c HasLine h tt
site-has-line (by.Cebt command) s ws c h = from_some (choice.Cebt s command) c HasLine h tt
site-has-line (by.Exit answer) s ws c h = from_some (choice.Exit s answer) c HasLine h tt
site-has-line by.Tick s ws c h = absurd (cc)
site-has-line by.TickTimes s ws c h = absurd (cc)
site-has-line by.Confirm s ws c h = absurd (cc)

choice-has-line : (f : ChoiceForm) (ws : List (List ℕ)) (c : Choice) → choice_said f ws ≡ Some c → HasLine c
choice-has-line by.Tick ws c h = from_some choice.Tick c HasLine h tt
choice-has-line by.TickTimes ws c h = from_some choice.Tick c HasLine h tt
choice-has-line by.Confirm ws c h = from_map choice.Confirm (number_of (second ws)) c HasLine h (λ n e. number-most (second ws) n e)
choice-has-line by.Step ws c h = from_then _ (site_of (second ws)) c HasLine h (λ s e k. site-has-line by.Step s ws c k)
choice-has-line by.StepTimes ws c h = from_then _ (site_of (second ws)) c HasLine h (λ s e k. site-has-line by.StepTimes s ws c k)
choice-has-line by.Lose ws c h = from_then _ (site_of (second ws)) c HasLine h (λ s e k. site-has-line by.Lose s ws c k)
choice-has-line by.StopNothing ws c h = from_then _ (site_of (second ws)) c HasLine h (λ s e k. site-has-line by.StopNothing s ws c k)
choice-has-line by.StopAll ws c h = from_then _ (site_of (second ws)) c HasLine h (λ s e k. site-has-line by.StopAll s ws c k)
choice-has-line by.StopTorn ws c h = from_then _ (site_of (second ws)) c HasLine h (λ s e k. site-has-line by.StopTorn s ws c k)
choice-has-line by.FailNothing ws c h = from_then _ (site_of (second ws)) c HasLine h (λ s e k. site-has-line by.FailNothing s ws c k)
choice-has-line by.FailAll ws c h = from_then _ (site_of (second ws)) c HasLine h (λ s e k. site-has-line by.FailAll s ws c k)
choice-has-line by.FailTorn ws c h = from_then _ (site_of (second ws)) c HasLine h (λ s e k. site-has-line by.FailTorn s ws c k)
choice-has-line by.StartActive ws c h = from_then _ (site_of (second ws)) c HasLine h (λ s e k. site-has-line by.StartActive s ws c k)
choice-has-line by.StartStandby ws c h = from_then _ (site_of (second ws)) c HasLine h (λ s e k. site-has-line by.StartStandby s ws c k)
choice-has-line by.Abend ws c h = from_then _ (site_of (second ws)) c HasLine h (λ s e k. site-has-line by.Abend s ws c k)
choice-has-line (by.Reply go) ws c h = from_then _ (site_of (second ws)) c HasLine h (λ s e k. site-has-line (by.Reply go) s ws c k)
choice-has-line (by.Cebt command) ws c h = from_then _ (site_of (second ws)) c HasLine h (λ s e k. site-has-line (by.Cebt command) s ws c k)
choice-has-line (by.Exit answer) ws c h = from_then _ (site_of (second ws)) c HasLine h (λ s e k. site-has-line (by.Exit answer) s ws c k)

-- an item that is read has a line
item-found : (f : ItemForm) (ws : List (List ℕ)) (i : Item) → item_said f ws ≡ Some i → HasItem i
item-found work.Begin ws i h = from_map item.Begin (name_of (fourth ws)) i HasItem h (λ n e. name-is (fourth ws) n e)
item-found work.Put ws i h =
    from_then _ (name_of (fourth ws)) i HasItem h (λ unit e k. from_then _ (number_of (fifth ws)) i HasItem k (λ n e1 k1.
    from_map (item.Put unit n) (value_of (sixth ws)) i HasItem k1 (λ v e2. (name-is (fourth ws) unit e, number-most (fifth ws) n e1, value-is (sixth ws) v e2))))
item-found work.Get ws i h =
    from_then _ (name_of (fourth ws)) i HasItem h (λ unit e k. from_map (item.Get unit) (number_of (fifth ws)) i HasItem k (λ n e1. (name-is (fourth ws) unit e, number-most (fifth ws) n e1)))
item-found work.Commit ws i h = from_map item.Commit (name_of (fourth ws)) i HasItem h (λ n e. name-is (fourth ws) n e)
item-found work.Roll ws i h = from_map item.Roll (name_of (fourth ws)) i HasItem h (λ n e. name-is (fourth ws) n e)
item-found work.Logon ws i h =
    from_then _ (name_of (fourth ws)) i HasItem h (λ terminal e k. from_map (item.Logon terminal) (class_of (fifth ws)) i HasItem k (λ n e1. (name-is (fourth ws) terminal e, class-is (fifth ws) n e1)))
item-found work.Logoff ws i h = from_map item.Logoff (name_of (fourth ws)) i HasItem h (λ n e. name-is (fourth ws) n e)
item-found work.Signon ws i h =
    from_then _ (name_of (fourth ws)) i HasItem h (λ terminal e k. from_map (item.Signon terminal) (name_of (fifth ws)) i HasItem k (λ n e1. (name-is (fourth ws) terminal e, name-is (fifth ws) n e1)))
item-found work.Signoff ws i h = from_map item.Signoff (name_of (fourth ws)) i HasItem h (λ n e. name-is (fourth ws) n e)
item-found work.Shutdown ws i h = from_some item.Shutdown i HasItem h tt
item-found work.ShutdownTakeover ws i h = from_some item.ShutdownTakeover i HasItem h tt

-- an item of users is of a form of users
users-of : (f : ItemForm) (ws : List (List ℕ)) (i : Item) → item_said f ws ≡ Some i → is_of_two (form.Work f) ≡ false → has_users i ≡ false
users-of work.Begin ws i h e = from_map item.Begin (name_of (fourth ws)) i (λ (i : Item). has_users i ≡ false) h (λ n k. refl)
users-of work.Commit ws i h e = from_map item.Commit (name_of (fourth ws)) i (λ (i : Item). has_users i ≡ false) h (λ n k. refl)
users-of work.Roll ws i h e = from_map item.Roll (name_of (fourth ws)) i (λ (i : Item). has_users i ≡ false) h (λ n k. refl)
users-of work.Logoff ws i h e = from_map item.Logoff (name_of (fourth ws)) i (λ (i : Item). has_users i ≡ false) h (λ n k. refl)
users-of work.Put ws i h e = from_then _ (name_of (fourth ws)) i (λ (i : Item). has_users i ≡ false) h (λ unit e0 k. from_then _ (number_of (fifth ws)) i (λ (i : Item). has_users i ≡ false) k (λ n e1 k1. from_map (item.Put unit n) (value_of (sixth ws)) i (λ (i : Item). has_users i ≡ false) k1 (λ v e2. refl)))
users-of work.Get ws i h e = from_then _ (name_of (fourth ws)) i (λ (i : Item). has_users i ≡ false) h (λ unit e0 k. from_map (item.Get unit) (number_of (fifth ws)) i (λ (i : Item). has_users i ≡ false) k (λ n e1. refl))
users-of work.Logon ws i h e = from_then _ (name_of (fourth ws)) i (λ (i : Item). has_users i ≡ false) h (λ terminal e0 k. from_map (item.Logon terminal) (class_of (fifth ws)) i (λ (i : Item). has_users i ≡ false) k (λ n e1. refl))
users-of work.Shutdown ws i h e = from_some item.Shutdown i (λ (i : Item). has_users i ≡ false) h refl
users-of work.ShutdownTakeover ws i h e = from_some item.ShutdownTakeover i (λ (i : Item). has_users i ≡ false) h refl
users-of work.Signon ws i h e = absurd (cc)
users-of work.Signoff ws i h e = absurd (cc)

-- a planned choice that is read is one that PLAN takes
abbrev Planned : Choice → Type 0
Planned c = is_planned c ≡ true

-- the word behind PLAN and a tick is not a refused one
third-part : (f : ChoiceForm) (ws : List (List ℕ)) → AreOfForm (planned_parts f) ws → AreOfForm (tail_of (tail_of (planned_parts f))) (behind (behind ws))
third-part f ws of = (step (tail_of (planned_parts f)) (behind ws) refl (step (planned_parts f) ws refl of).1).1

plan-takes : (f : ChoiceForm) (ws : List (List ℕ)) (c : Choice) → AreOfForm (planned_parts f) ws → choice_said f (behind (behind ws)) ≡ Some c → Planned c
plan-takes by.StopNothing ws c of h = from_then _ (site_of (second (behind (behind ws)))) c Planned h (λ s e k. from_some (choice.Stop s Nothing) c Planned k refl)
plan-takes by.StopAll ws c of h = from_then _ (site_of (second (behind (behind ws)))) c Planned h (λ s e k. from_some (choice.Stop s All) c Planned k refl)
plan-takes by.StopTorn ws c of h = from_then _ (site_of (second (behind (behind ws)))) c Planned h (λ s e k. from_map (choice.Stop s) _ c Planned k (λ landing e1. refl))
plan-takes by.StartActive ws c of h = from_then _ (site_of (second (behind (behind ws)))) c Planned h (λ s e k. from_some (choice.StartActive s) c Planned k refl)
plan-takes by.StartStandby ws c of h = from_then _ (site_of (second (behind (behind ws)))) c Planned h (λ s e k. from_some (choice.StartStandby s) c Planned k refl)
plan-takes by.Abend ws c of h = from_then _ (site_of (second (behind (behind ws)))) c Planned h (λ s e k. from_some (choice.Abend s) c Planned k refl)
plan-takes by.Confirm ws c of h = from_map choice.Confirm (number_of (second (behind (behind ws)))) c Planned h (λ n e. refl)
plan-takes (by.Reply go) ws c of h = from_then _ (site_of (second (behind (behind ws)))) c Planned h (λ s e k. from_some (choice.Reply s go) c Planned k refl)
plan-takes (by.Cebt command) ws c of h = from_then _ (site_of (second (behind (behind ws)))) c Planned h (λ s e k. from_some (choice.Cebt s command) c Planned k refl)
plan-takes by.Tick ws c of h = absurd (step (tail_of (tail_of (planned_parts by.Tick))) (behind (behind ws)) refl (third-part by.Tick ws of)).0
plan-takes by.TickTimes ws c of h = absurd (step (tail_of (tail_of (planned_parts by.TickTimes))) (behind (behind ws)) refl (third-part by.TickTimes ws of)).0
plan-takes by.Step ws c of h = absurd (step (tail_of (tail_of (planned_parts by.Step))) (behind (behind ws)) refl (third-part by.Step ws of)).0
plan-takes by.StepTimes ws c of h = absurd (step (tail_of (tail_of (planned_parts by.StepTimes))) (behind (behind ws)) refl (third-part by.StepTimes ws of)).0
plan-takes by.Lose ws c of h = absurd (step (tail_of (tail_of (planned_parts by.Lose))) (behind (behind ws)) refl (third-part by.Lose ws of)).0
plan-takes by.FailNothing ws c of h = absurd (step (tail_of (tail_of (planned_parts by.FailNothing))) (behind (behind ws)) refl (third-part by.FailNothing ws of)).0
plan-takes by.FailAll ws c of h = absurd (step (tail_of (tail_of (planned_parts by.FailAll))) (behind (behind ws)) refl (third-part by.FailAll ws of)).0
plan-takes by.FailTorn ws c of h = absurd (step (tail_of (tail_of (planned_parts by.FailTorn))) (behind (behind ws)) refl (third-part by.FailTorn ws of)).0
plan-takes (by.Exit answer.Abend) ws c of h = absurd (step (tail_of (tail_of (planned_parts (by.Exit answer.Abend)))) (behind (behind ws)) refl (third-part (by.Exit answer.Abend) ws of)).0
plan-takes (by.Exit answer.Keep) ws c of h = absurd (step (tail_of (tail_of (planned_parts (by.Exit answer.Keep)))) (behind (behind ws)) refl (third-part (by.Exit answer.Keep) ws of)).0
plan-takes (by.Exit answer.Drop) ws c of h = absurd (step (tail_of (tail_of (planned_parts (by.Exit answer.Drop)))) (behind (behind ws)) refl (third-part (by.Exit answer.Drop) ws of)).0

-- what is known of a line of a form
abbrev Found : Format → Line → Type 0
Found format l = (l ≡ line.Clt) ⊎ IsSetting format l

found-plan : (format : Format) (f : ChoiceForm) (ws : List (List ℕ)) (l : Line) → AreOfForm (planned_parts f) ws → plan_said f ws ≡ Some l → Found format l
found-plan format f ws l of h =
    from_then _ (number_of (second ws)) l (Found format) h (λ tick e k. from_map (line.Plan tick) (choice_said f (behind (behind ws))) l (Found format) k (λ c e1.
    inr (
      (number-in 0 200 _ (second ws) tick (step (tail_of (planned_parts f)) (behind ws) refl (step (planned_parts f) ws refl of).1).0 e).0,
      plan-takes f ws c of e1,
      choice-has-line f (behind (behind ws)) c e1,
    )))

found-work : (format : Format) (f : ItemForm) (ws : List (List ℕ)) (l : Line) → (is_of_two (form.Work f) ≡ false ⊎ format ≡ Two) → work_said f ws ≡ Some l → Found format l
found-work format f ws l two h =
    from_then _ (site_of (second ws)) l (Found format) h (λ s e k. from_map (line.Work s) (item_said f ws) l (Found format) k (λ i e1. inr (of format two i e1)))
  where
    of : (fm : Format) → (is_of_two (form.Work f) ≡ false ⊎ fm ≡ Two) → (i : Item) → item_said f ws ≡ Some i → IsItemOf fm i
    of One (inl none) i e = (item-found f ws i e, users-of f ws i e none)
    of One (inr clash) i e = absurd (cc)
    of Two two i e = item-found f ws i e

-- the forms before the choices, and those of the choices
abbrev is_setting : Form → Bool
is_setting (form.Choice f) = false
is_setting form.End = false
is_setting _ = true

abbrev is_choosing : Form → Bool
is_choosing (form.Choice f) = true
is_choosing form.End = true
is_choosing _ = false

abbrev is_form_of : Format → Form → Bool
is_form_of One f = is_setting f && not (is_of_two f)
is_form_of Two f = is_setting f

-- a test that all forms of a list pass
among-passes : (test : Form → Bool) (forms : List Form) (f : Form) → list_all test forms ≡ true → IsAmong f forms → test f ≡ true
among-passes test [] f all among = absurd among
among-passes test (other ∷ forms) f all (inl same) = subst (λ (g : Form). test g ≡ true) same (and_parts (test other) (list_all test forms) all).0
among-passes test (other ∷ forms) f all (inr more) = among-passes test forms f (and_parts (test other) (list_all test forms) all).1 more

not-true : (b : Bool) → not b ≡ true → b ≡ false
not-true true h = absurd (cc)
not-true false h = refl

setting-form : (format : Format) (f : Form) → IsAmong f (settings_of format) → (is_setting f ≡ true) × (is_of_two f ≡ false ⊎ format ≡ Two)
setting-form One f among =
    let passes : is_form_of One f ≡ true = among-passes (is_form_of One) (settings_of One) f refl among in
    ((and_parts (is_setting f) (not (is_of_two f)) passes).0, inl (not-true (is_of_two f) (and_parts (is_setting f) (not (is_of_two f)) passes).1))
setting-form Two f among = (among-passes (is_form_of Two) (settings_of Two) f refl among, inr refl)

-- what stands behind XRF 2 alone
of-two : (f : Form) (format : Format) → is_of_two f ≡ true → (is_of_two f ≡ false ⊎ format ≡ Two) → format ≡ Two
of-two f format is (inl none) = absurd (cc)
of-two f format is (inr same) = same

form-says : (format : Format) (f : Form) (ws : List (List ℕ)) (l : Line) → is_setting f ≡ true → (is_of_two f ≡ false ⊎ format ≡ Two) → AreOfForm (parts_of f) ws → said f ws ≡ Some l → Found format l
form-says format form.Applid ws l s two of h =
    from_then _ (site_of (second ws)) l (Found format) h (λ site e k. from_map (line.Applid site) (name_of (third ws)) l (Found format) k (λ n e1. inr (name-is (third ws) n e1)))
form-says format (form.Takeovr mode) ws l s two of h = from_some (line.Takeovr mode) l (Found format) h (inr tt)
form-says format (form.Quantity quantity) ws l s two of h =
    from_map (line.Quantity quantity) (number_of (second ws)) l (Found format) h (λ n e. inr (quantity-found quantity (second ws) n (number-part quantity ws of) e))
form-says format (form.Images on) ws l s two of h = from_some (line.Images on) l (Found format) h (inr tt)
form-says format form.Level ws l s two of h =
    let a = step (parts_of form.Level) ws refl of in
    let b = step (tail_of (parts_of form.Level)) (behind ws) refl a.1 in
    let c = step (tail_of (tail_of (parts_of form.Level))) (behind (behind ws)) refl b.1 in
    from_then _ (site_of (second ws)) l (Found format) h (λ site e k. from_map (line.Level site) (number_of (third ws)) l (Found format) k (λ n e1.
    inr (of-two form.Level format refl two, (number-in 1 2 _ (third ws) n c.0 e1).0)))
form-says format (form.Xrfsoff force) ws l s two of h = from_some (line.Xrfsoff force) l (Found format) h (inr (of-two (form.Xrfsoff force) format refl two))
form-says format form.Record ws l s two of h =
    let a = step (parts_of form.Record) ws refl of in
    let b = step (tail_of (parts_of form.Record)) (behind ws) refl a.1 in
    from_then _ (number_of (second ws)) l (Found format) h (λ n e k. from_map (line.Record n) (value_of (third ws)) l (Found format) k (λ v e1.
    inr ((number-in 1 256 _ (second ws) n b.0 e).0, value-is (third ws) v e1)))
form-says format form.CltCancel ws l s two of h = from_some line.Clt l (Found format) h (inl refl)
form-says format form.CltCommand ws l s two of h = from_some line.Clt l (Found format) h (inl refl)
form-says format form.CltWto ws l s two of h = from_some line.Clt l (Found format) h (inl refl)
form-says format (form.Work f) ws l s two of h = found-work format f ws l two h
form-says format (form.Plan f) ws l s two of h = found-plan format f ws l of h
form-says format form.Choices ws l s two of h = from_some line.Choices l (Found format) h (inr tt)
form-says format (form.Choice f) ws l s two of h = absurd (cc)
form-says format form.End ws l s two of h = absurd (cc)

-- what is read of a line before the choices can be spelled
pub setting_found : (format : Format) (ws : List (List ℕ)) (l : Line) → line_of (settings_of format) ws ≡ Ok l → (l ≡ line.Clt) ⊎ IsSetting format l
setting_found format ws l h =
    let found = line-found (settings_of format) ws l h in
    let among = setting-form format found.form found.among in
    form-says format found.form ws l among.0 among.1 found.fit found.line

-- a choice, with its count where it has one
timed : (f : ChoiceForm) (ws : List (List ℕ)) (l : Line) → AreOfForm (choice_parts f) ws → once_said f ws ≡ Some l → IsChoosing l
timed by.TickTimes ws l of h =
    let a = step (choice_parts by.TickTimes) ws refl of in
    let b = step (tail_of (choice_parts by.TickTimes)) (behind ws) refl a.1 in
    from_map (line.Times choice.Tick) (number_of (second ws)) l IsChoosing h (λ n e. (refl, (number-in 1 9999 _ (second ws) n b.0 e).0))
timed by.StepTimes ws l of h =
    let a = step (choice_parts by.StepTimes) ws refl of in
    let b = step (tail_of (choice_parts by.StepTimes)) (behind ws) refl a.1 in
    let c = step (tail_of (tail_of (choice_parts by.StepTimes))) (behind (behind ws)) refl b.1 in
    from_then (counted by.StepTimes ws) (choice_said by.StepTimes ws) l IsChoosing h (λ ch e k. from_map (line.Times ch) (number_of (third ws)) l IsChoosing k (λ n e1. (
      from_then _ (site_of (second ws)) ch (λ (x : Choice). is_timed x ≡ true) e (λ s e2 k2. from_some (choice.Step s) ch (λ (x : Choice). is_timed x ≡ true) k2 refl),
      (number-in 1 9999 _ (third ws) n c.0 e1).0,
    )))
timed by.Tick ws l of h = from_then (counted by.Tick ws) (choice_said by.Tick ws) l IsChoosing h (λ c e k. from_some (line.Once c) l IsChoosing k (choice-has-line by.Tick ws c e))
timed by.Step ws l of h = from_then (counted by.Step ws) (choice_said by.Step ws) l IsChoosing h (λ c e k. from_some (line.Once c) l IsChoosing k (choice-has-line by.Step ws c e))
timed by.Lose ws l of h = from_then (counted by.Lose ws) (choice_said by.Lose ws) l IsChoosing h (λ c e k. from_some (line.Once c) l IsChoosing k (choice-has-line by.Lose ws c e))
timed by.StopNothing ws l of h = from_then (counted by.StopNothing ws) (choice_said by.StopNothing ws) l IsChoosing h (λ c e k. from_some (line.Once c) l IsChoosing k (choice-has-line by.StopNothing ws c e))
timed by.StopAll ws l of h = from_then (counted by.StopAll ws) (choice_said by.StopAll ws) l IsChoosing h (λ c e k. from_some (line.Once c) l IsChoosing k (choice-has-line by.StopAll ws c e))
timed by.StopTorn ws l of h = from_then (counted by.StopTorn ws) (choice_said by.StopTorn ws) l IsChoosing h (λ c e k. from_some (line.Once c) l IsChoosing k (choice-has-line by.StopTorn ws c e))
timed by.FailNothing ws l of h = from_then (counted by.FailNothing ws) (choice_said by.FailNothing ws) l IsChoosing h (λ c e k. from_some (line.Once c) l IsChoosing k (choice-has-line by.FailNothing ws c e))
timed by.FailAll ws l of h = from_then (counted by.FailAll ws) (choice_said by.FailAll ws) l IsChoosing h (λ c e k. from_some (line.Once c) l IsChoosing k (choice-has-line by.FailAll ws c e))
timed by.FailTorn ws l of h = from_then (counted by.FailTorn ws) (choice_said by.FailTorn ws) l IsChoosing h (λ c e k. from_some (line.Once c) l IsChoosing k (choice-has-line by.FailTorn ws c e))
timed by.StartActive ws l of h = from_then (counted by.StartActive ws) (choice_said by.StartActive ws) l IsChoosing h (λ c e k. from_some (line.Once c) l IsChoosing k (choice-has-line by.StartActive ws c e))
timed by.StartStandby ws l of h = from_then (counted by.StartStandby ws) (choice_said by.StartStandby ws) l IsChoosing h (λ c e k. from_some (line.Once c) l IsChoosing k (choice-has-line by.StartStandby ws c e))
timed by.Abend ws l of h = from_then (counted by.Abend ws) (choice_said by.Abend ws) l IsChoosing h (λ c e k. from_some (line.Once c) l IsChoosing k (choice-has-line by.Abend ws c e))
timed by.Confirm ws l of h = from_then (counted by.Confirm ws) (choice_said by.Confirm ws) l IsChoosing h (λ c e k. from_some (line.Once c) l IsChoosing k (choice-has-line by.Confirm ws c e))
timed (by.Reply go) ws l of h = from_then (counted (by.Reply go) ws) (choice_said (by.Reply go) ws) l IsChoosing h (λ c e k. from_some (line.Once c) l IsChoosing k (choice-has-line (by.Reply go) ws c e))
timed (by.Cebt command) ws l of h = from_then (counted (by.Cebt command) ws) (choice_said (by.Cebt command) ws) l IsChoosing h (λ c e k. from_some (line.Once c) l IsChoosing k (choice-has-line (by.Cebt command) ws c e))
timed (by.Exit answer) ws l of h = from_then (counted (by.Exit answer) ws) (choice_said (by.Exit answer) ws) l IsChoosing h (λ c e k. from_some (line.Once c) l IsChoosing k (choice-has-line (by.Exit answer) ws c e))

choosing-says : (f : Form) (ws : List (List ℕ)) (l : Line) → is_choosing f ≡ true → AreOfForm (parts_of f) ws → said f ws ≡ Some l → IsChoosing l
choosing-says (form.Choice f) ws l is of h = timed f ws l of h
choosing-says form.End ws l is of h = from_some line.End l IsChoosing h tt
choosing-says form.Applid ws l is of h = absurd (cc)
choosing-says (form.Takeovr mode) ws l is of h = absurd (cc)
choosing-says (form.Quantity quantity) ws l is of h = absurd (cc)
choosing-says (form.Images on) ws l is of h = absurd (cc)
choosing-says form.Level ws l is of h = absurd (cc)
choosing-says (form.Xrfsoff force) ws l is of h = absurd (cc)
choosing-says form.Record ws l is of h = absurd (cc)
choosing-says form.CltCancel ws l is of h = absurd (cc)
choosing-says form.CltCommand ws l is of h = absurd (cc)
choosing-says form.CltWto ws l is of h = absurd (cc)
choosing-says (form.Work f) ws l is of h = absurd (cc)
choosing-says (form.Plan f) ws l is of h = absurd (cc)
choosing-says form.Choices ws l is of h = absurd (cc)

-- what is read of a line of the choices can be spelled
pub choosing_found : (ws : List (List ℕ)) (l : Line) → line_of choices_table ws ≡ Ok l → IsChoosing l
choosing_found ws l h =
    let found = line-found choices_table ws l h in
    choosing-says found.form ws l (among-passes is_choosing choices_table found.form refl found.among) found.fit found.line

-- only the forms of the command list say its lines
abbrev is_clt : Line → Bool
is_clt line.Clt = true
is_clt _ = false

abbrev pub is_clt_form : Form → Bool
is_clt_form form.CltCancel = true
is_clt_form form.CltCommand = true
is_clt_form form.CltWto = true
is_clt_form _ = false

abbrev Other : Line → Type 0
Other l = is_clt l ≡ false

once-other : (f : ChoiceForm) (ws : List (List ℕ)) (c : Choice) (l : Line) → counted f ws c ≡ Some l → Other l
once-other by.TickTimes ws c l h = from_map (line.Times c) (number_of (second ws)) l Other h (λ n e. refl)
once-other by.StepTimes ws c l h = from_map (line.Times c) (number_of (third ws)) l Other h (λ n e. refl)
once-other by.Tick ws c l h = from_some (line.Once c) l Other h refl
once-other by.Step ws c l h = from_some (line.Once c) l Other h refl
once-other by.Lose ws c l h = from_some (line.Once c) l Other h refl
once-other by.StopNothing ws c l h = from_some (line.Once c) l Other h refl
once-other by.StopAll ws c l h = from_some (line.Once c) l Other h refl
once-other by.StopTorn ws c l h = from_some (line.Once c) l Other h refl
once-other by.FailNothing ws c l h = from_some (line.Once c) l Other h refl
once-other by.FailAll ws c l h = from_some (line.Once c) l Other h refl
once-other by.FailTorn ws c l h = from_some (line.Once c) l Other h refl
once-other by.StartActive ws c l h = from_some (line.Once c) l Other h refl
once-other by.StartStandby ws c l h = from_some (line.Once c) l Other h refl
once-other by.Abend ws c l h = from_some (line.Once c) l Other h refl
once-other by.Confirm ws c l h = from_some (line.Once c) l Other h refl
once-other (by.Reply go) ws c l h = from_some (line.Once c) l Other h refl
once-other (by.Cebt command) ws c l h = from_some (line.Once c) l Other h refl
once-other (by.Exit answer) ws c l h = from_some (line.Once c) l Other h refl

says-other : (f : Form) (ws : List (List ℕ)) (l : Line) → is_clt_form f ≡ false → said f ws ≡ Some l → Other l
says-other form.Applid ws l out h = from_then _ (site_of (second ws)) l Other h (λ s e k. from_map (line.Applid s) (name_of (third ws)) l Other k (λ n e1. refl))
says-other form.Level ws l out h = from_then _ (site_of (second ws)) l Other h (λ s e k. from_map (line.Level s) (number_of (third ws)) l Other k (λ n e1. refl))
says-other form.Record ws l out h = from_then _ (number_of (second ws)) l Other h (λ n e k. from_map (line.Record n) (value_of (third ws)) l Other k (λ v e1. refl))
says-other (form.Takeovr mode) ws l out h = from_some (line.Takeovr mode) l Other h refl
says-other (form.Images on) ws l out h = from_some (line.Images on) l Other h refl
says-other (form.Xrfsoff force) ws l out h = from_some (line.Xrfsoff force) l Other h refl
says-other (form.Quantity quantity) ws l out h = from_map (line.Quantity quantity) (number_of (second ws)) l Other h (λ n e. refl)
says-other (form.Work f) ws l out h = from_then _ (site_of (second ws)) l Other h (λ s e k. from_map (line.Work s) (item_said f ws) l Other k (λ i e1. refl))
says-other (form.Plan f) ws l out h = from_then _ (number_of (second ws)) l Other h (λ t e k. from_map (line.Plan t) (choice_said f (behind (behind ws))) l Other k (λ c e1. refl))
says-other form.Choices ws l out h = from_some line.Choices l Other h refl
says-other form.End ws l out h = from_some line.End l Other h refl
says-other (form.Choice f) ws l out h = from_then (counted f ws) (choice_said f ws) l Other h (λ c e k. once-other f ws c l k)
says-other form.CltCancel ws l out h = absurd (cc)
says-other form.CltCommand ws l out h = absurd (cc)
says-other form.CltWto ws l out h = absurd (cc)

-- a line of the command list is of one of its forms
pub clt_found : (format : Format) (ws : List (List ℕ)) → line_of (settings_of format) ws ≡ Ok line.Clt
    → (f : Form) × ((is_clt_form f ≡ true) × AreOfForm (parts_of f) ws)
clt_found format ws h = by (is_clt_form found.form) refl
  where
    found : Spells (settings_of format) ws line.Clt
    found = line-found (settings_of format) ws line.Clt h

    by : (t : Bool) → is_clt_form found.form ≡ t → (f : Form) × ((is_clt_form f ≡ true) × AreOfForm (parts_of f) ws)
    by true e = (found.form, (e, found.fit))
    by false e = let clash : is_clt line.Clt ≡ false = says-other found.form ws line.Clt e found.line in absurd (cc)
