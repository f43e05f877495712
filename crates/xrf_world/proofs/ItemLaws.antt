-- The items of a site after one entry more of it.
use Rattle.std.proofs.Common.{◌≡◌, ◌≤◌, ◌<◌, ◌+◌, ◌&&◌, ◌==◌, ℕ, Bool, true, false, ◌∙◌, sym, ap, subst, refl, arith, eqb-true, nat_lt, if◌then◌else◌, List, [], ◌∷◌, ◌++◌, length, Option, Some, None, slice_index_or, vec_capacity}
use Rattle.std.proofs.lemmas.Grind.{common_steps}
use Rattle.std.proofs.lemmas.List.{get_or_append_left, get_or_past, length-append}
use Rattle.std.proofs.Math.Seq.{get_or-append_seam}
use Rattle.xrf_base.specs.declared.items.ItemAnswer.{ItemAnswer}
use Rattle.xrf_base.specs.declared.site.Site.{Site}
use Rattle.xrf_history.specs.Reserving.{or_else}
use Rattle.xrf_trace.specs.declared.entry.Entry.{Entry}
use Rattle.xrf_trace.specs.Items.{answer, answer_by}
use Rattle.xrf_trace.specs.Landing.{is_in_full}
use Rattle.xrf_trace.specs.Scenario.{Scen, work}
use Rattle.xrf_trace.specs.Words.{is_of, is_item, items_taken}
use Rattle.xrf_world.specs.declared.items.Items.{Items}
use Rattle.xrf_world.specs.Places.{CanTake, ItemsAre, KeptByNumber, is_start, taken_before_start}

-- an item that was not taken is not answered
taken-rises : (b : Bool) (n : ℕ) → n ≤ (if b then n + 1 else n)
taken-rises true n = omega arith
taken-rises false n = omega arith

pub unanswered : (s : Scen) (t : List Entry) (x : Site) (k : ℕ) → items_taken t x < k → answer s t x k ≡ None
unanswered s [] x k later = refl
unanswered s (e ∷ t) x k later =
    let rises : items_taken t x ≤ items_taken (e ∷ t) x = taken-rises (is_of e.who x && is_item e.act) (items_taken t x) in
    let still : items_taken t x < k = omega (arith, later, rises) in
    by (is_of e.who x && is_in_full e.land && items_taken (e ∷ t) x == k) refl (unanswered s t x k still)
  where
    apart : (own full same : Bool) → (own && full && same) ≡ true → (items_taken (e ∷ t) x == k) ≡ same → ⊥
    apart true true true ok is = let here : items_taken (e ∷ t) x ≡ k = eqb-true (items_taken (e ∷ t) x) k is in omega (arith, later, here)
    apart true true false ok is = absurd (cc)
    apart true false same ok is = absurd (cc)
    apart false full same ok is = absurd (cc)

    by : (b : Bool) → (is_of e.who x && is_in_full e.land && items_taken (e ∷ t) x == k) ≡ b → answer s t x k ≡ None
        → ◌≡◌ {A = Option ItemAnswer} (elim b [ true ↦ or_else (answer_by s t x e.act) (answer s t x k) | false ↦ answer s t x k ]) None
    by true met before = absurd (apart (is_of e.who x) (is_in_full e.land) (items_taken (e ∷ t) x == k) met refl)
    by false met before = before

-- what is kept at a place, within or past those that were taken, is the answer of its item
pub kept-answer : (s : Scen) (t : List Entry) (x : Site) (items : Items) → ItemsAre items s t x
    → (k : ℕ) → slice_index_or items.answers.items k None ≡ answer s t x (k + 1)
kept-answer s t x items are k = by (nat_lt k (length items.answers.items)) refl
  where
    by : (b : Bool) → nat_lt k (length items.answers.items) ≡ b → slice_index_or items.answers.items k None ≡ answer s t x (k + 1)
    by true within = are.answers k (grind (arith, common_steps))
    by false past =
        let most : length items.answers.items ≤ k = grind (arith, common_steps) in
        get_or_past items.answers.items k None most ∙ sym (unanswered s t x (k + 1) (omega (arith, are.taken, most)))

-- one place more, for an item that is not answered
added : (xs : List (Option ItemAnswer)) (f : ℕ → Option ItemAnswer) → KeptByNumber xs f → f (length xs + 1) ≡ None → KeptByNumber (xs ++ None ∷ []) f
added xs f kept none k less = by (nat_lt k (length xs)) refl
  where
    by : (b : Bool) → nat_lt k (length xs) ≡ b → slice_index_or (xs ++ None ∷ []) k None ≡ f (k + 1)
    by true within = get_or_append_left xs (None ∷ []) None k (grind (arith, common_steps)) ∙ kept k (grind (arith, common_steps))
    by false past =
        let long : length (xs ++ None ∷ []) ≡ length xs + 1 = length-append xs (None ∷ []) in
        let last : k ≡ length xs = grind (arith, common_steps, less, long) in
        ap (λ (n : ℕ). slice_index_or (xs ++ None ∷ []) n None) last ∙ get_or-append_seam xs None [] None
        ∙ sym none ∙ ap (λ (n : ℕ). f (n + 1)) (sym last)

added-if : (b : Bool) (xs : List (Option ItemAnswer)) (f : ℕ → Option ItemAnswer) → KeptByNumber xs f → f (length xs + 1) ≡ None
    → KeptByNumber (if b then xs ++ None ∷ [] else xs) f
added-if true xs f kept none = added xs f kept none
added-if false xs f kept none = kept

length-if : (b : Bool) (xs : List (Option ItemAnswer)) → length (if b then xs ++ None ∷ [] else xs) ≡ (if b then length xs + 1 else length xs)
length-if true xs = length-append xs (None ∷ [])
length-if false xs = refl

few-if : (b : Bool) (n most : ℕ) → n ≤ most → (b ≡ true → n < most) → (if b then n + 1 else n) ≤ most
few-if true n most few left = let less : n < most = left refl in omega (arith, less)
few-if false n most few left = few

-- the answer of an item after an entry of its site
answer-after : (own full same : Bool) (a y : Option ItemAnswer) → own ≡ true
    → (if same then or_else (if full then a else None) y else y) ≡ elim (own && full && same) [ true ↦ or_else a y | false ↦ y ]
answer-after true true true a y is = refl
answer-after true true false a y is = refl
answer-after true false true a None is = refl
answer-after true false true a (Some given) is = refl
answer-after true false false a y is = refl
answer-after false full same a y is = absurd (cc)

-- **so the items stand after it**
pub followed : (s : Scen) (t : List Entry) (x : Site) (e : Entry) (given : Option ItemAnswer) (old new : Items) (xs : List (Option ItemAnswer))
    → ItemsAre old s t x → CanTake s t x e given
    → xs ≡ (if is_item e.act then old.answers.items ++ None ∷ [] else old.answers.items)
    → new.before_start ≡ (if is_start e.act then length old.answers.items else old.before_start)
    → ((f : ℕ → Option ItemAnswer) → KeptByNumber xs f → KeptByNumber new.answers.items (λ k. if length xs == k then or_else given (f k) else f k))
    → length new.answers.items ≡ length xs → vec_capacity new.answers ≡ vec_capacity old.answers → ItemsAre new s (e ∷ t) x
followed s t x e given old new xs are can adds starts keeps long room =
    let taken_after : items_taken (e ∷ t) x ≡ (if is_item e.act then items_taken t x + 1 else items_taken t x) =
    ap (λ (b : Bool). if b && is_item e.act then items_taken t x + 1 else items_taken t x) can.own in
    let counted : length xs ≡ items_taken (e ∷ t) x =
    ap length adds ∙ length-if (is_item e.act) old.answers.items
    ∙ ap (λ (n : ℕ). if is_item e.act then n + 1 else n) are.taken ∙ sym taken_after in
    let none : answer s t x (length old.answers.items + 1) ≡ None = unanswered s t x (length old.answers.items + 1) (omega (arith, are.taken)) in
    let kept : KeptByNumber xs (answer s t x) =
    subst (λ (ys : List (Option ItemAnswer)). KeptByNumber ys (answer s t x)) (sym adds) (added-if (is_item e.act) old.answers.items (answer s t x) are.answers none) in
    record {
      taken = long ∙ counted;
      answers = λ k less. keeps (answer s t x) kept k less
          ∙ ap (λ (n : ℕ). if n == (k + 1) then or_else given (answer s t x (k + 1)) else answer s t x (k + 1)) counted
          ∙ ap (λ (o : Option ItemAnswer). if items_taken (e ∷ t) x == (k + 1) then or_else o (answer s t x (k + 1)) else answer s t x (k + 1)) can.gives
          ∙ answer-after (is_of e.who x) (is_in_full e.land) (items_taken (e ∷ t) x == (k + 1)) (answer_by s t x e.act) (answer s t x (k + 1)) can.own;
      before_start = starts
          ∙ ap (λ (n : ℕ). if is_start e.act then n else old.before_start) are.taken
          ∙ ap (λ (n : ℕ). if is_start e.act then items_taken t x else n) are.before_start
          ∙ sym (ap (λ (b : Bool). if b && is_start e.act then items_taken t x else taken_before_start t x) can.own);
      few = subst (λ (n : ℕ). n ≤ length (work s x)) (sym taken_after) (few-if (is_item e.act) (items_taken t x) (length (work s x)) are.few can.left);
      room = subst (λ (n : ℕ). length (work s x) ≤ n) (sym room) are.room;
    }
