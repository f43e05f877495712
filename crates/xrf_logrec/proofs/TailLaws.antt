-- A body whose fields are these spells them exactly where its tail is zero.
use Rattle.std.proofs.Common.{◌≡◌, ◌==◌, ◌&&◌, ℕ, Bool, true, false, cond, List, [], ◌∷◌, ◌++◌, length, take, drop, replicate, slice_index, nat_eq, Some, None, refl, sym, ◌∙◌, ap, ap₂, subst, arith}
use Rattle.std.specs.Cmp.Lexicographic.{pointwise}
use Rattle.std.proofs.Math.Seq.{take-add}
use Rattle.std.proofs.lemmas.Bool.{eqb-true}
use Rattle.byteorder.specs.Endian.{big_number, big_bytes}
use Rattle.xrf_base.specs.Numbers.{AreBytes}
use Rattle.xrf_base.specs.Zeros.{are_zeros}
use Rattle.xrf_base.proofs.NumberLaws.{number_part}
use Rattle.xrf_base.proofs.Tails.{pointwise-tail, same_test}
use Rattle.xrf_logrec.specs.declared.records.LogRec.{LogRec}
use Rattle.xrf_logrec.specs.declared.records.LogRec.TheVariants.{Put, Commit, Backout}
use Rattle.xrf_logrec.specs.LogRecords.{head_of, spelling, unit_in, before_image, fields_of}
use Rattle.xrf_logrec.specs.Keypoints.{key_spelling, key_fields}

-- how many bytes the fields of a record take
abbrev pub fields_length : LogRec → ℕ
fields_length (Put unit rrn before) = 47
fields_length (Commit unit) = 13
fields_length (Backout unit) = 13

join : (a b c d : List ℕ) → a ≡ b → c ≡ d → a ++ c ≡ b ++ d
join a b c d e f = ap (λ (x : List ℕ). x ++ c) e ∙ ap (λ (x : List ℕ). b ++ x) f

first : (body : List ℕ) (kind : ℕ) → length body ≡ 63 → slice_index body 0 ≡ kind → take 1 body ≡ kind ∷ []
first [] kind long is = absurd (omega arith)
first (b ∷ bytes) kind long is = ap (λ (n : ℕ). n ∷ []) is

-- the head of the fields is the front of the body
head_again : (body : List ℕ) (kind : ℕ) → length body ≡ 63 → AreBytes body → slice_index body 0 ≡ kind → take 13 body ≡ head_of kind (big_number 4 (drop 1 body)) (unit_in body)
head_again body kind long fits is =
    take-add 9 4 body
    ∙ join _ _ _ _ (take-add 5 4 body
    ∙ join _ _ _ _ (take-add 1 4 body
    ∙ join _ _ _ _ (first body kind long is) (number_part body 1 4 (omega arith) fits))
    (number_part body 5 4 (omega arith) fits))
    (number_part body 9 4 (omega arith) fits)

end_tail : (body : List ℕ) (kind : ℕ) → length body ≡ 63 → AreBytes body → slice_index body 0 ≡ kind
    → pointwise nat_eq (head_of kind (big_number 4 (drop 1 body)) (unit_in body) ++ replicate 50 0) body ≡ are_zeros (drop 13 body)
end_tail body kind long fits is =
    ap (λ (x : List ℕ). pointwise nat_eq (x ++ replicate 50 0) body) (sym (head_again body kind long fits is)) ∙ pointwise-tail 0 13 50 body (omega arith)

put_tail : (body : List ℕ) → length body ≡ 63 → AreBytes body → slice_index body 0 ≡ 1
    → pointwise nat_eq (spelling (big_number 4 (drop 1 body)) (Put (unit_in body) (big_number 2 (drop 13 body)) (before_image body))) body ≡ are_zeros (drop 47 body)
put_tail body long fits is =
    let fields : take 47 body ≡ head_of 1 (big_number 4 (drop 1 body)) (unit_in body) ++ big_bytes 2 (big_number 2 (drop 13 body)) ++ before_image body =
    take-add 15 32 body ∙ join _ _ _ _ (take-add 13 2 body ∙ join _ _ _ _ (head_again body 1 long fits is) (number_part body 13 2 (omega arith) fits)) refl in
    ap (λ (x : List ℕ). pointwise nat_eq (x ++ replicate 16 0) body) (sym fields) ∙ pointwise-tail 0 47 16 body (omega arith)

pub spelled_tail : (body : List ℕ) (rec : LogRec) → length body ≡ 63 → AreBytes body → fields_of body ≡ Some rec
    → pointwise nat_eq (spelling (big_number 4 (drop 1 body)) rec) body ≡ are_zeros (drop (fields_length rec) body)
spelled_tail body rec long fits is = by (slice_index body 0 == 1) (slice_index body 0 == 2) (slice_index body 0 == 3) refl refl refl is
  where
    Tail : LogRec → Type 0
    Tail r = pointwise nat_eq (spelling (big_number 4 (drop 1 body)) r) body ≡ are_zeros (drop (fields_length r) body)

    told : (r : LogRec) → Some r ≡ Some rec → Tail r → Tail rec
    told r same tail = let one : r ≡ rec = cc in subst Tail one tail

    by : (a b c : Bool) → (slice_index body 0 == 1) ≡ a → (slice_index body 0 == 2) ≡ b → (slice_index body 0 == 3) ≡ c
        → cond a (Some (Put (unit_in body) (big_number 2 (drop 13 body)) (before_image body))) (cond b (Some (Commit (unit_in body))) (cond c (Some (Backout (unit_in body))) None)) ≡ Some rec → Tail rec
    by true b c e f g same = told (Put (unit_in body) (big_number 2 (drop 13 body)) (before_image body)) same (put_tail body long fits (eqb-true _ 1 e))
    by false true c e f g same = told (Commit (unit_in body)) same (end_tail body 2 long fits (eqb-true _ 2 f))
    by false false true e f g same = told (Backout (unit_in body)) same (end_tail body 3 long fits (eqb-true _ 3 g))
    by false false false e f g same = absurd (cc)

-- the same for a keypoint, whose kind is no field
pub key_tail : (body : List ℕ) → length body ≡ 63 → AreBytes body → pointwise nat_eq (key_spelling (key_fields body)) body ≡ (slice_index body 0 == 4 && are_zeros (drop 9 body))
key_tail [] long fits = absurd (omega arith)
key_tail (kind ∷ rest) long fits =
    let body : List ℕ = kind ∷ rest in
    let fields : take 8 rest ≡ big_bytes 4 (big_number 4 rest) ++ big_bytes 4 (big_number 4 (drop 4 rest)) =
    take-add 4 4 rest ∙ join _ _ _ _ (number_part body 1 4 (omega arith) fits) (number_part body 5 4 (omega arith) fits) in
    let tail : pointwise nat_eq (big_bytes 4 (big_number 4 rest) ++ big_bytes 4 (big_number 4 (drop 4 rest)) ++ replicate 54 0) rest ≡ are_zeros (drop 8 rest) =
    ap (λ (x : List ℕ). pointwise nat_eq (x ++ replicate 54 0) rest) (sym fields) ∙ pointwise-tail 0 8 54 rest (omega arith) in
    ap₂ (λ a b. a && b) (same_test 4 kind) tail
