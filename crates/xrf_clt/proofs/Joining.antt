-- Words with one blank between them, joined one after another behind what is there.
use Rattle.std.proofs.Common.{◌≡◌, ℕ, ◌≤◌, List, [], ◌∷◌, ◌++◌, length, take, drop, append_assoc, length-take, sym, ap, ◌∙◌, arith}
use Rattle.std.specs.List.{join_with_byte}
use Rattle.std.proofs.lemmas.List.{append-nil, take-append-le, take-append-drop}
use Rattle.std.proofs.Math.Seq.{take-append_seam}
use Rattle.xrf_clt.specs.Table.{with_blanks}

pub join_first : (word : List ℕ) (more : List (List ℕ)) → join_with_byte 32 (word ∷ more) ≡ word ++ with_blanks more
join_first word [] = sym (append-nil word)
join_first word (next ∷ more) = ap (λ (rest : List ℕ). word ++ 32 ∷ rest) (join_first next more)

-- What stands in front stays there when more is appended.
pub stays_in_front : (front texts more : List ℕ) → take (length front) texts ≡ front → take (length front) (texts ++ more) ≡ front
stays_in_front front texts more stays =
    let long : length front ≤ length texts = let same = ap length stays in let taken = length-take (length front) texts in omega arith in
    take-append-le (length front) texts more long ∙ stays

-- Where what is in front and a word behind it stay, what is in front stays.
pub front_of_front : (front word texts : List ℕ) → take (length (front ++ word)) texts ≡ front ++ word → take (length front) texts ≡ front
front_of_front front word texts stays =
    ap (take (length front)) (sym (take-append-drop (length (front ++ word)) texts) ∙ ap (λ (first : List ℕ). first ++ drop (length (front ++ word)) texts) stays)
    ∙ stays_in_front front (front ++ word) (drop (length (front ++ word)) texts) (take-append_seam front word)

-- A word and then words behind blanks, appended, are the words with one blank between them.
pub joined_behind : (front word : List ℕ) (more : List (List ℕ)) → (front ++ word) ++ with_blanks more ≡ front ++ join_with_byte 32 (word ∷ more)
joined_behind front word more = append_assoc front word (with_blanks more) ∙ ap (λ (text : List ℕ). front ++ text) (sym (join_first word more))
