-- A list that is read line by line.
use Rattle.std.proofs.Common.{◌≡◌, ℕ, suc, ◌+◌, List, [], ◌∷◌, ◌++◌, length, map, Option, Some, None, Result, Ok, Err, refl, sym, ◌∙◌, arith, append_assoc}
use Rattle.std.proofs.lemmas.List.{append-nil, length-append}
use Rattle.std.specs.List.{AllByRecursion}
use Rattle.xrf_text.specs.Text.{words}
use Rattle.xrf_clt.specs.declared.CltReason.{CltReason}
use Rattle.xrf_clt.specs.Kept.{Kept}
use Rattle.xrf_clt.specs.Lines.{words_kept, fault_of}
use Rattle.xrf_clt.specs.Table.{IsFirstFault}

-- what is kept of some texts, behind what is kept so far, or the place and the reason of the first fault
abbrev pub after_fault : List Kept → (fault : Option CltReason) → Result (List Kept) (ℕ × CltReason) → Result (List Kept) (ℕ × CltReason)
after_fault done None more = more
after_fault done (Some reason) more = Err (length done, reason)

abbrev pub continue : List Kept → List (List ℕ) → Result (List Kept) (ℕ × CltReason)
continue done [] = Ok done
continue done (text ∷ texts) = after_fault done (fault_of (words text)) (continue (done ++ words_kept (words text) ∷ []) texts)

-- What reading the texts gives: what is kept of all of them, each of which is a line, ..
pub record AllKept (done : List Kept) (texts : List (List ℕ)) (kept : List Kept) : Type 0 where
  pub fine : AllByRecursion (λ (text : List ℕ). fault_of (words text) ≡ None) texts
  pub is : kept ≡ done ++ map (λ (text : List ℕ). words_kept (words text)) texts

-- .. or the first fault.
pub record StopsAt (done : List Kept) (texts : List (List ℕ)) (at : ℕ × CltReason) : Type 0 where
  pub place : ℕ
  pub counted : at.0 ≡ length done + place
  pub first : IsFirstFault texts place at.1

abbrev pub Gives : List Kept → List (List ℕ) → Result (List Kept) (ℕ × CltReason) → Type 0
Gives done texts (Ok kept) = AllKept done texts kept
Gives done texts (Err at) = StopsAt done texts at

one_more : (done : List Kept) (text : List ℕ) (texts : List (List ℕ)) (read : Result (List Kept) (ℕ × CltReason)) → fault_of (words text) ≡ None
    → Gives (done ++ words_kept (words text) ∷ []) texts read → Gives done (text ∷ texts) read
one_more done text texts (Ok kept) fine more = record { fine = (fine, more.fine); is = more.is ∙ append_assoc done (words_kept (words text) ∷ []) (map (λ (t : List ℕ). words_kept (words t)) texts) }
one_more done text texts (Err at) fine more = record {
  place = suc more.place;
  counted = let longer = length-append done (words_kept (words text) ∷ []) in let counted = more.counted in omega arith;
  first = (fine, more.first);
}

by_fault : (done : List Kept) (text : List ℕ) (texts : List (List ℕ)) (fault : Option CltReason) → fault_of (words text) ≡ fault
    → Gives (done ++ words_kept (words text) ∷ []) texts (continue (done ++ words_kept (words text) ∷ []) texts)
    → Gives done (text ∷ texts) (after_fault done fault (continue (done ++ words_kept (words text) ∷ []) texts))
by_fault done text texts None fine more = one_more done text texts (continue (done ++ words_kept (words text) ∷ []) texts) fine more
by_fault done text texts (Some reason) bad more = record { place = 0; counted = omega arith; first = bad }

pub continue_gives : (done : List Kept) (texts : List (List ℕ)) → Gives done texts (continue done texts)
continue_gives done [] = record { fine = tt; is = sym (append-nil done) }
continue_gives done (text ∷ texts) =
    by_fault done text texts (fault_of (words text)) refl (continue_gives (done ++ words_kept (words text) ∷ []) texts)
