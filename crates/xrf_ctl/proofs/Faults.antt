-- Which faults there are, and that a record's bytes have none.
use Rattle.std.proofs.Common.{◌≡◌, ℕ, ◌+◌, List, [], ◌∷◌, take, drop, get_or, slice_index, Option, Some, None, inl, inr, refl, sym, subst, ◌∙◌, ap, arith, add-zero}
use Rattle.std.proofs.lemmas.List.{get_or-drop, get_or-take}
use Rattle.xrf_ctl.specs.Places.{part, zeros}
use Rattle.xrf_ctl.specs.Reading.{HasParts}
use Rattle.xrf_ctl.specs.declared.parts.Owner.{Owner}
use Rattle.xrf_ctl.specs.declared.parts.Alt.{Alt}
use Rattle.xrf_ctl.specs.declared.parts.Taking.{Taking}
use Rattle.xrf_ctl.specs.declared.fault.Field.{Field}
use Rattle.xrf_ctl.specs.declared.fault.Field.TheVariants as field
use Rattle.xrf_ctl.specs.Control.{ControlRecord, IsFormat}
use Rattle.xrf_ctl.specs.Faults.{HasOwner, HasAlt, HasTaking, Holds, order, IsFirst, IsFault}

-- the first byte of a part is the byte at its place
first_of : (b : List ℕ) (place n x : ℕ) (rest : List ℕ) → part b place (n + 1) ≡ x ∷ rest → slice_index b place ≡ x
first_of b place n x rest e =
    let here : get_or (take (n + 1) (drop place b)) 0 0 ≡ get_or b place 0 = get_or-take (n + 1) (drop place b) 0 0 (omega arith) ∙ get_or-drop place b 0 0 ∙ ap (λ (k : ℕ). get_or b k 0) (add-zero place) in
    sym here ∙ ap (λ (xs : List ℕ). get_or xs 0 0) e

some_is : {A : Type 0} (x y : A) → Some x ≡ Some y → x ≡ y
some_is x y e = cc

abbrev no_taking : Option (Option Taking)
no_taking = None

-- where no taking is spelled beside the owner and the alternate, the fault is Taking
pub fault_taking : (b : List ℕ) (o : Option Owner) (a : Option Alt) → Holds b field.Eye → Holds b field.Format → Holds b field.Last → HasOwner b o → HasAlt b o a
    → ((p : Option Owner) → HasOwner b p → Some o ≡ Some p)
    → ((p : Option Alt) → HasAlt b o p → Some a ≡ Some p)
    → ((t : Option Taking) → HasTaking b a t → no_taking ≡ Some t)
    → IsFault b field.Taking
fault_taking b o a eye format last has_owner has_alt one_owner one_alt no_more =
    let none : ¬ Holds b field.Taking = λ h.
    let owner_is : o ≡ h.0 = some_is o h.0 (one_owner h.0 h.3) in
    let alt_here : HasAlt b o h.1 = subst (λ (p : Option Owner). HasAlt b p h.1) (sym owner_is) h.4 in
    let alt_is : a ≡ h.1 = some_is a h.1 (one_alt h.1 alt_here) in
    let taking_here : HasTaking b a h.2 = subst (λ (p : Option Alt). HasTaking b p h.2) (sym alt_is) h.5 in
    absurd (cc (no_more h.2 taking_here)) in
    inr (eye, inr (format, inr (last, inr ((o, has_owner), inr ((o, a, has_owner, has_alt), inl (refl, none))))))

-- where an owner is there, its incarnation is above 0
flag_needs_last : (b : List ℕ) (o : Option Owner) → HasOwner b o → Holds b field.Last
flag_needs_last b None has none flag =
    let zero_there : slice_index b 12 ≡ 0 = first_of b 12 7 0 (zeros 7) has.0 in
    absurd (omega arith)
flag_needs_last b (Some o) has none flag = absurd (omega (arith, has.1.0, has.1.1))

-- every field of a record's bytes holds
pub all_hold : (b : List ℕ) (r : ControlRecord) → HasParts b r → (f : Field) → Holds b f
all_hold b r has field.Eye = has.eye
all_hold b r has field.Format = subst IsFormat (sym has.format) has.is_format
all_hold b r has field.Last = flag_needs_last b r.owner has.owner
all_hold b r has field.Owner = (r.owner, has.owner)
all_hold b r has field.Alt = (r.owner, r.alt, has.owner, has.alt)
all_hold b r has field.Taking = (r.owner, r.alt, r.taking, has.owner, has.alt, has.taking)
all_hold b r has field.Reserved = has.reserved

-- so none of them is at fault
no_first : (b : List ℕ) (fs : List Field) (f : Field) → ((g : Field) → Holds b g) → IsFirst b fs f → ⊥
no_first b [] f all none = none
no_first b (g ∷ gs) f all (inl here) = here.1 (all g)
no_first b (g ∷ gs) f all (inr later) = no_first b gs f all later.1

pub no_fault : (b : List ℕ) (r : ControlRecord) (f : Field) → HasParts b r → IsFault b f → ⊥
no_fault b r f has fault = no_first b order f (all_hold b r has) fault

-- and there is one first fault at most
one_first : (b : List ℕ) (fs : List Field) (f g : Field) → IsFirst b fs f → IsFirst b fs g → f ≡ g
one_first b [] f g none other = absurd none
one_first b (h ∷ hs) f g (inl x) (inl y) = sym x.0 ∙ y.0
one_first b (h ∷ hs) f g (inl x) (inr y) = absurd (x.1 y.0)
one_first b (h ∷ hs) f g (inr x) (inl y) = absurd (y.1 x.0)
one_first b (h ∷ hs) f g (inr x) (inr y) = one_first b hs f g x.1 y.1

pub one_fault : (b : List ℕ) (f g : Field) → IsFault b f → IsFault b g → f ≡ g
one_fault b f g = one_first b order f g
