-- The fields of a body: names padded to 8 bytes, and what stands behind them.
use Rattle.std.proofs.Common.{◌≡◌, ℕ, ◌==◌, Bool, true, false, List, [], ◌∷◌, ◌++◌, length, take, drop, slice_index, subst, arith, append_assoc}
use Rattle.std.specs.List.{list_all}
use Rattle.std.proofs.lemmas.Bool.{ne_eqb, and_parts}
use Rattle.std.proofs.lemmas.List.{take_at, drop_at, length-append, get_or-append_right}
use Rattle.xrf_base.specs.Names.{IsName, is_name_byte}
use Rattle.xrf_base.specs.Padding.{padded}
use Rattle.xrf_base.proofs.NameLaws.{name-characters, length-padded_name}
use Rattle.xrf_msg.specs.Messages.{terminal_of, state_byte}

-- no character of a name is zero
no_zero : (b : ℕ) → is_name_byte b ≡ true → (b == 0) ≡ false
no_zero b is = ne_eqb b 0 (λ e. let t : is_name_byte 0 ≡ true = subst (λ (n : ℕ). is_name_byte n ≡ true) e is in cc)

-- what stands behind a terminal, its class and its state
pub take-terminal : (name : List ℕ) (class : ℕ) (on : Bool) (rest : List ℕ) → IsName name → take 8 (terminal_of name class on ++ rest) ≡ padded 8 name
take-terminal name class on rest is =
    rw append_assoc (take_at (padded 8 name) ((class ∷ state_byte on ∷ []) ++ rest) 8 (length-padded_name name is))

pub class-terminal : (name : List ℕ) (class : ℕ) (on : Bool) (rest : List ℕ) → IsName name → slice_index (terminal_of name class on ++ rest) 8 ≡ class
class-terminal name class on rest is =
    rw append_assoc (get_or-append_right (padded 8 name) ((class ∷ state_byte on ∷ []) ++ rest) 8 8 0 (length-padded_name name is) (omega arith))

pub state-terminal : (name : List ℕ) (class : ℕ) (on : Bool) (rest : List ℕ) → IsName name → slice_index (terminal_of name class on ++ rest) 9 ≡ state_byte on
state-terminal name class on rest is =
    rw append_assoc (get_or-append_right (padded 8 name) ((class ∷ state_byte on ∷ []) ++ rest) 8 9 0 (length-padded_name name is) (omega arith))

length-terminal : (name : List ℕ) (class : ℕ) (on : Bool) → IsName name → length (terminal_of name class on) ≡ 10
length-terminal name class on is = let whole = length-append (padded 8 name) (class ∷ state_byte on ∷ []) in let front = length-padded_name name is in omega arith

pub drop-terminal : (name : List ℕ) (class : ℕ) (on : Bool) (rest : List ℕ) → IsName name → drop 10 (terminal_of name class on ++ rest) ≡ rest
drop-terminal name class on rest is = drop_at (terminal_of name class on) rest 10 (length-terminal name class on is)

pub behind-terminal : (name : List ℕ) (class : ℕ) (on : Bool) (rest : List ℕ) → IsName name → slice_index (terminal_of name class on ++ rest) 10 ≡ slice_index rest 0
behind-terminal name class on rest is = get_or-append_right (terminal_of name class on) rest 10 10 0 (length-terminal name class on is) (omega arith)

-- a padded name doesn't begin with zero
pub name-first : (name rest : List ℕ) → IsName name → (slice_index (padded 8 name ++ rest) 0 == 0) ≡ false
name-first [] rest is = cc
name-first (x ∷ xs) rest is = no_zero x (and_parts (is_name_byte x) (list_all is_name_byte xs) (name-characters (x ∷ xs) is)).0

pub take-user : (name rest : List ℕ) → IsName name → take 8 (padded 8 name ++ rest) ≡ padded 8 name
take-user name rest is = take_at (padded 8 name) rest 8 (length-padded_name name is)
