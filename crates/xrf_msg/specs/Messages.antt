-- Messages of an active to its alternate, and the bodies that spell them.
use Rattle.std.specs.Prelude.{◌≡◌, ℕ, ◌^◌, ◌<◌, ◌≤◌, Bool, true, false, ◌==◌, ◌&&◌, nat_eq, nat_le, if◌then◌else◌, List, [], ◌∷◌, ◌++◌, take, drop, replicate, slice_index, Option, Some, None}
use Rattle.std.specs.Option.{option_map, option_and_then}
use Rattle.std.specs.Cmp.Lexicographic.{pointwise}
use Rattle.byteorder.specs.Endian.{big_number, big_bytes}
use Rattle.xrf_base.specs.Names.{IsName, padded_name}
use Rattle.xrf_base.specs.Padding.{padded}
use Rattle.xrf_msg.specs.declared.messages.Message.{Message}
use Rattle.xrf_msg.specs.declared.messages.Message.TheVariants.{Begin, Term, End, User}

-- the epoch of a message, and its number among those of the epoch
abbrev pub epoch_of : Message → ℕ
epoch_of (Begin epoch) = epoch
epoch_of (Term epoch seq term class on) = epoch
epoch_of (End epoch seq) = epoch
epoch_of (User epoch seq term class on user) = epoch

abbrev pub number_of : Message → ℕ
number_of (Begin epoch) = 0
number_of (Term epoch seq term class on) = seq
number_of (End epoch seq) = seq
number_of (User epoch seq term class on user) = seq

-- an epoch, and a number behind that of Begin: of 4 bytes, and at least 1
pub record IsNumber (n : ℕ) : Type 0 where
  pub least : 1 ≤ n
  pub most : n < 2 ^ 32

-- a class of terminals that are tracked
pub record IsTracked (class : ℕ) : Type 0 where
  pub least : 1 ≤ class
  pub most : class ≤ 2

-- a terminal that goes off has no user
abbrev pub FitsState : Bool → Option (List ℕ) → Type 0
FitsState true user = Unit {0}
FitsState false None = Unit {0}
FitsState false (Some user) = ⊥

-- the numbers of a message are in their ranges
abbrev pub HasRanges : Message → Type 0
HasRanges (Begin epoch) = IsNumber epoch
HasRanges (Term epoch seq term class on) = IsNumber epoch × IsNumber seq × IsTracked class
HasRanges (End epoch seq) = IsNumber epoch × IsNumber seq
HasRanges (User epoch seq term class on user) = IsNumber epoch × IsNumber seq × IsTracked class × FitsState on user

-- its terminal and its user are names
abbrev pub IsUser : Option (List ℕ) → Type 0
IsUser None = Unit {0}
IsUser (Some user) = IsName user

abbrev pub HasNames : Message → Type 0
HasNames (Begin epoch) = Unit {0}
HasNames (Term epoch seq term class on) = IsName term
HasNames (End epoch seq) = Unit {0}
HasNames (User epoch seq term class on user) = IsName term × IsUser user

-- what each kind of message begins with: the kind, the epoch and the number, in 9 bytes
abbrev pub head_of : ℕ → ℕ → ℕ → List ℕ
head_of kind epoch seq = kind ∷ big_bytes 4 epoch ++ big_bytes 4 seq

abbrev pub state_byte : Bool → ℕ
state_byte on = if on then 1 else 0

-- the terminal, its class and its state, in 10 bytes
abbrev pub terminal_of : List ℕ → ℕ → Bool → List ℕ
terminal_of term class on = padded 8 term ++ class ∷ state_byte on ∷ []

abbrev pub user_of : Option (List ℕ) → List ℕ
user_of None = replicate 8 0
user_of (Some user) = padded 8 user

-- The body of a slot that holds a message. Kinds are 1 Begin, 2 Term, 3 End and 4 User; all that no
-- field takes is zero.
abbrev pub spelling : Message → List ℕ
spelling (Begin epoch) = head_of 1 epoch 0 ++ replicate 54 0
spelling (Term epoch seq term class on) = head_of 2 epoch seq ++ terminal_of term class on ++ replicate 44 0
spelling (End epoch seq) = head_of 3 epoch seq ++ replicate 54 0
spelling (User epoch seq term class on user) = head_of 4 epoch seq ++ terminal_of term class on ++ user_of user ++ replicate 36 0

-- a body spells this message
pub record MsgIs (body : List ℕ) (message : Message) : Type 0 where
  pub ranges : HasRanges message
  pub names : HasNames message
  pub spelled : body ≡ spelling message

-- The reading of a body, as a function: the message that its fields give, where that message is in
-- its ranges and has exactly this spelling.
abbrev pub is_number : ℕ → Bool
is_number n = nat_le 1 n

abbrev pub is_tracked : ℕ → Bool
is_tracked class = nat_le 1 class && nat_le class 2

abbrev pub fits_state : Bool → Option (List ℕ) → Bool
fits_state true user = true
fits_state false None = true
fits_state false (Some user) = false

abbrev pub has_ranges : Message → Bool
has_ranges (Begin epoch) = is_number epoch
has_ranges (Term epoch seq term class on) = is_number epoch && is_number seq && is_tracked class
has_ranges (End epoch seq) = is_number epoch && is_number seq
has_ranges (User epoch seq term class on user) = is_number epoch && is_number seq && is_tracked class && fits_state on user

abbrev pub epoch_in : List ℕ → ℕ
epoch_in body = big_number 4 (drop 1 body)

abbrev pub number_in : List ℕ → ℕ
number_in body = big_number 4 (drop 5 body)

abbrev pub on_in : List ℕ → Bool
on_in body = slice_index body 18 == 1

abbrev pub term_in : List ℕ → Option (List ℕ)
term_in body = padded_name (take 8 (drop 9 body))

abbrev pub user_in : List ℕ → Option (Option (List ℕ))
user_in body = if slice_index body 19 == 0 then Some None else option_map Some (padded_name (take 8 (drop 19 body)))

abbrev pub term_fields : List ℕ → Option Message
term_fields body = option_map (λ term. Term (epoch_in body) (number_in body) term (slice_index body 17) (on_in body)) (term_in body)

abbrev pub user_fields : List ℕ → Option Message
user_fields body = option_and_then (λ term. option_map (λ user. User (epoch_in body) (number_in body) term (slice_index body 17) (on_in body) user) (user_in body)) (term_in body)

abbrev pub fields_of : List ℕ → Option Message
fields_of body =
    if slice_index body 0 == 1 then Some (Begin (epoch_in body)) else
    (if slice_index body 0 == 2 then term_fields body else
    (if slice_index body 0 == 3 then Some (End (epoch_in body) (number_in body)) else
    (if slice_index body 0 == 4 then user_fields body else None)))

abbrev pub if_spelled : List ℕ → Message → Option Message
if_spelled body message = if has_ranges message && pointwise nat_eq (spelling message) body then Some message else None

abbrev pub message_reading : List ℕ → Option Message
message_reading body = option_and_then (if_spelled body) (fields_of body)
