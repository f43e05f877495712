-- What a body spells is read, and what is read is spelled.
use Rattle.std.proofs.Common.{◌≡◌, ℕ, ◌+◌, ◌==◌, Bool, true, false, cond, ◌&&◌, nat_eq, nat_le, List, ◌++◌, take, drop, replicate, slice_index, Option, Some, None, refl, sym, ◌∙◌, ap, subst, arith, append_assoc}
use Rattle.std.specs.Option.{option_map, option_and_then}
use Rattle.std.specs.Cmp.Lexicographic.{pointwise, nat_list_eq_equiv}
use Rattle.std.proofs.lemmas.Bool.{le-leb, leb-true, and_parts}
use Rattle.std.proofs.lemmas.List.{get_or-drop}
use Rattle.std.proofs.lemmas.Slice.Eq.{bytes_eq-Decides}
use Rattle.byteorder.specs.Endian.{big_number, big_bytes}
use Rattle.byteorder.specs.Numbers.{big_number-reads_back, big_from-lt}
use Rattle.xrf_base.specs.Numbers.{AreBytes}
use Rattle.xrf_base.specs.Names.{IsName, padded_name}
use Rattle.xrf_base.specs.Padding.{padded}
use Rattle.xrf_base.proofs.NameLaws.{padded_name-padded, padded_name-IsName}
use Rattle.xrf_msg.specs.declared.messages.Message.{Message}
use Rattle.xrf_msg.specs.declared.messages.Message.TheVariants.{Begin, Term, End, User}
use Rattle.xrf_msg.specs.Messages.{IsNumber, IsTracked, FitsState, HasRanges, IsUser, HasNames, head_of, state_byte, terminal_of, user_of, spelling, MsgIs, is_number, is_tracked, fits_state, has_ranges, epoch_in, number_in, on_in, term_in, user_in, term_fields, user_fields, fields_of, if_spelled, message_reading}
use Rattle.xrf_msg.proofs.Fields.{take-terminal, class-terminal, state-terminal, drop-terminal, behind-terminal, name-first, take-user}

-- the epoch and the number are read behind a head, whatever follows it
epoch-head : (kind epoch seq : ℕ) (rest : List ℕ) → IsNumber epoch → epoch_in (head_of kind epoch seq ++ rest) ≡ epoch
epoch-head kind epoch seq rest ok = big_number-reads_back 4 epoch (big_bytes 4 seq ++ rest) ok.most

number-head : (kind epoch seq : ℕ) (rest : List ℕ) → IsNumber seq → number_in (head_of kind epoch seq ++ rest) ≡ seq
number-head kind epoch seq rest ok = big_number-reads_back 4 seq rest ok.most

state_byte-on : (on : Bool) → (state_byte on == 1) ≡ on
state_byte-on true = refl
state_byte-on false = refl

-- the fields of a terminal
record HasTerminal (body term : List ℕ) (epoch seq class : ℕ) (on : Bool) : Type 0 where
  epoch_is : epoch_in body ≡ epoch
  number_is : number_in body ≡ seq
  term_is : term_in body ≡ Some term
  class_is : slice_index body 17 ≡ class
  on_is : on_in body ≡ on

has_terminal : (kind epoch seq : ℕ) (term : List ℕ) (class : ℕ) (on : Bool) (rest : List ℕ) → IsNumber epoch → IsNumber seq → IsName term
    → HasTerminal (head_of kind epoch seq ++ (terminal_of term class on ++ rest)) term epoch seq class on
has_terminal kind epoch seq term class on rest e n name = record {
  epoch_is = epoch-head kind epoch seq (terminal_of term class on ++ rest) e;
  number_is = number-head kind epoch seq (terminal_of term class on ++ rest) n;
  term_is = ap padded_name (take-terminal term class on rest name) ∙ padded_name-padded term name;
  class_is = class-terminal term class on rest name;
  on_is = ap (λ (b : ℕ). b == 1) (state-terminal term class on rest name) ∙ state_byte-on on;
}

term_fields-are : (body term : List ℕ) (epoch seq class : ℕ) (on : Bool) → HasTerminal body term epoch seq class on → term_fields body ≡ Some (Term epoch seq term class on)
term_fields-are body term epoch seq class on has =
    ap (option_map (λ t. Term (epoch_in body) (number_in body) t (slice_index body 17) (on_in body))) has.term_is
    ∙ ap (λ e. Some (Term e (number_in body) term (slice_index body 17) (on_in body))) has.epoch_is
    ∙ ap (λ n. Some (Term epoch n term (slice_index body 17) (on_in body))) has.number_is
    ∙ ap (λ c. Some (Term epoch seq term c (on_in body))) has.class_is
    ∙ ap (λ o. Some (Term epoch seq term class o)) has.on_is

user_fields-are : (body term : List ℕ) (epoch seq class : ℕ) (on : Bool) (user : Option (List ℕ)) → HasTerminal body term epoch seq class on → user_in body ≡ Some user
    → user_fields body ≡ Some (User epoch seq term class on user)
user_fields-are body term epoch seq class on user has user_is =
    ap (option_and_then (λ t. option_map (λ u. User (epoch_in body) (number_in body) t (slice_index body 17) (on_in body) u) (user_in body))) has.term_is
    ∙ ap (option_map (λ u. User (epoch_in body) (number_in body) term (slice_index body 17) (on_in body) u)) user_is
    ∙ ap (λ e. Some (User e (number_in body) term (slice_index body 17) (on_in body) user)) has.epoch_is
    ∙ ap (λ n. Some (User epoch n term (slice_index body 17) (on_in body) user)) has.number_is
    ∙ ap (λ c. Some (User epoch seq term c (on_in body) user)) has.class_is
    ∙ ap (λ o. Some (User epoch seq term class o user)) has.on_is

-- the user of a spelling
user-behind : (kind epoch seq : ℕ) (term : List ℕ) (class : ℕ) (on : Bool) (user : Option (List ℕ)) (rest : List ℕ) → IsName term → IsUser user
    → user_in (head_of kind epoch seq ++ (terminal_of term class on ++ (user_of user ++ rest))) ≡ Some user
user-behind kind epoch seq term class on None rest name is =
    rw (behind-terminal term class on (user_of None ++ rest) name) refl
user-behind kind epoch seq term class on (Some user) rest name is =
    rw (behind-terminal term class on (user_of (Some user) ++ rest) name)
    (rw (name-first user rest is) (rw (drop-terminal term class on (padded 8 user ++ rest) name, take-user user rest is, padded_name-padded user is) refl))

-- a user's body, with what stands behind the terminal in one part
user-regrouped : (epoch seq : ℕ) (term : List ℕ) (class : ℕ) (on : Bool) (user : Option (List ℕ))
    → spelling (User epoch seq term class on user) ≡ head_of 4 epoch seq ++ (terminal_of term class on ++ (user_of user ++ replicate 36 0))
user-regrouped epoch seq term class on user =
    ap (λ (rest : List ℕ). head_of 4 epoch seq ++ rest) (append_assoc (terminal_of term class on) (user_of user) (replicate 36 0))

-- the fields of a spelling are those of its message
fields_of-spelling : (message : Message) → HasRanges message → HasNames message → fields_of (spelling message) ≡ Some message
fields_of-spelling (Begin epoch) ok names = ap (λ e. Some (Begin e)) (epoch-head 1 epoch 0 (replicate 54 0) ok)
fields_of-spelling (Term epoch seq term class on) ok names =
    term_fields-are (spelling (Term epoch seq term class on)) term epoch seq class on (has_terminal 2 epoch seq term class on (replicate 44 0) ok.0 ok.1 names)
fields_of-spelling (End epoch seq) ok names =
    ap (λ e. Some (End e (number_in (spelling (End epoch seq))))) (epoch-head 3 epoch seq (replicate 54 0) ok.0)
    ∙ ap (λ n. Some (End epoch n)) (number-head 3 epoch seq (replicate 54 0) ok.1)
fields_of-spelling (User epoch seq term class on user) ok names =
    let body : List ℕ = head_of 4 epoch seq ++ (terminal_of term class on ++ (user_of user ++ replicate 36 0)) in
    ap fields_of (user-regrouped epoch seq term class on user)
    ∙ user_fields-are body term epoch seq class on user
    (has_terminal 4 epoch seq term class on (user_of user ++ replicate 36 0) ok.0 ok.1 names.0)
    (user-behind 4 epoch seq term class on user (replicate 36 0) names.0 names.1)

number-passes : (n : ℕ) → IsNumber n → is_number n ≡ true
number-passes n ok = le-leb 1 n ok.least

tracked-passes : (class : ℕ) → IsTracked class → is_tracked class ≡ true
tracked-passes class ok = rw (le-leb 1 class ok.least, le-leb class 2 ok.most) refl

state-passes : (on : Bool) (user : Option (List ℕ)) → FitsState on user → fits_state on user ≡ true
state-passes true user ok = refl
state-passes false None ok = refl
state-passes false (Some user) ok = absurd ok

-- a message in its ranges passes the test
ranges-pass : (message : Message) → HasRanges message → has_ranges message ≡ true
ranges-pass (Begin epoch) ok = number-passes epoch ok
ranges-pass (Term epoch seq term class on) ok = rw (number-passes epoch ok.0, number-passes seq ok.1, tracked-passes class ok.2) refl
ranges-pass (End epoch seq) ok = rw (number-passes epoch ok.0, number-passes seq ok.1) refl
ranges-pass (User epoch seq term class on user) ok = rw (number-passes epoch ok.0, number-passes seq ok.1, tracked-passes class ok.2, state-passes on user ok.3) refl

-- What a body spells is what is read of it.
pub message_reading-spelled : (body : List ℕ) (message : Message) → MsgIs body message → message_reading body ≡ Some message
message_reading-spelled body message is =
    ap message_reading is.spelled
    ∙ ap (option_and_then (if_spelled (spelling message))) (fields_of-spelling message is.ranges is.names)
    ∙ rw (ranges-pass message is.ranges, nat_list_eq_equiv.refl (spelling message)) refl

-- The other way: the numbers of the fields of a body are of 4 bytes, and the names are names.
abbrev Fits : List ℕ → Message → Type 0
Fits body (Begin epoch) = epoch ≡ epoch_in body
Fits body (Term epoch seq term class on) = (epoch ≡ epoch_in body) × (seq ≡ number_in body) × IsName term
Fits body (End epoch seq) = (epoch ≡ epoch_in body) × (seq ≡ number_in body)
Fits body (User epoch seq term class on user) = (epoch ≡ epoch_in body) × (seq ≡ number_in body) × IsName term × IsUser user

term-fits : (body : List ℕ) (found : Option (List ℕ)) (message : Message) → term_in body ≡ found
    → option_map (λ term. Term (epoch_in body) (number_in body) term (slice_index body 17) (on_in body)) found ≡ Some message → Fits body message
term-fits body None message is e = cc
term-fits body (Some term) message is e =
    let same : Term (epoch_in body) (number_in body) term (slice_index body 17) (on_in body) ≡ message = cc in
    subst (Fits body) same (refl, refl, padded_name-IsName (take 8 (drop 9 body)) term is)

user_in-IsUser : (body : List ℕ) (user : Option (List ℕ)) → user_in body ≡ Some user → IsUser user
user_in-IsUser body user e = by (slice_index body 19 == 0) (padded_name (take 8 (drop 19 body))) refl e
  where
    by : (none : Bool) (name : Option (List ℕ)) → padded_name (take 8 (drop 19 body)) ≡ name → cond none (Some None) (option_map Some name) ≡ Some user → IsUser user
    by true name is s = let same : None ≡ user = cc in subst IsUser same tt
    by false None is s = cc
    by false (Some name) is s = let same : Some name ≡ user = cc in subst IsUser same (padded_name-IsName (take 8 (drop 19 body)) name is)

user-fits : (body : List ℕ) (found : Option (List ℕ)) (user : Option (Option (List ℕ))) (message : Message) → term_in body ≡ found → user_in body ≡ user
    → option_and_then (λ term. option_map (λ u. User (epoch_in body) (number_in body) term (slice_index body 17) (on_in body) u) user) found ≡ Some message → Fits body message
user-fits body None user message is user_is e = cc
user-fits body (Some term) None message is user_is e = cc
user-fits body (Some term) (Some user) message is user_is e =
    let same : User (epoch_in body) (number_in body) term (slice_index body 17) (on_in body) user ≡ message = cc in
    subst (Fits body) same (refl, refl, padded_name-IsName (take 8 (drop 9 body)) term is, user_in-IsUser body user user_is)

by_kind : (body : List ℕ) (message : Message) (first second third fourth : Bool)
    → cond first (Some (Begin (epoch_in body))) (cond second (term_fields body) (cond third (Some (End (epoch_in body) (number_in body))) (cond fourth (user_fields body) None))) ≡ Some message
    → Fits body message
by_kind body message true second third fourth e = let same : Begin (epoch_in body) ≡ message = cc in subst (Fits body) same refl
by_kind body message false true third fourth e = term-fits body (term_in body) message refl e
by_kind body message false false true fourth e = let same : End (epoch_in body) (number_in body) ≡ message = cc in subst (Fits body) same (refl, refl)
by_kind body message false false false true e = user-fits body (term_in body) (user_in body) message refl refl e
by_kind body message false false false false e = cc

fields_of-fit : (body : List ℕ) (message : Message) → fields_of body ≡ Some message → Fits body message
fields_of-fit body message e = by_kind body message (slice_index body 0 == 1) (slice_index body 0 == 2) (slice_index body 0 == 3) (slice_index body 0 == 4) e

pub drop-bytes : (n : ℕ) (body : List ℕ) → AreBytes body → AreBytes (drop n body)
drop-bytes n body bytes i = rw (get_or-drop n body i 0) (bytes (n + i))

number-from : (body : List ℕ) (place n : ℕ) → AreBytes body → n ≡ big_number 4 (drop place body) → is_number n ≡ true → IsNumber n
number-from body place n bytes is passes =
    record { least = leb-true 1 n passes; most = let fits = big_from-lt 0 4 (drop place body) (drop-bytes place body bytes) in omega (arith, is, fits) }

tracked-from : (class : ℕ) → is_tracked class ≡ true → IsTracked class
tracked-from class passes =
    record { least = leb-true 1 class (and_parts (nat_le 1 class) (nat_le class 2) passes).0; most = leb-true class 2 (and_parts (nat_le 1 class) (nat_le class 2) passes).1 }

state-from : (on : Bool) (user : Option (List ℕ)) → fits_state on user ≡ true → FitsState on user
state-from true user passes = tt
state-from false None passes = tt
state-from false (Some user) passes = cc

-- what passes the tests is in its ranges
ranges-from : (body : List ℕ) (message : Message) → AreBytes body → Fits body message → has_ranges message ≡ true → HasRanges message × HasNames message
ranges-from body (Begin epoch) bytes fits passes = (number-from body 1 epoch bytes fits passes, tt)
ranges-from body (Term epoch seq term class on) bytes fits passes =
    let numbers = (and_parts (is_number epoch && is_number seq) (is_tracked class) passes).0 in (
      (
        number-from body 1 epoch bytes fits.0 (and_parts (is_number epoch) (is_number seq) numbers).0,
        number-from body 5 seq bytes fits.1 (and_parts (is_number epoch) (is_number seq) numbers).1,
        tracked-from class (and_parts (is_number epoch && is_number seq) (is_tracked class) passes).1,
      ),
      fits.2,
    )
ranges-from body (End epoch seq) bytes fits passes = (
  (
    number-from body 1 epoch bytes fits.0 (and_parts (is_number epoch) (is_number seq) passes).0,
    number-from body 5 seq bytes fits.1 (and_parts (is_number epoch) (is_number seq) passes).1,
  ),
  tt,
)
ranges-from body (User epoch seq term class on user) bytes fits passes =
    let front = (and_parts (is_number epoch && is_number seq && is_tracked class) (fits_state on user) passes).0 in
    let numbers = (and_parts (is_number epoch && is_number seq) (is_tracked class) front).0 in (
      (
        number-from body 1 epoch bytes fits.0 (and_parts (is_number epoch) (is_number seq) numbers).0,
        number-from body 5 seq bytes fits.1 (and_parts (is_number epoch) (is_number seq) numbers).1,
        tracked-from class (and_parts (is_number epoch && is_number seq) (is_tracked class) front).1,
        state-from on user (and_parts (is_number epoch && is_number seq && is_tracked class) (fits_state on user) passes).1,
      ),
      (fits.2, fits.3),
    )

if_spelled-from : (body : List ℕ) (found message : Message) (ranges spelled : Bool) → has_ranges found ≡ ranges → pointwise nat_eq (spelling found) body ≡ spelled
    → AreBytes body → Fits body found → cond (ranges && spelled) (Some found) None ≡ Some message → MsgIs body message
if_spelled-from body found message true true ok same bytes fits e =
    let one : found ≡ message = cc in
    let both = ranges-from body found bytes fits ok in
    subst (MsgIs body) one (record { ranges = both.0; names = both.1; spelled = sym ((bytes_eq-Decides (spelling found) body).0 same) })
if_spelled-from body found message true false ok same bytes fits e = cc
if_spelled-from body found message false spelled ok same bytes fits e = cc

by_fields : (body : List ℕ) (fields : Option Message) (message : Message) → fields_of body ≡ fields → AreBytes body → option_and_then (if_spelled body) fields ≡ Some message → MsgIs body message
by_fields body None message is bytes e = cc
by_fields body (Some found) message is bytes e =
    if_spelled-from body found message (has_ranges found) (pointwise nat_eq (spelling found) body) refl refl bytes (fields_of-fit body found is) e

-- What is read of a body is what the body spells.
pub message_reading-found : (body : List ℕ) (message : Message) → AreBytes body → message_reading body ≡ Some message → MsgIs body message
message_reading-found body message bytes e = by_fields body (fields_of body) message refl bytes e
