-- Messages by their numbers.
use Rattle.std.proofs.Common.{Bool, IfSome, List, Some, eqb-true, false, length, subst, true, ◌≡◌, ℕ, ◌==◌, if◌then◌else◌, refl, [], ◌∷◌, arith, ◌+◌, ◌<◌, None, ◌≤◌, nat_lt, ap, sym, ◌∙◌}
use Rattle.std.proofs.lemmas.Grind.{common_steps}
use Rattle.xrf_msg.specs.declared.messages.Message.{Message}
use Rattle.xrf_message_law.specs.Numbering.{IsOf, nth_old, AreNumbered, oldest}

-- a number that has a message has one of its epoch and number
if-number : (n : ℕ) (m : Message) (older : List Message) (q : ℕ) (b : Bool) → (length older == q) ≡ b → IsOf n (length older) m
    → IfSome (nth_old older q) (IsOf n q)
    → IfSome (if b then Some m else nth_old older q) (IsOf n q)
if-number n m older q true same is rest = subst (λ (k : ℕ). IsOf n k m) (eqb-true (length older) q same) is
if-number n m older q false other is rest = rest

-- so a message that is found has the epoch and the number
pub nth-number : (n : ℕ) (f : List Message) (q : ℕ) → AreNumbered n f → IfSome (nth_old f q) (IsOf n q)
nth-number n [] q is = tt
nth-number n (m ∷ older) q is = if-number n m older q (length older == q) refl is.0 (nth-number n older q is.1)

-- it is below the count, and one that has none is not
if-below : (m one : Message) (older : List Message) (q : ℕ) (b : Bool) → (length older == q) ≡ b → (if b then Some m else nth_old older q) ≡ Some one
    → (nth_old older q ≡ Some one → q < length older)
    → q < length older + 1
if-below m one older q true same is rest = let e : length older ≡ q = eqb-true (length older) q same in omega (arith, e)
if-below m one older q false other is rest = let less : q < length older = rest is in omega (arith, less)

-- so a number with a message is below the count
pub nth-below : (f : List Message) (q : ℕ) (one : Message) → nth_old f q ≡ Some one → q < length f
nth-below [] q one is = absurd (cc)
nth-below (m ∷ older) q one is =
    let less : q < length older + 1 = if-below m one older q (length older == q) refl is (nth-below older q one) in omega (arith, less)

-- a number with none, as a test
if-above : (m : Message) (older : List Message) (q : ℕ) (b : Bool) → (length older == q) ≡ b → (if b then Some m else nth_old older q) ≡ None
    → (nth_old older q ≡ None → length older ≤ q)
    → length older + 1 ≤ q
if-above m older q true same is rest = absurd (cc)
if-above m older q false other is rest = let most : length older ≤ q = rest is in grind (arith, common_steps, most, other)

-- so a number without one is not below it
pub nth-above : (f : List Message) (q : ℕ) → nth_old f q ≡ None → length f ≤ q
nth-above [] q is = omega arith
nth-above (m ∷ older) q is = let most : length older + 1 ≤ q = if-above m older q (length older == q) refl is (nth-above older q) in omega (arith, most)

-- the oldest are all where the count is no less
if-all : (m : Message) (older : List Message) (c : ℕ) (b : Bool) → nat_lt (length older) c ≡ b → length older < c
    → (if b then m ∷ older else oldest c older) ≡ m ∷ older
if-all m older c true is less = refl
if-all m older c false is less = absurd (grind (arith, common_steps))

-- the oldest are all where the count is no less
pub oldest-all : (f : List Message) (c : ℕ) → length f ≤ c → oldest c f ≡ f
oldest-all [] c most = refl
oldest-all (m ∷ older) c most = if-all m older c (nat_lt (length older) c) refl (omega (arith, most))

-- one more is opened
if-grown : (m : Message) (f : List Message) (c : ℕ) (b : Bool) → nat_lt (length f) c ≡ b → c ≤ length f → (if b then m ∷ f else oldest c f) ≡ oldest c f
if-grown m f c true is few = absurd (grind (arith, common_steps))
if-grown m f c false is few = refl

-- the oldest stay so when one more is opened
pub oldest-grown : (m : Message) (f : List Message) (c : ℕ) → c ≤ length f → oldest c (m ∷ f) ≡ oldest c f
oldest-grown m f c few = if-grown m f c (nat_lt (length f) c) refl few

-- one more is taken
if-next : (m one : Message) (older : List Message) (q : ℕ) (b : Bool) → (length older == q) ≡ b → (if b then Some m else nth_old older q) ≡ Some one
    → (nth_old older q ≡ Some one → oldest (q + 1) older ≡ one ∷ oldest q older) → oldest (q + 1) (m ∷ older) ≡ one ∷ oldest q (m ∷ older)
if-next m one older q true same is rest =
    let e : length older ≡ q = eqb-true (length older) q same in
    let here : m ≡ one = cc in
    oldest-all (m ∷ older) (q + 1) (omega (arith, e)) ∙ ap (λ (x : Message). x ∷ older) here
    ∙ ap (λ (l : List Message). one ∷ l) (sym (oldest-grown m older q (omega (arith, e)) ∙ oldest-all older q (omega (arith, e))))
if-next m one older q false other is rest =
    let less : q < length older = nth-below older q one is in
    oldest-grown m older (q + 1) (omega (arith, less)) ∙ rest is ∙ ap (λ (l : List Message). one ∷ l) (sym (oldest-grown m older q (omega (arith, less))))

-- and one more of them is the next one
pub oldest-next : (f : List Message) (q : ℕ) (one : Message) → nth_old f q ≡ Some one → oldest (q + 1) f ≡ one ∷ oldest q f
oldest-next [] q one is = absurd (cc)
oldest-next (m ∷ older) q one is = if-next m one older q (length older == q) refl is (oldest-next older q one)
