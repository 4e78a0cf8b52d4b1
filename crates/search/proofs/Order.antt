-- The order of beginnings and numbers.
use Rattle.std.proofs.Common.{◌≡◌, ℕ, zero, suc, ◌+◌, ◌<◌, ◌≤◌, true, eqb, List, [], ◌∷◌, ◌++◌, map, sym, refl, ◌∙◌, inl, inr, arith}
use Rattle.std.specs.List.{range_with_len, AllByRecursion}
use Rattle.std.proofs.lemmas.Bool.{and_parts, and_from, false≢true, eqb-true, eq-eqb}
use Rattle.std.proofs.ByRecursion.{All-append, All-weaker, All-map}
use Rattle.search.specs.Numbers.{begins, longer, children, ◌≺◌, Rising}

pub begins_self : (p : List ℕ) → begins p p ≡ true
begins_self [] = refl
begins_self (d ∷ p) = and_from (eqb d d) (begins p p) (eq-eqb d d refl) (begins_self p)

pub begins_longer : (p : List ℕ) (c : ℕ) → begins p (longer p c) ≡ true
begins_longer [] c = refl
begins_longer (d ∷ p) c = and_from (eqb d d) (begins p (longer p c)) (eq-eqb d d refl) (begins_longer p c)

-- what comes before a beginning, or after it, does so of all that begins with it
pub ≺_begins : (x p y : List ℕ) → begins p y ≡ true → x ≺ p → x ≺ y
≺_begins [] p y b h = h
≺_begins (a ∷ x) [] y b h = absurd h
≺_begins (a ∷ x) (d ∷ p) [] b h = absurd (false≢true b)
≺_begins (a ∷ x) (d ∷ p) (e ∷ y) b h =
    let both = and_parts (eqb d e) (begins p y) b in
    let q = eqb-true d e both.0 in
    elim h [ inl l ↦ inl (omega arith) | inr r ↦ inr (r.0 ∙ q, ≺_begins x p y both.1 r.1) ]

pub begins_≺ : (p y z : List ℕ) → begins p y ≡ true → p ≺ z → y ≺ z
begins_≺ [] y z b h = absurd h
begins_≺ (d ∷ p) [] z b h = absurd (false≢true b)
begins_≺ (d ∷ p) (e ∷ y) [] b h = h
begins_≺ (d ∷ p) (e ∷ y) (a ∷ z) b h =
    let both = and_parts (eqb d e) (begins p y) b in
    let q = eqb-true d e both.0 in
    elim h [ inl l ↦ inl (omega arith) | inr r ↦ inr (sym q ∙ r.0, begins_≺ p y z both.1 r.1) ]

pub longer_≺ : (p : List ℕ) (a b : ℕ) → a < b → longer p a ≺ longer p b
longer_≺ [] a b h = inl h
longer_≺ (d ∷ p) a b h = inr (refl, longer_≺ p a b h)

pub counting_from : (n a b : ℕ) → a ≤ b → AllByRecursion (λ c. a ≤ c) (range_with_len b n)
counting_from zero a b h = tt
counting_from (suc n) a b h = (h, counting_from n a (b + 1) (omega arith))

pub counting_rising : (p : List ℕ) (n a : ℕ) → Rising (map (longer p) (range_with_len a n))
counting_rising p zero a = tt
counting_rising p (suc n) a =
    (All-map (λ y. longer p a ≺ y) (longer p) (range_with_len (a + 1) n) (All-weaker (λ c. a + 1 ≤ c) (λ c. longer p a ≺ longer p c) (λ c h. longer_≺ p a c (omega arith)) (range_with_len (a + 1) n) (counting_from n (a + 1) (a + 1) (omega arith))), counting_rising p n (a + 1))

pub children_rising : (p : List ℕ) → Rising (children p)
children_rising p = counting_rising p 10 0

pub longer_begin : (p : List ℕ) (cs : List ℕ) → AllByRecursion (λ y. begins p y ≡ true) (map (longer p) cs)
longer_begin p [] = tt
longer_begin p (c ∷ cs) = (begins_longer p c, longer_begin p cs)

-- a part of what begins with p, in order, may take p's place
after : (p : List ℕ) (rest ys : List (List ℕ)) → Rising ys → AllByRecursion (λ y. begins p y ≡ true) ys → AllByRecursion (λ z. p ≺ z) rest → Rising rest → Rising (ys ++ rest)
after p rest [] r b h k = k
after p rest (y ∷ ys) r b h k =
    (All-append (λ z. y ≺ z) ys rest r.0 (All-weaker (λ z. p ≺ z) (λ z. y ≺ z) (λ z l. begins_≺ p y z b.0 l) rest h), after p rest ys r.1 b.1 h k)

in_place : (x p : List ℕ) (xs rest ys : List (List ℕ)) → AllByRecursion (λ y. begins p y ≡ true) ys → AllByRecursion (λ z. x ≺ z) (xs ++ p ∷ rest) → AllByRecursion (λ z. x ≺ z) (xs ++ (ys ++ rest))
in_place x p [] rest ys b h = All-append (λ z. x ≺ z) ys rest (All-weaker (λ y. begins p y ≡ true) (λ z. x ≺ z) (λ y e. ≺_begins x p y e h.0) ys b) h.1
in_place x p (w ∷ xs) rest ys b h = (h.0, in_place x p xs rest ys b h.1)

pub rising_step : (p : List ℕ) (xs rest ys : List (List ℕ)) → Rising ys → AllByRecursion (λ y. begins p y ≡ true) ys → Rising (xs ++ p ∷ rest) → Rising (xs ++ (ys ++ rest))
rising_step p [] rest ys r b h = after p rest ys r b h.0 h.1
rising_step p (x ∷ xs) rest ys r b h = (in_place x p xs rest ys b h.0, rising_step p xs rest ys r b h.1)

pub all_front : {X : Type 0} (P : X → Type 0) (xs ys : List X) → AllByRecursion P (xs ++ ys) → AllByRecursion P xs
all_front P [] ys h = tt
all_front P (x ∷ xs) ys h = (h.0, all_front P xs ys h.1)

pub rising_front : (xs ys : List (List ℕ)) → Rising (xs ++ ys) → Rising xs
rising_front [] ys h = tt
rising_front (x ∷ xs) ys h = (all_front (λ z. x ≺ z) xs ys h.0, rising_front xs ys h.1)
