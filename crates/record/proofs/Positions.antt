-- Numbers by their digits: the steps that read them from the highest digit down, and what they sum up to.
use Rattle.std.proofs.Common.{◌≡◌, ℕ, zero, suc, ◌+◌, ◌-◌, ◌*◌, ◌/◌, ◌%◌, ◌^◌, ◌<◌, ◌≤◌, List, [], ◌∷◌, ◌++◌, length, reverse, get_or, sym, refl, ap, ◌∙◌, mul_assoc, mul_comm, mul-le-mul_left, pow-suc, mul-zero, mul-suc, mul-add, add-one, arith, length-set, pow-add}
use native.Mathlib.Nat.{mod-add-mod, mod-eq_of_lt, pow-zero, pow-le-pow_right}
use Rattle.std.proofs.lemmas.List.{reverse-append}
use Rattle.std.proofs.lemmas.Nat.{mul-mod_first, one_shl}
use Rattle.std.proofs.lemmas.Bool.{cond_both}
use Rattle.record.specs.Chains.{storage_of}
use Rattle.record.specs.Numbers.{digits, digits_value, magnitude, negative, total}

-- the digits that the bytes show, the lowest first
abbrev pub positional : ℕ → (ℕ → ℕ) → List ℕ → ℕ
positional base digit [] = 0
positional base digit (b ∷ bs) = digit b + base * positional base digit bs

pub pow_more : (n k : ℕ) → n ^ (k + 1) ≡ n ^ k * n
pow_more n k = rw (add-one, pow-suc n k)

pub pow_pow : (n m k : ℕ) → (n ^ m) ^ k ≡ n ^ (m * k)
pow_pow n m zero = rw (pow-zero (n ^ m)) (sym (ap (λ j. n ^ j) (omega arith) ∙ pow-zero n))
pow_pow n m (suc k) =
    let e : m * k + m ≡ m * suc k = omega (arith, mul-suc m k) in
    pow-suc (n ^ m) k ∙ (ap (λ x. x * n ^ m) (pow_pow n m k) ∙ (sym (pow-add n (m * k) m) ∙ ap (λ j. n ^ j) e))

pub pow_most : (base k m : ℕ) → 0 < base → k ≤ m → base ^ k ≤ base ^ m
pow_most base k m z h = pow-le-pow_right {n = base} z {i = k} {j = m} h

-- a sum of weights a * base ^ i, where the bytes are numbered from k on, over those from number j + k on
pub total_is : (weight digit : ℕ → ℕ) (a base k : ℕ) → ((i : ℕ) → weight (i + k) ≡ a * base ^ i) → (bs : List ℕ) (j : ℕ)
    → total weight digit (j + k) bs ≡ a * base ^ j * positional base digit bs
total_is weight digit a base k w [] j = sym (mul-zero (a * base ^ j))
total_is weight digit a base k w (b ∷ bs) j =
    let x = positional base digit bs in
    let n : j + k + 1 ≡ j + 1 + k = omega arith in
    let r : total weight digit (j + k + 1) bs ≡ a * base ^ (j + 1) * x = ap (λ i. total weight digit i bs) n ∙ total_is weight digit a base k w bs (j + 1) in
    let e : a * base ^ (j + 1) ≡ a * base ^ j * base = ap (λ n. a * n) (pow_more base j) ∙ sym (mul_assoc a (base ^ j) base) in
    let s : a * base ^ (j + 1) * x ≡ a * base ^ j * (base * x) = ap (λ n. n * x) e ∙ mul_assoc (a * base ^ j) base x in
    let t : weight (j + k) * digit b ≡ a * base ^ j * digit b = ap (λ n. n * digit b) (w j) in
    omega (arith, r, s, t, mul-add (a * base ^ j) (digit b) (base * x))

-- weights base ^ (i - k)
pub total_plain : (base k : ℕ) (weight digit : ℕ → ℕ) → ((i : ℕ) → weight (i + k) ≡ base ^ i) → (bs : List ℕ) → positional base digit bs ≡ total weight digit k bs
total_plain base k weight digit w bs =
    let u : (i : ℕ) → weight (i + k) ≡ 1 * base ^ i = λ i. omega (arith, w i) in
    let t = total_is weight digit 1 base k u bs 0 in
    let z : 1 * base ^ 0 ≡ 1 = omega (arith, pow-zero base) in
    let n : 0 + k ≡ k = omega arith in
    sym (ap (λ i. total weight digit i bs) (sym n) ∙ t ∙ ap (λ n. n * positional base digit bs) z ∙ omega arith)

-- a number whose bytes are numbered from 0
pub total_from_0 : (base : ℕ) (digit : ℕ → ℕ) (bs : List ℕ) → positional base digit bs ≡ total (λ i. base ^ i) digit 0 bs
total_from_0 base digit bs = total_plain base 0 (λ i. base ^ i) digit (λ i. let e : i + 0 ≡ i = omega arith in ap (λ k. base ^ k) e) bs

-- weights from number 1 on
pub total_from_1 : (base : ℕ) (digit : ℕ → ℕ) (bs : List ℕ) → total (λ i. base ^ i) digit 0 bs ≡ total (λ i. base ^ (i - 1)) digit 1 bs
total_from_1 base digit bs =
    sym (total_from_0 base digit bs)
    ∙ total_plain base 1 (λ i. base ^ (i - 1)) digit (λ i. let e : i + 1 - 1 ≡ i = omega arith in ap (λ k. base ^ k) e) bs

-- two decimal digits are one digit in base 100
abbrev pub pair : ℕ → ℕ
pair b = b / 16 * 10 + b % 16

pairs : (bs : List ℕ) → positional 100 pair bs ≡ positional 10 (λ d. d) (digits bs)
pairs [] = refl
pairs (b ∷ bs) = omega (arith, pairs bs)

pub pair_by_pair : (bs : List ℕ) → positional 100 pair bs ≡ digits_value bs
pair_by_pair bs = pairs bs ∙ total_from_0 10 (λ d. d) (digits bs)

-- the storage number, by the digits in base 16 of the DIFEs
pub storage_is : (dif : ℕ) (bs : List ℕ) → dif / 64 % 2 + 2 * total (λ i. 16 ^ i) (λ b. b % 16) 0 bs ≡ storage_of dif bs
storage_is dif bs =
    let w : (i : ℕ) → 2 ^ (4 * (i + 1) - 3) ≡ 2 * 16 ^ i =
    λ i. ap (λ k. 2 ^ k) (omega arith) ∙ (pow_more 2 (4 * i) ∙ (mul_comm _ 2 ∙ ap (λ x. 2 * x) (sym (pow_pow 2 4 i)))) in
    let t = total_is (λ i. 2 ^ (4 * i - 3)) (λ b. b % 16) 2 16 1 w bs 0 in
    omega (arith, t, total_from_0 16 (λ b. b % 16) bs)

-- the weight of the highest bit of k bytes
pub half_is : (k : ℕ) → 1 ≤ k → k ≤ 8 → (1 * 2 ^ (8 * k - 1)) % 2 ^ 64 ≡ 2 ^ (8 * k - 1)
half_is k p q = one_shl (8 * k - 1) 64 (omega arith)

pub half_twice : (k : ℕ) → 1 ≤ k → 256 ^ k ≡ 2 ^ (8 * k - 1) + 2 ^ (8 * k - 1)
half_twice k p =
    let e : 8 * k ≡ 8 * k - 1 + 1 = omega arith in
    pow_pow 2 8 k ∙ (ap (λ n. 2 ^ n) e ∙ (pow_more 2 (8 * k - 1) ∙ omega arith))

pub length_magnitude : (bs : List ℕ) → length (magnitude bs) ≡ length bs
length_magnitude bs = cond_both (negative bs) _ _ (λ l. length l ≡ length bs) (λ _. simp length-set) (λ _. refl)

-- a number is below the count of all of its length, where no digit is above c * (base - 1)
pub positional_below : (base : ℕ) (digit : ℕ → ℕ) (c : ℕ) (bs : List ℕ) → ((i : ℕ) → digit (get_or bs i 0) + c ≤ c * base) → positional base digit bs + c ≤ c * base ^ length bs
positional_below base digit c [] small = omega (arith, ap (λ x. c * x) (pow-zero base))
positional_below base digit c (b ∷ bs) small =
    let h = positional_below base digit c bs (λ i. small (suc i)) in
    let k = small 0 in
    omega (arith, mul-le-mul_left base h, k, ap (λ x. c * x) (pow-suc base (length bs)))

-- what 64 bits hold of a number is the number, where they hold the count
pub whole : (base : ℕ) (digit : ℕ → ℕ) (c n : ℕ) (bs : List ℕ) → 0 < c → ((i : ℕ) → digit (get_or bs i 0) + c ≤ c * base) → c * base ^ length bs ≤ 2 ^ 64
    → n ≡ total (λ i. base ^ i) digit 0 bs % 2 ^ 64 → (n ≡ total (λ i. base ^ i) digit 0 bs) × (n + c ≤ c * base ^ length bs)
whole base digit c n bs p small fits e =
    let b = positional_below base digit c bs small in
    let t = total_from_0 base digit bs in
    (omega (arith, b, t, e, fits), omega (arith, b, t, e, fits))

-- one digit more, below those that ys show from the highest down
pub one_below : (m base : ℕ) (digit : ℕ → ℕ) (ys : List ℕ) (n k b : ℕ) → n ≡ positional base digit (reverse ys) % m → k ≡ (n * base % m + digit b) % m → k ≡ positional base digit (reverse (ys ++ b ∷ [])) % m
one_below m base digit ys n k b h e =
    let P = positional base digit (reverse ys) in
    let r : positional base digit (reverse (ys ++ b ∷ [])) ≡ digit b + base * P = ap (positional base digit) (reverse-append ys (b ∷ [])) in
    let s : P * base + digit b ≡ digit b + base * P = omega (arith, mul_comm P base) in
    e
    ∙ ap (λ x. (x * base % m + digit b) % m) h
    ∙ ap (λ x. (x + digit b) % m) (mul-mod_first P base m)
    ∙ mod-add-mod (P * base) m (digit b)
    ∙ ap (λ x. x % m) (s ∙ sym r)

-- a number in the DIFEs
pub in_difes : (m base : ℕ) (digit : ℕ → ℕ) (n : ℕ) (bs : List ℕ) → 0 < base → base ^ 10 ≤ m → ((b : ℕ) → digit b < base) → length bs ≤ 10
    → n ≡ positional base digit bs % m → (n ≡ positional base digit bs) × (n < base ^ 10)
in_difes m base digit n bs p q small few e =
    let h = positional_below base digit 1 bs (λ i. let k = small (get_or bs i 0) in omega (arith, k)) in
    let l : positional base digit bs < base ^ 10 = omega (arith, h, pow_most base (length bs) 10 p few) in
    let w : n ≡ positional base digit bs = e ∙ mod-eq_of_lt (omega (arith, l)) in
    (w, omega (arith, w, l))

pub positional_at : (base : ℕ) (f g : ℕ → ℕ) (xs ys : List ℕ) → length xs ≡ length ys → ((i : ℕ) → i < length xs → f (get_or xs i 0) ≡ g (get_or ys i 0)) → positional base f xs ≡ positional base g ys
positional_at base f g [] [] e h = refl
positional_at base f g [] (y ∷ ys) e h = absurd (omega arith)
positional_at base f g (x ∷ xs) [] e h = absurd (omega arith)
positional_at base f g (x ∷ xs) (y ∷ ys) e h =
    omega (arith, h 0 (omega arith), ap (λ n. base * n) (positional_at base f g xs ys (omega arith) (λ i l. h (suc i) (omega (arith, l)))))
