-- What begins with what, and how many meters do.
use Rattle.std.proofs.Common.{◌≡◌, ℕ, zero, suc, ◌+◌, ◌<◌, ◌≤◌, Bool, true, false, cond, ◌&&◌, eqb, List, [], ◌∷◌, length, filter, refl, arith}
use Rattle.std.specs.List.{range_with_len}
use Rattle.std.proofs.lemmas.Bool.{and_parts, and_from, false≢true, eqb-true}
use Rattle.search.specs.Numbers.{begins, longer, digits}
use Rattle.search.specs.Counts.{total}
use Rattle.search.specs.Verdicts.{fitting}
use Rattle.search.proofs.Totals.{total_ext, total_add, total_const}

pub begins_shorter : (p : List ℕ) (d : ℕ) (k : List ℕ) → begins (longer p d) k ≡ true → begins p k ≡ true
begins_shorter [] d k h = refl
begins_shorter (a ∷ p) d [] h = h
begins_shorter (a ∷ p) d (e ∷ k) h =
    let both = and_parts (eqb a e) (begins (longer p d) k) h in
    and_from (eqb a e) (begins p k) both.0 (begins_shorter p d k both.1)

pub kept_by_le : {X : Type 0} (t u : X → Bool) → ((x : X) → t x ≡ true → u x ≡ true) → (xs : List X) → length (filter t xs) ≤ length (filter u xs)
kept_by_le t u e [] = omega arith
kept_by_le {X} t u e (x ∷ xs) = go (kept_by_le t u e xs) (t x) (u x) (e x)
  where
    go : length (filter t xs) ≤ length (filter u xs) → (a b : Bool) → (a ≡ true → b ≡ true) → length (cond a (x ∷ filter t xs) (filter t xs)) ≤ length (cond b (x ∷ filter u xs) (filter u xs))
    go r true true h = omega arith
    go r true false h = absurd (false≢true (h refl))
    go r false true h = omega arith
    go r false false h = r

module _ {M : Type 0} (number : M → List ℕ) (ms : List M) where
  pub fitting_longer : (p : List ℕ) (d : ℕ) → length (fitting number ms (longer p d)) ≤ length (fitting number ms p)
  fitting_longer p d = kept_by_le (λ m. begins (longer p d) (number m)) (λ m. begins p (number m)) (λ m. begins_shorter p d (number m)) ms

pub kept_by_short : {X : Type 0} (t : X → Bool) (xs : List X) → length (filter t xs) ≤ length xs
kept_by_short t [] = omega arith
kept_by_short t (x ∷ xs) = go (kept_by_short t xs) (t x)
  where
    go : length (filter t xs) ≤ length xs → (a : Bool) → length (cond a (x ∷ filter t xs) (filter t xs)) ≤ suc (length xs)
    go r true = omega arith
    go r false = omega arith

pub length_kept_by_cons : {X : Type 0} (t : X → Bool) (x : X) (xs : List X) → length (filter t (x ∷ xs)) ≡ cond (t x) 1 0 + length (filter t xs)
length_kept_by_cons {X} t x xs = go (t x)
  where
    go : (a : Bool) → length (cond a (x ∷ filter t xs) (filter t xs)) ≡ cond a 1 0 + length (filter t xs)
    go true = omega arith
    go false = omega arith

-- where each element passes at most one of the tests, and then passes u, the tests keep no more than u does
pub kept_by_parts : {C X : Type 0} (t : C → X → Bool) (u : X → Bool) (cs : List C) → ((x : X) → total (λ c. cond (t c x) 1 0) cs ≤ cond (u x) 1 0) → (xs : List X) → total (λ c. length (filter (t c) xs)) cs ≤ length (filter u xs)
kept_by_parts t u cs h [] = let z = total_const 0 cs in omega arith
kept_by_parts t u cs h (x ∷ xs) =
    let r = kept_by_parts t u cs h xs in
    let a = total_ext (λ c. length (filter (t c) (x ∷ xs))) (λ c. cond (t c x) 1 0 + length (filter (t c) xs)) (λ c. length_kept_by_cons (t c) x xs) cs in
    let b = total_add (λ c. cond (t c x) 1 0) (λ c. length (filter (t c) xs)) cs in
    let k = length_kept_by_cons u x xs in
    let f = h x in
    omega arith

-- at most one of the numbers from a on is e
unique : (n a e : ℕ) → (total (λ c. cond (eqb c e && true) 1 0) (range_with_len a n) ≤ 1) × (e < a → total (λ c. cond (eqb c e && true) 1 0) (range_with_len a n) ≡ 0)
unique zero a e = (omega arith, λ h. refl)
unique (suc n) a e = go (unique n (a + 1) e) (eqb a e) refl
  where
    later : ℕ
    later = total (λ c. cond (eqb c e && true) 1 0) (range_with_len (a + 1) n)

    go : (later ≤ 1) × (e < a + 1 → later ≡ 0) → (b : Bool) → eqb a e ≡ b → (cond (b && true) 1 0 + later ≤ 1) × (e < a → cond (b && true) 1 0 + later ≡ 0)
    go r true h = let q = eqb-true a e h in let s : later ≡ 0 = r.1 (omega arith) in (omega arith, λ k. omega arith)
    go r false h = (let s = r.0 in omega arith, λ k. let s : later ≡ 0 = r.1 (omega arith) in omega arith)

-- a number goes on from p by at most one digit
one_digit : (p k : List ℕ) → total (λ c. cond (begins (longer p c) k) 1 0) digits ≤ cond (begins p k) 1 0
one_digit [] [] = omega arith
one_digit [] (e ∷ k) = (unique 10 0 e).0
one_digit (a ∷ p) [] = omega arith
one_digit (a ∷ p) (e ∷ k) = go (one_digit p k) (eqb a e)
  where
    go : total (λ c. cond (begins (longer p c) k) 1 0) digits ≤ cond (begins p k) 1 0 → (b : Bool) → total (λ c. cond (b && begins (longer p c) k) 1 0) digits ≤ cond (b && begins p k) 1 0
    go r true = r
    go r false = omega arith

module _ {M : Type 0} (number : M → List ℕ) (ms : List M) where
  pub fitting_parts : (p : List ℕ) → total (λ c. length (fitting number ms (longer p c))) digits ≤ length (fitting number ms p)
  fitting_parts p = kept_by_parts (λ c m. begins (longer p c) (number m)) (λ m. begins p (number m)) digits (λ m. one_digit p (number m)) ms
