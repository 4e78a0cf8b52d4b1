-- Sums over a list and over the numbers below n.
use Rattle.std.proofs.Common.{◌≡◌, ℕ, zero, suc, ◌+◌, ◌*◌, ◌≤◌, Bool, true, false, cond, List, [], ◌∷◌, ◌++◌, length, refl, arith}
use Rattle.std.specs.List.{flat_map}
use Rattle.search.specs.Counts.{total, passing, sum_to}

pub total_ext : {X : Type 0} (f g : X → ℕ) → ((x : X) → f x ≡ g x) → (xs : List X) → total f xs ≡ total g xs
total_ext f g e [] = refl
total_ext f g e (x ∷ xs) = let h = e x in let t = total_ext f g e xs in omega arith

pub total_le : {X : Type 0} (f g : X → ℕ) → ((x : X) → f x ≤ g x) → (xs : List X) → total f xs ≤ total g xs
total_le f g e [] = omega arith
total_le f g e (x ∷ xs) = let h = e x in let t = total_le f g e xs in omega arith

pub total_add : {X : Type 0} (f g : X → ℕ) (xs : List X) → total (λ x. f x + g x) xs ≡ total f xs + total g xs
total_add f g [] = refl
total_add f g (x ∷ xs) = let t = total_add f g xs in omega arith

pub total_scale : {X : Type 0} (k : ℕ) (f : X → ℕ) (xs : List X) → total (λ x. k * f x) xs ≡ k * total f xs
total_scale k f [] = omega arith
total_scale k f (x ∷ xs) = let t = total_scale k f xs in omega arith

pub total_const : {X : Type 0} (c : ℕ) (xs : List X) → total (λ x. c) xs ≡ length xs * c
total_const c [] = omega arith
total_const c (x ∷ xs) = let t = total_const c xs in omega arith

pub total_append : {X : Type 0} (f : X → ℕ) (xs ys : List X) → total f (xs ++ ys) ≡ total f xs + total f ys
total_append f [] ys = omega arith
total_append f (x ∷ xs) ys = let t = total_append f xs ys in omega arith

pub total_joined : {X Y : Type 0} (f : Y → ℕ) (g : X → List Y) (xs : List X) → total f (flat_map g xs) ≡ total (λ x. total f (g x)) xs
total_joined f g [] = refl
total_joined f g (x ∷ xs) = let t = total_joined f g xs in let a = total_append f (g x) (flat_map g xs) in omega arith

pub sumTo_ext : (n : ℕ) (f g : ℕ → ℕ) → ((l : ℕ) → f l ≡ g l) → sum_to n f ≡ sum_to n g
sumTo_ext zero f g e = refl
sumTo_ext (suc n) f g e = let h = e 0 in let t = sumTo_ext n (λ l. f (suc l)) (λ l. g (suc l)) (λ l. e (suc l)) in omega arith

pub sumTo_le : (n : ℕ) (f g : ℕ → ℕ) → ((l : ℕ) → f l ≤ g l) → sum_to n f ≤ sum_to n g
sumTo_le zero f g e = omega arith
sumTo_le (suc n) f g e = let h = e 0 in let t = sumTo_le n (λ l. f (suc l)) (λ l. g (suc l)) (λ l. e (suc l)) in omega arith

pub sumTo_total : {X : Type 0} (n : ℕ) (f : ℕ → X → ℕ) (xs : List X) → sum_to n (λ l. total (f l) xs) ≡ total (λ x. sum_to n (λ l. f l x)) xs
sumTo_total zero f xs = let t = total_const 0 xs in omega arith
sumTo_total (suc n) f xs =
    let t = sumTo_total n (λ l. f (suc l)) xs in
    let a = total_add (f 0) (λ x. sum_to n (λ l. f (suc l) x)) xs in
    omega arith

pub passing_le : {X : Type 0} (t : X → Bool) (xs : List X) → passing t xs ≤ length xs
passing_le t [] = omega arith
passing_le t (x ∷ xs) = go (passing_le t xs) (t x)
  where
    go : passing t xs ≤ length xs → (b : Bool) → cond b 1 0 + passing t xs ≤ suc (length xs)
    go r true = omega arith
    go r false = omega arith

pub sumTo_const : (n c : ℕ) → sum_to n (λ l. c) ≡ n * c
sumTo_const zero c = omega arith
sumTo_const (suc n) c = let t = sumTo_const n c in omega arith
